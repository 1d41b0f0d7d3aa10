use Rattle.std.proofs.Common.{refl, ap, sym, ◌∙◌, ◌++◌, ◌∷◌, [], cond, Bor, List, ℕ}
use Rattle.std.specs.Map.{lookup}
use Rattle.std.specs.Str.{bytes_eq}
use Rattle.indexmap.proofs.CallerLemmas.{insert_entry-new}
use Rattle.name_lookup.specs.Groups.{group_of, shown_groups}
use Rattle.name_lookup.proofs.GroupLaws.{group-written, group-added}
use Rattle.name_lookup.proofs.groups.push_value.Goals as goal

pub returns-in_ok-push-in-Some : goal.returns-in_ok-push-in-Some
returns-in_ok-push-in-Some g c = λ other.
    ap (λ es. group_of (shown_groups es) other) (c.get_mut.follows.holds c.push.new.self).0
    ∙ group-written c.args.name.now other c.args.value c.in-Some.group.now c.push.new.self
    c.in_ok-push-in-Some.ensures.items c.args.groups.now.entries (sym c.in-Some.ensures.value)

pub returns-in_ok-insert-in-None : goal.returns-in_ok-insert-in-None
returns-in_ok-insert-in-None g c = λ other.
    let before = c.get_mut.follows.lender-at-none in
    let same = c.get_mut.follows.holds-at-none in
    let none
    = ap (λ m. lookup (λ (k : Bor (List ℕ)). bytes_eq c.args.name.now k.now) m.entries) same
    ∙ sym c.in-None.ensures.value in
    ap (λ es. group_of (shown_groups es) other)
    (c.in_ok-insert-in-None.ensures.entries
    ∙ insert_entry-new (λ (x y : Bor (List ℕ)). bytes_eq x.now y.now) before c.args.name
    c.push-in-None.new.self none)
    ∙ group-added c.args.name.now other c.args.value c.args.name c.push-in-None.new.self refl
    (c.in_ok-push-in-None.ensures.items
    ∙ ap (λ items. items ++ c.args.value ∷ []) c.new-group.ensures.items)
    before.entries none
    ∙ ap (λ m. group_of (shown_groups m.entries) other
    ++ cond (bytes_eq c.args.name.now other) (c.args.value ∷ []) []) same
