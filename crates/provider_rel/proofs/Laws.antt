-- What follows from the definitions of a relation, for those who load modules by it.
use Rattle.std.proofs.Common.{◌≡◌, ℕ, Bool, true, false, cond, ◌&&◌, not, List, [], ◌∷◌, ◌++◌, map}
use Rattle.std.proofs.Common.{All, Option, Some, None, refl, sym, ap, subst, ◌∙◌}
use Rattle.std.specs.List.{list_any, filter, flat_map}
use Rattle.std.specs.Str.{bytes_eq}
use Rattle.std.proofs.lemmas.Bool.{false≢true, true≢false, or_parts}
use Rattle.std.proofs.lemmas.List.Folds.{list_any-append}
use Rattle.std.proofs.lemmas.List.Elements.{All-nil, All-cons}
use Rattle.std.proofs.lemmas.Slice.Eq.{bytes_eq-Decides}
use Rattle.relation_order.specs.Sets.{Relation, has, below}
use Rattle.relation_order.specs.Reached.{reached}
use Rattle.relation_order.specs.Closures.{closure}
use Rattle.relation_order.specs.Cycle.{cycle}
use Rattle.relation_order.specs.Answer.{After}
use Rattle.relation_order.proofs.Complete.{acyclic-from_empty}
use Rattle.relation_order.proofs.LeastLaws.{least-members, least-after}
use Rattle.symbol_binding.specs.Symbols.{Export, Need, Face, Module, Kernel}
use Rattle.symbol_binding.specs.Provider.{Provided, export_under, of_kernel, of_first, of_unknown}
use Rattle.symbol_binding.specs.Provider.{module_exports, provider}
use Rattle.symbol_binding.specs.declared.unbound.Unbound.{Unbound}
use Rattle.symbol_binding.specs.declared.unbound.Unbound.TheVariants.{Missing, Gpl, Version}
use Rattle.symbol_binding.specs.declared.unbound.Unbound.TheVariants.{Namespace}
use Rattle.symbol_binding.specs.Unmet.{lines, lines_of, provider_path, doubles, unmet, belongs}
use Rattle.symbol_binding.specs.Needs.{NeedTest, agree, sees, may_use, is_missing, is_hidden}
use Rattle.symbol_binding.specs.Needs.{is_other_version, is_barred}
use Rattle.km_names.specs.First.{first}

-- where the kernel exports a name, it provides it
pub kernel-provides : (tree : List Module) (kernel : Kernel) (x : List ℕ) (p : Provided Module)
    → of_kernel kernel x ≡ Some p → provider tree kernel x ≡ Some p
kernel-provides tree kernel x p is =
    ap (λ o. first (o ∷ of_first module_exports tree x ∷ of_unknown kernel x ∷ [])) is

-- where it doesn't, the first module that does provides it
pub module-provides : (tree : List Module) (kernel : Kernel) (x : List ℕ) (p : Provided Module)
    → of_kernel {M = Module} kernel x ≡ None → of_first module_exports tree x ≡ Some p
    → provider tree kernel x ≡ Some p
module-provides tree kernel x p none is =
    ap (λ o. first (o ∷ of_first module_exports tree x ∷ of_unknown kernel x ∷ [])) none
    ∙ ap (λ o. first (o ∷ of_unknown kernel x ∷ [])) is

same-or : (b : Bool) → b ≡ true → (b ≡ false → ⊥)
same-or b holds fails = false≢true (sym fails ∙ holds)

-- a module isn't in its own closure where there is no cycle
pub not-own : (r : Relation) (n x : ℕ) → cycle r (below n) ≡ [] → has (below n) x ≡ true
    → has (closure r (below n) x) x ≡ true → ⊥
not-own r n x none member own =
    same-or (has (reached r (below n) x) x) (least-members r (reached r (below n) x) x own)
    (acyclic-from_empty r (below n) none x member)

-- the members of a closure stand after those that they go to
pub closure-after : (r : Relation) (n x : ℕ)
    → After r (reached r (below n) x) (closure r (below n) x)
closure-after r n x = least-after r (reached r (below n) x)

passes : (a b : Bool) → (a && not b) ≡ false → a ≡ true → b ≡ true
passes true true is holds = refl
passes true false is holds = absurd (true≢false is)
passes false b is holds = absurd (false≢true holds)

-- what a need of which no line is written has under its name
pub record IsMet (found : Option Export) (m : Face) (n : Need) (e : Export) : Type 0 where
  pub provided : found ≡ Some e
  pub seen : sees m e ≡ true
  pub agreed : agree n.crc e.crc ≡ true
  pub allowed : may_use m e ≡ true

-- a strong need that no test finds is met
pub clear-need : (found : Option Export) (m : Face) (n : Need) → n.weak ≡ false
    → is_missing found m n ≡ false → is_hidden found m n ≡ false
    → is_other_version found m n ≡ false → is_barred found m n ≡ false
    → (e : Export) × IsMet found m n e
clear-need None m n strong missing hidden version barred =
    absurd (true≢false (ap (λ b. not b && true) (sym strong) ∙ missing))
clear-need (Some e) m n strong missing hidden version barred =
    let seen : sees m e ≡ true
    = passes true (sees m e) (ap (λ b. not b && not (sees m e)) (sym strong) ∙ hidden) refl in (
      e,
      record {
        provided = refl;
        seen = seen;
        agreed = passes (sees m e) (agree n.crc e.crc) version seen;
        allowed = passes (sees m e) (may_use m e) barred seen;
      },
    )

-- No test finds a need of the module at fault, by what provides its name.
pub record IsClear (tree : List Module) (kernel : Kernel) (m : Module) : Type 0 where
  pub missing : All
      (λ (n : Need). is_missing (export_under (provider tree kernel n.name)) m.face n ≡ false)
      m.face.needs
  pub hidden : All
      (λ (n : Need). is_hidden (export_under (provider tree kernel n.name)) m.face n ≡ false)
      m.face.needs
  pub other_version : All
      (λ (n : Need). is_other_version (export_under (provider tree kernel n.name)) m.face n ≡ false)
      m.face.needs
  pub barred : All
      (λ (n : Need). is_barred (export_under (provider tree kernel n.name)) m.face n ≡ false)
      m.face.needs

any-parts : {X : Type 0} (p : X → Bool) (xs ys : List X) → list_any p (xs ++ ys) ≡ false
    → (list_any p xs ≡ false) × (list_any p ys ≡ false)
any-parts p xs ys none =
    or_parts (list_any p xs) (list_any p ys) (sym (list_any-append p xs ys) ∙ none)

part-of : {X Y : Type 0} (f : X → List Y) (p : Y → Bool) (front : List X) (x : X) (back : List X)
    → list_any p (flat_map f (front ++ x ∷ back)) ≡ false → list_any p (f x) ≡ false
part-of f p [] x back none = (any-parts p (f x) (flat_map f back) none).0
part-of f p (y ∷ front) x back none =
    part-of f p front x back (any-parts p (f y) (flat_map f (front ++ x ∷ back)) none).1

none-fails : {Y : Type 0} (fails : Need → Bool) (say : Need → Y) (p : Y → Bool)
    → ((n : Need) → p (say n) ≡ true) → (needs : List Need)
    → list_any p (map say (filter fails needs)) ≡ false → All (λ n. fails n ≡ false) needs
none-fails fails say p its [] none = All-nil (λ n. fails n ≡ false)
none-fails fails say p its (n ∷ needs) none =
    go (fails n) refl none (none-fails fails say p its needs)
  where
    go : (b : Bool) → fails n ≡ b
        → list_any p (map say (cond b (n ∷ filter fails needs) (filter fails needs))) ≡ false
        → (list_any p (map say (filter fails needs)) ≡ false → All (λ n. fails n ≡ false) needs)
        → All (λ n. fails n ≡ false) (n ∷ needs)
    go true is none rest
        = absurd (true≢false
        (sym (its n)
        ∙ (or_parts (p (say n)) (list_any p (map say (filter fails needs))) none).0))
    go false is none rest = All-cons (λ n. fails n ≡ false) n needs is (rest none)

lines-clear : (test : NeedTest) (line : List ℕ → List ℕ → List ℕ → Unbound) (tree : List Module)
    (kernel : Kernel) (m : Module) (front back : List Module)
    → ((x by : List ℕ) → belongs m.path (line m.path x by) ≡ true) → tree ≡ front ++ m ∷ back
    → list_any (belongs m.path) (lines test line tree kernel) ≡ false
    → All (λ (n : Need). test (export_under (provider tree kernel n.name)) m.face n ≡ false)
    m.face.needs
lines-clear test line tree kernel m front back its is none =
    none-fails (λ n. test (export_under (provider tree kernel n.name)) m.face n)
    (λ n. line m.path n.name (provider_path (provider tree kernel n.name))) (belongs m.path)
    (λ n. its n.name (provider_path (provider tree kernel n.name))) m.face.needs
    (part-of (lines_of test line tree kernel) (belongs m.path) front m back
    (subst (λ ms. list_any (belongs m.path) (flat_map (lines_of test line tree kernel) ms)
    ≡ false) is none))

-- Where no line of modules.unmet is on a need of a module of the tree, none of its needs is at
-- fault: so each strong one is met by what provides it.
pub unmet-clear : (tree : List Module) (kernel : Kernel) (m : Module) (front back : List Module)
    → tree ≡ front ++ m ∷ back → list_any (belongs m.path) (unmet tree kernel) ≡ false
    → IsClear tree kernel m
unfolding unmet
unmet-clear tree kernel m front back is none =
    let p = belongs m.path in
    let mine : bytes_eq m.path m.path ≡ true = (bytes_eq-Decides m.path m.path).1 refl in
    let one = lines is_missing (λ m x by. Missing m x) tree kernel in
    let two = lines is_hidden Gpl tree kernel in
    let three = lines is_other_version Version tree kernel in
    let four = lines is_barred Namespace tree kernel in
    let h4 = any-parts p (one ++ two ++ three ++ four) (doubles kernel tree) none in
    let h3 = any-parts p (one ++ two ++ three) four h4.0 in
    let h2 = any-parts p (one ++ two) three h3.0 in
    let h1 = any-parts p one two h2.0 in
    record {
      missing
          = lines-clear is_missing (λ m x by. Missing m x) tree kernel m front back (λ x by. mine)
          is h1.0;
      hidden = lines-clear is_hidden Gpl tree kernel m front back (λ x by. mine) is h1.1;
      other_version
          = lines-clear is_other_version Version tree kernel m front back (λ x by. mine) is h2.1;
      barred = lines-clear is_barred Namespace tree kernel m front back (λ x by. mine) is h3.1;
    }
