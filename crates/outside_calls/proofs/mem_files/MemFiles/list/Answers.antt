use Rattle.std.proofs.Common.{◌≡◌, false, length, min, Ok, Err, inl, sym, ap, ◌∙◌, arith}
use Rattle.std.proofs.lemmas.Bool.{eqb-true, false_from_ne_true}
use Rattle.outside_calls.specs.CallsSeen.{next_fails}
use Rattle.outside_calls.specs.Counts.{count_end}
use Rattle.outside_calls.specs.Listing.{kind_of, test_of, listed_of}
use Rattle.outside_calls.specs.MemFilesSeen.{MemFilesSeen, calls_of, kind_fails}
use Rattle.outside_calls.specs.declared.files.FileAnswer.TheVariants.{TooLarge}
use Rattle.outside_calls.proofs.MemLists.{paths_of, mem_list_is, found_none, found_many, found_some}
use Rattle.outside_calls.proofs.mem_files.MemFiles.list.Goals as goal

pub returns-then-count_listed-eq0-clause-exact : goal.returns-then-count_listed-eq0-clause-exact
returns-then-count_listed-eq0-clause-exact g c =
    let prefix = c.as_bytes-prefix.ensures ∙ c.in_ok-folder.ensures in
    let fails : kind_fails c.args.self.now (kind_of c.args.listing) ≡ false =
    ap (λ (f : MemFilesSeen). kind_fails f (kind_of c.args.listing)) (sym c.self.view_is)
    ∙ ap (λ k. next_fails (calls_of c.self.inside.kinds k)) (sym c.kind.ensures)
    ∙ sym c.make-2.ensures.fails ∙ c.if-make.false in
    inl (ap Err c.refuse-then-count_listed-eq0.ensures.same
    ∙ found_none (listed_of (test_of c.args.listing) c.as_bytes-prefix.result.now
    (paths_of c.self.inside.files.entries)) _
    (sym c.count_listed.ensures.count ∙ c.if-count_listed-eq0.true)
    ∙ mem_list_is c.args.self.now c.args.listing c.args.dir.now c.as_bytes-prefix.result.now
    c.self.inside.files.entries (ap (λ (f : MemFilesSeen). f.contents) c.self.view_is) fails
    prefix c.count_listed.ensures.rising)

pub returns-then-count-gt-LIST_LIMIT-clause-exact :
    goal.returns-then-count-gt-LIST_LIMIT-clause-exact
returns-then-count-gt-LIST_LIMIT-clause-exact g c =
    let prefix = c.as_bytes-prefix.ensures ∙ c.in_ok-folder.ensures in
    let fails : kind_fails c.args.self.now (kind_of c.args.listing) ≡ false =
    ap (λ (f : MemFilesSeen). kind_fails f (kind_of c.args.listing)) (sym c.self.view_is)
    ∙ ap (λ k. next_fails (calls_of c.self.inside.kinds k)) (sym c.kind.ensures)
    ∙ sym c.make-2.ensures.fails ∙ c.if-make.false in
    let names
    = listed_of (test_of c.args.listing) c.as_bytes-prefix.result.now
    (paths_of c.self.inside.files.entries) in
    let count : c.count_listed-count.result ≡ length names = c.count_listed-count.ensures.count in
    let length_is : c.count_listed-count.result ≡ min (length names) count_end
    = omega (arith, count, c.count_listed-count.type_inv) in
    inl (ap Err (c.refuse-then-count-gt-LIST_LIMIT.ensures.same ∙ ap TooLarge length_is)
    ∙ found_many names _
    (false_from_ne_true _
    (λ t. c.if-count_listed-eq0.false (c.count_listed.ensures.count ∙ eqb-true _ _ t)))
    (omega (arith, count, c.if-count-gt-LIST_LIMIT.true))
    ∙ mem_list_is c.args.self.now c.args.listing c.args.dir.now c.as_bytes-prefix.result.now
    c.self.inside.files.entries (ap (λ (f : MemFilesSeen). f.contents) c.self.view_is) fails
    prefix c.count_listed.ensures.rising)

pub returns-clause-exact : goal.returns-clause-exact
returns-clause-exact g c =
    let prefix = c.as_bytes-prefix.ensures ∙ c.in_ok-folder.ensures in
    let fails : kind_fails c.args.self.now (kind_of c.args.listing) ≡ false =
    ap (λ (f : MemFilesSeen). kind_fails f (kind_of c.args.listing)) (sym c.self.view_is)
    ∙ ap (λ k. next_fails (calls_of c.self.inside.kinds k)) (sym c.kind.ensures)
    ∙ sym c.make-2.ensures.fails ∙ c.if-make.false in
    let names
    = listed_of (test_of c.args.listing) c.as_bytes-prefix.result.now
    (paths_of c.self.inside.files.entries) in
    inl (ap Ok c.in_ok-collect_listed.ensures
    ∙ found_some names _
    (false_from_ne_true _
    (λ t. c.if-count_listed-eq0.false
    (c.count_listed.ensures.count ∙ eqb-true _ _ t)))
    (omega (arith, c.count_listed-count.ensures.count, c.if-count-gt-LIST_LIMIT.false))
    ∙ mem_list_is c.args.self.now c.args.listing c.args.dir.now c.as_bytes-prefix.result.now
    c.self.inside.files.entries (ap (λ (f : MemFilesSeen). f.contents) c.self.view_is)
    fails prefix c.count_listed.ensures.rising)
