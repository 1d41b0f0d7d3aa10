use Rattle.std.proofs.Common.{◌≡◌, ◌+◌, ◌++◌, ◌∷◌, [], ℕ, Bor, List, sym, ap, ◌∙◌, subst, take}
use Rattle.std.proofs.Common.{append_assoc, append-nil, arith}
use Rattle.std.proofs.lemmas.List.{map-append, take_all, take_more}
use Rattle.std.proofs.lemmas.Result.{err_from_is_err_and}
use Rattle.plan_sources.specs.Planner.{sources_of}
use Rattle.plan_sources.specs.Kept.{texts}
use Rattle.plan_sources.specs.Softdeps.{IsSoftTable}
use Rattle.plan_sources.proofs.softdeps.add_names.Goals as goal

pub loop-name-init : goal.loop-name-init
loop-name-init c =
    let s = sources_of c.args.planner.now in
    record {
      known = c.requires;
      lists = λ names is.
          subst (λ ns. IsSoftTable s ns c.reserve.new.self.entries) (sym (append-nil names))
          (subst (IsSoftTable s names) (sym c.in_ok-reserve.ensures.entries) is);
    }

pub loop-name-preserved : goal.loop-name-preserved
loop-name-preserved c =
    let s = sources_of c.args.planner.now in
    let items = c.args.more.now in
    let i = c.loop-name.name-index in
    let name = c.name-item.result.now in
    let more : texts (take i c.args.more.now) ++ c.name-item.result.now ∷ []
    ≡ texts (take (i + 1) c.args.more.now)
    =
    sym (map-append (λ (n : Bor (List ℕ)). n.now) (take i items) (c.name-item.result ∷ []))
    ∙ ap texts (ap (λ n. take i items ++ n ∷ []) c.name-item.is
    ∙ sym (take_more items i c.name-item.result c.loop-name-test.true)) in
    record {
      known = c.in_ok-add_name.ensures.known;
      lists = λ names is.
          subst (λ ns. IsSoftTable s ns c.add_name.new.lists.entries)
          (append_assoc names (texts (take i c.args.more.now)) (name ∷ [])
          ∙ ap (λ ns. names ++ ns) more)
          (c.in_ok-add_name.ensures.lists (names ++ texts (take i c.args.more.now))
          (c.loop-name.invariant.lists names is));
    }

pub returns-clause-lists : goal.returns-clause-lists
returns-clause-lists c = λ names is.
    let s = sources_of c.args.planner.now in
    subst (λ ns. IsSoftTable s ns c.loop-name.lists.entries)
    (ap (λ ns. names ++ texts ns)
    (take_all c.loop-name.name-index c.args.more.now (omega (arith, c.loop-name-test.false))))
    (c.loop-name.invariant.lists names is)

-- the lists at a name that isn't added are those before it
pub returns-in_err-add_name-clause-some : goal.returns-in_err-add_name-clause-some
returns-in_err-add_name-clause-some c =
    let s = sources_of c.args.planner.now in
    let p = err_from_is_err_and c.from_residual-in_err-add_name.result
    c.from_residual-in_err-add_name.ensures.1 in
    rw p.1 (λ had. (
      had.0 ++ texts (take c.loop-name.name-index c.args.more.now),
      subst (IsSoftTable s (had.0 ++ texts (take c.loop-name.name-index c.args.more.now)))
          (sym c.in_err-add_name.ensures.err) (c.loop-name.invariant.lists had.0 had.1),
    ))
