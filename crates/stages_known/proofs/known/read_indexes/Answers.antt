use Rattle.std.proofs.lemmas.Result.{err_from_is_err_and}
use Rattle.km_course.proofs.Steps.{next, exits, gave}
use Rattle.name_lookup.specs.declared.indexes.Indexes.{Indexes}
use Rattle.stages_known.proofs.KnownSteps.{after_dep, after_alias, after_symbols, after_builtin}
use Rattle.stages_known.proofs.known.read_indexes.Goals as goal

pub returns-in_err-dep : goal.returns-in_err-dep
returns-in_err-dep g c = λ out err.
    let p = err_from_is_err_and c.from_residual.result c.from_residual.ensures.1 in
    exits _ _ (after_dep c.args.folder.now) p.1 p.2 (c.in_err-dep.ensures out err)

pub returns-in_err-alias : goal.returns-in_err-alias
returns-in_err-alias g c = λ out err.
    let p
    = err_from_is_err_and c.from_residual-in_err-alias.result
    c.from_residual-in_err-alias.ensures.1 in
    next (after_dep c.args.folder.now) (c.in_ok-dep.ensures out err)
    (exits _ _ (after_alias c.args.folder.now c.in_ok-dep.dep) p.1 p.2
    (c.in_err-alias.ensures out err))

pub returns-in_err-symbols : goal.returns-in_err-symbols
returns-in_err-symbols g c = λ out err.
    let p
    = err_from_is_err_and c.from_residual-in_err-symbols.result
    c.from_residual-in_err-symbols.ensures.1 in
    next (after_dep c.args.folder.now) (c.in_ok-dep.ensures out err)
    (next (after_alias c.args.folder.now c.in_ok-dep.dep) (c.in_ok-alias.ensures out err)
    (exits _ _ (after_symbols c.args.folder.now c.in_ok-dep.dep c.in_ok-alias.alias) p.1 p.2
    (c.in_err-symbols.ensures out err)))

pub returns-in_err-builtin : goal.returns-in_err-builtin
returns-in_err-builtin g c = λ out err.
    let p
    = err_from_is_err_and c.from_residual-in_err-builtin.result
    c.from_residual-in_err-builtin.ensures.1 in
    next (after_dep c.args.folder.now) (c.in_ok-dep.ensures out err)
    (next (after_alias c.args.folder.now c.in_ok-dep.dep) (c.in_ok-alias.ensures out err)
    (next (after_symbols c.args.folder.now c.in_ok-dep.dep c.in_ok-alias.alias)
    (c.in_ok-symbols.ensures out err)
    (exits _ _ (after_builtin c.in_ok-dep.dep c.in_ok-alias.alias c.in_ok-symbols.symbols) p.1 p.2
    (c.in_err-builtin.ensures out err))))

pub returns : goal.returns
returns g c = λ out err.
    next (after_dep c.args.folder.now) (c.in_ok-dep.ensures out err)
    (next (after_alias c.args.folder.now c.in_ok-dep.dep) (c.in_ok-alias.ensures out err)
    (next (after_symbols c.args.folder.now c.in_ok-dep.dep c.in_ok-alias.alias)
    (c.in_ok-symbols.ensures out err)
    (next (after_builtin c.in_ok-dep.dep c.in_ok-alias.alias c.in_ok-symbols.symbols)
    (c.in_ok-builtin.ensures out err)
    (gave (λ (x : Indexes). x) _
    (record {
      dep = c.in_ok-dep.dep;
      alias = c.in_ok-alias.alias;
      symbols = c.in_ok-symbols.symbols;
      builtin = c.in_ok-builtin.builtin;
    })))))
