use Rattle.std.proofs.Common.{◌≡◌, ◌<◌, ◌∙◌, inl, inr, sym, ap, subst, arith, length, take}
use Rattle.std.proofs.lemmas.List.{take_all}
use Rattle.std.proofs.lemmas.Result.{err_from_is_err_and}
use Rattle.param_apply.specs.Naming.{parameters_of}
use Rattle.param_apply.specs.Words.{Setting}
use Rattle.param_apply.specs.Writing.{AreClaims}
use Rattle.param_apply.proofs.WrittenLemmas.{count-named, item-read, words-failed, words-passed}
use Rattle.param_apply.proofs.WrittenLemmas.{written-more, written-none}
use Rattle.param_apply.proofs.written.written.Goals as goal

pub loop-setting-init : goal.loop-setting-init
loop-setting-init c =
    let long = c.in_ok-taken.ensures.length in
    written-none c.args.image.now c.in_ok-copy.copy c.in_ok-claims.claims c.args.object.now
    (parameters_of c.args.params.now) c.args.settings.now
    (c.in_ok-claims.ensures.claims c.args.object.now (parameters_of c.args.params.now)
    (sym c.count.ensures.count)
    (λ x less. c.in_ok-taken.ensures.reserved x (omega arith)))
    (ap length c.in_ok-claims.ensures.taken ∙ long) c.in_ok-copy.ensures

pub write-requires-clause-number : goal.write-requires-clause-number
write-requires-clause-number c =
    subst (λ (s : Setting). s.number < length (parameters_of c.args.params.now))
    (sym c.setting-item.is)
    (c.requires.numbers c.loop-setting.setting-index c.setting-item.result c.loop-setting-test.true)

pub loop-setting-preserved : goal.loop-setting-preserved
loop-setting-preserved c =
    let ss = c.args.settings.now in
    let i = c.loop-setting.setting-index in
    let s = c.setting-item.result in
    let o = c.args.object.now in
    let was = c.loop-setting.invariant in
    written-more c.args.image.now c.loop-setting.copy c.write.new.image c.loop-setting.claims
    c.write.new.claims o (parameters_of c.args.params.now) ss i s was
    (item-read ss i s c.loop-setting-test.true c.setting-item.is)
    (c.in_ok-write.ensures.claims o (take i ss) was.claims) c.in_ok-write.ensures.same
    c.in_ok-write.ensures.bytes c.in_ok-write.ensures.inside
    (c.in_ok-write.ensures.passed o (take i ss) was.claims)

pub returns-in_err-write-clause-fault : goal.returns-in_err-write-clause-fault
returns-in_err-write-clause-fault c =
    let ss = c.args.settings.now in
    let i = c.loop-setting.setting-index in
    let s = c.setting-item.result in
    let o = c.args.object.now in
    let was = c.loop-setting.invariant in
    let p
    = err_from_is_err_and c.from_residual-in_err-write.result
    c.from_residual-in_err-write.ensures.1 in
    rw (p.1, p.2)
    (elim c.in_err-write.ensures.fault [
      | inl memory ↦ inl memory
      | inr failed ↦ inr
          (words-failed c.args.image.now c.loop-setting.copy c.loop-setting.claims o
          (parameters_of c.args.params.now) ss i s _ was
          (item-read ss i s c.loop-setting-test.true c.setting-item.is)
          (failed o (take i ss) was.claims))
    ])

pub returns-clause-count : goal.returns-clause-count
returns-clause-count c =
    let ss = c.args.settings.now in
    let params = parameters_of c.args.params.now in
    let all : take c.loop-setting.setting-index ss ≡ ss
    = take_all c.loop-setting.setting-index ss (omega arith) in
    c.count-2.ensures
    ∙ count-named c.loop-setting.claims c.args.object.now params ss
    (subst (AreClaims c.loop-setting.claims c.args.object.now params) all
    c.loop-setting.invariant.claims)

pub returns-clause-passed : goal.returns-clause-passed
returns-clause-passed c =
    words-passed c.args.image.now c.loop-setting.copy c.loop-setting.claims c.args.object.now
    (parameters_of c.args.params.now) c.args.settings.now c.loop-setting.setting-index
    c.loop-setting.invariant
    (omega arith)
