use Rattle.std.proofs.Common.{◌≡◌, ◌++◌, ◌∷◌, [], ◌∙◌, List, ap, sym, get_or}
use Rattle.std.specs.Global.{Vec}
use Rattle.param_apply.specs.Words.{Setting, setting, word_name}
use Rattle.param_apply.proofs.NameLemmas.{word-named}
use Rattle.param_apply.proofs.WordLemmas.{taken-none, taken-some}
use Rattle.param_apply.proofs.setting.settings_of.Goals.{in-Some+in_ok-push, in_default}
use Rattle.param_apply.proofs.setting.settings_of.Goals as goal

pub loop-word-preserved : goal.loop-word-preserved
loop-word-preserved c = λ params is.
    let words = c.args.words.now in
    let i = c.loop-word.word-index in
    let word = c.word-item.result in
    let here : c.word.inside.text.now ≡ get_or words i word = c.word.view_is ∙ c.word-item.is in
    let stated : c.in_ok-setting.field-0 ≡ setting params (get_or words i word)
    = c.in_ok-setting.ensures words params is
    (word-named words i (word_name c.word.inside.text.now) word c.loop-word-test.true
    (ap word_name here))
    ∙ ap (setting params) here in
    elim c.match-branch-2.branch [
      | in-Some+in_ok-push w ↦
          ap (λ (v : Vec Setting). v.items) w.settings-is ∙ w.in_ok-push.ensures.items
          ∙ ap (λ (xs : List Setting). xs ++ w.in-Some.setting ∷ [])
          (c.loop-word.invariant params is)
          ∙ taken-some (setting params) words i word w.in-Some.setting c.loop-word-test.true
          (sym stated ∙ w.in-Some.is)
      | in_default w ↦
          ap (λ (v : Vec Setting). v.items) w.settings-is ∙ c.loop-word.invariant params is
          ∙ taken-none (setting params) words i word c.loop-word-test.true
          (sym stated ∙ w.in_default.is)
    ]
