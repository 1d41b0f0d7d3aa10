use Rattle.std.proofs.Common.{◌∙◌, List, ℕ, ap}
use Rattle.km_names.specs.Path.{underscored}
use Rattle.name_table.specs.NameTable.{place_of}
use Rattle.param_apply.specs.Words.{word_name}
use Rattle.param_apply.proofs.NameLemmas.{number-kept, setting-found}
use Rattle.param_apply.proofs.setting.word_setting.Goals as goal

pub returns : goal.returns
returns c = λ words params is named.
    let word = c.args.word.now in
    setting-found params word c.in_ok-number.number c.setting_at.result c.setting_at.ensures
    (c.in_ok-number.ensures
    ∙ ap (λ (n : List ℕ). place_of c.args.table.now (underscored n))
    c.split_at_byte.ensures.before
    ∙ number-kept c.args.table.now words params (word_name word) is named)
