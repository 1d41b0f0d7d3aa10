use Rattle.std.proofs.Common.{◌≡◌, Option, Some, None, refl, ap, ◌∙◌, codes}
use Rattle.std.specs.Option.{option_to_list}
use Rattle.clap.specs.Words.{Text, found_of, rows_of}
use Rattle.kmod_words.specs.Modinfo.{keys_asked, single}
use Rattle.kmod_words.specs.Understood.{value_of}
use Rattle.kmod_words.proofs.modinfo.key_asked.Goals as goal

-- the key of an option is the only one so far
one-field : (field : Option Text) → Some field ≡ single (option_to_list field)
one-field None = refl
one-field (Some key) = refl

pub returns : goal.returns
unfolding keys_asked
returns c =
    let field = value_of (codes "field") (rows_of (found_of c.args.matches.now)) in
    c.with_flag.ensures _ (c.with_flag-parameters.ensures _ (c.with_flag-license.ensures _
    (c.with_flag-description.ensures _ (c.with_flag-author.ensures (option_to_list field)
    (ap Some c.value_of.ensures ∙ one-field field)))))
