use Rattle.std.proofs.Common.{◌≡◌, Some, sym, ap, ◌∙◌}
use Rattle.clap.specs.Words.{found_of, rows_of}
use Rattle.kmod_words.specs.Understood.{is_version}
use Rattle.kmod_words.proofs.NodeRequests.{alias-asked}
use Rattle.kmod_words.proofs.builtin_alias.BuiltinAliasWordsRequest.from_matches.Goals as goal

pub returns : goal.returns
returns c =
    let rows = rows_of (found_of c.args.matches.now) in
    let version : c.in_ok-from_slice.field-0 ≡ c.in-Some.version.now
    = c.in_ok-from_slice.ensures ∙ c.as_bytes.ensures.value in
    let name : c.in_ok-from_slice-2.field-0 ≡ c.in-Some-value_of.name.now
    = c.in_ok-from_slice-2.ensures ∙ c.as_bytes-2.ensures.value in
    alias-asked rows c.in_ok-bytes_or.field-0 c.in_ok-from_slice.field-0
    c.in_ok-from_slice-2.field-0
    (ap Some version ∙ c.in-Some.ensures)
    (ap Some name ∙ c.in-Some-value_of.ensures)
    (sym c.if-not-is_version.false ∙ c.is_version.ensures ∙ ap is_version (sym version))
    c.in_ok-bytes_or.ensures
