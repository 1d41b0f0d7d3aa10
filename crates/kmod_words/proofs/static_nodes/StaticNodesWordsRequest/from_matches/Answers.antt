use Rattle.std.proofs.Common.{◌≡◌, codes, Some, sym, ap, ◌∙◌}
use Rattle.std.specs.Str.{bytes_eq}
use Rattle.clap.specs.Words.{found_of, rows_of}
use Rattle.kmod_words.specs.Understood.{is_version}
use Rattle.kmod_words.proofs.NodeRequests.{nodes-asked, both-passed}
use Rattle.kmod_words.proofs.static_nodes.StaticNodesWordsRequest.from_matches.Goals as goal

pub returns : goal.returns
returns c =
    let rows = rows_of (found_of c.args.matches.now) in
    let version : c.in_ok-from_slice.field-0 ≡ c.in-Some.version.now
    = c.in_ok-from_slice.ensures ∙ c.as_bytes.ensures.value in
    nodes-asked rows c.in_ok-bytes_or.field-0 c.in_ok-from_slice.field-0
    c.in-Some-value_of.format.now
    (ap Some version ∙ c.in-Some.ensures)
    c.in-Some-value_of.ensures
    (both-passed (is_version c.in_ok-from_slice.field-0)
    (bytes_eq c.in-Some-value_of.format.now (codes "devname"))
    (sym c.if-not-is_version.false ∙ c.is_version.ensures ∙ ap is_version (sym version))
    (sym c.if-not-is_devname.false ∙ c.is_devname.ensures))
    c.in_ok-bytes_or.ensures
