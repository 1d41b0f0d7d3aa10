use Rattle.std.proofs.Common.{rules, ◌≡◌, ap, ◌∙◌}
use Rattle.std.specs.FinMap.{get}
use Rattle.std.specs.Option.{option_copied}
use Rattle.outside_calls.specs.Entries.{files_of}
use Rattle.outside_calls.specs.MemFilesSeen.{MemFilesSeen}
use Rattle.outside_calls.proofs.Entries.{get-files_of}
use Rattle.outside_calls.proofs.mem_files.MemFiles.get.Goals as goal

pub returns : goal.returns
returns c =
    let found : option_copied c.get.result ≡ get c.args.self.now.contents c.args.path.now =
    c.get.ensures.value ∙ get-files_of _ _
    ∙ ap (get (files_of c.self.inside.files.entries)) c.as_bytes.ensures
    ∙ ap (λ (f : MemFilesSeen). get f.contents c.args.path.now) c.self.view_is in
    search (rules, found)
