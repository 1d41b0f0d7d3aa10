use Rattle.std.proofs.Common.{◌≡◌, ap, ◌∙◌}
use Rattle.std.specs.FinMap.{insert}
use Rattle.outside_calls.specs.MemFilesSeen.{with_file}
use Rattle.outside_calls.specs.Entries.{files_of}
use Rattle.outside_calls.proofs.Entries.{files_of-insert}
use Rattle.outside_calls.proofs.mem_files.MemFiles.put.Goals as goal

pub returns-clause-ok : goal.returns-clause-ok
returns-clause-ok c =
    let path : c.in_ok-path.path.items ≡ c.args.path.now
    = c.in_ok-path.ensures.items ∙ c.as_bytes.ensures in
    let bytes : c.in_ok-bytes.bytes ≡ c.args.bytes.now = c.in_ok-bytes.ensures in
    let contents : files_of c.insert.new.self.entries
    ≡ insert (files_of c.self.inside.files.entries) c.args.path.now c.args.bytes.now
    =
    ap files_of c.in_ok-insert.ensures.entries ∙ files_of-insert _ _ _
    ∙ ap (λ p. insert (files_of c.self.inside.files.entries) p c.in_ok-bytes.bytes) path
    ∙ ap (λ b. insert (files_of c.self.inside.files.entries) c.args.path.now b) bytes in
    ap (λ m. record {
      contents = m;
      kinds = c.self.inside.kinds;
      calls = c.self.inside.counts.calls;
      counts = c.self.inside.counts.counts;
    }) contents
    ∙ ap (λ f. with_file f c.args.path.now c.args.bytes.now) c.self.view_is
