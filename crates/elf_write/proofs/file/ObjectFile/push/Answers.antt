use Rattle.std.proofs.Common.{◌++◌, length, ap, ◌∙◌, arith}
use Rattle.elf_write.proofs.FileLemmas.{put-content, put-header, put-name}
use Rattle.elf_write.proofs.file.ObjectFile.push.Goals as goal

pub returns-clause-file : goal.returns-clause-file
returns-clause-file c = λ l count named is.
    let p = c.args.part.now in
    let content = ap length c.as_bytes-content.ensures in
    record {
      bytes
          = put-content l p count named c.args.self.now.bytes.items c.fill_up.new.file.items
          c.extend_from_slice.new.self.items is.bytes c.in_ok-fill_up.ensures
          (c.in_ok-extend_from_slice.ensures.items
          ∙ ap (λ r. c.fill_up.new.file.items ++ r) c.as_bytes-content.ensures);
      headers
          = put-header l p count named c.args.self.now.bytes.items c.fill_up.new.file.items
          c.extend_from_slice.new.self.items is.bytes c.in_ok-fill_up.ensures
          c.args.self.now.headers.items c.push_section_header.new.out.items c.len-place.result
          c.args.self.now.names _ is.headers is.names (omega (arith, c.len-place.ensures))
          content c.in_ok-push_section_header.ensures;
      names = put-name l p c.args.self.now.names c.len.result is.names c.len.ensures;
    }
