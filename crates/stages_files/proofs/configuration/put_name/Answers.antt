use Rattle.stages_files.proofs.ConfigurationSteps.{name-put}
use Rattle.stages_files.proofs.configuration.put_name.Goals as goal

pub returns : goal.returns
returns c = λ files before.
    name-put c.args.folder.now c.args.name.now c.in_ok-path.path c.in_ok-from_slice.field-0
    c.args.found.now.entries c.insert.new.self.entries files c.in_ok-insert.ensures.entries
    c.in_ok-from_slice.ensures.items c.in_ok-path.ensures before
