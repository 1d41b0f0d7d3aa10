use Rattle.unmet_file.proofs.WrittenSteps.{all-back, as-written}
use Rattle.unmet_file.proofs.laws.lines_are_read_back.Goals as goal

pub returns-clause-read_back : goal.returns-clause-read_back
returns-clause-read_back c = all-back

pub returns-clause-as_written : goal.returns-clause-as_written
returns-clause-as_written c = as-written
