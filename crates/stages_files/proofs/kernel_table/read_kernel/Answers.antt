use Rattle.stages_files.proofs.TableSteps.{by_map, by_symvers, by_neither}
use Rattle.stages_files.proofs.kernel_table.read_kernel.Goals as goal

pub returns-in-Some : goal.returns-in-Some
returns-in-Some g c = λ out err.
    by_map _ _ _ _ _ _ c.in-Some.is (c.read_map.ensures out err)

pub returns-in-Some-symvers : goal.returns-in-Some-symvers
returns-in-Some-symvers g c = λ out err.
    by_symvers _ _ _ _ _ _ c.in-None.is c.in-Some-symvers.is (c.read_symvers.ensures out err)

pub returns-in-None-symvers : goal.returns-in-None-symvers
returns-in-None-symvers g c = λ out err.
    by_neither _ _ _ _ c.in-None.is c.in-None-symvers.is c.unknown.ensures.known
    c.unknown.ensures.exports
