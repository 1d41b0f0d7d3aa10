use Rattle.std.proofs.Common.{◌≤◌, length}
use Rattle.km_names.specs.Limit.{file_limit}
use Rattle.km_names.specs.declared.conf.ConfFile.{ConfFile}
use Rattle.test_surface_plans.proofs.ListSteps.{alone}
use Rattle.test_surface_plans.proofs.configuration.one_file.Goals as goal

pub returns : goal.returns
returns g c =
    alone (λ (f : ConfFile). length f.bytes ≤ file_limit) _ _ c.only.ensures c.configuration.ensures
