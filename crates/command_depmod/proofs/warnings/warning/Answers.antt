use Rattle.command_depmod.proofs.WarningSteps.{version-line}
use Rattle.command_depmod.proofs.warnings.warning.Goals as goal

pub returns-in_ok-text-in-Version : goal.returns-in_ok-text-in-Version
returns-in_ok-text-in-Version c =
    version-line _ _ _ _ _ _ c.in-Version.is c.if-not-versions.false c.in_ok-text-in-Version.ensures
