-- The numbers of settings are never refused.
use Rattle.std.proofs.Common.{◌≡◌, None, arith}
use Rattle.std.proofs.lemmas.Bool.Decides.{nat_tests}
use Rattle.model.specs.declared.settings.Settings.{Settings}
use Rattle.model.specs.Preparing.{refused}

pub settings_accepted : (s : Settings) → refused s.calibration s.nibbles ≡ None
settings_accepted s = grind (arith, nat_tests)
