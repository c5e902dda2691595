-- The numbers of refusals.
use Rattle.std.specs.Prelude.{ℕ}
use Rattle.pulses.specs.declared.outcome.StepRefusal.{StepRefusal}
use Rattle.pulses.specs.declared.outcome.StepRefusal.TheVariants.{Late}

abbrev pub refusal_number : StepRefusal → ℕ
refusal_number Late = 6
