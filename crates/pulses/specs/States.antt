-- The decoder's stored state: what it means, and the parts that its invariant speaks of.
use Rattle.std.specs.Prelude.{ℕ, Bool, true, List, take}
use Rattle.model.specs.declared.settings.Settings.{Settings}
use Rattle.pulses.specs.declared.partial.Partial.{Partial}
use Rattle.pulses.specs.declared.state.State.{State}
use Rattle.pulses.specs.declared.state.State.TheVariants.{Lost, Hunting, Expecting, Inside}
use Rattle.pulses.specs.Intervals.{window}
use Rattle.pulses.specs.Steps.{PulseState, lost, hunting, expecting, inside}

-- the nibbles that were taken: of the seven places, those in use
abbrev pub taken : Partial → List ℕ
taken f = take f.count f.kept

-- the state that is meant
abbrev pub meaning : State → PulseState
meaning Lost = lost
meaning (Hunting l) = hunting l.place l.time
meaning (Expecting l) = expecting l.place l.time
meaning (Inside l f) = inside l.place l.time f.start f.calibration (taken f)

-- the calibration interval passes the window, where there is one
abbrev pub calibrated : Settings → State → Bool
calibrated s Lost = true
calibrated s (Hunting l) = true
calibrated s (Expecting l) = true
calibrated s (Inside l f) = window s f.calibration

-- how many nibbles are kept
abbrev pub count_of : State → ℕ
count_of Lost = 0
count_of (Hunting l) = 0
count_of (Expecting l) = 0
count_of (Inside l f) = f.count
