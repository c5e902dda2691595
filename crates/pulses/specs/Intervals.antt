-- Intervals between edges: which may be a calibration pulse, and how many ticks one has.
use Rattle.std.specs.Prelude.{ℕ, ◌+◌, ◌-◌, ◌*◌, ◌/◌, Bool, ◌&&◌, ◌||◌, nat_le, nat_lt}
use Rattle.model.specs.declared.settings.Settings.{Settings}

-- d is from 80 to 120 percent of the nominal calibration interval k
abbrev pub about : ℕ → ℕ → Bool
about k d = nat_le (4 * k) (5 * d) && nat_le (5 * d) (6 * k)

-- d may be a calibration interval
unfoldable pub window : Settings → ℕ → Bool
window s d = about s.calibration d

-- d in parts of which c has 56, to the nearest, the fraction being dropped only at the end
abbrev pub parts : ℕ → ℕ → ℕ
parts c d = (112 * d + c) / (2 * c)

-- the ticks of an interval d under the calibration interval c, which has 56
unfoldable pub ticks : ℕ → ℕ → ℕ
ticks c d = parts c d

-- no interval can be taken from the last edge, at the time w, to one at the time t: it is not later, or too long after it
abbrev pub apart : ℕ → ℕ → Bool
apart w t = nat_le t w || nat_lt 16777215 (t - w)
