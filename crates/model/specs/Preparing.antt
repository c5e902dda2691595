-- Which numbers a channel can be set up with.
use Rattle.std.specs.Prelude.{ℕ, cond, ◌||◌, Some, None, Option, nat_lt}
use Rattle.model.specs.declared.settings.SettingsRefusal.{SettingsRefusal}
use Rattle.model.specs.declared.settings.SettingsRefusal.TheVariants.{Calibration, Nibbles}

-- the number of a refusal
abbrev pub refusal_number : SettingsRefusal → ℕ
refusal_number Calibration = 4
refusal_number Nibbles = 5

-- why a nominal calibration pulse of k counts and n data nibbles are no settings, if they are none;
-- the calibration pulse is tested first
abbrev pub refused : ℕ → ℕ → Option SettingsRefusal
refused k n =
    cond (nat_lt k 560 || nat_lt 4000000 k) (Some Calibration)
    (cond (nat_lt n 1 || nat_lt 6 n) (Some Nibbles) None)
