-- Pairs of status bits.
use Rattle.std.specs.Prelude.{ℕ, ◌/◌, ◌%◌, false, ◌==◌}
use Rattle.serial.specs.declared.pair.Pair.{Pair}

-- bit 3 and bit 2 of a status
abbrev pub pair_of : ℕ → Pair
pair_of s = record { high = (s / 8 % 2 == 1); low = (s / 4 % 2 == 1) }

-- what is read past the end of a list
abbrev pub blank : Pair
blank = record { high = false; low = false }
