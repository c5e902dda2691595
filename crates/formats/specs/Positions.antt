-- Positions in a list of pairs, and what the bits there spell.
use Rattle.std.specs.Prelude.{ℕ, ◌+◌, ◌*◌, Bool, cond, List, [], ◌∷◌, map, slice_index_or}
use Rattle.std.specs.Bool.{beq}
use Rattle.std.specs.List.{range_with_len, list_all}
use Rattle.serial.specs.declared.pair.Pair.{Pair}
use Rattle.serial.specs.Pairs.{blank}
use Rattle.formats.specs.declared.layout.Position.{Position}
use Rattle.formats.specs.declared.layout.Position.TheVariants.{Bit3, Bit2}

abbrev pub read : List Pair → Position → Bool
read ps (Bit3 k) = (slice_index_or ps k blank).high
read ps (Bit2 k) = (slice_index_or ps k blank).low

-- each of the bits at some positions is b
abbrev pub each : Bool → List Pair → List Position → Bool
each b ps at = list_all (λ p. beq (read ps p) b) at

-- bit 3, or bit 2, of n pairs one after the other, from the one with the number k on
abbrev pub bits3 : ℕ → ℕ → List Position
bits3 k n = map Bit3 (range_with_len k n)

abbrev pub bits2 : ℕ → ℕ → List Position
bits2 k n = map Bit2 (range_with_len k n)

abbrev pub digit : Bool → ℕ
digit b = cond b 1 0

-- n and then further bits
abbrev pub onto : ℕ → List Bool → ℕ
onto n [] = n
onto n (b ∷ bs) = onto (n * 2 + digit b) bs

-- the number that bits make, highest first
abbrev pub number : List Bool → ℕ
number bs = onto 0 bs

-- the number that the bits at some positions make
abbrev pub spelled : List Pair → List Position → ℕ
spelled ps at = number (map (read ps) at)
