-- What all checks of this kind share, over the width and the polynomial.
use Rattle.std.specs.Prelude.{◌≡◌, ℕ, ◌^◌, ◌<◌, List, map, length, bit_xor, slice_index}
use Rattle.std.specs.List.{range_with_len, zip}
use Rattle.checks.specs.Checks.{raised, check}

-- the numbers that make a check are of its width
pub record Fits (w low start : ℕ) : Type 0 where
  pub low_fits : low < 2 ^ w
  pub start_fits : start < 2 ^ w

-- the whole table: each value of w bits times x^w
abbrev pub table : ℕ → ℕ → List ℕ
table w low = map (raised w low w) (range_with_len 0 (2 ^ w))

-- looking up in a table of w bits is linear over XOR
abbrev pub Linear : ℕ → List ℕ → Type 0
Linear w entries = (a b : ℕ) → a < 2 ^ w → b < 2 ^ w → slice_index entries (bit_xor a b) ≡ bit_xor (slice_index entries a) (slice_index entries b)

-- the XOR of two lists, group by group
abbrev pub xors : List ℕ → List ℕ → List ℕ
xors xs ys = map (λ p. bit_xor p.0 p.1) (zip xs ys)

-- the checks of two lists of one length differ by what the XOR of the lists gives from 0 on, the linear part
abbrev pub DifferByTheLinearPart : Type 0
DifferByTheLinearPart =
    (w low start : ℕ) (xs ys : List ℕ) → length xs ≡ length ys → bit_xor (check w low start xs) (check w low start ys) ≡ check w low 0 (xors xs ys)
