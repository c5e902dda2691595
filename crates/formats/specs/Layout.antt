-- A format by the positions of its bits.
use Rattle.std.specs.Prelude.{ℕ, ◌-◌, ◌/◌, ◌%◌, ◌^◌, Bool, true, false, cond, ◌&&◌, List, [], ◌∷◌, map, length, Some, None, ◌==◌}
use Rattle.std.specs.List.{range_with_len}
use Rattle.serial.specs.declared.pair.Pair.{Pair}
use Rattle.serial.specs.Format.{Format}
use Rattle.formats.specs.declared.layout.Position.{Position}
use Rattle.formats.specs.declared.layout.Position.TheVariants.{Bit3, Bit2}
use Rattle.formats.specs.declared.layout.Layout.{Layout as Coded}
use Rattle.formats.specs.Positions.{each, spelled}

-- how many pairs there are, which bits are 1 and which are 0 in every list, the groups of bits that the check runs over,
-- and the bits of the check itself
pub record Layout : Type 0 where
  pub size : ℕ
  pub ones : List Position
  pub zeros : List Position
  pub covered : List (List Position)
  pub check_bits : List Position

-- what the code's layout says
abbrev pub layout_of : {groups width : ℕ} → Coded groups width → Layout
layout_of l = record { size = l.size; ones = l.ones.now; zeros = l.zeros.now; covered = l.covered; check_bits = l.check_bits }

abbrev pub framed_by : Layout → List Pair → Bool
framed_by l ps = length ps == l.size && (each true ps l.ones && each false ps l.zeros)

abbrev pub check_fits : Layout → (List ℕ → ℕ) → List Pair → Bool
check_fits l check ps = check (map (spelled ps) l.covered) == spelled ps l.check_bits

abbrev pub lawful_by : Layout → (List ℕ → ℕ) → List Pair → Bool
lawful_by l check ps = framed_by l ps && check_fits l check ps

-- the format with this layout, this check, and this content of a lawful list
abbrev pub format_by : {M : Type 0} → Layout → (List ℕ → ℕ) → (List Pair → M) → Format M
format_by l check content = record {
  size = l.size;
  framed = framed_by l;
  lawful = lawful_by l check;
  told = λ ps. cond (lawful_by l check ps) (Some (content ps)) None;
}

-- numbers to be put at positions
pub record Field : Type 0 where
  pub at : List Position
  pub value : ℕ

abbrev pub same_position : Position → Position → Bool
same_position (Bit3 j) (Bit3 k) = j == k
same_position (Bit3 j) (Bit2 k) = false
same_position (Bit2 j) (Bit3 k) = false
same_position (Bit2 j) (Bit2 k) = j == k

-- the bit of a number that stands at a position, if its bits are put there, highest first; else the other
abbrev pub put_at : List Position → ℕ → Position → Bool → Bool
put_at [] value p other = other
put_at (q ∷ at) value p other = cond (same_position p q) (value / 2 ^ length at % 2 == 1) (put_at at value p other)

-- the bit at a position, once some fields are written; a bit of no field is 0
abbrev pub bit_of : List Field → Position → Bool
bit_of [] p = false
bit_of (f ∷ fs) p = put_at f.at f.value p (bit_of fs p)

-- so many pairs in which the fields are written
abbrev pub written : ℕ → List Field → List Pair
written size fs = map (λ k. record { high = bit_of fs (Bit3 k); low = bit_of fs (Bit2 k) }) (range_with_len 0 size)

-- the fields of a message written as a list of pairs, with the ones and the check that it needs
abbrev pub written_by : Layout → (List ℕ → ℕ) → List Field → List Pair
written_by l check fs =
    let marked : List Field = record { at = l.ones; value = 2 ^ length l.ones - 1 } ∷ fs in
    written l.size (record { at = l.check_bits; value = check (map (spelled (written l.size marked)) l.covered) } ∷ marked)
