-- The whole table of a check, as its rule gives it.
use Rattle.std.proofs.Common.{◌≡◌, ℕ, ◌-◌, ◌*◌, ◌%◌, ◌^◌, ◌<◌, List, get_or, sym, ◌∙◌, ap₂, zero-add, one-mul, mod-eq_of_lt, bit_and}
use lib.Bits.{bit_xor}
use Rattle.std.proofs.Math.Pow.{pow-lt}
use Rattle.std.proofs.lemmas.Nat.{xor_lt, and_mask}
use Rattle.std.proofs.lemmas.List.FromFn.{get_or-map-range_with_len}
use Rattle.checks.specs.Checks.{raised, entry}
use Rattle.checks.specs.Widths.{table, Linear}
use Rattle.checks.proofs.Width.{entry_linear}

pub table_at : (w low v : ℕ) → v < 2 ^ w → get_or (table w low) v 0 ≡ entry w low v
unfolding entry
table_at w low v h = get_or-map-range_with_len (raised w low w) 0 (2 ^ w) v v 0 h (zero-add v)

-- what a list that is the table has at a value
pub looked_up : (w low v : ℕ) (entries : List ℕ) → entries ≡ table w low → v < 2 ^ w → get_or entries v 0 ≡ entry w low v
looked_up w low v entries e h = rw e (table_at w low v h)

pub table_linear : (w low : ℕ) → Linear w (table w low)
table_linear w low a b h k =
    table_at w low (bit_xor a b) (xor_lt w a b h k)
    ∙ entry_linear w low a b
    ∙ sym (ap₂ bit_xor (table_at w low a h) (table_at w low b k))

-- a byte masked to its w low bits
pub masked : (w b : ℕ) → w < 8 → bit_and b (1 * 2 ^ w % 256 - 1) ≡ b % 2 ^ w
masked w b h = let fits : 2 ^ w < 2 ^ 8 = pow-lt h in rw (one-mul, mod-eq_of_lt fits) (and_mask b w)
