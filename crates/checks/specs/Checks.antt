-- The checks. A value of w bits stands for a polynomial over the field of two elements: its bit k is the factor of x^k.
-- A check of that width goes by a polynomial of degree w; `low` is that polynomial without x^w, which is what x^w counts as.
use Rattle.std.specs.Prelude.{ℕ, zero, suc, ◌-◌, ◌*◌, ◌/◌, ◌%◌, ◌^◌, List, fold, bit_xor}

-- v times x
abbrev pub shifted : ℕ → ℕ → ℕ → ℕ
shifted w low v = bit_xor (v * 2 % 2 ^ w) (low * (v / 2 ^ (w - 1) % 2))

-- v times x^n
abbrev pub raised : ℕ → ℕ → ℕ → ℕ → ℕ
raised w low zero v = v
raised w low (suc n) v = raised w low n (shifted w low v)

-- what the table has at v: v times x^w
unfoldable pub entry : ℕ → ℕ → ℕ → ℕ
entry w low v = raised w low w v

-- for each group in order the value turns into its table entry XOR the group
abbrev pub through : ℕ → ℕ → ℕ → List ℕ → ℕ
through w low value groups = fold (λ v group. bit_xor (entry w low v) group) value groups

-- after the last group the value turns into its table entry once more
abbrev pub check : ℕ → ℕ → ℕ → List ℕ → ℕ
check w low start groups = entry w low (through w low start groups)

-- four bits, x^4 + x^3 + x^2 + 1, from 5 on
unfoldable pub check4 : List ℕ → ℕ
check4 nibbles = check 4 0b1101 5 nibbles

-- six bits, x^6 + x^4 + x^3 + 1, from 21 on
unfoldable pub check6 : List ℕ → ℕ
check6 groups = check 6 0b011001 21 groups
