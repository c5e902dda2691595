-- What both checks share, over the width.
use Rattle.std.proofs.Common.{◌≡◌, ℕ, zero, suc, ◌-◌, ◌*◌, ◌/◌, ◌%◌, ◌^◌, ◌<◌, ◌⊎◌, List, [], ◌∷◌, map, length, sym, refl, add-zero, mod-eq_of_lt, arith}
use lib.Bits.{bit_xor, xor_block, xor_comm, xor_assoc, xor_self}
use Rattle.std.specs.List.{AllByRecursion}
use Rattle.std.proofs.lemmas.Nat.{xor_lt, xor_shr, xor_mod, mod_below, pow_pos}
use Rattle.std.proofs.lemmas.Grind.{common_steps}
use Rattle.checks.specs.Checks.{shifted, raised, entry, through, check}
use Rattle.checks.specs.Widths.{xors, DifferByTheLinearPart}

-- the XOR of two XORs, with the inner two exchanged
pub crossed : (a b c d : ℕ) → bit_xor (bit_xor a b) (bit_xor c d) ≡ bit_xor (bit_xor a c) (bit_xor b d)
crossed a b c d = grind (arith, xor_assoc, xor_comm)

doubled : (a b : ℕ) → bit_xor a b * 2 ≡ bit_xor (a * 2) (b * 2)
doubled a b = let e = xor_block 1 a b 0 0 (pow_pos 1) (pow_pos 1) in sym (simp add-zero at e)

bit : (n : ℕ) → (n % 2 ≡ 0) ⊎ (n % 2 ≡ 1)
bit n = grind arith

times_bit : (g x y : ℕ) → (x ≡ 0) ⊎ (x ≡ 1) → (y ≡ 0) ⊎ (y ≡ 1) → g * bit_xor x y ≡ bit_xor (g * x) (g * y)
times_bit g x y p q = grind (arith, common_steps)

shifted_linear : (w low a b : ℕ) → shifted w low (bit_xor a b) ≡ bit_xor (shifted w low a) (shifted w low b)
shifted_linear w low a b =
    let k : ℕ = w - 1 in
    let x : ℕ = a / 2 ^ k % 2 in
    let y : ℕ = b / 2 ^ k % 2 in
    cc (
      doubled a b,
      xor_mod (a * 2) (b * 2) w,
      xor_shr a b k,
      xor_mod (a / 2 ^ k) (b / 2 ^ k) 1,
      times_bit low x y (bit (a / 2 ^ k)) (bit (b / 2 ^ k)),
      crossed (a * 2 % 2 ^ w) (b * 2 % 2 ^ w) (low * x) (low * y),
    )

raised_linear : (w low n a b : ℕ) → raised w low n (bit_xor a b) ≡ bit_xor (raised w low n a) (raised w low n b)
raised_linear w low zero a b = refl
raised_linear w low (suc n) a b = rw (shifted_linear w low a b) (raised_linear w low n (shifted w low a) (shifted w low b))

-- looking up is linear over XOR
pub entry_linear : (w low a b : ℕ) → entry w low (bit_xor a b) ≡ bit_xor (entry w low a) (entry w low b)
unfolding entry
entry_linear w low a b = raised_linear w low w a b

through_linear : (w low s t : ℕ) (xs ys : List ℕ) → length xs ≡ length ys → bit_xor (through w low s xs) (through w low t ys) ≡ through w low (bit_xor s t) (xors xs ys)
through_linear w low s t [] [] e = refl
through_linear w low s t [] (y ∷ ys) e = absurd (omega arith)
through_linear w low s t (x ∷ xs) [] e = absurd (omega arith)
through_linear w low s t (x ∷ xs) (y ∷ ys) e =
    let rest = through_linear w low (bit_xor (entry w low s) x) (bit_xor (entry w low t) y) xs ys (omega arith) in
    cc (rest, entry_linear w low s t, crossed (entry w low s) (entry w low t) x y)

pub differ_by_the_linear_part : DifferByTheLinearPart
differ_by_the_linear_part w low start xs ys e =
    cc (entry_linear w low (through w low start xs) (through w low start ys), through_linear w low start start xs ys e, xor_self start)

shifted_below : (w low v : ℕ) → low < 2 ^ w → shifted w low v < 2 ^ w
shifted_below w low v h =
    let times : (b : ℕ) → (b ≡ 0) ⊎ (b ≡ 1) → low * b < 2 ^ w = λ b e. grind (arith, e, pow_pos w) in
    xor_lt w (v * 2 % 2 ^ w) (low * (v / 2 ^ (w - 1) % 2)) (mod_below (v * 2) (2 ^ w) (pow_pos w)) (times (v / 2 ^ (w - 1) % 2) (bit (v / 2 ^ (w - 1))))

raised_below : (w low n v : ℕ) → low < 2 ^ w → v < 2 ^ w → raised w low n v < 2 ^ w
raised_below w low zero v h k = k
raised_below w low (suc n) v h k = raised_below w low n (shifted w low v) h (shifted_below w low v h)

pub entry_below : (w low v : ℕ) → low < 2 ^ w → v < 2 ^ w → entry w low v < 2 ^ w
unfolding entry
entry_below w low v h k = raised_below w low w v h k

through_below : (w low value : ℕ) (vs : List ℕ) → low < 2 ^ w → value < 2 ^ w → AllByRecursion (λ v. v < 2 ^ w) vs → through w low value vs < 2 ^ w
through_below w low value [] h k all = k
through_below w low value (v ∷ vs) h k all =
    through_below w low (bit_xor (entry w low value) v) vs h (xor_lt w (entry w low value) v (entry_below w low value h k) all.0) all.1

pub check_below : (w low start : ℕ) (vs : List ℕ) → low < 2 ^ w → start < 2 ^ w → AllByRecursion (λ v. v < 2 ^ w) vs → check w low start vs < 2 ^ w
check_below w low start vs h k all = entry_below w low (through w low start vs) h (through_below w low start vs h k all)

-- cutting groups of the width to the width leaves them
pub cut_leaves : (n : ℕ) (vs : List ℕ) → AllByRecursion (λ v. v < n) vs → map (λ v. v % n) vs ≡ vs
cut_leaves n [] all = refl
cut_leaves n (v ∷ vs) all = cc (mod-eq_of_lt all.0, cut_leaves n vs all.1)
