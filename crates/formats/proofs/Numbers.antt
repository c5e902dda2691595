-- The number that bits make.
use Rattle.std.proofs.Common.{◌≡◌, ℕ, zero, suc, ◌+◌, ◌*◌, ◌/◌, ◌%◌, ◌^◌, ◌<◌, ◌≤◌, Bool, true, false, List, [], ◌∷◌, map, length, ◌==◌, refl, arith, ◌∙◌, ap, subst, mul_assoc, add-mul, mod-eq_of_lt}
use Rattle.std.specs.List.{fold}
use Rattle.std.proofs.Math.Pow.{pow_mono}
use Rattle.std.proofs.lemmas.Nat.{pow-add, mod-pow-add, mod_below, pow_pos}
use Rattle.std.proofs.Math.Nat.{mod-one}
use Rattle.std.proofs.lemmas.List.{length-map}
use Rattle.serial.specs.declared.pair.Pair.{Pair}
use Rattle.formats.specs.declared.layout.Position.{Position}
use Rattle.formats.specs.Positions.{digit, onto, number, read, spelled}

digit_small : (b : Bool) → digit b ≤ 1
digit_small true = omega arith
digit_small false = omega arith

-- one bit more
more_bits : (n i d : ℕ) → n < 2 ^ i → d ≤ 1 → n * 2 + d < 2 ^ (i + 1)
more_bits n i d h k = omega (arith, pow-add 2 i 1)

-- sixteen bits never run over
pub fold_onto : (ps : List Pair) (at : List Position) (n i : ℕ) → n < 2 ^ i → i + length at ≤ 16
    → fold (λ k p. k * 2 % 65536 + digit (read ps p)) n at ≡ onto n (map (read ps) at)
fold_onto ps [] n i h k = refl
fold_onto ps (p ∷ at) n i h k =
    let d : ℕ = digit (read ps p) in
    let m : n * 2 + d < 2 ^ (i + 1) = more_bits n i d h (digit_small (read ps p)) in
    let top : 2 ^ (i + 1) ≤ 2 ^ 16 = pow_mono {i = i + 1} {j = 16} (omega arith) in
    let whole : n * 2 % 65536 ≡ n * 2 = mod-eq_of_lt (omega arith) in
    ap (λ (x : ℕ). fold (λ k p. k * 2 % 65536 + digit (read ps p)) (x + d) at) whole
    ∙ fold_onto ps at (n * 2 + d) (i + 1) m (omega arith)

onto_below : (bs : List Bool) (n i : ℕ) → n < 2 ^ i → onto n bs < 2 ^ (i + length bs)
onto_below [] n i h = let e : i + 0 ≡ i = omega arith in rw e h
onto_below (b ∷ bs) n i h =
    let e : i + suc (length bs) ≡ i + 1 + length bs = omega arith in
    rw e (onto_below bs (n * 2 + digit b) (i + 1) (more_bits n i (digit b) h (digit_small b)))

pub number_below : (bs : List Bool) → number bs < 2 ^ length bs
number_below bs = let e : 0 + length bs ≡ length bs = omega arith in subst (λ (k : ℕ). number bs < 2 ^ k) e (onto_below bs 0 0 (pow_pos 0))

pub spelled_below : (ps : List Pair) (at : List Position) → spelled ps at < 2 ^ length at
spelled_below ps at = subst (λ (k : ℕ). spelled ps at < 2 ^ k) (length-map at (read ps)) (number_below (map (read ps) at))

-- the low n bits of v, highest first
abbrev pub bits : ℕ → ℕ → List Bool
bits zero v = []
bits (suc n) v = (v / 2 ^ n % 2 == 1) ∷ bits n v

digit_bit : (x : ℕ) → digit (x % 2 == 1) ≡ x % 2
digit_bit x = at (x % 2) (mod_below x 2 (omega arith))
  where
    at : (r : ℕ) → r < 2 → digit (r == 1) ≡ r
    at zero h = refl
    at (suc zero) h = refl
    at (suc (suc r)) h = absurd (omega arith)

onto_bits : (n v a : ℕ) → onto a (bits n v) ≡ a * 2 ^ n + v % 2 ^ n
onto_bits zero v a = let e : v % 1 ≡ 0 = mod-one v in omega arith
onto_bits (suc n) v a =
    let d : ℕ = v / 2 ^ n % 2 in
    let top : digit (d == 1) ≡ d = digit_bit (v / 2 ^ n) in
    let high : v % 2 ^ (1 + n) ≡ (v / 2 ^ n % 2 ^ 1) * 2 ^ n + v % 2 ^ n = mod-pow-add v 1 n in
    let whole : 2 ^ (1 + n) ≡ 2 ^ 1 * 2 ^ n = pow-add 2 1 n in
    let e : suc n ≡ 1 + n = omega arith in
    let f : (a * 2 + d) * 2 ^ n ≡ a * 2 * 2 ^ n + d * 2 ^ n = add-mul (a * 2) d (2 ^ n) in
    let k : a * 2 * 2 ^ n ≡ a * (2 * 2 ^ n) = mul_assoc a 2 (2 ^ n) in
    let twice : a * 2 ^ (1 + n) ≡ a * (2 * 2 ^ n) = ap (λ (t : ℕ). a * t) whole in
    ap (λ (t : ℕ). onto (a * 2 + t) (bits n v)) top ∙ onto_bits n v (a * 2 + d) ∙ rw e (omega arith)

-- the bits of a number that has room make that number
pub number_bits : (n v : ℕ) → v < 2 ^ n → number (bits n v) ≡ v
number_bits n v h =
    let m : v % 2 ^ n ≡ v = mod-eq_of_lt h in
    onto_bits n v 0 ∙ omega arith
