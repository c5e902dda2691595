-- Nibbles put together one by one: three fill twelve of a reading's sixteen bits, so that none runs over.
use Rattle.std.proofs.Common.{◌≡◌, ℕ, zero, suc, ◌+◌, ◌*◌, ◌%◌, ◌^◌, ◌<◌, ◌≤◌, List, [], ◌∷◌, get_or, take, refl, ap, ◌∙◌, arith}
use Rattle.std.specs.Int.Bits.{bit_or}
use Rattle.std.specs.List.{fold}
use Rattle.std.proofs.Math.Pow.{pow_mono}
use Rattle.std.proofs.lemmas.Nat.{pow-add}
use Rattle.std.proofs.lemmas.Grind.{or_after_shift}
use Rattle.pulses.specs.Frames.{joined}

abbrev pub behind : ℕ → ℕ → ℕ
behind n v = bit_or (n * 16 % 65536) v

pub folded : (n : ℕ) (vs : List ℕ) (m i : ℕ) → m < 2 ^ i → i + 4 * n ≤ 12 → ((j : ℕ) → get_or vs j 0 < 16)
    → fold behind m (take n vs) ≡ joined m (take n vs)
folded zero vs m i h k small = refl
folded (suc n) [] m i h k small = refl
folded (suc n) (v ∷ vs) m i h k small =
    let top : 2 ^ (i + 4) ≤ 2 ^ 12 = pow_mono {i = i + 4} {j = 12} (omega arith) in
    let more : m * 16 + v < 2 ^ (i + 4) = omega (arith, pow-add 2 i 4, small 0) in
    ap (λ (x : ℕ). fold behind x (take n vs)) (or_after_shift m 16 65536 v refl (small 0) (omega arith))
    ∙ folded n vs (m * 16 + v) (i + 4) more (omega arith) (λ j. small (suc j))
