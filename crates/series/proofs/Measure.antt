-- What intervals measure.
use Rattle.std.proofs.Common.{◌≡◌, ℕ, suc, ◌+◌, ◌*◌, ◌/◌, ◌<◌, ◌≤◌, ap, mul-le-mul_right, suc-mul, mul-le-mul_left, mul-add, mul_left_comm, arith}
use native.Mathlib.Nat.{mul-lt-mul_of_pos_left, lt_of_mul-lt-mul_left}
use Rattle.std.proofs.lemmas.Nat.{div_below, le-div}
use Rattle.pulses.specs.Intervals.{ticks}

-- an interval within half a tick of w ticks has w
pub ticks_are : (c d w : ℕ) → 0 < c → w * (2 * c) ≤ 112 * d + c → 112 * d + c < w * (2 * c) + 2 * c → ticks c d ≡ w
unfolding ticks
ticks_are c d w h lo hi =
    let a : w ≤ (112 * d + c) / (2 * c) = le-div w (112 * d + c) (2 * c) (omega arith) lo in
    let b : (112 * d + c) / (2 * c) < suc w = div_below (112 * d + c) (2 * c) (suc w) (omega arith) (omega (arith, suc-mul w (2 * c))) in
    omega arith

-- An interval d of w ticks beside a calibration interval c, each within e counts of what was sent with a tick of p / q counts: d is
-- within half a tick of w ticks under c. The tolerance is just small enough for as many ticks as a nibble may have.
module _ (c d e p q w : ℕ) (q_some : 1 ≤ q) (tight : 166 * e < c) (most : w ≤ 27)
    (c_up : q * c ≤ 56 * p + q * e) (c_low : 56 * p ≤ q * c + q * e) (d_up : q * d ≤ w * p + q * e) (d_low : w * p ≤ q * d + q * e) where
  scaled_tight : 166 * (q * e) < q * c
  scaled_tight = omega (arith, mul_left_comm q 166 e, mul-lt-mul_of_pos_left {k = q} tight q_some)

  few : w * (q * e) ≤ 27 * (q * e)
  few = mul-le-mul_right (q * e) most

  twice : q * (w * (2 * c)) ≡ 2 * (w * (q * c))
  twice = omega (arith, mul_left_comm q w (2 * c), ap (λ (x : ℕ). w * x) (mul_left_comm q 2 c), mul_left_comm w 2 (q * c))

  pub above : w * (2 * c) < 112 * d + c
  above =
      lt_of_mul-lt-mul_left q
      (omega (arith, scaled_tight, few, twice, mul-add q (112 * d) c, mul_left_comm q 112 d, mul-le-mul_left w c_up, mul-add w (56 * p) (q * e), mul_left_comm w 56 p))

  pub below : 112 * d < w * (2 * c) + c
  below =
      lt_of_mul-lt-mul_left q
      (omega (arith, scaled_tight, few, twice, mul-add q (w * (2 * c)) c, mul_left_comm q 112 d, mul-le-mul_left w c_low, mul-add w (q * c) (q * e), mul_left_comm w 56 p))
