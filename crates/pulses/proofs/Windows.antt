-- The laws of the window: nothing else opens it.
use Rattle.std.proofs.Common.{◌≡◌, ℕ, ◌+◌, ◌*◌, ◌<◌, ◌≤◌, true, false, leb, arith}
use Rattle.std.proofs.lemmas.Nat.{le-div}
use Rattle.std.proofs.lemmas.Bool.{leb-true, and_parts, lt-leb, and_left}
use Rattle.model.specs.declared.settings.Settings.{Settings}
use Rattle.pulses.specs.Intervals.{window, ticks}

bounds : (s : Settings) (d : ℕ) → window s d ≡ true → (4 * s.calibration ≤ 5 * d) × (5 * d ≤ 6 * s.calibration)
unfolding window
bounds s d h =
    let low : ℕ = 4 * s.calibration in
    let high : ℕ = 6 * s.calibration in
    let parts = and_parts (leb (4 * s.calibration) (5 * d)) (leb (5 * d) (6 * s.calibration)) h in
    (leb-true (4 * s.calibration) (5 * d) parts.0, leb-true (5 * d) (6 * s.calibration) parts.1)

-- a calibration interval is there, and can be taken from edge to edge
pub window_range : (s : Settings) (d : ℕ) → window s d ≡ true → (0 < d) × (d ≤ 16777215)
window_range s d h = (omega (arith, bounds s d h, s.long), omega (arith, bounds s d h, s.short))

-- a calibration interval measured under another has more ticks than any nibble
pub calibration_is_long : (s : Settings) (c d : ℕ) → window s c ≡ true → window s d ≡ true → 27 < ticks c d
unfolding ticks
calibration_is_long s c d hc hd =
    let some : 0 < c = (window_range s c hc).0 in
    le-div 28 (112 * d + c) (2 * c) (omega arith) (omega (arith, bounds s c hc, bounds s d hd))

-- no interval of a nibble and a tick more, that is below 28 and a half ticks, passes
pub nibble_is_short : (s : Settings) (c d : ℕ) → window s c ≡ true → 112 * d < 57 * c → window s d ≡ false
unfolding window
nibble_is_short s c d hc h =
    and_left (leb (4 * s.calibration) (5 * d)) (leb (5 * d) (6 * s.calibration))
    (lt-leb (4 * s.calibration) (5 * d) (omega (arith, bounds s c hc, window_range s c hc)))
