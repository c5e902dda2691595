-- A step at an interval that is known.
use Rattle.std.proofs.Common.{◌≡◌, ℕ, ◌+◌, ◌-◌, ◌<◌, ◌≤◌, true, false, cond, eqb, ltb, leb, List, [], ◌∷◌, ◌++◌, length, get_or, drop, ap, ◌∙◌, arith}
use native.Mathlib.Nat.{add-sub_cancel_left}
use Rattle.std.proofs.lemmas.Bool.{lt-ltb, le-ltb, le-leb, lt-leb, or_from, cond-true, cond-false}
use Rattle.model.specs.declared.settings.Settings.{Settings}
use Rattle.model.specs.declared.event.Event.TheVariants.{Edge}
use Rattle.model.specs.declared.fault.FaultKind.TheVariants.{Calibration, ShortNibble, LongNibble, FrameCheck}
use Rattle.pulses.specs.declared.outcome.Outcome.TheVariants.{Quiet, Skipped, Framed}
use Rattle.pulses.specs.Intervals.{window, ticks, apart}
use Rattle.pulses.specs.Frames.{row, six, frame_check}
use Rattle.pulses.specs.Steps.{hunting, expecting, inside, gives, fault, after_frame, sought, nibble, measured, step}

-- the interval from the last edge, at the time w, to one at the time t can be taken, and is d
pub record Spans (w t d : ℕ) : Type 0 where
  pub near : apart w t ≡ false
  pub is : t - w ≡ d

pub spans : (w d : ℕ) → 0 < d → d ≤ 16777215 → Spans w (w + d) d
spans w d some short =
    record {
      near = or_from (leb (w + d) w) (ltb 16777215 (w + d - w)) (lt-leb (w + d) w (omega arith)) (le-ltb 16777215 (w + d - w) (omega arith));
      is = add-sub_cancel_left w d;
    }

module _ (s : Settings) (u p : ℕ) {w t d : ℕ} (i : Spans w t d) where
  at_hunting : step s (hunting u w) (Edge p t) ≡ sought s Skipped u p t d
  unfolding step
  at_hunting = cond-false (apart w t) _ _ i.near ∙ ap (λ (x : ℕ). sought s Skipped u p t x) i.is

  at_expecting : step s (expecting u w) (Edge p t) ≡ sought s (fault Calibration p) u p t d
  unfolding step
  at_expecting = cond-false (apart w t) _ _ i.near ∙ ap (λ (x : ℕ). sought s (fault Calibration p) u p t x) i.is

  -- an interval in the window, or not
  pub hunting_passes : window s d ≡ true → step s (hunting u w) (Edge p t) ≡ gives Quiet (inside p t u d [])
  hunting_passes h = at_hunting ∙ cond-true (window s d) _ _ h

  pub expecting_passes : window s d ≡ true → step s (expecting u w) (Edge p t) ≡ gives Quiet (inside p t u d [])
  expecting_passes h = at_expecting ∙ cond-true (window s d) _ _ h

  pub hunting_misses : window s d ≡ false → step s (hunting u w) (Edge p t) ≡ gives Skipped (hunting p t)
  hunting_misses h = at_hunting ∙ cond-false (window s d) _ _ h

  module _ (from c : ℕ) (kept : List ℕ) where
    at_inside : step s (inside u w from c kept) (Edge p t) ≡ measured s u p t from c kept d (ticks c d)
    unfolding step
    at_inside = cond-false (apart w t) _ _ i.near ∙ ap (λ (x : ℕ). measured s u p t from c kept x (ticks c x)) i.is

    pub too_short : ticks c d < 12 → step s (inside u w from c kept) (Edge p t) ≡ gives (fault ShortNibble p) (hunting p t)
    too_short h = at_inside ∙ cond-true (ltb (ticks c d) 12) _ _ (lt-ltb (ticks c d) 12 h)

    pub too_long : 27 < ticks c d
        → step s (inside u w from c kept) (Edge p t) ≡ gives (fault LongNibble p) (cond (window s d) (inside p t u d []) (hunting p t))
    too_long h =
        at_inside ∙ cond-false (ltb (ticks c d) 12) _ _ (le-ltb (ticks c d) 12 (omega arith))
        ∙ cond-true (ltb 27 (ticks c d)) _ _ (lt-ltb 27 (ticks c d) h)

    -- an interval of 12 + v ticks
    good : (v : ℕ) → v < 16 → ticks c d ≡ 12 + v → step s (inside u w from c kept) (Edge p t) ≡ nibble s p t from c kept v
    good v b e =
        let z : ticks c d - 12 ≡ v = omega arith in
        at_inside ∙ cond-false (ltb (ticks c d) 12) _ _ (le-ltb (ticks c d) 12 (omega arith))
        ∙ cond-false (ltb 27 (ticks c d)) _ _ (le-ltb 27 (ticks c d) (omega arith))
        ∙ ap (nibble s p t from c kept) z

    pub keeps : (v : ℕ) → v < 16 → ticks c d ≡ 12 + v → length kept ≤ s.nibbles
        → step s (inside u w from c kept) (Edge p t) ≡ gives Quiet (inside p t from c (kept ++ v ∷ []))
    keeps v b e h = good v b e ∙ cond-true (leb (length kept) s.nibbles) _ _ (le-leb (length kept) s.nibbles h)

    pub closes : (v : ℕ) → v < 16 → ticks c d ≡ 12 + v → s.nibbles < length kept
        → step s (inside u w from c kept) (Edge p t)
        ≡ cond (eqb v (frame_check s (drop 1 kept))) (gives (Framed (row from (get_or kept 0 0) (six (drop 1 kept)))) (after_frame s p t)) (gives (fault FrameCheck p) (after_frame s p t))
    closes v b e h = good v b e ∙ cond-false (leb (length kept) s.nibbles) _ _ (lt-leb (length kept) s.nibbles h)
