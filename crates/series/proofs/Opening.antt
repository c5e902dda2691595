-- The states that may stand after an edge, and the calibration pulse that comes next.
use Rattle.std.proofs.Common.{◌≡◌, ℕ, ◌+◌, ◌-◌, true, eqb, ltb, leb, List, [], ◌∷◌, length, drop, ap, ◌∙◌}
use Rattle.std.proofs.lemmas.Bool.{cond-true, cond_both}
use Rattle.model.specs.declared.settings.Settings.{Settings}
use Rattle.model.specs.declared.event.Event.{Event}
use Rattle.model.specs.declared.event.Event.TheVariants.{Edge, Break}
use Rattle.model.specs.declared.fault.FaultKind.TheVariants.{Calibration, LongNibble}
use Rattle.pulses.specs.declared.outcome.Outcome.{Outcome}
use Rattle.pulses.specs.declared.outcome.Outcome.TheVariants.{Quiet, Skipped}
use Rattle.pulses.specs.Intervals.{window, ticks, apart}
use Rattle.pulses.specs.Frames.{frame_check}
use Rattle.pulses.specs.Steps.{PulseState, lost, hunting, expecting, inside, Stepped, gives, fault, after_frame, sought, nibble, measured, timed, step, after}
use Rattle.pulses.proofs.Windows.{window_range, calibration_is_long}
use Rattle.pulses.proofs.Steps.{Spans, spans, hunting_passes, expecting_passes, too_long}

-- the calibration interval of a frame that is being received passes the window
abbrev pub InWindow : Settings → PulseState → Type 0
InWindow s lost = Unit {0}
InWindow s (hunting u w) = Unit {0}
InWindow s (expecting u w) = Unit {0}
InWindow s (inside u w from c kept) = window s c ≡ true

-- (u, t) is the last edge, and no frame is being received
pub data Ready (u t : ℕ) : PulseState → Type 0 where
  seeks : Ready u t (hunting u t)
  waits : Ready u t (expecting u t)

-- a frame leaves such a state
pub after_frame_ready : (s : Settings) (p t : ℕ) → Ready p t (after_frame s p t)
unfolding after_frame
after_frame_ready s p t = waits

-- (u, t) is the last edge
pub data Open (s : Settings) (u t : ℕ) : PulseState → Type 0 where
  ready : {x : PulseState} → Ready u t x → Open s u t x
  within : {from c : ℕ} {kept : List ℕ} → window s c ≡ true → Open s u t (inside u t from c kept)

module _ (s : Settings) (u t : ℕ) where
  Opens : Stepped → Type 0
  Opens r = Open s u t r.state

  open_timed : (w : ℕ) (r : Stepped) → Opens r → Opens (timed w u t r)
  unfolding Opens
  open_timed w r h = cond_both (apart w t) _ r Opens (λ _. ready seeks) (λ _. h)

  open_sought : (o : Outcome) (w d : ℕ) → Opens (sought s o w u t d)
  unfolding Opens
  open_sought o w d = cond_both (window s d) _ _ Opens (λ e. within e) (λ _. ready seeks)

  open_nibble : (from c : ℕ) (kept : List ℕ) (v : ℕ) → window s c ≡ true → Opens (nibble s u t from c kept v)
  unfolding Opens
  open_nibble from c kept v h =
      cond_both (leb (length kept) s.nibbles) _ _ Opens (λ _. within h)
      (λ _. cond_both (eqb v (frame_check s (drop 1 kept))) _ _ Opens (λ _. ready (after_frame_ready s u t)) (λ _. ready (after_frame_ready s u t)))

  open_measured : (w from c : ℕ) (kept : List ℕ) (d m : ℕ) → window s c ≡ true → Opens (measured s w u t from c kept d m)
  unfolding Opens
  open_measured w from c kept d m h =
      cond_both (ltb m 12) _ _ Opens (λ _. ready seeks)
      (λ _. cond_both (ltb 27 m) _ _ Opens (λ _. cond_both (window s d) _ _ (Open s u t) (λ e. within e) (λ _. ready seeks))
      (λ _. open_nibble from c kept (m - 12) h))

  -- every edge becomes the last edge
  pub opens : (x : PulseState) → InWindow s x → Open s u t (step s x (Edge u t)).state
  unfolding step Opens
  opens lost h = ready seeks
  opens (hunting a b) h = open_timed b _ (open_sought Skipped a (t - b))
  opens (expecting a b) h = open_timed b _ (open_sought (fault Calibration u) a (t - b))
  opens (inside a b from c kept) h = open_timed b _ (open_measured a from c kept (t - b) (ticks c (t - b)) h)

open_in_window : {s : Settings} {u t : ℕ} {x : PulseState} → Open s u t x → InWindow s x
open_in_window (ready seeks) = tt
open_in_window (ready waits) = tt
open_in_window (within h) = h

-- so it is after any list of events
pub stays_in_window : (s : Settings) (es : List Event) (x : PulseState) → InWindow s x → InWindow s (after s x es)
unfolding step
stays_in_window s [] x h = h
stays_in_window s (Edge p t ∷ es) x h = stays_in_window s es (step s x (Edge p t)).state (open_in_window (opens s p t x h))
stays_in_window s (Break p t ∷ es) x h = stays_in_window s es lost tt

-- the state after any events and then an edge
pub open_after : (s : Settings) (before : List Event) (u t : ℕ) → Open s u t (step s (after s lost before) (Edge u t)).state
open_after s before u t = opens s u t (after s lost before) (stays_in_window s before lost tt)

-- a calibration pulse: quiet, or a fault that a frame before it was cut off
pub data Mild (p : ℕ) : Outcome → Type 0 where
  calm : Mild p Quiet
  cut_off : Mild p (fault LongNibble p)

pub record Begun (s : Settings) (u t p c : ℕ) (x : PulseState) : Type 0 where
  pub outcome : Outcome
  pub mild : Mild p outcome
  pub is : step s x (Edge p (t + c)) ≡ gives outcome (inside p (t + c) u c [])

module _ (s : Settings) (u t p c : ℕ) (passes : window s c ≡ true) where
  span : Spans t (t + c) c
  span = spans t c (window_range s c passes).0 (window_range s c passes).1

  -- from a ready state it is quiet
  pub calibrates : {x : PulseState} → Ready u t x → step s x (Edge p (t + c)) ≡ gives Quiet (inside p (t + c) u c [])
  calibrates seeks = hunting_passes s u p span passes
  calibrates waits = expecting_passes s u p span passes

  -- it leads inside from any state after an edge
  pub begins : {x : PulseState} → Open s u t x → Begun s u t p c x
  begins (ready r) = record { outcome = Quiet; mild = calm; is = calibrates r }
  begins (within {from} {c = c'} {kept} g) =
      record {
        outcome = fault LongNibble p;
        mild = cut_off;
        is = too_long s u p span from c' kept (calibration_is_long s c' c g passes)
            ∙ ap (λ (y : PulseState). gives (fault LongNibble p) y) (cond-true (window s c) _ _ passes);
      }
