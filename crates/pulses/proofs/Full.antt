-- The step at an edge that ends the check nibble of a frame, of the stored state.
use Rattle.std.proofs.Common.{◌≡◌, ℕ, ◌+◌, ◌-◌, ◌≤◌, true, false, cond, eqb, List, length, get_or, take, drop, refl, ap, ◌∙◌, ap₂, arith, length-take-le}
use Rattle.std.proofs.lemmas.Bool.{cond-true, cond-false}
use Rattle.model.specs.declared.settings.Settings.{Settings}
use Rattle.model.specs.declared.event.Event.{Event}
use Rattle.model.specs.declared.event.Event.TheVariants.{Edge}
use Rattle.model.specs.declared.fault.FaultKind.TheVariants.{FrameCheck}
use Rattle.pulses.specs.declared.interval.LastEdge.{LastEdge}
use Rattle.pulses.specs.declared.partial.Partial.{Partial}
use Rattle.pulses.specs.declared.state.State.{State}
use Rattle.pulses.specs.declared.state.State.TheVariants.{Inside}
use Rattle.pulses.specs.declared.outcome.Outcome.{Outcome}
use Rattle.pulses.specs.declared.outcome.Outcome.TheVariants.{Framed}
use Rattle.pulses.specs.Intervals.{ticks, apart}
use Rattle.pulses.specs.Frames.{row, six, frame_check}
use Rattle.pulses.specs.States.{taken, meaning}
use Rattle.pulses.specs.Steps.{expecting, gives, fault, after_frame, step}
use Rattle.pulses.proofs.Kept.{data_taken}
use Rattle.pulses.proofs.Steps.{closes}

module _ (s : Settings) {x : State} {e : Event} {l : LastEdge} {f : Partial} {p t : ℕ} (inner : x ≡ Inside l f) (edge : e ≡ Edge p t)
    (near : apart l.time t ≡ false) (lo : 12 ≤ ticks f.calibration (t - l.time)) (hi : ticks f.calibration (t - l.time) ≤ 27) (full : f.count ≡ s.nibbles + 1) where
  abbrev v : ℕ
  v = ticks f.calibration (t - l.time) - 12

  abbrev framed : Outcome
  framed = Framed (row f.start (get_or (taken f) 0 0) (six (drop 1 (taken f))))

  tested : step s (meaning x) e ≡ cond (eqb v (frame_check s (take s.nibbles (drop 1 f.kept)))) (gives framed (expecting p t)) (gives (fault FrameCheck p) (expecting p t))
  unfolding after_frame
  tested =
      let len : length (taken f) ≡ f.count = length-take-le f.count f.kept (omega (arith, f.seven, s.few)) in
      ap₂ (λ (y : State) (d : Event). step s (meaning y) d) inner edge
      ∙ closes s l.place p (record { near = near; is = refl }) f.start f.calibration (taken f) v (omega arith) (omega arith) (omega arith)
      ∙ ap (λ (vs : List ℕ). cond (eqb v (frame_check s vs)) (gives framed (expecting p t)) (gives (fault FrameCheck p) (expecting p t))) (data_taken s.nibbles f.count f.kept full)

  pub completes : eqb v (frame_check s (take s.nibbles (drop 1 f.kept))) ≡ true → step s (meaning x) e ≡ gives framed (expecting p t)
  completes h = tested ∙ cond-true _ _ _ h

  pub refuses : eqb v (frame_check s (take s.nibbles (drop 1 f.kept))) ≡ false → step s (meaning x) e ≡ gives (fault FrameCheck p) (expecting p t)
  refuses h = tested ∙ cond-false _ _ _ h
