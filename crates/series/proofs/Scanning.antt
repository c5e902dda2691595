-- What any brief pulses give inside a frame: nothing, one fault, or the frame that they are read as.
use Rattle.std.proofs.Common.{◌≡◌, ℕ, suc, ◌+◌, ◌-◌, ◌<◌, ◌≤◌, cond, eqb, List, [], ◌∷◌, ◌++◌, map, length, get_or, drop, sym, refl, ap, ◌∙◌, subst, inl, inr, append_assoc, arith}
use Rattle.std.specs.List.{AllByRecursion}
use Rattle.std.proofs.lemmas.List.{append-nil, length-append}
use Rattle.std.proofs.ByRecursion.{All-push}
use Rattle.std.proofs.lemmas.Bool.{cases_lt, cases_Bool, eqb-true, cond-true, cond-false}
use Rattle.model.specs.declared.settings.Settings.{Settings}
use Rattle.model.specs.declared.event.Event.{Event}
use Rattle.model.specs.declared.fault.Fault.{Fault}
use Rattle.model.specs.declared.fault.FaultKind.{FaultKind}
use Rattle.model.specs.declared.fault.FaultKind.TheVariants.{ShortNibble, LongNibble, FrameCheck}
use Rattle.checks.specs.Found.{Nibbles}
use Rattle.pulses.specs.declared.outcome.Outcome.{Outcome}
use Rattle.pulses.specs.declared.outcome.Outcome.TheVariants.{Framed, Failed}
use Rattle.pulses.specs.Intervals.{window, ticks}
use Rattle.pulses.specs.Frames.{row, six, frame_check}
use Rattle.pulses.specs.Steps.{PulseState, hunting, inside, Stepped, gives, fault, after_frame, outcomes, after}
use Rattle.series.specs.Sent.{NibblePulse, edges, finish}
use Rattle.series.specs.Series.{reports_of}
use Rattle.series.proofs.Opening.{Ready, seeks, after_frame_ready}
use Rattle.pulses.proofs.Steps.{spans, hunting_misses, too_short, too_long, keeps, closes}
use Rattle.series.proofs.Reading.{Brief, last_place}

-- the nibbles that pulses are read as
abbrev pub readings : ℕ → List NibblePulse → List ℕ
readings c ys = map (λ y. ticks c y.interval - 12) ys

-- what pulses give that are read as `all`: nothing so far, a fault, or the frame that all readings make
pub data Scan (s : Settings) (from u t : ℕ) (all : List ℕ) : List Outcome → PulseState → Type 0 where
  pending : {x : PulseState} → length all ≤ suc s.nibbles → Scan s from u t all [] x
  refused : {f : Fault} {x : PulseState} → Ready u t x → Scan s from u t all (Failed f ∷ []) x
  framed : (st v : ℕ) (ds : List ℕ) {x : PulseState} → Ready u t x → all ≡ st ∷ (ds ++ v ∷ []) → v ≡ frame_check s ds → Nibbles all
      → length all ≡ s.nibbles + 2 → Scan s from u t all (Framed (row from st (six ds)) ∷ []) x

-- pulses that are passed over while hunting
skips : (s : Settings) (ys : List NibblePulse) (u t : ℕ) → AllByRecursion (Brief s) ys
    → (reports_of (outcomes s (hunting u t) (edges t ys)) ≡ []) × (after s (hunting u t) (edges t ys) ≡ hunting (last_place u ys) (finish t ys))
skips s [] u t b = (refl, refl)
skips s (y ∷ ys) u t b =
    let e = hunting_misses s u y.place (spans t y.interval b.0.some b.0.short) b.0.out in
    let r = skips s ys y.place (t + y.interval) b.1 in (
      ap (λ (x : Stepped). reports_of (x.outcome ∷ outcomes s x.state (edges (t + y.interval) ys))) e ∙ r.0,
      ap (λ (x : Stepped). after s x.state (edges (t + y.interval) ys)) e ∙ r.1,
    )

module _ (s : Settings) (from c : ℕ) where
  Result : ℕ → ℕ → List ℕ → List Event → Stepped → Type 0
  Result u t all es x = Scan s from u t all (reports_of (x.outcome ∷ outcomes s x.state es)) (after s x.state es)

  -- a fault, and the rest passed over
  lost_frame : (k : FaultKind) (p u t : ℕ) (ys : List NibblePulse) (all : List ℕ) → AllByRecursion (Brief s) ys
      → Result (last_place u ys) (finish t ys) all (edges t ys) (gives (fault k p) (hunting u t))
  unfolding Result
  lost_frame k p u t ys all b =
      let r = skips s ys u t b in
      subst (λ (os : List Outcome). Scan s from (last_place u ys) (finish t ys) all (fault k p ∷ os) (after s (hunting u t) (edges t ys))) (sym r.0)
      (subst (λ (x : PulseState). Scan s from (last_place u ys) (finish t ys) all (fault k p ∷ []) x) (sym r.1) (refused seeks))

  -- what the check nibble leads to
  abbrev decided : ℕ → ℕ → ℕ → List ℕ → Stepped
  decided v u t kept =
      cond (eqb v (frame_check s (drop 1 kept))) (gives (Framed (row from (get_or kept 0 0) (six (drop 1 kept)))) (after_frame s u t)) (gives (fault FrameCheck u) (after_frame s u t))

  last_one : (v u t : ℕ) (kept : List ℕ) → length kept ≡ suc s.nibbles → Nibbles (kept ++ v ∷ []) → Result u t (kept ++ v ∷ []) [] (decided v u t kept)
  unfolding Result
  last_one v u t [] l a = absurd (omega arith)
  last_one v u t (st ∷ ds) l a =
      elim (cases_Bool (eqb v (frame_check s ds))) [
        | inl e ↦
            subst (Result u t (st ∷ (ds ++ v ∷ [])) []) (sym (cond-true (eqb v (frame_check s ds)) _ _ e))
            (framed st v ds (after_frame_ready s u t) refl (eqb-true v (frame_check s ds) e) a (simp length-append (omega arith)))
        | inr e ↦ subst (Result u t (st ∷ (ds ++ v ∷ [])) []) (sym (cond-false (eqb v (frame_check s ds)) _ _ e)) (refused (after_frame_ready s u t))
      ]

  -- no pulse is left after it
  closing : (ys : List NibblePulse) (v u t : ℕ) (kept : List ℕ) → length kept ≡ suc s.nibbles → length kept + suc (length ys) ≤ s.nibbles + 2 → Nibbles (kept ++ v ∷ [])
      → Result (last_place u ys) (finish t ys) (kept ++ v ∷ readings c ys) (edges t ys) (decided v u t kept)
  closing [] v u t kept l l' a = last_one v u t kept l a
  closing (y ∷ ys) v u t kept l l' a = absurd (omega arith)

  pub scan : (ys : List NibblePulse) (u t : ℕ) (kept : List ℕ) → AllByRecursion (Brief s) ys → Nibbles kept → length kept ≤ suc s.nibbles → length kept + length ys ≤ s.nibbles + 2
      → Scan s from (last_place u ys) (finish t ys) (kept ++ readings c ys) (reports_of (outcomes s (inside u t from c kept) (edges t ys))) (after s (inside u t from c kept) (edges t ys))
  unfolding Result
  scan [] u t kept b a l l' = pending (rw append-nil l)
  scan (y ∷ ys) u t kept b a l l' =
      let p : ℕ = y.place in
      let t' : ℕ = t + y.interval in
      let m : ℕ = ticks c y.interval in
      let all : List ℕ = kept ++ readings c (y ∷ ys) in
      let R : Stepped → Type 0 = Result (last_place p ys) (finish t' ys) all (edges t' ys) in
      let i = spans t y.interval b.0.some b.0.short in
      elim (cases_lt m 12) [
        | inl h ↦ subst R (sym (too_short s u p i from c kept h)) (lost_frame ShortNibble p p t' ys all b.1)
        | inr h ↦
            elim (cases_lt 27 m) [
              | inl g ↦
                  subst R (sym (too_long s u p i from c kept g ∙ ap (λ (x : PulseState). gives (fault LongNibble p) x) (cond-false (window s y.interval) _ _ b.0.out)))
                  (lost_frame LongNibble p p t' ys all b.1)
              | inr g ↦
                  let v : ℕ = m - 12 in
                  let vb : v < 16 = omega arith in
                  let e : m ≡ 12 + v = omega arith in
                  let a' : Nibbles (kept ++ v ∷ []) = All-push (λ x. x < 16) kept v a vb in
                  elim (cases_lt (length kept) (suc s.nibbles)) [
                    | inl q ↦
                        subst R (sym (keeps s u p i from c kept v vb e (omega arith)))
                        (subst
                        (λ (z : List ℕ). Scan s from (last_place p ys) (finish t' ys) z (reports_of (outcomes s (inside p t' from c (kept ++ v ∷ [])) (edges t' ys))) (after s (inside p t' from c (kept ++ v ∷ [])) (edges t' ys)))
                        (append_assoc kept (v ∷ []) (readings c ys))
                        (scan ys p t' (kept ++ v ∷ []) b.1 a' (rw length-append (omega arith)) (rw length-append (omega arith))))
                    | inr q ↦
                        subst R (sym (closes s u p i from c kept v vb e q))
                        (closing ys v p t' kept (omega arith) (omega arith) a')
                  ]
            ]
      ]
