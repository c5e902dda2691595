-- Pulses that are read as they were sent: the run of a clean frame.
use Rattle.std.proofs.Common.{◌≡◌, ℕ, zero, suc, ◌+◌, ◌*◌, ◌<◌, ◌≤◌, true, false, eqb, List, [], ◌∷◌, ◌++◌, map, length, take, sym, refl, ap, ◌∙◌, subst, append_assoc, mul-le-mul_right, arith}
use Rattle.std.specs.List.{AllByRecursion}
use Rattle.std.proofs.lemmas.List.{append-nil, length-append, length-map}
use Rattle.std.proofs.ByRecursion.{All-weaker}
use Rattle.std.proofs.lemmas.Bool.{eq-eqb, cond-true}
use Rattle.model.specs.declared.settings.Settings.{Settings}
use Rattle.model.specs.declared.event.Event.TheVariants.{Edge}
use Rattle.pulses.specs.declared.outcome.Outcome.{Outcome}
use Rattle.pulses.specs.declared.outcome.Outcome.TheVariants.{Quiet, Framed}
use Rattle.pulses.specs.Intervals.{window, ticks}
use Rattle.pulses.specs.Frames.{frame_check}
use Rattle.pulses.specs.Steps.{PulseState, inside, after_frame}
use Rattle.series.specs.Sent.{NibblePulse, Sent, nibbles_of, values, frame_sent, edges, finish, Within, Clean}
use Rattle.series.proofs.Measure.{ticks_are, above, below}
use Rattle.pulses.proofs.Windows.{window_range, nibble_is_short}
use Rattle.pulses.proofs.Steps.{spans, keeps, closes}
use Rattle.series.proofs.Runs.{Gives, gives_more}

-- a pulse that can be taken, and never passes for a calibration pulse
pub record Brief (s : Settings) (x : NibblePulse) : Type 0 where
  pub some : 0 < x.interval
  pub short : x.interval ≤ 16777215
  pub out : window s x.interval ≡ false

-- a pulse that is read as it was sent
pub record Reads (c : ℕ) (x : NibblePulse) : Type 0 where
  pub small : x.value < 16
  pub is : ticks c x.interval ≡ 12 + x.value

-- a pulse within half a tick of what was sent
pub record Measures (c : ℕ) (x : NibblePulse) : Type 0 where
  pub small : x.value < 16
  pub lo : (12 + x.value) * (2 * c) < 112 * x.interval + c
  pub hi : 112 * x.interval < (12 + x.value) * (2 * c) + c

-- a pulse within one tick and a half of a nibble is brief
pub brief : (s : Settings) (c : ℕ) (x : NibblePulse) → window s c ≡ true → x.value < 16
    → (12 + x.value) * (2 * c) < 112 * x.interval + 3 * c → 112 * x.interval < (12 + x.value) * (2 * c) + 3 * c → Brief s x
brief s c x passes small lo hi =
    let range = window_range s c passes in
    let least : 12 * (2 * c) ≤ (12 + x.value) * (2 * c) = mul-le-mul_right (2 * c) (omega arith) in
    let most : (12 + x.value) * (2 * c) ≤ 27 * (2 * c) = mul-le-mul_right (2 * c) (omega arith) in
    record { some = omega arith; short = omega arith; out = nibble_is_short s c x.interval passes (omega arith) }

module _ (s : Settings) (c : ℕ) (passes : window s c ≡ true) where
  pub as_brief : (x : NibblePulse) → Measures c x → Brief s x
  as_brief x m = brief s c x passes m.small (omega (arith, m.lo)) (omega (arith, m.hi))

  pub as_read : (x : NibblePulse) → Measures c x → Reads c x
  as_read x m =
      let some : 0 < c = (window_range s c passes).0 in
      record { small = m.small; is = ticks_are c x.interval (12 + x.value) some (omega (arith, m.lo)) (omega (arith, m.hi)) }

-- the pulses of a clean frame measure so
module _ {s : Settings} {f : Sent} (r : Clean s f) where
  one : (x : NibblePulse) → Within (r.q * r.e) (r.q * x.interval) ((12 + x.value) * r.p) → x.value < 16 → Measures f.calibration x
  one x h small =
      let w : 12 + x.value ≤ 27 = omega arith in
      let even = r.calibration_even in
      record {
        small = small;
        lo = above f.calibration x.interval r.e r.p r.q (12 + x.value) r.q_some r.tight w even.0 even.1 h.0 h.1;
        hi = below f.calibration x.interval r.e r.p r.q (12 + x.value) r.q_some r.tight w even.0 even.1 h.0 h.1;
      }

  each : (xs : List NibblePulse) → AllByRecursion (λ x. Within (r.q * r.e) (r.q * x.interval) ((12 + x.value) * r.p)) xs → AllByRecursion (λ x. x.value < 16) xs → AllByRecursion (Measures f.calibration) xs
  each [] h g = tt
  each (x ∷ xs) h g = (one x h.0 g.0, each xs h.1 g.1)

  pub measures : AllByRecursion (Measures f.calibration) (nibbles_of f)
  measures = each (nibbles_of f) r.nibbles_even r.nibbles_small

abbrev pub last_place : ℕ → List NibblePulse → ℕ
last_place u [] = u
last_place u (x ∷ xs) = last_place x.place xs

abbrev pub quiets : List NibblePulse → List Outcome
quiets xs = map (λ _. Quiet) xs

-- what is gathered from outcomes, and passes over those that are quiet
pub record PassesQuiet {X : Type 0} (gathered : List Outcome → List X) : Type 0 where
  pub none : gathered [] ≡ []
  pub on : (os : List Outcome) → gathered (Quiet ∷ os) ≡ gathered os

module _ {X : Type 0} {gathered : List Outcome → List X} (r : PassesQuiet gathered) where
  pub past_quiets : (xs : List NibblePulse) (os : List Outcome) → gathered (quiets xs ++ os) ≡ gathered os
  past_quiets [] os = refl
  past_quiets (x ∷ xs) os = r.on (quiets xs ++ os) ∙ past_quiets xs os

  pub none_yet : (m : ℕ) (xs : List NibblePulse) (os : List Outcome) → m ≤ length xs → gathered (take m (quiets xs ++ os)) ≡ []
  none_yet zero xs os h = r.none
  none_yet (suc m) [] os h = absurd (omega arith)
  none_yet (suc m) (x ∷ xs) os h = r.on (take m (quiets xs ++ os)) ∙ none_yet m xs os (omega arith)

-- pulses that are read and kept, and then whatever the others give
front : (s : Settings) (from c : ℕ) (xs ys : List NibblePulse) (u t : ℕ) (kept : List ℕ) {os : List Outcome} {x' : PulseState}
    → AllByRecursion (Brief s) xs → AllByRecursion (Reads c) xs → length kept + length xs ≤ suc s.nibbles
    → Gives s (inside (last_place u xs) (finish t xs) from c (kept ++ values xs)) (edges (finish t xs) ys) os x'
    → Gives s (inside u t from c kept) (edges t (xs ++ ys)) (quiets xs ++ os) x'
front s from c [] ys u t kept {os} {x'} b r l g = subst (λ (vs : List ℕ). Gives s (inside u t from c vs) (edges t ys) os x') (append-nil kept) g
front s from c (x ∷ xs) ys u t kept {os} {x'} b r l g =
    let t' : ℕ = t + x.interval in
    gives_more (inside u t from c kept) (Edge x.place t')
    (keeps s u x.place (spans t x.interval b.0.some b.0.short) from c kept x.value r.0.small r.0.is (omega arith))
    (front s from c xs ys x.place t' (kept ++ x.value ∷ []) b.1 r.1 (rw length-append (omega arith))
    (subst (λ (vs : List ℕ). Gives s (inside (last_place x.place xs) (finish t' xs) from c vs) (edges (finish t' xs) ys) os x')
    (sym (append_assoc kept (x.value ∷ []) (values xs))) g))

finish_push : (t : ℕ) (xs : List NibblePulse) (y : NibblePulse) → finish t (xs ++ y ∷ []) ≡ finish t xs + y.interval
finish_push t [] y = refl
finish_push t (x ∷ xs) y = finish_push (t + x.interval) xs y

all_front : (P : NibblePulse → Type 0) (xs : List NibblePulse) (y : NibblePulse) → AllByRecursion P (xs ++ y ∷ []) → AllByRecursion P xs × P y
all_front P [] y h = (tt, h.0)
all_front P (x ∷ xs) y h = let r = all_front P xs y h.1 in ((h.0, r.0), r.1)

-- what a clean frame that starts at the edge of the place u gives at the edges that end its nibbles
abbrev pub given : ℕ → Sent → List Outcome
given u f = quiets (f.status ∷ f.body) ++ Framed (frame_sent u f) ∷ []

module _ {s : Settings} {f : Sent} (r : Clean s f) where
  pub reads : (u t : ℕ) → Gives s (inside f.place t u f.calibration []) (edges t (nibbles_of f)) (given u f) (after_frame s f.check.place (finish t (nibbles_of f)))
  reads u t =
      let c : ℕ = f.calibration in
      let xs : List NibblePulse = f.status ∷ f.body in
      let y : NibblePulse = f.check in
      let m = all_front (Measures f.calibration) (f.status ∷ f.body) f.check (measures r) in
      let b = as_brief s f.calibration r.passes f.check m.1 in
      let d = as_read s f.calibration r.passes f.check m.1 in
      let t' : ℕ = finish t (f.status ∷ f.body) in
      let l : length (values f.body) ≡ s.nibbles = length-map f.body (λ x. x.value) ∙ r.count in
      front s u f.calibration (f.status ∷ f.body) (f.check ∷ []) f.place t []
      (All-weaker (Measures f.calibration) (Brief s) (as_brief s f.calibration r.passes) (f.status ∷ f.body) m.0)
      (All-weaker (Measures f.calibration) (Reads f.calibration) (as_read s f.calibration r.passes) (f.status ∷ f.body) m.0)
      (omega (arith, r.count))
      (gives_more (inside (last_place f.place (f.status ∷ f.body)) t' u f.calibration (values (f.status ∷ f.body))) (Edge f.check.place (t' + f.check.interval))
      (closes s (last_place f.place (f.status ∷ f.body)) f.check.place (spans t' f.check.interval b.some b.short) u f.calibration (values (f.status ∷ f.body)) f.check.value d.small d.is (omega arith)
      ∙ cond-true (eqb f.check.value (frame_check s (values f.body))) _ _ (eq-eqb f.check.value (frame_check s (values f.body)) r.fits))
      (record { out = refl; end = ap (λ (i : ℕ). after_frame s f.check.place i) (sym (finish_push t (f.status ∷ f.body) f.check)) }))
