-- What a channel keeps is told by its trace: the latest frame, the serial pairs and the figures.
use Rattle.std.proofs.Common.{◌≡◌, ℕ, ◌+◌, ◌-◌, ◌≤◌, Bool, cond, eqb, ltb, leb, List, [], ◌∷◌, ◌++◌, length, drop, Some, None, Option, sym, refl, ap, ◌∙◌, subst, arith}
use Rattle.std.specs.List.{filter_map, cons_option}
use Rattle.std.proofs.lemmas.List.{drop_all}
use Rattle.std.proofs.lemmas.Bool.{cond_both}
use Rattle.model.specs.declared.event.Event.{Event}
use Rattle.model.specs.declared.event.Event.TheVariants.{Edge, Break}
use Rattle.model.specs.declared.fault.Fault.{Fault}
use Rattle.model.specs.declared.fault.FaultKind.{FaultKind}
use Rattle.model.specs.declared.fault.FaultKind.TheVariants as kind
use Rattle.model.specs.declared.settings.Settings.{Settings}
use Rattle.model.specs.Faults.{layer}
use Rattle.model.specs.Events.{place_of}
use Rattle.pulses.specs.declared.frame.FrameRow.{FrameRow}
use Rattle.pulses.specs.declared.outcome.Outcome.{Outcome}
use Rattle.pulses.specs.declared.outcome.Outcome.TheVariants.{Quiet, Skipped, Framed, Failed}
use Rattle.pulses.specs.Intervals.{window, ticks, apart}
use Rattle.pulses.specs.Frames.{frame_check}
use Rattle.pulses.specs.Steps.{PulseState, lost, hunting, expecting, inside, Stepped, gives, fault, step}
use Rattle.series.specs.Series.{frame_in, fault_in}
use Rattle.serial.specs.Windows.{Kept, last}
use Rattle.serial.proofs.Runs.{last_last}
use Rattle.receiver.specs.Channels.{Rules, ChannelState, fresh, kept_of, kept_after, latest_after, capped, frames_after, faults_after, serial_after, outcome_of, reports, given}
use Rattle.receiver.specs.Units.{figures}
use Rattle.runs.specs.Traces.{Entry, outcomes_of}
use Rattle.runs.specs.Law.{latest_of, since_fault, SerialTold, BelowSerial, FaultsTold, ClosingTold}
use Rattle.runs.proofs.Heard.{heard, heard_after}

-- The latest frame

latest_next : (l : Option FrameRow) (o : Outcome) (os : List Outcome) → latest_of (latest_after l o) os ≡ latest_of l (o ∷ os)
latest_next l Quiet os = refl
latest_next l Skipped os = refl
latest_next l (Framed r) os = refl
latest_next l (Failed f) os = refl

pub latest_told : {M : Type 0} (rules : Rules M) (c : ChannelState) (es : List Event) → (heard_after rules c es).latest ≡ latest_of c.latest (outcomes_of (heard rules c es))
latest_told rules c [] = refl
latest_told rules c (e ∷ es) = latest_told rules (given rules c e) es ∙ latest_next c.latest (outcome_of rules c e) (outcomes_of (heard rules (given rules c e) es))

-- The serial pairs

since_fault_next : (ks : List Kept) (o : Outcome) (os : List Outcome) → since_fault ks (o ∷ os) ≡ since_fault (since_fault ks (o ∷ [])) os
since_fault_next ks Quiet os = refl
since_fault_next ks Skipped os = refl
since_fault_next ks (Framed r) os = refl
since_fault_next ks (Failed f) os = refl

-- the last so many at each step are the last so many of all
kept_next : (size : ℕ) → 1 ≤ size → (ks all : List Kept) (o : Outcome) → ks ≡ last size all → kept_after size ks o ≡ last size (since_fault all (o ∷ []))
kept_next size some ks all Quiet e = e
kept_next size some ks all Skipped e = e
kept_next size some ks all (Framed r) e = ap (λ (xs : List Kept). last size (xs ++ kept_of r ∷ [])) e ∙ last_last size all (kept_of r) some
kept_next size some ks all (Failed f) e = sym (drop_all (length {A = Kept} [] - size) [] (omega arith))

module _ {M : Type 0} (rules : Rules M) (some : 1 ≤ rules.format.size) where
  abbrev ToldAt : List Kept → List Outcome → Entry M → Type 0
  ToldAt all os x =
      x.said.serial
      ≡ serial_after rules.format (last rules.format.size (since_fault all (os ++ x.said.pulse ∷ []))) (place_of x.event) x.said.pulse

  serial_heard : (c : ChannelState) (all : List Kept) → c.kept ≡ last rules.format.size all
      → (es : List Event) (before after : List (Entry M)) (x : Entry M) → heard rules c es ≡ before ++ x ∷ after → ToldAt all (outcomes_of before) x
  serial_heard c all k [] [] after x is = cc
  serial_heard c all k [] (b ∷ before) after x is = cc
  serial_heard c all k (e ∷ es) [] after x is =
      let here : record { event = e; said = reports rules c e } ≡ x = cc in
      let o : Outcome = outcome_of rules c e in
      subst (ToldAt all []) here
      (ap (λ (ks : List Kept). serial_after rules.format ks (place_of e) o) (kept_next rules.format.size some c.kept all o k))
  serial_heard c all k (e ∷ es) (b ∷ before) after x is =
      let here : record { event = e; said = reports rules c e } ≡ b = cc in
      let more : heard rules (given rules c e) es ≡ before ++ x ∷ after = cc in
      let o : Outcome = outcome_of rules c e in
      subst (λ (y : Entry M). ToldAt all (y.said.pulse ∷ outcomes_of before) x) here
      (serial_heard (given rules c e) (since_fault all (o ∷ [])) (kept_next rules.format.size some c.kept all o k) es before after x more
      ∙ ap (λ (ks : List Kept). serial_after rules.format (last rules.format.size ks) (place_of x.event) x.said.pulse)
      (sym (since_fault_next all o (outcomes_of before ++ x.said.pulse ∷ []))))

  pub serial_told : (es : List Event) → SerialTold rules (heard rules fresh es)
  serial_told es before after x is = serial_heard fresh [] (sym (drop_all (length {A = Kept} [] - rules.format.size) [] (omega arith))) es before after x is

-- The figures

-- a count once something more may have come; it stops at its greatest
abbrev more : {X : Type 0} → ℕ → Option X → ℕ
more n None = n
more n (Some x) = capped (n + 1)

more_next : {X : Type 0} (n : ℕ) (r : Option X) (xs : List X) → capped (more n r + length xs) ≡ capped (n + length (cons_option r xs))
more_next n None xs = refl
more_next n (Some x) xs = omega arith

more_stops : {X : Type 0} (n : ℕ) (r : Option X) → n ≤ 4294967295 → more n r ≤ 4294967295
more_stops n None h = h
more_stops n (Some x) h = omega arith

frames_more : (n : ℕ) (o : Outcome) → frames_after n o ≡ more n (frame_in o)
frames_more n Quiet = refl
frames_more n Skipped = refl
frames_more n (Framed r) = refl
frames_more n (Failed f) = refl

faults_more : (n : ℕ) (o : Outcome) → faults_after n o ≡ more n (fault_in o)
faults_more n Quiet = refl
faults_more n Skipped = refl
faults_more n (Framed r) = refl
faults_more n (Failed f) = refl

module _ {M : Type 0} (rules : Rules M) where
  -- either count of a channel, by what it picks from the outcomes
  counted : {X : Type 0} (pick : Outcome → Option X) (count : ChannelState → ℕ) → ((c : ChannelState) (e : Event) → count (given rules c e) ≡ more (count c) (pick (outcome_of rules c e)))
      → (c : ChannelState) (es : List Event) → count c ≤ 4294967295
      → count (heard_after rules c es) ≡ capped (count c + length (filter_map pick (outcomes_of (heard rules c es))))
  counted pick count goes_on c [] h = omega arith
  counted pick count goes_on c (e ∷ es) h =
      let o : Outcome = outcome_of rules c e in
      let later : List Outcome = outcomes_of (heard rules (given rules c e) es) in
      counted pick count goes_on (given rules c e) es (rw (goes_on c e) (more_stops (count c) (pick o) h))
      ∙ ap (λ (n : ℕ). capped (n + length (filter_map pick later))) (goes_on c e) ∙ more_next (count c) (pick o) (filter_map pick later)

  pub closing_told : (es : List Event) → ClosingTold (figures (heard_after rules fresh es)) (outcomes_of (heard rules fresh es))
  closing_told es =
      record {
        frames = counted frame_in (λ c. c.frames) (λ c e. frames_more c.frames (outcome_of rules c e)) fresh es (omega arith) ∙ ap (λ (n : ℕ). capped n) (omega arith);
        faults = counted fault_in (λ c. c.faults) (λ c e. faults_more c.faults (outcome_of rules c e)) fresh es (omega arith) ∙ ap (λ (n : ℕ). capped n) (omega arith);
      }

-- The faults

-- an outcome at the event of the place p, if it is a fault
abbrev AtEvent : ℕ → Outcome → Type 0
AtEvent p o = (f : Fault) → o ≡ Failed f → BelowSerial (layer f.kind) × (f.place ≡ p)

-- a step at that event
record ToldStep (p : ℕ) (x : Stepped) : Type 0 where
  pub told : AtEvent p x.outcome

of_kind : {p : ℕ} {z : PulseState} (k : FaultKind) → BelowSerial (layer k) → ToldStep p (gives (fault k p) z)
of_kind {p} k below =
    record {
      told = λ f h.
          let same : record { kind = k; place = p } ≡ f = cc in
          subst (λ (g : Fault). BelowSerial (layer g.kind) × (g.place ≡ p)) same (below, refl);
    }

no_fault : {p : ℕ} {o : Outcome} {z : PulseState} → ((f : Fault) → o ≡ Failed f → ⊥) → ToldStep p (gives o z)
no_fault none = record { told = λ f h. absurd (none f h) }

quiet_none : (f : Fault) → Quiet ≡ Failed f → ⊥
quiet_none f h = cc

skipped_none : (f : Fault) → Skipped ≡ Failed f → ⊥
skipped_none f h = cc

framed_none : {r : FrameRow} (f : Fault) → Framed r ≡ Failed f → ⊥
framed_none f h = cc

-- a choice between two steps
either : {p : ℕ} (b : Bool) {x y : Stepped} → ToldStep p x → ToldStep p y → ToldStep p (cond b x y)
either {p} b {x} {y} hx hy = cond_both b x y (ToldStep p) (λ _. hx) (λ _. hy)

told_step : (s : Settings) (x : PulseState) (e : Event) → ToldStep (place_of e) (step s x e)
unfolding step
told_step s x (Break p t) = of_kind kind.Break tt
told_step s lost (Edge p t) = no_fault quiet_none
told_step s (hunting u w) (Edge p t) = either (apart w t) (of_kind kind.Interval tt) (either (window s (t - w)) (no_fault quiet_none) (no_fault skipped_none))
told_step s (expecting u w) (Edge p t) = either (apart w t) (of_kind kind.Interval tt) (either (window s (t - w)) (no_fault quiet_none) (of_kind kind.Calibration tt))
told_step s (inside u w from c kept) (Edge p t) =
    let m : ℕ = ticks c (t - w) in
    either (apart w t) (of_kind kind.Interval tt)
    (either (ltb m 12) (of_kind kind.ShortNibble tt)
    (either (ltb 27 m) (of_kind kind.LongNibble tt)
    (either (leb (length kept) s.nibbles) (no_fault quiet_none)
    (either (eqb (m - 12) (frame_check s (drop 1 kept))) (no_fault framed_none) (of_kind kind.FrameCheck tt)))))

pub faults_told : {M : Type 0} (rules : Rules M) (c : ChannelState) (es : List Event) → FaultsTold (heard rules c es)
faults_told rules c [] = tt
faults_told rules c (e ∷ es) = ((told_step rules.settings c.pulses e).told, faults_told rules (given rules c e) es)
