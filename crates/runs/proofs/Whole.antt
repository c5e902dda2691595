-- Serial messages come out whole.
use Rattle.std.proofs.Common.{◌≡◌, ℕ, ◌<◌, true, false, cond, List, [], ◌∷◌, ◌++◌, map, length, take, drop, Some, None, Option, sym, refl, ap, ◌∙◌, subst, ap₂, arith}
use Rattle.std.specs.List.{AllByRecursion}
use Rattle.model.specs.declared.event.Event.{Event}
use Rattle.model.specs.declared.event.Event.TheVariants.{Edge}
use Rattle.model.specs.Events.{place_of, Lawful}
use Rattle.pulses.specs.declared.frame.FrameRow.{FrameRow}
use Rattle.pulses.specs.declared.outcome.Outcome.{Outcome}
use Rattle.pulses.specs.declared.outcome.Outcome.TheVariants.{Quiet, Skipped, Framed, Failed}
use Rattle.pulses.specs.Steps.{outcomes}
use Rattle.series.specs.Sent.{Sent, next_place, frame_edges, series_end}
use Rattle.series.specs.Series.{frames_of, faults_of}
use Rattle.serial.specs.declared.pair.Pair.{Pair}
use Rattle.serial.specs.Format.{Format, LawfulFormat}
use Rattle.serial.specs.Pairs.{pair_of}
use Rattle.serial.specs.Windows.{Kept, pairs_of, first_place, judged, reported}
use Rattle.receiver.specs.Channels.{Rules, ChannelState, fresh, kept_of, kept_after, serial_after, outcome_of, given}
use Rattle.runs.specs.Traces.{Entry, Placed, events_of, messages_in, messages_of}
use Rattle.runs.specs.Law.{pairs_sent, places_sent, placed, whole_messages, starting_from, MessagesWhole}
use Rattle.runs.proofs.Heard.{heard}
use Rattle.runs.proofs.Cutting.{channel_at, cut_rest, cut_events, cut_received}
use Rattle.runs.proofs.Places.{Earlier, Onward, earlier_kept, lawful_before, lawful_above, kept_sent, sent_onward}
use Rattle.runs.proofs.Windows.{told_by, told_along, along_is}
use Rattle.runs.proofs.Stretching.{places_of, stretch_told}

module _ {M : Type 0} (f : Format M) where
  judged_placed : (o : Option M) (first here : ℕ) → messages_in (Some (judged o first here)) ≡ placed first o
  judged_placed (Some m) first here = refl
  judged_placed None first here = refl

  reported_told : (ks : List Kept) (here : ℕ) → messages_in (reported f ks here) ≡ told_by f ks
  reported_told ks here =
      elim (f.framed (pairs_of ks))
      as (λ b. messages_in (cond b (Some (judged (f.told (pairs_of ks)) (first_place ks) here)) None) ≡ cond b (placed (first_place ks) (f.told (pairs_of ks))) [])
      [ true ↦ judged_placed (f.told (pairs_of ks)) (first_place ks) here | false ↦ refl ]

  -- the message at an outcome, if it is a frame, and the messages of outcomes one after the other
  abbrev told_after : List Kept → Outcome → List (Placed M)
  told_after ks Quiet = []
  told_after ks Skipped = []
  told_after ks (Framed r) = told_by f ks
  told_after ks (Failed g) = []

  abbrev told_over : List Kept → List Outcome → List (Placed M)
  told_over ks [] = []
  told_over ks (o ∷ os) = told_after (kept_after f.size ks o) o ++ told_over (kept_after f.size ks o) os

  serial_told : (ks : List Kept) (here : ℕ) (o : Outcome) → messages_in (serial_after f ks here o) ≡ told_after ks o
  serial_told ks here Quiet = refl
  serial_told ks here Skipped = refl
  serial_told ks here (Framed r) = reported_told ks here
  serial_told ks here (Failed g) = refl

  -- without a fault only the frames count
  told_frames : (ks : List Kept) (os : List Outcome) → faults_of os ≡ [] → told_over ks os ≡ told_along f ks (map kept_of (frames_of os))
  told_frames ks [] e = refl
  told_frames ks (Quiet ∷ os) e = told_frames ks os e
  told_frames ks (Skipped ∷ os) e = told_frames ks os e
  told_frames ks (Framed r ∷ os) e =
      let ks' : List Kept = kept_after f.size ks (Framed r) in
      ap (λ (xs : List (Placed M)). told_by f ks' ++ xs) (told_frames ks' os e)
  told_frames ks (Failed g ∷ os) e = cc

  -- a fault at the first outcome only drops the pairs that were kept
  record Begins (u : ℕ) (ks : List Kept) (os : List Outcome) : Type 0 where
    pub old : List Kept
    pub earlier : Earlier u old
    pub told : told_over ks os ≡ told_along f old (map kept_of (frames_of os))

  begins : (u : ℕ) (ks : List Kept) (os : List Outcome) → Earlier u ks → faults_of (drop 1 os) ≡ [] → Begins u ks os
  begins u ks [] h e = record { old = ks; earlier = h; told = refl }
  begins u ks (Quiet ∷ os) h e = record { old = ks; earlier = h; told = told_frames ks os e }
  begins u ks (Skipped ∷ os) h e = record { old = ks; earlier = h; told = told_frames ks os e }
  begins u ks (Framed r ∷ os) h e = record { old = ks; earlier = h; told = told_frames ks (Framed r ∷ os) e }
  begins u ks (Failed g ∷ os) h e = record { old = []; earlier = tt; told = told_frames [] os e }

pairs_kept : (u : ℕ) (fs : List Sent) → pairs_of (kept_sent u fs) ≡ pairs_sent fs
pairs_kept u [] = refl
pairs_kept u (f ∷ fs) = ap (λ (ps : List Pair). pair_of f.status.value ∷ ps) (pairs_kept (next_place f) fs)

places_kept : (u : ℕ) (fs : List Sent) → places_of (kept_sent u fs) ≡ places_sent u fs
places_kept u [] = refl
places_kept u (f ∷ fs) = ap (λ (ps : List ℕ). u ∷ ps) (places_kept (next_place f) fs)

module _ {M : Type 0} (rules : Rules M) where
  heard_told : (c : ChannelState) (es : List Event) → messages_of (heard rules c es) ≡ told_over rules.format c.kept (outcomes rules.settings c.pulses es)
  heard_told c [] = refl
  heard_told c (e ∷ es) =
      let o : Outcome = outcome_of rules c e in
      ap₂ (λ (xs ys : List (Placed M)). xs ++ ys)
      (serial_told rules.format (kept_after rules.format.size c.kept o) (place_of e) o)
      (heard_told (given rules c e) es)

  pub messages_whole : LawfulFormat rules.format → (es : List Event) → Lawful es → MessagesWhole rules (heard rules fresh es)
  messages_whole law es lawful c z x =
      let f : Format M = rules.format in
      let u : ℕ = c.place in
      let fs : List Sent = z.sent in
      let before : List Event = events_of c.before in
      let rest : List Event = events_of c.rest in
      let ch : ChannelState = channel_at rules es c in
      let os : List Outcome = outcomes rules.settings ch.pulses rest in
      let got = cut_received rules es c z in
      let around : Lawful (before ++ Edge u c.time ∷ rest) = subst Lawful (cut_events rules es c) lawful in
      let earlier : Earlier u ch.kept = earlier_kept rules u before (lawful_before before (Edge u c.time) rest around) (Edge u c.time) in
      let b = begins f u ch.kept os earlier got.no_fault_after_calibration in
      let onward : Onward u (kept_sent u fs) =
      sent_onward u u c.time fs (take z.some (frame_edges (series_end c.time fs) z.cut_short)) (omega arith)
      (subst (λ (i : List Event). AllByRecursion (λ e. u < place_of e) i) z.are (lawful_above before (Edge u c.time) rest around)) in
      ap (λ (tr : List (Entry M)). starting_from u (messages_of tr)) (cut_rest rules es c)
      ∙ ap (starting_from u) (heard_told ch rest ∙ b.told ∙ ap (λ (rs : List FrameRow). told_along f b.old (map kept_of rs)) got.frames_exactly)
      ∙ along_is f law u b.old [] (kept_sent u fs) b.old (λ y. refl) b.earlier tt onward
      ∙ stretch_told f law x.list x.all_lawful (kept_sent u fs) x.pre x.post
      (x.lies ∙ ap (λ (ps : List Pair). x.pre ++ (ps ++ x.post)) (sym (pairs_kept u fs)))
      ∙ ap (λ (ps : List ℕ). whole_messages f (length x.pre) ps 0 x.list) (places_kept u fs)
