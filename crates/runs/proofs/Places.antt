-- Places: a frame starts at an edge before the event that ends it, so the pairs that a channel keeps after an edge are of frames
-- that start before that edge; the frames of a series start at its first edge or later.
use Rattle.std.proofs.Common.{ℕ, suc, ◌+◌, ◌-◌, ◌<◌, ◌≤◌, eqb, ltb, leb, List, [], ◌∷◌, ◌++◌, map, length, drop, subst, append_assoc, arith}
use Rattle.std.specs.List.{AllByRecursion}
use Rattle.std.proofs.ByRecursion.{All-push, All-drop}
use Rattle.std.proofs.lemmas.Bool.{cond_both}
use Rattle.model.specs.declared.settings.Settings.{Settings}
use Rattle.model.specs.declared.event.Event.{Event}
use Rattle.model.specs.declared.event.Event.TheVariants.{Edge, Break}
use Rattle.model.specs.declared.fault.FaultKind.TheVariants.{Calibration}
use Rattle.model.specs.Events.{place_of, PrecedesAll, Lawful}
use Rattle.pulses.specs.declared.outcome.Outcome.{Outcome}
use Rattle.pulses.specs.declared.outcome.Outcome.TheVariants.{Quiet, Skipped, Framed, Failed}
use Rattle.pulses.specs.Intervals.{window, ticks, apart}
use Rattle.pulses.specs.Frames.{frame_check}
use Rattle.pulses.specs.Steps.{PulseState, lost, hunting, expecting, inside, Stepped, fault, after_frame, sought, nibble, measured, timed, step}
use Rattle.series.specs.Sent.{NibblePulse, Sent, edges, frame_edges, next_place, next_time, series}
use Rattle.series.specs.Series.{frames_sent}
use Rattle.serial.specs.Windows.{Kept}
use Rattle.receiver.specs.Channels.{Rules, ChannelState, fresh, kept_of, kept_after, outcome_of, given}
use Rattle.runs.proofs.Heard.{heard_after}

-- the edges that a state knows have places below b
abbrev EdgesBelow : ℕ → PulseState → Type 0
EdgesBelow b lost = Unit {0}
EdgesBelow b (hunting u w) = u < b
EdgesBelow b (expecting u w) = u < b
EdgesBelow b (inside u w from k kept) = (u < b) × (from < b)

-- a frame, if one came, starts below the place b
abbrev StartsBelow : ℕ → Outcome → Type 0
StartsBelow b Quiet = Unit {0}
StartsBelow b Skipped = Unit {0}
StartsBelow b (Framed r) = r.place < b
StartsBelow b (Failed f) = Unit {0}

-- from a state that knows edges below b, at an event below c
module _ (s : Settings) (b c : ℕ) (up : b ≤ c) where
  Dated : Stepped → Type 0
  Dated r = StartsBelow b r.outcome × EdgesBelow c r.state

  dated_timed : (w p t : ℕ) (r : Stepped) → p < c → Dated r → Dated (timed w p t r)
  unfolding Dated
  dated_timed w p t r l h = cond_both (apart w t) _ r Dated (λ _. (tt, l)) (λ _. h)

  dated_sought : (o : Outcome) (u p t d : ℕ) → StartsBelow b o → u < b → p < c → Dated (sought s o u p t d)
  unfolding Dated
  dated_sought o u p t d h m l = cond_both (window s d) _ _ Dated (λ _. (tt, (l, omega arith))) (λ _. (h, l))

  dated_nibble : (p t from k : ℕ) (kept : List ℕ) (v : ℕ) → from < b → p < c → Dated (nibble s p t from k kept v)
  unfolding Dated after_frame
  dated_nibble p t from k kept v m l =
      cond_both (leb (length kept) s.nibbles) _ _ Dated (λ _. (tt, (l, omega arith)))
      (λ _. cond_both (eqb v (frame_check s (drop 1 kept))) _ _ Dated (λ _. (m, l)) (λ _. (tt, l)))

  dated_measured : (u p t from k : ℕ) (kept : List ℕ) (d n : ℕ) → u < b → from < b → p < c → Dated (measured s u p t from k kept d n)
  unfolding Dated
  dated_measured u p t from k kept d n g m l =
      cond_both (ltb n 12) _ _ Dated (λ _. (tt, l))
      (λ _. cond_both (ltb 27 n) _ _ Dated (λ _. (tt, cond_both (window s d) _ _ (EdgesBelow c) (λ _. (l, omega arith)) (λ _. l)))
      (λ _. dated_nibble p t from k kept (n - 12) m l))

  dated_step : (x : PulseState) (e : Event) → EdgesBelow b x → place_of e < c → StartsBelow b (step s x e).outcome × EdgesBelow c (step s x e).state
  unfolding step Dated
  dated_step x (Break p t) h l = (tt, tt)
  dated_step lost (Edge p t) h l = (tt, l)
  dated_step (hunting u w) (Edge p t) h l = dated_timed w p t _ l (dated_sought Skipped u p t (t - w) tt h l)
  dated_step (expecting u w) (Edge p t) h l = dated_timed w p t _ l (dated_sought (fault Calibration p) u p t (t - w) tt h l)
  dated_step (inside u w from k kept) (Edge p t) h l =
      dated_timed w p t _ l (dated_measured u p t from k kept (t - w) (ticks k (t - w)) h.0 h.1 l)

-- pairs of frames that start below the place b, and of frames that start there or later
abbrev pub Earlier : ℕ → List Kept → Type 0
Earlier b ks = AllByRecursion (λ k. k.place < b) ks

abbrev pub Onward : ℕ → List Kept → Type 0
Onward b ks = AllByRecursion (λ k. b ≤ k.place) ks

earlier_after : (b size : ℕ) (ks : List Kept) (o : Outcome) → Earlier b ks → StartsBelow b o → Earlier b (kept_after size ks o)
earlier_after b size ks Quiet h l = h
earlier_after b size ks Skipped h l = h
earlier_after b size ks (Framed r) h l =
    let all : List Kept = ks ++ kept_of r ∷ [] in
    All-drop (λ k. k.place < b) (length all - size) all (All-push (λ k. k.place < b) ks (kept_of r) h l)
earlier_after b size ks (Failed f) h l = tt

module _ {M : Type 0} (rules : Rules M) (b : ℕ) where
  earlier_heard : (c : ChannelState) (es : List Event) → AllByRecursion (λ e. place_of e < b) es → EdgesBelow b c.pulses → Earlier b c.kept
      → EdgesBelow b (heard_after rules c es).pulses × Earlier b (heard_after rules c es).kept
  earlier_heard c [] a h k = (h, k)
  earlier_heard c (e ∷ es) a h k =
      let d = dated_step rules.settings b b (omega arith) c.pulses e h a.0 in
      earlier_heard (given rules c e) es a.1 d.1 (earlier_after b rules.format.size c.kept (outcome_of rules c e) k d.0)

  -- after events below the place b, and any event then
  pub earlier_kept : (es : List Event) → AllByRecursion (λ e. place_of e < b) es → (e : Event) → Earlier b (given rules (heard_after rules fresh es) e).kept
  earlier_kept es a e =
      let c : ChannelState = heard_after rules fresh es in
      let r = earlier_heard fresh es a tt tt in
      let d = dated_step rules.settings b (b + suc (place_of e)) (omega arith) c.pulses e r.0 (omega arith) in
      earlier_after b rules.format.size c.kept (outcome_of rules c e) r.1 d.0

-- in a lawful list the places before an event are below its place, and those after it above
precedes_one : (e : Event) (xs : List Event) (f : Event) (ys : List Event) → PrecedesAll e (xs ++ f ∷ ys) → place_of e < place_of f
precedes_one e [] f ys h = h.0.0
precedes_one e (x ∷ xs) f ys h = precedes_one e xs f ys h.1

pub lawful_before : (xs : List Event) (e : Event) (ys : List Event) → Lawful (xs ++ e ∷ ys) → AllByRecursion (λ x. place_of x < place_of e) xs
lawful_before [] e ys h = tt
lawful_before (x ∷ xs) e ys h = (precedes_one x xs e ys h.1, lawful_before xs e ys h.2)

abbrev Above : ℕ → List Event → Type 0
Above u es = AllByRecursion (λ e. u < place_of e) es

precedes_above : (e : Event) (es : List Event) → PrecedesAll e es → Above (place_of e) es
precedes_above e [] h = tt
precedes_above e (f ∷ es) h = (h.0.0, precedes_above e es h.1)

pub lawful_above : (xs : List Event) (e : Event) (ys : List Event) → Lawful (xs ++ e ∷ ys) → AllByRecursion (λ y. place_of e < place_of y) ys
lawful_above [] e ys h = precedes_above e ys h.1
lawful_above (x ∷ xs) e ys h = lawful_above xs e ys h.2

-- the pairs that frames sent give, with their places, the first of which starts at the place u
abbrev pub kept_sent : ℕ → List Sent → List Kept
kept_sent u fs = map kept_of (frames_sent u fs)

-- past the edges of a frame
past_edges : (b t : ℕ) (xs : List NibblePulse) (y : NibblePulse) (es : List Event) → Above b (edges t (xs ++ y ∷ []) ++ es) → (b < y.place) × Above b es
past_edges b t [] y es h = (h.0, h.1)
past_edges b t (x ∷ xs) y es h = past_edges b (t + x.interval) xs y es h.1

pub sent_onward : (b u t : ℕ) (fs : List Sent) (more : List Event) → b ≤ u → AllByRecursion (λ e. b < place_of e) (series t fs ++ more) → Onward b (kept_sent u fs)
sent_onward b u t [] more l h = tt
sent_onward b u t (f ∷ fs) more l h =
    let es : List Event = series (next_time t f) fs in
    let all : Above b (frame_edges t f ++ (es ++ more)) = subst (Above b) (append_assoc (frame_edges t f) es more) h in
    let r = past_edges b (t + f.calibration) (f.status ∷ f.body) f.check (es ++ more) all.1 in
    let m : b < next_place f = r.0 in
    (l, sent_onward b (next_place f) (next_time t f) fs more (omega arith) r.1)
