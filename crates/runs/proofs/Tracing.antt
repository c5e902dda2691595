-- What a unit's answers say of one channel: over the first events of its source's list, all that the channel says of them by itself.
use Rattle.std.proofs.Common.{◌≡◌, ℕ, ◌+◌, List, [], ◌∷◌, ◌++◌, map, length, take, drop, Some, None, Option, sym, refl, ap, ◌∙◌, subst, ap₂, append_assoc, arith, length-append}
use Rattle.std.proofs.lemmas.List.{take_at, drop_at, nil_from_length}
use Rattle.model.specs.declared.event.Event.{Event}
use Rattle.model.specs.declared.side.Side.{Side}
use Rattle.model.specs.declared.side.Side.TheVariants.{A as SideA, B as SideB}
use Rattle.model.specs.Events.{time_of, rest}
use Rattle.pulses.specs.declared.outcome.Outcome.{Outcome}
use Rattle.pulses.specs.Steps.{outcomes}
use Rattle.series.specs.Series.{CleanSeriesReceived, MovedEdgesTolerated}
use Rattle.series.proofs.Receiving.{clean_series_received}
use Rattle.series.proofs.Tolerating.{moved_edges_tolerated}
use Rattle.receiver.specs.declared.answer.Call.{Call}
use Rattle.receiver.specs.declared.answer.Call.TheVariants.{Step as StepCall, Look}
use Rattle.receiver.specs.declared.answer.Subject.TheVariants.{Reading as ReadingOf}
use Rattle.receiver.specs.Channels.{Rules, ChannelState, fresh, reports, given}
use Rattle.receiver.specs.Units.{Setup, UnitState, left, channel, new, due, answer_at, fed, step_answer, step_after, answer, after, answers, after_all}
use Rattle.runs.specs.Traces.{Said, own, said_by, Entry, trace, events_of, outcomes_of}
use Rattle.runs.specs.Law.{Paired}
use Rattle.runs.proofs.Heard.{heard, heard_after, heard_events}

-- A channel by itself

-- the step answers of a channel, from a state of it on, over these events
abbrev pub spoken : {M : Type 0} → Rules M → ChannelState → List Event → List (Said M)
spoken rules c [] = []
spoken rules c (e ∷ es) = record { time = time_of e; reports = reports rules c e } ∷ spoken rules (given rules c e) es

module _ {M : Type 0} (rules : Rules M) where
  pub spoken_append : (c : ChannelState) (xs ys : List Event) → spoken rules c (xs ++ ys) ≡ spoken rules c xs ++ spoken rules (heard_after rules c xs) ys
  spoken_append c [] ys = refl
  spoken_append c (x ∷ xs) ys = ap (λ (zs : List (Said M)). record { time = time_of x; reports = reports rules c x } ∷ zs) (spoken_append (given rules c x) xs ys)

  pub heard_after_append : (c : ChannelState) (xs ys : List Event) → heard_after rules c (xs ++ ys) ≡ heard_after rules (heard_after rules c xs) ys
  heard_after_append c [] ys = refl
  heard_after_append c (x ∷ xs) ys = heard_after_append (given rules c x) xs ys

  spoken_length : (c : ChannelState) (es : List Event) → length (spoken rules c es) ≡ length es
  spoken_length c [] = refl
  spoken_length c (e ∷ es) = let h = spoken_length (given rules c e) es in omega arith

  spoken_times : (c : ChannelState) (es : List Event) → map (λ x. x.time) (spoken rules c es) ≡ map time_of es
  spoken_times c [] = refl
  spoken_times c (e ∷ es) = ap (λ (ts : List ℕ). time_of e ∷ ts) (spoken_times (given rules c e) es)

  -- the trace of what is said over the first events of a list
  spoken_trace : (c : ChannelState) (es more : List Event) → trace (es ++ more) (spoken rules c es) ≡ heard rules c es
  spoken_trace c [] [] = refl
  spoken_trace c [] (f ∷ more) = refl
  spoken_trace c (e ∷ es) more = ap (λ (xs : List (Entry M)). record { event = e; said = reports rules c e } ∷ xs) (spoken_trace (given rules c e) es more)

  -- a channel's outcomes are those of its pulses
  pub heard_outcomes : (c : ChannelState) (es : List Event) → outcomes_of (heard rules c es) ≡ outcomes rules.settings c.pulses es
  heard_outcomes c [] = refl
  heard_outcomes c (e ∷ es) = ap (λ (os : List Outcome). (reports rules c e).pulse ∷ os) (heard_outcomes (given rules c e) es)

  pub heard_clean_received : (es : List Event) → CleanSeriesReceived rules.settings (events_of (heard rules fresh es)) (outcomes_of (heard rules fresh es))
  heard_clean_received es =
      subst (λ (fs : List Event). CleanSeriesReceived rules.settings fs (outcomes_of (heard rules fresh es))) (sym (heard_events rules fresh es))
      (subst (CleanSeriesReceived rules.settings es) (sym (heard_outcomes fresh es)) (clean_series_received rules.settings es))

  pub heard_moved_tolerated : (es : List Event) → MovedEdgesTolerated rules.settings (events_of (heard rules fresh es)) (outcomes_of (heard rules fresh es))
  heard_moved_tolerated es =
      subst (λ (fs : List Event). MovedEdgesTolerated rules.settings fs (outcomes_of (heard rules fresh es))) (sym (heard_events rules fresh es))
      (subst (MovedEdgesTolerated rules.settings es) (sym (heard_outcomes fresh es)) (moved_edges_tolerated rules.settings es))

-- A channel in a run

-- A channel in the state c had the events es before it, and now those left: it was given the first ones, said of them what
-- it says by itself, and is what it then is by itself.
pub record Advance {M : Type 0} (rules : Rules M) (c : ChannelState) (es : List Event) (said : List (Said M)) (then : ChannelState) (left_over : List Event) : Type 0 where
  pub taken : List Event
  pub the_first_ones : es ≡ taken ++ left_over
  pub said_of_them : said ≡ spoken rules c taken
  pub is_then : then ≡ heard_after rules c taken

stays : {M : Type 0} {rules : Rules M} {c : ChannelState} {es : List Event} → Advance rules c es [] c es
stays = record { taken = []; the_first_ones = refl; said_of_them = refl; is_then = refl }

goes_on : {M : Type 0} {rules : Rules M} {c c' c'' : ChannelState} {es es' es'' : List Event} {xs ys : List (Said M)}
    → Advance rules c es xs c' es' → Advance rules c' es' ys c'' es'' → Advance rules c es (xs ++ ys) c'' es''
goes_on {M} {rules} {c} p q =
    record {
      taken = p.taken ++ q.taken;
      the_first_ones = p.the_first_ones ∙ ap (λ (zs : List Event). p.taken ++ zs) q.the_first_ones ∙ sym (append_assoc p.taken q.taken _);
      said_of_them =
          ap₂ (λ (a b : List (Said M)). a ++ b) p.said_of_them (q.said_of_them ∙ ap (λ (k : ChannelState). spoken rules k q.taken) p.is_then)
          ∙ sym (spoken_append rules c p.taken q.taken);
      is_then =
          q.is_then ∙ ap (λ (k : ChannelState). heard_after rules k q.taken) p.is_then
          ∙ sym (heard_after_append rules c p.taken q.taken);
    }

module _ {M : Type 0} {rules : Rules M} {c : ChannelState} {es : List Event} {said : List (Said M)} {then : ChannelState} {left_over : List Event} (a : Advance rules c es said then left_over) where
  pub as_many : length said ≡ length a.taken
  as_many = ap length a.said_of_them ∙ spoken_length rules c a.taken

  pub taken_is : a.taken ≡ take (length said) es
  taken_is = sym (ap (take (length said)) a.the_first_ones ∙ take_at a.taken left_over (length said) (sym as_many))

  pub left_is : left_over ≡ drop (length said) es
  left_is = sym (ap (drop (length said)) a.the_first_ones ∙ drop_at a.taken left_over (length said) (sym as_many))

  pub trace_is_heard : trace es said ≡ heard rules c a.taken
  trace_is_heard = ap₂ trace a.the_first_ones a.said_of_them ∙ spoken_trace rules c a.taken left_over

  pub advance_paired : Paired es said left_over
  advance_paired =
      let n = as_many in
      let all : length es ≡ length a.taken + length left_over = ap length a.the_first_ones ∙ length-append a.taken left_over in
      record {
        no_more_than_there_are = omega arith;
        times_agree = ap (map (λ x. x.time)) a.said_of_them ∙ spoken_times rules c a.taken ∙ ap (map time_of) taken_is;
        the_rest_is_left = left_is;
        none_left_exactly_at_the_end = (
          λ e. let none : length left_over ≡ 0 = ap length e in omega arith,
          λ e. nil_from_length left_over (omega arith),
        );
      }

module _ {X Y : Type 0} (s : Setup X Y) where
  -- a side that is given the first event of its list, and the other one
  fed_advances : (d : Side) (c : ChannelState) (es : List Event) → Advance (s d) c es (own d (answer_at s d c es)) (fed (s d) c es) (rest es)
  fed_advances SideA c [] = stays
  fed_advances SideB c [] = stays
  fed_advances SideA c (e ∷ es) = record { taken = e ∷ []; the_first_ones = refl; said_of_them = refl; is_then = refl }
  fed_advances SideB c (e ∷ es) = record { taken = e ∷ []; the_first_ones = refl; said_of_them = refl; is_then = refl }

  a_says_none_of_b : (c : ChannelState) (es : List Event) → own {X = X} {Y = Y} SideB (answer_at s SideA c es) ≡ []
  a_says_none_of_b c [] = refl
  a_says_none_of_b c (e ∷ es) = refl

  b_says_none_of_a : (c : ChannelState) (es : List Event) → own {X = X} {Y = Y} SideA (answer_at s SideB c es) ≡ []
  b_says_none_of_a c [] = refl
  b_says_none_of_a c (e ∷ es) = refl

  silent : {M : Type 0} {rules : Rules M} {c : ChannelState} {es : List Event} {said : List (Said M)} → said ≡ [] → Advance rules c es said c es
  silent e = record { taken = []; the_first_ones = refl; said_of_them = e; is_then = refl }

  step_advances : (u : UnitState) (o : Option Side) (d : Side) → Advance (s d) (channel u d) (left u d) (own d (step_answer s u o)) (channel (step_after s u o) d) (left (step_after s u o) d)
  step_advances u None SideA = stays
  step_advances u None SideB = stays
  step_advances u (Some SideA) SideA = fed_advances SideA u.channel_a u.left_a
  step_advances u (Some SideA) SideB = silent (a_says_none_of_b u.channel_a u.left_a)
  step_advances u (Some SideB) SideA = silent (b_says_none_of_a u.channel_b u.left_b)
  step_advances u (Some SideB) SideB = fed_advances SideB u.channel_b u.left_b

  call_advances : (u : UnitState) (c : Call) (d : Side) → Advance (s d) (channel u d) (left u d) (own d (answer s u c)) (channel (after s u c) d) (left (after s u c) d)
  call_advances u StepCall d = step_advances u (due u.left_a u.left_b) d
  call_advances u (Look (ReadingOf e)) SideA = stays
  call_advances u (Look (ReadingOf e)) SideB = stays

  pub calls_advance : (u : UnitState) (calls : List Call) (d : Side)
      → Advance (s d) (channel u d) (left u d) (said_by d (answers s u calls)) (channel (after_all s u calls) d) (left (after_all s u calls) d)
  calls_advance u [] d = stays
  calls_advance u (c ∷ cs) d = goes_on (call_advances u c d) (calls_advance (after s u c) cs d)

  -- the same of a new unit
  module _ (from : Side → List Event) (calls : List Call) where
    pub run_advances : (d : Side)
        → Advance (s d) fresh (from d) (said_by d (answers s (new from) calls)) (channel (after_all s (new from) calls) d) (left (after_all s (new from) calls) d)
    run_advances SideA = calls_advance (new from) calls SideA
    run_advances SideB = calls_advance (new from) calls SideB

    -- the events that the side d was given
    abbrev pub given_to : (d : Side) → List Event
    given_to d = take (length (said_by d (answers s (new from) calls))) (from d)

    pub run_traced : (d : Side) → trace (from d) (said_by d (answers s (new from) calls)) ≡ heard (s d) fresh (given_to d)
    run_traced d = trace_is_heard (run_advances d) ∙ ap (heard (s d) fresh) (taken_is (run_advances d))

    pub run_events : (d : Side) → events_of (trace (from d) (said_by d (answers s (new from) calls))) ≡ given_to d
    run_events d = ap events_of (run_traced d) ∙ heard_events (s d) fresh (given_to d)

    pub run_channel : (d : Side) → channel (after_all s (new from) calls) d ≡ heard_after (s d) fresh (given_to d)
    run_channel d = (run_advances d).is_then ∙ ap (heard_after (s d) fresh) (taken_is (run_advances d))

    pub run_paired : (d : Side) → Paired (from d) (said_by d (answers s (new from) calls)) (left (after_all s (new from) calls) d)
    run_paired d = advance_paired (run_advances d)
