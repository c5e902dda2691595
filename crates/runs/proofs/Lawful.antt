-- Every run of the unit is lawful.
use Rattle.std.proofs.Common.{◌≡◌, ℕ, zero, suc, List, [], ◌∷◌, ◌++◌, take, Some, None, Option, sym, refl, ap, ◌∙◌, subst}
use Rattle.model.specs.declared.event.Event.{Event}
use Rattle.model.specs.declared.side.Side.{Side}
use Rattle.model.specs.Events.{PrecedesAll, Lawful}
use Rattle.serial.specs.Format.{LawfulFormat}
use Rattle.receiver.specs.declared.answer.Call.{Call}
use Rattle.receiver.specs.declared.answer.Call.TheVariants.{Step as StepCall, Look}
use Rattle.receiver.specs.declared.answer.Subject.TheVariants.{Reading as ReadingOf}
use Rattle.receiver.specs.declared.answer.Answer.{Answer}
use Rattle.receiver.specs.declared.answer.Answer.TheVariants.{Reading}
use Rattle.receiver.specs.Channels.{ChannelState, fresh, reading_of}
use Rattle.receiver.specs.Units.{Setup, UnitState, channel, left, new, answer, after, answers, after_all, figures}
use Rattle.runs.specs.Traces.{Entry, said_by, trace, events_of, outcomes_of}
use Rattle.runs.specs.Law.{MessagesWhole, latest_of, nth_of, LawfulChannel, LawfulRun, AnsweredInTurn}
use Rattle.series.specs.Series.{CleanSeriesReceived, MovedEdgesTolerated}
use Rattle.runs.specs.Law.{SerialTold, FaultsTold, ClosingTold}
use Rattle.runs.proofs.Heard.{heard, heard_after}
use Rattle.runs.proofs.Tracing.{run_advances, trace_is_heard, run_paired, heard_clean_received, heard_moved_tolerated}
use Rattle.runs.proofs.Alone.{run_undisturbed}
use Rattle.runs.proofs.Told.{latest_told, serial_told, faults_told, closing_told}
use Rattle.runs.proofs.Turns.{one_answer_each, in_turn}

-- A front of a lawful list is lawful

precedes_front : (e : Event) (xs ys : List Event) → PrecedesAll e (xs ++ ys) → PrecedesAll e xs
precedes_front e [] ys h = tt
precedes_front e (x ∷ xs) ys h = (h.0, precedes_front e xs ys h.1)

pub lawful_front : (xs ys : List Event) → Lawful (xs ++ ys) → Lawful xs
lawful_front [] ys h = tt
lawful_front (x ∷ xs) ys h = (h.0, precedes_front x xs ys h.1, lawful_front xs ys h.2)

module _ {X Y : Type 0} (s : Setup X Y) where
  -- the first answers are those to the first calls
  pub answers_take : (u : UnitState) (k : ℕ) (calls : List Call) → take k (answers s u calls) ≡ answers s u (take k calls)
  answers_take u zero calls = refl
  answers_take u (suc k) [] = refl
  answers_take u (suc k) (c ∷ cs) = ap (λ (xs : List (Answer X Y)). answer s u c ∷ xs) (answers_take (after s u c) k cs)

  -- the answer to a call is that of the unit after the calls before it
  pub answer_at_its_place : (u : UnitState) (k : ℕ) (calls : List Call) (c : Call) → nth_of calls k ≡ Some c → nth_of (answers s u calls) k ≡ Some (answer s (after_all s u (take k calls)) c)
  answer_at_its_place u zero [] c e = cc
  answer_at_its_place u zero (b ∷ cs) c e = let same : b ≡ c = cc in ap (λ (x : Call). Some (answer s u x)) same
  answer_at_its_place u (suc k) [] c e = cc
  answer_at_its_place u (suc k) (b ∷ cs) c e = answer_at_its_place (after s u b) k cs c e

  -- the faults of a channel, after some calls
  pub faults_in_channel : (from : Side → List Event) (calls : List Call) (d : Side) → FaultsTold (trace (from d) (said_by d (answers s (new from) calls)))
  faults_in_channel from calls d =
      let a = run_advances s from calls d in
      subst FaultsTold (sym (trace_is_heard a)) (faults_told (s d) fresh a.taken)

  module _ (from : Side → List Event) (formats : (d : Side) → LawfulFormat (s d).format) (lawful : (d : Side) → Lawful (from d))
      (messages : (d : Side) (es : List Event) → Lawful es → MessagesWhole (s d) (heard (s d) fresh es)) where
    -- after some calls, where a look at the reading that comes next is answered by the unit as it then is
    lawful_channel : (calls : List Call) (asked : Option Call) (answered : Option (Answer X Y)) (d : Side)
        → (asked ≡ Some (Look (ReadingOf d)) → answered ≡ Some (answer s (after_all s (new from) calls) (Look (ReadingOf d))))
        → LawfulChannel s from (after_all s (new from) calls) (answers s (new from) calls) asked answered d
    lawful_channel calls asked answered d look =
        let a = run_advances s from calls d in
        let es : List Event = a.taken in
        let u : UnitState = after_all s (new from) calls in
        let tr : List (Entry _) = trace (from d) (said_by d (answers s (new from) calls)) in
        let is : heard (s d) fresh es ≡ tr = sym (trace_is_heard a) in
        let then : heard_after (s d) fresh es ≡ channel u d = sym a.is_then in
        record {
          paired = run_paired s from calls d;
          clean_series_received = subst (λ (xs : List (Entry _)). CleanSeriesReceived (s d).settings (events_of xs) (outcomes_of xs)) is (heard_clean_received (s d) es);
          moved_edges_tolerated = subst (λ (xs : List (Entry _)). MovedEdgesTolerated (s d).settings (events_of xs) (outcomes_of xs)) is (heard_moved_tolerated (s d) es);
          messages_whole = subst (MessagesWhole (s d)) is (messages d es (lawful_front es (left u d) (subst Lawful a.the_first_ones (lawful d))));
          undisturbed = run_undisturbed s from calls d;
          reading_told_by_reports =
              λ asks. look asks
              ∙ ap (λ (c : ChannelState). Some (Reading (reading_of (s d).settings c.latest))) (sym then)
              ∙ ap (λ (l : Option _). Some (Reading (reading_of (s d).settings l))) (latest_told (s d) fresh es)
              ∙ ap (λ (xs : List (Entry _)). Some (Reading (reading_of (s d).settings (latest_of None (outcomes_of xs))))) is;
          serial_told_by_frames = subst (SerialTold (s d)) is (serial_told (s d) (formats d).at_least_one es);
          closing_told_by_reports =
              subst (λ (c : ChannelState). ClosingTold (figures c) (outcomes_of tr)) then
              (subst (λ (xs : List (Entry _)). ClosingTold (figures (heard_after (s d) fresh es)) (outcomes_of xs)) is (closing_told (s d) es));
        }

pub lawful_run : {X Y : Type 0} (s : Setup X Y) (from : Side → List Event)
    → ((d : Side) → LawfulFormat (s d).format) → ((d : Side) → Lawful (from d))
    → ((d : Side) (es : List Event) → Lawful es → MessagesWhole (s d) (heard (s d) fresh es))
    → (calls : List Call) → LawfulRun s from calls (answers s (new from) calls)
lawful_run s from formats lawful messages calls =
    let got : List (Answer _ _) = answers s (new from) calls in
    λ k few d.
    subst (λ (xs : List (Answer _ _)). LawfulChannel s from (after_all s (new from) (take k calls)) xs (nth_of calls k) (nth_of got k) d) (sym (answers_take s (new from) k calls))
    (lawful_channel s from formats lawful messages (take k calls) (nth_of calls k) (nth_of got k) d
    (λ asks. answer_at_its_place s (new from) k calls (Look (ReadingOf d)) asks))

pub answered_in_turn : {X Y : Type 0} (s : Setup X Y) (from : Side → List Event) (calls : List Call)
    → AnsweredInTurn s from calls (answers s (new from) calls)
answered_in_turn s from calls =
    let got : List (Answer _ _) = answers s (new from) calls in
    record {
      one_answer_to_each_call = one_answer_each s (new from) calls;
      steps_in_turn =
          λ k few. in_turn s (after_all s (new from) (take k calls)) (nth_of calls k) (nth_of got k)
          (λ asks. answer_at_its_place s (new from) k calls StepCall asks);
      faults_told_at_their_events =
          λ k few d.
          subst (λ (xs : List (Answer _ _)). FaultsTold (trace (from d) (said_by d xs))) (sym (answers_take s (new from) k calls))
          (faults_in_channel s from (take k calls) d);
    }
