-- The law of every run of a unit. Whatever both sources give and whatever is called, at the start and after each call, of each channel.
use Rattle.std.specs.Prelude.{◌≡◌, ℕ, ◌+◌, ◌-◌, ◌<◌, ◌≤◌, cond, ◌&&◌, List, [], ◌∷◌, ◌++◌, map, length, take, drop, replicate, Some, None, Option, nat_le, slice_index}
use Rattle.std.specs.List.{AllByRecursion}
use Rattle.model.specs.declared.settings.Settings.{Settings}
use Rattle.model.specs.declared.event.Event.{Event}
use Rattle.model.specs.declared.event.Event.TheVariants.{Edge}
use Rattle.model.specs.declared.fault.Fault.{Fault}
use Rattle.model.specs.declared.fault.Layer.{Layer}
use Rattle.model.specs.declared.fault.Layer.TheVariants.{Source, Pulse, Frame, Serial}
use Rattle.model.specs.Faults.{layer}
use Rattle.model.specs.declared.side.Side.{Side}
use Rattle.model.specs.declared.side.Side.TheVariants.{A as SideA, B as SideB}
use Rattle.model.specs.Events.{time_of, place_of, first}
use Rattle.pulses.specs.declared.frame.FrameRow.{FrameRow}
use Rattle.pulses.specs.declared.outcome.Outcome.{Outcome}
use Rattle.pulses.specs.declared.outcome.Outcome.TheVariants.{Quiet, Skipped, Framed, Failed}
use Rattle.series.specs.Sent.{Sent, next_place}
use Rattle.series.specs.Series.{CleanSeries, CleanSeriesReceived, MovedEdgesTolerated, frames_of, faults_of}
use Rattle.serial.specs.declared.pair.Pair.{Pair}
use Rattle.serial.specs.Pairs.{pair_of}
use Rattle.serial.specs.Format.{Format, joined, AllLawful}
use Rattle.serial.specs.Windows.{Kept, last}
use Rattle.receiver.specs.declared.answer.Call.{Call}
use Rattle.receiver.specs.declared.answer.Call.TheVariants.{Step as StepCall, Look}
use Rattle.receiver.specs.declared.answer.Subject.TheVariants.{Reading as ReadingOf}
use Rattle.receiver.specs.declared.answer.StepRefusal.TheVariants.{NoEvent}
use Rattle.receiver.specs.declared.answer.Answer.{Answer}
use Rattle.receiver.specs.declared.answer.Answer.TheVariants.{Stepped, Refused, Reading}
use Rattle.receiver.specs.declared.answer.Reports.{Reports}
use Rattle.receiver.specs.declared.answer.Step.TheVariants.{A as StepA, B as StepB}
use Rattle.receiver.specs.declared.answer.Figures.{Figures}
use Rattle.receiver.specs.Channels.{Rules, kept_of, serial_after, reading_of, capped}
use Rattle.receiver.specs.Units.{Messages, Setup, UnitState, left, channel, new, answer, answers, after_all, figures}
use Rattle.runs.specs.Traces.{Said, said_by, Entry, trace, events_of, outcomes_of, Timed, timed_reports, Placed, messages_of}

-- The trace is computed: the step answers of a channel, one to one with the first events of its source's list.
pub record Paired {M : Type 0} (list : List Event) (said : List (Said M)) (left_over : List Event) : Type 0 where
  pub no_more_than_there_are : length said ≤ length list
  pub times_agree : map (λ s. s.time) said ≡ map time_of (take (length said) list)
  pub the_rest_is_left : left_over ≡ drop (length said) list
  pub none_left_exactly_at_the_end : (left_over ≡ [] → length said ≡ length list) × (length said ≡ length list → left_over ≡ [])

-- Messages whole

-- a trace cut at an edge: what came before it, the edge, and the rest
pub record CutTrace {M : Type 0} (tr : List (Entry M)) : Type 0 where
  pub before : List (Entry M)
  pub first : Entry M
  pub place : ℕ
  pub time : ℕ
  pub rest : List (Entry M)
  pub at_an_edge : first.event ≡ Edge place time
  pub is : tr ≡ before ++ first ∷ rest

-- the pairs of frames sent, and the places at which they start, the first at the place u
abbrev pub pairs_sent : List Sent → List Pair
pairs_sent fs = map (λ f. pair_of f.status.value) fs

abbrev pub places_sent : ℕ → List Sent → List ℕ
places_sent u [] = []
places_sent u (f ∷ fs) = u ∷ places_sent (next_place f) fs

-- pairs that are a stretch of lawful lists joined, from anywhere in them to anywhere
pub record Stretch {M : Type 0} (f : Format M) (ps : List Pair) : Type 0 where
  pub list : List (List Pair)
  pub all_lawful : AllLawful f list
  pub pre : List Pair
  pub post : List Pair
  pub lies : joined list ≡ pre ++ (ps ++ post)

-- a message, if there is one, at this place
abbrev pub placed : {M : Type 0} → ℕ → Option M → List (Placed M)
placed p None = []
placed p (Some m) = record { place = p; message = m } ∷ []

-- The messages of the lists that stand whole in a stretch. The first of the lists starts at the pair number i of the joining, and
-- the stretch has the pairs from the number `from` on, whose frames start at these places.
abbrev pub whole_messages : {M : Type 0} → Format M → ℕ → List ℕ → ℕ → List (List Pair) → List (Placed M)
whole_messages f from places i [] = []
whole_messages f from places i (l ∷ ls) =
    cond (nat_le from i && nat_le (i + length l) (from + length places)) (placed (slice_index places (i - from)) (f.told l)) []
    ++ whole_messages f from places (i + length l) ls

-- the messages whose first frame starts at the place u or later
abbrev pub starting_from : {M : Type 0} → ℕ → List (Placed M) → List (Placed M)
starting_from u [] = []
starting_from u (x ∷ xs) = cond (nat_le u x.place) (x ∷ starting_from u xs) (starting_from u xs)

-- wherever the trace is cut at an edge that starts a clean series whose pairs are such a stretch, the messages that start at that edge or
-- later are those of the whole lists, in order, each with the place of its first frame
abbrev pub MessagesWhole : {M : Type 0} → Rules M → List (Entry M) → Type 0
MessagesWhole rules tr =
    (c : CutTrace tr) (z : CleanSeries rules.settings c.time (events_of c.rest)) (x : Stretch rules.format (pairs_sent z.sent))
    → starting_from c.place (messages_of c.rest) ≡ whole_messages rules.format (length x.pre) (places_sent c.place z.sent) 0 x.list

-- Undisturbed

-- the list of the side d, and the other one empty
abbrev pub beside_empty : Side → (Side → List Event) → Side → List Event
beside_empty SideA from SideA = from SideA
beside_empty SideA from SideB = []
beside_empty SideB from SideA = []
beside_empty SideB from SideB = from SideB

abbrev pub steps : ℕ → List Call
steps n = replicate n StepCall

-- after n steps the next one is refused, since no event is left
abbrev pub RunsOut : {X Y : Type 0} → Setup X Y → UnitState → ℕ → Type 0
RunsOut s u n = answer s (after_all s u (steps n)) StepCall ≡ Refused NoEvent

-- what the side d reports beside an empty source in n steps
abbrev pub reports_alone : {X Y : Type 0} → Setup X Y → (Side → List Event) → (d : Side) → ℕ → List (Timed (Messages X Y d))
reports_alone s from d n = timed_reports (said_by d (answers s (new (beside_empty d from)) (steps n)))

-- Beside an empty source the unit runs out of events. The channel's reports are the first of those that it gives there, and all of
-- them once its own source has no event left.
pub record Undisturbed {X Y : Type 0} (s : Setup X Y) (from : Side → List Event) (d : Side) (said : List (Said (Messages X Y d))) (left_over : List Event) : Type 0 where
  pub runs_out : (n : ℕ) × RunsOut s (new (beside_empty d from)) n
  pub the_first_of_those_alone : (n : ℕ) → RunsOut s (new (beside_empty d from)) n
      → (more : List (Timed (Messages X Y d))) × (timed_reports said ++ more ≡ reports_alone s from d n)
  pub all_at_the_end : left_over ≡ [] → (n : ℕ) → RunsOut s (new (beside_empty d from)) n → timed_reports said ≡ reports_alone s from d n

-- Told by the reports

-- the latest frame, if no fault of the pulses came after it
abbrev pub latest_of : Option FrameRow → List Outcome → Option FrameRow
latest_of l [] = l
latest_of l (Quiet ∷ os) = latest_of l os
latest_of l (Skipped ∷ os) = latest_of l os
latest_of l (Framed r ∷ os) = latest_of (Some r) os
latest_of l (Failed f ∷ os) = latest_of None os

-- the element with the number k of a list, if there is one
abbrev pub nth_of : {T : Type 0} → List T → ℕ → Option T
nth_of xs k = elim (drop k xs) [ [] ↦ None | x ∷ more ↦ Some x ]

-- where the next call looks at the reading of d, the answer is the reading of the latest frame that was reported, or none if there
-- was none or a fault of the pulses was reported after it
abbrev pub ReadingTold : {X Y : Type 0} → Settings → (d : Side) → List Outcome → Option Call → Option (Answer X Y) → Type 0
ReadingTold s d os asked answered = asked ≡ Some (Look (ReadingOf d)) → answered ≡ Some (Reading (reading_of s (latest_of None os)))

-- the frames reported since the latest fault of the pulses, as pairs with places
abbrev pub since_fault : List Kept → List Outcome → List Kept
since_fault ks [] = ks
since_fault ks (Quiet ∷ os) = since_fault ks os
since_fault ks (Skipped ∷ os) = since_fault ks os
since_fault ks (Framed r ∷ os) = since_fault (ks ++ kept_of r ∷ []) os
since_fault ks (Failed f ∷ os) = since_fault [] os

-- at each entry of a trace the serial report is what the format says of the pairs of the last frames, as many as a message has, that were
-- reported since the latest fault, if the entry brings a frame; and nothing else
abbrev pub SerialTold : {M : Type 0} → Rules M → List (Entry M) → Type 0
SerialTold rules tr =
    (before after : List (Entry _)) (x : Entry _) → tr ≡ before ++ x ∷ after
    → x.said.serial ≡ serial_after rules.format (last rules.format.size (since_fault [] (outcomes_of before ++ x.said.pulse ∷ []))) (place_of x.event) x.said.pulse

-- a layer below the serial one
abbrev pub BelowSerial : Layer → Type 0
BelowSerial Source = Unit {0}
BelowSerial Pulse = Unit {0}
BelowSerial Frame = Unit {0}
BelowSerial Serial = ⊥

-- a fault of the pulses is of a layer below the serial one, and has the place of the event that showed it
abbrev pub FaultsTold : {M : Type 0} → List (Entry M) → Type 0
FaultsTold tr = AllByRecursion (λ x. (f : Fault) → x.said.pulse ≡ Failed f → BelowSerial (layer f.kind) × (f.place ≡ place_of x.event)) tr

-- the closing figures are the numbers of frames and of faults of the pulses among the reports, each stopped at its greatest
pub record ClosingTold (f : Figures) (os : List Outcome) : Type 0 where
  pub frames : f.frames ≡ capped (length (frames_of os))
  pub faults : f.faults ≡ capped (length (faults_of os))

-- The law

-- of the channel d, where these answers have been given and the unit then is u, the next call and its answer being these
pub record LawfulChannel {X Y : Type 0} (s : Setup X Y) (from : Side → List Event) (u : UnitState) (got : List (Answer X Y)) (asked : Option Call) (answered : Option (Answer X Y)) (d : Side) : Type 0 where
  pub paired : Paired (from d) (said_by d got) (left u d)
  pub clean_series_received : CleanSeriesReceived (s d).settings (events_of (trace (from d) (said_by d got))) (outcomes_of (trace (from d) (said_by d got)))
  pub moved_edges_tolerated : MovedEdgesTolerated (s d).settings (events_of (trace (from d) (said_by d got))) (outcomes_of (trace (from d) (said_by d got)))
  pub messages_whole : MessagesWhole (s d) (trace (from d) (said_by d got))
  pub undisturbed : Undisturbed s from d (said_by d got) (left u d)
  pub reading_told_by_reports : ReadingTold (s d).settings d (outcomes_of (trace (from d) (said_by d got))) asked answered
  pub serial_told_by_frames : SerialTold (s d) (trace (from d) (said_by d got))
  pub closing_told_by_reports : ClosingTold (figures (channel u d)) (outcomes_of (trace (from d) (said_by d got)))

-- Each step in its turn: where the unit is u, the next call being `asked` and its answer `answered`. A step is refused exactly if neither
-- source has an event left. An event of A is not later than the next one of B, and an event of B is earlier than the next one of A. Times
-- never fall within a source, so the reports of both channels come in the order of their times.
pub record InTurn {X Y : Type 0} (u : UnitState) (asked : Option Call) (answered : Option (Answer X Y)) : Type 0 where
  pub refused_only_at_the_end : asked ≡ Some StepCall → answered ≡ Some (Refused NoEvent) → (u.left_a ≡ []) × (u.left_b ≡ [])
  pub refused_at_the_end : asked ≡ Some StepCall → u.left_a ≡ [] → u.left_b ≡ [] → answered ≡ Some (Refused NoEvent)
  pub a_not_after_b : (t : ℕ) (r : Reports X) (e : Event) → asked ≡ Some StepCall → answered ≡ Some (Stepped (StepA t r)) → first u.left_b ≡ Some e → t ≤ time_of e
  pub b_before_a : (t : ℕ) (r : Reports Y) (e : Event) → asked ≡ Some StepCall → answered ≡ Some (Stepped (StepB t r)) → first u.left_a ≡ Some e → t < time_of e

-- at the start and after each call, of both channels, the answers given being these. A series reaches up to the latest event that the channel
-- was given; since this holds after every call, a series that ended earlier is spoken of where it ended.
abbrev pub LawfulRun : {X Y : Type 0} → Setup X Y → (Side → List Event) → List Call → List (Answer X Y) → Type 0
LawfulRun s from calls got =
    (k : ℕ) → k ≤ length calls → (d : Side)
    → LawfulChannel s from (after_all s (new from) (take k calls)) (take k got) (nth_of calls k) (nth_of got k) d

-- What the law of both channels leaves open, of the answers to calls on a new unit: there is one to each call; and at the start and after
-- each call the next step comes in its turn, and the faults of both channels are told at their events.
pub record AnsweredInTurn {X Y : Type 0} (s : Setup X Y) (from : Side → List Event) (calls : List Call) (got : List (Answer X Y)) : Type 0 where
  pub one_answer_to_each_call : length got ≡ length calls
  pub steps_in_turn : (k : ℕ) → k ≤ length calls → InTurn (after_all s (new from) (take k calls)) (nth_of calls k) (nth_of got k)
  pub faults_told_at_their_events : (k : ℕ) → k ≤ length calls → (d : Side) → FaultsTold (trace (from d) (said_by d (take k got)))
