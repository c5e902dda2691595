-- The law speaks of something: runs in which each of its parts has something to say.
-- A's messages are short ones and B's enhanced ones.
use Rattle.std.specs.Prelude.{◌≡◌, ℕ, ◌+◌, ◌-◌, ◌*◌, ◌≤◌, cond, not, List, [], ◌∷◌, ◌++◌, map, length, take, drop, replicate, Some, None, Option, slice_index_or, slice_set}
use Rattle.std.proofs.Common.{lit≤}
use Rattle.model.specs.declared.settings.Settings.{Settings}
use Rattle.model.specs.declared.event.Event.{Event}
use Rattle.model.specs.declared.event.Event.TheVariants.{Edge, Break}
use Rattle.model.specs.declared.fault.FaultKind.TheVariants as kind
use Rattle.model.specs.declared.side.Side.{Side}
use Rattle.model.specs.declared.side.Side.TheVariants.{A as SideA, B as SideB}
use Rattle.model.specs.Events.{Lawful}
use Rattle.pulses.specs.declared.outcome.Outcome.{Outcome}
use Rattle.pulses.specs.declared.outcome.Outcome.TheVariants.{Quiet, Framed}
use Rattle.pulses.specs.Frames.{row}
use Rattle.pulses.specs.Steps.{fault}
use Rattle.series.specs.Sent.{Sent, frame_sent, next_place, next_time, frame_edges, series, series_end, Arrival, as_sent, moved, arrival_edges, arrivals, arrivals_end}
use Rattle.series.specs.Series.{Cut, past, CleanSeries, Received, MovedSeries, frames_of, faults_of, reports_of, frames_sent}
use Rattle.series.specs.Exhibits.{Content, exact_frame, exact_frames, shortest_pulse}
use Rattle.serial.specs.declared.pair.Pair.{Pair}
use Rattle.formats.specs.declared.short.ShortMessage.{ShortMessage}
use Rattle.formats.specs.declared.enhanced.EnhancedMessage.{EnhancedMessage}
use Rattle.formats.specs.declared.enhanced.Configuration.TheVariants.{Data12, Data16}
use Rattle.serial.specs.declared.report.SerialReport.{SerialReport}
use Rattle.serial.specs.declared.report.SerialReport.TheVariants.{Told, Failed as CheckFailed}
use Rattle.serial.specs.Format.{joined, LawfulFormat}
use Rattle.serial.specs.Pairs.{blank}
use Rattle.formats.specs.Short.{short, sent as short_list}
use Rattle.formats.specs.Enhanced.{enhanced, sent as enhanced_list}
use Rattle.receiver.specs.declared.answer.Reports.{Reports}
use Rattle.receiver.specs.declared.answer.Step.TheVariants.{A as StepA, B as StepB}
use Rattle.receiver.specs.declared.answer.StepRefusal.TheVariants.{NoEvent}
use Rattle.receiver.specs.declared.answer.Subject.TheVariants.{Reading as ReadingOf}
use Rattle.receiver.specs.declared.answer.Call.{Call}
use Rattle.receiver.specs.declared.answer.Call.TheVariants.{Look}
use Rattle.receiver.specs.declared.answer.Answer.{Answer}
use Rattle.receiver.specs.declared.answer.Answer.TheVariants.{Stepped, Refused, Reading}
use Rattle.receiver.specs.Units.{Messages, Setup, setup, lists, UnitState, left, channel, new, answers, after_all, figures}
use Rattle.runs.specs.Traces.{Said, said_by, Entry, trace, events_of, outcomes_of, timed_reports, Placed, messages_of, Timed, frame, fault as failed, message}
use Rattle.runs.specs.Law.{CutTrace, pairs_sent, places_sent, Stretch, whole_messages, starting_from, beside_empty, steps, RunsOut, reports_alone, nth_of, since_fault}

-- the messages of a channel
abbrev pub Message : Side → Type 0
Message d = Messages ShortMessage EnhancedMessage d

-- What is sent

-- a frame that carries a pair: the other bits of its status are 01, its data nibble is 4
abbrev pub carrying : Pair → Content
carrying x = record { status = cond x.high 8 0 + cond x.low 4 0 + 1; nibbles = 4 ∷ [] }

-- the frames that carry pairs, at so many counts a tick, their edges at the places from p on
abbrev pub frames_with : ℕ → ℕ → List Pair → List Sent
frames_with tick p xs = exact_frames shortest_pulse tick p (map carrying xs)

-- a frame that carries no serial bit
abbrev pub plain : ℕ → ℕ → Sent
plain tick p = exact_frame shortest_pulse tick p (carrying blank)

-- an edge (u, t), the frames that carry pairs, and the first two edges of one more frame
abbrev pub carried : ℕ → ℕ → ℕ → List Pair → List Event
carried tick u t xs =
    Edge u t
    ∷ (series t (frames_with tick (u + 1) xs) ++ take 2 (frame_edges (series_end t (frames_with tick (u + 1) xs)) (plain tick (u + 1 + 4 * length xs))))

abbrev pub short_message : ShortMessage
short_message = record { id = 3; «data» = 0x5A }

abbrev pub enhanced_message : EnhancedMessage
enhanced_message = record { configuration = Data16; id = 5; «data» = 0xA3C1 }

-- the lists of three messages, of which that message is the middle one
abbrev pub short_lists : List (List Pair)
short_lists = short_list (record { id = 9; «data» = 0xC7 }) ∷ short_list short_message ∷ short_list (record { id = 14; «data» = 0x21 }) ∷ []

abbrev pub enhanced_lists : List (List Pair)
enhanced_lists =
    enhanced_list (record { configuration = Data12; id = 0xB6; «data» = 0x3D7 })
    ∷ enhanced_list enhanced_message
    ∷ enhanced_list (record { configuration = Data12; id = 0x21; «data» = 0x804 }) ∷ []

-- of these lists, joined, the last two pairs of the first, all of the second, and the first pair of the third
abbrev pub short_stretch : List Pair
short_stretch = take 19 (drop 14 (joined short_lists))

abbrev pub enhanced_stretch : List Pair
enhanced_stretch = take 21 (drop 16 (joined enhanced_lists))

-- a list in which bit 2 of the pair with the number k is changed
abbrev pub spoiled : ℕ → List Pair → List Pair
spoiled k ps = slice_set ps k (record { high = (slice_index_or ps k blank).high; low = not (slice_index_or ps k blank).low })

-- three frames at 11 counts a tick: in the first the edge that ends the status comes a whole tick late, in the second the one that
-- ends the data nibble 5 counts early, and the third came as it was sent
abbrev pub moved_frames : List Arrival
moved_frames =
    moved (plain 11 1) (Edge 2 770 ∷ Edge 3 935 ∷ Edge 4 1111 ∷ [])
    ∷ moved (plain 11 5) (Edge 6 1870 ∷ Edge 7 2041 ∷ Edge 8 2222 ∷ [])
    ∷ as_sent (plain 11 9) ∷ []

-- Runs

-- how both channels are set up, what the sources give, and what is called
pub record Run : Type 0 where
  pub rules : Setup ShortMessage EnhancedMessage
  pub from : Side → List Event
  pub calls : List Call

-- all its answers; and after the first k calls the unit, what the answers told of a channel, and the channel's trace
abbrev pub answered : Run → List (Answer ShortMessage EnhancedMessage)
answered r = answers r.rules (new r.from) r.calls

abbrev pub unit_at : Run → ℕ → UnitState
unit_at r k = after_all r.rules (new r.from) (take k r.calls)

abbrev pub said_at : Run → ℕ → (d : Side) → List (Said (Message d))
said_at r k d = said_by d (take k (answered r))

abbrev pub trace_at : Run → ℕ → (d : Side) → List (Entry (Message d))
trace_at r k d = trace (r.from d) (said_at r k d)

abbrev pub look : Side → List Call
look d = Look (ReadingOf d) ∷ []

-- both channels nominally at 10 counts a tick, with one data nibble
abbrev pub both : Setup ShortMessage EnhancedMessage
both = setup (record { settings = shortest_pulse; format = short }) (record { settings = shortest_pulse; format = enhanced })

-- A has a break and then a clean series, 80 events; B the frames with moved edges and one edge more, 14 events. Both begin at the
-- time 0. There are two steps more than events.
abbrev pub short_run : Run
short_run =
    record {
      rules = both;
      from = lists (Break 0 0 ∷ carried 10 1 100 short_stretch) (Edge 0 0 ∷ (arrivals 0 moved_frames ++ take 1 (arrival_edges (arrivals_end 0 moved_frames) (as_sent (plain 11 13)))));
      calls = steps 96;
    }

-- A has nothing, and B a break and then a clean series, 88 events
abbrev pub enhanced_run : Run
enhanced_run = record { rules = both; from = lists [] (Break 0 0 ∷ carried 11 1 100 enhanced_stretch); calls = steps 88 }

-- one channel has the list of a message in which a bit of the check is changed, the last one or the first one, and the other has
-- nothing; the first is looked at after all its events
abbrev pub short_spoiled_list : List Pair
short_spoiled_list = spoiled 15 (short_list short_message)

abbrev pub short_spoiled : Run
short_spoiled = record { rules = both; from = lists (carried 10 0 0 short_spoiled_list) []; calls = steps 67 ++ look SideA }

abbrev pub enhanced_spoiled : Run
enhanced_spoiled = record { rules = both; from = lists [] (carried 11 0 0 (spoiled 0 (enhanced_list enhanced_message))); calls = steps 75 }

-- A has the first eight pairs of a list, then a break, and then the other eight
abbrev pub short_broken : Run
short_broken =
    record {
      rules = both;
      from = lists (take 33 (carried 10 0 0 (short_list short_message)) ++ Break 33 10000 ∷ carried 10 34 10100 (drop 8 (short_list short_message))) [];
      calls = steps 69;
    }

-- six data nibbles
abbrev pub six_nibbles : Settings
six_nibbles = record { calibration = 560; nibbles = 6; long = lit≤ tt; short = lit≤ tt; some = lit≤ tt; few = lit≤ tt }

abbrev pub wide_frame : Sent
wide_frame = exact_frame six_nibbles 10 1 (record { status = 2; nibbles = 0xB ∷ 0x0 ∷ 0x7 ∷ 0x1 ∷ 0xF ∷ 0x9 ∷ [] })

-- A, here with six data nibbles, has one frame and then a break, and B the frames with moved edges. A is looked at first of all, after
-- its frame, and after its break; B after the fault of its first frame, and after its second frame.
abbrev pub looked_at : Run
looked_at =
    record {
      rules = setup (record { settings = six_nibbles; format = short }) (record { settings = shortest_pulse; format = enhanced });
      from = lists (Edge 0 0 ∷ (series 0 (wide_frame ∷ []) ++ Break 10 2500 ∷ [])) (Edge 0 0 ∷ arrivals 0 moved_frames);
      calls = look SideA ++ (steps 10 ++ (look SideB ++ (steps 7 ++ (look SideA ++ (steps 2 ++ (look SideB ++ (steps 1 ++ look SideA)))))));
    }

-- What is shown of them

-- after k calls the trace of d can be cut at an edge that starts a clean series of so many frames, and it was received: all the frames
-- came
pub record CleanSeriesComes (r : Run) (k : ℕ) (d : Side) (count : ℕ) : Type 0 where
  pub in_the_run : k ≤ length r.calls
  pub cut : Cut (events_of (trace_at r k d))
  pub clean : CleanSeries (r.rules d).settings cut.time cut.rest
  pub so_many : length clean.sent ≡ count
  pub received : Received cut.place clean.sent (past cut (outcomes_of (trace_at r k d)))

-- the pairs of such a series are a stretch of lawful lists, from the pair with the number `from` on, and the messages that start in
-- it are these: those that came, and those of the lists that stand whole in it
pub record MessagesCome (r : Run) (k : ℕ) (d : Side) (from : ℕ) (ls : List (List Pair)) (ms : List (Placed (Message d))) : Type 0 where
  pub in_the_run : k ≤ length r.calls
  pub cut : CutTrace (trace_at r k d)
  pub clean : CleanSeries (r.rules d).settings cut.time (events_of cut.rest)
  pub stretch : Stretch (r.rules d).format (pairs_sent clean.sent)
  pub of_these_lists : stretch.list ≡ ls
  pub from_this_pair : length stretch.pre ≡ from
  pub came : starting_from cut.place (messages_of cut.rest) ≡ ms
  pub whole : whole_messages (r.rules d).format from (places_sent cut.place clean.sent) 0 ls ≡ ms

-- after k calls the trace of d can be cut at an edge that starts a series of these frames, some of them with a moved edge, which
-- gave these frames and faults
pub record MovedSeriesComes (r : Run) (k : ℕ) (d : Side) (hs : List Arrival) (os : List Outcome) : Type 0 where
  pub in_the_run : k ≤ length r.calls
  pub cut : Cut (events_of (trace_at r k d))
  pub series : MovedSeries (r.rules d).settings cut.time cut.rest
  pub of_these : series.came ≡ hs
  pub gave : reports_of (past cut (outcomes_of (trace_at r k d))) ≡ os

-- beside an empty source the unit runs out after n steps and no sooner; d has then given these reports, and in the run, at whose end
-- it has no event left, the same
pub record UndisturbedToTheEnd (r : Run) (d : Side) (n : ℕ) (reports : List (Timed (Message d))) : Type 0 where
  pub runs_out : RunsOut r.rules (new (beside_empty d r.from)) n
  pub no_sooner : RunsOut r.rules (new (beside_empty d r.from)) (n - 1) → ⊥
  pub given_alone : reports_alone r.rules r.from d n ≡ reports
  pub none_left : left (unit_at r (length r.calls)) d ≡ []
  pub given_in_the_run : timed_reports (said_at r (length r.calls) d) ≡ reports

-- after k calls of the run, so many events are left to d, and so many reports have come
pub record UnderWay (r : Run) (k : ℕ) (d : Side) (events reports : ℕ) : Type 0 where
  pub in_the_run : k ≤ length r.calls
  pub so_many_left : length (left (unit_at r k) d) ≡ events
  pub so_many_came : length (timed_reports (said_at r k d)) ≡ reports

-- The call with the number k looks at the reading of d. The channel had then reported these frames and faults, and the answer is this.
pub record ReadingAnswered (r : Run) (k : ℕ) (d : Side) (os : List Outcome) (reading : Option ℕ) : Type 0 where
  pub asked : nth_of r.calls k ≡ Some (Look (ReadingOf d))
  pub had_reported : reports_of (outcomes_of (trace_at r k d)) ≡ os
  pub answer : nth_of (answered r) k ≡ Some (Reading reading)

-- after k calls the trace of d has an entry at which its serial pairs tell this, so many frames having come since the latest fault
pub record SerialReportComes (r : Run) (k : ℕ) (d : Side) (report : SerialReport (Message d)) (frames : ℕ) : Type 0 where
  pub in_the_run : k ≤ length r.calls
  pub before : List (Entry (Message d))
  pub entry : Entry (Message d)
  pub after : List (Entry (Message d))
  pub is : trace_at r k d ≡ before ++ entry ∷ after
  pub tells : entry.said.serial ≡ Some report
  pub so_many_frames : length (since_fault [] (outcomes_of before ++ entry.said.pulse ∷ [])) ≡ frames

-- after k calls the figures of d are these, and so many are the frames and the faults among its reports
pub record FiguresCome (r : Run) (k : ℕ) (d : Side) (frames faults : ℕ) : Type 0 where
  pub in_the_run : k ≤ length r.calls
  pub figures_then : figures (channel (unit_at r k) d) ≡ record { frames = frames; faults = faults }
  pub frames_reported : length (frames_of (outcomes_of (trace_at r k d))) ≡ frames
  pub faults_reported : length (faults_of (outcomes_of (trace_at r k d))) ≡ faults

-- what is reported at a step at which the serial pairs tell nothing
abbrev pub pulse_only : {M : Type 0} → Outcome → Reports M
pulse_only o = record { pulse = o; serial = None }

-- the rows of the frames that carry a plain pair or six nibbles, started at the edge of the place u
abbrev pub plain_row : ℕ → Outcome
plain_row u = Framed (row u 1 (4 ∷ 0 ∷ 0 ∷ 0 ∷ 0 ∷ 0 ∷ []))

abbrev pub wide_row : Outcome
wide_row = Framed (row 0 2 (0xB ∷ 0x0 ∷ 0x7 ∷ 0x1 ∷ 0xF ∷ 0x9 ∷ []))

-- the reports of frames sent, the first of which starts at the edge (u, t), with the times at which they end
abbrev pub frame_reports : {M : Type 0} → ℕ → ℕ → List Sent → List (Timed M)
frame_reports u t [] = []
frame_reports u t (f ∷ fs) = record { time = next_time t f; report = frame (frame_sent u f) } ∷ frame_reports (next_place f) (next_time t f) fs

-- all reports of `short_run`: A's break and 19 frames, and after the 18th frame, at its time, the message; B's fault and two frames
abbrev pub reports_of_a : List (Timed ShortMessage)
reports_of_a =
    record { time = 0; report = failed (record { kind = kind.Break; place = 0 }) }
    ∷ (take 18 (frame_reports 1 100 (frames_with 10 2 short_stretch))
    ++ record { time = series_end 100 (take 18 (frames_with 10 2 short_stretch)); report = message 9 short_message }
    ∷ drop 18 (frame_reports 1 100 (frames_with 10 2 short_stretch)))

abbrev pub reports_of_b : List (Timed EnhancedMessage)
reports_of_b =
    record { time = 1111; report = failed (record { kind = kind.FrameCheck; place = 4 }) }
    ∷ frame_reports 4 1111 (plain 11 5 ∷ plain 11 9 ∷ [])

-- every list of events is one that a source may give
pub record ListsLawful (r : Run) : Type 0 where
  pub of_a : Lawful (r.from SideA)
  pub of_b : Lawful (r.from SideB)

-- The runs are such as a unit can make, with lawful formats and lawful lists; and of each part of the law, what it speaks of comes.
pub record LawHasInstances : Type 0 where
  pub short_lawful : LawfulFormat (both SideA).format
  pub enhanced_lawful : LawfulFormat (both SideB).format
  pub short_run_lawful : ListsLawful short_run
  pub enhanced_run_lawful : ListsLawful enhanced_run
  pub short_spoiled_lawful : ListsLawful short_spoiled
  pub enhanced_spoiled_lawful : ListsLawful enhanced_spoiled
  pub short_broken_lawful : ListsLawful short_broken
  pub looked_at_lawful : ListsLawful looked_at
  -- clean series
  pub clean_series_of_a : CleanSeriesComes short_run 94 SideA 19
  pub clean_series_of_b : CleanSeriesComes enhanced_run 88 SideB 21
  -- messages
  pub short_message_whole : MessagesCome short_run 94 SideA 14 short_lists (record { place = 9; message = short_message } ∷ [])
  pub enhanced_message_whole : MessagesCome enhanced_run 88 SideB 16 enhanced_lists (record { place = 9; message = enhanced_message } ∷ [])
  -- moved edges: a fault, a frame all the same, and the frame as it was sent
  pub moved_edges_of_b : MovedSeriesComes short_run 94 SideB moved_frames (fault kind.FrameCheck 4 ∷ plain_row 4 ∷ plain_row 8 ∷ [])
  -- undisturbed
  pub undisturbed_a : UndisturbedToTheEnd short_run SideA 80 reports_of_a
  pub undisturbed_b : UndisturbedToTheEnd short_run SideB 14 reports_of_b
  pub reports_of_a_in_all : length reports_of_a ≡ 21
  pub reports_of_b_in_all : length reports_of_b ≡ 3
  pub a_under_way : UnderWay short_run 20 SideA 69 3
  pub b_under_way : UnderWay short_run 20 SideB 5 2
  -- readings
  pub none_before_a_frame : ReadingAnswered looked_at 0 SideA [] None
  pub none_after_a_fault : ReadingAnswered looked_at 11 SideB (fault kind.FrameCheck 4 ∷ []) None
  pub three_nibbles_of_six : ReadingAnswered looked_at 19 SideA (wide_row ∷ []) (Some 0xB07)
  pub the_only_nibble : ReadingAnswered looked_at 22 SideB (fault kind.FrameCheck 4 ∷ plain_row 4 ∷ []) (Some 4)
  pub none_again_after_a_fault : ReadingAnswered looked_at 24 SideA (wide_row ∷ fault kind.Break 10 ∷ []) None
  pub reading_outlives_a_serial_fault : ReadingAnswered short_spoiled 67 SideA (map Framed (frames_sent 0 (frames_with 10 1 short_spoiled_list))) (Some 4)
  -- serial reports, and none where a fault comes between the frames of a list
  pub short_message_told : SerialReportComes short_run 94 SideA (Told 9 short_message) 18
  pub enhanced_message_told : SerialReportComes enhanced_run 88 SideB (Told 9 enhanced_message) 20
  pub short_check_fails : SerialReportComes short_spoiled 67 SideA (CheckFailed (record { kind = kind.SerialCheck; place = 64 })) 16
  pub enhanced_check_fails : SerialReportComes enhanced_spoiled 75 SideB (CheckFailed (record { kind = kind.SerialCheck; place = 72 })) 18
  pub broken_list_tells_nothing : map (λ x. x.said.serial) (trace_at short_broken 69 SideA) ≡ replicate 69 None
  -- closing
  pub figures_of_a : FiguresCome short_run 96 SideA 19 1
  pub figures_of_b : FiguresCome short_run 96 SideB 2 1
  pub serial_faults_not_counted : FiguresCome short_spoiled 68 SideA 16 0
  -- the order of steps: A's first where times are equal, and the end refused as often as it is asked for
  pub order_by_time :
      take 4 (answered short_run) ≡ Stepped (StepA 0 (pulse_only (fault kind.Break 0))) ∷ Stepped (StepB 0 (pulse_only Quiet)) ∷ Stepped (StepA 100 (pulse_only Quiet)) ∷ Stepped (StepB 616 (pulse_only Quiet)) ∷ []
  pub refused_at_the_end : drop 94 (answered short_run) ≡ Refused NoEvent ∷ Refused NoEvent ∷ []
