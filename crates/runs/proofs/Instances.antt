-- The law has instances.
use Rattle.std.proofs.Common.{◌≡◌, ℕ, suc, ◌+◌, ◌*◌, ◌<◌, ◌≤◌, Bool, true, false, cond, List, [], ◌∷◌, ◌++◌, map, length, get_or, take, drop, Some, sym, refl, ap, lit<, lit≤}
use lib.Seq.{split_at}
use Rattle.std.specs.List.{AllByRecursion}
use Rattle.std.proofs.lemmas.Bool.{true≢false}
use Rattle.model.specs.declared.event.Event.TheVariants.{Edge, Break}
use Rattle.model.specs.declared.fault.FaultKind.TheVariants as kind
use Rattle.model.specs.declared.side.Side.{Side}
use Rattle.model.specs.declared.side.Side.TheVariants.{A as SideA, B as SideB}
use Rattle.checks.specs.Checks.{entry, check4, check6}
use Rattle.pulses.specs.declared.outcome.Outcome.TheVariants.{Quiet}
use Rattle.pulses.specs.Intervals.{window, ticks}
use Rattle.pulses.specs.Frames.{frame_check}
use Rattle.pulses.specs.Steps.{step, after_frame, fault}
use Rattle.series.specs.Sent.{Clean, here, later, as_sent}
use Rattle.series.specs.Series.{CleanSeries}
use Rattle.series.specs.Exhibits.{Sendable, shortest_pulse}
use Rattle.series.proofs.Exhibited.{exact_series_clean}
use Rattle.serial.specs.declared.pair.Pair.{Pair}
use Rattle.serial.specs.declared.report.SerialReport.{SerialReport}
use Rattle.serial.specs.declared.report.SerialReport.TheVariants.{Told, Failed as CheckFailed}
use Rattle.serial.specs.Format.{joined}
use Rattle.serial.specs.Pairs.{blank}
use Rattle.formats.specs.ShortLaw.{short_lawful}
use Rattle.formats.specs.EnhancedLaw.{enhanced_lawful}
use Rattle.runs.proofs.LawfulTest.{lawful, lawful_told}
use Rattle.receiver.specs.declared.answer.Answer.{Answer}
use Rattle.receiver.specs.declared.answer.Answer.TheVariants.{Stepped, Refused, Reading}
use Rattle.runs.specs.Traces.{Entry, outcomes_of}
use Rattle.runs.specs.Law.{since_fault}
use Rattle.runs.specs.Instances.{Message, carrying, frames_with, plain, carried, short_message, enhanced_message, pulse_only, plain_row, reports_of_a, reports_of_b, short_lists, enhanced_lists, short_stretch, enhanced_stretch, moved_frames, Run, trace_at, short_run, enhanced_run, short_spoiled, enhanced_spoiled, short_broken, looked_at, CleanSeriesComes, MessagesCome, MovedSeriesComes, UndisturbedToTheEnd, UnderWay, SerialReportComes, ListsLawful, LawHasInstances}

-- The lists

lists_lawful : (r : Run) → lawful (r.from SideA) ≡ true → lawful (r.from SideB) ≡ true → ListsLawful r
lists_lawful r a b = record { of_a = lawful_told (r.from SideA) a; of_b = lawful_told (r.from SideB) b }

-- Clean frames

small_status : (high low : Bool) → cond high 8 0 + cond low 4 0 + 1 < 16
small_status true true = lit< tt
small_status true false = lit< tt
small_status false true = lit< tt
small_status false false = lit< tt

sendable : (x : Pair) → Sendable shortest_pulse (carrying x)
sendable x = record { status_small = small_status x.high x.low; nibbles_small = (lit< tt, tt); count = refl }

all_sendable : (xs : List Pair) → AllByRecursion (Sendable shortest_pulse) (map carrying xs)
all_sendable [] = tt
all_sendable (x ∷ xs) = (sendable x, all_sendable xs)

module _ (tick : ℕ) (passes : window shortest_pulse (56 * tick) ≡ true) where
  clean_frames : (p : ℕ) (xs : List Pair) → AllByRecursion (Clean shortest_pulse) (frames_with tick p xs)
  clean_frames p xs =
      let z = exact_series_clean shortest_pulse tick p p 0 (map carrying xs) (carrying blank) 0 passes (all_sendable xs) (sendable blank) (lit< tt) in
      rw z.1 at z.0.clean

  clean_plain : (p : ℕ) → Clean shortest_pulse (plain tick p)
  clean_plain p = (clean_frames p (blank ∷ [])).0

ten_passes : window shortest_pulse (56 * 10) ≡ true
unfolding window
ten_passes = refl

eleven_passes : window shortest_pulse (56 * 11) ≡ true
unfolding window
eleven_passes = refl

-- the frames that carry pairs, and two edges of one more
carried_clean : (tick : ℕ) → window shortest_pulse (56 * tick) ≡ true → (u t : ℕ) (xs : List Pair) → CleanSeries shortest_pulse t (drop 1 (carried tick u t xs))
carried_clean tick passes u t xs =
    record {
      sent = frames_with tick (u + 1) xs;
      clean = clean_frames tick passes (u + 1) xs;
      cut_short = plain tick (u + 1 + 4 * length xs);
      cut_clean = clean_plain tick passes (u + 1 + 4 * length xs);
      some = 2;
      not_all = lit< tt;
      are = refl;
    }

-- The runs, by computing them

short_run_lawful : ListsLawful short_run
unfolding frame_check check4 check6 entry
short_run_lawful = lists_lawful short_run refl refl

enhanced_run_lawful : ListsLawful enhanced_run
unfolding frame_check check4 check6 entry
enhanced_run_lawful = lists_lawful enhanced_run refl refl

short_spoiled_lawful : ListsLawful short_spoiled
unfolding frame_check check4 check6 entry
short_spoiled_lawful = lists_lawful short_spoiled refl refl

enhanced_spoiled_lawful : ListsLawful enhanced_spoiled
unfolding frame_check check4 check6 entry
enhanced_spoiled_lawful = lists_lawful enhanced_spoiled refl refl

short_broken_lawful : ListsLawful short_broken
unfolding frame_check check4 check6 entry
short_broken_lawful = lists_lawful short_broken refl refl

looked_at_lawful : ListsLawful looked_at
unfolding frame_check check4 check6 entry
looked_at_lawful = lists_lawful looked_at refl refl

clean_series_of_a : CleanSeriesComes short_run 94 SideA 19
unfolding carried_clean step window ticks after_frame frame_check check4 check6 entry
clean_series_of_a =
    record {
      in_the_run = lit≤ tt;
      cut = record { before = Break 0 0 ∷ []; place = 1; time = 100; rest = drop 2 (short_run.from SideA); is = refl };
      clean = carried_clean 10 ten_passes 1 100 short_stretch;
      so_many = refl;
      received = record { frames_exactly = refl; no_fault_after_calibration = refl };
    }

clean_series_of_b : CleanSeriesComes enhanced_run 88 SideB 21
unfolding carried_clean step window ticks after_frame frame_check check4 check6 entry
clean_series_of_b =
    record {
      in_the_run = lit≤ tt;
      cut = record { before = Break 0 0 ∷ []; place = 1; time = 100; rest = drop 2 (enhanced_run.from SideB); is = refl };
      clean = carried_clean 11 eleven_passes 1 100 enhanced_stretch;
      so_many = refl;
      received = record { frames_exactly = refl; no_fault_after_calibration = refl };
    }

short_message_whole : MessagesCome short_run 94 SideA 14 short_lists (record { place = 9; message = short_message } ∷ [])
unfolding carried_clean step window ticks after_frame frame_check check4 check6 entry
short_message_whole =
    record {
      in_the_run = lit≤ tt;
      cut =
          record {
            before = take 1 (trace_at short_run 94 SideA);
            first = record { event = Edge 1 100; said = pulse_only Quiet };
            place = 1;
            time = 100;
            rest = drop 2 (trace_at short_run 94 SideA);
            at_an_edge = refl;
            is = refl;
          };
      clean = carried_clean 10 ten_passes 1 100 short_stretch;
      stretch = record { list = short_lists; all_lawful = (tt, (tt, (tt, tt))); pre = take 14 (joined short_lists); post = drop 33 (joined short_lists); lies = refl };
      of_these_lists = refl;
      from_this_pair = refl;
      came = refl;
      whole = refl;
    }

enhanced_message_whole : MessagesCome enhanced_run 88 SideB 16 enhanced_lists (record { place = 9; message = enhanced_message } ∷ [])
unfolding carried_clean step window ticks after_frame frame_check check4 check6 entry
enhanced_message_whole =
    record {
      in_the_run = lit≤ tt;
      cut =
          record {
            before = take 1 (trace_at enhanced_run 88 SideB);
            first = record { event = Edge 1 100; said = pulse_only Quiet };
            place = 1;
            time = 100;
            rest = drop 2 (trace_at enhanced_run 88 SideB);
            at_an_edge = refl;
            is = refl;
          };
      clean = carried_clean 11 eleven_passes 1 100 enhanced_stretch;
      stretch = record { list = enhanced_lists; all_lawful = (tt, (tt, (tt, tt))); pre = take 16 (joined enhanced_lists); post = drop 37 (joined enhanced_lists); lies = refl };
      of_these_lists = refl;
      from_this_pair = refl;
      came = refl;
      whole = refl;
    }

moved_edges_of_b : MovedSeriesComes short_run 94 SideB moved_frames (fault kind.FrameCheck 4 ∷ plain_row 4 ∷ plain_row 8 ∷ [])
unfolding step window ticks after_frame frame_check check4 check6 entry
moved_edges_of_b =
    record {
      in_the_run = lit≤ tt;
      cut = record { before = []; place = 0; time = 0; rest = drop 1 (short_run.from SideB); is = refl };
      series =
          record {
            came = moved_frames;
            tolerable = (
              (clean_plain 11 eleven_passes 1, here 11 (lit≤ tt) (lit≤ tt, lit≤ tt)),
              (
                (clean_plain 11 eleven_passes 5, later (here 5 (lit≤ tt) (lit≤ tt, lit≤ tt))),
                (clean_plain 11 eleven_passes 9, tt),
              ),
            );
            cut_short = as_sent (plain 11 13);
            cut_tolerable = clean_plain 11 eleven_passes 13;
            some = 1;
            not_all = lit< tt;
            are = refl;
          };
      of_these = refl;
      gave = refl;
    }

-- an answer that refuses a step
is_refused : {X Y : Type 0} → Answer X Y → Bool
is_refused (Stepped x) = false
is_refused (Refused x) = true
is_refused (Reading o) = false

undisturbed_a : UndisturbedToTheEnd short_run SideA 80 reports_of_a
unfolding is_refused step window ticks after_frame frame_check check4 check6 entry
undisturbed_a = record { runs_out = refl; no_sooner = λ e. true≢false (sym (ap is_refused e)); given_alone = refl; none_left = refl; given_in_the_run = refl }

undisturbed_b : UndisturbedToTheEnd short_run SideB 14 reports_of_b
unfolding is_refused step window ticks after_frame frame_check check4 check6 entry
undisturbed_b = record { runs_out = refl; no_sooner = λ e. true≢false (sym (ap is_refused e)); given_alone = refl; none_left = refl; given_in_the_run = refl }

a_under_way : UnderWay short_run 20 SideA 69 3
unfolding step window ticks after_frame frame_check check4 check6 entry
a_under_way = record { in_the_run = lit≤ tt; so_many_left = refl; so_many_came = refl }

b_under_way : UnderWay short_run 20 SideB 5 2
unfolding step window ticks after_frame frame_check check4 check6 entry
b_under_way = record { in_the_run = lit≤ tt; so_many_left = refl; so_many_came = refl }

-- an entry to read past the end of a trace
abbrev nothing_yet : {M : Type 0} → Entry M
nothing_yet = record { event = Break 0 0; said = pulse_only Quiet }

-- an entry of a trace, by its number
abbrev entry_at : Run → ℕ → ℕ → (d : Side) → Entry (Message d)
entry_at r k n d = get_or (trace_at r k d) n nothing_yet

told_at_entry : (r : Run) (k n : ℕ) (d : Side) (report : SerialReport (Message d)) (frames : ℕ)
    → k ≤ length r.calls → n < length (trace_at r k d)
    → (entry_at r k n d).said.serial ≡ Some report
    → length (since_fault [] (outcomes_of (take n (trace_at r k d)) ++ (entry_at r k n d).said.pulse ∷ [])) ≡ frames
    → SerialReportComes r k d report frames
told_at_entry r k n d report frames within there tells since =
    record {
      in_the_run = within;
      before = take n (trace_at r k d);
      entry = entry_at r k n d;
      after = drop (suc n) (trace_at r k d);
      is = split_at (trace_at r k d) n nothing_yet there;
      tells = tells;
      so_many_frames = since;
    }

short_message_told : SerialReportComes short_run 94 SideA (Told 9 short_message) 18
unfolding step window ticks after_frame frame_check check4 check6 entry
short_message_told = told_at_entry short_run 94 73 SideA (Told 9 short_message) 18 (lit≤ tt) (lit< tt) refl refl

enhanced_message_told : SerialReportComes enhanced_run 88 SideB (Told 9 enhanced_message) 20
unfolding step window ticks after_frame frame_check check4 check6 entry
enhanced_message_told = told_at_entry enhanced_run 88 81 SideB (Told 9 enhanced_message) 20 (lit≤ tt) (lit< tt) refl refl

short_check_fails : SerialReportComes short_spoiled 67 SideA (CheckFailed (record { kind = kind.SerialCheck; place = 64 })) 16
unfolding step window ticks after_frame frame_check check4 check6 entry
short_check_fails = told_at_entry short_spoiled 67 64 SideA (CheckFailed (record { kind = kind.SerialCheck; place = 64 })) 16 (lit≤ tt) (lit< tt) refl refl

enhanced_check_fails : SerialReportComes enhanced_spoiled 75 SideB (CheckFailed (record { kind = kind.SerialCheck; place = 72 })) 18
unfolding step window ticks after_frame frame_check check4 check6 entry
enhanced_check_fails = told_at_entry enhanced_spoiled 75 72 SideB (CheckFailed (record { kind = kind.SerialCheck; place = 72 })) 18 (lit≤ tt) (lit< tt) refl refl

pub law_has_instances : LawHasInstances
unfolding step window ticks after_frame frame_check check4 check6 entry
law_has_instances =
    record {
      short_lawful = short_lawful;
      enhanced_lawful = enhanced_lawful;
      short_run_lawful = short_run_lawful;
      enhanced_run_lawful = enhanced_run_lawful;
      short_spoiled_lawful = short_spoiled_lawful;
      enhanced_spoiled_lawful = enhanced_spoiled_lawful;
      short_broken_lawful = short_broken_lawful;
      looked_at_lawful = looked_at_lawful;
      clean_series_of_a = clean_series_of_a;
      clean_series_of_b = clean_series_of_b;
      short_message_whole = short_message_whole;
      enhanced_message_whole = enhanced_message_whole;
      moved_edges_of_b = moved_edges_of_b;
      undisturbed_a = undisturbed_a;
      undisturbed_b = undisturbed_b;
      reports_of_a_in_all = refl;
      reports_of_b_in_all = refl;
      a_under_way = a_under_way;
      b_under_way = b_under_way;
      none_before_a_frame = record { asked = refl; had_reported = refl; answer = refl };
      none_after_a_fault = record { asked = refl; had_reported = refl; answer = refl };
      three_nibbles_of_six = record { asked = refl; had_reported = refl; answer = refl };
      the_only_nibble = record { asked = refl; had_reported = refl; answer = refl };
      none_again_after_a_fault = record { asked = refl; had_reported = refl; answer = refl };
      reading_outlives_a_serial_fault = record { asked = refl; had_reported = refl; answer = refl };
      short_message_told = short_message_told;
      enhanced_message_told = enhanced_message_told;
      short_check_fails = short_check_fails;
      enhanced_check_fails = enhanced_check_fails;
      broken_list_tells_nothing = refl;
      figures_of_a = record { in_the_run = lit≤ tt; figures_then = refl; frames_reported = refl; faults_reported = refl };
      figures_of_b = record { in_the_run = lit≤ tt; figures_then = refl; frames_reported = refl; faults_reported = refl };
      serial_faults_not_counted = record { in_the_run = lit≤ tt; figures_then = refl; frames_reported = refl; faults_reported = refl };
      order_by_time = refl;
      refused_at_the_end = refl;
    }
