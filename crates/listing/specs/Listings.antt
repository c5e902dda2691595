-- The listing of a whole unit file.
use Rattle.std.specs.Prelude.{◌≡◌, ℕ, ◌+◌, ◌*◌, min, List, [], ◌∷◌, ◌++◌, length, Some, None, Option}
use Rattle.model.specs.declared.event.Event.{Event}
use Rattle.model.specs.declared.settings.Settings.{Settings}
use Rattle.model.specs.declared.side.Side.{Side}
use Rattle.model.specs.declared.side.Side.TheVariants.{A as SideA, B as SideB}
use Rattle.pulses.specs.declared.outcome.Outcome.{Outcome}
use Rattle.pulses.specs.declared.outcome.Outcome.TheVariants.{Quiet, Skipped, Framed, Failed}
use Rattle.serial.specs.declared.report.SerialReport.{SerialReport}
use Rattle.serial.specs.declared.report.SerialReport.TheVariants.{Told, Failed as CheckFailed}
use Rattle.formats.specs.declared.short.ShortMessage.{ShortMessage}
use Rattle.formats.specs.declared.enhanced.EnhancedMessage.{EnhancedMessage}
use Rattle.formats.specs.Short.{short}
use Rattle.formats.specs.Enhanced.{enhanced}
use Rattle.records.specs.Kinds.{Counter, Log}
use Rattle.captures.specs.Times.{capture_events}
use Rattle.unitfile.specs.declared.file.UnitFile.{UnitFile}
use Rattle.unitfile.specs.declared.file.FileRefusal.{FileRefusal}
use Rattle.unitfile.specs.Files.{file_refused, FileRead, capture_of}
use Rattle.receiver.specs.declared.answer.Step.{Step}
use Rattle.receiver.specs.declared.answer.Step.TheVariants.{A as StepA, B as StepB}
use Rattle.receiver.specs.declared.answer.Answer.{Answer}
use Rattle.receiver.specs.declared.answer.Answer.TheVariants.{Stepped, Refused, Reading}
use Rattle.receiver.specs.Standing.{ruled}
use Rattle.receiver.specs.Units.{Setup, setup, lists, new, UnitState, answers, after_all}
use Rattle.runs.specs.Law.{steps, RunsOut, LawfulRun, AnsweredInTurn}
use Rattle.listing.specs.declared.report.LineReport.{LineReport}
use Rattle.listing.specs.declared.report.LineReport.TheVariants.{Frame, Short, Enhanced, Fault}
use Rattle.listing.specs.Lines.{line, closing_line, refusal_line}

-- the line of an outcome of the pulses; quiet and skipped have none
abbrev pub pulse_lines : Side → ℕ → ℕ → Outcome → List ℕ
pulse_lines d n t Quiet = []
pulse_lines d n t Skipped = []
pulse_lines d n t (Framed row) = line d n t (Frame row)
pulse_lines d n t (Failed f) = line d n t (Fault f)

-- the line of a serial report, whose messages are told by the report that is given
abbrev pub serial_lines : {M : Type 0} → (ℕ → M → LineReport) → Side → ℕ → ℕ → Option (SerialReport M) → List ℕ
serial_lines told d n t None = []
serial_lines told d n t (Some (Told p m)) = line d n t (told p m)
serial_lines told d n t (Some (CheckFailed f)) = line d n t (Fault f)

-- channel A has the short format, channel B the enhanced one
abbrev pub short_lines : ℕ → ℕ → Option (SerialReport ShortMessage) → List ℕ
short_lines = serial_lines Short SideA

abbrev pub enhanced_lines : ℕ → ℕ → Option (SerialReport EnhancedMessage) → List ℕ
enhanced_lines = serial_lines Enhanced SideB

-- the lines of a step, where A's frames have na data nibbles and B's nb: the pulse line before the serial line
abbrev pub step_lines : ℕ → ℕ → Step ShortMessage EnhancedMessage → List ℕ
step_lines na nb (StepA t r) = pulse_lines SideA na t r.pulse ++ short_lines na t r.serial
step_lines na nb (StepB t r) = pulse_lines SideB nb t r.pulse ++ enhanced_lines nb t r.serial

abbrev pub answer_lines : ℕ → ℕ → Answer ShortMessage EnhancedMessage → List ℕ
answer_lines na nb (Stepped x) = step_lines na nb x
answer_lines na nb (Refused e) = []
answer_lines na nb (Reading o) = []

-- the lines of answers, in their order
abbrev pub joined_lines : ℕ → ℕ → List (Answer ShortMessage EnhancedMessage) → List ℕ
joined_lines na nb [] = []
joined_lines na nb (x ∷ xs) = answer_lines na nb x ++ joined_lines na nb xs

-- how the unit of a listing is set up
abbrev pub listing_setup : Settings → Settings → Setup ShortMessage EnhancedMessage
listing_setup sa sb = setup (ruled sa short) (ruled sb enhanced)

-- the events that both sources of a unit have left: so many steps are made before one is refused
abbrev pub events_left : UnitState → ℕ
events_left u = length u.left_a + length u.left_b

-- the last line: the frames of both channels
abbrev pub closing_of : UnitState → List ℕ
closing_of u = closing_line u.channel_a.frames u.channel_b.frames

-- the lines of a unit that is stepped until no event is left, and the closing line
abbrev pub unit_listing : Settings → Settings → UnitState → List ℕ
unit_listing sa sb u =
    joined_lines sa.nibbles sb.nibbles (answers (listing_setup sa sb) u (steps (events_left u)))
    ++ closing_of (after_all (listing_setup sa sb) u (steps (events_left u)))

-- the time that a step names
abbrev pub step_time : {X Y : Type 0} → Step X Y → ℕ
step_time (StepA t r) = t
step_time (StepB t r) = t

-- the events of both captures of a file
abbrev pub file_lists : List ℕ → Side → List Event
file_lists input = lists (capture_events Counter (capture_of SideA input)) (capture_events Log (capture_of SideB input))

-- the run of a listing: as many steps as there are events, after which the next one is refused, and the law of every run holds of it
pub record LawfulListing (input : List ℕ) (u : UnitFile) : Type 0 where
  pub until_refused : RunsOut (listing_setup u.a.settings u.b.settings) (new (file_lists input)) (events_left (new (file_lists input)))
  pub every_run_lawful :
      LawfulRun (listing_setup u.a.settings u.b.settings) (file_lists input) (steps (events_left (new (file_lists input))))
      (answers (listing_setup u.a.settings u.b.settings) (new (file_lists input)) (steps (events_left (new (file_lists input)))))

-- bytes that are the listing of an accepted file, of which u was read: what its unit gives
pub record AcceptedListing (input bytes : List ℕ) (u : UnitFile) : Type 0 where
  pub file_read : FileRead input u
  pub lines : bytes ≡ unit_listing u.a.settings u.b.settings (new (file_lists input))
  pub lawful : LawfulListing input u

-- bytes that are the listing of a file: the line of its refusal, or what the unit of an accepted file gives
pub record Listing (input bytes : List ℕ) : Type 0 where
  pub refused : (e : FileRefusal) → file_refused input ≡ Some e → bytes ≡ refusal_line e
  pub accepted : file_refused input ≡ None → (u : UnitFile) × AcceptedListing input bytes u

-- in the run of the listing of an accepted file each step is answered in its turn
abbrev pub ListedInTurn : List ℕ → Type 0
ListedInTurn input =
    (u : UnitFile) → FileRead input u
    → AnsweredInTurn (listing_setup u.a.settings u.b.settings) (file_lists input) (steps (events_left (new (file_lists input))))
    (answers (listing_setup u.a.settings u.b.settings) (new (file_lists input)) (steps (events_left (new (file_lists input)))))

-- the room that the listing of a file of n bytes may need: two lines for each record, and one more
abbrev pub ceiling : ℕ → ℕ
ceiling n = 24 * min n 60000 + 48
