-- A channel: its rules, what it is between two events, and what one event gives.
use Rattle.std.specs.Prelude.{ℕ, ◌+◌, min, List, [], ◌∷◌, ◌++◌, take, Some, None, Option}
use Rattle.model.specs.declared.settings.Settings.{Settings}
use Rattle.model.specs.declared.event.Event.{Event}
use Rattle.model.specs.Events.{place_of}
use Rattle.pulses.specs.declared.frame.FrameRow.{FrameRow}
use Rattle.pulses.specs.declared.outcome.Outcome.{Outcome}
use Rattle.pulses.specs.declared.outcome.Outcome.TheVariants.{Quiet, Skipped, Framed, Failed}
use Rattle.pulses.specs.Frames.{unpacked, packed}
use Rattle.pulses.specs.Steps.{PulseState, lost, step}
use Rattle.serial.specs.declared.report.SerialReport.{SerialReport}
use Rattle.serial.specs.Format.{Format}
use Rattle.serial.specs.Pairs.{pair_of}
use Rattle.serial.specs.Windows.{Kept, last, reported}
use Rattle.receiver.specs.declared.answer.Reports.{Reports}

-- what a channel goes by: its settings, and what its serial format means
pub record Rules (M : Type 0) : Type 0 where
  pub settings : Settings
  pub format : Format M

-- a channel between two events: the state of its pulses; the serial pairs kept; the latest frame, if no fault of the pulses came
-- after it; and how many frames and how many such faults it has given
pub record ChannelState : Type 0 where
  pub pulses : PulseState
  pub kept : List Kept
  pub latest : Option FrameRow
  pub frames : ℕ
  pub faults : ℕ

-- a newly prepared channel
abbrev pub fresh : ChannelState
fresh = record { pulses = lost; kept = []; latest = None; frames = 0; faults = 0 }

-- a frame's pair and place
abbrev pub kept_of : FrameRow → Kept
kept_of r = record { pair = pair_of r.status; place = r.place }

-- the pairs kept after an outcome: of those since the last fault the last so many
abbrev pub kept_after : ℕ → List Kept → Outcome → List Kept
kept_after size ks Quiet = ks
kept_after size ks Skipped = ks
kept_after size ks (Framed r) = last size (ks ++ kept_of r ∷ [])
kept_after size ks (Failed f) = []

abbrev pub latest_after : Option FrameRow → Outcome → Option FrameRow
latest_after l Quiet = l
latest_after l Skipped = l
latest_after l (Framed r) = Some r
latest_after l (Failed f) = None

-- a count stops at the greatest number of 32 bits
abbrev pub capped : ℕ → ℕ
capped n = min n 4294967295

abbrev pub frames_after : ℕ → Outcome → ℕ
frames_after n Quiet = n
frames_after n Skipped = n
frames_after n (Framed r) = capped (n + 1)
frames_after n (Failed f) = n

abbrev pub faults_after : ℕ → Outcome → ℕ
faults_after n Quiet = n
faults_after n Skipped = n
faults_after n (Framed r) = n
faults_after n (Failed f) = capped (n + 1)

-- what the pairs kept tell at the event of the place `here`: nothing, unless it completed a frame
abbrev pub serial_after : {M : Type 0} → Format M → List Kept → ℕ → Outcome → Option (SerialReport M)
serial_after f ks here Quiet = None
serial_after f ks here Skipped = None
serial_after f ks here (Framed r) = reported f ks here
serial_after f ks here (Failed g) = None

-- the outcome of the pulses of a channel that is given an event
abbrev pub outcome_of : {M : Type 0} → Rules M → ChannelState → Event → Outcome
outcome_of rules c e = (step rules.settings c.pulses e).outcome

-- what it reports, and what it is then
abbrev pub reports : {M : Type 0} → Rules M → ChannelState → Event → Reports M
reports rules c e =
    record {
      pulse = outcome_of rules c e;
      serial = serial_after rules.format (kept_after rules.format.size c.kept (outcome_of rules c e)) (place_of e) (outcome_of rules c e);
    }

-- the channel after the event
abbrev pub given : {M : Type 0} → Rules M → ChannelState → Event → ChannelState
given rules c e =
    record {
      pulses = (step rules.settings c.pulses e).state;
      kept = kept_after rules.format.size c.kept (outcome_of rules c e);
      latest = latest_after c.latest (outcome_of rules c e);
      frames = frames_after c.frames (outcome_of rules c e);
      faults = faults_after c.faults (outcome_of rules c e);
    }

-- the reading of a frame: its first three data nibbles, or all of them if it has fewer, the first highest
abbrev pub reading : Settings → FrameRow → ℕ
reading s r = packed (take (min 3 s.nibbles) (unpacked r.packed))

-- the reading of the latest frame, if there is one
abbrev pub reading_of : Settings → Option FrameRow → Option ℕ
reading_of s None = None
reading_of s (Some r) = Some (reading s r)
