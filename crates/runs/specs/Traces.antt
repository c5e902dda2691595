-- What the answers of a unit tell of one channel.
use Rattle.std.specs.Prelude.{ℕ, List, [], ◌∷◌, ◌++◌, map, Some, None, Option}
use Rattle.std.specs.List.{flat_map}
use Rattle.model.specs.declared.event.Event.{Event}
use Rattle.model.specs.declared.side.Side.{Side}
use Rattle.model.specs.declared.side.Side.TheVariants.{A as SideA, B as SideB}
use Rattle.model.specs.declared.fault.Fault.{Fault}
use Rattle.pulses.specs.declared.frame.FrameRow.{FrameRow}
use Rattle.pulses.specs.declared.outcome.Outcome.{Outcome}
use Rattle.pulses.specs.declared.outcome.Outcome.TheVariants.{Quiet, Skipped, Framed, Failed}
use Rattle.serial.specs.declared.report.SerialReport.{SerialReport}
use Rattle.serial.specs.declared.report.SerialReport.TheVariants.{Told, Failed as CheckFailed}
use Rattle.receiver.specs.declared.answer.Reports.{Reports}
use Rattle.receiver.specs.declared.answer.Step.TheVariants.{A as StepA, B as StepB}
use Rattle.receiver.specs.declared.answer.Answer.{Answer}
use Rattle.receiver.specs.declared.answer.Answer.TheVariants.{Stepped, Refused, Reading}
use Rattle.receiver.specs.Units.{Messages}

-- a step answer of one channel: the time that it names, and what was reported
pub record Said (M : Type 0) : Type 0 where
  pub time : ℕ
  pub reports : Reports M

-- what an answer says of the channel d
abbrev pub own : {X Y : Type 0} (d : Side) → Answer X Y → List (Said (Messages X Y d))
own SideA (Stepped (StepA t r)) = record { time = t; reports = r } ∷ []
own SideA (Stepped (StepB t r)) = []
own SideB (Stepped (StepA t r)) = []
own SideB (Stepped (StepB t r)) = record { time = t; reports = r } ∷ []
own d (Refused n) = []
own d (Reading o) = []

-- the channel's step answers, in their order
abbrev pub said_by : {X Y : Type 0} (d : Side) → List (Answer X Y) → List (Said (Messages X Y d))
said_by d answered = flat_map (own d) answered

-- an event that a channel was given, and what it reported at it
pub record Entry (M : Type 0) : Type 0 where
  pub event : Event
  pub said : Reports M

-- the channel's trace: its step answers, one to one with the first events of its source's list
abbrev pub trace : {M : Type 0} → List Event → List (Said M) → List (Entry M)
trace [] ss = []
trace (e ∷ es) [] = []
trace (e ∷ es) (s ∷ ss) = record { event = e; said = s.reports } ∷ trace es ss

abbrev pub events_of : {M : Type 0} → List (Entry M) → List Event
events_of tr = map (λ x. x.event) tr

-- the outcomes of the pulses, one for each event
abbrev pub outcomes_of : {M : Type 0} → List (Entry M) → List Outcome
outcomes_of tr = map (λ x. x.said.pulse) tr

-- a report: a frame, a fault of any layer, or a message with the place of its first frame
pub data Report (M : Type 0) : Type 0 where
  frame : FrameRow → Report M
  fault : Fault → Report M
  message : ℕ → M → Report M

-- the report of an outcome of the pulses; quiet and skipped give none
abbrev pub of_pulse : {M : Type 0} → Outcome → List (Report M)
of_pulse Quiet = []
of_pulse Skipped = []
of_pulse (Framed r) = frame r ∷ []
of_pulse (Failed f) = fault f ∷ []

-- the report of the serial pairs
abbrev pub of_serial : {M : Type 0} → Option (SerialReport M) → List (Report M)
of_serial None = []
of_serial (Some (Told p m)) = message p m ∷ []
of_serial (Some (CheckFailed f)) = fault f ∷ []

-- the reports at one event: that of the pulses before that of the serial pairs
abbrev pub listed : {M : Type 0} → Reports M → List (Report M)
listed r = of_pulse r.pulse ++ of_serial r.serial

-- a report with the time of its event
pub record Timed (M : Type 0) : Type 0 where
  pub time : ℕ
  pub report : Report M

abbrev pub timed : {M : Type 0} → Said M → List (Timed M)
timed s = map (λ r. record { time = s.time; report = r }) (listed s.reports)

-- all reports of a channel, with their times
abbrev pub timed_reports : {M : Type 0} → List (Said M) → List (Timed M)
timed_reports ss = flat_map timed ss

-- the messages among the reports of a trace, with the places of their first frames
pub record Placed (M : Type 0) : Type 0 where
  pub place : ℕ
  pub message : M

abbrev pub messages_in : {M : Type 0} → Option (SerialReport M) → List (Placed M)
messages_in None = []
messages_in (Some (Told p m)) = record { place = p; message = m } ∷ []
messages_in (Some (CheckFailed f)) = []

abbrev pub messages_of : {M : Type 0} → List (Entry M) → List (Placed M)
messages_of tr = flat_map (λ x. messages_in x.said.serial) tr
