-- The unit: two lists of events and two channels; the answers to a list of calls, and the unit after them.
use Rattle.std.specs.Prelude.{◌≡◌, ℕ, cond, List, [], ◌∷◌, Some, None, Option, nat_lt}
use Rattle.model.specs.declared.event.Event.{Event}
use Rattle.model.specs.declared.side.Side.{Side}
use Rattle.model.specs.declared.side.Side.TheVariants.{A as SideA, B as SideB}
use Rattle.model.specs.Events.{time_of, rest}
use Rattle.receiver.specs.declared.answer.Reports.{Reports}
use Rattle.receiver.specs.declared.answer.Step.TheVariants.{A as StepA, B as StepB}
use Rattle.receiver.specs.declared.answer.StepRefusal.TheVariants.{NoEvent}
use Rattle.receiver.specs.declared.answer.Subject.TheVariants.{Reading as ReadingOf}
use Rattle.receiver.specs.declared.answer.Call.{Call}
use Rattle.receiver.specs.declared.answer.Call.TheVariants.{Step as StepCall, Look}
use Rattle.receiver.specs.declared.answer.Answer.{Answer}
use Rattle.receiver.specs.declared.answer.Answer.TheVariants.{Stepped, Refused, Reading}
use Rattle.receiver.specs.declared.answer.Figures.{Figures}
use Rattle.receiver.specs.Channels.{Rules, ChannelState, fresh, reports, given, reading_of}

-- channel A's messages are of the type X, channel B's of the type Y
abbrev pub Messages : Type 0 → Type 0 → Side → Type 0
Messages X Y SideA = X
Messages X Y SideB = Y

-- how both channels are set up
abbrev pub Setup : Type 0 → Type 0 → Type 0
Setup X Y = (d : Side) → Rules (Messages X Y d)

abbrev pub setup : {X Y : Type 0} → Rules X → Rules Y → Setup X Y
setup a b SideA = a
setup a b SideB = b

-- the lists of both sources
abbrev pub lists : List Event → List Event → Side → List Event
lists a b SideA = a
lists a b SideB = b

-- what is left of each list, and each channel
pub record UnitState : Type 0 where
  pub left_a : List Event
  pub left_b : List Event
  pub channel_a : ChannelState
  pub channel_b : ChannelState

abbrev pub left : UnitState → Side → List Event
left u SideA = u.left_a
left u SideB = u.left_b

abbrev pub channel : UnitState → Side → ChannelState
channel u SideA = u.channel_a
channel u SideB = u.channel_b

-- a new unit has newly prepared channels
abbrev pub new : (Side → List Event) → UnitState
new from = record { left_a = from SideA; left_b = from SideB; channel_a = fresh; channel_b = fresh }

-- whose event is next: that of the smaller time, and A's where both are equal
abbrev pub due : List Event → List Event → Option Side
due [] [] = None
due (e ∷ es) [] = Some SideA
due [] (f ∷ fs) = Some SideB
due (e ∷ es) (f ∷ fs) = cond (nat_lt (time_of f) (time_of e)) (Some SideB) (Some SideA)

-- the answer of a side that reports this at an event of the time t
abbrev pub stepped : {X Y : Type 0} (d : Side) → ℕ → Reports (Messages X Y d) → Answer X Y
stepped SideA t r = Stepped (StepA t r)
stepped SideB t r = Stepped (StepB t r)

-- a channel that is given the first event of a list tells the event's time, and what it reports
abbrev pub TellsFirst : {M : Type 0} → Rules M → ChannelState → List Event → ℕ → Reports M → Type 0
TellsFirst rules c [] t r = ⊥
TellsFirst rules c (e ∷ es) t r = (t ≡ time_of e) × (r ≡ reports rules c e)

-- a side that is given the first event of its list
abbrev pub answer_at : {X Y : Type 0} → Setup X Y → (d : Side) → ChannelState → List Event → Answer X Y
answer_at s d c [] = Refused NoEvent
answer_at s d c (e ∷ es) = stepped d (time_of e) (reports (s d) c e)

-- the channel after the first event of its list, if there is one
abbrev pub fed : {M : Type 0} → Rules M → ChannelState → List Event → ChannelState
fed rules c [] = c
fed rules c (e ∷ es) = given rules c e

abbrev pub step_answer : {X Y : Type 0} → Setup X Y → UnitState → Option Side → Answer X Y
step_answer s u None = Refused NoEvent
step_answer s u (Some d) = answer_at s d (channel u d) (left u d)

abbrev pub step_after : {X Y : Type 0} → Setup X Y → UnitState → Option Side → UnitState
step_after s u None = u
step_after s u (Some SideA) =
    record { left_a = rest u.left_a; left_b = u.left_b; channel_a = fed (s SideA) u.channel_a u.left_a; channel_b = u.channel_b }
step_after s u (Some SideB) =
    record { left_a = u.left_a; left_b = rest u.left_b; channel_a = u.channel_a; channel_b = fed (s SideB) u.channel_b u.left_b }

-- the answer to a call, and the unit after it
abbrev pub answer : {X Y : Type 0} → Setup X Y → UnitState → Call → Answer X Y
answer s u StepCall = step_answer s u (due u.left_a u.left_b)
answer s u (Look (ReadingOf d)) = Reading (reading_of (s d).settings (channel u d).latest)

abbrev pub after : {X Y : Type 0} → Setup X Y → UnitState → Call → UnitState
after s u StepCall = step_after s u (due u.left_a u.left_b)
after s u (Look x) = u

-- the answers to a list of calls, in their order, and the unit after them
abbrev pub answers : {X Y : Type 0} → Setup X Y → UnitState → List Call → List (Answer X Y)
answers s u [] = []
answers s u (c ∷ cs) = answer s u c ∷ answers s (after s u c) cs

abbrev pub after_all : {X Y : Type 0} → Setup X Y → UnitState → List Call → UnitState
after_all s u [] = u
after_all s u (c ∷ cs) = after_all s (after s u c) cs

-- the figures of a channel when its unit is closed
abbrev pub figures : ChannelState → Figures
figures c = record { frames = c.frames; faults = c.faults }
