-- What the code's unit stands for.
use Rattle.std.specs.Prelude.{ℕ, List, Ok, Err, Result}
use Rattle.model.specs.declared.settings.Settings.{Settings}
use Rattle.model.specs.declared.event.Event.{Event}
use Rattle.model.specs.declared.side.Side.{Side}
use Rattle.model.specs.declared.side.Side.TheVariants.{A as SideA, B as SideB}
use Rattle.model.specs.Events.{Lawful}
use Rattle.serial.specs.Format.{Format}
use Rattle.receiver.specs.declared.answer.Step.{Step}
use Rattle.receiver.specs.declared.answer.StepRefusal.{StepRefusal}
use Rattle.receiver.specs.declared.answer.StepRefusal.TheVariants.{NoEvent}
use Rattle.receiver.specs.declared.answer.Call.{Call}
use Rattle.receiver.specs.declared.answer.Answer.{Answer}
use Rattle.receiver.specs.declared.answer.Answer.TheVariants.{Stepped, Refused}
use Rattle.receiver.specs.declared.answer.Closing.{Closing}
use Rattle.receiver.specs.Standing.{ChannelStanding, ruled}
use Rattle.receiver.specs.Units.{Setup, setup, UnitState, channel, new, fed, answer, after, figures}

abbrev pub refusal_number : StepRefusal → ℕ
refusal_number NoEvent = 7

-- a unit as it stands: how each channel is set up, and the unit's state
pub record Standing : Type 0 where
  pub settings_a : Settings
  pub settings_b : Settings
  pub state : UnitState

-- the unit that is meant by what is left of each list, and by both channels
abbrev pub standing_of : List Event → List Event → ChannelStanding → ChannelStanding → Standing
standing_of xs ys a b =
    record {
      settings_a = a.settings;
      settings_b = b.settings;
      state = record { left_a = xs; left_b = ys; channel_a = a.state; channel_b = b.state };
    }

-- a channel after the first event of a list, if there is one, where its format means this
abbrev pub fed_by : {M : Type 0} → Format M → ChannelStanding → List Event → ChannelStanding
fed_by f c es = record { settings = c.settings; state = fed (ruled c.settings f) c.state es }

-- a new unit of these lists, set up so
abbrev pub standing_new : Settings → Settings → (Side → List Event) → Standing
standing_new a b from = record { settings_a = a; settings_b = b; state = new from }

-- what is left of each list keeps the law of sources
abbrev pub LeftLawful : Standing → Type 0
LeftLawful u = Lawful u.state.left_a × Lawful u.state.left_b

-- how it is set up, where the formats mean this
abbrev pub setup_of : {X Y : Type 0} → Format X → Format Y → Standing → Setup X Y
setup_of f g u = setup (ruled u.settings_a f) (ruled u.settings_b g)

-- its answer to a call, and the unit after it: both channels go on under the same settings
abbrev pub answer_of : {X Y : Type 0} → Format X → Format Y → Standing → Call → Answer X Y
answer_of f g u c = answer (setup_of f g u) u.state c

abbrev pub left_by : {X Y : Type 0} → Format X → Format Y → Standing → Call → Standing
left_by f g u c = record { settings_a = u.settings_a; settings_b = u.settings_b; state = after (setup_of f g u) u.state c }

-- the answer that the result of a step is
abbrev pub answered : {X Y : Type 0} → Result (Step X Y) StepRefusal → Answer X Y
answered (Ok x) = Stepped x
answered (Err e) = Refused e

-- the figures of both channels
abbrev pub closed : UnitState → Closing
closed u = record { a = figures (channel u SideA); b = figures (channel u SideB) }
