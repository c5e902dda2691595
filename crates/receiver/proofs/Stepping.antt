-- The unit answers a step by what the channel that is due tells.
use Rattle.std.proofs.Common.{◌≡◌, ℕ, List, [], ◌∷◌, Some, ap₂}
use Rattle.model.specs.declared.event.Event.{Event}
use Rattle.model.specs.declared.side.Side.{Side}
use Rattle.model.specs.declared.side.Side.TheVariants.{A as SideA, B as SideB}
use Rattle.serial.specs.Format.{Format}
use Rattle.receiver.specs.declared.answer.Call.TheVariants.{Step as StepCall}
use Rattle.receiver.specs.declared.answer.Answer.TheVariants.{Stepped}
use Rattle.receiver.specs.declared.answer.Step.TheVariants.{A as StepA, B as StepB}
use Rattle.receiver.specs.declared.answer.Reports.{Reports}
use Rattle.receiver.specs.Channels.{ChannelState}
use Rattle.receiver.specs.Standing.{ruled}
use Rattle.receiver.specs.Units.{Messages, Setup, due, TellsFirst, stepped, answer_at}
use Rattle.receiver.specs.Receiving.{Standing, setup_of, answer_of}

told_answer : {X Y : Type 0} (s : Setup X Y) (d : Side) (t : ℕ) (r : Reports (Messages X Y d)) (c : ChannelState) (es : List Event)
    → TellsFirst (s d) c es t r → stepped d t r ≡ answer_at s d c es
told_answer s d t r c [] h = absurd h
told_answer s d t r c (e ∷ es) h = ap₂ (stepped d) h.0 h.1

module _ {X Y : Type 0} (f : Format X) (g : Format Y) (u : Standing) (t : ℕ) where
  pub a_answers : (r : Reports X) → due u.state.left_a u.state.left_b ≡ Some SideA → TellsFirst (ruled u.settings_a f) u.state.channel_a u.state.left_a t r
      → Stepped (StepA t r) ≡ answer_of f g u StepCall
  a_answers r is h = rw is (told_answer (setup_of f g u) SideA t r u.state.channel_a u.state.left_a h)

  pub b_answers : (r : Reports Y) → due u.state.left_a u.state.left_b ≡ Some SideB → TellsFirst (ruled u.settings_b g) u.state.channel_b u.state.left_b t r
      → Stepped (StepB t r) ≡ answer_of f g u StepCall
  b_answers r is h = rw is (told_answer (setup_of f g u) SideB t r u.state.channel_b u.state.left_b h)
