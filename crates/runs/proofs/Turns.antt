-- Each step comes in its turn, and each call has an answer.
use Rattle.std.proofs.Common.{◌≡◌, ℕ, ◌<◌, ◌≤◌, true, false, cond, ltb, List, [], ◌∷◌, length, Some, Option, sym, refl, ap, ◌∙◌, arith}
use Rattle.std.proofs.lemmas.Bool.{ltb-true, ltb-false}
use Rattle.model.specs.declared.event.Event.{Event}
use Rattle.model.specs.declared.side.Side.TheVariants.{A as SideA, B as SideB}
use Rattle.model.specs.Events.{time_of, first}
use Rattle.receiver.specs.declared.answer.Call.{Call}
use Rattle.receiver.specs.declared.answer.Call.TheVariants.{Step as StepCall}
use Rattle.receiver.specs.declared.answer.Answer.{Answer}
use Rattle.receiver.specs.declared.answer.Answer.TheVariants.{Stepped, Refused}
use Rattle.receiver.specs.declared.answer.Reports.{Reports}
use Rattle.receiver.specs.declared.answer.Step.TheVariants.{A as StepA, B as StepB}
use Rattle.receiver.specs.declared.answer.StepRefusal.{StepRefusal}
use Rattle.receiver.specs.declared.answer.StepRefusal.TheVariants.{NoEvent}
use Rattle.receiver.specs.Channels.{ChannelState}
use Rattle.receiver.specs.Units.{Setup, UnitState, answer, answers, after, step_answer}
use Rattle.runs.specs.Law.{InTurn}

pub one_answer_each : {X Y : Type 0} (s : Setup X Y) (u : UnitState) (calls : List Call) → length (answers s u calls) ≡ length calls
one_answer_each s u [] = refl
one_answer_each s u (c ∷ cs) = omega (arith, one_answer_each s (after s u c) cs)

module _ {X Y : Type 0} (s : Setup X Y) (ca cb : ChannelState) where
  -- the unit that has these lists left
  abbrev unit_at : List Event → List Event → UnitState
  unit_at xs ys = record { left_a = xs; left_b = ys; channel_a = ca; channel_b = cb }

  -- it answers this to a step
  abbrev Says : List Event → List Event → Answer X Y → Type 0
  Says xs ys x = answer s (unit_at xs ys) StepCall ≡ x

  -- a step is refused only where both lists are at their end, and is refused there
  pub refused_only : (xs ys : List Event) (r : StepRefusal) → Says xs ys (Refused r) → (xs ≡ []) × (ys ≡ [])
  refused_only [] [] r h = (refl, refl)
  refused_only (e ∷ es) [] r h = cc
  refused_only [] (f ∷ fs) r h = cc
  refused_only (e ∷ es) (f ∷ fs) r h =
      (elim (ltb (time_of f) (time_of e)) as (λ b. step_answer s (unit_at (e ∷ es) (f ∷ fs)) (cond b (Some SideB) (Some SideA)) ≡ Refused r → ((e ∷ es) ≡ []) × ((f ∷ fs) ≡ [])) [
        | true ↦ λ says. cc
        | false ↦ λ says. cc
      ]) h

  pub refused_then : (xs ys : List Event) → xs ≡ [] → ys ≡ [] → Says xs ys (Refused NoEvent)
  refused_then [] [] a b = refl
  refused_then (e ∷ es) ys a b = cc
  refused_then [] (f ∷ fs) a b = cc

  a_in_turn : (xs ys : List Event) (t : ℕ) (r : Reports X) (g : Event) → Says xs ys (Stepped (StepA t r)) → first ys ≡ Some g → t ≤ time_of g
  a_in_turn xs [] t r g h n = cc
  a_in_turn [] (f ∷ fs) t r g h n = cc
  a_in_turn (e ∷ es) (f ∷ fs) t r g h n =
      (elim (ltb (time_of f) (time_of e)) as
      (λ b. ltb (time_of f) (time_of e) ≡ b → step_answer s (unit_at (e ∷ es) (f ∷ fs)) (cond b (Some SideB) (Some SideA)) ≡ Stepped (StepA t r) → t ≤ time_of g) [
        | true ↦ λ test says. cc
        | false ↦ λ test says.
            let told : time_of e ≡ t = cc in
            let same : f ≡ g = cc in
            omega (arith, ltb-false (time_of f) (time_of e) test, told, ap time_of same)
      ]) refl h

  b_in_turn : (xs ys : List Event) (t : ℕ) (r : Reports Y) (g : Event) → Says xs ys (Stepped (StepB t r)) → first xs ≡ Some g → t < time_of g
  b_in_turn [] ys t r g h n = cc
  b_in_turn (e ∷ es) [] t r g h n = cc
  b_in_turn (e ∷ es) (f ∷ fs) t r g h n =
      (elim (ltb (time_of f) (time_of e)) as
      (λ b. ltb (time_of f) (time_of e) ≡ b → step_answer s (unit_at (e ∷ es) (f ∷ fs)) (cond b (Some SideB) (Some SideA)) ≡ Stepped (StepB t r) → t < time_of g) [
        | true ↦ λ test says.
            let told : time_of f ≡ t = cc in
            let same : e ≡ g = cc in
            omega (arith, ltb-true (time_of f) (time_of e) test, told, ap time_of same)
        | false ↦ λ test says. cc
      ]) refl h

-- where a step that is asked for is answered by the unit as it is
pub in_turn : {X Y : Type 0} (s : Setup X Y) (u : UnitState) (asked : Option Call) (answered : Option (Answer X Y))
    → (asked ≡ Some StepCall → answered ≡ Some (answer s u StepCall)) → InTurn u asked answered
in_turn {X} {Y} s u asked answered look =
    let told : (x : Answer X Y) → asked ≡ Some StepCall → answered ≡ Some x → answer s u StepCall ≡ x =
    λ x asks says. let same : Some (answer s u StepCall) ≡ Some x = sym (look asks) ∙ says in cc in
    let ca : ChannelState = u.channel_a in
    let cb : ChannelState = u.channel_b in
    record {
      refused_only_at_the_end = λ asks says. refused_only s ca cb u.left_a u.left_b NoEvent (told (Refused NoEvent) asks says);
      refused_at_the_end = λ asks a b. look asks ∙ ap (λ (x : Answer X Y). Some x) (refused_then s ca cb u.left_a u.left_b a b);
      a_not_after_b = λ t r e asks says next. a_in_turn s ca cb u.left_a u.left_b t r e (told (Stepped (StepA t r)) asks says) next;
      b_before_a = λ t r e asks says next. b_in_turn s ca cb u.left_a u.left_b t r e (told (Stepped (StepB t r)) asks says) next;
    }
