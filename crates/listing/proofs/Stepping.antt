-- A unit that is stepped until no event is left.
use Rattle.std.proofs.Common.{◌≡◌, ℕ, zero, suc, ◌+◌, ◌^◌, ◌<◌, true, false, cond, ltb, List, [], ◌∷◌, ◌++◌, length, Some, None, Option, sym, ap, ◌∙◌, subst, ap₂, append_assoc, arith}
use Rattle.std.proofs.lemmas.List.{nil_from_length}
use Rattle.model.specs.declared.event.Event.{Event}
use Rattle.model.specs.declared.settings.Settings.{Settings}
use Rattle.model.specs.declared.side.Side.{Side}
use Rattle.model.specs.declared.side.Side.TheVariants.{A as SideA, B as SideB}
use Rattle.model.specs.Events.{time_of, Lawful}
use Rattle.receiver.specs.declared.answer.Call.TheVariants.{Step as StepCall}
use Rattle.receiver.specs.declared.answer.Step.{Step}
use Rattle.receiver.specs.declared.answer.Step.TheVariants.{A as StepA, B as StepB}
use Rattle.formats.specs.declared.short.ShortMessage.{ShortMessage}
use Rattle.formats.specs.declared.enhanced.EnhancedMessage.{EnhancedMessage}
use Rattle.receiver.specs.declared.answer.StepRefusal.{StepRefusal}
use Rattle.receiver.specs.declared.answer.Answer.{Answer}
use Rattle.receiver.specs.declared.answer.Answer.TheVariants.{Stepped, Refused}
use Rattle.receiver.specs.Channels.{ChannelState, reports}
use Rattle.receiver.specs.Units.{Setup, UnitState, answer, after, due, answers, after_all, step_answer, step_after}
use Rattle.runs.specs.Law.{steps, RunsOut}
use Rattle.runs.proofs.Turns.{refused_only, refused_then}
use Rattle.listing.specs.Listings.{events_left, step_time, step_lines, answer_lines, joined_lines, listing_setup, unit_listing, closing_of}

-- what a step does to the events left, and that it is in time
pub record Made {X Y : Type 0} (u v : UnitState) (x : Step X Y) : Type 0 where
  pub one_fewer : suc (events_left v) ≡ events_left u
  pub in_time : Lawful u.left_a → Lawful u.left_b → step_time x < 2 ^ 40

module _ {X Y : Type 0} (s : Setup X Y) (ca cb : ChannelState) where
  abbrev of : List Event → List Event → UnitState
  of xs ys = record { left_a = xs; left_b = ys; channel_a = ca; channel_b = cb }

  made_by : (xs ys : List Event) (o : Option Side) (x : Step X Y) → Stepped x ≡ step_answer s (of xs ys) o → Made (of xs ys) (step_after s (of xs ys) o) x
  made_by xs ys None x e = cc
  made_by [] ys (Some SideA) x e = cc
  made_by (v ∷ vs) ys (Some SideA) x e =
      let is : x ≡ StepA (time_of v) (reports (s SideA) ca v) = cc in
      record { one_fewer = omega arith; in_time = λ l m. subst (λ (t : ℕ). t < 2 ^ 40) (sym (ap step_time is)) l.0 }
  made_by xs [] (Some SideB) x e = cc
  made_by xs (w ∷ ws) (Some SideB) x e =
      let is : x ≡ StepB (time_of w) (reports (s SideB) cb w) = cc in
      record { one_fewer = omega arith; in_time = λ l m. subst (λ (t : ℕ). t < 2 ^ 40) (sym (ap step_time is)) m.0 }

  fewer : (m : ℕ) (xs ys : List Event) → length xs + length ys ≡ suc m → events_left (after s (of xs ys) StepCall) ≡ m
  fewer m [] [] e = absurd (omega arith)
  fewer m (v ∷ vs) [] e = omega arith
  fewer m [] (w ∷ ws) e = omega arith
  fewer m (v ∷ vs) (w ∷ ws) e =
      elim (ltb (time_of w) (time_of v)) as (λ b. events_left (step_after s (of (v ∷ vs) (w ∷ ws)) (cond b (Some SideB) (Some SideA))) ≡ m) [
        | true ↦ omega arith
        | false ↦ omega arith
      ]

pub step_made : {X Y : Type 0} (s : Setup X Y) (u : UnitState) (x : Step X Y) → Stepped x ≡ answer s u StepCall → Made u (after s u StepCall) x
step_made s u x e = made_by s u.channel_a u.channel_b u.left_a u.left_b (due u.left_a u.left_b) x e

pub none_left : {X Y : Type 0} (s : Setup X Y) (u : UnitState) (r : StepRefusal) → Refused r ≡ answer s u StepCall → events_left u ≡ 0
none_left s u r e =
    let at_the_end = refused_only s u.channel_a u.channel_b u.left_a u.left_b r (sym e) in
    ap₂ (λ (xs ys : List Event). length xs + length ys) at_the_end.0 at_the_end.1

-- after as many steps as there are events the next one is refused
pub runs_out : {X Y : Type 0} (s : Setup X Y) (n : ℕ) (u : UnitState) → events_left u ≡ n → RunsOut s u n
runs_out s zero u e =
    refused_then s u.channel_a u.channel_b u.left_a u.left_b (nil_from_length u.left_a (omega arith)) (nil_from_length u.left_b (omega arith))
runs_out s (suc m) u e = runs_out s m (after s u StepCall) (fewer s u.channel_a u.channel_b m u.left_a u.left_b e)

-- The listing of a unit, one step at a time
module _ (sa sb : Settings) where
  abbrev s : Setup ShortMessage EnhancedMessage
  s = listing_setup sa sb

  pub listing_more : (u v : UnitState) (x : Step ShortMessage EnhancedMessage) → Stepped x ≡ answer s u StepCall → v ≡ after s u StepCall
      → unit_listing sa sb u ≡ step_lines sa.nibbles sb.nibbles x ++ unit_listing sa sb v
  listing_more u v x e f =
      let w : UnitState = after s u StepCall in
      let n : ℕ = events_left w in
      let c : suc n ≡ events_left u = (step_made s u x e).one_fewer in
      let all : ℕ → List ℕ = λ k. joined_lines sa.nibbles sb.nibbles (answers s u (steps k)) ++ closing_of (after_all s u (steps k)) in
      ap all (sym c)
      ∙ ap (λ (a : Answer ShortMessage EnhancedMessage). (answer_lines sa.nibbles sb.nibbles a ++ joined_lines sa.nibbles sb.nibbles (answers s w (steps n))) ++ closing_of (after_all s w (steps n))) (sym e)
      ∙ append_assoc (step_lines sa.nibbles sb.nibbles x) (joined_lines sa.nibbles sb.nibbles (answers s w (steps n))) (closing_of (after_all s w (steps n)))
      ∙ ap (λ (z : UnitState). step_lines sa.nibbles sb.nibbles x ++ unit_listing sa sb z) (sym f)

  pub listing_none : (u : UnitState) (r : StepRefusal) → Refused r ≡ answer s u StepCall → unit_listing sa sb u ≡ closing_of u
  listing_none u r e =
      ap (λ (k : ℕ). joined_lines sa.nibbles sb.nibbles (answers s u (steps k)) ++ closing_of (after_all s u (steps k))) (none_left s u r e)

-- one turn: the lines that were appended, and those yet to come; settings a and b are those of the listing
module _ (sa sb a b : Settings) (at_a : a ≡ sa) (at_b : b ≡ sb) (u v : UnitState) (x : Step ShortMessage EnhancedMessage)
    (said : Stepped x ≡ answer (listing_setup a b) u StepCall) (left : v ≡ after (listing_setup a b) u StepCall) where
  same_said : Stepped x ≡ answer (listing_setup sa sb) u StepCall
  same_said = said ∙ ap₂ (λ (p q : Settings). answer (listing_setup p q) u StepCall) at_a at_b

  same_left : v ≡ after (listing_setup sa sb) u StepCall
  same_left = left ∙ ap₂ (λ (p q : Settings). after (listing_setup p q) u StepCall) at_a at_b

  pub lines_on : (bytes more whole : List ℕ) → more ≡ bytes ++ step_lines sa.nibbles sb.nibbles x → bytes ++ unit_listing sa sb u ≡ whole → more ++ unit_listing sa sb v ≡ whole
  lines_on bytes more whole e inv =
      ap (λ (zs : List ℕ). zs ++ unit_listing sa sb v) e
      ∙ append_assoc bytes (step_lines sa.nibbles sb.nibbles x) (unit_listing sa sb v)
      ∙ ap (λ (zs : List ℕ). bytes ++ zs) (sym (listing_more sa sb u v x same_said same_left))
      ∙ inv

  pub one_fewer_left : suc (events_left v) ≡ events_left u
  one_fewer_left = ap (λ (z : UnitState). suc (events_left z)) same_left ∙ (step_made (listing_setup sa sb) u x same_said).one_fewer
