-- Runs: the outcomes of events one after the other.
use Rattle.std.proofs.Common.{◌≡◌, ℕ, zero, suc, ◌+◌, List, [], ◌∷◌, ◌++◌, length, take, drop, refl, ap, ◌∙◌, arith}
use Rattle.model.specs.declared.settings.Settings.{Settings}
use Rattle.model.specs.declared.event.Event.{Event}
use Rattle.pulses.specs.declared.outcome.Outcome.{Outcome}
use Rattle.pulses.specs.Steps.{PulseState, Stepped, gives, step, outcomes, after}

-- a run, by its outcomes and its end
pub record Gives (s : Settings) (x : PulseState) (es : List Event) (os : List Outcome) (x' : PulseState) : Type 0 where
  pub out : outcomes s x es ≡ os
  pub end : after s x es ≡ x'

-- the outcomes from a step on that is known
pub outcomes_from : (s : Settings) (x : PulseState) (e : Event) (es : List Event) {o : Outcome} {y : PulseState}
    → step s x e ≡ gives o y → outcomes s x (e ∷ es) ≡ o ∷ outcomes s y es
outcomes_from s x e es q = ap (λ (r : Stepped). r.outcome ∷ outcomes s r.state es) q

pub gives_more : {s : Settings} (x : PulseState) {x₁ x₂ : PulseState} (e : Event) {es : List Event} {o : Outcome} {os : List Outcome}
    → step s x e ≡ gives o x₁ → Gives s x₁ es os x₂ → Gives s x (e ∷ es) (o ∷ os) x₂
gives_more {s} x e {es} {o} q g =
    record {
      out = outcomes_from s x e es q ∙ ap (λ (os : List Outcome). o ∷ os) g.out;
      end = ap (λ (r : Stepped). after s r.state es) q ∙ g.end;
    }

-- runs join
pub outcomes_append : (s : Settings) (x : PulseState) (xs ys : List Event) → outcomes s x (xs ++ ys) ≡ outcomes s x xs ++ outcomes s (after s x xs) ys
outcomes_append s x [] ys = refl
outcomes_append s x (e ∷ xs) ys = ap (λ (os : List Outcome). (step s x e).outcome ∷ os) (outcomes_append s (step s x e).state xs ys)

pub after_append : (s : Settings) (x : PulseState) (xs ys : List Event) → after s x (xs ++ ys) ≡ after s (after s x xs) ys
after_append s x [] ys = refl
after_append s x (e ∷ xs) ys = after_append s (step s x e).state xs ys

pub outcomes_take : (s : Settings) (x : PulseState) (m : ℕ) (xs : List Event) → outcomes s x (take m xs) ≡ take m (outcomes s x xs)
outcomes_take s x zero xs = refl
outcomes_take s x (suc m) [] = refl
outcomes_take s x (suc m) (e ∷ xs) = ap (λ (os : List Outcome). (step s x e).outcome ∷ os) (outcomes_take s (step s x e).state m xs)

-- one outcome for each event
pub outcomes_length : (s : Settings) (x : PulseState) (es : List Event) → length (outcomes s x es) ≡ length es
outcomes_length s x [] = refl
outcomes_length s x (e ∷ es) = ap suc (outcomes_length s (step s x e).state es)

-- the outcomes past an event
pub outcomes_past : (s : Settings) (x : PulseState) (before : List Event) (e : Event) (rest : List Event)
    → drop (length before + 1) (outcomes s x (before ++ e ∷ rest)) ≡ outcomes s (step s (after s x before) e).state rest
outcomes_past s x [] e rest = refl
outcomes_past s x (b ∷ before) e rest =
    ap (λ (i : ℕ). drop i (outcomes s x (b ∷ (before ++ e ∷ rest)))) longer ∙ outcomes_past s (step s x b).state before e rest
  where
    longer : suc (length before) + 1 ≡ suc (length before + 1)
    longer = omega arith
