-- The events of a capture keep the law of a source.
use Rattle.std.proofs.Common.{◌≡◌, ℕ, suc, ◌+◌, ◌*◌, ◌^◌, ◌<◌, ◌≤◌, true, false, cond, eqb, List, [], ◌∷◌, length, get_or, Some, None, Option, sym, refl, ap, subst, arith, ltb-true}
use mathlib.Core.Logic.{∥∥₁_elim}
use Rattle.std.proofs.lemmas.Bool.Decides.{nat_tests}
use Rattle.model.specs.declared.event.Event.{Event}
use Rattle.model.specs.declared.event.Event.TheVariants.{Edge, Break}
use Rattle.model.specs.Proposition.{lawful_once}
use Rattle.model.specs.Events.{place_of, time_of, Precedes, PrecedesAll, Lawful}
use Rattle.records.specs.declared.record.Record.{Record}
use Rattle.records.specs.Kinds.{Kind}
use Rattle.records.specs.Kinds.{Counter, Log}
use Rattle.records.specs.declared.record.Flaw.TheVariants.{Mark}
use Rattle.records.specs.declared.checking.CheckRefusal.{CheckRefusal}
use Rattle.captures.specs.declared.events.Stamp.{Stamp}
use Rattle.captures.specs.declared.events.Stamp.TheVariants.{Timed, Lost, Wrapped}
use Rattle.records.specs.Records.{records, fours, eights, counter_value, timely, zero_filler, letter_s, letter_c, letter_o, letter_a, letter_l}
use Rattle.records.specs.Checked.{checked}
use Rattle.records.specs.Verdicts.{Flawless}
use Rattle.records.proofs.Judged.{judged}
use Rattle.captures.specs.Times.{events_from, is_later, last_time, prepended, stamps, wraps_after, lost_event, pending, all_stamps, capture_events, unless_refused, in_order, event_behind, event_of, last_after, event_at, record_count}

-- e does not come after the last edge l, and is l itself or earlier if it is an edge
abbrev Reached : Event → Option ℕ → Type 0
Reached (Edge q s) None = ⊥
Reached (Edge q s) (Some u) = s ≤ u
Reached (Break q s) None = s ≤ 0
Reached (Break q s) (Some u) = s ≤ u

reached_time : (e : Event) (l : Option ℕ) → Reached e l → time_of e ≤ last_time l
reached_time (Edge q s) None h = absurd h
reached_time (Edge q s) (Some u) h = h
reached_time (Break q s) None h = h
reached_time (Break q s) (Some u) h = h

before_lost : (e : Event) (l : Option ℕ) (p : ℕ) → place_of e < p → Reached e l → Precedes e (lost_event p l)
before_lost (Edge q s) l p pl h = (pl, reached_time (Edge q s) l h, tt)
before_lost (Break q s) l p pl h = (pl, reached_time (Break q s) l h, tt)

before_edge : (e : Event) (l : Option ℕ) (p t : ℕ) → place_of e < p → is_later t l ≡ true → Reached e l → Precedes e (Edge p t)
before_edge (Edge q s) None p t pl b h = absurd h
before_edge (Edge q s) (Some u) p t pl b h = (pl, omega (arith, ltb-true), omega (arith, ltb-true))
before_edge (Break q s) None p t pl b h = (pl, omega arith, tt)
before_edge (Break q s) (Some u) p t pl b h = (pl, omega (arith, ltb-true), tt)

reached_later : (e : Event) (l : Option ℕ) (t : ℕ) → is_later t l ≡ true → Reached e l → Reached e (Some t)
reached_later (Edge q s) None t b h = absurd h
reached_later (Edge q s) (Some u) t b h = omega (arith, ltb-true)
reached_later (Break q s) None t b h = omega arith
reached_later (Break q s) (Some u) t b h = omega (arith, ltb-true)

precedes_what_follows : (e : Event) (p : ℕ) (l : Option ℕ) (ss : List Stamp) → place_of e < p → Reached e l → PrecedesAll e (events_from p l ss)
precedes_what_follows e p l [] pl h = tt
precedes_what_follows e p l (Wrapped ∷ ss) pl h = precedes_what_follows e (p + 1) l ss (omega arith) h
precedes_what_follows e p l (Lost ∷ ss) pl h = (before_lost e l p pl h, precedes_what_follows e (p + 1) l ss (omega arith) h)
precedes_what_follows e p l (Timed t ∷ ss) pl h =
    (elim (is_later t l) as (λ b. is_later t l ≡ b → PrecedesAll e (cond b (Edge p t) (lost_event p l) ∷ events_from (p + 1) (cond b (Some t) l) ss)) [
      | true ↦ λ k. (before_edge e l p t pl k h, precedes_what_follows e (p + 1) (Some t) ss (omega arith) (reached_later e l t k h))
      | false ↦ λ k. (before_lost e l p pl h, precedes_what_follows e (p + 1) l ss (omega arith) h)
    ]) refl

lost_reached : (p : ℕ) (l : Option ℕ) → Reached (lost_event p l) l
lost_reached p None = omega arith
lost_reached p (Some u) = omega arith

-- each time is below 2^40
abbrev Timely : List Stamp → Type 0
Timely [] = Unit {0}
Timely (Wrapped ∷ ss) = Timely ss
Timely (Lost ∷ ss) = Timely ss
Timely (Timed t ∷ ss) = (t < 2 ^ 40) × Timely ss

events_lawful : (p : ℕ) (l : Option ℕ) (ss : List Stamp) → Timely ss → last_time l < 2 ^ 40 → Lawful (events_from p l ss)
events_lawful p l [] f h = tt
events_lawful p l (Wrapped ∷ ss) f h = events_lawful (p + 1) l ss f h
events_lawful p l (Lost ∷ ss) f h = (h, precedes_what_follows (lost_event p l) (p + 1) l ss (omega arith) (lost_reached p l), events_lawful (p + 1) l ss f h)
events_lawful p l (Timed t ∷ ss) f h =
    elim (is_later t l) as (λ b. Lawful (cond b (Edge p t) (lost_event p l) ∷ events_from (p + 1) (cond b (Some t) l) ss)) [
      | true ↦ (f.0, precedes_what_follows (Edge p t) (p + 1) (Some t) ss (omega arith) (omega arith), events_lawful (p + 1) (Some t) ss f.1 f.0)
      | false ↦ (h, precedes_what_follows (lost_event p l) (p + 1) l ss (omega arith) (lost_reached p l), events_lawful (p + 1) l ss f.1 h)
    ]

-- a counter's times are small, since its records are few
timely_counter : (xs : List ℕ) (w : ℕ) → ((i : ℕ) → get_or xs i 0 < 256) → w + length xs ≤ 24576 → Timely (stamps Counter w (fours xs))
timely_counter [] w b h = tt
timely_counter (m ∷ []) w b h = tt
timely_counter (m ∷ k ∷ []) w b h = tt
timely_counter (m ∷ k ∷ x ∷ []) w b h = tt
timely_counter (m ∷ k ∷ x ∷ y ∷ more) w b h =
    let below : (i : ℕ) → get_or more i 0 < 256 = λ i. b (suc (suc (suc (suc i)))) in
    let late : 65536 * w + counter_value x y < 2 ^ 40 = omega (arith, b 2, b 3) in
    elim (eqb k letter_c) as (λ c. Timely (cond c (Timed (65536 * w + counter_value x y)) (cond (eqb k letter_o) Wrapped Lost)
    ∷ stamps Counter (wraps_after w (cond c (Timed (65536 * w + counter_value x y)) (cond (eqb k letter_o) Wrapped Lost))) (fours more))) [
      | true ↦ (late, timely_counter more w below (omega arith))
      | false ↦ elim (eqb k letter_o) as (λ o. Timely (cond o Wrapped Lost ∷ stamps Counter (wraps_after w (cond o Wrapped Lost)) (fours more))) [
        | true ↦ timely_counter more (w + 1) below (omega arith)
        | false ↦ timely_counter more w below (omega arith)
      ]
    ]

timely_log : (rs : List Record) (w : ℕ) → Flawless Log rs → Timely (stamps Log w rs)
timely_log [] w f = tt
timely_log (r ∷ rs) w f =
    (elim (eqb r.letter letter_a) as (λ a. (cond (eqb r.mark letter_s) (cond a (timely r.value) (cond (eqb r.letter letter_l) (zero_filler r.value) (Some Mark))) (Some Mark)) ≡ None
    → Timely (cond a (Timed r.value) Lost ∷ stamps Log (wraps_after w (cond a (Timed r.value) Lost)) rs)) [
      | true ↦ λ g. (grind (arith, nat_tests), timely_log rs w f.1)
      | false ↦ λ g. timely_log rs w f.1
    ]) f.0

pub accepted_flawless : (kind : Kind) (xs : List ℕ) → checked kind xs ≡ None → Flawless kind (records kind xs)
accepted_flawless kind xs e = ((judged kind xs).accepts.0 e).1

pub accepted_short : (kind : Kind) (xs : List ℕ) → checked kind xs ≡ None → length xs ≤ 24576
accepted_short kind xs e = ((judged kind xs).accepts.0 e).0.0

pub opened_lawful : (kind : Kind) (xs : List ℕ) → ((i : ℕ) → get_or xs i 0 < 256) → checked kind xs ≡ None
    → Lawful (events_from 0 None (stamps kind 0 (records kind xs)))
opened_lawful Counter xs b e =
    events_lawful 0 None (stamps Counter 0 (fours xs)) (timely_counter xs 0 b (omega (arith, accepted_short Counter xs e))) (omega arith)
opened_lawful Log xs b e =
    events_lawful 0 None (stamps Log 0 (eights xs)) (timely_log (eights xs) 0 (accepted_flawless Log xs e)) (omega arith)

-- what is pending once the event e is taken
pub taken_lawful : (n m : Option Event) (e : Event) (es more : List Event) → n ≡ Some e → pending m more ≡ es
    → ∥ Lawful (pending n es) ∥₁ → ∥ Lawful (pending m more) ∥₁
taken_lawful n m e es more a b h =
    let left : Lawful (pending n es) = ∥∥₁_elim h (lawful_once (pending n es)) (λ x. x) in
    let whole : Lawful (e ∷ es) = subst (λ (x : Option Event). Lawful (pending x es)) a left in
    ∣ subst Lawful (sym b) whole.2 ∣₁

-- the events of all stamps are those of the places, in their order
places_in_order : (p : ℕ) (l : Option ℕ) (ss : List Stamp) → events_from p l ss ≡ in_order (event_behind p l ss) (length ss)
places_in_order p l [] = refl
places_in_order p l (s ∷ ss) = ap (prepended (event_of p l s)) (places_in_order (p + 1) (last_after l s) ss)

pub capture_lawful : (kind : Kind) (xs : List ℕ) → ((i : ℕ) → get_or xs i 0 < 256) → Lawful (capture_events kind xs)
capture_lawful kind xs b =
    (elim (checked kind xs) as (λ r. checked kind xs ≡ r → Lawful (events_from 0 None (unless_refused r (stamps kind 0 (records kind xs)) []))) [
      | None ↦ λ e. opened_lawful kind xs b e
      | Some r ↦ λ e. tt
    ]) refl

pub capture_in_order : (kind : Kind) (xs : List ℕ) → capture_events kind xs ≡ in_order (event_at kind xs) (record_count kind xs)
capture_in_order kind xs = places_in_order 0 None (all_stamps kind xs)

pub stamps_accepted : (kind : Kind) (xs : List ℕ) → checked kind xs ≡ None → stamps kind 0 (records kind xs) ≡ all_stamps kind xs
stamps_accepted kind xs e = ap (λ r. unless_refused r (stamps kind 0 (records kind xs)) []) (sym e)

pub stamps_refused : (kind : Kind) (xs : List ℕ) (e : CheckRefusal) → checked kind xs ≡ Some e → [] ≡ all_stamps kind xs
stamps_refused kind xs e h = ap (λ r. unless_refused r (stamps kind 0 (records kind xs)) []) (sym h)
