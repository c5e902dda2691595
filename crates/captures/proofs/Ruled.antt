-- The events of a capture are those of the rule.
use Rattle.std.proofs.Common.{◌≡◌, ℕ, suc, ◌+◌, ◌*◌, Bool, true, false, cond, ◌||◌, eqb, List, [], ◌∷◌, ◌++◌, length, Some, None, Option, sym, refl, ap, ◌∙◌, subst, add-zero, arith, ltb-false, ltb-true, eqb-true}
use Rattle.model.specs.declared.event.Event.{Event}
use Rattle.model.specs.declared.event.Event.TheVariants.{Edge, Break}
use Rattle.records.specs.declared.record.Record.{Record}
use Rattle.records.specs.Kinds.{Kind}
use Rattle.records.specs.Kinds.{Counter, Log}
use Rattle.records.specs.declared.record.Flaw.TheVariants.{Mark}
use Rattle.captures.specs.declared.events.Stamp.{Stamp}
use Rattle.captures.specs.declared.events.Stamp.TheVariants.{Timed, Lost, Wrapped}
use Rattle.records.specs.Records.{records, flaw_of, timely, zero_filler, letter_s, letter_c, letter_o, letter_a, letter_l}
use Rattle.records.specs.Verdicts.{Flawless}
use Rattle.captures.specs.Times.{is_later, prepended, stamps, wraps_after, lost_event, timed_event, all_stamps, in_order, event_behind, event_of, last_after}
use Rattle.captures.specs.Stamps.{stamp_of}
use Rattle.captures.specs.Rules.{SaysTime, wraps_in, time_told, or_else, latest_edge, Later, EventByRule, wrapped, lost, risen, stayed, EventsByRule}
use Rattle.captures.proofs.Lawfuls.{stamps_accepted, stamps_refused, accepted_flawless}
use Rattle.captures.proofs.Counts.{length_stamps}

-- the latest edge behind some events before which it was l
abbrev latest_from : Option ℕ → List Event → Option ℕ
latest_from l [] = l
latest_from l (Edge p t ∷ es) = latest_from (Some t) es
latest_from l (Break p t ∷ es) = latest_from l es

or_none : (o : Option ℕ) → or_else o None ≡ o
or_none None = refl
or_none (Some t) = refl

or_joined : (a b c : Option ℕ) → or_else a (or_else b c) ≡ or_else (or_else a b) c
or_joined None b c = refl
or_joined (Some t) b c = refl

latest_is : (l : Option ℕ) (es : List Event) → latest_from l es ≡ or_else (latest_edge es) l
latest_is l [] = refl
latest_is l (Edge p t ∷ es) = latest_is (Some t) es ∙ or_joined (latest_edge es) (Some t) l
latest_is l (Break p t ∷ es) = latest_is l es

-- an event of a stamp moves the latest edge as the stamp does
latest_prepended : (p : ℕ) (l : Option ℕ) (s : Stamp) (es : List Event) → latest_from (last_after l s) es ≡ latest_from l (prepended (event_of p l s) es)
latest_prepended p l Wrapped es = refl
latest_prepended p l Lost es = refl
latest_prepended p l (Timed t) es =
    elim (is_later t l) as (λ b. latest_from (cond b (Some t) l) es ≡ latest_from l (cond b (Edge p t) (lost_event p l) ∷ es)) [
      | true ↦ refl
      | false ↦ refl
    ]

-- a record counts as a wrap in both ways
wraps_moved : (w n : ℕ) (q : Record) → wraps_after w (stamp_of Counter w q) + n ≡ w + (cond (eqb q.letter letter_o) 1 0 + n)
wraps_moved w n q =
    (elim (eqb q.letter letter_c) as (λ b. eqb q.letter letter_c ≡ b
    → wraps_after w (cond b (Timed (65536 * w + q.value)) (cond (eqb q.letter letter_o) Wrapped Lost)) + n ≡ w + (cond (eqb q.letter letter_o) 1 0 + n)) [
      | true ↦ λ k. elim (eqb q.letter letter_o) as (λ o. eqb q.letter letter_o ≡ o → w + n ≡ w + (cond o 1 0 + n)) [
        | true ↦ λ o. absurd (omega (arith, eqb-true q.letter letter_c k, eqb-true q.letter letter_o o))
        | false ↦ λ o. omega arith
      ] refl
      | false ↦ λ k. elim (eqb q.letter letter_o) as (λ o. wraps_after w (cond o Wrapped Lost) + n ≡ w + (cond o 1 0 + n)) [
        | true ↦ omega arith
        | false ↦ omega arith
      ]
    ]) refl

stamp_moved : (kind : Kind) (w n : ℕ) (q r : Record) → stamp_of kind (wraps_after w (stamp_of kind w q) + n) r ≡ stamp_of kind (w + (cond (eqb q.letter letter_o) 1 0 + n)) r
stamp_moved Counter w n q r = ap (λ (m : ℕ). stamp_of Counter m r) (wraps_moved w n q)
stamp_moved Log w n q r = refl

-- the event of a record, by the records before it and by the events of the places before its own
event_there : (kind : Kind) (p w : ℕ) (l : Option ℕ) (before behind : List Record) (r : Record)
    → event_behind p l (stamps kind w (before ++ (r ∷ behind))) (length before)
    ≡ event_of (p + length before) (latest_from l (in_order (event_behind p l (stamps kind w (before ++ (r ∷ behind)))) (length before))) (stamp_of kind (w + wraps_in before) r)
event_there kind p w l [] behind r =
    ap (λ (x : ℕ). event_of x l (stamp_of kind w r)) (sym (add-zero p)) ∙ ap (λ (x : ℕ). event_of (p + 0) l (stamp_of kind x r)) (sym (add-zero w))
event_there kind p w l (q ∷ before) behind r =
    let s = stamp_of kind w q in
    let more = event_behind (p + 1) (last_after l s) (stamps kind (wraps_after w s) (before ++ (r ∷ behind))) in
    let given = in_order more (length before) in
    let place : p + 1 + length before ≡ p + suc (length before) = omega arith in
    event_there kind (p + 1) (wraps_after w s) (last_after l s) before behind r
    ∙ ap (λ (x : ℕ). event_of x (latest_from (last_after l s) given) (stamp_of kind (wraps_after w s + wraps_in before) r)) place
    ∙ ap (λ (x : Option ℕ). event_of (p + suc (length before)) x (stamp_of kind (wraps_after w s + wraps_in before) r)) (latest_prepended p l s given)
    ∙ ap (λ (x : Stamp). event_of (p + suc (length before)) (latest_from l (prepended (event_of p l s) given)) x) (stamp_moved kind w (wraps_in before) q r)

-- the test of the code and the words of the rule say the same
later_so : (t : ℕ) (l : Option ℕ) → is_later t l ≡ true → Later t l
later_so t None k = tt
later_so t (Some u) k = ltb-true u t k

later_not : (t : ℕ) (l : Option ℕ) → is_later t l ≡ false → Later t l → ⊥
later_not t None k h = cc
later_not t (Some u) k h = omega (arith, ltb-false u t k)

-- a record with a time keeps the rule
timed_by_rule : (kind : Kind) (before : List Record) (given : List Event) (place : ℕ) (r : Record) (gives : Option Event)
    → SaysTime kind r → gives ≡ Some (timed_event place (latest_edge given) (time_told kind before r)) → EventByRule kind before given place r gives
timed_by_rule kind before given place r gives says e =
    let t = time_told kind before r in
    let l = latest_edge given in
    (elim (is_later t l) as (λ b. is_later t l ≡ b → gives ≡ Some (cond b (Edge place t) (lost_event place l)) → EventByRule kind before given place r gives) [
      | true ↦ λ k g. risen says (later_so t l k) g
      | false ↦ λ k g. stayed says (later_not t l k) g
    ]) refl e

-- a record without a flaw that says neither a time nor a wrap says a loss
loss_left : (marked lossy : Bool) (v : ℕ) → cond marked (cond lossy (zero_filler v) (Some Mark)) (Some Mark) ≡ None → lossy ≡ true
loss_left true true v e = refl
loss_left true false v e = cc
loss_left false lossy v e = cc

-- a record without a flaw keeps the rule, if its event is that of its stamp
by_rule : (kind : Kind) (before : List Record) (given : List Event) (place : ℕ) (r : Record) (gives : Option Event)
    → flaw_of kind r ≡ None → gives ≡ event_of place (latest_edge given) (stamp_of kind (wraps_in before) r) → EventByRule kind before given place r gives
by_rule Counter before given place r gives sound e =
    let l = latest_edge given in
    let t = time_told Counter before r in
    let k = r.letter in
    let Goal = EventByRule Counter before given place r gives in
    (elim (eqb k letter_c) as (λ b. eqb k letter_c ≡ b
    → cond (eqb r.mark letter_s) (cond b None (cond (eqb k letter_o || eqb k letter_l) (zero_filler r.value) (Some Mark))) (Some Mark) ≡ None
    → gives ≡ event_of place l (cond b (Timed t) (cond (eqb k letter_o) Wrapped Lost)) → Goal) [
      | true ↦ λ is f g. timed_by_rule Counter before given place r gives (eqb-true k letter_c is) g
      | false ↦ λ is. elim (eqb k letter_o) as (λ b. eqb k letter_o ≡ b
          → cond (eqb r.mark letter_s) (cond (b || eqb k letter_l) (zero_filler r.value) (Some Mark)) (Some Mark) ≡ None
          → gives ≡ event_of place l (cond b Wrapped Lost) → Goal) [
            | true ↦ λ o f g. wrapped (eqb-true k letter_o o) g
            | false ↦ λ o f g. lost (eqb-true k letter_l (loss_left (eqb r.mark letter_s) (eqb k letter_l) r.value f)) g
          ] refl
    ]) refl sound e
by_rule Log before given place r gives sound e =
    let l = latest_edge given in
    let k = r.letter in
    let Goal = EventByRule Log before given place r gives in
    (elim (eqb k letter_a) as (λ b. eqb k letter_a ≡ b
    → cond (eqb r.mark letter_s) (cond b (timely r.value) (cond (eqb k letter_l) (zero_filler r.value) (Some Mark))) (Some Mark) ≡ None
    → gives ≡ event_of place l (cond b (Timed r.value) Lost) → Goal) [
      | true ↦ λ is f g. timed_by_rule Log before given place r gives (eqb-true k letter_a is) g
      | false ↦ λ is f g. lost (eqb-true k letter_l (loss_left (eqb r.mark letter_s) (eqb k letter_l) r.value f)) g
    ]) refl sound e

-- where none of some records has a flaw, each is without one
sound_there : (kind : Kind) (before behind : List Record) (r : Record) → Flawless kind (before ++ (r ∷ behind)) → flaw_of kind r ≡ None
sound_there kind [] behind r f = f.0
sound_there kind (q ∷ before) behind r f = sound_there kind before behind r f.1

-- a record without a flaw gives what the rule says, where these are the stamps of it and its neighbours
ruled_there : (kind : Kind) (ss : List Stamp) (before behind : List Record) (r : Record) → stamps kind 0 (before ++ (r ∷ behind)) ≡ ss → flaw_of kind r ≡ None
    → EventByRule kind before (in_order (event_behind 0 None ss) (length before)) (length before) r (event_behind 0 None ss (length before))
ruled_there kind ss before behind r same sound =
    let there = stamps kind 0 (before ++ (r ∷ behind)) in
    let given = in_order (event_behind 0 None there) (length before) in
    let n = length before in
    let place : 0 + n ≡ n = omega arith in
    let wraps : 0 + wraps_in before ≡ wraps_in before = omega arith in
    let latest : latest_from None given ≡ latest_edge given = latest_is None given ∙ or_none (latest_edge given) in
    let is = event_there kind 0 0 None before behind r
    ∙ ap (λ (x : ℕ). event_of x (latest_from None given) (stamp_of kind (0 + wraps_in before) r)) place
    ∙ ap (λ (x : Option ℕ). event_of n x (stamp_of kind (0 + wraps_in before) r)) latest
    ∙ ap (λ (x : ℕ). event_of n (latest_edge given) (stamp_of kind x r)) wraps in
    subst (λ (x : List Stamp). EventByRule kind before (in_order (event_behind 0 None x) n) n r (event_behind 0 None x n)) same
    (by_rule kind before given n r (event_behind 0 None there n) sound is)

-- the law of a capture's events
pub events_by_rule : (kind : Kind) (xs : List ℕ) → EventsByRule kind xs
events_by_rule kind xs =
    record {
      each = λ e before behind r cut.
          ruled_there kind (all_stamps kind xs) before behind r
          (ap (stamps kind 0) (sym cut) ∙ stamps_accepted kind xs e)
          (sound_there kind before behind r (subst (Flawless kind) cut (accepted_flawless kind xs e)));
      all = λ e. ap length (sym (stamps_accepted kind xs e)) ∙ length_stamps kind 0 (records kind xs);
      none = λ f e. ap length (sym (stamps_refused kind xs f e));
    }
