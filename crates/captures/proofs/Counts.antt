-- How many records a capture has, by its length.
use Rattle.std.proofs.Common.{◌≡◌, ℕ, suc, ◌+◌, ◌*◌, ◌/◌, ◌<◌, ◌≤◌, List, [], ◌∷◌, length, Some, None, Option, sym, refl, ap, ◌∙◌, arith}
use Rattle.records.specs.Kinds.{Kind}
use Rattle.records.specs.Kinds.{Counter, Log}
use Rattle.records.specs.declared.record.Record.{Record}
use Rattle.records.specs.Records.{size, records}
use Rattle.records.specs.Checked.{checked}
use Rattle.std.specs.Prelude.{IsNone}
use Rattle.records.specs.declared.checking.CheckRefusal.{CheckRefusal}
use Rattle.captures.specs.declared.events.Stamp.{Stamp}
use Rattle.captures.specs.declared.events.Stamp.TheVariants.{Timed, Lost, Wrapped}
use Rattle.captures.specs.Times.{stamps, wraps_after, record_count, unless_refused, events_from, last_after, all_stamps, capture_events}
use Rattle.captures.specs.Stamps.{stamp_of}
use Rattle.records.proofs.Counts.{length_records}
use Rattle.captures.proofs.Lawfuls.{stamps_accepted}

pub length_stamps : (kind : Kind) (w : ℕ) (rs : List Record) → length (stamps kind w rs) ≡ length rs
length_stamps kind w [] = refl
length_stamps kind w (r ∷ rs) = ap suc (length_stamps kind (wraps_after w (stamp_of kind w r)) rs)

none_there : (o : Option CheckRefusal) → IsNone o → o ≡ None
none_there None e = refl
none_there (Some x) e = cc

pub counted : (kind : Kind) (xs : List ℕ) → IsNone (checked kind xs) → length xs / size kind ≡ record_count kind xs
counted kind xs e =
    sym (length_records kind xs) ∙ sym (length_stamps kind 0 (records kind xs)) ∙ ap length (stamps_accepted kind xs (none_there (checked kind xs) e))

-- a capture has no more records than its bytes make
count_most : (kind : Kind) (xs : List ℕ) → record_count kind xs ≤ length xs / size kind
count_most kind xs =
    let e = length_stamps kind 0 (records kind xs) ∙ length_records kind xs in
    elim (checked kind xs) as (λ r. length (unless_refused r (stamps kind 0 (records kind xs)) []) ≤ length xs / size kind) [
      | None ↦ omega (arith, e)
      | Some r ↦ omega arith
    ]

-- its last record ends within it
pub record_within : (kind : Kind) (xs : List ℕ) (l : ℕ) → l < record_count kind xs → (l + 1) * size kind ≤ length xs
record_within Counter xs l h = omega (arith, count_most Counter xs)
record_within Log xs l h = omega (arith, count_most Log xs)

-- a capture has no more events than records
events_of_stamps : (p : ℕ) (l : Option ℕ) (ss : List Stamp) → length (events_from p l ss) ≤ length ss
events_of_stamps p l [] = omega arith
events_of_stamps p l (Wrapped ∷ ss) = omega (arith, events_of_stamps (p + 1) l ss)
events_of_stamps p l (Lost ∷ ss) = omega (arith, events_of_stamps (p + 1) l ss)
events_of_stamps p l (Timed t ∷ ss) = omega (arith, events_of_stamps (p + 1) (last_after l (Timed t)) ss)

pub events_few : (kind : Kind) (xs : List ℕ) → length (capture_events kind xs) ≤ length xs / size kind
events_few kind xs = omega (arith, events_of_stamps 0 None (all_stamps kind xs), count_most kind xs)
