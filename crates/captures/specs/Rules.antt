-- Which event each record of a capture gives, place by place: told by the record, by the records before it, and by the events that those gave.
use Rattle.std.specs.Prelude.{◌≡◌, ℕ, ◌+◌, ◌*◌, ◌<◌, cond, List, [], ◌∷◌, ◌++◌, length, Some, None, Option, ◌==◌}
use Rattle.model.specs.declared.event.Event.{Event}
use Rattle.model.specs.declared.event.Event.TheVariants.{Edge, Break}
use Rattle.records.specs.Kinds.{Kind}
use Rattle.records.specs.Kinds.{Counter, Log}
use Rattle.records.specs.declared.record.Record.{Record}
use Rattle.records.specs.declared.checking.CheckRefusal.{CheckRefusal}
use Rattle.records.specs.Records.{records, letter_c, letter_o, letter_l, letter_a}
use Rattle.records.specs.Checked.{checked}
use Rattle.captures.specs.Times.{last_time, in_order, event_at, record_count}

-- the record says that the timer wrapped: a log has no such records
abbrev pub SaysWrap : Kind → Record → Type 0
SaysWrap Counter r = r.letter ≡ letter_o
SaysWrap Log r = ⊥

-- the record says that edges were lost
abbrev pub SaysLoss : Record → Type 0
SaysLoss r = r.letter ≡ letter_l

-- the record has a time
abbrev pub SaysTime : Kind → Record → Type 0
SaysTime Counter r = r.letter ≡ letter_c
SaysTime Log r = r.letter ≡ letter_a

-- how many of the records say that the timer wrapped
abbrev pub wraps_in : List Record → ℕ
wraps_in [] = 0
wraps_in (r ∷ rs) = cond (r.letter == letter_o) 1 0 + wraps_in rs

-- the time that a record has, behind those before it: a counter's value goes on from the wraps, and a log's is the time itself
abbrev pub time_told : Kind → List Record → Record → ℕ
time_told Counter before r = 65536 * wraps_in before + r.value
time_told Log before r = r.value

-- the first of two that is there
abbrev pub or_else : Option ℕ → Option ℕ → Option ℕ
or_else None other = other
or_else (Some t) other = Some t

-- the time of the last edge of a list of events, if it has an edge
abbrev pub latest_edge : List Event → Option ℕ
latest_edge [] = None
latest_edge (Edge p t ∷ es) = or_else (latest_edge es) (Some t)
latest_edge (Break p t ∷ es) = latest_edge es

-- there is no edge yet, or the latest is earlier than t
abbrev pub Later : ℕ → Option ℕ → Type 0
Later t None = Unit {0}
Later t (Some u) = u < t

-- The rule: what the record at a place gives, where these records stand before it and gave these events.
pub data EventByRule (kind : Kind) (before : List Record) (given : List Event) (place : ℕ) (r : Record) (gives : Option Event) : Type 0 where
  -- a wrap of the timer is no event
  wrapped : SaysWrap kind r → gives ≡ None → EventByRule kind before given place r gives
  -- lost edges are a break, at the time of the latest edge, or at 0 where there is none yet
  lost : SaysLoss r → gives ≡ Some (Break place (last_time (latest_edge given))) → EventByRule kind before given place r gives
  -- a time is an edge where there is none yet, or the latest is earlier
  risen : SaysTime kind r → Later (time_told kind before r) (latest_edge given) → gives ≡ Some (Edge place (time_told kind before r))
      → EventByRule kind before given place r gives
  -- any other time is a break, at the time of the latest edge
  stayed : SaysTime kind r → (Later (time_told kind before r) (latest_edge given) → ⊥)
      → gives ≡ Some (Break place (last_time (latest_edge given))) → EventByRule kind before given place r gives

-- The law of a capture's events, in three parts.
pub record EventsByRule (kind : Kind) (bytes : List ℕ) : Type 0 where
  -- wherever the records of an accepted capture are parted at one of them, this gives what the rule says of it, of the records
  -- before it, and of the events of the places before its own
  pub each : checked kind bytes ≡ None → (before behind : List Record) (r : Record) → records kind bytes ≡ before ++ (r ∷ behind)
      → EventByRule kind before (in_order (event_at kind bytes) (length before)) (length before) r (event_at kind bytes (length before))
  -- an accepted capture has as many places as records
  pub all : checked kind bytes ≡ None → record_count kind bytes ≡ length (records kind bytes)
  -- a refused capture has none
  pub none : (e : CheckRefusal) → checked kind bytes ≡ Some e → record_count kind bytes ≡ 0
