-- What records say of time, and the events that they become: one text for both kinds of capture.
use Rattle.std.specs.Prelude.{ℕ, zero, suc, ◌+◌, Bool, true, cond, List, [], ◌∷◌, length, Some, None, Option, nat_lt}
use Rattle.model.specs.declared.event.Event.{Event}
use Rattle.model.specs.declared.event.Event.TheVariants.{Edge, Break}
use Rattle.records.specs.Kinds.{Kind}
use Rattle.records.specs.declared.record.Record.{Record}
use Rattle.captures.specs.declared.events.Stamp.{Stamp}
use Rattle.captures.specs.declared.events.Stamp.TheVariants.{Timed, Lost, Wrapped}
use Rattle.captures.specs.declared.events.Cursor.{Cursor}
use Rattle.records.specs.declared.checking.CheckRefusal.{CheckRefusal}
use Rattle.records.specs.Records.{records}
use Rattle.records.specs.Checked.{checked}
use Rattle.captures.specs.Stamps.{stamp_of}

abbrev pub wraps_after : ℕ → Stamp → ℕ
wraps_after w Wrapped = w + 1
wraps_after w Lost = w
wraps_after w (Timed t) = w

abbrev pub stamps : Kind → ℕ → List Record → List Stamp
stamps kind w [] = []
stamps kind w (r ∷ rs) = stamp_of kind w r ∷ stamps kind (wraps_after w (stamp_of kind w r)) rs

-- the last edge's time, or 0 where there was none
abbrev pub last_time : Option ℕ → ℕ
last_time None = 0
last_time (Some t) = t

-- t is later than the last edge, or there was none
abbrev pub is_later : ℕ → Option ℕ → Bool
is_later t None = true
is_later t (Some u) = nat_lt u t

-- edges were lost at the place p, and the last edge was l
abbrev pub lost_event : ℕ → Option ℕ → Event
lost_event p l = Break p (last_time l)

-- a time was taken at the place p: an edge, unless it is not later than the last one
abbrev pub timed_event : ℕ → Option ℕ → ℕ → Event
timed_event p l t = cond (is_later t l) (Edge p t) (lost_event p l)

abbrev pub event_of : ℕ → Option ℕ → Stamp → Option Event
event_of p l Wrapped = None
event_of p l Lost = Some (lost_event p l)
event_of p l (Timed t) = Some (timed_event p l t)

-- the last edge after a time was taken, and after a stamp
abbrev pub last_after_time : Option ℕ → ℕ → Option ℕ
last_after_time l t = cond (is_later t l) (Some t) l

abbrev pub last_after : Option ℕ → Stamp → Option ℕ
last_after l Wrapped = l
last_after l Lost = l
last_after l (Timed t) = last_after_time l t

abbrev pub prepended : Option Event → List Event → List Event
prepended None es = es
prepended (Some e) es = e ∷ es

-- the events of stamps, of which the first has the place p, the last edge before it being l
abbrev pub events_from : ℕ → Option ℕ → List Stamp → List Event
events_from p l [] = []
events_from p l (s ∷ ss) = prepended (event_of p l s) (events_from (p + 1) (last_after l s) ss)

-- the event of the stamp that is i places behind the first
abbrev pub event_behind : ℕ → Option ℕ → List Stamp → ℕ → Option Event
event_behind p l [] i = None
event_behind p l (s ∷ ss) zero = event_of p l s
event_behind p l (s ∷ ss) (suc i) = event_behind (p + 1) (last_after l s) ss i

-- what the places from 0 to n - 1 have, in their order
abbrev pub in_order : (ℕ → Option Event) → ℕ → List Event
in_order at zero = []
in_order at (suc n) = prepended (at 0) (in_order (λ i. at (suc i)) n)

-- the events of a capture; one that is refused has none
abbrev pub unless_refused : {X : Type 0} → Option CheckRefusal → X → X → X
unless_refused None x none = x
unless_refused (Some e) x none = none

abbrev pub all_stamps : Kind → List ℕ → List Stamp
all_stamps kind bytes = unless_refused (checked kind bytes) (stamps kind 0 (records kind bytes)) []

abbrev pub capture_events : Kind → List ℕ → List Event
capture_events kind bytes = events_from 0 None (all_stamps kind bytes)

-- the event of the record at a place of a capture, if it has one
abbrev pub event_at : Kind → List ℕ → ℕ → Option Event
event_at kind bytes place = event_behind 0 None (all_stamps kind bytes) place

-- the number of records of a capture; one that is refused counts none
abbrev pub record_count : Kind → List ℕ → ℕ
record_count kind bytes = length (all_stamps kind bytes)

-- the events that a cursor has yet to come to
abbrev pub ahead : Kind → Cursor → List Event
ahead kind c = events_from c.place c.last (stamps kind c.wraps (records kind c.rest.now))

-- the next event, if it is known, and what is then ahead; where there is none, nothing is ahead
abbrev pub pending : Option Event → List Event → List Event
pending None es = []
pending (Some e) es = e ∷ es
