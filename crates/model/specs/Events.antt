-- Events, and the law of every list of them that a source may have to give.
use Rattle.std.specs.Prelude.{ℕ, ◌^◌, ◌<◌, ◌≤◌, List, [], ◌∷◌, Some, None, Option}
use Rattle.std.specs.List.{AllByRecursion}
use Rattle.model.specs.declared.event.Event.{Event}
use Rattle.model.specs.declared.event.Event.TheVariants.{Edge, Break}

-- the place and the time of an event
abbrev pub place_of : Event → ℕ
place_of (Edge p t) = p
place_of (Break p t) = p

abbrev pub time_of : Event → ℕ
time_of (Edge p t) = t
time_of (Break p t) = t

-- of two edges, the second is later
abbrev pub EdgesRise : Event → Event → Type 0
EdgesRise (Edge p t) (Edge q u) = t < u
EdgesRise (Edge p t) (Break q u) = Unit {0}
EdgesRise (Break p t) f = Unit {0}

-- f may come after e: its place is higher, its time no smaller, and greater where both are edges
abbrev pub Precedes : Event → Event → Type 0
Precedes e f = (place_of e < place_of f) × (time_of e ≤ time_of f) × EdgesRise e f

-- all of these may come after e
abbrev pub PrecedesAll : Event → List Event → Type 0
PrecedesAll e fs = AllByRecursion (Precedes e) fs

-- a list is lawful if each event may come before all that follow it, and every time is below 2^40
abbrev pub Lawful : List Event → Type 0
Lawful [] = Unit {0}
Lawful (e ∷ es) = (time_of e < 2 ^ 40) × PrecedesAll e es × Lawful es

-- the first event of a list, if there is one, and the list without it
abbrev pub first : List Event → Option Event
first [] = None
first (e ∷ es) = Some e

abbrev pub rest : List Event → List Event
rest [] = []
rest (e ∷ es) = es
