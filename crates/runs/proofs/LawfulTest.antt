-- The law of the lists that sources give, as a test.
use Rattle.std.proofs.Common.{◌≡◌, ◌^◌, Bool, true, ◌&&◌, ltb, leb, List, [], ◌∷◌}
use Rattle.std.proofs.lemmas.Bool.{ltb-true, leb-true, and_parts}
use Rattle.model.specs.declared.event.Event.{Event}
use Rattle.model.specs.declared.event.Event.TheVariants.{Edge, Break}
use Rattle.model.specs.Events.{place_of, time_of, EdgesRise, Precedes, PrecedesAll, Lawful}

abbrev rises : Event → Event → Bool
rises (Edge p t) (Edge q u) = ltb t u
rises (Edge p t) (Break q u) = true
rises (Break p t) f = true

abbrev precedes : Event → Event → Bool
precedes e f = ltb (place_of e) (place_of f) && (leb (time_of e) (time_of f) && rises e f)

abbrev precedes_all : Event → List Event → Bool
precedes_all e [] = true
precedes_all e (f ∷ fs) = precedes e f && precedes_all e fs

abbrev pub lawful : List Event → Bool
lawful [] = true
lawful (e ∷ es) = ltb (time_of e) (2 ^ 40) && (precedes_all e es && lawful es)

rises_told : (e f : Event) → rises e f ≡ true → EdgesRise e f
rises_told (Edge p t) (Edge q u) h = ltb-true t u h
rises_told (Edge p t) (Break q u) h = tt
rises_told (Break p t) f h = tt

precedes_told : (e f : Event) → precedes e f ≡ true → Precedes e f
precedes_told e f h =
    let a = and_parts (ltb (place_of e) (place_of f)) _ h in
    let b = and_parts (leb (time_of e) (time_of f)) _ a.1 in
    (ltb-true (place_of e) (place_of f) a.0, leb-true (time_of e) (time_of f) b.0, rises_told e f b.1)

precedes_all_told : (e : Event) (fs : List Event) → precedes_all e fs ≡ true → PrecedesAll e fs
precedes_all_told e [] h = tt
precedes_all_told e (f ∷ fs) h = let a = and_parts (precedes e f) _ h in (precedes_told e f a.0, precedes_all_told e fs a.1)

pub lawful_told : (es : List Event) → lawful es ≡ true → Lawful es
lawful_told [] h = tt
lawful_told (e ∷ es) h =
    let a = and_parts (ltb (time_of e) (2 ^ 40)) _ h in
    let b = and_parts (precedes_all e es) _ a.1 in
    (ltb-true (time_of e) (2 ^ 40) a.0, precedes_all_told e es b.0, lawful_told es b.1)
