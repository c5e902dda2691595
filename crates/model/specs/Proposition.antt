-- That a list is lawful can be shown in one way only, so that a struct may keep it as a fact about itself.
use Rattle.std.specs.Prelude.{List, [], ◌∷◌, refl}
use Rattle.std.specs.Coded.{Unit-prop, le_prop}
use Rattle.std.specs.List.{AllByRecursion-prop}
use Rattle.model.specs.declared.event.Event.{Event}
use Rattle.model.specs.declared.event.Event.TheVariants.{Edge, Break}
use Rattle.model.specs.Events.{EdgesRise, Precedes, Lawful}

edges_rise_once : (e f : Event) → IsProp (EdgesRise e f)
edges_rise_once (Edge p t) (Edge q u) = le_prop
edges_rise_once (Edge p t) (Break q u) = Unit-prop
edges_rise_once (Break p t) f = Unit-prop

precedes_once : (e f : Event) → IsProp (Precedes e f)
precedes_once e f x y = λ i. (le_prop x.0 y.0 i, le_prop x.1 y.1 i, edges_rise_once e f x.2 y.2 i)

pub lawful_once : (es : List Event) → IsProp (Lawful es)
lawful_once [] x y = refl
lawful_once (e ∷ es) x y =
    λ i. (le_prop x.0 y.0 i, AllByRecursion-prop (Precedes e) (precedes_once e) es x.1 y.1 i, lawful_once es x.2 y.2 i)
