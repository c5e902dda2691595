-- A list of events in figures.
use Rattle.std.specs.Prelude.{ℕ, ◌+◌, min, List, [], ◌∷◌, Some, None, Option}
use Rattle.model.specs.declared.event.Event.{Event}
use Rattle.model.specs.declared.event.Event.TheVariants.{Edge, Break}
use Rattle.model.specs.Events.{time_of}
use Rattle.unitfile.specs.declared.summary.Span.{Span}
use Rattle.unitfile.specs.declared.summary.Summary.{Summary}

-- how many edges, and how many breaks
abbrev pub edges_of : List Event → ℕ
edges_of [] = 0
edges_of (Edge p t ∷ es) = edges_of es + 1
edges_of (Break p t ∷ es) = edges_of es

abbrev pub breaks_of : List Event → ℕ
breaks_of [] = 0
breaks_of (Edge p t ∷ es) = breaks_of es
breaks_of (Break p t ∷ es) = breaks_of es + 1

-- a figure stops at the greatest number of 32 bits
abbrev pub capped : ℕ → ℕ
capped n = min n 4294967295

-- the time of the last of some events, or t where there are none
abbrev pub last_of : ℕ → List Event → ℕ
last_of t [] = t
last_of t (e ∷ es) = last_of (time_of e) es

-- the times of the first and of the last event
abbrev pub span_of : List Event → Option Span
span_of [] = None
span_of (e ∷ es) = Some (record { first = time_of e; last = last_of (time_of e) es })

-- the span of some events, and of one more at the time t
abbrev pub extended_span : Option Span → ℕ → Option Span
extended_span None t = Some (record { first = t; last = t })
extended_span (Some s) t = Some (record { first = s.first; last = t })

-- the figures of some events, and of one more
abbrev pub with_event : Summary → Event → Summary
with_event s (Edge p t) = record { edges = capped (s.edges + 1); breaks = s.breaks; span = extended_span s.span t }
with_event s (Break p t) = record { edges = s.edges; breaks = capped (s.breaks + 1); span = extended_span s.span t }
