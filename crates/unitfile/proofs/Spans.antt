-- The figures of a list of events, as they grow.
use Rattle.std.proofs.Common.{◌≡◌, ℕ, ◌+◌, ◌^◌, ◌<◌, List, [], ◌∷◌, Some, None, Option, refl, arith}
use Rattle.model.specs.declared.event.Event.{Event}
use Rattle.model.specs.Events.{time_of, first}
use Rattle.unitfile.specs.declared.summary.Span.{Span}
use Rattle.unitfile.specs.Summaries.{span_of, last_of, extended_span, capped}

-- the span of what was seen and of what is left
abbrev pub continued : Option Span → List Event → Option Span
continued None es = span_of es
continued (Some s) es = Some (record { first = s.first; last = last_of s.last es })

pub continued_more : (o : Option Span) (e : Event) (es : List Event) → continued (extended_span o (time_of e)) es ≡ continued o (e ∷ es)
continued_more None e es = refl
continued_more (Some s) e es = refl

-- where no event is left, nothing is
pub none_left : (es : List Event) → None ≡ first es → es ≡ []
none_left [] e = refl
none_left (x ∷ xs) e = cc

-- what was counted is all, where nothing is left
pub counted_all : (n m : ℕ) → n < 2 ^ 32 → capped (n + 0) ≡ m → n ≡ m
counted_all n m h e = omega (arith, e)

pub continued_none : (o : Option Span) → continued o [] ≡ o
continued_none None = refl
continued_none (Some s) = refl
