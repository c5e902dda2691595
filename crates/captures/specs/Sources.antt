-- The events that an open capture has yet to give, and that they keep the law of a source.
use Rattle.std.specs.Prelude.{List}
use Rattle.std.proofs.Math.Logic.{∥∥₁_elim}
use Rattle.model.specs.declared.event.Event.{Event}
use Rattle.model.specs.Events.{Lawful}
use Rattle.model.specs.Proposition.{lawful_once}
use Rattle.records.specs.declared.record.Recording.{Ghosts}
use Rattle.captures.specs.declared.capture.Capture.{Capture}
use Rattle.captures.specs.Times.{ahead, pending}

-- of a capture of either kind K: the next event, and those behind it
module _ {K : Type 0} {G : Ghosts K} where
  abbrev pub source_left : Capture K G → List Event
  source_left s = pending s.next (ahead G.kind s.behind)

  abbrev pub source_lawful : (s : Capture K G) → Lawful (source_left s)
  source_lawful s = ∥∥₁_elim s.lawful (lawful_once (source_left s)) (λ h. h)
