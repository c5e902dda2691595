use Rattle.captures.proofs.Lawfuls.{taken_lawful}
use Rattle.captures.proofs.capture.CaptureEdgeSource.take.Goals as goal

pub invariant_of-self : goal.invariant_of-self
invariant_of-self g c = record { lawful = taken_lawful _ _ _ _ _ c.in_ok-event.was c.next_event-self.ensures.all c.args.self.now.lawful }
