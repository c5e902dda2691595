use Rattle.std.proofs.Common.{◌≡◌, sym, subst, arith}
use Rattle.std.proofs.lemmas.Grind.{common_steps}
use Rattle.model.specs.Events.{Lawful}
use Rattle.captures.specs.Times.{ahead, pending, capture_events}
use Rattle.captures.proofs.Lawfuls.{capture_lawful}
use Rattle.captures.proofs.capture.Capture.begun.Goals as goal

pub invariant_of-result : goal.invariant_of-result
invariant_of-result g c =
    let kind = g.K.Recording.kind in
    let xs = c.args.bytes.now in
    let all : pending c.next_event-next.result (ahead kind c.next_event-next.new.self) ≡ capture_events kind xs = grind (arith, common_steps) in
    record { lawful = ∣ subst Lawful (sym all) (capture_lawful kind xs (λ i. omega (arith, c.type_inv.bytes i))) ∣₁ }
