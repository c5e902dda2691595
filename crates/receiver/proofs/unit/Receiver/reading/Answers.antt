use Rattle.std.proofs.Common.{rules}
use Rattle.receiver.proofs.unit.Receiver.reading.Goals as goal

pub returns-in-A-clause-reading : goal.returns-in-A-clause-reading
returns-in-A-clause-reading g c = rw c.in-A.is (search rules)

pub returns-in-B-clause-reading : goal.returns-in-B-clause-reading
returns-in-B-clause-reading g c = rw c.in-B.is (search rules)
