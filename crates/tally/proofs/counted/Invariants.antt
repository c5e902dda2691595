use Rattle.std.proofs.Common.{◌+◌, length}
use Rattle.tally.proofs.counted.Given as goal

abbrev pub decreases-loop : goal.decreases-loop
decreases-loop l = length l.unit.state.left_a + length l.unit.state.left_b
