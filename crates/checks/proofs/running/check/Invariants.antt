use Rattle.std.proofs.Common.{◌≡◌, ◌%◌, ◌^◌, ◌<◌, fold, take}
use lib.Bits.{bit_xor}
use Rattle.checks.specs.Checks.{entry}
use Rattle.checks.proofs.running.check.Given as goal

-- the value is what the groups so far give, each cut to the width
abbrev pub invariant-loop-group : goal.invariant-loop-group
invariant-loop-group g l =
    let w = g.row.WIDTH in
    (l.value < 2 ^ w) × (l.value ≡ fold (λ v b. bit_xor (entry w g.row.LOW v) (b % 2 ^ w)) l.start (take l.group-index l.groups))
