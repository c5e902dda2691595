use Rattle.std.proofs.Common.{◌≡◌, ◌+◌, ◌≤◌, length}
use Rattle.records.specs.Records.{records}
use Rattle.records.specs.Checked.{first_flaw}
use Rattle.records.proofs.checking.check.Given as goal

-- the first flaw is among the records that are left, of which the first has the place counted so far
abbrev pub invariant-loop-place : goal.invariant-loop-place
invariant-loop-place g l =
    let kind = g.K.Recording.kind in
    let left = records kind l.place-iterator.iter.rest.now in
    (goal.iterator-loop-place g).can_next l.place-iterator
    × (goal.iterator-loop-place g).is_finite l.place-iterator
    × (first_flaw kind l.place-iterator.count left ≡ first_flaw kind 0 (records kind l.bytes))
    × (l.place-iterator.count + length left ≤ 24576)
