use Rattle.std.proofs.Common.{◌≡◌, length}
use Rattle.captures.specs.Times.{ahead}
use Rattle.captures.proofs.events.Cursor.next_event.Given as goal

abbrev pub invariant-loop-cut : goal.invariant-loop-cut
invariant-loop-cut g l = ahead g.K.Recording.kind l.self ≡ ahead g.K.Recording.kind l.initial.self

abbrev pub decreases-loop-cut : goal.decreases-loop-cut
decreases-loop-cut g l = length l.self.rest.now
