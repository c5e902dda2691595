use Rattle.std.proofs.Common.{◌≡◌, ◌+◌, ◌^◌, ◌<◌, length}
use Rattle.unitfile.specs.Summaries.{edges_of, breaks_of, capped, span_of}
use Rattle.unitfile.proofs.Spans.{continued}
use Rattle.unitfile.proofs.summary.summary_of.Given as goal

abbrev pub invariant-loop-event : goal.invariant-loop-event
invariant-loop-event g l =
    (capped (l.summary.edges + edges_of (g.S.EdgeSource.events l.source)) ≡ capped (edges_of (g.S.EdgeSource.events l.initial.source)))
    × (capped (l.summary.breaks + breaks_of (g.S.EdgeSource.events l.source)) ≡ capped (breaks_of (g.S.EdgeSource.events l.initial.source)))
    × (continued l.summary.span (g.S.EdgeSource.events l.source) ≡ span_of (g.S.EdgeSource.events l.initial.source))
    × (l.summary.edges < 2 ^ 32)
    × (l.summary.breaks < 2 ^ 32)

abbrev pub decreases-loop-event : goal.decreases-loop-event
decreases-loop-event g l = length (g.S.EdgeSource.events l.source)
