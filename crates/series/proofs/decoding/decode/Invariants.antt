use Rattle.std.proofs.Common.{◌≡◌, ◌≤◌, ◌++◌, length, drop, vec_items, vec_len, vec_capacity}
use Rattle.pulses.specs.Decoding.{state_of}
use Rattle.pulses.specs.Steps.{lost, outcomes, after}
use Rattle.series.proofs.decoding.decode.Given as goal

-- the outcomes so far and those yet to come are all, and there is room for these
abbrev pub invariant-loop-event : goal.invariant-loop-event
invariant-loop-event l =
    (vec_items l.out ++ outcomes l.initial.decoder.settings (state_of l.decoder) (drop l.event-index l.events) ≡ outcomes l.initial.decoder.settings lost l.events)
    × (after l.initial.decoder.settings (state_of l.decoder) (drop l.event-index l.events) ≡ after l.initial.decoder.settings lost l.events)
    × (l.decoder.settings ≡ l.initial.decoder.settings)
    × (vec_len l.out ≡ l.event-index)
    × (length l.events ≤ vec_capacity l.out)
    × (vec_capacity l.out ≡ vec_capacity l.initial.out)
