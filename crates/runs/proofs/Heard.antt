-- What a channel says of a list of events by itself.
use Rattle.std.proofs.Common.{◌≡◌, List, [], ◌∷◌, refl, ap}
use Rattle.model.specs.declared.event.Event.{Event}
use Rattle.receiver.specs.Channels.{Rules, ChannelState, reports, given}
use Rattle.runs.specs.Traces.{Entry, events_of}

-- the trace of a channel, from a state of it on, over these events
abbrev pub heard : {M : Type 0} → Rules M → ChannelState → List Event → List (Entry M)
heard rules c [] = []
heard rules c (e ∷ es) = record { event = e; said = reports rules c e } ∷ heard rules (given rules c e) es

-- the channel after these events
abbrev pub heard_after : {M : Type 0} → Rules M → ChannelState → List Event → ChannelState
heard_after rules c [] = c
heard_after rules c (e ∷ es) = heard_after rules (given rules c e) es

pub heard_events : {M : Type 0} (rules : Rules M) (c : ChannelState) (es : List Event) → events_of (heard rules c es) ≡ es
heard_events rules c [] = refl
heard_events rules c (e ∷ es) = ap (λ (xs : List Event). e ∷ xs) (heard_events rules (given rules c e) es)
