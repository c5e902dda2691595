-- What a decoder's state means.
use Rattle.pulses.specs.declared.decoder.Decoder.{Decoder}
use Rattle.pulses.specs.States.{meaning}
use Rattle.pulses.specs.Steps.{PulseState}

abbrev pub state_of : Decoder → PulseState
state_of d = meaning d.state
