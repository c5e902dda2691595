-- The numbers of faults, and the layers that see them.
use Rattle.std.specs.Prelude.{ℕ}
use Rattle.model.specs.declared.fault.FaultKind.{FaultKind}
use Rattle.model.specs.declared.fault.FaultKind.TheVariants.{Break, Interval, Calibration, ShortNibble, LongNibble, FrameCheck, SerialCheck}
use Rattle.model.specs.declared.fault.Layer.{Layer}
use Rattle.model.specs.declared.fault.Layer.TheVariants.{Source, Pulse, Frame, Serial}

-- the number by which a fault is reported
abbrev pub number : FaultKind → ℕ
number Break = 201
number Interval = 202
number Calibration = 301
number ShortNibble = 302
number LongNibble = 303
number FrameCheck = 401
number SerialCheck = 501

-- where in the chain from the wire to the message a fault is seen
abbrev pub layer : FaultKind → Layer
layer Break = Source
layer Interval = Source
layer Calibration = Pulse
layer ShortNibble = Pulse
layer LongNibble = Pulse
layer FrameCheck = Frame
layer SerialCheck = Serial

-- the digit that the numbers of a layer's faults begin with
abbrev pub digit : Layer → ℕ
digit Source = 2
digit Pulse = 3
digit Frame = 4
digit Serial = 5
