-- The letters of the channels.
use Rattle.std.specs.Prelude.{ℕ, codes, slice_index}
use Rattle.model.specs.declared.side.Side.{Side}
use Rattle.model.specs.declared.side.Side.TheVariants.{A as ChannelA, B as ChannelB}

abbrev pub side_letter : Side → ℕ
side_letter ChannelA = slice_index (codes "A") 0
side_letter ChannelB = slice_index (codes "B") 0
