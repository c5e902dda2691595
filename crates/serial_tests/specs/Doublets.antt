-- A format of two pairs, for tests.
use Rattle.std.specs.Prelude.{Bool, cond, not, ◌&&◌, List, length, Some, None, ◌==◌, slice_index_or}
use Rattle.serial.specs.declared.pair.Pair.{Pair}
use Rattle.serial.specs.Pairs.{blank}
use Rattle.serial.specs.Format.{Format}

abbrev pub framed : List Pair → Bool
framed ps = length ps == 2 && (slice_index_or ps 0 blank).high

abbrev pub lawful : List Pair → Bool
lawful ps = framed ps && not (slice_index_or ps 1 blank).high

abbrev pub doublet : Format Bool
doublet = record { size = 2; framed = framed; lawful = lawful; told = λ ps. cond (lawful ps) (Some (slice_index_or ps 1 blank).low) None }
