-- The short format: 16 pairs.
use Rattle.std.specs.Prelude.{◌≡◌, ◌<◌, List, [], ◌∷◌, Some}
use Rattle.checks.specs.Checks.{check4}
use Rattle.serial.specs.declared.pair.Pair.{Pair}
use Rattle.formats.specs.declared.short.ShortMessage.{ShortMessage}
use Rattle.serial.specs.Format.{Format}
use Rattle.formats.specs.declared.layout.Position.{Position}
use Rattle.formats.specs.declared.layout.Position.TheVariants.{Bit3}
use Rattle.formats.specs.Positions.{bits3, bits2, spelled}
use Rattle.formats.specs.Layout.{Layout, format_by, written_by}

-- only the first pair has bit 3 set; bit 2 carries the id, then the data, then the check nibble of both
abbrev pub layout : Layout
layout = record {
  size = 16;
  ones = Bit3 0 ∷ [];
  zeros = bits3 1 15;
  covered = bits2 0 4 ∷ bits2 4 4 ∷ bits2 8 4 ∷ [];
  check_bits = bits2 12 4;
}

abbrev pub id_bits : List Position
id_bits = bits2 0 4

abbrev pub data_bits : List Position
data_bits = bits2 4 8

abbrev pub content : List Pair → ShortMessage
content ps = record { id = spelled ps id_bits; «data» = spelled ps data_bits }

abbrev pub short : Format ShortMessage
short = format_by layout check4 content

-- an id of four bits and data of eight
pub record Within (m : ShortMessage) : Type 0 where
  pub id_fits : m.id < 16
  pub data_fits : m.«data» < 256

-- the pairs of a message
abbrev pub sent : ShortMessage → List Pair
sent m = written_by layout check4 (record { at = id_bits; value = m.id } ∷ record { at = data_bits; value = m.«data» } ∷ [])

-- a message that a list tells is within the fields
abbrev pub ToldWithinTheFields : Type 0
ToldWithinTheFields = (ps : List Pair) (m : ShortMessage) → short.told ps ≡ Some m → Within m

-- each message within the fields is told by the pairs that it is sent as, so that these are a lawful list
abbrev pub EachMessageHasItsList : Type 0
EachMessageHasItsList = (m : ShortMessage) → Within m → short.told (sent m) ≡ Some m
