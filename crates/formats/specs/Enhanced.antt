-- The enhanced format: 18 pairs.
use Rattle.std.specs.Prelude.{◌≡◌, ℕ, suc, ◌<◌, Bool, true, false, List, [], ◌∷◌, ◌++◌, Some}
use Rattle.checks.specs.Checks.{check6}
use Rattle.serial.specs.declared.pair.Pair.{Pair}
use Rattle.formats.specs.declared.enhanced.EnhancedMessage.{EnhancedMessage}
use Rattle.formats.specs.declared.enhanced.Configuration.{Configuration}
use Rattle.formats.specs.declared.enhanced.Configuration.TheVariants.{Data12, Data16}
use Rattle.serial.specs.Format.{Format}
use Rattle.formats.specs.declared.layout.Position.{Position}
use Rattle.formats.specs.declared.layout.Position.TheVariants.{Bit3, Bit2}
use Rattle.formats.specs.Positions.{bits3, bits2, read, spelled}
use Rattle.formats.specs.Layout.{Layout, format_by, written_by}

-- bit 2 and then bit 3 of three pairs, from the one with the number k on
abbrev pub group : ℕ → List Position
group k = Bit2 k ∷ Bit3 k ∷ Bit2 (suc k) ∷ Bit3 (suc k) ∷ Bit2 (suc (suc k)) ∷ Bit3 (suc (suc k)) ∷ []

-- bit 3 is 1 in the first six pairs and 0 in the seventh, the thirteenth and the last;
-- the check stands in bit 2 of the first six and covers the others
abbrev pub layout : Layout
layout = record {
  size = 18;
  ones = bits3 0 6;
  zeros = Bit3 6 ∷ Bit3 12 ∷ Bit3 17 ∷ [];
  covered = group 6 ∷ group 9 ∷ group 12 ∷ group 15 ∷ [];
  check_bits = bits2 0 6;
}

-- the bit that tells which of the two shapes of id and data follows
abbrev pub configuration_bits : List Position
configuration_bits = Bit3 7 ∷ []

abbrev pub configuration_of : Bool → Configuration
configuration_of true = Data16
configuration_of false = Data12

abbrev pub configuration_value : Configuration → ℕ
configuration_value Data12 = 0
configuration_value Data16 = 1

-- an id of eight bits and data of twelve, or an id of four and data of sixteen
abbrev pub id_bits : Configuration → List Position
id_bits Data12 = bits3 8 4 ++ bits3 13 4
id_bits Data16 = bits3 8 4

abbrev pub data_bits : Configuration → List Position
data_bits Data12 = bits2 6 12
data_bits Data16 = bits3 13 4 ++ bits2 6 12

abbrev pub shaped : Configuration → List Pair → EnhancedMessage
shaped c ps = record { configuration = c; id = spelled ps (id_bits c); «data» = spelled ps (data_bits c) }

abbrev pub content : List Pair → EnhancedMessage
content ps = shaped (configuration_of (read ps (Bit3 7))) ps

abbrev pub enhanced : Format EnhancedMessage
enhanced = format_by layout check6 content

-- what id and data stay below
abbrev pub id_limit : Configuration → ℕ
id_limit Data12 = 256
id_limit Data16 = 16

abbrev pub data_limit : Configuration → ℕ
data_limit Data12 = 4096
data_limit Data16 = 65536

pub record Within (m : EnhancedMessage) : Type 0 where
  pub id_fits : m.id < id_limit m.configuration
  pub data_fits : m.«data» < data_limit m.configuration

-- the pairs of a message
abbrev pub sent : EnhancedMessage → List Pair
sent m =
    written_by layout check6
    (record { at = configuration_bits; value = configuration_value m.configuration }
    ∷ record { at = id_bits m.configuration; value = m.id }
    ∷ record { at = data_bits m.configuration; value = m.«data» } ∷ [])

-- a message that a list tells is within the fields
abbrev pub ToldWithinTheFields : Type 0
ToldWithinTheFields = (ps : List Pair) (m : EnhancedMessage) → enhanced.told ps ≡ Some m → Within m

-- each message within the fields is told by the pairs that it is sent as, so that these are a lawful list
abbrev pub EachMessageHasItsList : Type 0
EachMessageHasItsList = (m : EnhancedMessage) → Within m → enhanced.told (sent m) ≡ Some m
