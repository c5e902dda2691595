-- Examples worked out by hand: one list of them, for all layers.
use Rattle.std.specs.Prelude.{◌≡◌, ℕ, zero, suc, ◌/◌, ◌%◌, ◌^◌, List, [], ◌∷◌, Some, ◌==◌}
use Rattle.checks.specs.Checks.{check4}
use Rattle.serial.specs.declared.pair.Pair.{Pair}
use Rattle.formats.specs.declared.short.ShortMessage.{ShortMessage}
use Rattle.formats.specs.declared.enhanced.EnhancedMessage.{EnhancedMessage}
use Rattle.formats.specs.declared.enhanced.Configuration.TheVariants.{Data12, Data16}
use Rattle.pulses.specs.Intervals.{ticks}
use Rattle.formats.specs.Positions.{spelled}
use Rattle.formats.specs.Short as Short
use Rattle.formats.specs.Enhanced as Enhanced

-- n pairs whose bit 3 and whose bit 2 make two numbers, highest first
abbrev pub in_bits : ℕ → ℕ → ℕ → List Pair
in_bits zero high low = []
in_bits (suc n) high low = record { high = (high / 2 ^ n % 2 == 1); low = (low / 2 ^ n % 2 == 1) } ∷ in_bits n high low

abbrev pub short_example : ShortMessage
short_example = record { id = 3; «data» = 0x5A }

abbrev pub enhanced_zero : EnhancedMessage
enhanced_zero = record { configuration = Data12; id = 0; «data» = 0 }

abbrev pub enhanced_example : EnhancedMessage
enhanced_example = record { configuration = Data16; id = 5; «data» = 0xA3C1 }

pub record Examples : Type 0 where
  -- data nibbles and their check
  pub data_000000_has_check_5 : check4 (0 ∷ 0 ∷ 0 ∷ 0 ∷ 0 ∷ 0 ∷ []) ≡ 5
  pub data_748748_has_check_3 : check4 (7 ∷ 4 ∷ 8 ∷ 7 ∷ 4 ∷ 8 ∷ []) ≡ 3
  pub data_53e53e_has_check_15 : check4 (5 ∷ 3 ∷ 14 ∷ 5 ∷ 3 ∷ 14 ∷ []) ≡ 15
  pub lone_4_has_check_4 : check4 (4 ∷ []) ≡ 4
  -- messages: the check sent with them, and the bits that tell them
  pub short_id_3_data_5a_has_check_12 : spelled (Short.sent short_example) (Short.layout).check_bits ≡ 12
  pub short_id_3_data_5a_told : (Short.short).told (in_bits 16 0b1000_0000_0000_0000 0x3_5A_C) ≡ Some short_example
  pub enhanced_all_zero_has_check_38 : spelled (Enhanced.sent enhanced_zero) (Enhanced.layout).check_bits ≡ 38
  pub enhanced_all_zero_told : (Enhanced.enhanced).told (in_bits 18 0b111111_000000_000000 0b100110_000000_000000) ≡ Some enhanced_zero
  pub enhanced_16_bit_id_5_data_a3c1_has_check_52 : spelled (Enhanced.sent enhanced_example) (Enhanced.layout).check_bits ≡ 52
  pub enhanced_16_bit_id_5_data_a3c1_told : (Enhanced.enhanced).told (in_bits 18 0b111111_010101_010100 0b110100_001111_000001) ≡ Some enhanced_example
  -- intervals at both ends of the nibbles, under a calibration interval of 560 counts
  pub interval_114_has_11_ticks : ticks 560 114 ≡ 11
  pub interval_115_has_12_ticks : ticks 560 115 ≡ 12
  pub interval_274_has_27_ticks : ticks 560 274 ≡ 27
  pub interval_275_has_28_ticks : ticks 560 275 ≡ 28
