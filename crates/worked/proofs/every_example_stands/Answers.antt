use Rattle.std.proofs.Common.{refl}
use Rattle.checks.specs.Checks.{entry, check4, check6}
use Rattle.pulses.specs.Intervals.{ticks}
use Rattle.worked.proofs.every_example_stands.Goals as goal

pub returns : goal.returns
unfolding entry check4 check6 ticks
returns c = record {
  data_000000_has_check_5 = refl;
  data_748748_has_check_3 = refl;
  data_53e53e_has_check_15 = refl;
  lone_4_has_check_4 = refl;
  short_id_3_data_5a_has_check_12 = refl;
  short_id_3_data_5a_told = refl;
  enhanced_all_zero_has_check_38 = refl;
  enhanced_all_zero_told = refl;
  enhanced_16_bit_id_5_data_a3c1_has_check_52 = refl;
  enhanced_16_bit_id_5_data_a3c1_told = refl;
  interval_114_has_11_ticks = refl;
  interval_115_has_12_ticks = refl;
  interval_274_has_27_ticks = refl;
  interval_275_has_28_ticks = refl;
}
