-- Some lines as they read.
use Rattle.std.specs.Prelude.{◌≡◌, codes}
use Rattle.model.specs.declared.fault.FaultKind.TheVariants.{FrameCheck}
use Rattle.model.specs.declared.side.Side.TheVariants.{A as ChannelA, B as ChannelB}
use Rattle.formats.specs.declared.enhanced.Configuration.TheVariants.{Data12}
use Rattle.unitfile.specs.declared.file.FileRefusal.TheVariants.{Layout}
use Rattle.listing.specs.declared.report.LineReport.TheVariants.{Frame, Short, Enhanced, Fault}
use Rattle.listing.specs.Lines.{line, closing_line, refusal_line}

pub record WorkedLines : Type 0 where
  pub frame : line ChannelB 3 70500 (Frame (record { place = 12; status = 10; packed = 0x1AF000 })) ≡ codes "B 70500 F 12 A 1AF\n"
  pub short_message : line ChannelA 6 0 (Short 4 (record { id = 3; «data» = 200 })) ≡ codes "A 0 M 4 S 3 200\n"
  pub enhanced_message : line ChannelA 6 9 (Enhanced 40 (record { configuration = Data12; id = 255; «data» = 4095 })) ≡ codes "A 9 M 40 E 255 4095\n"
  pub fault : line ChannelA 1 1099511627775 (Fault (record { kind = FrameCheck; place = 4294967295 })) ≡ codes "A 1099511627775 X 4294967295 401\n"
  pub closing : closing_line 12 0 ≡ codes "Z 12 0\n"
  pub refused_file : refusal_line Layout ≡ codes "R 10 - 0\n"
