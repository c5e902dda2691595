use Rattle.serial.proofs.Runs.{joined_lists_told_whole}
use Rattle.serial.proofs.window.Window.new.Goals as goal

pub returns-clause-joined_lists_told_whole : goal.returns-clause-joined_lists_told_whole
returns-clause-joined_lists_told_whole g c = joined_lists_told_whole g.F.SerialFormat.meaning g.met.F.SerialFormat.lawful
