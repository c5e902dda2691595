use Rattle.std.proofs.Common.{rules}
use Rattle.serial.specs.Windows.{kept}
use Rattle.serial.proofs.Rows.{pairs_paired, said}
use Rattle.serial.proofs.window.Window.judge.Goals as goal

pub returns : goal.returns
returns g c =
    let w = c.args.self.now in
    said g.F.SerialFormat.meaning w.last.firsts (kept w) c.args.event c.then.result (pairs_paired w.last.firsts w.last.seconds w.even) (search rules) (search rules)
