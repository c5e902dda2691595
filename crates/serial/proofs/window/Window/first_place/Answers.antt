use Rattle.std.proofs.Common.{rules, ◌≡◌, ◌∙◌, slice_index}
use Rattle.serial.proofs.Rows.{first_paired}
use Rattle.serial.proofs.window.Window.first_place.Goals as goal

pub returns : goal.returns
returns g c =
    let w = c.args.self.now in
    let first : c.unwrap_or.result ≡ slice_index w.last.seconds 0 = search rules in
    first ∙ first_paired w.last.firsts w.last.seconds w.even
