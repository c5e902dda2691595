use Rattle.std.proofs.Common.{sym, ◌∙◌, rules}
use Rattle.pulses.specs.declared.partial.Partial.{Partial}
use Rattle.pulses.proofs.Packed.{six_behind}
use Rattle.pulses.proofs.Kept.{six_taken, status_taken}
use Rattle.pulses.proofs.frame.packing.FrameFromPartial.from.Goals as goal

pub returns : goal.returns
returns c =
    let p : Partial = c.args.partial in (
      search rules,
      sym (status_taken p.count p.kept p.unused),
      six_behind p.kept p.seven ∙ sym (six_taken p.count p.kept p.seven p.few p.unused),
    )
