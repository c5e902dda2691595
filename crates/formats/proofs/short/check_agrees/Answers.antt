use Rattle.checks.specs.Checks.{check4}
use Rattle.formats.specs.Short.{layout}
use Rattle.formats.proofs.Layouts.{check_agreed}
use Rattle.formats.proofs.ShortLaw.{groups_wide}
use Rattle.formats.proofs.short.check_agrees.Goals as goal

pub returns : goal.returns
returns c = check_agreed layout check4 4 c.args.pairs.now groups_wide c.groups.result c.check4.result c.byte.result c.groups.ensures c.check4.ensures.value c.byte.ensures
