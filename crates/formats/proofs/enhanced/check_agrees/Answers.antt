use Rattle.checks.specs.Checks.{check6}
use Rattle.formats.specs.Enhanced.{layout}
use Rattle.formats.proofs.Layouts.{check_agreed}
use Rattle.formats.proofs.EnhancedLaw.{groups_wide}
use Rattle.formats.proofs.enhanced.check_agrees.Goals as goal

pub returns : goal.returns
returns c = check_agreed layout check6 6 c.args.pairs.now groups_wide c.groups.result c.check6.result c.byte.result c.groups.ensures c.check6.ensures.value c.byte.ensures
