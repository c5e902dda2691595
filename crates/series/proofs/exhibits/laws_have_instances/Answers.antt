use Rattle.series.proofs.Exhibited.{laws_have_instances}
use Rattle.series.proofs.exhibits.laws_have_instances.Goals as goal

pub returns : goal.returns
returns c = laws_have_instances
