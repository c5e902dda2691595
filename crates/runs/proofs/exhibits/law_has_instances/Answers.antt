use Rattle.runs.proofs.Instances.{law_has_instances}
use Rattle.runs.proofs.exhibits.law_has_instances.Goals as goal

pub returns : goal.returns
returns c = law_has_instances
