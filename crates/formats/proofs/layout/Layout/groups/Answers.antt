use Rattle.std.proofs.Common.{rules, []}
use Rattle.formats.specs.Positions.{spelled}
use Rattle.formats.proofs.Layouts.{made}
use Rattle.formats.proofs.layout.Layout.groups.Goals as goal

pub returns : goal.returns
returns g c = made _ (spelled c.args.pairs.now) _ c.args.self.now.covered [] c.from_fn.result (λ i y q k. search rules) _ c.from_fn.ensures.items (search rules)
