use Rattle.series.proofs.Exhibited.{exact_series_clean}
use Rattle.series.proofs.exhibits.exact_series_are_clean.Goals as goal

pub returns : goal.returns
returns c = exact_series_clean c.args.settings
