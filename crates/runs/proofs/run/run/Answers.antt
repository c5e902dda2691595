use Rattle.runs.proofs.Every.{made_run_lawful, made_run_in_turn}
use Rattle.runs.proofs.run.run.Goals as goal

pub returns : goal.returns
returns g c =
    let made = c.make_run.ensures in
    record {
      as_defined = made;
      every_run_lawful =
          made_run_lawful _ _ _ _ g.met.FA.SerialFormat.lawful g.met.FB.SerialFormat.lawful (g.SA.EdgeSource.lawful c.args.a.source) (g.SB.EdgeSource.lawful c.args.b.source)
          c.args.calls.now _ c.make_run.result _ made.answers_of_the_defined_unit;
      answered_in_turn = made_run_in_turn _ _ _ _ c.args.calls.now _ c.make_run.result _ made.answers_of_the_defined_unit;
    }
