use Rattle.std.proofs.Common.{rules}
use Rattle.receiver.proofs.Stepping.{a_answers, b_answers}
use Rattle.receiver.proofs.unit.Receiver.step.Goals as goal

pub returns-in_ok-time-in-A-clause-answer : goal.returns-in_ok-time-in-A-clause-answer
returns-in_ok-time-in-A-clause-answer g c = search (rules, a_answers g.FA.SerialFormat.meaning g.FB.SerialFormat.meaning c.args.self.now)

pub returns-in_ok-time-in-B-clause-answer : goal.returns-in_ok-time-in-B-clause-answer
returns-in_ok-time-in-B-clause-answer g c = search (rules, b_answers g.FA.SerialFormat.meaning g.FB.SerialFormat.meaning c.args.self.now)
