use Rattle.std.proofs.Common.{rules, arith, ◌≡◌, ◌+◌, ◌*◌, ◌%◌, ◌∙◌, lit<}
use Rattle.std.specs.List.{fold}
use Rattle.std.proofs.iter.runs.Made.{chains}
use Rattle.formats.specs.Positions.{digit, read}
use Rattle.formats.proofs.Numbers.{fold_onto, spelled_below}
use Rattle.formats.proofs.layout.number.Goals as goal

pub returns-clause-value : goal.returns-clause-value
returns-clause-value c =
    let e : c.fold.result ≡ fold (λ n p. n * 2 % 65536 + digit (read c.args.pairs.now p)) 0 c.args.at.now = search (rules, chains) in
    e ∙ fold_onto c.args.pairs.now c.args.at.now 0 0 (lit< tt) (omega (arith, c.requires))

pub returns-clause-small : goal.returns-clause-small
returns-clause-small c = rw (returns-clause-value c) (spelled_below c.args.pairs.now c.args.at.now)
