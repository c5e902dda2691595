use Rattle.std.proofs.Common.{arith, length-append}
use Rattle.listing.proofs.Sizes.{time_short, word_short}
use Rattle.listing.proofs.page.Page.four_fields.Goals as goal

pub decimal-requires-2 : goal.decimal-requires-2
decimal-requires-2 g c =
    let t = time_short c.args.number (omega arith) in
    let p = word_short c.from.result (omega arith) in
    simp (c.space-3.ensures, c.push-2.ensures, c.space-2.ensures, c.decimal.ensures, c.space.ensures, c.push.ensures, length-append) (omega arith)

pub returns-clause-short : goal.returns-clause-short
returns-clause-short g c =
    let t = time_short c.args.number (omega arith) in
    let p = word_short c.from.result (omega arith) in
    simp (c.decimal-2.ensures, c.space-3.ensures, c.push-2.ensures, c.space-2.ensures, c.decimal.ensures, c.space.ensures, c.push.ensures, length-append) (omega arith)
