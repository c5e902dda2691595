use Rattle.std.proofs.Common.{arith, ap, sym, ◌∙◌, ◌++◌, length}
use Rattle.std.proofs.lemmas.Fmt.{decimal_digit}
use Rattle.listing.proofs.page.Page.decimal.Goals as goal

pub push-requires : goal.push-requires
push-requires g c = let d = ap length (decimal_digit c.args.n c.if-n-lt10.true) in grind (arith, d)

pub returns-then-n-lt10 : goal.returns-then-n-lt10
returns-then-n-lt10 g c = c.push.ensures ∙ ap (λ ds. c.args.self.now ++ ds) (sym (decimal_digit c.args.n c.if-n-lt10.true))
