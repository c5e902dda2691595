use Rattle.std.proofs.Common.{◌≡◌, ℕ, ◌+◌, ◌*◌, ◌^◌, ◌<◌, ◌≤◌, length, Some, None, Option, IfNone, IfSome, decimal, ap, ◌∙◌, arith}
use Rattle.std.specs.Option.{unwrap_or}
use Rattle.itoa.proofs.Decimal.{length_one}
use Rattle.listing.proofs.Sizes.{digits_are}
use Rattle.listing.proofs.page.digit_count.Goals as goal

-- of a logarithm to the base 10, where there is one
counted : (o : Option ℕ) (n : ℕ) → n < 2 ^ 64 → IfNone o (n ≡ 0) → IfSome o (λ k. 10 ^ k ≤ n) → IfSome o (λ k. n < 10 * 10 ^ k) → unwrap_or o 0 + 1 ≡ length (decimal n)
counted None n f zero low high = omega (arith, length_one n (omega arith))
counted (Some k) n f zero low high = digits_are k n low high f

pub returns : goal.returns
returns c =
    let log = c.checked_ilog10 in
    ap (λ k. k + 1) c.unwrap_or.ensures ∙ counted log.result c.args.n (omega arith) log.ensures.none log.ensures.power_le log.ensures.next_power_gt
