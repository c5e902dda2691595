use Rattle.std.proofs.Common.{rules, arith, ◌≡◌, ℕ, ◌∙◌, List, min, take, lit<, ap₂}
use Rattle.std.specs.List.{fold}
use Rattle.std.proofs.iter.runs.Made.{chains}
use Rattle.pulses.specs.Frames.{packed, unpacked}
use Rattle.receiver.proofs.Readings.{behind, folded}
use Rattle.receiver.proofs.channel.stepping.reading.Goals as goal

pub returns : goal.returns
returns c =
    let n : ℕ = c.from-read.result in
    let vs : List ℕ = c.nibbles-2.result in
    let e : c.fold.result ≡ fold behind 0 (take n vs) = search (rules, chains) in
    let three : n ≡ min 3 c.args.settings.nibbles = omega arith in
    let is : vs ≡ unpacked c.args.row.packed = search rules in
    e ∙ folded n vs 0 0 (lit< tt) (omega arith) c.nibbles-2.ensures.below_sixteen ∙ ap₂ (λ (k : ℕ) (ws : List ℕ). packed (take k ws)) three is
