use Rattle.std.proofs.Common.{ℕ, ◌%◌, ◌^◌, get_or}
use lib.Bits.{bit_xor}
use Rattle.std.proofs.lemmas.Nat.{xor_lt, mod_below, pow_pos}
use Rattle.std.proofs.lemmas.List.{take_all}
use Rattle.std.proofs.lemmas.List.Sums.{fold_more}
use Rattle.std.proofs.lemmas.List.Folds.{fold-map}
use Rattle.checks.specs.Checks.{entry}
use Rattle.checks.proofs.Table.{looked_up}
use Rattle.checks.proofs.Width.{entry_below}
use Rattle.checks.proofs.running.check.Goals as goal

pub loop-group-preserved : goal.loop-group-preserved
loop-group-preserved g c =
    let w = g.row.WIDTH in
    let low = g.row.LOW in
    let v = c.loop-group.value in
    let b = get_or c.args.groups.now c.loop-group.group-index 0 in
    let f : ℕ → ℕ → ℕ = λ v b. bit_xor (entry w low v) (b % 2 ^ w) in
    let is = looked_up w low v c.args.entries.now c.requires.whole c.loop-group.invariant.0 in (
      rw (is, c.cut.ensures) (xor_lt w (entry w low v) (b % 2 ^ w) (entry_below w low v c.requires.fits.low_fits c.loop-group.invariant.0) (mod_below b (2 ^ w) (pow_pos w))),
      cc (is, c.cut.ensures, c.loop-group.invariant.1, fold_more f c.args.start c.args.groups.now c.loop-group.group-index 0 c.loop-group-test.true),
    )

pub returns : goal.returns
returns g c =
    let w = g.row.WIDTH in
    let low = g.row.LOW in
    let v = c.loop-group.value in
    let xs = c.args.groups.now in
    let is = looked_up w low v c.args.entries.now c.requires.whole c.loop-group.invariant.0 in
    let cut : ℕ → ℕ = λ b. b % 2 ^ w in
    let f : ℕ → ℕ → ℕ = λ v b. bit_xor (entry w low v) b in
    record {
      value = cc (is, c.loop-group.invariant.1, take_all c.loop-group.group-index xs c.loop-group-test.false, fold-map f cut c.args.start xs);
      small = rw is (entry_below w low v c.requires.fits.low_fits c.loop-group.invariant.0);
    }
