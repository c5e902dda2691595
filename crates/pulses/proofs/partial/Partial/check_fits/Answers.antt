use Rattle.std.proofs.Common.{◌≡◌, ℕ, ◌%◌, eqb, List, take, drop, ap, ◌∙◌, mod-eq_of_lt, rules}
use Rattle.std.specs.List.{All}
use Rattle.std.proofs.lemmas.List.Elements.{All-from_get_or, All-take, All-drop}
use Rattle.std.proofs.lemmas.List.Folds.{map_fixed}
use Rattle.checks.specs.Checks.{check4}
use Rattle.pulses.specs.Frames.{frame_check}
use Rattle.pulses.proofs.partial.Partial.check_fits.Goals as goal

-- each nibble is its own low four bits
pub returns : goal.returns
unfolding frame_check
returns c =
    let ks : List ℕ = c.args.self.now.kept in
    let n : ℕ = c.args.settings.nibbles in
    let Low : ℕ → Type 0 = λ v. v % 16 ≡ v in
    let low : All Low ks = All-from_get_or Low ks 0 (λ i l. mod-eq_of_lt (c.args.self.now.nibbles i)) in
    ap (eqb c.args.check)
    (c.check4.ensures.value ∙ ap check4 (search rules ∙ map_fixed (λ v. v % 16) (take n (drop 1 ks)) (All-take Low n (drop 1 ks) (All-drop Low 1 ks low))))
