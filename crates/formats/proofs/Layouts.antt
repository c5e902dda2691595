-- What lists say by a layout: the message told, the numbers that the check covers, and the check as the code takes it.
use Rattle.std.specs.Prelude.{◌≡◌, ℕ, ◌%◌, ◌^◌, ◌<◌, true, List, [], ◌∷◌, map, length, Some, None, ◌==◌, nat_eq}
use Rattle.std.proofs.Common.{zero, suc, ◌+◌, slice_index_or, add-one, drop, sym, ap, ap₂, subst, ◌∙◌, arith}
use Rattle.std.proofs.Math.Seq.{drop-cons}
use Rattle.std.proofs.lemmas.List.{drop_all}
use Rattle.std.specs.Array.{IsFromFnResultFrom, IsFromFnResult}
use denote.Param.Members.{Mut, Called}
use Rattle.std.proofs.lemmas.Bool.{and_from, cond-true, eq-eqb}
use Rattle.std.specs.List.{AllByRecursion}
use Rattle.checks.proofs.Width.{cut_leaves}
use Rattle.serial.specs.declared.pair.Pair.{Pair}
use Rattle.formats.specs.declared.layout.Position.{Position}
use Rattle.formats.specs.Positions.{spelled}
use Rattle.formats.specs.Layout.{Layout, framed_by, lawful_by, check_fits, format_by}
use Rattle.formats.proofs.Numbers.{spelled_below}

-- groups of w bits are below 2^w
pub all_spelled : (w : ℕ) (ps : List Pair) (groups : List (List Position)) → AllByRecursion (λ at. length at ≡ w) groups → AllByRecursion (λ v. v < 2 ^ w) (map (spelled ps) groups)
all_spelled w ps [] wide = tt
all_spelled w ps (at ∷ groups) wide = (subst (λ (k : ℕ). spelled ps at < 2 ^ k) wide.0 (spelled_below ps at), all_spelled w ps groups wide.1)

module _ {M : Type 0} (l : Layout) (check : List ℕ → ℕ) (content : List Pair → M) where
  -- a list that matches and whose check fits tells its content
  pub told_as : (ps : List Pair) (m : M) → framed_by l ps ≡ true → check (map (spelled ps) l.covered) ≡ spelled ps l.check_bits → content ps ≡ m → (format_by l check content).told ps ≡ Some m
  told_as ps m framed fits is =
      cond-true (lawful_by l check ps) (Some (content ps)) None
      (and_from (framed_by l ps) (check_fits l check ps) framed (eq-eqb (check (map (spelled ps) l.covered)) (spelled ps l.check_bits) fits))
      ∙ ap Some is

-- the check as the code takes it, of groups cut to the width of the check
pub check_agreed : (l : Layout) (check : List ℕ → ℕ) (w : ℕ) (ps : List Pair) → AllByRecursion (λ at. length at ≡ w) l.covered → (groups : List ℕ) (checked sent : ℕ)
    → groups ≡ map (spelled ps) l.covered → checked ≡ check (map (λ v. v % 2 ^ w) groups) → sent ≡ spelled ps l.check_bits → (checked == sent) ≡ check_fits l check ps
check_agreed l check w ps wide groups checked sent g e f =
    ap₂ nat_eq
    (e ∙ ap (λ (vs : List ℕ). check (map (λ v. v % 2 ^ w) vs)) g ∙ ap check (cut_leaves (2 ^ w) (map (spelled ps) l.covered) (all_spelled w ps l.covered wide)))
    f

-- what an array has that is made place by place from a list, if the closure stays as it is
module _ {F A B : Type 0} (g : Mut F (ℕ × Unit {0}) B) (h : A → B) (f : F) (xs : List A) (d : A) (ys : List B) (step : (i : ℕ) (y : B) (q : F) → Called g f (i, tt) y q → (q ≡ f) × (y ≡ h (slice_index_or xs i d))) where
  made_from : (n i : ℕ) → IsFromFnResultFrom g f ys i n → i + n ≡ length xs → length ys ≡ length xs → drop i ys ≡ map h (drop i xs)
  made_from zero i m k e = drop_all i ys (omega arith) ∙ ap (map h) (sym (drop_all i xs (omega arith)))
  made_from (suc n) i (q, y, to, called, rest) k e =
      let s = step i y q called in
      let more : IsFromFnResultFrom g f ys (i + 1) n = subst (λ (p : F). IsFromFnResultFrom g p ys (i + 1) n) s.0 rest in
      let others : drop (suc i) ys ≡ map h (drop (suc i) xs) =
      subst (λ (j : ℕ). drop j ys ≡ map h (drop j xs)) (add-one i) (made_from n (i + 1) more (omega arith) e) in
      drop-cons ys i y (omega arith) ∙ ap₂ (λ (z : B) (zs : List B). z ∷ zs) (to.0 ∙ s.1) others ∙ sym (ap (map h) (drop-cons xs i d (omega arith)))

  pub made : (n : ℕ) → IsFromFnResult g f ys n → length xs ≡ n → ys ≡ map h xs
  made n m e = made_from n 0 m.each (omega arith) (m.long ∙ sym e)
