-- The law of every format that goes by a layout: one computed test of the layout's positions is all that it needs.
use Rattle.std.specs.Prelude.{◌≡◌, ℕ, ◌+◌, ◌<◌, ◌≤◌, Bool, true, false, ◌&&◌, ◌||◌, T, List, [], ◌∷◌, ◌++◌, length, take, drop, ◌==◌, ◌≢◌, nat_lt, slice_index_or, refl}
use Rattle.std.specs.Bool.{beq}
use Rattle.std.proofs.Common.{sym, ap, subst, ◌∙◌, inl, inr}
use Rattle.std.proofs.Math.Nat.{lt_irrefl}
use Rattle.std.proofs.lemmas.Float.{T_from_true}
use Rattle.std.proofs.lemmas.Bool.{and_parts, or_cases, eqb-true, ltb-true, both_ways, true≢false}
use Rattle.checks.proofs.Upto.{upto, upto_at}
use Rattle.serial.specs.declared.pair.Pair.{Pair}
use Rattle.serial.specs.Pairs.{blank}
use Rattle.serial.specs.Format.{LawfulFormat}
use Rattle.serial.proofs.Joined.{Inside, apart_from, stretch_at}
use Rattle.serial.proofs.Truths.{is_so, some_told}
use Rattle.formats.specs.declared.layout.Position.{Position}
use Rattle.formats.specs.declared.layout.Position.TheVariants.{Bit3, Bit2}
use Rattle.formats.specs.Positions.{each, read}
use Rattle.formats.specs.Layout.{Layout, framed_by, lawful_by, check_fits, format_by, same_position}

-- the position i pairs on
abbrev shift : ℕ → Position → Position
shift i (Bit3 k) = Bit3 (i + k)
shift i (Bit2 k) = Bit2 (i + k)

abbrev inside_pairs : ℕ → Position → Bool
inside_pairs n (Bit3 k) = nat_lt k n
inside_pairs n (Bit2 k) = nat_lt k n

abbrev among : Position → List Position → Bool
among p [] = false
among p (q ∷ qs) = same_position p q || among p qs

-- a list that begins i pairs on would need a 1 where there is a 0
abbrev clash : ℕ → ℕ → List Position → List Position → Bool
clash n i [] zeros = false
clash n i (p ∷ ones) zeros = (inside_pairs n (shift i p) && among (shift i p) zeros) || clash n i ones zeros

-- that is so for each i past the first pair
abbrev pub separated : Layout → Bool
separated l = upto l.size (λ i. (i == 0) || clash l.size i l.ones l.zeros)

same_read : (ps : List Pair) (p q : Position) → same_position p q ≡ true → read ps p ≡ read ps q
same_read ps (Bit3 j) (Bit3 k) e = ap (λ (i : ℕ). (slice_index_or ps i blank).high) (eqb-true j k e)
same_read ps (Bit3 j) (Bit2 k) e = absurd (true≢false (sym e))
same_read ps (Bit2 j) (Bit3 k) e = absurd (true≢false (sym e))
same_read ps (Bit2 j) (Bit2 k) e = ap (λ (i : ℕ). (slice_index_or ps i blank).low) (eqb-true j k e)

is_that : (a b : Bool) → beq a b ≡ true → a ≡ b
is_that true true e = refl
is_that false false e = refl
is_that true false e = cc
is_that false true e = cc

zero_read : (ps : List Pair) (p : Position) (zeros : List Position) → among p zeros ≡ true → each false ps zeros ≡ true → read ps p ≡ false
zero_read ps p [] a e = absurd (true≢false (sym a))
zero_read ps p (q ∷ qs) a e =
    let h = and_parts (beq (read ps q) false) (each false ps qs) e in
    elim (or_cases (same_position p q) (among p qs) a) [
      | inl s ↦ same_read ps p q s ∙ is_that (read ps q) false h.0
      | inr r ↦ zero_read ps p qs r h.1
    ]

module _ (n i : ℕ) (l s : List Pair) (shifted_read : (p : Position) → inside_pairs n (shift i p) ≡ true → read s p ≡ read l (shift i p)) where
  no_match : (ones zeros : List Position) → clash n i ones zeros ≡ true → each true s ones ≡ true → each false l zeros ≢ true
  no_match [] zeros c o z = true≢false (sym c)
  no_match (p ∷ ones) zeros c o z =
      let h = and_parts (beq (read s p) true) (each true s ones) o in
      elim (or_cases (inside_pairs n (shift i p) && among (shift i p) zeros) (clash n i ones zeros) c) [
        | inl both ↦
            let g = and_parts (inside_pairs n (shift i p)) (among (shift i p) zeros) both in
            both_ways (read s p) (shifted_read p g.0 ∙ zero_read l (shift i p) zeros g.1 z) (is_that (read s p) true h.0)
        | inr more ↦ no_match ones zeros more h.1 z
      ]

stretch_read : (n i : ℕ) (l rest : List Pair) → length l ≡ n → (p : Position) → inside_pairs n (shift i p) ≡ true → read (take n (drop i (l ++ rest))) p ≡ read l (shift i p)
stretch_read n i l rest len (Bit3 k) t = ap (λ (q : Pair). q.high) (stretch_at n i k l rest len (ltb-true (i + k) n t))
stretch_read n i l rest len (Bit2 k) t = ap (λ (q : Pair). q.low) (stretch_at n i k l rest len (ltb-true (i + k) n t))

-- a list that matches has the length of the layout
pub framed_length : (l : Layout) (ps : List Pair) → framed_by l ps ≡ true → length ps ≡ l.size
framed_length l ps e = eqb-true (length ps) l.size (and_parts (length ps == l.size) (each true ps l.ones && each false ps l.zeros) e).0

module _ {M : Type 0} (l : Layout) (check : List ℕ → ℕ) (content : List Pair → M) where
  framed_ones : (ps : List Pair) → framed_by l ps ≡ true → each true ps l.ones ≡ true
  framed_ones ps e =
      (and_parts (each true ps l.ones) (each false ps l.zeros)
      (and_parts (length ps == l.size) (each true ps l.ones && each false ps l.zeros) e).1).0

  framed_zeros : (ps : List Pair) → framed_by l ps ≡ true → each false ps l.zeros ≡ true
  framed_zeros ps e =
      (and_parts (each true ps l.ones) (each false ps l.zeros)
      (and_parts (length ps == l.size) (each true ps l.ones && each false ps l.zeros) e).1).1

  lawful_framed : (ps : List Pair) → T (lawful_by l check ps) → framed_by l ps ≡ true
  lawful_framed ps t = (and_parts (framed_by l ps) (check_fits l check ps) (is_so (lawful_by l check ps) t)).0

  none_inside : separated l ≡ true → Inside (format_by l check content)
  none_inside sep xs rest t i p h m =
      let n : ℕ = l.size in
      let s : List Pair = take n (drop i (xs ++ rest)) in
      let fx : framed_by l xs ≡ true = lawful_framed xs t in
      let fs : framed_by l s ≡ true = is_so (framed_by l s) m in
      elim (or_cases (i == 0) (clash n i l.ones l.zeros) (upto_at n (λ i. (i == 0) || clash n i l.ones l.zeros) sep i h)) [
        | inl z ↦ absurd (lt_irrefl 0 (subst (λ (j : ℕ). 0 < j) (eqb-true i 0 z) p))
        | inr c ↦ no_match n i xs s (stretch_read n i xs rest (framed_length l xs fx)) l.ones l.zeros c (framed_ones s fs) (framed_zeros xs fx)
      ]

  pub lawful_by_layout : 1 ≤ l.size → l.size ≤ 18 → separated l ≡ true → LawfulFormat (format_by l check content)
  lawful_by_layout some few sep = record {
    at_least_one = some;
    at_most_18 = few;
    framed_in_length = λ ps t. framed_length l ps (is_so (framed_by l ps) t);
    lawful_is_framed = λ ps t. T_from_true (framed_by l ps) (lawful_framed ps t);
    lawful_is_told = λ ps. some_told (lawful_by l check ps) (content ps);
    apart = apart_from (format_by l check content) some (λ ps t. framed_length l ps (lawful_framed ps t)) (none_inside sep);
  }
