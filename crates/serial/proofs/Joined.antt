-- The law over joined lists, from what one lawful list says.
use Rattle.std.proofs.Common.{◌≡◌, ℕ, ◌+◌, ◌-◌, ◌%◌, ◌<◌, ◌≤◌, T, List, [], ◌∷◌, ◌++◌, length, slice_index_or, take, drop, sym, ap, ◌∙◌, subst, inl, inr, arith, length-append}
use native.Mathlib.Nat.{add-mod_left, zero-mod}
use Rattle.std.proofs.lemmas.List.{drop-drop, drop_at, get_or-take, get_or-drop, get_or_append_left}
use Rattle.std.proofs.lemmas.Bool.{cases_lt}
use Rattle.serial.specs.declared.pair.Pair.{Pair}
use Rattle.serial.specs.Pairs.{blank}
use Rattle.serial.specs.Format.{Format, joined, Apart}

-- whatever follows a lawful list, no stretch matches that begins in it past its first pair
abbrev pub Inside : {M : Type 0} → Format M → Type 0
Inside f =
    (l rest : List Pair) → T (f.lawful l) → (i : ℕ) → 0 < i → i < f.size → T (f.framed (take f.size (drop i (l ++ rest)))) → ⊥

-- what a stretch of n pairs that begins at i in a list of n pairs reads, as far as it reaches in that list
pub stretch_at : (n i k : ℕ) (l rest : List Pair) → length l ≡ n → i + k < n → slice_index_or (take n (drop i (l ++ rest))) k blank ≡ slice_index_or l (i + k) blank
stretch_at n i k l rest len h =
    get_or-take n (drop i (l ++ rest)) k blank (omega arith) ∙ get_or-drop i (l ++ rest) k blank ∙ get_or_append_left l rest blank (i + k) (omega arith)

no_rest : (n i : ℕ) → i ≡ 0 → i % n ≡ 0
no_rest n i e = rw e (zero-mod n)

module _ {M : Type 0} (f : Format M) (some : 1 ≤ f.size) (whole : (l : List Pair) → T (f.lawful l) → length l ≡ f.size) (inside : Inside f) where
  pub apart_from : Apart f
  apart_from [] each i off fits t = omega (arith, some, fits)
  apart_from (l ∷ ls) each i off fits t =
      let size : ℕ = f.size in
      let len : length l ≡ size = whole l each.0 in
      elim (cases_lt i size) [
        | inl h ↦ elim (cases_lt 0 i) [ inl p ↦ inside l (joined ls) each.0 i p h t | inr q ↦ off (no_rest size i (omega arith)) ]
        | inr h ↦
            let j : ℕ = i - size in
            let is : i ≡ size + j = omega arith in
            let same : drop i (l ++ joined ls) ≡ drop j (joined ls) =
            ap (λ (k : ℕ). drop k (l ++ joined ls)) is ∙ sym (drop-drop j size (l ++ joined ls)) ∙ ap (drop j) (drop_at l (joined ls) size len) in
            apart_from ls each.1 j
            (λ e. off (ap (λ (k : ℕ). k % size) is ∙ add-mod_left size j ∙ e))
            (omega (arith, length-append l (joined ls), len, fits, is))
            (subst (λ (s : List Pair). T (f.framed (take size s))) same t)
      ]
