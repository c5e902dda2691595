-- What the numbers of a range give, one after the other.
use Rattle.std.proofs.Common.{◌≡◌, ℕ, zero, suc, ◌+◌, ◌<◌, ◌≤◌, List, [], ◌++◌, sym, refl, ap, ◌∙◌, ap₂, append_assoc, arith}

-- what g gives at n numbers, from a on
abbrev pub across : {X : Type 0} → (ℕ → List X) → ℕ → ℕ → List X
across g a zero = []
across g a (suc n) = g a ++ across g (suc a) n

pub across_append : {X : Type 0} (g : ℕ → List X) (a m n : ℕ) → across g a (m + n) ≡ across g a m ++ across g (a + m) n
across_append g a zero n =
    let none : zero + n ≡ n = omega arith in
    let here : a ≡ a + zero = omega arith in
    ap₂ (λ (i j : ℕ). across g i j) here none
across_append g a (suc m) n =
    let one : suc m + n ≡ suc (m + n) = omega arith in
    let next : suc a + m ≡ a + suc m = omega arith in
    ap (across g a) one
    ∙ ap (λ (xs : List _). g a ++ xs) (across_append g (suc a) m n)
    ∙ ap (λ (i : ℕ). g a ++ (across g (suc a) m ++ across g i n)) next
    ∙ sym (append_assoc (g a) (across g (suc a) m) (across g (a + suc m) n))

pub across_none : {X : Type 0} (g : ℕ → List X) (a n : ℕ) → ((i : ℕ) → a ≤ i → i < a + n → g i ≡ []) → across g a n ≡ []
across_none g a zero h = refl
across_none g a (suc n) h =
    ap₂ (λ (xs ys : List _). xs ++ ys) (h a (omega arith) (omega arith)) (across_none g (suc a) n (λ i l m. h i (omega arith) (omega arith)))

-- a range that is shifted by d
pub across_shifted : {X : Type 0} (g h : ℕ → List X) (d a n : ℕ) → ((i : ℕ) → a ≤ i → i < a + n → g i ≡ h (d + i)) → across g a n ≡ across h (d + a) n
across_shifted g h d a zero e = refl
across_shifted g h d a (suc n) e =
    let next : d + suc a ≡ suc (d + a) = omega arith in
    ap₂ (λ (xs ys : List _). xs ++ ys) (e a (omega arith) (omega arith))
    (across_shifted g h d (suc a) n (λ i l m. e i (omega arith) (omega arith)) ∙ ap (λ (i : ℕ). across h i n) next)
