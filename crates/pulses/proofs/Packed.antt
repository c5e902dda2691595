-- Lists of six and seven nibbles, by their elements, and six nibbles in one number.
use Rattle.std.proofs.Common.{◌≡◌, ℕ, zero, suc, ◌+◌, ◌*◌, ◌/◌, ◌%◌, ◌<◌, ◌≤◌, List, [], ◌∷◌, ◌++◌, length, get_or, take, drop, replicate, sym, refl, ap, ◌∙◌, arith, lit<, length-append, length-take}
use lib.ListN.{length-replicate}
use Rattle.checks.specs.Found.{Nibbles}
use Rattle.pulses.specs.Frames.{packed, unpacked, six}

-- a list of six, by its elements
abbrev pub listed : List ℕ → List ℕ
listed xs = get_or xs 0 0 ∷ get_or xs 1 0 ∷ get_or xs 2 0 ∷ get_or xs 3 0 ∷ get_or xs 4 0 ∷ get_or xs 5 0 ∷ []

pub six_listed : (xs : List ℕ) → length xs ≡ 6 → listed xs ≡ xs
six_listed [] e = absurd (omega (arith, e))
six_listed (a ∷ []) e = absurd (omega (arith, e))
six_listed (a ∷ b ∷ []) e = absurd (omega (arith, e))
six_listed (a ∷ b ∷ c ∷ []) e = absurd (omega (arith, e))
six_listed (a ∷ b ∷ c ∷ d ∷ []) e = absurd (omega (arith, e))
six_listed (a ∷ b ∷ c ∷ d ∷ f ∷ []) e = absurd (omega (arith, e))
six_listed (a ∷ b ∷ c ∷ d ∷ f ∷ g ∷ []) e = refl
six_listed (a ∷ b ∷ c ∷ d ∷ f ∷ g ∷ h ∷ r) e = absurd (omega (arith, e))

-- the six behind the first of seven
pub six_behind : (xs : List ℕ) → length xs ≡ 7
    → (get_or xs 1 0 ∷ get_or xs 2 0 ∷ get_or xs 3 0 ∷ get_or xs 4 0 ∷ get_or xs 5 0 ∷ get_or xs 6 0 ∷ []) ≡ drop 1 xs
six_behind [] e = absurd (omega (arith, e))
six_behind (x ∷ xs) e = six_listed xs (omega (arith, e))

-- six nibbles as one number
pub horner : (a b c d e f : ℕ) → packed (a ∷ b ∷ c ∷ d ∷ e ∷ f ∷ []) ≡ ((((a * 16 + b) * 16 + c) * 16 + d) * 16 + e) * 16 + f
horner a b c d e f = omega arith

-- that number has these nibbles
pub unpacked_six : (a b c d e f : ℕ) → a < 16 → b < 16 → c < 16 → d < 16 → e < 16 → f < 16
    → unpacked (((((a * 16 + b) * 16 + c) * 16 + d) * 16 + e) * 16 + f) ≡ a ∷ b ∷ c ∷ d ∷ e ∷ f ∷ []
unpacked_six a b c d e f ha hb hc hd he hf =
    let n : ℕ = ((((a * 16 + b) * 16 + c) * 16 + d) * 16 + e) * 16 + f in
    let e0 : n / 0x100000 % 16 ≡ a = omega arith in
    let e1 : n / 0x10000 % 16 ≡ b = omega arith in
    let e2 : n / 0x1000 % 16 ≡ c = omega arith in
    let e3 : n / 0x100 % 16 ≡ d = omega arith in
    let e4 : n / 0x10 % 16 ≡ e = omega arith in
    let e5 : n % 16 ≡ f = omega arith in
    cc

-- data nibbles as six are told by their number: of any nibbles, while `Frame::row` says it of those of a frame
pub six_told : (vs : List ℕ) → Nibbles vs → length vs ≤ 6 → unpacked (packed (six vs)) ≡ six vs
six_told vs h l =
    let long : length (six vs) ≡ 6 = simp (length-take, length-append, length-replicate) (omega arith) in
    let v : Small (six vs) = first_small 6 (vs ++ replicate 6 0) (padded_small vs h) in
    ap unpacked (ap packed (sym (six_listed (six vs) long)) ∙ horner _ _ _ _ _ _) ∙ unpacked_six _ _ _ _ _ _ (v 0) (v 1) (v 2) (v 3) (v 4) (v 5) ∙ six_listed (six vs) long
  where
    Small : List ℕ → Type 0
    Small ws = (i : ℕ) → get_or ws i 0 < 16

    first_small : (n : ℕ) (xs : List ℕ) → Small xs → Small (take n xs)
    first_small zero xs g i = lit< tt
    first_small (suc n) [] g i = lit< tt
    first_small (suc n) (x ∷ xs) g zero = g 0
    first_small (suc n) (x ∷ xs) g (suc i) = first_small n xs (λ j. g (suc j)) i

    zeros_small : (n : ℕ) → Small (replicate n 0)
    zeros_small zero i = lit< tt
    zeros_small (suc n) zero = lit< tt
    zeros_small (suc n) (suc i) = zeros_small n i

    padded_small : (ws : List ℕ) → Nibbles ws → Small (ws ++ replicate 6 0)
    padded_small [] a i = zeros_small 6 i
    padded_small (w ∷ ws) a zero = a.0
    padded_small (w ∷ ws) a (suc i) = padded_small ws a.1 i
