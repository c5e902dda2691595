-- Which changes of nibbles the four-bit check finds.
use Rattle.std.specs.Prelude.{◌≡◌, ℕ, ◌+◌, ◌<◌, ◌≤◌, ◌⊎◌, List, [], ◌∷◌, ◌++◌, length}
use Rattle.std.specs.List.{AllByRecursion}
use Rattle.checks.specs.Checks.{check4}

-- all are below 16
abbrev pub Nibbles : List ℕ → Type 0
Nibbles vs = AllByRecursion (λ v. v < 16) vs

-- data nibbles, followed by the check nibble that fits them
abbrev pub fitting : List ℕ → List ℕ
fitting vs = vs ++ check4 vs ∷ []

-- the second list is the first changed in at most one place
abbrev pub OneChanged : List ℕ → List ℕ → Type 0
OneChanged [] [] = Unit {0}
OneChanged [] (y ∷ ys) = ⊥
OneChanged (x ∷ xs) [] = ⊥
OneChanged (x ∷ xs) (y ∷ ys) = ((x ≡ y) × OneChanged xs ys) ⊎ (xs ≡ ys)

-- the numbers differ by at most one
abbrev pub Near : ℕ → ℕ → Type 0
Near a b = (a ≤ b + 1) × (b ≤ a + 1)

-- the second list is the first with at most its first element changed, and that by at most one
abbrev pub MovedFirst : List ℕ → List ℕ → Type 0
MovedFirst [] ys = ⊥
MovedFirst (x ∷ xs) [] = ⊥
MovedFirst (x ∷ xs) (y ∷ ys) = Near x y × (xs ≡ ys)

-- the second list is the first with two neighbours changed by at most one each, the rest unchanged
abbrev pub MovedNeighbours : List ℕ → List ℕ → Type 0
MovedNeighbours [] ys = ⊥
MovedNeighbours (x ∷ xs) [] = ⊥
MovedNeighbours (x ∷ xs) (y ∷ ys) = ((x ≡ y) × MovedNeighbours xs ys) ⊎ (Near x y × MovedFirst xs ys)

-- data nibbles that still fit their check nibble after such a change of both together were not changed
abbrev pub Found : (List ℕ → List ℕ → Type 0) → Type 0
Found Change = (vs ws : List ℕ) → Nibbles vs → Nibbles ws → length vs ≡ length ws → Change (fitting vs) (fitting ws) → ws ≡ vs

abbrev pub OneChangedNibbleFound : Type 0
OneChangedNibbleFound = Found OneChanged

abbrev pub MovedNeighboursFound : Type 0
MovedNeighboursFound = Found MovedNeighbours
