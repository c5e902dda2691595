-- What a serial format means, and the law of all formats.
use Rattle.std.specs.Prelude.{◌≡◌, ℕ, ◌+◌, ◌%◌, ◌≤◌, Bool, T, List, [], ◌∷◌, ◌++◌, length, take, drop, is_some, Option, ◌≢◌}
use Rattle.std.specs.List.{AllByRecursion}
use Rattle.serial.specs.declared.pair.Pair.{Pair}

-- how many pairs a message has, which lists of pairs match the framing, which are lawful (the framing matches and the check fits),
-- and the message that a list tells, if any
pub record Format (M : Type 0) : Type 0 where
  pub size : ℕ
  pub framed : List Pair → Bool
  pub lawful : List Pair → Bool
  pub told : List Pair → Option M

-- the lists one after the other
abbrev pub joined : List (List Pair) → List Pair
joined [] = []
joined (l ∷ ls) = l ++ joined ls

-- each of the lists is lawful
abbrev pub AllLawful : {M : Type 0} → Format M → List (List Pair) → Type 0
AllLawful f ls = AllByRecursion (λ l. T (f.lawful l)) ls

-- however lawful lists are joined, as many neighbouring pairs as a message has do not match the framing
-- if they begin inside one of the lists, past its first pair
abbrev pub Apart : {M : Type 0} → Format M → Type 0
Apart f =
    (ls : List (List Pair)) → AllLawful f ls → (i : ℕ) → (i % f.size ≢ 0) → i + f.size ≤ length (joined ls)
    → T (f.framed (take f.size (drop i (joined ls)))) → ⊥

-- the law of a format: its length is 1 to 18, lists that match have that length, the lawful lists match and are those that tell a message,
-- and joined lawful lists match only where one of them begins
pub record LawfulFormat {M : Type 0} (f : Format M) : Type 0 where
  pub at_least_one : 1 ≤ f.size
  pub at_most_18 : f.size ≤ 18
  pub framed_in_length : (ps : List Pair) → T (f.framed ps) → length ps ≡ f.size
  pub lawful_is_framed : (ps : List Pair) → T (f.lawful ps) → T (f.framed ps)
  pub lawful_is_told : (ps : List Pair) → f.lawful ps ≡ is_some (f.told ps)
  pub apart : Apart f
