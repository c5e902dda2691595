-- The header of a file, cut into the mark and the parts of both channels.
use Rattle.std.proofs.Common.{◌≡◌, ℕ, ◌+◌, ◌<◌, List, get_or, take, drop, refl, ap, ◌∙◌, get_or-drop, get_or-take, add_assoc, add-zero, arith}
use Rattle.std.proofs.lemmas.List.{drop-drop}
use Rattle.unitfile.specs.Files.{head_at}

-- what nine bytes say is what the file says where they were cut out
head_read : (n : ℕ) (xs ys : List ℕ) → ys ≡ take 9 (drop n xs) → head_at ys 0 ≡ head_at xs n
head_read n xs ys e =
    let at : (k : ℕ) → k < 9 → get_or ys k 0 ≡ get_or xs (n + k) 0 = λ k h. simp e (get_or-take 9 (drop n xs) k 0 h ∙ get_or-drop n xs k 0) in
    simp (
      at 0 (omega arith),
      at 1 (omega arith),
      at 2 (omega arith),
      at 3 (omega arith),
      at 4 (omega arith),
      at 5 (omega arith),
      at 6 (omega arith),
      at 7 (omega arith),
      at 8 (omega arith),
      add_assoc,
      add-zero,
    ) refl

-- behind the mark, and behind channel A's part
module _ (xs behind_mark behind_a : List ℕ) (mark : behind_mark ≡ drop 2 xs) (first : behind_a ≡ drop 9 behind_mark) where
  pub head_a : (ys : List ℕ) → ys ≡ take 9 behind_mark → head_at ys 0 ≡ head_at xs 2
  head_a ys e = head_read 2 xs ys (e ∙ ap (take 9) mark)

  second : behind_a ≡ drop 11 xs
  second = first ∙ ap (drop 9) mark ∙ drop-drop 9 2 xs

  pub head_b : (ys : List ℕ) → ys ≡ take 9 behind_a → head_at ys 0 ≡ head_at xs 11
  head_b ys e = head_read 11 xs ys (e ∙ ap (take 9) second)

  pub captures_behind : (ys : List ℕ) → ys ≡ drop 9 behind_a → ys ≡ drop 20 xs
  captures_behind ys e = e ∙ ap (drop 9) second ∙ drop-drop 9 11 xs
