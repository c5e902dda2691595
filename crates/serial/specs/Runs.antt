-- What a window says over a run of frames.
use Rattle.std.specs.Prelude.{◌≡◌, ℕ, ◌-◌, List, [], ◌∷◌, ◌++◌, map, drop, replicate, Some, None, Option}
use Rattle.serial.specs.declared.pair.Pair.{Pair}
use Rattle.serial.specs.declared.report.SerialReport.{SerialReport}
use Rattle.serial.specs.declared.report.SerialReport.TheVariants.{Told}
use Rattle.serial.specs.Format.{Format, joined, AllLawful}
use Rattle.serial.specs.Windows.{Kept, last, reported}

-- a frame's pair and place, and the place of the event that ended the frame
pub record Came : Type 0 where
  pub pair : Pair
  pub place : ℕ
  pub event : ℕ

abbrev pub kept_of : Came → Kept
kept_of x = record { pair = x.pair; place = x.place }

-- what is kept once a frame came
abbrev pub kept_after : {M : Type 0} → Format M → List Kept → Came → List Kept
kept_after f ks x = last f.size (ks ++ kept_of x ∷ [])

-- what a window that keeps this says as frames come, one answer to each
abbrev pub answers : {M : Type 0} → Format M → List Kept → List Came → List (Option (SerialReport M))
answers f ks [] = []
answers f ks (x ∷ xs) = reported f (kept_after f ks x) x.event ∷ answers f (kept_after f ks x) xs

abbrev pub first_came : List Came → ℕ
first_came [] = 0
first_came (x ∷ xs) = x.place

-- a message as a report, with the place of its first frame
abbrev pub told_at : {M : Type 0} → ℕ → Option M → Option (SerialReport M)
told_at place (Some m) = Some (Told place m)
told_at place None = None

-- the messages of the lists, each at the last pair of its list and with the place of its first frame, and nothing else
abbrev pub messages : {M : Type 0} → Format M → List (List Pair) → List Came → List (Option (SerialReport M))
messages f [] xs = []
messages f (l ∷ ls) xs = (replicate (f.size - 1) None ++ told_at (first_came xs) (f.told l) ∷ []) ++ messages f ls (drop f.size xs)

-- where the frames bring lawful lists joined, an empty window tells their messages and nothing else
abbrev pub JoinedListsToldWhole : {M : Type 0} → Format M → Type 0
JoinedListsToldWhole f =
    (ls : List (List Pair)) → AllLawful f ls → (xs : List Came) → map (λ x. x.pair) xs ≡ joined ls → answers f [] xs ≡ messages f ls xs
