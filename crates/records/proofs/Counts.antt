-- How many records some bytes have.
use Rattle.std.proofs.Common.{◌≡◌, ℕ, ◌/◌, ◌≤◌, List, [], ◌∷◌, length, refl, arith}
use Rattle.records.specs.Kinds.{Kind, Counter, Log}
use Rattle.records.specs.Records.{size, records, fours, eights}

length_fours : (xs : List ℕ) → length (fours xs) ≡ length xs / 4
length_fours [] = refl
length_fours (a ∷ []) = refl
length_fours (a ∷ b ∷ []) = refl
length_fours (a ∷ b ∷ c ∷ []) = refl
length_fours (a ∷ b ∷ c ∷ d ∷ more) = let e = length_fours more in omega arith

length_eights : (xs : List ℕ) → length (eights xs) ≡ length xs / 8
length_eights [] = refl
length_eights (a ∷ []) = refl
length_eights (a ∷ b ∷ []) = refl
length_eights (a ∷ b ∷ c ∷ []) = refl
length_eights (a ∷ b ∷ c ∷ d ∷ []) = refl
length_eights (a ∷ b ∷ c ∷ d ∷ e ∷ []) = refl
length_eights (a ∷ b ∷ c ∷ d ∷ e ∷ f ∷ []) = refl
length_eights (a ∷ b ∷ c ∷ d ∷ e ∷ f ∷ g ∷ []) = refl
length_eights (a ∷ b ∷ c ∷ d ∷ e ∷ f ∷ g ∷ h ∷ more) = let k = length_eights more in omega arith

pub length_records : (kind : Kind) (xs : List ℕ) → length (records kind xs) ≡ length xs / size kind
length_records Counter xs = length_fours xs
length_records Log xs = length_eights xs

pub records_few : (kind : Kind) (xs : List ℕ) → length (records kind xs) ≤ length xs
records_few Counter xs = omega (arith, length_fours xs)
records_few Log xs = omega (arith, length_eights xs)
