-- Bytes opened at a record of eight.
use Rattle.std.proofs.Common.{◌≡◌, ℕ, ◌+◌, ◌*◌, List, [], ◌∷◌, length, get_or, take, drop, refl, arith}
use Rattle.std.specs.Int.{w16, w32, from_be_bytes}
use Rattle.records.specs.Records.{log_value, eights}

-- the first record of eight bytes, of which these are the first and those behind them
pub cut_eight : (xs first rest : List ℕ) (v : ℕ) → first ≡ take 8 xs → rest ≡ drop 8 xs → length rest + 8 ≡ length xs
    → v ≡ from_be_bytes w16 (get_or first 2 0 ∷ get_or first 3 0 ∷ []) * 4294967296
    + from_be_bytes w32 (get_or first 4 0 ∷ get_or first 5 0 ∷ get_or first 6 0 ∷ get_or first 7 0 ∷ [])
    → eights xs ≡ record { mark = get_or first 0 0; letter = get_or first 1 0; value = v } ∷ eights rest
cut_eight [] first rest v f r n e = absurd (omega arith)
cut_eight (m ∷ []) first rest v f r n e = absurd (omega arith)
cut_eight (m ∷ k ∷ []) first rest v f r n e = absurd (omega arith)
cut_eight (m ∷ k ∷ a ∷ []) first rest v f r n e = absurd (omega arith)
cut_eight (m ∷ k ∷ a ∷ b ∷ []) first rest v f r n e = absurd (omega arith)
cut_eight (m ∷ k ∷ a ∷ b ∷ c ∷ []) first rest v f r n e = absurd (omega arith)
cut_eight (m ∷ k ∷ a ∷ b ∷ c ∷ d ∷ []) first rest v f r n e = absurd (omega arith)
cut_eight (m ∷ k ∷ a ∷ b ∷ c ∷ d ∷ g ∷ []) first rest v f r n e = absurd (omega arith)
cut_eight (m ∷ k ∷ a ∷ b ∷ c ∷ d ∷ g ∷ h ∷ more) first rest v f r n e =
    let w = simp f at e in
    let is : v ≡ log_value a b c d g h = omega (arith, w) in
    simp (f, r, is) refl
