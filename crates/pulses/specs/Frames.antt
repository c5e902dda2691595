-- Frames as rows of numbers, and the check of a frame.
use Rattle.std.specs.Prelude.{ℕ, ◌+◌, ◌*◌, ◌/◌, ◌%◌, List, [], ◌∷◌, ◌++◌, take, replicate}
use Rattle.model.specs.declared.settings.Settings.{Settings}
use Rattle.checks.specs.Checks.{check4}
use Rattle.pulses.specs.declared.frame.FrameRow.{FrameRow}

-- nibbles behind n as one number, each next one lower
abbrev pub joined : ℕ → List ℕ → ℕ
joined n [] = n
joined n (v ∷ vs) = joined (n * 16 + v) vs

-- nibbles as one number, the first highest
abbrev pub packed : List ℕ → ℕ
packed vs = joined 0 vs

-- the six nibbles of a number
abbrev pub unpacked : ℕ → List ℕ
unpacked d = d / 0x100000 % 16 ∷ d / 0x10000 % 16 ∷ d / 0x1000 % 16 ∷ d / 0x100 % 16 ∷ d / 0x10 % 16 ∷ d % 16 ∷ []

-- the row of a frame: its place, its status nibble and its six data nibbles
abbrev pub row : ℕ → ℕ → List ℕ → FrameRow
row place status six = record { place = place; status = status; packed = packed six }

-- data nibbles as six, the unused ones zero
abbrev pub six : List ℕ → List ℕ
six vs = take 6 (vs ++ replicate 6 0)

-- the check nibble that the data nibbles of a frame must have
unfoldable pub frame_check : Settings → List ℕ → ℕ
frame_check s vs = check4 vs
