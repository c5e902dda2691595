-- The pairs that a window keeps, and what it says of them.
use Rattle.std.specs.Prelude.{ℕ, ◌-◌, cond, List, [], ◌∷◌, map, length, drop, Some, None, Option}
use Rattle.model.specs.declared.fault.FaultKind.TheVariants.{SerialCheck}
use Rattle.serial.specs.declared.pair.Pair.{Pair}
use Rattle.serial.specs.declared.report.SerialReport.{SerialReport}
use Rattle.serial.specs.declared.report.SerialReport.TheVariants.{Told, Failed}
use Rattle.serial.specs.declared.window.Window.{Window}
use Rattle.serial.specs.Format.{Format}

-- the pair of a frame, with the frame's place
pub record Kept : Type 0 where
  pub pair : Pair
  pub place : ℕ

-- pairs and places, one to one
abbrev pub paired : List Pair → List ℕ → List Kept
paired [] ns = []
paired (p ∷ ps) [] = []
paired (p ∷ ps) (n ∷ ns) = record { pair = p; place = n } ∷ paired ps ns

-- what a window keeps, oldest first
abbrev pub kept : {F : Type 0} → Window F → List Kept
kept w = paired w.last.firsts w.last.seconds

-- the last n of a list, or all if there are fewer
abbrev pub last : {X : Type 0} → ℕ → List X → List X
last n xs = drop (length xs - n) xs

abbrev pub pairs_of : List Kept → List Pair
pairs_of ks = map (λ k. k.pair) ks

abbrev pub first_place : List Kept → ℕ
first_place [] = 0
first_place (k ∷ ks) = k.place

-- a message with the place of its first frame, or the fault of a check that does not fit, at the event
abbrev pub judged : {M : Type 0} → Option M → ℕ → ℕ → SerialReport M
judged (Some m) first event = Told first m
judged None first event = Failed (record { kind = SerialCheck; place = event })

-- nothing, unless the pairs kept match the framing
abbrev pub reported : {M : Type 0} → Format M → List Kept → ℕ → Option (SerialReport M)
reported f ks event = cond (f.framed (pairs_of ks)) (Some (judged (f.told (pairs_of ks)) (first_place ks) event)) None
