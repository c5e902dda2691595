-- What is written on a page.
use Rattle.std.specs.Prelude.{◌≡◌, ℕ, ◌+◌, ◌≤◌, List, ◌++◌, length}

-- `new` is `old` and more bytes behind it, at most so many
pub record Grows (old new bytes : List ℕ) (most : ℕ) : Type 0 where
  pub wrote : new ≡ old ++ bytes
  pub short : length new ≤ length old + most
