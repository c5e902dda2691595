-- Things of two types that are kept together.
use Rattle.std.specs.Prelude.{List}

-- what is kept of each type, oldest first
pub record Rows (T U : Type 0) : Type 0 where
  pub firsts : List T
  pub seconds : List U
