-- What the writing of a line leaves.
use Rattle.std.specs.Prelude.{◌≡◌, ℕ, List, ◌++◌, length, drop, Some, None, Result, MatchResult}
use Rattle.listing.specs.declared.line.Line.{Line}
use Rattle.listing.specs.declared.report.LineRefusal.{LineRefusal}
use Rattle.listing.specs.Lines.{line, line_refused}

-- the bytes of a line
abbrev pub bytes_of : Line → List ℕ
bytes_of l = line l.side l.nibbles l.time l.report

-- `after` is `before` with the bytes of the line over its first, and the answer is how many they are; or the answer is why there is no line, and
-- `after` is `before`
abbrev pub LineWritten : Line → List ℕ → List ℕ → Result ℕ LineRefusal → Type 0
LineWritten l before after answer =
    MatchResult answer
    (λ n. (line_refused l.nibbles l.time (length before) ≡ None) × (n ≡ length (bytes_of l)) × (after ≡ bytes_of l ++ drop n before))
    (λ e. (line_refused l.nibbles l.time (length before) ≡ Some e) × (after ≡ before))
