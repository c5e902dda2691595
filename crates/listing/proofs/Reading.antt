-- The lines that are worked out.
use Rattle.std.proofs.Common.{refl}
use Rattle.std.specs.Fmt.{digits}
use Rattle.listing.specs.Lines.{line, four_fields}
use Rattle.listing.specs.Worked.{WorkedLines}

pub worked_lines : WorkedLines
unfolding line four_fields digits
worked_lines = record { frame = refl; short_message = refl; enhanced_message = refl; fault = refl; closing = refl; refused_file = refl }
