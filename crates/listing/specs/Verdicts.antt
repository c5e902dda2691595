-- What is said of a file that was listed.
use Rattle.std.specs.Prelude.{Some, None, Option}
use Rattle.unitfile.specs.declared.file.FileRefusal.{FileRefusal}
use Rattle.listing.specs.declared.file.Verdict.{Verdict}
use Rattle.listing.specs.declared.file.Verdict.TheVariants.{Accepted, Refused}

abbrev pub verdict_of : Option FileRefusal → Verdict
verdict_of None = Accepted
verdict_of (Some e) = Refused
