-- The short format keeps the law of all formats.
use Rattle.std.specs.Prelude.{refl}
use Rattle.std.proofs.Common.{lit≤}
use Rattle.checks.specs.Checks.{check4}
use Rattle.serial.specs.Format.{LawfulFormat}
use Rattle.formats.specs.Short.{layout, content, short}
use Rattle.formats.specs.LayoutLaw.{lawful_by_layout}

pub short_lawful : LawfulFormat short
short_lawful = lawful_by_layout layout check4 content (lit≤ tt) (lit≤ tt) refl
