-- The enhanced format keeps the law of all formats.
use Rattle.std.specs.Prelude.{refl}
use Rattle.std.proofs.Common.{lit≤}
use Rattle.checks.specs.Checks.{check6}
use Rattle.serial.specs.Format.{LawfulFormat}
use Rattle.formats.specs.Enhanced.{layout, content, enhanced}
use Rattle.formats.specs.LayoutLaw.{lawful_by_layout}

pub enhanced_lawful : LawfulFormat enhanced
enhanced_lawful = lawful_by_layout layout check6 content (lit≤ tt) (lit≤ tt) refl
