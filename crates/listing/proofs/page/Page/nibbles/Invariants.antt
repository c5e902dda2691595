use Rattle.std.proofs.Common.{◌≡◌, ◌++◌, map, take}
use Rattle.listing.specs.Lines.{hex_digit}
use Rattle.listing.proofs.page.Page.nibbles.Given as goal

abbrev pub invariant-loop-nibble : goal.invariant-loop-nibble
invariant-loop-nibble g l = l.self ≡ l.initial.self ++ map hex_digit (take l.nibble-index l.nibbles)
