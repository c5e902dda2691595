use Rattle.std.proofs.Common.{Ok, rules, arith}
use Rattle.unitfile.specs.declared.file.UnitFile.{UnitFile}
use Rattle.unitfile.specs.Files.{FileRead}
use Rattle.unitfile.proofs.Encodings.{accepted_is_an_encoding, encodings_accepted}
use Rattle.unitfile.proofs.file.UnitFile.read.Goals as goal

pub returns : goal.returns
returns c =
    let xs = c.args.bytes.now in
    let file : UnitFile = record { a = c.in_ok-a-2.a; b = c.in_ok-b.b } in
    let read : FileRead xs file = search rules in
    record {
      contents = read;
      accepted_is_an_encoding = accepted_is_an_encoding xs (λ i. omega (arith, c.type_inv.bytes i)) (Ok file) read;
      encodings_accepted = encodings_accepted xs (Ok file) read;
    }
