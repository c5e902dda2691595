use Rattle.std.proofs.Common.{refl}
use Rattle.records.proofs.Cuts.{cut_eight}
use Rattle.records.proofs.record.LogRecording.first_record.Goals as goal

pub returns : goal.returns
returns c =
    let e = c.in_ok-first.ensures.cases in
    (cut_eight c.args.bytes.now _ _ _ e.0 e.1 e.2 (rw (c.from-high.ensures, c.from-low.ensures, c.from_be_bytes.ensures, c.from_be_bytes-2.ensures) refl), e.2)
