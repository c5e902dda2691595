use Rattle.std.proofs.Common.{◌≡◌, ◌≤◌, length, ap, ap₂, ◌∙◌, inl, arith}
use Rattle.records.specs.Records.{records}
use Rattle.records.specs.Checked.{first_flaw}
use Rattle.records.proofs.Counts.{records_few}
use Rattle.records.proofs.Judged.{judged}
use Rattle.records.proofs.checking.check.Goals as goal

pub loop-place-init : goal.loop-place-init
loop-place-init g c =
    let kind = g.K.Recording.kind in
    let it = c.into_iter-place-iterator.result in
    let e = c.into_iter-place-iterator.ensures.into_iter_gives in
    let count : it.count ≡ 0 = ap (λ s. s.count) e ∙ c.enumerate-place-items.ensures.count in
    let all : it.iter.rest.now ≡ c.args.bytes.now = ap (λ s. s.iter.rest.now) e ∙ ap (λ s. s.rest.now) c.enumerate-place-items.ensures.source ∙ c.of.ensures in
    let few : length (records kind it.iter.rest.now) ≤ 24576 = omega (arith, records_few kind it.iter.rest.now, ap length all) in
    ((tt, tt, inl (omega (arith, few, count))), tt, ap₂ (λ n bytes. first_flaw kind n (records kind bytes)) count all, omega (arith, few, count))

pub returns-in_err-map_err-clause-refused_by_the_first_bad_record : goal.returns-in_err-map_err-clause-refused_by_the_first_bad_record
returns-in_err-map_err-clause-refused_by_the_first_bad_record g c = judged g.K.Recording.kind c.args.bytes.now

pub returns-clause-refused_by_the_first_bad_record : goal.returns-clause-refused_by_the_first_bad_record
returns-clause-refused_by_the_first_bad_record g c = judged g.K.Recording.kind c.args.bytes.now
