use Rattle.std.proofs.Common.{take, drop, ap, ◌∙◌}
use Rattle.std.proofs.lemmas.List.{take_min, drop_min}
use Rattle.unitfile.proofs.file.parted.Goals as goal

pub returns : goal.returns
returns c =
    let xs = c.args.bytes.now in
    record {
      front = c.split_at.ensures.front ∙ ap (λ n. take n xs) c.min.ensures ∙ take_min c.args.at xs;
      back = c.split_at.ensures.back ∙ ap (λ n. drop n xs) c.min.ensures ∙ drop_min c.args.at xs;
    }
