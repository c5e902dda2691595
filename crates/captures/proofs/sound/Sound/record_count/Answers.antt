use Rattle.std.proofs.Common.{length, ap, ◌/◌, ◌∙◌}
use Rattle.captures.proofs.Counts.{counted}
use Rattle.captures.proofs.sound.Sound.record_count.Goals as goal

pub returns : goal.returns
returns g c =
    let xs = c.args.self.now.bytes.now in
    ap (λ n. length xs / n) (c.SIZE.ensures ∙ g.met.K.Recording.size_is_the_kinds) ∙ counted g.K.Recording.kind xs c.args.self.now.accepted
