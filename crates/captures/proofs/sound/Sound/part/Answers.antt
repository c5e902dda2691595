use Rattle.std.proofs.Common.{◌≤◌, ◌+◌, ◌*◌, length, sym, subst, ◌∙◌, arith, rules}
use Rattle.captures.proofs.Counts.{record_within}
use Rattle.captures.proofs.sound.Sound.part.Goals as goal

pub slice_bounds-result-end : goal.slice_bounds-result-end
slice_bounds-result-end g c =
    let xs = c.args.self.now.bytes.now in
    let end : (c.args.last + 1) * c.SIZE-2.result ≤ length xs =
    subst (λ n. (c.args.last + 1) * n ≤ length xs) (sym (c.SIZE-2.ensures ∙ g.met.K.Recording.size_is_the_kinds))
    (record_within g.K.Recording.kind xs c.args.last (omega (arith, c.if-last-record_count.false, c.record_count.ensures))) in
    search rules
