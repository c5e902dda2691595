use Rattle.std.proofs.Common.{◌≡◌, ap, ◌∙◌, get_or, drop, take, arith}
use Rattle.std.proofs.lemmas.Bool.Decides.{nat_tests}
use Rattle.unitfile.specs.Files.{head_at}
use Rattle.unitfile.proofs.Heads.{head_a, head_b, captures_behind}
use Rattle.unitfile.proofs.file.read_layout.Goals as goal

pub returns-then-a-b : goal.returns-then-a-b
returns-then-a-b c =
    let xs = c.args.bytes.now in
    let m = c.in_ok-mark.ensures.cases in
    let a = c.in_ok-head_a.ensures.cases in
    let b = c.in_ok-head_b.ensures.cases in
    let la = ap (λ h. h.length) (c.from-a.ensures ∙ head_a xs _ _ m.1 a.1 _ a.0) in
    let lb = ap (λ h. h.length) (c.from-b.ensures ∙ head_b xs _ _ m.1 a.1 _ b.0) in
    grind (arith, nat_tests, la, lb, m.2, a.2, b.2, c.if-a-b.true)

pub returns : goal.returns
returns c =
    let xs = c.args.bytes.now in
    let m = c.in_ok-mark.ensures.cases in
    let a = c.in_ok-head_a.ensures.cases in
    let b = c.in_ok-head_b.ensures.cases in
    let ha : c.from-a.result ≡ head_at xs 2 = c.from-a.ensures ∙ head_a xs _ _ m.1 a.1 _ a.0 in
    let hb : c.from-b.result ≡ head_at xs 11 = c.from-b.ensures ∙ head_b xs _ _ m.1 a.1 _ b.0 in
    let body = captures_behind xs _ _ m.1 a.1 _ b.1 in
    let la = ap (λ h. h.length) ha in
    let lb = ap (λ h. h.length) hb in
    let first = ap (λ ys. get_or ys 0 0) m.0 in
    let second = ap (λ ys. get_or ys 1 0) m.0 in (
      grind (arith, nat_tests, la, lb, m.2, a.2, b.2, c.if-a-b.false),
      record { head = ha; capture = c.split_at.ensures.front ∙ ap (take c.from-a.result.length) body ∙ ap (λ n. take n (drop 20 xs)) la },
      record { head = hb; capture = c.split_at.ensures.back ∙ ap (drop c.from-a.result.length) body ∙ ap (λ n. drop n (drop 20 xs)) la },
    )
