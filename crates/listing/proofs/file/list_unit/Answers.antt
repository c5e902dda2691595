use Rattle.std.proofs.Common.{◌≡◌, ℕ, List, ◌++◌, vec_items, sym, refl, ap, ◌∙◌, append_assoc, arith, rules}
use Rattle.receiver.specs.Receiving.{Standing}
use Rattle.listing.specs.Listings.{unit_listing}
use Rattle.listing.proofs.Stepping.{lines_on, one_fewer_left}
use Rattle.listing.proofs.file.list_unit.Goals as goal

-- bytes behind those of a page, behind those of a listing
behind : (out page last : List ℕ) {more all : List ℕ} → all ≡ out ++ more → more ≡ page ++ last → all ≡ (out ++ page) ++ last
behind out page last e f = e ∙ ap (λ (zs : List ℕ). out ++ zs) f ∙ sym (append_assoc out page last)

pub loop-step-preserved : goal.loop-step-preserved
loop-step-preserved g c =
    let inv = c.loop-step.invariant in
    let stepped = c.in-Ok.ensures in
    let put = c.step-in-Ok.ensures in
    let passed = c.pass_on.ensures in
    let u = c.loop-step.unit.state in
    let v = c.step.new.self.state in
    let a = c.loop-step.unit.settings_a in
    let b = c.loop-step.unit.settings_b in
    let left = ap (λ (z : Standing). z.state) stepped.left in
    let fewer = one_fewer_left c.args.a.settings c.args.b.settings a b inv.settings_a inv.settings_b u v c.in-Ok.step stepped.answer left in
    record {
      lines = ap (λ (zs : List ℕ). zs ++ unit_listing c.args.a.settings c.args.b.settings v) passed.items
          ∙ lines_on c.args.a.settings c.args.b.settings a b inv.settings_a inv.settings_b u v c.in-Ok.step stepped.answer left _ _ _ (behind (vec_items c.loop-step.out) c.loop-step.page _ refl put.wrote) inv.lines;
      settings_a = ap (λ (z : Standing). z.settings_a) stepped.left ∙ inv.settings_a;
      settings_b = ap (λ (z : Standing). z.settings_b) stepped.left ∙ inv.settings_b;
      room = omega (arith, fewer, put.short, passed.len, passed.capacity, inv.room);
      page = passed.room;
      short = omega (arith, fewer, put.short, passed.len, inv.short);
      capacity = omega (arith, passed.capacity, inv.capacity);
    }

pub returns-clause-items : goal.returns-clause-items
returns-clause-items g c = let all = behind (vec_items c.loop-step.out) c.loop-step.page _ c.append.ensures.items (c.as_slice.ensures ∙ c.closing.ensures.wrote) in search rules
