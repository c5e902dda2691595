use Rattle.std.proofs.Common.{◌≡◌, ◌+◌, ◌-◌, ◌≤◌, false, sym, ap, ◌∙◌, rules, arith}
use Rattle.pulses.specs.declared.partial.Partial.{Partial}
use Rattle.pulses.specs.Intervals.{ticks, apart}
use Rattle.pulses.specs.States.{meaning}
use Rattle.pulses.specs.Steps.{Stepped}
use Rattle.pulses.proofs.Kept.{inside_few}
use Rattle.pulses.proofs.Full.{refuses, completes}
use Rattle.pulses.proofs.decoder.Decoder.step.Goals as goal

pub returns-then-not-check_fits-clause-answer : goal.returns-then-not-check_fits-clause-answer
returns-then-not-check_fits-clause-answer c =
    let d = c.args.self.now in
    let a = c.in-Inside-Edge in
    let f : Partial = a.field-1-0 in
    let near : apart a.last.time a.time ≡ false = search rules in
    let lo : 12 ≤ ticks f.calibration (a.time - a.last.time) = search rules in
    let hi : ticks f.calibration (a.time - a.last.time) ≤ 27 = search rules in
    let over : d.settings.nibbles + 1 ≤ f.count = search rules in
    let e = refuses d.settings a.is-0 a.is-1 near lo hi (omega (arith, over, inside_few d.settings a.is-0 d.few)) (search rules) in
    (search rules, c.failed-then-not-check_fits.ensures ∙ sym (ap (λ (x : Stepped). x.outcome) e), ap meaning c.after_frame-self.ensures ∙ sym (ap (λ (x : Stepped). x.state) e))

pub returns-else-not-check_fits-clause-answer : goal.returns-else-not-check_fits-clause-answer
returns-else-not-check_fits-clause-answer c =
    let d = c.args.self.now in
    let a = c.in-Inside-Edge in
    let f : Partial = a.field-1-0 in
    let near : apart a.last.time a.time ≡ false = search rules in
    let lo : 12 ≤ ticks f.calibration (a.time - a.last.time) = search rules in
    let hi : ticks f.calibration (a.time - a.last.time) ≤ 27 = search rules in
    let over : d.settings.nibbles + 1 ≤ f.count = search rules in
    let e = completes d.settings a.is-0 a.is-1 near lo hi (omega (arith, over, inside_few d.settings a.is-0 d.few)) (search rules) in
    (search rules, search rules ∙ sym (ap (λ (x : Stepped). x.outcome) e), ap meaning c.after_frame-self.ensures ∙ sym (ap (λ (x : Stepped). x.state) e))
