-- What a record says of time.
use Rattle.std.specs.Prelude.{ℕ, ◌+◌, ◌*◌, cond, ◌==◌}
use Rattle.records.specs.Kinds.{Kind, Counter, Log}
use Rattle.records.specs.declared.record.Record.{Record}
use Rattle.records.specs.Records.{letter_c, letter_o, letter_a}
use Rattle.captures.specs.declared.events.Stamp.{Stamp}
use Rattle.captures.specs.declared.events.Stamp.TheVariants.{Timed, Lost, Wrapped}

-- what a record says after w wraps of the timer: a time, that edges were lost, or that the timer wrapped
abbrev pub stamp_of : Kind → ℕ → Record → Stamp
stamp_of Counter w r = cond (r.letter == letter_c) (Timed (65536 * w + r.value)) (cond (r.letter == letter_o) Wrapped Lost)
stamp_of Log w r = cond (r.letter == letter_a) (Timed r.value) Lost
