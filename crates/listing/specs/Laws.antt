-- What holds of all lines.
use Rattle.std.specs.Prelude.{◌≡◌, ℕ, ◌^◌, ◌<◌, ◌≤◌, length, slice_index}
use Rattle.model.specs.declared.side.Side.{Side}
use Rattle.pulses.specs.Frames.{unpacked}
use Rattle.formats.specs.declared.enhanced.Configuration.TheVariants.{Data12}
use Rattle.listing.specs.declared.report.LineReport.{LineReport}
use Rattle.listing.specs.declared.report.LineReport.TheVariants.{Frame, Short, Enhanced, Fault}
use Rattle.listing.specs.Lines.{line}

-- every number of a report is one of its type
abbrev pub InTypes : LineReport → Type 0
InTypes (Frame row) = (row.place < 2 ^ 32) × (row.status < 2 ^ 8) × (row.packed < 2 ^ 32)
InTypes (Short place message) = (place < 2 ^ 32) × (message.id < 2 ^ 8) × (message.«data» < 2 ^ 8)
InTypes (Enhanced place message) = (place < 2 ^ 32) × (message.id < 2 ^ 8) × (message.«data» < 2 ^ 16)
InTypes (Fault fault) = fault.place < 2 ^ 32

-- 48 bytes have room for every line
abbrev pub NoLineLongerThan48 : Type 0
NoLineLongerThan48 =
    (side : Side) (n time : ℕ) (report : LineReport) → time < 2 ^ 40 → InTypes report → length (line side n time report) ≤ 48

-- a line with n data nibbles shows all of a frame: status and data are nibbles, and the data nibbles behind the first n are zero
abbrev pub ShownWhole : ℕ → LineReport → Type 0
ShownWhole n (Frame row) = (row.status < 16) × (row.packed < 2 ^ 24) × ((i : ℕ) → n ≤ i → slice_index (unpacked row.packed) i ≡ 0)
ShownWhole n (Short place message) = Unit {0}
ShownWhole n (Enhanced place message) = Unit {0}
ShownWhole n (Fault fault) = Unit {0}

-- what a line shows of a report: all of it but the configuration of an enhanced message, which is taken as the first one here
abbrev pub shown : LineReport → LineReport
shown (Frame row) = Frame row
shown (Short place message) = Short place message
shown (Enhanced place message) = Enhanced place (record { configuration = Data12; id = message.id; «data» = message.«data» })
shown (Fault fault) = Fault fault

-- reports with one line are of one channel and one time, and what a line shows of them is the same
unfoldable pub LinesTellReportsApart : Type 0
LinesTellReportsApart =
    (n : ℕ) (side side' : Side) (time time' : ℕ) (report report' : LineReport)
    → time < 2 ^ 40 → time' < 2 ^ 40 → InTypes report → InTypes report' → ShownWhole n report → ShownWhole n report'
    → line side n time report ≡ line side' n time' report'
    → (side ≡ side') × (time ≡ time') × (shown report ≡ shown report')
