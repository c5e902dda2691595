-- How long lines and their parts are.
use Rattle.std.proofs.Common.{◌≡◌, ℕ, zero, suc, ◌+◌, ◌*◌, ◌/◌, ◌^◌, ◌<◌, ◌≤◌, List, [], ◌∷◌, ◌++◌, map, length, take, codes, decimal, arith, lit<, length-append, length-take}
use lib.ListN.{length-map}
use Rattle.std.proofs.lemmas.Fmt.{length-decimal-le}
use Rattle.itoa.proofs.Decimal.{length_one, length_step_wide}
use Rattle.model.specs.declared.fault.FaultKind.{FaultKind}
use Rattle.model.specs.declared.fault.FaultKind.TheVariants.{Break, Interval, Calibration, ShortNibble, LongNibble, FrameCheck, SerialCheck}
use Rattle.model.specs.Faults.{number}
use Rattle.pulses.specs.Frames.{unpacked}
use Rattle.listing.specs.declared.report.LineReport.{LineReport}
use Rattle.listing.specs.declared.report.LineReport.TheVariants.{Frame, Short, Enhanced, Fault}
use Rattle.listing.specs.Laws.{InTypes, NoLineLongerThan48}
use Rattle.model.specs.Sides.{side_letter}
use Rattle.listing.specs.Lines.{hex_digit, kind_letter, place_of, details, following, lettered, four_fields, line}

-- a number from 10^k up to 10^(k+1) has k + 1 digits
pub digits_are : (k n : ℕ) → 10 ^ k ≤ n → n < 10 * 10 ^ k → n < 2 ^ 64 → k + 1 ≡ length (decimal n)
digits_are zero n low high f = omega (arith, length_one n (omega arith))
digits_are (suc k) n low high f =
    let step = length_step_wide n (omega arith) (omega arith) in
    let few = digits_are k (n / 10) (omega arith) (omega arith) (omega arith) in
    omega arith

-- the decimal digits of a time, and of numbers of 32, 16 and 8 bits
pub time_short : (n : ℕ) → n < 2 ^ 40 → length (decimal n) ≤ 13
time_short n h = length-decimal-le 13 n (lit< tt) (omega arith) (omega arith)

pub word_short : (n : ℕ) → n < 2 ^ 32 → length (decimal n) ≤ 10
word_short n h = length-decimal-le 10 n (lit< tt) (omega arith) (omega arith)

pub half_short : (n : ℕ) → n < 2 ^ 16 → length (decimal n) ≤ 5
half_short n h = length-decimal-le 5 n (lit< tt) (omega arith) (omega arith)

pub byte_short : (n : ℕ) → n < 2 ^ 8 → length (decimal n) ≤ 5
byte_short n h = half_short n (omega arith)

-- a field with the space before it, and the fields behind it
pub length_following : (f : List ℕ) (fs : List (List ℕ)) → length (following (f ∷ fs)) ≡ 1 + length f + length (following fs)
length_following f fs = omega (arith, length-append f (following fs))

pub length_lettered : (first x y : ℕ) → length (lettered first x y) ≡ length (decimal x) + length (decimal y) + 4
length_lettered first x y = omega (arith, length_following (decimal x) (decimal y ∷ []), length_following (decimal y) [])

pub length_four_fields : (first number second place : ℕ) → length (four_fields first number second place) ≡ length (decimal number) + length (decimal place) + 5
unfolding four_fields
length_four_fields first number second place =
    omega (arith, length-append (decimal number) (codes " " ++ (second ∷ (codes " " ++ decimal place))))

-- what the lengths of a line's parts come from
pub ruleset sizes = (length-append, time_short, word_short, half_short, byte_short, length_lettered, length_four_fields)

pub number_small : (kind : FaultKind) → number kind < 2 ^ 16
number_small Break = lit< tt
number_small Interval = lit< tt
number_small Calibration = lit< tt
number_small ShortNibble = lit< tt
number_small LongNibble = lit< tt
number_small FrameCheck = lit< tt
number_small SerialCheck = lit< tt

pub place_small : (report : LineReport) → InTypes report → place_of report < 2 ^ 32
place_small (Frame row) h = h.0
place_small (Short place message) h = h.0
place_small (Enhanced place message) h = h.0
place_small (Fault fault) h = h

details_short : (n : ℕ) (report : LineReport) → InTypes report → length (following (details n report)) ≤ 15
details_short n (Frame row) h =
    let digits : List ℕ = map hex_digit (take n (unpacked row.packed)) in
    let few : length (map hex_digit (take n (unpacked row.packed))) ≤ 6 = simp (length-map, length-take) (omega arith) in
    omega (arith, length_following digits [])
details_short n (Short place message) h =
    omega (arith, length_lettered 83 message.id message.«data», half_short message.id (omega arith), half_short message.«data» (omega arith))
details_short n (Enhanced place message) h =
    omega (arith, length_lettered 69 message.id message.«data», half_short message.id (omega arith), half_short message.«data» (omega arith))
details_short n (Fault fault) h =
    omega (arith, length_following (decimal (number fault.kind)) [], half_short (number fault.kind) (number_small fault.kind))

pub lines_short : NoLineLongerThan48
unfolding line
lines_short side n time report h fits =
    let front : List ℕ = four_fields (side_letter side) time (kind_letter report) (place_of report) in
    omega (arith, length-append front (following (details n report)), length_four_fields (side_letter side) time (kind_letter report) (place_of report), time_short time h, word_short (place_of report) (place_small report fits), details_short n report fits)
