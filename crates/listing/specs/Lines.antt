-- The lines of a listing, as bytes.
use Rattle.std.specs.Prelude.{ℕ, ◌%◌, ◌^◌, cond, ◌||◌, List, [], ◌∷◌, ◌++◌, map, take, Some, None, codes, decimal, Option, nat_le, nat_lt, slice_index}
use Rattle.model.specs.declared.side.Side.{Side}
use Rattle.model.specs.Sides.{side_letter}
use Rattle.model.specs.Faults.{number}
use Rattle.pulses.specs.Frames.{unpacked}
use Rattle.unitfile.specs.declared.file.FileRefusal.{FileRefusal}
use Rattle.unitfile.specs.Files.{file_number, file_side, file_record}
use Rattle.listing.specs.declared.report.LineReport.{LineReport}
use Rattle.listing.specs.declared.report.LineReport.TheVariants.{Frame, Short, Enhanced, Fault}
use Rattle.listing.specs.declared.report.LineRefusal.{LineRefusal}
use Rattle.listing.specs.declared.report.LineRefusal.TheVariants.{Nibbles, Time, Buffer}

-- the upper-case hexadecimal digit of a nibble
abbrev pub hex_digit : ℕ → ℕ
hex_digit v = slice_index (codes "0123456789ABCDEF") v

-- the only byte of a text of one
abbrev pub letter : List ℕ → ℕ
letter text = slice_index text 0

-- the letter that says what a line tells: a frame, a message, or a fault
abbrev pub kind_letter : LineReport → ℕ
kind_letter (Frame row) = letter (codes "F")
kind_letter (Short place message) = letter (codes "M")
kind_letter (Enhanced place message) = letter (codes "M")
kind_letter (Fault fault) = letter (codes "X")

abbrev pub place_of : LineReport → ℕ
place_of (Frame row) = row.place
place_of (Short place message) = place
place_of (Enhanced place message) = place
place_of (Fault fault) = fault.place

-- the fields behind the place: of a frame its status and its first n data nibbles as one field, of a message its format, id and data,
-- and of a fault its number
abbrev pub details : ℕ → LineReport → List (List ℕ)
details n (Frame row) = (hex_digit (row.status % 16) ∷ []) ∷ map hex_digit (take n (unpacked row.packed)) ∷ []
details n (Short place message) = codes "S" ∷ decimal message.id ∷ decimal message.«data» ∷ []
details n (Enhanced place message) = codes "E" ∷ decimal message.id ∷ decimal message.«data» ∷ []
details n (Fault fault) = decimal (number fault.kind) ∷ []

-- fields behind the first of a line: a space before each, and the line feed at the end
abbrev pub following : List (List ℕ) → List ℕ
following [] = codes "\n"
following (field ∷ fields) = codes " " ++ (field ++ following fields)

-- a letter, a number, a letter and a number, with single spaces
unfoldable pub four_fields : ℕ → ℕ → ℕ → ℕ → List ℕ
four_fields first number second place =
    first ∷ (codes " " ++ (decimal number ++ (codes " " ++ (second ∷ (codes " " ++ decimal place)))))

-- the line of a channel whose frames have n data nibbles: channel, time, kind and place, and what follows them
unfoldable pub line : Side → ℕ → ℕ → LineReport → List ℕ
line side n time report = four_fields (side_letter side) time (kind_letter report) (place_of report) ++ following (details n report)

abbrev pub refusal_number : LineRefusal → ℕ
refusal_number Nibbles = 5
refusal_number Time = 6
refusal_number Buffer = 8

-- why no line of n data nibbles and this time is written into so many bytes, if none is: the first reason that applies
abbrev pub line_refused : ℕ → ℕ → ℕ → Option LineRefusal
line_refused n time room =
    cond (nat_lt n 1 || nat_lt 6 n) (Some Nibbles)
    (cond (nat_le (2 ^ 40) time) (Some Time)
    (cond (nat_lt room 48) (Some Buffer) None))

-- a letter and two numbers, which end a line
abbrev pub lettered : ℕ → ℕ → ℕ → List ℕ
lettered first a b = first ∷ following (decimal a ∷ decimal b ∷ [])

-- the last line of a listing: how many frames each channel received
abbrev pub closing_line : ℕ → ℕ → List ℕ
closing_line a b = lettered (letter (codes "Z")) a b

-- the channel that a refusal names, or a dash
abbrev pub refused_letter : Option Side → ℕ
refused_letter None = letter (codes "-")
refused_letter (Some side) = side_letter side

-- the only line of a listing whose file is refused: the refusal's number, its channel, and its record
abbrev pub refusal_line : FileRefusal → List ℕ
refusal_line e =
    four_fields (letter (codes "R")) (file_number e) (refused_letter (file_side e)) (file_record e) ++ codes "\n"
