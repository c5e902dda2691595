-- The records of a capture, by its bytes, and what is wrong with one.
use Rattle.std.specs.Prelude.{ℕ, ◌+◌, ◌*◌, ◌^◌, cond, ◌||◌, List, [], ◌∷◌, Some, None, Option, ◌==◌, nat_lt}
use Rattle.records.specs.Kinds.{Kind}
use Rattle.records.specs.Kinds.{Counter, Log}
use Rattle.records.specs.declared.record.Record.{Record}
use Rattle.records.specs.declared.record.Flaw.{Flaw}
use Rattle.records.specs.declared.record.Flaw.TheVariants.{Mark, Content}

-- the bytes of a record
abbrev pub size : Kind → ℕ
size Counter = 4
size Log = 8

-- numbers of two and of six bytes, the highest first
abbrev pub counter_value : ℕ → ℕ → ℕ
counter_value a b = a * 256 + b

abbrev pub log_value : ℕ → ℕ → ℕ → ℕ → ℕ → ℕ → ℕ
log_value a b c d e f = ((a * 256 + b) * 256 + c) * 16777216 + ((d * 256 + e) * 256 + f)

-- the whole records of some bytes, in their order
abbrev pub fours : List ℕ → List Record
fours [] = []
fours (m ∷ []) = []
fours (m ∷ k ∷ []) = []
fours (m ∷ k ∷ a ∷ []) = []
fours (m ∷ k ∷ a ∷ b ∷ more) = record { mark = m; letter = k; value = counter_value a b } ∷ fours more

abbrev pub eights : List ℕ → List Record
eights [] = []
eights (m ∷ []) = []
eights (m ∷ k ∷ []) = []
eights (m ∷ k ∷ a ∷ []) = []
eights (m ∷ k ∷ a ∷ b ∷ []) = []
eights (m ∷ k ∷ a ∷ b ∷ c ∷ []) = []
eights (m ∷ k ∷ a ∷ b ∷ c ∷ d ∷ []) = []
eights (m ∷ k ∷ a ∷ b ∷ c ∷ d ∷ e ∷ []) = []
eights (m ∷ k ∷ a ∷ b ∷ c ∷ d ∷ e ∷ f ∷ more) =
    record { mark = m; letter = k; value = log_value a b c d e f } ∷ eights more

abbrev pub records : Kind → List ℕ → List Record
records Counter bytes = fours bytes
records Log bytes = eights bytes

-- the letters of marks, by their codes
abbrev pub letter_s : ℕ
letter_s = 83

-- a timer value
abbrev pub letter_c : ℕ
letter_c = 67

-- the timer wrapped
abbrev pub letter_o : ℕ
letter_o = 79

-- edges were lost
abbrev pub letter_l : ℕ
letter_l = 76

-- an absolute time
abbrev pub letter_a : ℕ
letter_a = 65

-- what a filler and a time may be
abbrev pub zero_filler : ℕ → Option Flaw
zero_filler v = cond (v == 0) None (Some Content)

abbrev pub timely : ℕ → Option Flaw
timely v = cond (nat_lt v (2 ^ 40)) None (Some Content)

-- by the second letter of the mark
abbrev pub letter_flaw : Kind → ℕ → ℕ → Option Flaw
letter_flaw Counter k v = cond (k == letter_c) None (cond (k == letter_o || k == letter_l) (zero_filler v) (Some Mark))
letter_flaw Log k v = cond (k == letter_a) (timely v) (cond (k == letter_l) (zero_filler v) (Some Mark))

-- what is wrong with a record of a kind, if anything is: its mark before its content
abbrev pub flaw_of : Kind → Record → Option Flaw
flaw_of kind r = cond (r.mark == letter_s) (letter_flaw kind r.letter r.value) (Some Mark)
