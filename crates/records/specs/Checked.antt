-- Which captures are refused, and for what.
use Rattle.std.specs.Prelude.{ℕ, ◌+◌, ◌%◌, cond, ◌&&◌, List, [], ◌∷◌, length, Some, None, Option, ◌==◌, nat_le}
use Rattle.records.specs.Kinds.{Kind}
use Rattle.records.specs.declared.record.Record.{Record}
use Rattle.records.specs.declared.record.Flaw.{Flaw}
use Rattle.records.specs.declared.record.Flaw.TheVariants.{Mark, Content}
use Rattle.records.specs.declared.checking.CheckRefusal.{CheckRefusal}
use Rattle.records.specs.declared.checking.CheckRefusal.TheVariants.{Length, Flawed}
use Rattle.records.specs.Records.{size, records, flaw_of}

abbrev pub check_number : CheckRefusal → ℕ
check_number Length = 1
check_number (Flawed p Mark) = 2
check_number (Flawed p Content) = 3

-- the record that a refusal names, or 0 where it names none
abbrev pub check_record : CheckRefusal → ℕ
check_record Length = 0
check_record (Flawed p f) = p

-- a flaw of the record at the place p
abbrev pub flawed_at : ℕ → Flaw → CheckRefusal
flawed_at p f = Flawed p f

-- the flaw at the place p, or what a later record is refused for
abbrev pub flawed_or : ℕ → Option Flaw → Option CheckRefusal → Option CheckRefusal
flawed_or p None later = later
flawed_or p (Some f) later = Some (flawed_at p f)

-- the first flaw of records, of which the first has the place p
abbrev pub first_flaw : Kind → ℕ → List Record → Option CheckRefusal
first_flaw kind p [] = None
first_flaw kind p (r ∷ rs) = flawed_or p (flaw_of kind r) (first_flaw kind (p + 1) rs)

-- why a capture is refused, if it is: its length before its records
abbrev pub checked : Kind → List ℕ → Option CheckRefusal
checked kind bytes =
    cond (nat_le (length bytes) 24576 && length bytes % size kind == 0) (first_flaw kind 0 (records kind bytes)) (Some Length)
