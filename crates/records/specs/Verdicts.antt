-- What the check of a capture answers, told by the length of the capture and by its records one by one.
use Rattle.std.specs.Prelude.{◌≡◌, ℕ, ◌%◌, ◌≤◌, List, [], ◌∷◌, ◌++◌, length, Some, None}
use Rattle.records.specs.Kinds.{Kind}
use Rattle.records.specs.declared.record.Record.{Record}
use Rattle.records.specs.declared.record.Flaw.{Flaw}
use Rattle.records.specs.declared.checking.CheckRefusal.TheVariants.{Length}
use Rattle.records.specs.Records.{size, records, flaw_of}
use Rattle.records.specs.Checked.{flawed_at, checked}

-- the one holds exactly if the other does
abbrev pub ExactlyIf : Type 0 → Type 0 → Type 0
ExactlyIf A B = (A → B) × (B → A)

-- the bytes are not too many, and make whole records
abbrev pub RightLength : Kind → List ℕ → Type 0
RightLength kind bytes = (length bytes ≤ 24576) × (length bytes % size kind ≡ 0)

-- none of the records has a flaw
abbrev pub Flawless : Kind → List Record → Type 0
Flawless kind [] = Unit {0}
Flawless kind (r ∷ rs) = (flaw_of kind r ≡ None) × Flawless kind rs

-- the record at the place p has the flaw f, and none before it has one
pub record FirstBad (kind : Kind) (rs : List Record) (p : ℕ) (f : Flaw) : Type 0 where
  -- the records before it, the record, and those behind it
  pub before : List Record
  pub bad : Record
  pub behind : List Record
  pub parted : rs ≡ before ++ (bad ∷ behind)
  pub place : length before ≡ p
  pub flawless : Flawless kind before
  pub flaw : flaw_of kind bad ≡ Some f

-- The law of the check: its three answers, and when it gives each.
pub record RefusedByTheFirstBadRecord (kind : Kind) (bytes : List ℕ) : Type 0 where
  -- it accepts exactly if the length is right and no record has a flaw
  pub accepts : ExactlyIf (checked kind bytes ≡ None) (RightLength kind bytes × Flawless kind (records kind bytes))
  -- it refuses for the length exactly if that is wrong
  pub refuses_length : ExactlyIf (checked kind bytes ≡ Some Length) (RightLength kind bytes → ⊥)
  -- it names a place and a flaw exactly if the length is right, the record there has that flaw, and none before it has one
  pub names : (p : ℕ) (f : Flaw) → ExactlyIf (checked kind bytes ≡ Some (flawed_at p f)) (RightLength kind bytes × FirstBad kind (records kind bytes) p f)
