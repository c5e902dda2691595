-- A part of a capture, by the places of its first and last record.
use Rattle.std.specs.Prelude.{ℕ, ◌+◌, ◌-◌, ◌*◌, Bool, ◌&&◌, List, take, drop, nat_le, nat_lt}
use Rattle.records.specs.Kinds.{Kind}
use Rattle.captures.specs.declared.part.PartRefusal.{PartRefusal}
use Rattle.captures.specs.declared.part.PartRefusal.TheVariants.{NoSuchPart}
use Rattle.records.specs.Records.{size}
use Rattle.captures.specs.Times.{record_count}

abbrev pub part_number : PartRefusal → ℕ
part_number NoSuchPart = 9

-- the capture is accepted and has records from the place f through the place l
abbrev pub has_part : Kind → List ℕ → ℕ → ℕ → Bool
has_part kind bytes f l = nat_le f l && nat_lt l (record_count kind bytes)

-- the bytes of these records
abbrev pub part_of : Kind → List ℕ → ℕ → ℕ → List ℕ
part_of kind bytes f l = take ((l + 1) * size kind - f * size kind) (drop (f * size kind) bytes)
