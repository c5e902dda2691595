-- The bytes of a unit file: what they hold, and why a file is refused.
use Rattle.std.specs.Prelude.{◌≡◌, ℕ, ◌+◌, ◌*◌, ◌/◌, ◌%◌, Bool, cond, ◌&&◌, List, [], ◌∷◌, ◌++◌, length, take, drop, Some, None, Option, Result, MatchResult, ◌==◌, nat_le, slice_index}
use Rattle.model.specs.declared.side.Side.{Side}
use Rattle.model.specs.declared.side.Side.TheVariants.{A as ChannelA, B as ChannelB}
use Rattle.model.specs.declared.settings.Settings.{Settings}
use Rattle.model.specs.declared.settings.SettingsRefusal.{SettingsRefusal}
use Rattle.model.specs.Preparing.{refused, refusal_number}
use Rattle.records.specs.Kinds.{Kind}
use Rattle.records.specs.Kinds.{Counter, Log}
use Rattle.records.specs.declared.checking.CheckRefusal.{CheckRefusal}
use Rattle.records.specs.Checked.{checked, check_number, check_record}
use Rattle.unitfile.specs.declared.file.Head.{Head}
use Rattle.unitfile.specs.declared.file.Part.{Part}
use Rattle.unitfile.specs.declared.file.UnitFile.{UnitFile}
use Rattle.unitfile.specs.declared.file.FileRefusal.{FileRefusal}
use Rattle.unitfile.specs.declared.file.FileRefusal.TheVariants.{Layout, Channel, Capture}

-- the number of a refusal, and the record that it names, or 0
abbrev pub file_number : FileRefusal → ℕ
file_number Layout = 10
file_number (Channel side why) = refusal_number why
file_number (Capture side why) = check_number why

abbrev pub file_record : FileRefusal → ℕ
file_record Layout = 0
file_record (Channel side why) = 0
file_record (Capture side why) = check_record why

-- the channel that is refused, if one is
abbrev pub file_side : FileRefusal → Option Side
file_side Layout = None
file_side (Channel side why) = Some side
file_side (Capture side why) = Some side

-- the number that four bytes make, the highest first
abbrev pub number_at : List ℕ → ℕ → ℕ
number_at bytes i = ((slice_index bytes i * 256 + slice_index bytes (i + 1)) * 256 + slice_index bytes (i + 2)) * 256 + slice_index bytes (i + 3)

-- what the header says of a channel from the byte i on: K in four bytes, N in one, and the capture's length in four
abbrev pub head_at : List ℕ → ℕ → Head
head_at bytes i = record { calibration = number_at bytes i; nibbles = slice_index bytes (i + 4); length = number_at bytes (i + 5) }

-- channel A's part of the header follows the mark, and channel B's follows that
abbrev pub head_of : Side → List ℕ → Head
head_of ChannelA bytes = head_at bytes 2
head_of ChannelB bytes = head_at bytes 11

-- the captures follow the header of 20 bytes, the first of them n bytes long
abbrev pub first_capture : ℕ → List ℕ → List ℕ
first_capture n bytes = take n (drop 20 bytes)

abbrev pub second_capture : ℕ → List ℕ → List ℕ
second_capture n bytes = drop n (drop 20 bytes)

-- the capture of a channel, by the length that the header has for A's
abbrev pub capture_of : Side → List ℕ → List ℕ
capture_of ChannelA bytes = first_capture (head_of ChannelA bytes).length bytes
capture_of ChannelB bytes = second_capture (head_of ChannelA bytes).length bytes

-- channel A has a counter capture, channel B an absolute log
abbrev pub kind_of : Side → Kind
kind_of ChannelA = Counter
kind_of ChannelB = Log

-- at most 60,000 bytes with a whole header, the mark SU, and captures that fill the file
abbrev pub laid_out : List ℕ → Bool
laid_out bytes =
    nat_le 20 (length bytes) && (nat_le (length bytes) 60000 && (slice_index bytes 0 == 83 && (slice_index bytes 1 == 85
    && 20 + (head_of ChannelA bytes).length + (head_of ChannelB bytes).length == length bytes)))

-- the first reason, if there is one, else the later one
abbrev pub or_else : {X : Type 0} → Option X → Option X → Option X
or_else (Some x) later = Some x
or_else None later = later

-- what is wrong with a channel: its settings before its capture
abbrev pub settings_refused : Side → Option SettingsRefusal → Option FileRefusal
settings_refused side None = None
settings_refused side (Some why) = Some (Channel side why)

abbrev pub capture_refused : Side → Option CheckRefusal → Option FileRefusal
capture_refused side None = None
capture_refused side (Some why) = Some (Capture side why)

-- why a channel of K k and N n with this capture is refused, if it is
abbrev pub channel_refused : Side → ℕ → ℕ → List ℕ → Option FileRefusal
channel_refused side k n capture =
    or_else (settings_refused side (refused k n)) (capture_refused side (checked (kind_of side) capture))

-- the same of a channel of the file
abbrev pub side_refused : Side → List ℕ → Option FileRefusal
side_refused side bytes =
    channel_refused side (head_of side bytes).calibration (head_of side bytes).nibbles (capture_of side bytes)

-- why a file is refused, if it is: its layout, then channel A, then channel B
abbrev pub file_refused : List ℕ → Option FileRefusal
file_refused bytes =
    cond (laid_out bytes) (or_else (side_refused ChannelA bytes) (side_refused ChannelB bytes)) (Some Layout)

-- a number in four bytes, the highest first
abbrev pub four_bytes : ℕ → List ℕ
four_bytes n = n / 16777216 ∷ n / 65536 % 256 ∷ n / 256 % 256 ∷ n % 256 ∷ []

-- a channel's part of the header
abbrev pub head_bytes : Settings → List ℕ → List ℕ
head_bytes s capture = four_bytes s.calibration ++ (s.nibbles ∷ four_bytes (length capture))

-- the unit file of two settings and two captures
abbrev pub encoded : Settings → List ℕ → Settings → List ℕ → List ℕ
encoded sa ca sb cb = 83 ∷ 85 ∷ (head_bytes sa ca ++ (head_bytes sb cb ++ (ca ++ cb)))

-- a channel's part of the file: what the header says of it, and its capture
pub record PartRead (side : Side) (bytes : List ℕ) (p : Part) : Type 0 where
  pub head : p.head ≡ head_of side bytes
  pub capture : p.capture.now ≡ capture_of side bytes

-- the settings that the header has for a channel
pub record SettingsRead (side : Side) (bytes : List ℕ) (s : Settings) : Type 0 where
  pub calibration : s.calibration ≡ (head_of side bytes).calibration
  pub nibbles : s.nibbles ≡ (head_of side bytes).nibbles

-- the captures that were read of a file
abbrev pub capture_a : UnitFile → List ℕ
capture_a u = u.a.capture.bytes.now

abbrev pub capture_b : UnitFile → List ℕ
capture_b u = u.b.capture.bytes.now

-- what is read of a file that is accepted
pub record FileRead (bytes : List ℕ) (u : UnitFile) : Type 0 where
  pub accepted : file_refused bytes ≡ None
  pub settings_a : SettingsRead ChannelA bytes u.a.settings
  pub settings_b : SettingsRead ChannelB bytes u.b.settings
  pub read_a : capture_a u ≡ capture_of ChannelA bytes
  pub read_b : capture_b u ≡ capture_of ChannelB bytes

-- the file is the encoding of the settings and of the captures that were read of it, and these are accepted
pub record Encoding (bytes : List ℕ) (u : UnitFile) : Type 0 where
  pub is : bytes ≡ encoded u.a.settings (capture_a u) u.b.settings (capture_b u)
  pub capture_a_accepted : checked Counter (capture_a u) ≡ None
  pub capture_b_accepted : checked Log (capture_b u) ≡ None

-- settings of the same numbers
abbrev pub SameSettings : Settings → Settings → Type 0
SameSettings s t = (s.calibration ≡ t.calibration) × (s.nibbles ≡ t.nibbles)

-- every encoding of two settings and two accepted captures is accepted, and just these are read of it
abbrev pub EncodingsAccepted : List ℕ → Result UnitFile FileRefusal → Type 0
EncodingsAccepted bytes r =
    (sa : Settings) (ca : List ℕ) (sb : Settings) (cb : List ℕ) → checked Counter ca ≡ None → checked Log cb ≡ None
    → bytes ≡ encoded sa ca sb cb
    → MatchResult r (λ u. SameSettings u.a.settings sa × (capture_a u ≡ ca) × SameSettings u.b.settings sb × (capture_b u ≡ cb)) (λ e. ⊥)
