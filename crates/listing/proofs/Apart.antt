-- Lines tell reports apart: the fields of a line can be read back, and a report from its fields.
use Rattle.std.proofs.Common.{◌≡◌, ℕ, zero, suc, ◌+◌, ◌/◌, ◌%◌, ◌^◌, ◌<◌, ◌≤◌, cond, eqb, ltb, List, [], ◌∷◌, ◌++◌, map, length, get_or, take, drop, decimal, sym, refl, ap, ◌∙◌, inl, inr, append_assoc, zero-add, arith, lit<}
use Rattle.std.specs.List.{AllByRecursion}
use Rattle.std.proofs.lemmas.List.FromFn.{get_or-map-range_with_len}
use Rattle.std.proofs.lemmas.Fmt.{decimal_by_steps, decimal_injective}
use Rattle.std.proofs.ByRecursion.{All-append, All-map, All-take, All-weaker}
use Rattle.std.proofs.lemmas.Bool.{cases_lt, lt-ltb, le-ltb}
use Rattle.model.specs.declared.side.Side.{Side}
use Rattle.model.specs.declared.side.Side.TheVariants.{A as ChannelA, B as ChannelB}
use Rattle.model.specs.declared.fault.FaultKind.{FaultKind}
use Rattle.model.specs.declared.fault.FaultKind.TheVariants.{Break, Interval, Calibration, ShortNibble, LongNibble, FrameCheck, SerialCheck}
use Rattle.model.specs.Faults.{number}
use Rattle.pulses.specs.Frames.{unpacked}
use Rattle.formats.specs.declared.enhanced.Configuration.TheVariants.{Data12}
use Rattle.listing.specs.declared.report.LineReport.{LineReport}
use Rattle.listing.specs.declared.report.LineReport.TheVariants.{Frame, Short, Enhanced, Fault}
use Rattle.listing.specs.Laws.{InTypes, ShownWhole, shown, LinesTellReportsApart}
use Rattle.model.specs.Sides.{side_letter}
use Rattle.listing.specs.Lines.{hex_digit, kind_letter, place_of, details, following, four_fields, line}
use Rattle.listing.proofs.Sizes.{number_small, place_small}

-- bytes of a field: none is a space or a line feed
abbrev Plain : List ℕ → Type 0
Plain field = AllByRecursion (λ c. 32 < c) field

-- what stands before the first byte that is not plain, and from it on
parted : (f g xs ys : List ℕ) (c d : ℕ) → Plain f → Plain g → c ≤ 32 → d ≤ 32 → f ++ (c ∷ xs) ≡ g ++ (d ∷ ys) → (f ≡ g) × ((c ∷ xs) ≡ (d ∷ ys))
parted [] [] xs ys c d p q h k e = (refl, e)
parted [] (b ∷ g) xs ys c d p q h k e = let z : c ≡ b = cc in absurd (omega (arith, q.0))
parted (a ∷ f) [] xs ys c d p q h k e = let z : a ≡ d = cc in absurd (omega (arith, p.0))
parted (a ∷ f) (b ∷ g) xs ys c d p q h k e =
    let first : a ≡ b = cc in
    let rest : f ++ (c ∷ xs) ≡ g ++ (d ∷ ys) = cc in
    let r = parted f g xs ys c d p.1 q.1 h k rest in
    ((λ i. first i ∷ r.0 i), r.1)

-- a field and what follows it
parted_field : (f g : List ℕ) (fs gs : List (List ℕ)) → Plain f → Plain g → f ++ following fs ≡ g ++ following gs → (f ≡ g) × (following fs ≡ following gs)
parted_field f g [] [] p q e = parted f g [] [] 10 10 p q (lit< tt) (lit< tt) e
parted_field f g [] (b ∷ gs) p q e = parted f g [] (b ++ following gs) 10 32 p q (lit< tt) (lit< tt) e
parted_field f g (a ∷ fs) [] p q e = parted f g (a ++ following fs) [] 32 10 p q (lit< tt) (lit< tt) e
parted_field f g (a ∷ fs) (b ∷ gs) p q e = parted f g (a ++ following fs) (b ++ following gs) 32 32 p q (lit< tt) (lit< tt) e

-- the fields that follow
fields_told : (fs gs : List (List ℕ)) → AllByRecursion Plain fs → AllByRecursion Plain gs → following fs ≡ following gs → fs ≡ gs
fields_told [] [] p q e = refl
fields_told [] (g ∷ gs) p q e = cc
fields_told (f ∷ fs) [] p q e = cc
fields_told (f ∷ fs) (g ∷ gs) p q e =
    let tails : f ++ following fs ≡ g ++ following gs = cc in
    let r = parted_field f g fs gs p.0 q.0 tails in
    let rest = fields_told fs gs p.1 q.1 r.1 in
    λ i. r.0 i ∷ rest i

decimal_plain : (n : ℕ) → n < 2 ^ 64 → Plain (decimal n)
decimal_plain = decimal_by_steps (λ m ds. Plain ds) (λ m l. (omega arith, tt)) (λ m ds l h. All-append (λ c. 32 < c) ds ((48 + m % 10) ∷ []) h (omega arith, tt))

-- the digit of a nibble as a sum
hex_is : (v : ℕ) → v < 16 → hex_digit v ≡ cond (ltb v 10) (48 + v) (55 + v)
hex_is v h = get_or-map-range_with_len (λ d. cond (ltb d 10) (48 + d) (55 + d)) 0 16 v v 0 h (zero-add v)

hex_low : (v : ℕ) → v < 10 → hex_digit v ≡ 48 + v
hex_low v h = hex_is v (omega arith) ∙ ap (λ b. cond b (48 + v) (55 + v)) (lt-ltb v 10 h)

hex_high : (v : ℕ) → 10 ≤ v → v < 16 → hex_digit v ≡ 55 + v
hex_high v l h = hex_is v h ∙ ap (λ b. cond b (48 + v) (55 + v)) (le-ltb v 10 l)

hex_plain : (v : ℕ) → v < 16 → 32 < hex_digit v
hex_plain v h = elim (cases_lt v 10) [ inl l ↦ omega (arith, hex_low v l) | inr l ↦ omega (arith, hex_high v l h) ]

hex_told : (v w : ℕ) → v < 16 → w < 16 → hex_digit v ≡ hex_digit w → v ≡ w
hex_told v w h k e =
    elim (cases_lt v 10) [
      | inl l ↦ elim (cases_lt w 10) [ inl m ↦ omega (arith, hex_low v l, hex_low w m) | inr m ↦ absurd (omega (arith, hex_low v l, hex_high w m k)) ]
      | inr l ↦ elim (cases_lt w 10) [ inl m ↦ absurd (omega (arith, hex_high v l h, hex_low w m)) | inr m ↦ omega (arith, hex_high v l h, hex_high w m k) ]
    ]

abbrev Nibbles : List ℕ → Type 0
Nibbles vs = AllByRecursion (λ v. v < 16) vs

digits_plain : (vs : List ℕ) → Nibbles vs → Plain (map hex_digit vs)
digits_plain vs h = All-map (λ c. 32 < c) hex_digit vs (All-weaker (λ v. v < 16) (λ v. 32 < hex_digit v) hex_plain vs h)

digits_told : (vs ws : List ℕ) → Nibbles vs → Nibbles ws → map hex_digit vs ≡ map hex_digit ws → vs ≡ ws
digits_told [] [] h k e = refl
digits_told [] (w ∷ ws) h k e = cc
digits_told (v ∷ vs) [] h k e = cc
digits_told (v ∷ vs) (w ∷ ws) h k e =
    let first : hex_digit v ≡ hex_digit w = cc in
    let rest : map hex_digit vs ≡ map hex_digit ws = cc in
    let a = hex_told v w h.0 k.0 first in
    let b = digits_told vs ws h.1 k.1 rest in
    λ i. a i ∷ b i

unpacked_nibbles : (d : ℕ) → Nibbles (unpacked d)
unpacked_nibbles d = (omega arith, (omega arith, (omega arith, (omega arith, (omega arith, (omega arith, tt))))))

-- lists of one length that agree in their first n elements, and are zero behind them
front_told : (n : ℕ) (vs ws : List ℕ) → length vs ≡ length ws → ((i : ℕ) → n ≤ i → get_or vs i 0 ≡ 0) → ((i : ℕ) → n ≤ i → get_or ws i 0 ≡ 0) → take n vs ≡ take n ws → vs ≡ ws
front_told n [] [] l h k e = refl
front_told n [] (w ∷ ws) l h k e = absurd (omega arith)
front_told n (v ∷ vs) [] l h k e = absurd (omega arith)
front_told zero (v ∷ vs) (w ∷ ws) l h k e =
    let first : v ≡ w = omega (arith, h 0 (omega arith), k 0 (omega arith)) in
    let rest = front_told zero vs ws (omega arith) (λ i m. h (suc i) (omega arith)) (λ i m. k (suc i) (omega arith)) refl in
    λ i. first i ∷ rest i
front_told (suc n) (v ∷ vs) (w ∷ ws) l h k e =
    let first : v ≡ w = cc in
    let tails : take n vs ≡ take n ws = cc in
    let rest = front_told n vs ws (omega arith) (λ i m. h (suc i) (omega arith)) (λ i m. k (suc i) (omega arith)) tails in
    λ i. first i ∷ rest i

-- a number of six nibbles is told by them
packed_told : (d e : ℕ) → d < 2 ^ 24 → e < 2 ^ 24 → unpacked d ≡ unpacked e → d ≡ e
packed_told d e h k same =
    let n0 : d / 0x100000 % 16 ≡ e / 0x100000 % 16 = ap (λ l. get_or l 0 0) same in
    let n1 : d / 0x10000 % 16 ≡ e / 0x10000 % 16 = ap (λ l. get_or l 1 0) same in
    let n2 : d / 0x1000 % 16 ≡ e / 0x1000 % 16 = ap (λ l. get_or l 2 0) same in
    let n3 : d / 0x100 % 16 ≡ e / 0x100 % 16 = ap (λ l. get_or l 3 0) same in
    let n4 : d / 0x10 % 16 ≡ e / 0x10 % 16 = ap (λ l. get_or l 4 0) same in
    let n5 : d % 16 ≡ e % 16 = ap (λ l. get_or l 5 0) same in
    omega arith

-- every field is plain
kind_plain : (report : LineReport) → 32 < kind_letter report
kind_plain (Frame row) = lit< tt
kind_plain (Short place message) = lit< tt
kind_plain (Enhanced place message) = lit< tt
kind_plain (Fault fault) = lit< tt

details_plain : (n : ℕ) (report : LineReport) → InTypes report → AllByRecursion Plain (details n report)
details_plain n (Frame row) h =
    ((hex_plain (row.status % 16) (omega arith), tt), (digits_plain (take n (unpacked row.packed)) (All-take (λ v. v < 16) n (unpacked row.packed) (unpacked_nibbles row.packed)), tt))
details_plain n (Short place message) h =
    ((lit< tt, tt), (decimal_plain message.id (omega arith), (decimal_plain message.«data» (omega arith), tt)))
details_plain n (Enhanced place message) h =
    ((lit< tt, tt), (decimal_plain message.id (omega arith), (decimal_plain message.«data» (omega arith), tt)))
details_plain n (Fault fault) h = (decimal_plain (number fault.kind) (omega (arith, number_small fault.kind)), tt)

-- the fields of a line behind its first
abbrev fields : ℕ → ℕ → LineReport → List (List ℕ)
fields n time report = decimal time ∷ (kind_letter report ∷ []) ∷ decimal (place_of report) ∷ details n report

fields_plain : (n time : ℕ) (report : LineReport) → time < 2 ^ 40 → InTypes report → AllByRecursion Plain (fields n time report)
fields_plain n time report t h =
    (decimal_plain time (omega arith), ((kind_plain report, tt), (decimal_plain (place_of report) (omega (arith, place_small report h)), details_plain n report h)))

line_fields : (side : Side) (n time : ℕ) (report : LineReport) → line side n time report ≡ side_letter side ∷ following (fields n time report)
unfolding line four_fields
line_fields side n time report =
    ap (λ l. side_letter side ∷ 32 ∷ l) (append_assoc (decimal time) (32 ∷ kind_letter report ∷ 32 ∷ decimal (place_of report)) (following (details n report)))

-- a report from its fields
side_told : (s t : Side) → side_letter s ≡ side_letter t → s ≡ t
side_told ChannelA ChannelA e = refl
side_told ChannelA ChannelB e = absurd (omega (arith, e))
side_told ChannelB ChannelA e = absurd (omega (arith, e))
side_told ChannelB ChannelB e = refl

kind_numbered : ℕ → FaultKind
kind_numbered n =
    cond (eqb n 201) Break (cond (eqb n 202) Interval (cond (eqb n 301) Calibration (cond (eqb n 302) ShortNibble (cond (eqb n 303) LongNibble (cond (eqb n 401) FrameCheck SerialCheck)))))

kind_back : (kind : FaultKind) → kind_numbered (number kind) ≡ kind
unfolding kind_numbered
kind_back Break = refl
kind_back Interval = refl
kind_back Calibration = refl
kind_back ShortNibble = refl
kind_back LongNibble = refl
kind_back FrameCheck = refl
kind_back SerialCheck = refl

kind_told : (k l : FaultKind) → number k ≡ number l → k ≡ l
kind_told k l e = sym (kind_back k) ∙ ap kind_numbered e ∙ kind_back l

report_told : (n : ℕ) (r s : LineReport) → InTypes r → InTypes s → ShownWhole n r → ShownWhole n s → kind_letter r ≡ kind_letter s → place_of r ≡ place_of s → details n r ≡ details n s → shown r ≡ shown s
report_told n (Frame row) (Frame row') h k whole whole' e p d =
    let digit : hex_digit (row.status % 16) ≡ hex_digit (row'.status % 16) = ap (λ l. get_or (get_or l 0 []) 0 0) d in
    let low : row.status % 16 ≡ row'.status % 16 = hex_told (row.status % 16) (row'.status % 16) (omega arith) (omega arith) digit in
    let status : row.status ≡ row'.status = omega (arith, whole.0, whole'.0) in
    let six : List ℕ = unpacked row.packed in
    let six' : List ℕ = unpacked row'.packed in
    let digits : map hex_digit (take n six) ≡ map hex_digit (take n six') = ap (λ l. get_or l 1 []) d in
    let front = digits_told (take n six) (take n six') (All-take (λ v. v < 16) n six (unpacked_nibbles row.packed)) (All-take (λ v. v < 16) n six' (unpacked_nibbles row'.packed)) digits in
    let packed = packed_told row.packed row'.packed whole.1 whole'.1 (front_told n six six' refl whole.2 whole'.2 front) in
    λ i. Frame (record { place = p i; status = status i; packed = packed i })
report_told n (Frame row) (Short place message) h k whole whole' e p d = absurd (omega (arith, e))
report_told n (Frame row) (Enhanced place message) h k whole whole' e p d = absurd (omega (arith, e))
report_told n (Frame row) (Fault fault) h k whole whole' e p d = absurd (omega (arith, e))
report_told n (Short place message) (Frame row) h k whole whole' e p d = absurd (omega (arith, e))
report_told n (Short place message) (Short place' message') h k whole whole' e p d =
    let id = decimal_injective message.id message'.id (omega arith) (omega arith) (ap (λ l. get_or l 1 []) d) in
    let value = decimal_injective message.«data» message'.«data» (omega arith) (omega arith) (ap (λ l. get_or l 2 []) d) in
    λ i. Short (p i) (record { id = id i; «data» = value i })
report_told n (Short place message) (Enhanced place' message') h k whole whole' e p d =
    let format : ◌≡◌ {A = ℕ} 83 69 = ap (λ l. get_or (get_or l 0 []) 0 0) d in
    absurd (omega (arith, format))
report_told n (Short place message) (Fault fault) h k whole whole' e p d = absurd (omega (arith, e))
report_told n (Enhanced place message) (Frame row) h k whole whole' e p d = absurd (omega (arith, e))
report_told n (Enhanced place message) (Short place' message') h k whole whole' e p d =
    let format : ◌≡◌ {A = ℕ} 69 83 = ap (λ l. get_or (get_or l 0 []) 0 0) d in
    absurd (omega (arith, format))
report_told n (Enhanced place message) (Enhanced place' message') h k whole whole' e p d =
    let id = decimal_injective message.id message'.id (omega arith) (omega arith) (ap (λ l. get_or l 1 []) d) in
    let value = decimal_injective message.«data» message'.«data» (omega arith) (omega arith) (ap (λ l. get_or l 2 []) d) in
    λ i. Enhanced (p i) (record { configuration = Data12; id = id i; «data» = value i })
report_told n (Enhanced place message) (Fault fault) h k whole whole' e p d = absurd (omega (arith, e))
report_told n (Fault fault) (Frame row) h k whole whole' e p d = absurd (omega (arith, e))
report_told n (Fault fault) (Short place message) h k whole whole' e p d = absurd (omega (arith, e))
report_told n (Fault fault) (Enhanced place message) h k whole whole' e p d = absurd (omega (arith, e))
report_told n (Fault fault) (Fault fault') h k whole whole' e p d =
    let same = decimal_injective (number fault.kind) (number fault'.kind) (omega (arith, number_small fault.kind)) (omega (arith, number_small fault'.kind)) (ap (λ l. get_or l 0 []) d) in
    let kind = kind_told fault.kind fault'.kind same in
    λ i. Fault (record { kind = kind i; place = p i })

pub reports_told_apart : LinesTellReportsApart
unfolding LinesTellReportsApart
reports_told_apart n side side' time time' r s t t' h k whole whole' e =
    let both : (side_letter side ∷ following (fields n time r)) ≡ (side_letter side' ∷ following (fields n time' s)) = sym (line_fields side n time r) ∙ e ∙ line_fields side' n time' s in
    let first : side_letter side ≡ side_letter side' = ap (λ l. get_or l 0 0) both in
    let rest : following (fields n time r) ≡ following (fields n time' s) = ap (drop 1) both in
    let same : fields n time r ≡ fields n time' s = fields_told (fields n time r) (fields n time' s) (fields_plain n time r t h) (fields_plain n time' s t' k) rest in
    let when : time ≡ time' = decimal_injective time time' (omega arith) (omega arith) (ap (λ l. get_or l 0 []) same) in
    let kind : kind_letter r ≡ kind_letter s = ap (λ l. get_or (get_or l 1 []) 0 0) same in
    let place : place_of r ≡ place_of s = decimal_injective (place_of r) (place_of s) (omega (arith, place_small r h)) (omega (arith, place_small s k)) (ap (λ l. get_or l 2 []) same) in
    (side_told side side' first, when, report_told n r s h k whole whole' kind place (ap (drop 3) same))
