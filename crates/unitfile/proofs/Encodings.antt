-- A unit file is accepted exactly if it is an encoding.
use Rattle.std.proofs.Common.{◌≡◌, ℕ, ◌+◌, ◌-◌, ◌*◌, ◌/◌, ◌%◌, ◌<◌, ◌≤◌, true, false, cond, List, [], ◌∷◌, ◌++◌, length, get_or, take, drop, IfOk, Some, None, Ok, Err, Option, Result, sym, refl, ap, ap₂, ◌∙◌, subst, add_assoc, arith, MatchResult}
use Rattle.std.proofs.lemmas.List.{drop_more, take_at, drop_at, take-append-drop, length-drop, length-append, length-take-le}
use Rattle.model.proofs.Prepared.{settings_accepted}
use Rattle.captures.proofs.Lawfuls.{accepted_short}
use Rattle.std.proofs.lemmas.Bool.Decides.{nat_tests}
use Rattle.model.specs.declared.side.Side.TheVariants.{A as ChannelA, B as ChannelB}
use Rattle.model.specs.declared.settings.Settings.{Settings}
use Rattle.records.specs.Kinds.{Counter, Log}
use Rattle.records.specs.Checked.{checked}
use Rattle.unitfile.specs.declared.file.UnitFile.{UnitFile}
use Rattle.unitfile.specs.declared.file.FileRefusal.{FileRefusal}
use Rattle.unitfile.specs.declared.file.FileRefusal.TheVariants.{Layout}
use Rattle.model.specs.declared.side.Side.{Side}
use Rattle.model.specs.Preparing.{refused}
use Rattle.unitfile.specs.Files.{four_bytes, number_at, encoded, head_bytes, SettingsRead, FileRead, Encoding, EncodingsAccepted, file_refused, side_refused, channel_refused, settings_refused, capture_refused, or_else, laid_out, kind_of, head_of, capture_of}

-- a number is made of its four bytes, and they of it
four_back : (a b c d : ℕ) → b < 256 → c < 256 → d < 256 → four_bytes (((a * 256 + b) * 256 + c) * 256 + d) ≡ a ∷ b ∷ c ∷ d ∷ []
four_back a b c d hb hc hd =
    let n = ((a * 256 + b) * 256 + c) * 256 + d in
    let ea : n / 16777216 ≡ a = omega arith in
    let eb : n / 65536 % 256 ≡ b = omega arith in
    let ec : n / 256 % 256 ≡ c = omega arith in
    let ed : n % 256 ≡ d = omega arith in
    cc

four_whole : (n : ℕ) → ((n / 16777216 * 256 + n / 65536 % 256) * 256 + n / 256 % 256) * 256 + n % 256 ≡ n
four_whole n = omega arith

module _ (xs : List ℕ) (i : ℕ) (enough : i + 9 ≤ length xs) where
  one : (k : ℕ) → k < 9 → drop (i + k) xs ≡ get_or xs (i + k) 0 ∷ drop (i + (k + 1)) xs
  one k h = drop_more xs (i + k) 0 (omega arith) ∙ ap (λ n. get_or xs (i + k) 0 ∷ drop n xs) (add_assoc i k 1)

  nine : drop (i + 0) xs
      ≡ get_or xs (i + 0) 0 ∷ get_or xs (i + 1) 0 ∷ get_or xs (i + 2) 0 ∷ get_or xs (i + 3) 0 ∷ get_or xs (i + 4) 0
      ∷ get_or xs (i + 5) 0 ∷ get_or xs (i + 6) 0 ∷ get_or xs (i + 7) 0 ∷ get_or xs (i + 8) 0 ∷ drop (i + 9) xs
  nine =
      one 0 (omega arith) ∙ ap (λ z. get_or xs (i + 0) 0 ∷ z) (one 1 (omega arith) ∙ ap (λ z. get_or xs (i + 1) 0 ∷ z)
      (one 2 (omega arith) ∙ ap (λ z. get_or xs (i + 2) 0 ∷ z) (one 3 (omega arith) ∙ ap (λ z. get_or xs (i + 3) 0 ∷ z)
      (one 4 (omega arith) ∙ ap (λ z. get_or xs (i + 4) 0 ∷ z) (one 5 (omega arith) ∙ ap (λ z. get_or xs (i + 5) 0 ∷ z)
      (one 6 (omega arith) ∙ ap (λ z. get_or xs (i + 6) 0 ∷ z) (one 7 (omega arith) ∙ ap (λ z. get_or xs (i + 7) 0 ∷ z)
      (one 8 (omega arith)))))))))

-- a channel's part of the header, from the byte i on, is that of what stands there
module _ (xs : List ℕ) (i : ℕ) (enough : i + 9 ≤ length xs) (fit : (k : ℕ) → get_or xs k 0 < 256) (s : Settings) (c : List ℕ) where
  head_there : s.calibration ≡ ((get_or xs (i + 0) 0 * 256 + get_or xs (i + 1) 0) * 256 + get_or xs (i + 2) 0) * 256 + get_or xs (i + 3) 0
      → s.nibbles ≡ get_or xs (i + 4) 0
      → length c ≡ ((get_or xs (i + 5) 0 * 256 + get_or xs (i + 6) 0) * 256 + get_or xs (i + 7) 0) * 256 + get_or xs (i + 8) 0
      → drop (i + 0) xs ≡ head_bytes s c ++ drop (i + 9) xs
  head_there k n l =
      let at : ℕ → ℕ = λ j. get_or xs (i + j) 0 in
      let front = at 0 ∷ at 1 ∷ at 2 ∷ at 3 ∷ [] in
      let calibration : four_bytes s.calibration ≡ front = ap four_bytes k ∙ four_back (at 0) (at 1) (at 2) (at 3) (fit (i + 1)) (fit (i + 2)) (fit (i + 3)) in
      let size : four_bytes (length c) ≡ at 5 ∷ at 6 ∷ at 7 ∷ at 8 ∷ [] = ap four_bytes l ∙ four_back (at 5) (at 6) (at 7) (at 8) (fit (i + 6)) (fit (i + 7)) (fit (i + 8)) in
      nine xs i enough ∙ sym
      (ap (λ (z : List ℕ). (z ++ (s.nibbles ∷ four_bytes (length c))) ++ drop (i + 9) xs) calibration
      ∙ ap (λ (z : ℕ). (front ++ (z ∷ four_bytes (length c))) ++ drop (i + 9) xs) n
      ∙ ap (λ (z : List ℕ). (front ++ (at 4 ∷ z)) ++ drop (i + 9) xs) size)

-- what an accepted file has
record Accepted (xs : List ℕ) : Type 0 where
  pub whole : 20 ≤ length xs
  pub mark : (get_or xs 0 0 ≡ 83) × (get_or xs 1 0 ≡ 85)
  pub filled : 20 + number_at xs 7 + number_at xs 16 ≡ length xs
  pub sound_a : side_refused ChannelA xs ≡ None
  pub sound_b : side_refused ChannelB xs ≡ None

first_of : {X : Type 0} (a b : Option X) → or_else a b ≡ None → (a ≡ None) × (b ≡ None)
first_of None b e = (refl, e)
first_of (Some x) b e = cc

accepted : (xs : List ℕ) → file_refused xs ≡ None → Accepted xs
accepted xs e =
    (elim (laid_out xs) as (λ b. laid_out xs ≡ b → cond b (or_else (side_refused ChannelA xs) (side_refused ChannelB xs)) (Some Layout) ≡ None → Accepted xs) [
      | true ↦ λ t h.
          let both = first_of (side_refused ChannelA xs) (side_refused ChannelB xs) h in
          record { whole = grind (arith, nat_tests); mark = (grind (arith, nat_tests), grind (arith, nat_tests)); filled = grind (arith, nat_tests); sound_a = both.0; sound_b = both.1 }
      | false ↦ λ t h. cc
    ]) refl e

capture_sound : (side : Side) (k n : ℕ) (c : List ℕ) → channel_refused side k n c ≡ None → checked (kind_of side) c ≡ None
capture_sound side k n c e =
    let both = first_of (settings_refused side (refused k n)) (capture_refused side (checked (kind_of side) c)) e in
    (elim (checked (kind_of side) c) as (λ r. capture_refused side r ≡ None → r ≡ None) [
      | None ↦ λ h. refl
      | Some w ↦ λ h. cc
    ]) both.1

-- a file that is accepted is the encoding of settings that were read of it and of its two captures
is_encoding : (xs : List ℕ) → ((k : ℕ) → get_or xs k 0 < 256) → (sa sb : Settings) → SettingsRead ChannelA xs sa → SettingsRead ChannelB xs sb → Accepted xs
    → xs ≡ encoded sa (capture_of ChannelA xs) sb (capture_of ChannelB xs)
is_encoding xs fit sa sb ra rb a =
    let n = number_at xs 7 in
    let ca = take n (drop 20 xs) in
    let cb = drop n (drop 20 xs) in
    let enough : 11 ≤ length xs = omega (arith, a.whole) in
    let more : 20 ≤ length xs = omega (arith, a.whole) in
    let rest : length (drop 20 xs) ≡ length xs - 20 = length-drop 20 xs in
    let la : length ca ≡ n = length-take-le n (drop 20 xs) (omega (arith, a.filled, rest)) in
    let lb : length cb ≡ number_at xs 16 = length-drop n (drop 20 xs) ∙ omega (arith, a.filled, rest) in
    let body : drop 20 xs ≡ ca ++ cb = sym (take-append-drop n (drop 20 xs)) in
    let head_b : drop 11 xs ≡ head_bytes sb cb ++ drop 20 xs = head_there xs 11 more fit sb cb rb.calibration rb.nibbles lb in
    let head_a : drop 2 xs ≡ head_bytes sa ca ++ drop 11 xs = head_there xs 2 enough fit sa ca ra.calibration ra.nibbles la in
    let marks : xs ≡ 83 ∷ 85 ∷ drop 2 xs = drop_more xs 0 0 (omega arith) ∙ ap (λ z. get_or xs 0 0 ∷ z) (drop_more xs 1 0 (omega arith))
    ∙ ap (λ z. z ∷ get_or xs 1 0 ∷ drop 2 xs) a.mark.0 ∙ ap (λ z. 83 ∷ z ∷ drop 2 xs) a.mark.1 in
    marks ∙ ap (λ z. 83 ∷ 85 ∷ z) (head_a ∙ ap (λ z. head_bytes sa ca ++ z) (head_b ∙ ap (λ z. head_bytes sb cb ++ z) body))

read_encoding : (xs : List ℕ) → ((k : ℕ) → get_or xs k 0 < 256) → (u : UnitFile) → FileRead xs u → Encoding xs u
read_encoding xs fit u h =
    let a = accepted xs h.accepted in
    record {
      is = is_encoding xs fit u.a.settings u.b.settings h.settings_a h.settings_b a
          ∙ sym (ap₂ (λ (c d : List ℕ). encoded u.a.settings c u.b.settings d) h.read_a h.read_b);
      capture_a_accepted = ap (checked Counter) h.read_a ∙ capture_sound ChannelA (head_of ChannelA xs).calibration (head_of ChannelA xs).nibbles (capture_of ChannelA xs) a.sound_a;
      capture_b_accepted = ap (checked Log) h.read_b ∙ capture_sound ChannelB (head_of ChannelB xs).calibration (head_of ChannelB xs).nibbles (capture_of ChannelB xs) a.sound_b;
    }

pub accepted_is_an_encoding : (xs : List ℕ) → ((k : ℕ) → get_or xs k 0 < 256) → (r : Result UnitFile FileRefusal)
    → MatchResult r (λ u. FileRead xs u) (λ e. file_refused xs ≡ Some e) → IfOk r (λ u. Encoding xs u)
accepted_is_an_encoding xs fit (Ok u) h = read_encoding xs fit u h
accepted_is_an_encoding xs fit (Err e) h = tt

-- an encoding is accepted
module _ (sa : Settings) (ca : List ℕ) (sb : Settings) (cb : List ℕ) (fine_a : checked Counter ca ≡ None) (fine_b : checked Log cb ≡ None) where
  settings_fine : (side : Side) (s : Settings) (k : ℕ) → k ≡ s.calibration → settings_refused side (refused k s.nibbles) ≡ None
  settings_fine side s k e =
      ap (λ z. settings_refused side (refused z s.nibbles)) e ∙ ap (settings_refused side) (settings_accepted s)

  length_ca : number_at (encoded sa ca sb cb) 7 ≡ length ca
  length_ca = four_whole (length ca)

  first_is : capture_of ChannelA (encoded sa ca sb cb) ≡ ca
  first_is = take_at ca cb _ (sym length_ca)

  second_is : capture_of ChannelB (encoded sa ca sb cb) ≡ cb
  second_is = drop_at ca cb _ (sym length_ca)

  laid : laid_out (encoded sa ca sb cb) ≡ true
  laid =
      let a = accepted_short Counter ca fine_a in
      let b = accepted_short Log cb fine_b in
      let l = length-append ca cb in
      let n = length_ca in
      let m = four_whole (length cb) in
      grind (arith, nat_tests)

  side_fine : (side : Side) (s : Settings) (k : ℕ) (c d : List ℕ) → k ≡ s.calibration → c ≡ d → checked (kind_of side) d ≡ None → channel_refused side k s.nibbles c ≡ None
  side_fine side s k c d e f g =
      ap (λ z. or_else z (capture_refused side (checked (kind_of side) c))) (settings_fine side s k e)
      ∙ ap (λ z. capture_refused side (checked (kind_of side) z)) f ∙ ap (capture_refused side) g

  encoding_accepted : file_refused (encoded sa ca sb cb) ≡ None
  encoding_accepted =
      ap (λ b. cond b (or_else (side_refused ChannelA (encoded sa ca sb cb)) (side_refused ChannelB (encoded sa ca sb cb))) (Some Layout)) laid
      ∙ ap (λ z. or_else z (side_refused ChannelB (encoded sa ca sb cb)))
      (side_fine ChannelA sa _ _ ca (four_whole sa.calibration) first_is fine_a)
      ∙ side_fine ChannelB sb _ _ cb (four_whole sb.calibration) second_is fine_b

pub encodings_accepted : (xs : List ℕ) (r : Result UnitFile FileRefusal)
    → MatchResult r (λ u. FileRead xs u) (λ e. file_refused xs ≡ Some e) → EncodingsAccepted xs r
encodings_accepted xs (Err e) h sa ca sb cb fa fb is =
    let fine = encoding_accepted sa ca sb cb fa fb in
    let z : ◌≡◌ {A = ℕ} 0 1 = cc (ap file_refused is) in absurd (omega arith)
encodings_accepted xs (Ok u) h sa ca sb cb fa fb is =
    let g : FileRead (encoded sa ca sb cb) u = subst (λ (z : List ℕ). FileRead z u) is h in (
      (g.settings_a.calibration ∙ four_whole sa.calibration, g.settings_a.nibbles),
      g.read_a ∙ first_is sa ca sb cb fa fb,
      (g.settings_b.calibration ∙ four_whole sb.calibration, g.settings_b.nibbles),
      g.read_b ∙ second_is sa ca sb cb fa fb,
    )
