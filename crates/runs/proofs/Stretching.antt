-- Windows over a stretch of lawful lists joined: those that match are the lists that stand whole in it.
use Rattle.std.proofs.Common.{◌≡◌, ℕ, zero, suc, ◌+◌, ◌-◌, ◌%◌, ◌<◌, ◌≤◌, Bool, true, false, cond, ◌&&◌, T, leb, List, [], ◌∷◌, ◌++◌, map, length, get_or, take, drop, sym, refl, ap, ◌∙◌, ap₂, inl, inr, append-nil, arith, length-append, length-drop}
use native.Mathlib.Nat.{add-mod_right, zero-mod}
use Rattle.std.proofs.lemmas.List.{drop-drop, drop-append-le, drop_at, take_at, take-append-le, length-map, take-map, drop-map}
use Rattle.std.proofs.lemmas.Bool.{cond-true, cond-false, cond_both, cases_lt, le-leb, lt-leb, and_from, and_left, and_right}
use Rattle.serial.specs.declared.pair.Pair.{Pair}
use Rattle.serial.specs.Format.{Format, LawfulFormat, joined, AllLawful}
use Rattle.serial.specs.Windows.{Kept, pairs_of, first_place}
use Rattle.serial.proofs.Truths.{is_so}
use Rattle.serial.proofs.Runs.{remains}
use Rattle.runs.specs.Traces.{Placed}
use Rattle.runs.specs.Law.{placed, whole_messages}
use Rattle.runs.proofs.Across.{across, across_append, across_none, across_shifted}
use Rattle.runs.proofs.Windows.{told_at}

abbrev pub places_of : List Kept → List ℕ
places_of ks = map (λ k. k.place) ks

first_at : (i n : ℕ) (ks : List Kept) → 1 ≤ n → first_place (take n (drop i ks)) ≡ get_or (places_of ks) i 0
first_at zero zero ks h = absurd (omega arith)
first_at zero (suc n) [] h = refl
first_at zero (suc n) (k ∷ ks) h = refl
first_at (suc i) zero ks h = absurd (omega arith)
first_at (suc i) (suc n) [] h = refl
first_at (suc i) (suc n) (k ∷ ks) h = first_at i (suc n) ks h

never : (b : Bool) → (T b → ⊥) → b ≡ false
never true t = absurd (t tt)
never false t = refl

module _ {M : Type 0} (f : Format M) where
  -- the message of these pairs, if they match the framing, at a place
  abbrev message_at : List Pair → ℕ → List (Placed M)
  message_at ps p = cond (f.framed ps) (placed p (f.told ps)) []

  -- that of the pairs of J which end before the pair with the number k, if they all lie in the stretch from the number `from` on
  abbrev ending : List Pair → ℕ → List ℕ → ℕ → List (Placed M)
  ending J from places k =
      cond (leb (from + f.size) k && leb k (from + length places)) (message_at (take f.size (drop (k - f.size) J)) (get_or places (k - f.size - from) 0)) []

  ending_too_soon : (J : List Pair) (from : ℕ) (places : List ℕ) (k : ℕ) → k < from + f.size → ending J from places k ≡ []
  ending_too_soon J from places k h =
      cond-false (leb (from + f.size) k && leb k (from + length places)) _ _ (and_left (leb (from + f.size) k) _ (lt-leb (from + f.size) k h))

  ending_too_late : (J : List Pair) (from : ℕ) (places : List ℕ) (k : ℕ) → from + length places < k → ending J from places k ≡ []
  ending_too_late J from places k h =
      cond-false (leb (from + f.size) k && leb k (from + length places)) _ _ (and_right (leb (from + f.size) k) _ (lt-leb k (from + length places) h))

  module _ (law : LawfulFormat f) (ks : List Kept) (pre post J : List Pair) (lies : J ≡ pre ++ (pairs_of ks ++ post)) where
    -- a window of the pairs that came is a window of the joining
    shows : (j : ℕ) → j < length ks → told_at f ks j ≡ ending J (length pre) (places_of ks) (suc (length pre) + j)
    shows j h =
        let n : ℕ = f.size in
        let some : 1 ≤ n = law.at_least_one in
        let from : ℕ = length pre in
        let places : List ℕ = places_of ks in
        let lx : length places ≡ length ks = length-map ks (λ k. k.place) in
        let lp : length (pairs_of ks) ≡ length ks = length-map ks (λ k. k.pair) in
        elim (cases_lt (suc j) n) [
          | inl l ↦ cond-false (leb n (suc j)) _ _ (lt-leb n (suc j) l) ∙ sym (ending_too_soon J from places (suc from + j) (omega arith))
          | inr l ↦
              let i : ℕ = suc j - n in
              let ld : length (drop i (pairs_of ks)) ≡ length (pairs_of ks) - i = length-drop i (pairs_of ks) in
              let at : suc from + j - n ≡ from + i = omega arith in
              let back : suc from + j - n - from ≡ i = omega arith in
              let window : take n (drop (suc from + j - n) J) ≡ pairs_of (take n (drop i ks)) =
              ap₂ (λ (a : ℕ) (ps : List Pair). take n (drop a ps)) at lies
              ∙ ap (take n) (sym (drop-drop i from (pre ++ (pairs_of ks ++ post))) ∙ ap (drop i) (drop_at pre (pairs_of ks ++ post) from refl) ∙ drop-append-le i (pairs_of ks) post (omega arith))
              ∙ take-append-le n (drop i (pairs_of ks)) post (omega arith)
              ∙ ap (take n) (drop-map (λ k. k.pair) i ks) ∙ take-map (λ k. k.pair) n (drop i ks) in
              cond-true (leb n (suc j)) _ _ (le-leb n (suc j) l)
              ∙ ap₂ (λ (ps : List Pair) (p : ℕ). message_at ps p) (sym window) (first_at i n ks some ∙ ap (λ (a : ℕ). get_or places a 0) (sym back))
              ∙ sym (cond-true (leb (from + n) (suc from + j) && leb (suc from + j) (from + length places)) _ _
              (and_from (leb (from + n) (suc from + j)) _ (le-leb (from + n) (suc from + j) (omega arith)) (le-leb (suc from + j) (from + length places) (omega arith))))
        ]

    -- only the windows of the pairs that came lie in the stretch
    windows_are : across (ending J (length pre) (places_of ks)) 1 (length J) ≡ across (told_at f ks) 0 (length ks)
    windows_are =
        let n : ℕ = f.size in
        let some : 1 ≤ n = law.at_least_one in
        let from : ℕ = length pre in
        let places : List ℕ = places_of ks in
        let g : ℕ → List (Placed M) = ending J from places in
        let lx : length places ≡ length ks = length-map ks (λ k. k.place) in
        let lp : length (pairs_of ks) ≡ length ks = length-map ks (λ k. k.pair) in
        let lj : length J ≡ from + (length ks + length post) =
        ap length lies ∙ length-append pre (pairs_of ks ++ post) ∙ ap (λ (i : ℕ). from + i) (length-append (pairs_of ks) post ∙ ap (λ (i : ℕ). i + length post) lp) in
        ap (across g 1) lj
        ∙ across_append g 1 from (length ks + length post)
        ∙ ap₂ (λ (xs ys : List (Placed M)). xs ++ ys)
        (across_none g 1 from (λ i a b. ending_too_soon J from places i (omega arith)))
        (across_append g (1 + from) (length ks) (length post)
        ∙ ap₂ (λ (xs ys : List (Placed M)). xs ++ ys)
        (ap (λ (i : ℕ). across g i (length ks)) (omega arith) ∙ sym (across_shifted (told_at f ks) g (suc from) 0 (length ks) (λ i a b. shows i (omega arith))))
        (across_none g (1 + from + length ks) (length post) (λ i a b. ending_too_late J from places i (omega arith))))
        ∙ append-nil (across (told_at f ks) 0 (length ks))

  module _ (law : LawfulFormat f) (ls : List (List Pair)) (all : AllLawful f ls) (from : ℕ) (places : List ℕ) where
    -- a window that ends inside a list does not match
    inside_none : (k : ℕ) → k ≤ length (joined ls) → (k % f.size ≡ 0 → ⊥) → ending (joined ls) from places k ≡ []
    inside_none k h off =
        let n : ℕ = f.size in
        elim (cases_lt k (from + n)) [
          | inl l ↦ ending_too_soon (joined ls) from places k l
          | inr l ↦
              let i : ℕ = k - n in
              let ends : i + n ≡ k = omega arith in
              let no : f.framed (take n (drop i (joined ls))) ≡ false =
              never (f.framed (take n (drop i (joined ls)))) (law.apart ls all i (λ z. off (ap (λ (a : ℕ). a % n) (sym ends) ∙ add-mod_right i n ∙ z)) (omega arith)) in
              cond_both (leb (from + n) k && leb k (from + length places)) _ _ (λ (rs : List (Placed M)). rs ≡ [])
              (λ _. cond-false (f.framed (take n (drop i (joined ls)))) _ _ no) (λ _. refl)
        ]

    -- the list that starts at the number i ends within the stretch from `from` on if it starts there
    same_test : (i : ℕ) (xs ys : List (Placed M)) → xs ≡ ys
        → cond (leb (from + f.size) (i + f.size) && leb (i + f.size) (from + length places)) xs [] ≡ cond (leb from i && leb (i + f.size) (from + length places)) ys []
    same_test i xs ys e =
        let n : ℕ = f.size in
        let b : leb (from + n) (i + n) ≡ leb from i =
        elim (cases_lt i from) [
          | inl l ↦ lt-leb (from + n) (i + n) (omega arith) ∙ sym (lt-leb from i l)
          | inr l ↦ le-leb (from + n) (i + n) (omega arith) ∙ sym (le-leb from i l)
        ] in
        ap₂ (λ (a : Bool) (zs : List (Placed M)). cond (a && leb (i + n) (from + length places)) zs []) b e

    -- list by list, the first of those left starting at the number i
    by_lists : (left : List (List Pair)) (i : ℕ) → AllLawful f left → drop i (joined ls) ≡ joined left → i + length (joined left) ≡ length (joined ls) → i % f.size ≡ 0
        → whole_messages f from places i left ≡ across (ending (joined ls) from places) (suc i) (length (joined left))
    by_lists [] i a e len whole = refl
    by_lists (l ∷ left) i a e len whole =
        let n : ℕ = f.size in
        let some : 1 ≤ n = law.at_least_one in
        let J : List Pair = joined ls in
        let g : ℕ → List (Placed M) = ending J from places in
        let framed : f.framed l ≡ true = is_so (f.framed l) (law.lawful_is_framed l a.0) in
        let ll : length l ≡ n = law.framed_in_length l (law.lawful_is_framed l a.0) in
        let la : length (l ++ joined left) ≡ length l + length (joined left) = length-append l (joined left) in
        let mine : take n (drop (i + n - n) J) ≡ l = ap (λ (k : ℕ). take n (drop k J)) (omega arith) ∙ ap (take n) e ∙ take_at l (joined left) n ll in
        let back : i + n - n - from ≡ i - from = omega arith in
        let here : g (i + n) ≡ cond (leb from i && leb (i + length l) (from + length places)) (placed (get_or places (i - from) 0) (f.told l)) [] =
        same_test i _ _ (ap₂ (λ (ps : List Pair) (k : ℕ). message_at ps (get_or places k 0)) mine back ∙ cond-true (f.framed l) _ _ framed)
        ∙ ap (λ (k : ℕ). cond (leb from i && leb (i + k) (from + length places)) (placed (get_or places (i - from) 0) (f.told l)) []) (sym ll) in
        let within : across g (suc i) (n - 1) ≡ [] =
        across_none g (suc i) (n - 1)
        (λ k b c.
        let r : ℕ = k - i in
        let is : k ≡ i + r = omega arith in
        inside_none k (omega arith) (λ q. remains n i r whole (omega arith) (omega arith) (ap (λ (x : ℕ). x % n) (sym is) ∙ q))) in
        let one : across g (suc i) (length l) ≡ g (i + n) =
        ap (across g (suc i)) (omega arith) ∙ across_append g (suc i) (n - 1) 1
        ∙ ap₂ (λ (xs ys : List (Placed M)). xs ++ ys) within (append-nil (g (suc i + (n - 1))) ∙ ap g (omega arith)) in
        let later =
        by_lists left (i + length l) a.1 (sym (drop-drop (length l) i J) ∙ ap (drop (length l)) e ∙ drop_at l (joined left) (length l) refl) (omega arith)
        (ap (λ (k : ℕ). (i + k) % n) ll ∙ add-mod_right i n ∙ whole) in
        let next : suc i + length l ≡ suc (i + length l) = omega arith in
        sym (ap (across g (suc i)) la ∙ across_append g (suc i) (length l) (length (joined left))
        ∙ ap (λ (k : ℕ). across g (suc i) (length l) ++ across g k (length (joined left))) next
        ∙ ap₂ (λ (xs ys : List (Placed M)). xs ++ ys) (one ∙ here) (sym later))

  -- the windows of a stretch tell the messages of the lists that stand whole in it
  pub stretch_told : (law : LawfulFormat f) (ls : List (List Pair)) → AllLawful f ls → (ks : List Kept) (pre post : List Pair) → joined ls ≡ pre ++ (pairs_of ks ++ post)
      → across (told_at f ks) 0 (length ks) ≡ whole_messages f (length pre) (places_of ks) 0 ls
  stretch_told law ls all ks pre post lies =
      sym (windows_are law ks pre post (joined ls) lies)
      ∙ sym (by_lists law ls all (length pre) (places_of ks) ls 0 all refl (omega arith) (zero-mod f.size))
