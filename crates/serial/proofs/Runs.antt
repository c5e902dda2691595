-- The law of a window over runs of frames: lawful lists joined are told whole, and nothing else is said.
use Rattle.std.proofs.Common.{◌≡◌, ℕ, zero, suc, ◌+◌, ◌-◌, ◌%◌, ◌<◌, ◌≤◌, true, T, List, [], ◌∷◌, ◌++◌, map, length, take, drop, replicate, is_some, Some, None, Option, sym, refl, ap, ◌∙◌, subst, ap₂, append_assoc, append-nil, mod-eq_of_lt, zero-add, arith, length-append, length-drop}
use native.Mathlib.Nat.{add-mod_left, add-mod_right, zero-mod, mod-add-mod}
use Rattle.std.proofs.ByRecursion.{All-push}
use Rattle.std.proofs.lemmas.List.{drop-drop, drop-append-le, drop_at, take_at, take-append-drop, take-map, drop-map, map-append, length-map}
use Rattle.std.proofs.lemmas.Simd.{map-map}
use Rattle.std.proofs.lemmas.Float.{T_from_true}
use Rattle.std.proofs.lemmas.Bool.{cond-false, cond-true, false_from_ne_true, true≢false}
use Rattle.serial.specs.declared.pair.Pair.{Pair}
use Rattle.serial.specs.declared.report.SerialReport.{SerialReport}
use Rattle.serial.specs.Format.{Format, LawfulFormat, joined, AllLawful}
use Rattle.serial.specs.Windows.{Kept, last, pairs_of, first_place, judged, reported}
use Rattle.serial.specs.Runs.{Came, kept_of, kept_after, answers, first_came, told_at, messages, JoinedListsToldWhole}
use Rattle.serial.proofs.Truths.{is_so}

-- what was kept of the last, and one more, is what is kept of all and that one
pub last_last : {X : Type 0} (n : ℕ) (zs : List X) (y : X) → 1 ≤ n → last n (last n zs ++ y ∷ []) ≡ last n (zs ++ y ∷ [])
last_last n zs y some =
    let all : List _ = zs ++ y ∷ [] in
    let k : ℕ = length zs - n in
    let la : length all ≡ length zs + 1 = length-append zs (y ∷ []) in
    let joins : last n zs ++ y ∷ [] ≡ drop k all = sym (drop-append-le k zs (y ∷ []) (omega arith)) in
    let ld : length (drop k all) ≡ length all - k = length-drop k all in
    ap (last n) joins ∙ drop-drop (length (drop k all) - n) k all ∙ ap (λ (i : ℕ). drop i all) (omega arith)

abbrev pub kepts : List Came → List Kept
kepts xs = map kept_of xs

abbrev pub pairs_came : List Came → List Pair
pairs_came xs = map (λ x. x.pair) xs

pub pairs_kepts : (xs : List Came) → pairs_of (kepts xs) ≡ pairs_came xs
pairs_kepts xs = map-map (λ k. k.pair) kept_of xs

first_kepts : (xs : List Came) → first_place (kepts xs) ≡ first_came xs
first_kepts [] = refl
first_kepts (x ∷ xs) = refl

first_take : (n : ℕ) (xs : List Came) → 1 ≤ n → first_came (take n xs) ≡ first_came xs
first_take zero xs h = absurd (omega arith)
first_take (suc n) [] h = refl
first_take (suc n) (x ∷ xs) h = refl

joined_push : (ls : List (List Pair)) (l : List Pair) → joined (ls ++ l ∷ []) ≡ joined ls ++ l
joined_push [] l = append-nil l
joined_push (k ∷ ls) l = ap (λ (ps : List Pair). k ++ ps) (joined_push ls l) ∙ sym (append_assoc k (joined ls) l)

told_judged : {M : Type 0} (o : Option M) (place event : ℕ) → is_some o ≡ true → Some (judged o place event) ≡ told_at place o
told_judged (Some m) place event e = refl
told_judged None place event e = absurd (true≢false (sym e))

-- past whole groups of n, some more but not n of them leave a remainder
pub remains : (n i r : ℕ) → i % n ≡ 0 → 1 ≤ r → r < n → (i + r) % n ≡ 0 → ⊥
remains n i r whole some few e =
    let left : r ≡ (i + r) % n =
    sym (mod-eq_of_lt few) ∙ ap (λ (k : ℕ). k % n) (sym (zero-add r)) ∙ ap (λ (k : ℕ). (k + r) % n) (sym whole) ∙ mod-add-mod i n r in
    omega arith

module _ {M : Type 0} (f : Format M) (law : LawfulFormat f) where
  whole : (l : List Pair) → T (f.lawful l) → length l ≡ f.size
  whole l t = law.framed_in_length l (law.lawful_is_framed l t)

  length_joined : (ls : List (List Pair)) → AllLawful f ls → length (joined ls) % f.size ≡ 0
  length_joined [] all = zero-mod f.size
  length_joined (l ∷ ls) all =
      ap (λ (t : ℕ). t % f.size) (length-append l (joined ls) ∙ ap (λ (t : ℕ). t + length (joined ls)) (whole l all.0))
      ∙ add-mod_left f.size (length (joined ls)) ∙ length_joined ls all.1

  -- what is kept looks, to the next window, like all that came
  abbrev Like : List Kept → List Kept → Type 0
  Like ks all = (y : Kept) → last f.size (ks ++ y ∷ []) ≡ last f.size (all ++ y ∷ [])

  like_more : (ks all : List Kept) (x : Came) → Like ks all → Like (kept_after f ks x) (all ++ kept_of x ∷ [])
  like_more ks all x like y =
      ap (λ (zs : List Kept). last f.size (zs ++ y ∷ [])) (like (kept_of x)) ∙ last_last f.size (all ++ kept_of x ∷ []) y law.at_least_one

  abbrev after : List Kept → List Came → List Kept
  after ks [] = ks
  after ks (x ∷ xs) = after (kept_after f ks x) xs

  like_after : (ks all : List Kept) (xs : List Came) → Like ks all → Like (after ks xs) (all ++ kepts xs)
  like_after ks all [] like = subst (Like ks) (sym (append-nil all)) like
  like_after ks all (x ∷ xs) like =
      subst (Like (after (kept_after f ks x) xs)) (append_assoc all (kept_of x ∷ []) (kepts xs))
      (like_after (kept_after f ks x) (all ++ kept_of x ∷ []) xs (like_more ks all x like))

  answers_append : (ks : List Kept) (xs ys : List Came) → answers f ks (xs ++ ys) ≡ answers f ks xs ++ answers f (after ks xs) ys
  answers_append ks [] ys = refl
  answers_append ks (x ∷ xs) ys =
      ap (λ (rs : List (Option (SerialReport M))). reported f (kept_after f ks x) x.event ∷ rs) (answers_append (kept_after f ks x) xs ys)

  -- the window once some pairs of a list came, but not all of them
  within_list : (ds : List (List Pair)) (a b : List Pair) → AllLawful f ds → T (f.lawful (a ++ b)) → 1 ≤ length a → length a < f.size
      → T (f.framed (last f.size (joined ds ++ a))) → ⊥
  within_list ds a b all t some few m =
      let n : ℕ = f.size in
      let seen : List Pair = joined ds ++ a in
      let i : ℕ = length seen - n in
      let ls : length seen ≡ length (joined ds) + length a = length-append (joined ds) a in
      let full : length (drop i seen) ≡ n = law.framed_in_length (drop i seen) m in
      let ld : length (drop i seen) ≡ length seen - i = length-drop i seen in
      let more : joined (ds ++ (a ++ b) ∷ []) ≡ seen ++ b = joined_push ds (a ++ b) ∙ sym (append_assoc (joined ds) a b) in
      let lm : length (seen ++ b) ≡ length seen + length b = length-append seen b in
      let lj : length (joined (ds ++ (a ++ b) ∷ [])) ≡ length (seen ++ b) = ap length more in
      let n0 : 1 ≤ n = law.at_least_one in
      let window : take n (drop i (joined (ds ++ (a ++ b) ∷ []))) ≡ drop i seen =
      ap (λ (ps : List Pair). take n (drop i ps)) more ∙ ap (take n) (drop-append-le i seen b (omega arith)) ∙ take_at (drop i seen) b n full in
      let same : length (joined ds) + length a ≡ i + n = omega arith in
      law.apart (ds ++ (a ++ b) ∷ []) (All-push (λ l. T (f.lawful l)) ds (a ++ b) all t) i
      (λ e. remains n (length (joined ds)) (length a) (length_joined ds all) some few (ap (λ (k : ℕ). k % n) same ∙ add-mod_right i n ∙ e))
      (omega arith)
      (subst (λ (ps : List Pair). T (f.framed ps)) (sym window) m)

  module _ (ds : List (List Pair)) (done : List Came) (all : AllLawful f ds) (came : pairs_came done ≡ joined ds) where
    -- what the window shows once pre came of the next list
    shown : (pre : List Came) → pairs_of (last f.size (kepts done ++ kepts pre)) ≡ last f.size (joined ds ++ pairs_came pre)
    shown pre =
        let ks : List Kept = kepts done ++ kepts pre in
        let e : pairs_of ks ≡ joined ds ++ pairs_came pre = map-append (λ k. k.pair) (kepts done) (kepts pre) ∙ ap₂ (λ (x y : List Pair). x ++ y) (pairs_kepts done ∙ came) (pairs_kepts pre) in
        sym (drop-map (λ k. k.pair) (length ks - f.size) ks)
        ∙ ap (λ (j : ℕ). drop (j - f.size) (pairs_of ks)) (sym (length-map ks (λ k. k.pair)))
        ∙ ap (last f.size) e

    -- the next pair of the list
    pushed : (pre : List Came) (x : Came) → (kepts done ++ kepts pre) ++ kept_of x ∷ [] ≡ kepts done ++ kepts (pre ++ x ∷ [])
    pushed pre x = append_assoc (kepts done) (kepts pre) (kept_of x ∷ []) ∙ ap (λ (ks : List Kept). kepts done ++ ks) (sym (map-append kept_of pre (x ∷ [])))

    -- at the last pair the message is told
    told_last : (pre : List Came) (event : ℕ) (l : List Pair) → T (f.lawful l) → pairs_came pre ≡ l → reported f (last f.size (kepts done ++ kepts pre)) event ≡ told_at (first_came pre) (f.told l)
    told_last pre event l t e =
        let ks : List Kept = kepts pre in
        let le : length l ≡ f.size = whole l t in
        let lk : length ks ≡ length pre = length-map pre kept_of in
        let lc : length (pairs_came pre) ≡ length pre = length-map pre (λ x. x.pair) in
        let le' : length (pairs_came pre) ≡ length l = ap length e in
        let la : length (kepts done ++ ks) ≡ length (kepts done) + length ks = length-append (kepts done) ks in
        let is : last f.size (kepts done ++ ks) ≡ ks = drop_at (kepts done) ks (length (kepts done ++ ks) - f.size) (omega arith) in
        let ps : pairs_of ks ≡ l = pairs_kepts pre ∙ e in
        let framed : f.framed (pairs_of ks) ≡ true = is_so (f.framed (pairs_of ks)) (subst (λ (qs : List Pair). T (f.framed qs)) (sym ps) (law.lawful_is_framed l t)) in
        let some : is_some (f.told l) ≡ true = sym (law.lawful_is_told l) ∙ is_so (f.lawful l) t in
        ap (λ (zs : List Kept). reported f zs event) is
        ∙ cond-true (f.framed (pairs_of ks)) _ _ framed
        ∙ ap₂ (λ (qs : List Pair) (n : ℕ). Some (judged (f.told qs) n event)) ps (first_kepts pre)
        ∙ told_judged (f.told l) (first_came pre) event some

    -- before the last pair nothing is said
    silent : (pre post : List Came) (event : ℕ) → T (f.lawful (pairs_came pre ++ pairs_came post)) → 1 ≤ length pre → length pre < f.size
        → reported f (last f.size (kepts done ++ kepts pre)) event ≡ None
    silent pre post event t some few =
        let ks : List Kept = last f.size (kepts done ++ kepts pre) in
        let lc : length (pairs_came pre) ≡ length pre = length-map pre (λ x. x.pair) in
        cond-false (f.framed (pairs_of ks)) _ _
        (false_from_ne_true (f.framed (pairs_of ks))
        (λ e. within_list ds (pairs_came pre) (pairs_came post) all t (omega arith) (omega arith) (subst (λ (ps : List Pair). T (f.framed ps)) (shown pre) (T_from_true (f.framed (pairs_of ks)) e))))

    walk : (pre post : List Came) (x : Came) (ks : List Kept) (l : List Pair) → T (f.lawful l) → pairs_came (pre ++ x ∷ post) ≡ l → Like ks (kepts done ++ kepts pre)
        → answers f ks (x ∷ post) ≡ replicate (length post) None ++ told_at (first_came (pre ++ x ∷ post)) (f.told l) ∷ []
    walk pre [] x ks l t e like =
        ap (λ (r : Option (SerialReport M)). r ∷ [])
        (ap (λ (zs : List Kept). reported f zs x.event) (like (kept_of x) ∙ ap (last f.size) (pushed pre x)) ∙ told_last (pre ++ x ∷ []) x.event l t e)
    walk pre (y ∷ post) x ks l t e like =
        let next : List Came = pre ++ x ∷ [] in
        let assoc : next ++ y ∷ post ≡ pre ++ x ∷ y ∷ post = append_assoc pre (x ∷ []) (y ∷ post) in
        let e' : pairs_came (next ++ y ∷ post) ≡ l = ap pairs_came assoc ∙ e in
        let parts : pairs_came next ++ pairs_came (y ∷ post) ≡ l = sym (map-append (λ x. x.pair) next (y ∷ post)) ∙ e' in
        let ln : length next ≡ length pre + 1 = length-append pre (x ∷ []) in
        let lc : length (pairs_came (next ++ y ∷ post)) ≡ length (next ++ y ∷ post) = length-map (next ++ y ∷ post) (λ x. x.pair) in
        let la : length (next ++ y ∷ post) ≡ length next + length (y ∷ post) = length-append next (y ∷ post) in
        let le : length (pairs_came (next ++ y ∷ post)) ≡ length l = ap length e' in
        let lw : length l ≡ f.size = whole l t in
        let here : reported f (kept_after f ks x) x.event ≡ None =
        ap (λ (zs : List Kept). reported f zs x.event) (like (kept_of x) ∙ ap (last f.size) (pushed pre x))
        ∙ silent next (y ∷ post) x.event (subst (λ (ps : List Pair). T (f.lawful ps)) (sym parts) t) (omega arith) (omega arith) in
        let rest = walk next post y (kept_after f ks x) l t e' (subst (Like (kept_after f ks x)) (pushed pre x) (like_more ks (kepts done ++ kepts pre) x like)) in
        ap₂ (λ (r : Option (SerialReport M)) (rs : List (Option (SerialReport M))). r ∷ rs) here
        (rest ∙ ap (λ (zs : List Came). replicate (length post) None ++ told_at (first_came zs) (f.told l) ∷ []) assoc)

    one_list : (ys : List Came) (ks : List Kept) (l : List Pair) → T (f.lawful l) → pairs_came ys ≡ l → Like ks (kepts done)
        → answers f ks ys ≡ replicate (f.size - 1) None ++ told_at (first_came ys) (f.told l) ∷ []
    one_list [] ks l t e like =
        let z : length {A = Pair} [] ≡ length l = ap length e in
        let lw : length l ≡ f.size = whole l t in
        let n0 : 1 ≤ f.size = law.at_least_one in
        absurd (omega arith)
    one_list (x ∷ post) ks l t e like =
        let le : length (pairs_came (x ∷ post)) ≡ length l = ap length e in
        let lc : length (pairs_came (x ∷ post)) ≡ length (x ∷ post) = length-map (x ∷ post) (λ x. x.pair) in
        let lw : length l ≡ f.size = whole l t in
        let n : length post ≡ f.size - 1 = omega arith in
        walk [] post x ks l t e (subst (Like ks) (sym (append-nil (kepts done))) like)
        ∙ ap (λ (j : ℕ). replicate j None ++ told_at x.place (f.told l) ∷ []) n

  run : (ls ds : List (List Pair)) (done xs : List Came) (ks : List Kept) → AllLawful f ls → AllLawful f ds → pairs_came done ≡ joined ds → pairs_came xs ≡ joined ls → Like ks (kepts done)
      → answers f ks xs ≡ messages f ls xs
  run [] ds done [] ks all all' came e like = refl
  run [] ds done (x ∷ xs) ks all all' came e like = cc
  run (l ∷ ls) ds done xs ks all all' came e like =
      let n : ℕ = f.size in
      let lw : length l ≡ n = whole l all.0 in
      let ys : List Came = take n xs in
      let zs : List Came = drop n xs in
      let ey : pairs_came ys ≡ l = sym (take-map (λ x. x.pair) n xs) ∙ ap (take n) e ∙ take_at l (joined ls) n lw in
      let ez : pairs_came zs ≡ joined ls = sym (drop-map (λ x. x.pair) n xs) ∙ ap (drop n) e ∙ drop_at l (joined ls) n lw in
      let came' : pairs_came (done ++ ys) ≡ joined (ds ++ l ∷ []) = map-append (λ x. x.pair) done ys ∙ ap₂ (λ (a b : List Pair). a ++ b) came ey ∙ sym (joined_push ds l) in
      let like' : Like (after ks ys) (kepts (done ++ ys)) = subst (Like (after ks ys)) (sym (map-append kept_of done ys)) (like_after ks (kepts done) ys like) in
      let rest : answers f (after ks ys) zs ≡ messages f ls zs =
      run ls (ds ++ l ∷ []) (done ++ ys) zs (after ks ys) all.1 (All-push (λ l. T (f.lawful l)) ds l all' all.0) came' ez like' in
      let first : answers f ks ys ≡ replicate (n - 1) None ++ told_at (first_came xs) (f.told l) ∷ [] =
      one_list ds done all' came ys ks l all.0 ey like
      ∙ ap (λ (p : ℕ). replicate (n - 1) None ++ told_at p (f.told l) ∷ []) (first_take n xs law.at_least_one) in
      ap (answers f ks) (sym (take-append-drop n xs)) ∙ answers_append ks ys zs ∙ ap₂ (λ (a b : List (Option (SerialReport M))). a ++ b) first rest

  pub joined_lists_told_whole : JoinedListsToldWhole f
  joined_lists_told_whole ls all xs e = run ls [] [] xs [] all tt refl e (λ y. refl)
