-- The messages that frames tell one after the other, window by window. Of those that start at a place or later, only the windows
-- of frames that start there or later tell some.
use Rattle.std.proofs.Common.{◌≡◌, ℕ, suc, ◌+◌, ◌-◌, ◌<◌, ◌≤◌, true, false, cond, leb, List, [], ◌∷◌, ◌++◌, length, take, drop, Some, None, Option, sym, refl, ap, ◌∙◌, subst, ap₂, inl, inr, append_assoc, arith, length-append, length-drop}
use Rattle.std.proofs.lemmas.List.{drop-drop, drop-append-le, drop_at, take_at, length-map}
use Rattle.std.proofs.ByRecursion.{All-push, All-drop}
use Rattle.std.proofs.lemmas.Float.{T_from_true}
use Rattle.std.proofs.lemmas.Bool.{cond-true, cond-false, cond_both, cases_lt, le-leb, lt-leb}
use Rattle.serial.specs.Format.{Format, LawfulFormat}
use Rattle.serial.specs.Windows.{Kept, last, pairs_of, first_place}
use Rattle.serial.proofs.Runs.{last_last}
use Rattle.runs.specs.Traces.{Placed}
use Rattle.runs.specs.Law.{placed, starting_from}
use Rattle.runs.proofs.Places.{Earlier, Onward}
use Rattle.runs.proofs.Across.{across}

module _ {M : Type 0} (f : Format M) where
  -- the message that a window tells, if any
  abbrev pub told_by : List Kept → List (Placed M)
  told_by w = cond (f.framed (pairs_of w)) (placed (first_place w) (f.told (pairs_of w))) []

  -- that of the window that ends at the pair with the number j, if so many came
  abbrev pub told_at : List Kept → ℕ → List (Placed M)
  told_at all j = cond (leb f.size (suc j)) (told_by (take f.size (drop (suc j - f.size) all))) []

  -- the messages as pairs come, where some are kept
  abbrev pub told_along : List Kept → List Kept → List (Placed M)
  told_along ks [] = []
  told_along ks (x ∷ xs) = told_by (last f.size (ks ++ x ∷ [])) ++ told_along (last f.size (ks ++ x ∷ [])) xs

pub starting_append : {M : Type 0} (u : ℕ) (xs ys : List (Placed M)) → starting_from u (xs ++ ys) ≡ starting_from u xs ++ starting_from u ys
starting_append u [] ys = refl
starting_append {M} u (x ∷ xs) ys =
    let rest : starting_from u (xs ++ ys) ≡ starting_from u xs ++ starting_from u ys = starting_append u xs ys in
    elim (leb u x.place)
    as (λ b. cond b (x ∷ starting_from u (xs ++ ys)) (starting_from u (xs ++ ys)) ≡ cond b (x ∷ starting_from u xs) (starting_from u xs) ++ starting_from u ys)
    [ true ↦ ap (λ (zs : List (Placed M)). x ∷ zs) rest | false ↦ rest ]

starts : {M : Type 0} (u p : ℕ) (o : Option M) → u ≤ p → starting_from u (placed p o) ≡ placed p o
starts u p (Some m) h = cond-true (leb u p) _ _ (le-leb u p h)
starts u p None h = refl

starts_not : {M : Type 0} (u p : ℕ) (o : Option M) → p < u → starting_from u (placed p o) ≡ []
starts_not u p (Some m) h = cond-false (leb u p) _ _ (lt-leb u p h)
starts_not u p None h = refl

first_onward : (u : ℕ) (ks : List Kept) → 1 ≤ length ks → Onward u ks → u ≤ first_place ks
first_onward u [] l h = absurd (omega arith)
first_onward u (k ∷ ks) l h = h.0

first_earlier : (u : ℕ) (ks more : List Kept) → 1 ≤ length ks → Earlier u ks → first_place (ks ++ more) < u
first_earlier u [] more l h = absurd (omega arith)
first_earlier u (k ∷ ks) more l h = h.0

module _ {M : Type 0} (f : Format M) (law : LawfulFormat f) (u : ℕ) where
  -- a window of pairs from u on alone
  window_onward : (old new more : List Kept) → Onward u new → f.size ≤ length new
      → starting_from u (told_by f (last f.size (old ++ new))) ≡ told_by f (take f.size (drop (length new - f.size) (new ++ more)))
  window_onward old new more h l =
      let n : ℕ = f.size in
      let some : 1 ≤ n = law.at_least_one in
      let k : ℕ = length new - n in
      let w : List Kept = drop k new in
      let lw : length w ≡ length new - k = length-drop k new in
      let la : length (old ++ new) ≡ length old + length new = length-append old new in
      let shown : last n (old ++ new) ≡ w =
      ap (λ (i : ℕ). drop i (old ++ new)) (omega arith) ∙ sym (drop-drop k (length old) (old ++ new)) ∙ ap (drop k) (drop_at old new (length old) refl) in
      let stays : take n (drop k (new ++ more)) ≡ w = ap (take n) (drop-append-le k new more (omega arith)) ∙ take_at w more n (omega arith) in
      let p : u ≤ first_place w = first_onward u w (omega arith) (All-drop (λ x. u ≤ x.place) k new h) in
      ap (λ (i : List Kept). starting_from u (told_by f i)) shown
      ∙ cond_both (f.framed (pairs_of w)) _ _ (λ (rs : List (Placed M)). starting_from u rs ≡ rs) (λ _. starts u (first_place w) (f.told (pairs_of w)) p) (λ _. refl)
      ∙ ap (told_by f) (sym stays)

  -- a window that has an earlier pair, or is too short
  window_earlier : (old new : List Kept) → Earlier u old → length new < f.size → starting_from u (told_by f (last f.size (old ++ new))) ≡ []
  window_earlier old new h l =
      let n : ℕ = f.size in
      let all : List Kept = old ++ new in
      let k : ℕ = length all - n in
      let w : List Kept = drop k all in
      let la : length all ≡ length old + length new = length-append old new in
      cond_both (f.framed (pairs_of w)) _ _ (λ (rs : List (Placed M)). starting_from u rs ≡ [])
      (λ t.
      let lp : length (pairs_of w) ≡ n = law.framed_in_length (pairs_of w) (T_from_true (f.framed (pairs_of w)) t) in
      let lm : length (pairs_of w) ≡ length w = length-map w (λ x. x.pair) in
      let lw : length w ≡ length all - k = length-drop k all in
      let parts : w ≡ drop k old ++ new = drop-append-le k old new (omega arith) in
      let lo : length (drop k old) ≡ length old - k = length-drop k old in
      let p : first_place w < u =
      subst (λ (i : List Kept). first_place i < u) (sym parts) (first_earlier u (drop k old) new (omega arith) (All-drop (λ x. x.place < u) k old h)) in
      starts_not u (first_place w) (f.told (pairs_of w)) p)
      (λ _. refl)

  window_is : (old new more : List Kept) (j : ℕ) → length new ≡ suc j → Earlier u old → Onward u new
      → starting_from u (told_by f (last f.size (old ++ new))) ≡ told_at f (new ++ more) j
  window_is old new more j e h g =
      elim (cases_lt (suc j) f.size) [
        | inl l ↦ window_earlier old new h (omega arith) ∙ sym (cond-false (leb f.size (suc j)) _ _ (lt-leb f.size (suc j) l))
        | inr l ↦
            window_onward old new more g (omega arith)
            ∙ ap (λ (i : ℕ). told_by f (take f.size (drop (i - f.size) (new ++ more)))) e
            ∙ sym (cond-true (leb f.size (suc j)) _ _ (le-leb f.size (suc j) l))
      ]

  -- to the next window, what is kept looks like the old pairs and then those done
  pub along_is : (old done xs ks : List Kept) → ((y : Kept) → last f.size (ks ++ y ∷ []) ≡ last f.size (old ++ (done ++ y ∷ [])))
      → Earlier u old → Onward u done → Onward u xs
      → starting_from u (told_along f ks xs) ≡ across (told_at f (done ++ xs)) (length done) (length xs)
  along_is old done [] ks like h g o = refl
  along_is old done (x ∷ xs) ks like h g o =
      let n : ℕ = f.size in
      let next : List Kept = done ++ x ∷ [] in
      let ks' : List Kept = last n (ks ++ x ∷ []) in
      let new : Onward u next = All-push (λ y. u ≤ y.place) done x g o.0 in
      let len : length next ≡ length done + 1 = length-append done (x ∷ []) in
      let joins : next ++ xs ≡ done ++ x ∷ xs = append_assoc done (x ∷ []) xs in
      let like' : (y : Kept) → last n (ks' ++ y ∷ []) ≡ last n (old ++ (next ++ y ∷ [])) =
      λ y. ap (λ (i : List Kept). last n (i ++ y ∷ [])) (like x) ∙ last_last n (old ++ next) y law.at_least_one ∙ ap (last n) (append_assoc old next (y ∷ [])) in
      let here : starting_from u (told_by f ks') ≡ told_at f (done ++ x ∷ xs) (length done) =
      ap (λ (i : List Kept). starting_from u (told_by f i)) (like x) ∙ window_is old next xs (length done) (omega arith) h new
      ∙ ap (λ (i : List Kept). told_at f i (length done)) joins in
      let later : starting_from u (told_along f ks' xs) ≡ across (told_at f (done ++ x ∷ xs)) (suc (length done)) (length xs) =
      along_is old next xs ks' like' h new o.1 ∙ ap₂ (λ (i : List Kept) (j : ℕ). across (told_at f i) j (length xs)) joins (omega arith) in
      starting_append u (told_by f ks') (told_along f ks' xs) ∙ ap₂ (λ (i j : List (Placed M)). i ++ j) here later
