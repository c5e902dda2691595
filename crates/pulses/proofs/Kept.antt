-- The nibbles that a partial frame keeps.
use Rattle.std.proofs.Common.{◌≡◌, ℕ, zero, suc, ◌+◌, ◌≤◌, List, [], ◌∷◌, ◌++◌, length, get_or, take, drop, replicate, sym, refl, ap, subst, add-one, arith}
use Rattle.model.specs.declared.settings.Settings.{Settings}
use Rattle.pulses.specs.declared.interval.LastEdge.{LastEdge}
use Rattle.pulses.specs.declared.partial.Partial.{Partial}
use Rattle.pulses.specs.declared.state.State.{State}
use Rattle.pulses.specs.declared.state.State.TheVariants.{Inside}
use Rattle.pulses.specs.States.{count_of}
use Rattle.pulses.specs.Frames.{six}

-- zero from the place m on
abbrev pub Unused : ℕ → List ℕ → Type 0
Unused m ks = (i : ℕ) → m ≤ i → get_or ks i 0 ≡ 0

-- what the decoder's invariant says of a frame that is being received
pub inside_few : (s : Settings) {x : State} {l : LastEdge} {f : Partial} → x ≡ Inside l f → count_of x ≤ s.nibbles + 1 → f.count ≤ s.nibbles + 1
inside_few s e h = let P : State → Type 0 = λ y. count_of y ≤ s.nibbles + 1 in subst P e h

-- the nibbles in use behind the status nibble, as six
padded : (k j n : ℕ) (ks : List ℕ) → length ks ≡ k → n ≤ k → k ≤ j → Unused n ks → take k (take n ks ++ replicate j 0) ≡ ks
padded zero j n [] l h g u = refl
padded zero j n (x ∷ ks) l h g u = absurd (omega (arith, l))
padded (suc k) j n [] l h g u = absurd (omega (arith, l))
padded (suc k) zero n (x ∷ ks) l h g u = absurd (omega arith)
padded (suc k) (suc j) zero (x ∷ ks) l h g u =
    let z : x ≡ 0 = u 0 (omega arith) in
    let r : take k (replicate j 0) ≡ ks = padded k j 0 ks (omega (arith, l)) (omega arith) (omega arith) (λ i a. u (suc i) (omega arith)) in
    cc
padded (suc k) (suc j) (suc n) (x ∷ ks) l h g u =
    ap (λ (ys : List ℕ). x ∷ ys) (padded k (suc j) n ks (omega (arith, l)) (omega arith) (omega arith) (λ i a. u (suc i) (omega arith)))

pub six_taken : (m : ℕ) (ks : List ℕ) → length ks ≡ 7 → m ≤ 7 → Unused m ks → six (drop 1 (take m ks)) ≡ drop 1 ks
six_taken m [] l h u = absurd (omega (arith, l))
six_taken zero (x ∷ ks) l h u = padded 6 6 0 ks (omega (arith, l)) (omega arith) (omega arith) (λ i a. u (suc i) (omega arith))
six_taken (suc n) (x ∷ ks) l h u = padded 6 6 n ks (omega (arith, l)) (omega arith) (omega arith) (λ i a. u (suc i) (omega arith))

pub status_taken : (m : ℕ) (ks : List ℕ) → Unused m ks → get_or (take m ks) 0 0 ≡ get_or ks 0 0
status_taken zero ks u = sym (u 0 (omega arith))
status_taken (suc n) [] u = refl
status_taken (suc n) (x ∷ ks) u = refl

-- the data nibbles of a full frame
pub data_taken : (n m : ℕ) (ks : List ℕ) → m ≡ n + 1 → drop 1 (take m ks) ≡ take n (drop 1 ks)
data_taken n m ks e = rw (e, add-one) (behind_one n ks)
  where
    behind_one : (n : ℕ) (ks : List ℕ) → drop 1 (take (suc n) ks) ≡ take n (drop 1 ks)
    behind_one zero [] = refl
    behind_one (suc n) [] = refl
    behind_one n (x ∷ ks) = refl
