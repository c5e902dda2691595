-- The four-bit check finds a change of one nibble, and of two neighbours by at most one each.
-- Its strength lies in the table: the entries of two values differ, and those of values that differ by a slight change differ by more than one.
use Rattle.std.proofs.Common.{◌≡◌, ℕ, ◌+◌, ◌<◌, Bool, cond, true, ◌&&◌, ◌||◌, eqb, leb, List, [], ◌∷◌, ◌++◌, length, refl, inl, inr, arith, lit<}
use lib.Bits.{bit_xor, xor_comm, xor_assoc, xor_self, xor_zero_r}
use Rattle.std.proofs.lemmas.Nat.{xor_lt}
use Rattle.std.proofs.lemmas.List.{same_from_push}
use Rattle.std.proofs.lemmas.Bool.Decides.{nat_tests}
use Rattle.checks.specs.Checks.{entry, check, check4}
use Rattle.checks.specs.Found.{Nibbles, Near, OneChanged, MovedFirst, MovedNeighbours, OneChangedNibbleFound, MovedNeighboursFound}
use Rattle.checks.proofs.Upto.{upto, upto_at}
use Rattle.checks.proofs.Width.{crossed, entry_below, check_below}

pub check4_below : (vs : List ℕ) → Nibbles vs → check4 vs < 16
unfolding check4
check4_below vs small = check_below 4 0b1101 5 vs (lit< tt) (lit< tt) small

at_pair : (f : ℕ → ℕ → Bool) → upto 16 (λ x. upto 16 (f x)) ≡ true → (x y : ℕ) → x < 16 → y < 16 → f x y ≡ true
at_pair f t x y h g = upto_at 16 (f x) (upto_at 16 (λ x. upto 16 (f x)) t x h) y g

abbrev implies : Bool → Bool → Bool
implies a b = cond a b true

abbrev near : ℕ → ℕ → Bool
near a b = leb a (b + 1) && leb b (a + 1)

-- the XOR of two nibbles that differ by at most one
abbrev slight : ℕ → Bool
slight x = eqb x 0 || eqb x 1 || eqb x 3 || eqb x 7 || eqb x 15

-- the entry at a value of four bits
abbrev at : ℕ → ℕ
at x = entry 4 0b1101 x

abbrev slight_at : ℕ → ℕ → Bool
slight_at a b = implies (near a b) (slight (bit_xor a b))

slight_test : upto 16 (λ a. upto 16 (slight_at a)) ≡ true
slight_test = refl

abbrev once_at : ℕ → ℕ → Bool
once_at x y = implies (eqb (at x) (at y)) (eqb x y)

once_test : upto 16 (λ x. upto 16 (once_at x)) ≡ true
unfolding entry
once_test = refl

-- after a slight change of a nibble the entries differ by more than a slight change
abbrev wide_at : ℕ → ℕ → ℕ → Bool
wide_at s a b = implies (near a b && slight (bit_xor (at (bit_xor s a)) (at (bit_xor s b)))) (eqb a b)

wide_test : upto 16 (λ s. upto 16 (λ a. upto 16 (wide_at s a))) ≡ true
unfolding entry
wide_test = refl

xor_undo : (a b : ℕ) → bit_xor (bit_xor a b) b ≡ a
xor_undo a b = simp (xor_assoc, xor_self, xor_zero_r)

xor_cancel : (a b c : ℕ) → bit_xor a c ≡ bit_xor b c → a ≡ b
xor_cancel a b c e = cc (xor_undo a c, xor_undo b c)

xor_cancel_left : (a b c : ℕ) → bit_xor c a ≡ bit_xor c b → a ≡ b
xor_cancel_left a b c e = xor_cancel a b c (cc (xor_comm a c, xor_comm b c))

xor_moved : (y z b d : ℕ) → bit_xor y b ≡ bit_xor z d → bit_xor y z ≡ bit_xor b d
xor_moved y z b d e = xor_cancel (bit_xor y z) (bit_xor b d) (bit_xor b d) (cc (crossed y z b d, xor_self (bit_xor z d), xor_self (bit_xor b d)))

at_below : (x : ℕ) → x < 16 → at x < 16
at_below x h = entry_below 4 0b1101 x (lit< tt) h

below : (x v : ℕ) → x < 16 → v < 16 → bit_xor (at x) v < 16
below x v h g = xor_lt 4 (at x) v (at_below x h) g

once : (x y : ℕ) → x < 16 → y < 16 → at x ≡ at y → x ≡ y
once x y h g e = let t = at_pair once_at once_test x y h g in grind (arith, nat_tests, t)

near_slight : (a b : ℕ) → a < 16 → b < 16 → Near a b → slight (bit_xor a b) ≡ true
near_slight a b h g r = let t = at_pair slight_at slight_test a b h g in grind (arith, nat_tests, t)

wide : (s a b : ℕ) → s < 16 → a < 16 → b < 16 → Near a b → slight (bit_xor (at (bit_xor s a)) (at (bit_xor s b))) ≡ true → a ≡ b
wide s a b h g i r t =
    let u = at_pair (wide_at s) (upto_at 16 (λ s. upto 16 (λ a. upto 16 (wide_at s a))) wide_test s h) a b g i in grind (arith, nat_tests, u)

-- the check from a value on
abbrev from : ℕ → List ℕ → ℕ
from x vs = check 4 0b1101 x vs

-- nibbles with their check from a value on
abbrev closed : ℕ → List ℕ → List ℕ
closed x vs = vs ++ from x vs ∷ []

-- the way through the same nibbles loses nothing
from_once : (vs : List ℕ) (x y : ℕ) → Nibbles vs → x < 16 → y < 16 → from x vs ≡ from y vs → x ≡ y
from_once [] x y s h g e = once x y h g e
from_once (v ∷ vs) x y s h g e =
    once x y h g (xor_cancel (at x) (at y) v (from_once vs (bit_xor (at x) v) (bit_xor (at y) v) s.1 (below x v h s.0) (below y v g s.0) e))

-- the first nibble alone may be another, and the rest with the check is the same: then it is no other
first_found : (x v w : ℕ) (vs ws : List ℕ) → x < 16 → v < 16 → w < 16 → Nibbles vs → closed (bit_xor (at x) v) vs ≡ closed (bit_xor (at x) w) ws → (v ≡ w) × (vs ≡ ws)
first_found x v w vs ws h hv hw s e =
    let p = same_from_push vs ws (from (bit_xor (at x) v) vs) (from (bit_xor (at x) w) ws) e in
    (xor_cancel_left v w (at x) (from_once vs (bit_xor (at x) v) (bit_xor (at x) w) s (below x v h hv) (below x w h hw) (cc)), p.0)

one_found : (vs ws : List ℕ) (x : ℕ) → x < 16 → Nibbles vs → Nibbles ws → length vs ≡ length ws → OneChanged (closed x vs) (closed x ws) → ws ≡ vs
one_found [] [] x h s d l e = refl
one_found [] (w ∷ ws) x h s d l e = absurd (omega arith)
one_found (v ∷ vs) [] x h s d l e = absurd (omega arith)
one_found (v ∷ vs) (w ∷ ws) x h s d l e =
    elim e [
      | inl p ↦ let t = rw (← p.0) at p.1 in cc (one_found vs ws (bit_xor (at x) v) (below x v h s.0) s.1 d.1 (omega arith) t)
      | inr p ↦ let r = first_found x v w vs ws h s.0 d.0 s.1 p in cc
    ]

-- the first of two neighbours moved, and the second of them: a data nibble, or the check nibble
next_found : (x v w : ℕ) (vs ws : List ℕ) → x < 16 → v < 16 → w < 16 → Nibbles vs → Nibbles ws → length vs ≡ length ws → Near v w
    → MovedFirst (closed (bit_xor (at x) v) vs) (closed (bit_xor (at x) w) ws) → (v ≡ w) × (vs ≡ ws)
next_found x v w [] [] h hv hw s d l r e = (
  wide (at x) v w (at_below x h) hv hw r
      (near_slight _ _ (at_below (bit_xor (at x) v) (below x v h hv)) (at_below (bit_xor (at x) w) (below x w h hw)) e.0),
  refl,
)
next_found x v w [] (b ∷ ws) h hv hw s d l r e = absurd (omega arith)
next_found x v w (a ∷ vs) [] h hv hw s d l r e = absurd (omega arith)
next_found x v w (a ∷ vs) (b ∷ ws) h hv hw s d l r e =
    let y : ℕ = bit_xor (at x) v in
    let z : ℕ = bit_xor (at x) w in
    let yb : y < 16 = below x v h hv in
    let zb : z < 16 = below x w h hw in
    let p = same_from_push vs ws (from (bit_xor (at y) a) vs) (from (bit_xor (at z) b) ws) e.1 in
    let q : bit_xor (at y) a ≡ bit_xor (at z) b =
    from_once vs (bit_xor (at y) a) (bit_xor (at z) b) s.1 (below y a yb s.0) (below z b zb d.0) (cc) in
    let vw : v ≡ w = wide (at x) v w (at_below x h) hv hw r (rw (xor_moved (at y) (at z) a b q) (near_slight a b s.0 d.0 e.0)) in
    let ab : a ≡ b = xor_cancel_left a b (at z) (cc) in
    (vw, cc)

moved_found : (vs ws : List ℕ) (x : ℕ) → x < 16 → Nibbles vs → Nibbles ws → length vs ≡ length ws → MovedNeighbours (closed x vs) (closed x ws) → ws ≡ vs
moved_found [] [] x h s d l e = refl
moved_found [] (w ∷ ws) x h s d l e = absurd (omega arith)
moved_found (v ∷ vs) [] x h s d l e = absurd (omega arith)
moved_found (v ∷ vs) (w ∷ ws) x h s d l e =
    elim e [
      | inl p ↦ let t = rw (← p.0) at p.1 in cc (moved_found vs ws (bit_xor (at x) v) (below x v h s.0) s.1 d.1 (omega arith) t)
      | inr p ↦ let r = next_found x v w vs ws h s.0 d.0 s.1 d.1 (omega arith) p.0 p.1 in cc
    ]

pub one_changed_nibble_found : OneChangedNibbleFound
unfolding check4
one_changed_nibble_found vs ws s d l e = one_found vs ws 5 (lit< tt) s d l e

pub moved_neighbours_found : MovedNeighboursFound
unfolding check4
moved_neighbours_found vs ws s d l e = moved_found vs ws 5 (lit< tt) s d l e
