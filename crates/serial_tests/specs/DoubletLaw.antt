-- The law of the format of two pairs.
use Rattle.std.specs.Prelude.{◌≡◌, ℕ, ◌+◌, ◌<◌, true, not, T, List, ◌++◌, length, take, drop, ◌==◌, slice_index_or}
use Rattle.std.proofs.Common.{sym, ap, ◌∙◌, subst, lit<, lit≤}
use Rattle.std.proofs.Math.Nat.{le_antisymm, le-pred_of_lt}
use Rattle.std.proofs.Math.Numerals.{add-one-le}
use Rattle.std.proofs.lemmas.Float.{T_from_true}
use Rattle.std.proofs.lemmas.Bool.{and_parts, eqb-true, not-true, both_ways}
use Rattle.serial.specs.declared.pair.Pair.{Pair}
use Rattle.serial.specs.Pairs.{blank}
use Rattle.serial.specs.Format.{LawfulFormat}
use Rattle.serial.proofs.Joined.{Inside, apart_from, stretch_at}
use Rattle.serial.proofs.Truths.{is_so, some_told}
use Rattle.serial_tests.specs.Doublets.{framed, lawful, doublet}

in_length : (ps : List Pair) → framed ps ≡ true → length ps ≡ 2
in_length ps e = eqb-true (length ps) 2 (and_parts (length ps == 2) (slice_index_or ps 0 blank).high e).0

lawful_parts : (ps : List Pair) → T (lawful ps) → (framed ps ≡ true) × (not (slice_index_or ps 1 blank).high ≡ true)
lawful_parts ps t = and_parts (framed ps) (not (slice_index_or ps 1 blank).high) (is_so (lawful ps) t)

-- what begins past the first of two pairs begins at the second
second : (i : ℕ) → 0 < i → i < 2 → i ≡ 1
second i p h = le_antisymm (le-pred_of_lt h) (add-one-le p)

-- a stretch that begins at the second pair begins with a clear bit 3
inside : Inside doublet
inside l rest t i p h m =
    let parts = lawful_parts l t in
    let s : List Pair = take 2 (drop i (l ++ rest)) in
    let set : (slice_index_or s 0 blank).high ≡ true = (and_parts (length s == 2) (slice_index_or s 0 blank).high (is_so (framed s) m)).1 in
    let one : i ≡ 1 = second i p h in
    let same : slice_index_or s 0 blank ≡ slice_index_or l 1 blank =
    stretch_at 2 i 0 l rest (in_length l parts.0) (subst (λ (j : ℕ). j + 0 < 2) (sym one) (lit< tt))
    ∙ ap (λ (j : ℕ). slice_index_or l (j + 0) blank) one in
    both_ways (slice_index_or s 0 blank).high (ap (λ (q : Pair). q.high) same ∙ not-true (slice_index_or l 1 blank).high parts.1) set

pub doublet_lawful : LawfulFormat doublet
doublet_lawful = record {
  at_least_one = lit≤ tt;
  at_most_18 = lit≤ tt;
  framed_in_length = λ ps t. in_length ps (is_so (framed ps) t);
  lawful_is_framed = λ ps t. T_from_true (framed ps) (lawful_parts ps t).0;
  lawful_is_told = λ ps. some_told (lawful ps) (slice_index_or ps 1 blank).low;
  apart = apart_from doublet (lit≤ tt) (λ ps t. in_length ps (lawful_parts ps t).0) inside;
}
