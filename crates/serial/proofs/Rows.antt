-- Pairs and places in two rows, read as one list.
use Rattle.std.proofs.Common.{◌≡◌, ℕ, zero, suc, ◌-◌, Bool, true, false, cond, List, [], ◌∷◌, ◌++◌, length, drop, Some, None, Option, is_some, slice_index, IfSome, sym, refl, ap, ◌∙◌, arith, length-append}
use Rattle.serial.specs.declared.pair.Pair.{Pair}
use Rattle.serial.specs.declared.report.SerialReport.{SerialReport}
use Rattle.serial.specs.Format.{Format}
use Rattle.serial.specs.Windows.{Kept, paired, last, pairs_of, first_place, judged, reported}

abbrev with_place : Pair → ℕ → Kept
with_place p n = record { pair = p; place = n }

pub pairs_paired : (ps : List Pair) (ns : List ℕ) → length ps ≡ length ns → pairs_of (paired ps ns) ≡ ps
pairs_paired [] ns e = refl
pairs_paired (p ∷ ps) [] e = absurd (omega arith)
pairs_paired (p ∷ ps) (n ∷ ns) e = ap (λ (qs : List Pair). p ∷ qs) (pairs_paired ps ns (omega arith))

length_paired : (ps : List Pair) (ns : List ℕ) → length ps ≡ length ns → length (paired ps ns) ≡ length ps
length_paired [] ns e = refl
length_paired (p ∷ ps) [] e = absurd (omega arith)
length_paired (p ∷ ps) (n ∷ ns) e = ap suc (length_paired ps ns (omega arith))

drop_paired : (k : ℕ) (ps : List Pair) (ns : List ℕ) → length ps ≡ length ns → drop k (paired ps ns) ≡ paired (drop k ps) (drop k ns)
drop_paired zero ps ns e = refl
drop_paired (suc k) [] ns e = refl
drop_paired (suc k) (p ∷ ps) [] e = absurd (omega arith)
drop_paired (suc k) (p ∷ ps) (n ∷ ns) e = drop_paired k ps ns (omega arith)

push_paired : (ps : List Pair) (ns : List ℕ) (p : Pair) (n : ℕ) → length ps ≡ length ns → paired (ps ++ p ∷ []) (ns ++ n ∷ []) ≡ paired ps ns ++ with_place p n ∷ []
push_paired [] [] p n e = refl
push_paired [] (m ∷ ns) p n e = absurd (omega arith)
push_paired (q ∷ ps) [] p n e = absurd (omega arith)
push_paired (q ∷ ps) (m ∷ ns) p n e = ap (λ (ks : List Kept). with_place q m ∷ ks) (push_paired ps ns p n (omega arith))

last_paired : (size : ℕ) (ps : List Pair) (ns : List ℕ) → length ps ≡ length ns → paired (last size ps) (last size ns) ≡ last size (paired ps ns)
last_paired size ps ns e =
    let lp : length (paired ps ns) ≡ length ps = length_paired ps ns e in
    ap (λ (k : ℕ). paired (drop (length ps - size) ps) (drop (k - size) ns)) (sym e)
    ∙ sym (drop_paired (length ps - size) ps ns e)
    ∙ ap (λ (k : ℕ). drop (k - size) (paired ps ns)) (sym lp)

-- a pair and its place come in
pub kept_more : (size : ℕ) (ps : List Pair) (ns : List ℕ) (p : Pair) (n : ℕ) → length ps ≡ length ns
    → paired (last size (ps ++ p ∷ [])) (last size (ns ++ n ∷ [])) ≡ last size (paired ps ns ++ with_place p n ∷ [])
kept_more size ps ns p n e =
    last_paired size (ps ++ p ∷ []) (ns ++ n ∷ []) (omega (arith, length-append ps (p ∷ []), length-append ns (n ∷ [])))
    ∙ ap (last size) (push_paired ps ns p n e)

pub first_paired : (ps : List Pair) (ns : List ℕ) → length ps ≡ length ns → slice_index ns 0 ≡ first_place (paired ps ns)
first_paired [] [] e = refl
first_paired [] (n ∷ ns) e = absurd (omega arith)
first_paired (p ∷ ps) [] e = absurd (omega arith)
first_paired (p ∷ ps) (n ∷ ns) e = refl

-- what is said of the pairs kept, if it is said just where they match the framing
pub said : {M : Type 0} (f : Format M) (ps : List Pair) (ks : List Kept) (event : ℕ) (r : Option (SerialReport M)) → pairs_of ks ≡ ps
    → is_some r ≡ f.framed ps → IfSome r (λ x. x ≡ judged (f.told ps) (first_place ks) event) → r ≡ reported f ks event
said {M = M} f ps ks event r same some is = rw same (at (f.framed ps) r some is)
  where
    at : (b : Bool) (r : Option (SerialReport M)) → is_some r ≡ b → IfSome r (λ x. x ≡ judged (f.told ps) (first_place ks) event)
        → r ≡ cond b (Some (judged (f.told ps) (first_place ks) event)) None
    at true (Some x) some is = ap Some is
    at true None some is = cc
    at false (Some x) some is = cc
    at false None some is = refl
