-- The check answers as its law says.
use Rattle.std.proofs.Common.{◌≡◌, ℕ, suc, ◌+◌, ◌%◌, true, false, cond, ◌&&◌, eqb, leb, List, [], ◌∷◌, ◌++◌, length, Some, None, Option, sym, refl, ap, ◌∙◌, add-zero, arith, eqb-true, leb-false, leb-true}
use borrow.Author.Tests.{eqb-false}
use Rattle.records.specs.Kinds.{Kind}
use Rattle.records.specs.declared.record.Record.{Record}
use Rattle.records.specs.declared.record.Flaw.{Flaw}
use Rattle.records.specs.declared.checking.CheckRefusal.{CheckRefusal}
use Rattle.records.specs.declared.checking.CheckRefusal.TheVariants.{Length}
use Rattle.records.specs.Records.{size, records, flaw_of}
use Rattle.records.specs.Checked.{flawed_at, flawed_or, first_flaw, checked}
use Rattle.records.specs.Verdicts.{RightLength, Flawless, FirstBad, RefusedByTheFirstBadRecord}

passed : (p : ℕ) (f : Option Flaw) (later : Option CheckRefusal) → flawed_or p f later ≡ None → (f ≡ None) × (later ≡ None)
passed p None later e = (refl, e)
passed p (Some f) later e = cc

-- no flaw is found exactly if no record has one
flawless_so : (kind : Kind) (p : ℕ) (rs : List Record) → first_flaw kind p rs ≡ None → Flawless kind rs
flawless_so kind p [] e = tt
flawless_so kind p (r ∷ rs) e =
    let good = passed p (flaw_of kind r) (first_flaw kind (p + 1) rs) e in
    (good.0, flawless_so kind (p + 1) rs good.1)

flawless_none : (kind : Kind) (p : ℕ) (rs : List Record) → Flawless kind rs → first_flaw kind p rs ≡ None
flawless_none kind p [] h = refl
flawless_none kind p (r ∷ rs) h = ap (λ (f : Option Flaw). flawed_or p f (first_flaw kind (p + 1) rs)) h.0 ∙ flawless_none kind (p + 1) rs h.1

-- a refusal for a flaw is of one place and one flaw
same_place : (p q : ℕ) (g f : Flaw) → ◌≡◌ {A = Option CheckRefusal} (Some (flawed_at p g)) (Some (flawed_at q f)) → (p ≡ q) × (g ≡ f)
same_place p q g f e = (cc, cc)

-- and is none for the length
not_length : (p : ℕ) (f : Flaw) → ◌≡◌ {A = Option CheckRefusal} (Some (flawed_at p f)) (Some Length) → ⊥
not_length p f e = cc

never_length : (kind : Kind) (p : ℕ) (rs : List Record) → first_flaw kind p rs ≡ Some Length → ⊥
never_length kind p [] e = cc
never_length kind p (r ∷ rs) e =
    (elim (flaw_of kind r) as (λ o. flawed_or p o (first_flaw kind (p + 1) rs) ≡ Some Length → ⊥) [
      | None ↦ λ h. never_length kind (p + 1) rs h
      | Some f ↦ λ h. not_length p f h
    ]) e

-- the first bad record of records of which the first has the place p
record BadFrom (kind : Kind) (p : ℕ) (rs : List Record) (q : ℕ) (f : Flaw) : Type 0 where
  before : List Record
  bad : Record
  behind : List Record
  parted : rs ≡ before ++ (bad ∷ behind)
  place : p + length before ≡ q
  flawless : Flawless kind before
  flaw : flaw_of kind bad ≡ Some f

-- a flaw that is found is that of the first bad record
bad_so : (kind : Kind) (p : ℕ) (rs : List Record) (q : ℕ) (f : Flaw) → first_flaw kind p rs ≡ Some (flawed_at q f) → BadFrom kind p rs q f
bad_so kind p [] q f e = cc
bad_so kind p (r ∷ rs) q f e =
    (elim (flaw_of kind r) as (λ o. flaw_of kind r ≡ o → flawed_or p o (first_flaw kind (p + 1) rs) ≡ Some (flawed_at q f) → BadFrom kind p (r ∷ rs) q f) [
      | None ↦ λ sound h.
          let found = bad_so kind (p + 1) rs q f h in
          record {
            before = r ∷ found.before;
            bad = found.bad;
            behind = found.behind;
            parted = ap (λ (l : List Record). r ∷ l) found.parted;
            place = omega (arith, found.place);
            flawless = (sound, found.flawless);
            flaw = found.flaw;
          }
      | Some g ↦ λ is h.
          let same = same_place p q g f h in
          record { before = []; bad = r; behind = rs; parted = refl; place = add-zero p ∙ same.0; flawless = tt; flaw = is ∙ ap Some same.1 }
    ]) refl e

-- and the first bad record is found
bad_there : (kind : Kind) (p : ℕ) (before behind : List Record) (bad : Record) (f : Flaw) → Flawless kind before → flaw_of kind bad ≡ Some f
    → first_flaw kind p (before ++ (bad ∷ behind)) ≡ Some (flawed_at (p + length before) f)
bad_there kind p [] behind bad f h is =
    ap (λ (o : Option Flaw). flawed_or p o (first_flaw kind (p + 1) behind)) is ∙ ap (λ (x : ℕ). Some (flawed_at x f)) (sym (add-zero p))
bad_there kind p (r ∷ before) behind bad f h is =
    let place : p + 1 + length before ≡ p + suc (length before) = omega arith in
    ap (λ (o : Option Flaw). flawed_or p o (first_flaw kind (p + 1) (before ++ (bad ∷ behind)))) h.0
    ∙ bad_there kind (p + 1) before behind bad f h.1 is
    ∙ ap (λ (x : ℕ). Some (flawed_at x f)) place

bad_found : (kind : Kind) (rs : List Record) (p : ℕ) (f : Flaw) → FirstBad kind rs p f → first_flaw kind 0 rs ≡ Some (flawed_at p f)
bad_found kind rs p f b =
    let place : 0 + length b.before ≡ p = omega (arith, b.place) in
    ap (first_flaw kind 0) b.parted
    ∙ bad_there kind 0 b.before b.behind b.bad f b.flawless b.flaw
    ∙ ap (λ (x : ℕ). Some (flawed_at x f)) place

first_bad : (kind : Kind) (rs : List Record) (p : ℕ) (f : Flaw) → first_flaw kind 0 rs ≡ Some (flawed_at p f) → FirstBad kind rs p f
first_bad kind rs p f e =
    let found = bad_so kind 0 rs p f e in
    record {
      before = found.before;
      bad = found.bad;
      behind = found.behind;
      parted = found.parted;
      place = omega (arith, found.place);
      flawless = found.flawless;
      flaw = found.flaw;
    }

module _ (kind : Kind) (xs : List ℕ) where
  of_right_length : RightLength kind xs → checked kind xs ≡ first_flaw kind 0 (records kind xs) → RefusedByTheFirstBadRecord kind xs
  of_right_length right same =
      record {
        accepts = (λ e. (right, flawless_so kind 0 (records kind xs) (sym same ∙ e)), λ h. same ∙ flawless_none kind 0 (records kind xs) h.1);
        refuses_length = (λ e _. never_length kind 0 (records kind xs) (sym same ∙ e), λ h. absurd (h right));
        names = λ p f. (λ e. (right, first_bad kind (records kind xs) p f (sym same ∙ e)), λ h. same ∙ bad_found kind (records kind xs) p f h.1);
      }

  of_wrong_length : (RightLength kind xs → ⊥) → checked kind xs ≡ Some Length → RefusedByTheFirstBadRecord kind xs
  of_wrong_length wrong same =
      record {
        accepts = (λ e. cc, λ h. absurd (wrong h.0));
        refuses_length = (λ _. wrong, λ _. same);
        names = λ p f. (λ e. absurd (not_length p f (sym e ∙ same)), λ h. absurd (wrong h.0));
      }

  -- the law of the check
  pub judged : RefusedByTheFirstBadRecord kind xs
  judged =
      let n = length xs in
      let Law = RefusedByTheFirstBadRecord kind xs in
      (elim (leb n 24576) as (λ a. leb n 24576 ≡ a → checked kind xs ≡ cond (a && eqb (n % size kind) 0) (first_flaw kind 0 (records kind xs)) (Some Length) → Law) [
        | true ↦ λ few. elim (eqb (n % size kind) 0) as (λ b. eqb (n % size kind) 0 ≡ b → checked kind xs ≡ cond b (first_flaw kind 0 (records kind xs)) (Some Length) → Law) [
          | true ↦ λ whole same. of_right_length (leb-true n 24576 few, eqb-true (n % size kind) 0 whole) same
          | false ↦ λ whole same. of_wrong_length (λ right. eqb-false (n % size kind) 0 whole right.1) same
        ] refl
        | false ↦ λ few same. of_wrong_length (λ right. omega (arith, right.0, leb-false n 24576 few)) same
      ]) refl refl
