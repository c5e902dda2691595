-- A frame with one edge moved: its pulses as they came, and what they give.
use Rattle.std.proofs.Common.{◌≡◌, ℕ, zero, suc, ◌+◌, ◌-◌, ◌*◌, ◌/◌, ◌<◌, ◌≤◌, true, List, [], ◌∷◌, ◌++◌, length, take, sym, refl, ap, ◌∙◌, subst, ap₂, inl, inr, mul-le-mul_right, add-mul, arith, length-take}
use Rattle.std.specs.List.{AllByRecursion}
use Rattle.std.proofs.lemmas.List.{length-append, length-map, map-append}
use Rattle.std.proofs.ByRecursion.{All-take}
use Rattle.std.proofs.lemmas.Nat.{div_below, le-div}
use Rattle.model.specs.declared.settings.Settings.{Settings}
use Rattle.model.specs.declared.event.Event.{Event}
use Rattle.model.specs.declared.event.Event.TheVariants.{Edge}
use Rattle.checks.specs.Found.{Nibbles, Near, MovedNeighbours}
use Rattle.pulses.specs.declared.outcome.Outcome.{Outcome}
use Rattle.pulses.specs.declared.outcome.Outcome.TheVariants.{Framed, Failed}
use Rattle.pulses.specs.Intervals.{window, ticks}
use Rattle.pulses.specs.Frames.{packed, row, six, frame_check}
use Rattle.pulses.specs.Steps.{PulseState, inside, outcomes, after}
use Rattle.series.specs.Sent.{NibblePulse, Sent, nibbles_of, values, edges, finish, Within, Clean, OneMoved, here, later, Arrival, moved}
use Rattle.series.specs.Series.{reports_of, Fair, AtMostAFault}
use Rattle.pulses.proofs.Windows.{window_range}
use Rattle.series.proofs.Checking.{checked, moved_data_found}
use Rattle.series.proofs.Opening.{Ready}
use Rattle.series.proofs.Reading.{Brief, Measures, brief, as_brief, as_read, measures, last_place}
use Rattle.series.proofs.Scanning.{readings, Scan, pending, refused, framed, scan}

-- the pulse x with another interval
abbrev of_length : NibblePulse → ℕ → NibblePulse
of_length x l = record { place = x.place; interval = l; value = x.value }

-- the edge between two pulses is moved by m counts, and 56 × m is at most c
data Shifted (c : ℕ) : List NibblePulse → List NibblePulse → Type 0 where
  between : {x y : NibblePulse} {zs : List NibblePulse} {a b : ℕ} (m : ℕ) → 56 * m ≤ c → Within m a x.interval → a + b ≡ x.interval + y.interval
      → Shifted c (x ∷ y ∷ zs) (of_length x a ∷ of_length y b ∷ zs)
  behind : {x : NibblePulse} {xs ys : List NibblePulse} → Shifted c xs ys → Shifted c (x ∷ xs) (x ∷ ys)

-- pulses whose edges are those that came
record Got (c t : ℕ) (xs : List NibblePulse) (es : List Event) : Type 0 where
  pub pulses : List NibblePulse
  pub are : edges t pulses ≡ es
  pub shifted : Shifted c xs pulses
  pub ends : finish t pulses ≡ finish t xs

-- a tick is shorter than any nibble
long_enough : (c m : ℕ) (x : NibblePulse) → 56 * m ≤ c → Measures c x → m ≤ x.interval
long_enough c m x h r =
    let least : 12 * (2 * c) ≤ (12 + x.value) * (2 * c) = mul-le-mul_right (2 * c) (omega arith) in
    omega (arith, r.lo)

got : (c t : ℕ) (xs : List NibblePulse) {es es' : List Event} → AllByRecursion (Measures c) xs → OneMoved c es es' → es ≡ edges t xs → Got c t xs es'
got c t [] r (here m tick near) e = cc
got c t (x ∷ []) r (here m tick near) e = cc
got c t (x ∷ y ∷ zs) r (here {p} {t = w} {t' = w'} {e = d} {es = ds} m tick near) e =
    let e0 : p ≡ x.place = cc in
    let e1 : w ≡ t + x.interval = cc in
    let e2 : d ≡ Edge y.place (t + x.interval + y.interval) = cc in
    let e3 : ds ≡ edges (t + x.interval + y.interval) zs = cc in
    let lx : m ≤ x.interval = long_enough c m x tick r.0 in
    let ly : m ≤ y.interval = long_enough c m y tick r.1.0 in
    let a : ℕ = w' - t in
    let b : ℕ = x.interval + y.interval - a in
    let ta : t + a ≡ w' = omega arith in
    let tb : t + a + b ≡ t + x.interval + y.interval = omega arith in
    record {
      pulses = of_length x a ∷ of_length y b ∷ zs;
      are = ap₂ (λ (i j : ℕ). Edge x.place i ∷ Edge y.place j ∷ edges j zs) ta tb ∙ cc;
      shifted = between m tick (omega arith, omega arith) (omega arith);
      ends = ap (λ (i : ℕ). finish i zs) tb;
    }
got c t [] r (later i) e = cc
got c t (x ∷ xs) r (later {e = d} {es = ds} {es' = ds'} i) e =
    let e0 : d ≡ Edge x.place (t + x.interval) = cc in
    let e1 : ds ≡ edges (t + x.interval) xs = cc in
    let g = got c (t + x.interval) xs r.1 i e1 in
    record {
      pulses = x ∷ g.pulses;
      are = ap₂ (λ (i : Event) (j : List Event). i ∷ j) (sym e0) g.are;
      shifted = behind g.shifted;
      ends = g.ends;
    }

-- an interval within a tick of a clean pulse's
record Rough (c : ℕ) (x : NibblePulse) (l : ℕ) : Type 0 where
  pub lo : (12 + x.value) * (2 * c) < 112 * l + 3 * c
  pub hi : 112 * l < (12 + x.value) * (2 * c) + 3 * c

rough : (c m l : ℕ) (x : NibblePulse) → 56 * m ≤ c → Measures c x → Within m l x.interval → Rough c x l
rough c m l x h r e = record { lo = omega (arith, r.lo); hi = omega (arith, r.hi) }

-- it is read within one of what was sent
ticks_near : (c l : ℕ) (x : NibblePulse) → 0 < c → Rough c x l → Near x.value (ticks c l - 12)
unfolding ticks
ticks_near c l x some r =
    let v : ℕ = x.value in
    let e11 : (11 + v) * (2 * c) ≡ 11 * (2 * c) + v * (2 * c) = add-mul 11 v (2 * c) in
    let e12 : (12 + v) * (2 * c) ≡ 12 * (2 * c) + v * (2 * c) = add-mul 12 v (2 * c) in
    let e14 : (14 + v) * (2 * c) ≡ 14 * (2 * c) + v * (2 * c) = add-mul 14 v (2 * c) in
    let lo = r.lo in
    let hi = r.hi in
    let low : 11 + v ≤ (112 * l + c) / (2 * c) = le-div (11 + v) (112 * l + c) (2 * c) (omega arith) (omega arith) in
    let high : (112 * l + c) / (2 * c) < 14 + v = div_below (112 * l + c) (2 * c) (14 + v) (omega arith) (omega arith) in
    omega arith

module _ (s : Settings) (c : ℕ) (passes : window s c ≡ true) where
  plain : (xs : List NibblePulse) → AllByRecursion (Measures c) xs → readings c xs ≡ values xs
  plain [] h = refl
  plain (x ∷ xs) h =
      let e : ticks c x.interval - 12 ≡ x.value = omega (arith, (as_read s c passes x h.0).is) in
      ap₂ (λ (i : ℕ) (j : List ℕ). i ∷ j) e (plain xs h.1)

  all_brief : (xs : List NibblePulse) → AllByRecursion (Measures c) xs → AllByRecursion (Brief s) xs
  all_brief [] h = tt
  all_brief (x ∷ xs) h = (as_brief s c passes x h.0, all_brief xs h.1)

  rough_brief : (x : NibblePulse) (l : ℕ) → x.value < 16 → Rough c x l → Brief s (of_length x l)
  rough_brief x l h r = brief s c (of_length x l) passes h r.lo r.hi

  shifted_brief : {xs ys : List NibblePulse} → Shifted c xs ys → AllByRecursion (Measures c) xs → AllByRecursion (Brief s) ys
  shifted_brief (between {x} {y} {zs} {a} {b} m tick near sum) h =
      (rough_brief x a h.0.small (rough c m a x tick h.0 near), (rough_brief y b h.1.0.small (rough c m b y tick h.1.0 (omega arith, omega arith)), all_brief zs h.1.1))
  shifted_brief (behind {x} i) h = (as_brief s c passes x h.0, shifted_brief i h.1)

  -- so two neighbours at most are read otherwise than sent, by one each
  shifted_near : {xs ys : List NibblePulse} → Shifted c xs ys → AllByRecursion (Measures c) xs → MovedNeighbours (values xs) (readings c ys)
  shifted_near (between {x} {y} {zs} {a} {b} m tick near sum) h =
      let some : 0 < c = (window_range s c passes).0 in
      inr (
        ticks_near c a x some (rough c m a x tick h.0 near),
        (ticks_near c b y some (rough c m b y tick h.1.0 (omega arith, omega arith)), sym (plain zs h.1.1)),
      )
  shifted_near (behind {x} i) h = inl (omega (arith, (as_read s c passes x h.0).is), shifted_near i h.1)

shifted_place : {c : ℕ} {xs ys : List NibblePulse} (u : ℕ) → Shifted c xs ys → last_place u ys ≡ last_place u xs
shifted_place u (between m tick near sum) = refl
shifted_place u (behind {x} i) = shifted_place x.place i

shifted_length : {c : ℕ} {xs ys : List NibblePulse} → Shifted c xs ys → length ys ≡ length xs
shifted_length (between m tick near sum) = refl
shifted_length (behind i) = ap suc (shifted_length i)

last_push : (u : ℕ) (xs : List NibblePulse) (y : NibblePulse) → last_place u (xs ++ y ∷ []) ≡ y.place
last_push u [] y = refl
last_push u (x ∷ xs) y = last_push x.place xs y

small_values : (c : ℕ) (xs : List NibblePulse) → AllByRecursion (Measures c) xs → Nibbles (values xs)
small_values c [] a = tt
small_values c (x ∷ xs) a = (a.0.small, small_values c xs a.1)

small_front : (vs : List ℕ) (v : ℕ) → Nibbles (vs ++ v ∷ []) → Nibbles vs
small_front [] y a = tt
small_front (x ∷ xs) y a = (a.0, small_front xs y a.1)

-- what one frame gives at the edges that end its nibbles, the first of which starts at the time t
pub record Turn (s : Settings) (u t : ℕ) (f : Sent) (h : Arrival) (es : List Event) : Type 0 where
  pub report : Outcome
  pub just_one : reports_of (outcomes s (inside f.place t u f.calibration []) es) ≡ report ∷ []
  pub fair : Fair u h report
  pub ready : Ready f.check.place (finish t (nibbles_of f)) (after s (inside f.place t u f.calibration []) es)

-- a moved frame that started at the edge of the place u, whose first nibble starts at the time t
module _ (s : Settings) (f : Sent) (r : Clean s f) (u t : ℕ) (es : List Event) (bent : OneMoved f.calibration (edges t (nibbles_of f)) es) where
  came : Got f.calibration t (nibbles_of f) es
  came = got f.calibration t (nibbles_of f) (measures r) bent refl

  abbrev ys : List NibblePulse
  ys = came.pulses

  abbrev begun : PulseState
  begun = inside f.place t u f.calibration []

  ys_brief : AllByRecursion (Brief s) ys
  ys_brief = shifted_brief s f.calibration r.passes came.shifted (measures r)

  ys_length : length ys ≡ s.nibbles + 2
  ys_length = shifted_length came.shifted ∙ ap suc (length-append f.body (f.check ∷ [])) ∙ omega (arith, r.count)

  all_length : length (readings f.calibration ys) ≡ s.nibbles + 2
  all_length = length-map ys (λ y. ticks f.calibration y.interval - 12) ∙ ys_length

  same_data : (st v : ℕ) (ds : List ℕ) → readings f.calibration ys ≡ st ∷ (ds ++ v ∷ []) → v ≡ frame_check s ds → Nibbles (st ∷ (ds ++ v ∷ [])) → ds ≡ values f.body
  same_data st v ds e q a =
      let ws : List ℕ = values f.body in
      let sent_is : values (nibbles_of f) ≡ f.status.value ∷ checked s ws =
      ap (λ (i : List ℕ). f.status.value ∷ i) (map-append (λ y. y.value) f.body (f.check ∷ []) ∙ ap (λ (i : ℕ). ws ++ i ∷ []) r.fits) in
      let got_is : readings f.calibration ys ≡ st ∷ checked s ds = e ∙ ap (λ (i : ℕ). st ∷ (ds ++ i ∷ [])) q in
      let near = subst (λ (i : List ℕ). MovedNeighbours i (st ∷ checked s ds)) sent_is
      (subst (λ (i : List ℕ). MovedNeighbours (values (nibbles_of f)) i) got_is (shifted_near s f.calibration r.passes came.shifted (measures r))) in
      let sv : Nibbles (f.status.value ∷ checked s ws) = subst Nibbles sent_is (small_values f.calibration (nibbles_of f) (measures r)) in
      let l2 : length (readings f.calibration ys) ≡ suc (length ds + 1) = ap length e ∙ ap suc (length-append ds (v ∷ [])) in
      let l3 : length ws ≡ s.nibbles = length-map f.body (λ y. y.value) ∙ r.count in
      moved_data_found s f.status.value st ws ds (small_front ws (frame_check s ws) sv.1) (small_front ds v a.1) (omega (arith, all_length)) near

  judge : (os : List Outcome) {x : PulseState} → (p t' : ℕ) → Scan s u p t' (readings f.calibration ys) os x
      → (report : Outcome) × (os ≡ report ∷ []) × Fair u (moved f es) report × Ready p t' x
  judge os p t' (pending l) = absurd (omega (arith, all_length))
  judge os p t' (refused {f = g} y) = (Failed g, refl, tt, y)
  judge os p t' (framed st v ds y e q a l) =
      (Framed (row u st (six ds)), refl, (refl, ap (λ (vs : List ℕ). packed (six vs)) (same_data st v ds e q (subst Nibbles e a))), y)

  pub moved_turn : Turn s u t f (moved f es) es
  moved_turn =
      let j = judge _ (last_place f.place ys) (finish t ys) (scan s u f.calibration ys f.place t [] ys_brief tt (omega arith) (omega (arith, ys_length))) in
      let place : last_place f.place ys ≡ f.check.place =
      shifted_place f.place came.shifted ∙ last_push f.place (f.status ∷ f.body) f.check in
      subst (Turn s u t f (moved f es)) came.are
      (record {
        report = j.0;
        just_one = j.1;
        fair = j.2;
        ready = subst (λ (i : ℕ). Ready f.check.place i (after s begun (edges t ys))) came.ends
            (subst (λ (i : ℕ). Ready i (finish t ys) (after s begun (edges t ys))) place j.3);
      })

  few : {p t' : ℕ} {all : List ℕ} {rs : List Outcome} {x : PulseState} → length all < s.nibbles + 2 → Scan s u p t' all rs x → AtMostAFault rs
  few l (pending h) = tt
  few l (refused y) = refl
  few l (framed st v ds y e q a h) = absurd (omega arith)

  edges_take : (m t : ℕ) (xs : List NibblePulse) → take m (edges t xs) ≡ edges t (take m xs)
  edges_take zero t xs = refl
  edges_take (suc m) t [] = refl
  edges_take (suc m) t (x ∷ xs) = ap (λ (zs : List Event). Edge x.place (t + x.interval) ∷ zs) (edges_take m (t + x.interval) xs)

  -- some edges of its nibbles, not all
  pub moved_part : (m : ℕ) → m < s.nibbles + 2 → AtMostAFault (reports_of (outcomes s begun (take m es)))
  moved_part m l =
      let len : length (readings f.calibration (take m ys)) ≤ m = omega (arith, length-map (take m ys) (λ y. ticks f.calibration y.interval - 12), length-take m ys) in
      subst (λ (x : List Event). AtMostAFault (reports_of (outcomes s begun x))) (sym (edges_take m t ys) ∙ ap (take m) came.are)
      (few (omega arith)
      (scan s u f.calibration (take m ys) f.place t [] (All-take (Brief s) m ys ys_brief) tt (omega arith) (omega (arith, length-take m ys))))
