-- The laws speak of something.
use Rattle.std.proofs.Common.{◌≡◌, ℕ, ◌+◌, ◌*◌, ◌<◌, true, List, [], ◌∷◌, length, sym, refl, ap, ◌∙◌, arith, lit<, lit≤}
use Rattle.std.specs.List.{AllByRecursion}
use Rattle.std.proofs.ByRecursion.{All-push}
use Rattle.model.specs.declared.settings.Settings.{Settings}
use Rattle.checks.specs.Checks.{entry, check4}
use Rattle.pulses.specs.Intervals.{window, ticks}
use Rattle.pulses.specs.Frames.{frame_check}
use Rattle.pulses.specs.Steps.{step, after_frame}
use Rattle.series.specs.Sent.{NibblePulse, values, Within, Clean, here}
use Rattle.series.specs.Exhibits.{exact_pulse, exact_pulses, Content, Sendable, exact_frame, exact_frames, ExactSeriesClean, longest_pulse, shortest_pulse, slow_frame, uneven_frame, LawsHaveInstances}
use Rattle.pulses.proofs.Windows.{window_range}
use Rattle.series.proofs.Checking.{check_is_a_nibble}

-- a tick of whole counts needs no tolerance
even : (a : ℕ) → Within (1 * 0) (1 * a) a
even a = (omega arith, omega arith)

all_even : (tick p : ℕ) (vs : List ℕ) → AllByRecursion (λ x. Within (1 * 0) (1 * x.interval) ((12 + x.value) * tick)) (exact_pulses tick p vs)
all_even tick p [] = tt
all_even tick p (v ∷ vs) = (even ((12 + v) * tick), all_even tick (p + 1) vs)

all_small : (tick p : ℕ) (vs : List ℕ) → AllByRecursion (λ v. v < 16) vs → AllByRecursion (λ x. x.value < 16) (exact_pulses tick p vs)
all_small tick p [] h = tt
all_small tick p (v ∷ vs) h = (h.0, all_small tick (p + 1) vs h.1)

exact_values : (tick p : ℕ) (vs : List ℕ) → values (exact_pulses tick p vs) ≡ vs
exact_values tick p [] = refl
exact_values tick p (v ∷ vs) = ap (λ (ws : List ℕ). v ∷ ws) (exact_values tick (p + 1) vs)

exact_length : (tick p : ℕ) (vs : List ℕ) → length (exact_pulses tick p vs) ≡ length vs
exact_length tick p [] = refl
exact_length tick p (v ∷ vs) = omega (arith, exact_length tick (p + 1) vs)

module _ (s : Settings) (tick : ℕ) (passes : window s (56 * tick) ≡ true) where
  exact_clean : (p : ℕ) (x : Content) → Sendable s x → Clean s (exact_frame s tick p x)
  exact_clean p x h =
      let some : 0 < 56 * tick = (window_range s (56 * tick) passes).0 in
      let c : NibblePulse = exact_pulse tick (p + 2 + s.nibbles) (frame_check s x.nibbles) in
      let body : List NibblePulse = exact_pulses tick (p + 2) x.nibbles in
      record {
        e = 0;
        p = tick;
        q = 1;
        p_some = omega arith;
        q_some = lit≤ tt;
        passes = passes;
        tight = omega arith;
        calibration_even = even (56 * tick);
        nibbles_even = (
          even ((12 + x.status) * tick),
          All-push (λ y. Within (1 * 0) (1 * y.interval) ((12 + y.value) * tick)) body c (all_even tick (p + 2) x.nibbles) (even ((12 + frame_check s x.nibbles) * tick)),
        );
        nibbles_small = (h.status_small, All-push (λ y. y.value < 16) body c (all_small tick (p + 2) x.nibbles h.nibbles_small) (check_is_a_nibble s x.nibbles h.nibbles_small));
        count = exact_length tick (p + 2) x.nibbles ∙ h.count;
        fits = ap (frame_check s) (sym (exact_values tick (p + 2) x.nibbles));
      }

  all_clean : (p : ℕ) (xs : List Content) → AllByRecursion (Sendable s) xs → AllByRecursion (Clean s) (exact_frames s tick p xs)
  all_clean p [] h = tt
  all_clean p (x ∷ xs) h = (exact_clean p x h.0, all_clean (p + 3 + s.nibbles) xs h.1)

pub exact_series_clean : (s : Settings) → ExactSeriesClean s
exact_series_clean s tick p q t xs y some passes h g few = (
  record {
    sent = exact_frames s tick p xs;
    clean = all_clean s tick passes p xs h;
    cut_short = exact_frame s tick q y;
    cut_clean = exact_clean s tick passes q y g;
    some = some;
    not_all = few;
    are = refl;
  },
  refl,
)

fast_passes : window shortest_pulse (56 * 8) ≡ true
unfolding window
fast_passes = refl

slow_is_clean : Clean longest_pulse slow_frame
unfolding window frame_check check4 entry
slow_is_clean =
    record {
      e = 1;
      p = 600000;
      q = 7;
      p_some = lit≤ tt;
      q_some = lit≤ tt;
      passes = refl;
      tight = lit< tt;
      calibration_even = (lit≤ tt, lit≤ tt);
      nibbles_even = ((lit≤ tt, lit≤ tt), ((lit≤ tt, lit≤ tt), ((lit≤ tt, lit≤ tt), tt)));
      nibbles_small = (lit< tt, (lit< tt, (lit< tt, tt)));
      count = refl;
      fits = refl;
    }

uneven_is_clean : Clean shortest_pulse uneven_frame
unfolding window frame_check check4 entry
uneven_is_clean =
    record {
      e = 3;
      p = 10;
      q = 1;
      p_some = lit≤ tt;
      q_some = lit≤ tt;
      passes = refl;
      tight = lit< tt;
      calibration_even = (lit≤ tt, lit≤ tt);
      nibbles_even = ((lit≤ tt, lit≤ tt), ((lit≤ tt, lit≤ tt), ((lit≤ tt, lit≤ tt), tt)));
      nibbles_small = (lit< tt, (lit< tt, (lit< tt, tt)));
      count = refl;
      fits = refl;
    }

pub laws_have_instances : LawsHaveInstances
unfolding step window ticks after_frame frame_check check4 entry
laws_have_instances =
    record {
      slow_clean = slow_is_clean;
      slow_at_the_end = refl;
      slow_received = refl;
      fast_clean = exact_clean shortest_pulse 8 fast_passes 1 (record { status = 0; nibbles = 4 ∷ [] }) (record { status_small = lit< tt; nibbles_small = (lit< tt, tt); count = refl });
      fast_at_the_end = refl;
      fast_received = refl;
      little_tolerable = (uneven_is_clean, here 3 (lit≤ tt) (lit≤ tt, lit≤ tt));
      little_gives_a_frame = refl;
      tick_tolerable = (uneven_is_clean, here 10 (lit≤ tt) (lit≤ tt, lit≤ tt));
      tick_gives_a_fault = refl;
    }
