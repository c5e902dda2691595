-- The laws speak of something: frames of exact pulses are clean series, and there are series at both ends of the window and
-- moved frames of both kinds.
use Rattle.std.specs.Prelude.{◌≡◌, ℕ, ◌+◌, ◌*◌, ◌<◌, true, List, [], ◌∷◌, ◌++◌, length, take}
use Rattle.std.proofs.Common.{lit≤}
use Rattle.std.specs.List.{AllByRecursion}
use Rattle.model.specs.declared.settings.Settings.{Settings}
use Rattle.model.specs.declared.event.Event.TheVariants.{Edge}
use Rattle.model.specs.declared.fault.FaultKind.TheVariants.{FrameCheck}
use Rattle.pulses.specs.declared.outcome.Outcome.{Outcome}
use Rattle.pulses.specs.declared.outcome.Outcome.TheVariants.{Quiet, Framed}
use Rattle.pulses.specs.Intervals.{window}
use Rattle.pulses.specs.Frames.{row, frame_check}
use Rattle.pulses.specs.Steps.{lost, fault, outcomes}
use Rattle.series.specs.Sent.{NibblePulse, Sent, frame_edges, series, series_end, Clean, Arrival, moved, arrival_edges, Tolerable}
use Rattle.series.specs.Series.{CleanSeries}

-- Exact pulses

-- a nibble v whose pulse ends at the edge of the place p and lasts 12 + v ticks of so many counts
abbrev pub exact_pulse : ℕ → ℕ → ℕ → NibblePulse
exact_pulse tick p v = record { place = p; interval = (12 + v) * tick; value = v }

abbrev pub exact_pulses : ℕ → ℕ → List ℕ → List NibblePulse
exact_pulses tick p [] = []
exact_pulses tick p (v ∷ vs) = exact_pulse tick p v ∷ exact_pulses tick (p + 1) vs

-- what a frame carries: a status nibble and data nibbles
pub record Content : Type 0 where
  pub status : ℕ
  pub nibbles : List ℕ

-- nibbles, as many as the settings say
pub record Sendable (s : Settings) (x : Content) : Type 0 where
  pub status_small : x.status < 16
  pub nibbles_small : AllByRecursion (λ v. v < 16) x.nibbles
  pub count : length x.nibbles ≡ s.nibbles

-- the frame that carries it, its edges at the places from p on
abbrev pub exact_frame : Settings → ℕ → ℕ → Content → Sent
exact_frame s tick p x =
    record {
      place = p;
      calibration = 56 * tick;
      status = exact_pulse tick (p + 1) x.status;
      body = exact_pulses tick (p + 2) x.nibbles;
      check = exact_pulse tick (p + 2 + s.nibbles) (frame_check s x.nibbles);
    }

abbrev pub exact_frames : Settings → ℕ → ℕ → List Content → List Sent
exact_frames s tick p [] = []
exact_frames s tick p (x ∷ xs) = exact_frame s tick p x ∷ exact_frames s tick (p + 3 + s.nibbles) xs

-- at every tick length whose 56 ticks pass the window, whatever is sent, frames of exact pulses and a part of one more are a
-- clean series, whose completed frames are these
abbrev pub ExactSeriesClean : Settings → Type 0
ExactSeriesClean s =
    (tick p q t : ℕ) (xs : List Content) (y : Content) (some : ℕ) → window s (56 * tick) ≡ true → AllByRecursion (Sendable s) xs → Sendable s y → some < s.nibbles + 3
    → (z : CleanSeries s t (series t (exact_frames s tick p xs) ++ take some (frame_edges (series_end t (exact_frames s tick p xs)) (exact_frame s tick q y))))
    × (z.sent ≡ exact_frames s tick p xs)

-- The ends of the window

abbrev pub longest_pulse : Settings
longest_pulse = record { calibration = 4000000; nibbles = 1; long = lit≤ tt; short = lit≤ tt; some = lit≤ tt; few = lit≤ tt }

abbrev pub shortest_pulse : Settings
shortest_pulse = record { calibration = 560; nibbles = 1; long = lit≤ tt; short = lit≤ tt; some = lit≤ tt; few = lit≤ tt }

-- status 0 and data nibble 4, from a head a fifth slower than nominal, whose tick of 600,000 / 7 counts is no whole number
abbrev pub slow_frame : Sent
slow_frame =
    record {
      place = 1;
      calibration = 4800000;
      status = record { place = 2; interval = 1028571; value = 0 };
      body = record { place = 3; interval = 1371429; value = 4 } ∷ [];
      check = record { place = 4; interval = 1371429; value = 4 };
    }

-- the same from a head a fifth faster
abbrev pub fast_frame : Sent
fast_frame = exact_frame shortest_pulse 8 1 (record { status = 0; nibbles = 4 ∷ [] })

-- it comes as frame number 0, of the place 0
abbrev pub one_frame : List Outcome
one_frame = Quiet ∷ Quiet ∷ Quiet ∷ Quiet ∷ Framed (row 0 0 (4 ∷ 0 ∷ 0 ∷ 0 ∷ 0 ∷ 0 ∷ [])) ∷ []

-- Moved edges

-- status 0 and data nibble 4 at 10 counts a tick, the status nibble 3 counts long
abbrev pub uneven_frame : Sent
uneven_frame =
    record {
      place = 1;
      calibration = 560;
      status = record { place = 2; interval = 123; value = 0 };
      body = record { place = 3; interval = 160; value = 4 } ∷ [];
      check = record { place = 4; interval = 160; value = 4 };
    }

-- its status edge 3 counts late: the status is read as 1, and the data nibble as it was sent
abbrev pub moved_a_little : Arrival
moved_a_little = moved uneven_frame (Edge 2 686 ∷ Edge 3 843 ∷ Edge 4 1003 ∷ [])

-- 10 counts late: the data nibble is read as 3, and the check finds it
abbrev pub moved_a_tick : Arrival
moved_a_tick = moved uneven_frame (Edge 2 693 ∷ Edge 3 843 ∷ Edge 4 1003 ∷ [])

pub record LawsHaveInstances : Type 0 where
  pub slow_clean : Clean longest_pulse slow_frame
  pub slow_at_the_end : 5 * slow_frame.calibration ≡ 6 * longest_pulse.calibration
  pub slow_received : outcomes longest_pulse lost (Edge 0 0 ∷ series 0 (slow_frame ∷ [])) ≡ one_frame
  pub fast_clean : Clean shortest_pulse fast_frame
  pub fast_at_the_end : 5 * fast_frame.calibration ≡ 4 * shortest_pulse.calibration
  pub fast_received : outcomes shortest_pulse lost (Edge 0 0 ∷ series 0 (fast_frame ∷ [])) ≡ one_frame
  pub little_tolerable : Tolerable shortest_pulse 0 moved_a_little
  pub little_gives_a_frame :
      outcomes shortest_pulse lost (Edge 0 0 ∷ arrival_edges 0 moved_a_little) ≡ Quiet ∷ Quiet ∷ Quiet ∷ Quiet ∷ Framed (row 0 1 (4 ∷ 0 ∷ 0 ∷ 0 ∷ 0 ∷ 0 ∷ [])) ∷ []
  pub tick_tolerable : Tolerable shortest_pulse 0 moved_a_tick
  pub tick_gives_a_fault : outcomes shortest_pulse lost (Edge 0 0 ∷ arrival_edges 0 moved_a_tick) ≡ Quiet ∷ Quiet ∷ Quiet ∷ Quiet ∷ fault FrameCheck 4 ∷ []
