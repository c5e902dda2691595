-- A channel's pulses: the state between events, and what one event gives.
use Rattle.std.specs.Prelude.{ℕ, ◌-◌, ◌^◌, ◌<◌, cond, List, [], ◌∷◌, ◌++◌, length, drop, ◌==◌, nat_le, nat_lt, slice_index}
use Rattle.model.specs.declared.settings.Settings.{Settings}
use Rattle.model.specs.declared.event.Event.{Event}
use Rattle.model.specs.declared.event.Event.TheVariants.{Edge, Break}
use Rattle.model.specs.declared.fault.FaultKind.{FaultKind}
use Rattle.model.specs.declared.fault.FaultKind.TheVariants as kind
use Rattle.pulses.specs.declared.outcome.Outcome.{Outcome}
use Rattle.pulses.specs.declared.outcome.Outcome.TheVariants.{Quiet, Skipped, Framed, Failed}
use Rattle.pulses.specs.Intervals.{window, ticks, apart}
use Rattle.pulses.specs.Frames.{row, six, frame_check}

-- The state of a channel's pulses. All but the first know the place and the time of the last edge.
-- * lost: there is no last edge;
-- * hunting: a calibration pulse is looked for;
-- * expecting: a frame has just ended, so a calibration pulse is due;
-- * inside: a calibration pulse was taken, and then these nibbles; the third number is the place of the edge that starts the
--   frame, the fourth its calibration interval.
pub data PulseState : Type 0 where
  lost : PulseState
  hunting : ℕ → ℕ → PulseState
  expecting : ℕ → ℕ → PulseState
  inside : ℕ → ℕ → ℕ → ℕ → List ℕ → PulseState

-- what a step gives, and the state that it leaves
pub record Stepped : Type 0 where
  pub outcome : Outcome
  pub state : PulseState

abbrev pub gives : Outcome → PulseState → Stepped
gives o x = record { outcome = o; state = x }

-- a fault at the event of the place p
abbrev pub fault : FaultKind → ℕ → Outcome
fault k p = Failed (record { kind = k; place = p })

-- the state that a frame leaves, at the edge that ends its check nibble
unfoldable pub after_frame : Settings → ℕ → ℕ → PulseState
after_frame s p t = expecting p t

-- an interval d from the last edge, of the place u, to the edge (p, t), where a calibration pulse may begin a frame;
-- o is the outcome if it is none
abbrev pub sought : Settings → Outcome → ℕ → ℕ → ℕ → ℕ → Stepped
sought s o u p t d =
    cond (window s d) (gives Quiet (inside p t u d []))
    (gives o (hunting p t))

-- a nibble v that ends at the edge (p, t), in a frame that started at the place `from`: kept, or the check nibble
abbrev pub nibble : Settings → ℕ → ℕ → ℕ → ℕ → List ℕ → ℕ → Stepped
nibble s p t from c kept v =
    cond (nat_le (length kept) s.nibbles) (gives Quiet (inside p t from c (kept ++ v ∷ [])))
    (cond (v == frame_check s (drop 1 kept)) (gives (Framed (row from (slice_index kept 0) (six (drop 1 kept)))) (after_frame s p t))
    (gives (fault kind.FrameCheck p) (after_frame s p t)))

-- an interval d of m ticks inside a frame
abbrev pub measured : Settings → ℕ → ℕ → ℕ → ℕ → ℕ → List ℕ → ℕ → ℕ → Stepped
measured s u p t from c kept d m =
    cond (nat_lt m 12) (gives (fault kind.ShortNibble p) (hunting p t))
    (cond (nat_lt 27 m) (gives (fault kind.LongNibble p) (cond (window s d) (inside p t u d []) (hunting p t)))
    (nibble s p t from c kept (m - 12)))

-- r, if an interval can be taken from the last edge, at the time w, to the edge (p, t)
abbrev pub timed : ℕ → ℕ → ℕ → Stepped → Stepped
timed w p t r = cond (apart w t) (gives (fault kind.Interval p) (hunting p t)) r

-- what an event leads to, by state and event
abbrev pub table : Settings → PulseState → Event → Stepped
table s x (Break p t) = gives (fault kind.Break p) lost
table s lost (Edge p t) = gives Quiet (hunting p t)
table s (hunting u w) (Edge p t) = timed w p t (sought s Skipped u p t (t - w))
table s (expecting u w) (Edge p t) = timed w p t (sought s (fault kind.Calibration p) u p t (t - w))
table s (inside u w from c kept) (Edge p t) = timed w p t (measured s u p t from c kept (t - w) (ticks c (t - w)))

-- the step of a channel on one event
unfoldable pub step : Settings → PulseState → Event → Stepped
step s x e = table s x e

-- every nibble of a frame given is below 16
abbrev pub Proper : Outcome → Type 0
Proper Quiet = Unit {0}
Proper Skipped = Unit {0}
Proper (Framed r) = (r.status < 16) × (r.packed < 2 ^ 24)
Proper (Failed f) = Unit {0}

-- the outcomes of a list of events, in their order, and the state after them
abbrev pub outcomes : Settings → PulseState → List Event → List Outcome
outcomes s x [] = []
outcomes s x (e ∷ es) = (step s x e).outcome ∷ outcomes s (step s x e).state es

abbrev pub after : Settings → PulseState → List Event → PulseState
after s x [] = x
after s x (e ∷ es) = after s (step s x e).state es
