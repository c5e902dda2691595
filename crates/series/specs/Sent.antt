-- What a head sends: frames of pulses, when a frame is clean, and how an edge may be moved.
use Rattle.std.specs.Prelude.{◌≡◌, ℕ, ◌+◌, ◌*◌, ◌<◌, ◌≤◌, true, List, [], ◌∷◌, ◌++◌, map, length}
use Rattle.std.specs.List.{AllByRecursion}
use Rattle.model.specs.declared.settings.Settings.{Settings}
use Rattle.model.specs.declared.event.Event.{Event}
use Rattle.model.specs.declared.event.Event.TheVariants.{Edge}
use Rattle.pulses.specs.declared.frame.FrameRow.{FrameRow}
use Rattle.pulses.specs.Intervals.{window}
use Rattle.pulses.specs.Frames.{row, six, frame_check}

-- the pulse of a nibble: the place of the edge that ends it, its interval in counts, and the value sent
pub record NibblePulse : Type 0 where
  pub place : ℕ
  pub interval : ℕ
  pub value : ℕ

-- a frame as it was sent: the place of the edge that ends its calibration pulse, its calibration interval, and the pulses of the
-- status nibble, the data nibbles and the check nibble
pub record Sent : Type 0 where
  pub place : ℕ
  pub calibration : ℕ
  pub status : NibblePulse
  pub body : List NibblePulse
  pub check : NibblePulse

-- all its nibbles: status, data, check
abbrev pub nibbles_of : Sent → List NibblePulse
nibbles_of f = f.status ∷ (f.body ++ f.check ∷ [])

-- the values sent in pulses
abbrev pub values : List NibblePulse → List ℕ
values xs = map (λ x. x.value) xs

-- the row that a frame should give that starts at the edge of the place u
abbrev pub frame_sent : ℕ → Sent → FrameRow
frame_sent u f = row u f.status.value (six (values f.body))

-- the edges that end pulses, the first of which starts at the time t
abbrev pub edges : ℕ → List NibblePulse → List Event
edges t [] = []
edges t (x ∷ xs) = Edge x.place (t + x.interval) ∷ edges (t + x.interval) xs

-- the time at which pulses end, the first of which starts at the time t
abbrev pub finish : ℕ → List NibblePulse → ℕ
finish t [] = t
finish t (x ∷ xs) = finish (t + x.interval) xs

-- the edges of a frame that starts at an edge of the time t: the one that ends its calibration pulse, and those that end its nibbles
abbrev pub frame_edges : ℕ → Sent → List Event
frame_edges t f = Edge f.place (t + f.calibration) ∷ edges (t + f.calibration) (nibbles_of f)

-- where the frame after f starts: at the edge that ends f, of this place and, if f starts at the time t, of this time
abbrev pub next_place : Sent → ℕ
next_place f = f.check.place

abbrev pub next_time : ℕ → Sent → ℕ
next_time t f = finish (t + f.calibration) (nibbles_of f)

-- the edges of frames back to back, and the time at which the last one ends
abbrev pub series : ℕ → List Sent → List Event
series t [] = []
series t (f ∷ fs) = frame_edges t f ++ series (next_time t f) fs

abbrev pub series_end : ℕ → List Sent → ℕ
series_end t [] = t
series_end t (f ∷ fs) = series_end (next_time t f) fs

-- a and b differ by at most r
abbrev pub Within : ℕ → ℕ → ℕ → Type 0
Within r a b = (a ≤ b + r) × (b ≤ a + r)

-- A frame is clean if its calibration interval passes the window, its nibbles are nibbles, as many as the settings say, the check
-- nibble fits the data nibbles, and there are a tick of p / q counts and a tolerance of e counts, less than a 166th of the
-- calibration interval, such that each interval is within e counts of its length in ticks: 56, and 12 and the value.
pub record Clean (s : Settings) (f : Sent) : Type 0 where
  pub e : ℕ
  pub p : ℕ
  pub q : ℕ
  pub p_some : 1 ≤ p
  pub q_some : 1 ≤ q
  pub passes : window s f.calibration ≡ true
  pub tight : 166 * e < f.calibration
  pub calibration_even : Within (q * e) (q * f.calibration) (56 * p)
  pub nibbles_even : AllByRecursion (λ x. Within (q * e) (q * x.interval) ((12 + x.value) * p)) (nibbles_of f)
  pub nibbles_small : AllByRecursion (λ x. x.value < 16) (nibbles_of f)
  pub count : length f.body ≡ s.nibbles
  pub fits : f.check.value ≡ frame_check s (values f.body)

-- One of the edges at the ends of a frame's nibbles comes early or late: m counts from its time, where 56 × m is no more than the
-- calibration interval c, which is a tick at most. The last of them, at the end of the check nibble, stays.
pub data OneMoved (c : ℕ) : List Event → List Event → Type 0 where
  here : {p t t' : ℕ} {e : Event} {es : List Event} (m : ℕ) → 56 * m ≤ c → Within m t' t → OneMoved c (Edge p t ∷ e ∷ es) (Edge p t' ∷ e ∷ es)
  later : {e : Event} {es es' : List Event} → OneMoved c es es' → OneMoved c (e ∷ es) (e ∷ es')

-- a frame that arrived as it was sent, or with these edges at the ends of its nibbles, one of them moved
pub data Arrival : Type 0 where
  as_sent : Sent → Arrival
  moved : Sent → List Event → Arrival

-- the frame that was sent
abbrev pub sent_of : Arrival → Sent
sent_of (as_sent f) = f
sent_of (moved f es) = f

-- the edges that end its nibbles, the first of which starts at the time t
abbrev pub nibble_edges : ℕ → Arrival → List Event
nibble_edges t (as_sent f) = edges t (nibbles_of f)
nibble_edges t (moved f es) = es

-- all its edges, where it starts at an edge of the time t
abbrev pub arrival_edges : ℕ → Arrival → List Event
arrival_edges t h = Edge (sent_of h).place (t + (sent_of h).calibration) ∷ nibble_edges (t + (sent_of h).calibration) h

-- frames back to back: a moved edge does not move where the next frame starts
abbrev pub arrivals : ℕ → List Arrival → List Event
arrivals t [] = []
arrivals t (h ∷ hs) = arrival_edges t h ++ arrivals (next_time t (sent_of h)) hs

abbrev pub arrivals_end : ℕ → List Arrival → ℕ
arrivals_end t [] = t
arrivals_end t (h ∷ hs) = arrivals_end (next_time t (sent_of h)) hs

-- a clean frame that starts at the time t, with at most one such edge moved
abbrev pub Tolerable : Settings → ℕ → Arrival → Type 0
Tolerable s t (as_sent f) = Clean s f
Tolerable s t (moved f es) = Clean s f × OneMoved f.calibration (edges (t + f.calibration) (nibbles_of f)) es

-- frames back to back from the time t on, each of them so
abbrev pub AllTolerable : Settings → ℕ → List Arrival → Type 0
AllTolerable s t [] = Unit {0}
AllTolerable s t (h ∷ hs) = Tolerable s t h × AllTolerable s (next_time t (sent_of h)) hs
