-- The laws of a channel's pulses: what a clean series gives, and one in which edges were moved.
use Rattle.std.specs.Prelude.{◌≡◌, ℕ, ◌+◌, ◌<◌, Bool, true, false, List, [], ◌∷◌, ◌++◌, length, take, drop, Some, None, Option}
use Rattle.std.specs.List.{AllByRecursion, filter_map}
use Rattle.model.specs.declared.settings.Settings.{Settings}
use Rattle.model.specs.declared.event.Event.{Event}
use Rattle.model.specs.declared.event.Event.TheVariants.{Edge}
use Rattle.model.specs.declared.fault.Fault.{Fault}
use Rattle.pulses.specs.declared.frame.FrameRow.{FrameRow}
use Rattle.pulses.specs.declared.outcome.Outcome.{Outcome}
use Rattle.pulses.specs.declared.outcome.Outcome.TheVariants.{Quiet, Skipped, Framed, Failed}
use Rattle.pulses.specs.Frames.{packed, six}
use Rattle.series.specs.Sent.{Sent, values, frame_sent, frame_edges, next_place, next_time, series, series_end, Clean, Arrival, as_sent, moved, sent_of, nibble_edges, arrival_edges, arrivals, arrivals_end, Tolerable, AllTolerable}

-- the frame that an outcome brings, and the fault
abbrev pub frame_in : Outcome → Option FrameRow
frame_in Quiet = None
frame_in Skipped = None
frame_in (Framed r) = Some r
frame_in (Failed f) = None

abbrev pub fault_in : Outcome → Option Fault
fault_in Quiet = None
fault_in Skipped = None
fault_in (Framed r) = None
fault_in (Failed f) = Some f

-- the frames among outcomes, the faults, and both together
abbrev pub frames_of : List Outcome → List FrameRow
frames_of os = filter_map frame_in os

abbrev pub faults_of : List Outcome → List Fault
faults_of os = filter_map fault_in os

abbrev pub reports_of : List Outcome → List Outcome
reports_of [] = []
reports_of (Quiet ∷ os) = reports_of os
reports_of (Skipped ∷ os) = reports_of os
reports_of (Framed r ∷ os) = Framed r ∷ reports_of os
reports_of (Failed f ∷ os) = Failed f ∷ reports_of os

-- a list of events, cut at an edge: what came before it, and the rest
pub record Cut (es : List Event) : Type 0 where
  pub before : List Event
  pub place : ℕ
  pub time : ℕ
  pub rest : List Event
  pub is : es ≡ before ++ Edge place time ∷ rest

-- of the outcomes of all, one for each event, those of the rest: strictly after the step of the edge
abbrev pub past : {es : List Event} → Cut es → List Outcome → List Outcome
past c os = drop (length c.before + 1) os

-- A clean series goes on like this after its first edge, at the time t: the edges of clean frames, and then some edges, none
-- or more, of a clean frame that is cut short.
pub record CleanSeries (s : Settings) (t : ℕ) (es : List Event) : Type 0 where
  pub sent : List Sent
  pub clean : AllByRecursion (Clean s) sent
  pub cut_short : Sent
  pub cut_clean : Clean s cut_short
  pub some : ℕ
  pub not_all : some < s.nibbles + 3
  pub are : es ≡ series t sent ++ take some (frame_edges (series_end t sent) cut_short)

-- the rows of frames sent, the first of which starts at the edge of the place u
abbrev pub frames_sent : ℕ → List Sent → List FrameRow
frames_sent u [] = []
frames_sent u (f ∷ fs) = frame_sent u f ∷ frames_sent (next_place f) fs

-- what a clean series gives past its first edge: exactly the frames completed, and after the edge that ends its first
-- calibration pulse no fault
pub record Received (u : ℕ) (sent : List Sent) (os : List Outcome) : Type 0 where
  pub frames_exactly : frames_of os ≡ frames_sent u sent
  pub no_fault_after_calibration : faults_of (drop 1 os) ≡ []

-- of events and their outcomes: wherever the list is cut at an edge that starts a clean series, the series is received
abbrev pub CleanSeriesReceived : Settings → List Event → List Outcome → Type 0
CleanSeriesReceived s es os = (c : Cut es) (z : CleanSeries s c.time c.rest) → Received c.place z.sent (past c os)

-- the same where each frame, the one cut short too, may have one edge moved
pub record MovedSeries (s : Settings) (t : ℕ) (es : List Event) : Type 0 where
  pub came : List Arrival
  pub tolerable : AllTolerable s t came
  pub cut_short : Arrival
  pub cut_tolerable : Tolerable s (arrivals_end t came) cut_short
  pub some : ℕ
  pub not_all : some < s.nibbles + 3
  pub are : es ≡ arrivals t came ++ take some (arrival_edges (arrivals_end t came) cut_short)

-- what a frame may give that starts at the edge of the place u: the frame sent; with an edge moved, a frame of that place with
-- the data nibbles sent, or a fault
abbrev pub Fair : ℕ → Arrival → Outcome → Type 0
Fair u (as_sent f) o = o ≡ Framed (frame_sent u f)
Fair u (moved f es) Quiet = ⊥
Fair u (moved f es) Skipped = ⊥
Fair u (moved f es) (Framed r) = (r.place ≡ u) × (r.packed ≡ packed (six (values f.body)))
Fair u (moved f es) (Failed g) = Unit {0}

-- at an edge that ends a calibration pulse no frame comes, and nothing at all if a frame of the series came before
abbrev pub Calibrated : Bool → List Outcome → Type 0
Calibrated false os = frames_of os ≡ []
Calibrated true os = reports_of os ≡ []

-- the outcomes at the edges of one completed frame that starts at the edge (u, t): that of its calibration pulse, and those of its
-- nibbles, which give just one frame or fault
pub record FrameTolerated (among : Bool) (u t : ℕ) (h : Arrival) (calibration : Outcome) (nibbles : List Outcome) : Type 0 where
  pub one_for_each_edge : length nibbles ≡ length (nibble_edges (t + (sent_of h).calibration) h)
  pub calibrated : Calibrated among (calibration ∷ [])
  pub report : Outcome
  pub just_one : reports_of nibbles ≡ report ∷ []
  pub fair : Fair u h report

-- what the nibbles of an unfinished frame may give: nothing, or with an edge moved at most a fault
abbrev pub AtMostAFault : List Outcome → Type 0
AtMostAFault [] = Unit {0}
AtMostAFault (Quiet ∷ rs) = ⊥
AtMostAFault (Skipped ∷ rs) = ⊥
AtMostAFault (Framed r ∷ rs) = ⊥
AtMostAFault (Failed f ∷ rs) = rs ≡ []

-- the same by how the frame came: without a moved edge, nothing
abbrev pub FairSoFar : Arrival → List Outcome → Type 0
FairSoFar (as_sent f) rs = rs ≡ []
FairSoFar (moved f es) rs = AtMostAFault rs

-- Events past the edge (u, t) and their outcomes, frame by frame: first those of each completed frame, and then those of the
-- unfinished one, the frame g, which give no frame.
pub data Tolerated (g : Arrival) : Bool → ℕ → ℕ → List Arrival → List Event → List Outcome → Type 0 where
  unfinished : {among : Bool} {u t : ℕ} {es : List Event} {os : List Outcome}
      → length os ≡ length es → Calibrated among (take 1 os) → frames_of os ≡ [] → FairSoFar g (reports_of (drop 1 os)) → Tolerated g among u t [] es os
  completed : {among : Bool} {u t : ℕ} {h : Arrival} {hs : List Arrival} {calibration : Outcome} {nibbles os : List Outcome} {es : List Event}
      → FrameTolerated among u t h calibration nibbles
      → Tolerated g true (next_place (sent_of h)) (next_time t (sent_of h)) hs es os
      → Tolerated g among u t (h ∷ hs) (arrival_edges t h ++ es) (calibration ∷ (nibbles ++ os))

-- of events and their outcomes: wherever the list is cut at an edge that starts such a series, its frames are tolerated one by one
abbrev pub MovedEdgesTolerated : Settings → List Event → List Outcome → Type 0
MovedEdgesTolerated s es os =
    (c : Cut es) (z : MovedSeries s c.time c.rest) → Tolerated z.cut_short false c.place c.time z.came c.rest (past c os)
