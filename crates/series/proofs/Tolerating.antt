-- Moved edges are tolerated.
use Rattle.std.proofs.Common.{◌≡◌, ℕ, zero, suc, ◌+◌, ◌<◌, Bool, true, false, List, [], ◌∷◌, ◌++◌, take, sym, refl, ap, ◌∙◌, subst, append_assoc, arith}
use Rattle.model.specs.declared.settings.Settings.{Settings}
use Rattle.model.specs.declared.event.Event.{Event}
use Rattle.model.specs.declared.event.Event.TheVariants.{Edge}
use Rattle.pulses.specs.declared.outcome.Outcome.{Outcome}
use Rattle.pulses.specs.declared.outcome.Outcome.TheVariants.{Quiet, Skipped, Framed, Failed}
use Rattle.pulses.specs.declared.frame.FrameRow.{FrameRow}
use Rattle.pulses.specs.Steps.{PulseState, lost, inside, gives, step, outcomes, after}
use Rattle.series.specs.Sent.{nibbles_of, frame_sent, edges, finish, next_place, next_time, Clean, Arrival, as_sent, moved, sent_of, nibble_edges, arrival_edges, arrivals, arrivals_end, Tolerable, AllTolerable}
use Rattle.series.specs.Series.{frames_of, reports_of, Calibrated, AtMostAFault, FairSoFar, Tolerated, unfinished, completed, MovedEdgesTolerated}
use Rattle.series.proofs.Opening.{Ready, after_frame_ready, Open, open_after, Mild, calm, cut_off, calibrates, begins}
use Rattle.series.proofs.Runs.{outcomes_from, outcomes_append, outcomes_take, outcomes_length}
use Rattle.series.proofs.Reading.{PassesQuiet, past_quiets, none_yet, reads}
use Rattle.series.proofs.Receiving.{mild_frames, past_cut}
use Rattle.series.proofs.Moving.{Turn, moved_turn, moved_part}

quiet_reports : PassesQuiet reports_of
quiet_reports = record { none = refl; on = λ os. refl }

-- the frames are among the reports
frames_reports : (os : List Outcome) → frames_of (reports_of os) ≡ frames_of os
frames_reports [] = refl
frames_reports (Quiet ∷ os) = frames_reports os
frames_reports (Skipped ∷ os) = frames_reports os
frames_reports (Framed r ∷ os) = ap (λ (rs : List FrameRow). r ∷ rs) (frames_reports os)
frames_reports (Failed f ∷ os) = frames_reports os

fault_frames : (rs : List Outcome) → AtMostAFault rs → frames_of rs ≡ []
fault_frames [] a = refl
fault_frames (Quiet ∷ rs) a = absurd a
fault_frames (Skipped ∷ rs) a = absurd a
fault_frames (Framed r ∷ rs) a = absurd a
fault_frames (Failed f ∷ rs) a = ap frames_of a

so_far_frames : (h : Arrival) (os : List Outcome) → FairSoFar h (reports_of os) → frames_of os ≡ []
so_far_frames (as_sent f) os a = sym (frames_reports os) ∙ ap frames_of a
so_far_frames (moved f es) os a = sym (frames_reports os) ∙ fault_frames (reports_of os) a

so_far_none : (h : Arrival) → FairSoFar h []
so_far_none (as_sent f) = refl
so_far_none (moved f es) = tt

-- the state inside the frame h, which started at the edge of the place u, and whose first nibble starts at the time t
abbrev pub begun : ℕ → ℕ → Arrival → PulseState
begun u t h = inside (sent_of h).place t u (sent_of h).calibration []

module _ (s : Settings) where
  pub clean_of : (h : Arrival) (t : ℕ) → Tolerable s t h → Clean s (sent_of h)
  clean_of (as_sent f) t r = r
  clean_of (moved f es) t r = r.0

  -- what one frame gives at the edges of its nibbles, whole
  pub turn : (h : Arrival) (t : ℕ) → Tolerable s t h → (u : ℕ) → Turn s u (t + (sent_of h).calibration) (sent_of h) h (nibble_edges (t + (sent_of h).calibration) h)
  turn (as_sent f) t r u =
      let t' : ℕ = t + f.calibration in
      let w = reads r u t' in
      record {
        report = Framed (frame_sent u f);
        just_one = ap reports_of w.out ∙ past_quiets quiet_reports (f.status ∷ f.body) (Framed (frame_sent u f) ∷ []);
        fair = refl;
        ready = subst (Ready f.check.place (finish t' (nibbles_of f))) (sym w.end) (after_frame_ready s f.check.place (finish t' (nibbles_of f)));
      }
  turn (moved f es) t r u = moved_turn s f r.0 u (t + f.calibration) es r.1

  -- and cut short
  pub part : (h : Arrival) (t : ℕ) → Tolerable s t h → (u m : ℕ) → m < s.nibbles + 2
      → FairSoFar h (reports_of (outcomes s (begun u (t + (sent_of h).calibration) h) (take m (nibble_edges (t + (sent_of h).calibration) h))))
  part (as_sent f) t r u m l =
      let t' : ℕ = t + f.calibration in
      ap reports_of (outcomes_take s (begun u t' (as_sent f)) m (edges t' (nibbles_of f)) ∙ ap (take m) (reads r u t').out)
      ∙ none_yet quiet_reports m (f.status ∷ f.body) _ (omega (arith, r.count))
  part (moved f es) t r u m l = moved_part s f r.0 u (t + f.calibration) es r.1 m l

  -- a frame whose calibration pulse was taken, and what follows it
  frame_on : (g : Arrival) (among : Bool) (h : Arrival) (t : ℕ) → Tolerable s t h → (u : ℕ) (hs : List Arrival) (x : PulseState) (o : Outcome) (es : List Event)
      → step s x (Edge (sent_of h).place (t + (sent_of h).calibration)) ≡ gives o (begun u (t + (sent_of h).calibration) h)
      → Calibrated among (o ∷ [])
      → ((y : PulseState) → Ready (next_place (sent_of h)) (next_time t (sent_of h)) y → Tolerated g true (next_place (sent_of h)) (next_time t (sent_of h)) hs es (outcomes s y es))
      → Tolerated g among u t (h ∷ hs) (arrival_edges t h ++ es) (outcomes s x (arrival_edges t h ++ es))
  frame_on g among h t r u hs x o es q cal more =
      let t' : ℕ = t + (sent_of h).calibration in
      let nib : List Event = nibble_edges t' h in
      let a = turn h t r u in
      let run : outcomes s x (arrival_edges t h ++ es) ≡ o ∷ (outcomes s (begun u t' h) nib ++ outcomes s (after s (begun u t' h) nib) es) =
      outcomes_from s x _ (nib ++ es) q ∙ ap (λ (os : List Outcome). o ∷ os) (outcomes_append s (begun u t' h) nib es) in
      subst (Tolerated g among u t (h ∷ hs) (arrival_edges t h ++ es)) (sym run)
      (completed
      (record {
        one_for_each_edge = outcomes_length s (begun u t' h) nib;
        calibrated = cal;
        report = a.report;
        just_one = a.just_one;
        fair = a.fair;
      })
      (more (after s (begun u t' h) nib) a.ready))

  module _ (g : Arrival) (m : ℕ) (few : m < s.nibbles + 3) where
    -- some edges of the unfinished frame
    cut : (among : Bool) (j : ℕ) → j < s.nibbles + 3 → (t : ℕ) → Tolerable s t g → (u : ℕ) (x : PulseState) (o : Outcome)
        → step s x (Edge (sent_of g).place (t + (sent_of g).calibration)) ≡ gives o (begun u (t + (sent_of g).calibration) g)
        → Calibrated among (o ∷ []) → Calibrated among [] → ((os : List Outcome) → frames_of (o ∷ os) ≡ frames_of os)
        → Tolerated g among u t [] (take j (arrival_edges t g)) (outcomes s x (take j (arrival_edges t g)))
    cut among zero l t r u x o q cal none mild = unfinished refl none refl (so_far_none g)
    cut among (suc j) l t r u x o q cal none mild =
        let t' : ℕ = t + (sent_of g).calibration in
        let es : List Event = take j (nibble_edges t' g) in
        let p = part g t r u j (omega arith) in
        let run : outcomes s x (take (suc j) (arrival_edges t g)) ≡ o ∷ outcomes s (begun u t' g) es =
        outcomes_from s x _ es q in
        subst (Tolerated g among u t [] (take (suc j) (arrival_edges t g))) (sym run)
        (unfinished (ap suc (outcomes_length s (begun u t' g) es)) cal (mild (outcomes s (begun u t' g) es) ∙ so_far_frames g (outcomes s (begun u t' g) es) p) p)

    mild_calibrated : {p : ℕ} {o : Outcome} → Mild p o → Calibrated false (o ∷ [])
    mild_calibrated calm = refl
    mild_calibrated cut_off = refl

    pub ready_tolerated : (hs : List Arrival) (t : ℕ) → AllTolerable s t hs → Tolerable s (arrivals_end t hs) g → (u : ℕ) (x : PulseState) → Ready u t x
        → Tolerated g true u t hs (arrivals t hs ++ take m (arrival_edges (arrivals_end t hs) g)) (outcomes s x (arrivals t hs ++ take m (arrival_edges (arrivals_end t hs) g)))
    ready_tolerated [] t a r u x i =
        cut true m few t r u x Quiet (calibrates s u t (sent_of g).place (sent_of g).calibration (clean_of g t r).passes i) refl refl (λ os. refl)
    ready_tolerated (h ∷ hs) t a r u x i =
        let e : ℕ = next_time t (sent_of h) in
        let es : List Event = arrivals e hs ++ take m (arrival_edges (arrivals_end e hs) g) in
        subst (λ (zs : List Event). Tolerated g true u t (h ∷ hs) zs (outcomes s x zs)) (sym (append_assoc (arrival_edges t h) (arrivals e hs) (take m (arrival_edges (arrivals_end e hs) g))))
        (frame_on g true h t a.0 u hs x Quiet es (calibrates s u t (sent_of h).place (sent_of h).calibration (clean_of h t a.0).passes i) refl
        (λ y j. ready_tolerated hs e a.1 r (next_place (sent_of h)) y j))

    pub open_tolerated : (hs : List Arrival) (t : ℕ) → AllTolerable s t hs → Tolerable s (arrivals_end t hs) g → (u : ℕ) (x : PulseState) → Open s u t x
        → Tolerated g false u t hs (arrivals t hs ++ take m (arrival_edges (arrivals_end t hs) g)) (outcomes s x (arrivals t hs ++ take m (arrival_edges (arrivals_end t hs) g)))
    open_tolerated [] t a r u x i =
        let b = begins s u t (sent_of g).place (sent_of g).calibration (clean_of g t r).passes i in
        cut false m few t r u x b.outcome b.is (mild_calibrated b.mild) refl (λ os. mild_frames os b.mild)
    open_tolerated (h ∷ hs) t a r u x i =
        let e : ℕ = next_time t (sent_of h) in
        let es : List Event = arrivals e hs ++ take m (arrival_edges (arrivals_end e hs) g) in
        let b = begins s u t (sent_of h).place (sent_of h).calibration (clean_of h t a.0).passes i in
        subst (λ (zs : List Event). Tolerated g false u t (h ∷ hs) zs (outcomes s x zs)) (sym (append_assoc (arrival_edges t h) (arrivals e hs) (take m (arrival_edges (arrivals_end e hs) g))))
        (frame_on g false h t a.0 u hs x b.outcome es b.is (mild_calibrated b.mild)
        (λ y j. ready_tolerated hs e a.1 r (next_place (sent_of h)) y j))

pub moved_edges_tolerated : (s : Settings) (es : List Event) → MovedEdgesTolerated s es (outcomes s lost es)
moved_edges_tolerated s es c z =
    let x : PulseState = (step s (after s lost c.before) (Edge c.place c.time)).state in
    subst (Tolerated z.cut_short false c.place c.time z.came c.rest) (sym (past_cut s c))
    (subst (λ (zs : List Event). Tolerated z.cut_short false c.place c.time z.came zs (outcomes s x zs)) (sym z.are)
    (open_tolerated s z.cut_short z.some z.not_all z.came c.time z.tolerable z.cut_tolerable c.place x (open_after s c.before c.place c.time)))
