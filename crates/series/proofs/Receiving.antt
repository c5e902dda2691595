-- Clean series are received.
use Rattle.std.proofs.Common.{◌≡◌, ℕ, zero, suc, ◌+◌, ◌<◌, List, [], ◌∷◌, ◌++◌, length, take, drop, sym, refl, ap, ◌∙◌, subst, ap₂, append_assoc, arith}
use Rattle.std.specs.List.{AllByRecursion}
use Rattle.std.proofs.lemmas.List.Elements.{filter_map-append}
use Rattle.model.specs.declared.settings.Settings.{Settings}
use Rattle.model.specs.declared.event.Event.{Event}
use Rattle.model.specs.declared.event.Event.TheVariants.{Edge}
use Rattle.model.specs.declared.fault.Fault.{Fault}
use Rattle.pulses.specs.declared.frame.FrameRow.{FrameRow}
use Rattle.pulses.specs.declared.outcome.Outcome.{Outcome}
use Rattle.pulses.specs.declared.outcome.Outcome.TheVariants.{Quiet, Framed}
use Rattle.pulses.specs.Steps.{PulseState, lost, inside, after_frame, step, outcomes, after}
use Rattle.series.specs.Sent.{Sent, nibbles_of, frame_sent, edges, frame_edges, next_place, next_time, series, series_end, Clean}
use Rattle.series.specs.Series.{frame_in, fault_in, frames_of, faults_of, Cut, past, frames_sent, Received, CleanSeriesReceived}
use Rattle.series.proofs.Opening.{Ready, after_frame_ready, Open, open_after, Mild, calm, cut_off, calibrates, begins}
use Rattle.series.proofs.Runs.{outcomes_from, outcomes_append, outcomes_take, outcomes_past}
use Rattle.series.proofs.Reading.{PassesQuiet, past_quiets, none_yet, given, reads}

-- outcomes that give exactly the frames sent
pub record Exactly (u : ℕ) (sent : List Sent) (os : List Outcome) : Type 0 where
  pub frames : frames_of os ≡ frames_sent u sent
  pub no_fault : faults_of os ≡ []

quiet_frames : PassesQuiet frames_of
quiet_frames = record { none = refl; on = λ os. refl }

quiet_faults : PassesQuiet faults_of
quiet_faults = record { none = refl; on = λ os. refl }

pub mild_frames : {p : ℕ} {o : Outcome} (os : List Outcome) → Mild p o → frames_of (o ∷ os) ≡ frames_of os
mild_frames os calm = refl
mild_frames os cut_off = refl

module _ (s : Settings) (g : Sent) (gr : Clean s g) (m : ℕ) (few : m < s.nibbles + 3) where
  -- inside a frame whose calibration pulse was taken: some edges of its nibbles, not all
  some_nibbles : (j u t : ℕ) → j < s.nibbles + 2 → Exactly u [] (outcomes s (inside g.place t u g.calibration []) (take j (edges t (nibbles_of g))))
  some_nibbles j u t l =
      let run = outcomes_take s (inside g.place t u g.calibration []) j (edges t (nibbles_of g)) ∙ ap (take j) (reads gr u t).out in
      record {
        frames = ap frames_of run ∙ none_yet quiet_frames j (g.status ∷ g.body) _ (omega (arith, gr.count));
        no_fault = ap faults_of run ∙ none_yet quiet_faults j (g.status ∷ g.body) _ (omega (arith, gr.count));
      }

  -- all of them, and then what follows
  then_more : (f : Sent) → Clean s f → (u t : ℕ) (fs : List Sent) (es : List Event)
      → ((x : PulseState) → Ready (next_place f) (next_time t f) x → Exactly (next_place f) fs (outcomes s x es))
      → Exactly u (f ∷ fs) (outcomes s (inside f.place (t + f.calibration) u f.calibration []) (edges (t + f.calibration) (nibbles_of f) ++ es))
  then_more f r u t fs es more =
      let t' : ℕ = t + f.calibration in
      let x : PulseState = inside f.place t' u f.calibration [] in
      let w = reads r u t' in
      let b = more (after_frame s f.check.place (next_time t f)) (after_frame_ready s f.check.place (next_time t f)) in
      let run : outcomes s x (edges t' (nibbles_of f) ++ es) ≡ given u f ++ outcomes s (after_frame s f.check.place (next_time t f)) es =
      outcomes_append s x (edges t' (nibbles_of f)) es ∙ ap₂ (λ (os : List Outcome) (y : PulseState). os ++ outcomes s y es) w.out w.end in
      record {
        frames = ap frames_of run ∙ filter_map-append frame_in (given u f) _
            ∙ ap₂ (λ (rs qs : List FrameRow). rs ++ qs) (past_quiets quiet_frames (f.status ∷ f.body) (Framed (frame_sent u f) ∷ [])) b.frames;
        no_fault = ap faults_of run ∙ filter_map-append fault_in (given u f) _
            ∙ ap₂ (λ (rs qs : List Fault). rs ++ qs) (past_quiets quiet_faults (f.status ∷ f.body) (Framed (frame_sent u f) ∷ [])) b.no_fault;
      }

  -- from a ready state on
  pub ready_exactly : (fs : List Sent) → AllByRecursion (Clean s) fs → (u t : ℕ) {x : PulseState} → Ready u t x
      → Exactly u fs (outcomes s x (series t fs ++ take m (frame_edges (series_end t fs) g)))
  ready_exactly [] a u t {x} i = cut m few
    where
      cut : (j : ℕ) → j < s.nibbles + 3 → Exactly u [] (outcomes s x (take j (frame_edges t g)))
      cut zero l = record { frames = refl; no_fault = refl }
      cut (suc j) l =
          let n = some_nibbles j u (t + g.calibration) (omega arith) in
          let run : outcomes s x (take (suc j) (frame_edges t g)) ≡ Quiet ∷ outcomes s (inside g.place (t + g.calibration) u g.calibration []) (take j (edges (t + g.calibration) (nibbles_of g))) =
          outcomes_from s x _ (take j (edges (t + g.calibration) (nibbles_of g))) (calibrates s u t g.place g.calibration gr.passes i) in
          record { frames = ap frames_of run ∙ n.frames; no_fault = ap faults_of run ∙ n.no_fault }
  ready_exactly (f ∷ fs) a u t {x} i =
      let t' : ℕ = t + f.calibration in
      let es : List Event = series (next_time t f) fs ++ take m (frame_edges (series_end (next_time t f) fs) g) in
      let n = then_more f a.0 u t fs es (λ y k. ready_exactly fs a.1 (next_place f) (next_time t f) k) in
      let run : outcomes s x ((frame_edges t f ++ series (next_time t f) fs) ++ take m (frame_edges (series_end (next_time t f) fs) g))
      ≡ Quiet ∷ outcomes s (inside f.place t' u f.calibration []) (edges t' (nibbles_of f) ++ es) =
      ap (outcomes s x) (append_assoc (frame_edges t f) (series (next_time t f) fs) _)
      ∙ outcomes_from s x _ (edges t' (nibbles_of f) ++ es) (calibrates s u t f.place f.calibration a.0.passes i) in
      record { frames = ap frames_of run ∙ n.frames; no_fault = ap faults_of run ∙ n.no_fault }

  -- from any state after an edge on: the first calibration pulse may show that a frame was cut off
  pub open_received : (fs : List Sent) → AllByRecursion (Clean s) fs → (u t : ℕ) {x : PulseState} → Open s u t x
      → Received u fs (outcomes s x (series t fs ++ take m (frame_edges (series_end t fs) g)))
  open_received [] a u t {x} i = cut m few
    where
      cut : (j : ℕ) → j < s.nibbles + 3 → Received u [] (outcomes s x (take j (frame_edges t g)))
      cut zero l = record { frames_exactly = refl; no_fault_after_calibration = refl }
      cut (suc j) l =
          let n = some_nibbles j u (t + g.calibration) (omega arith) in
          let b = begins s u t g.place g.calibration gr.passes i in
          let rest : List Outcome = outcomes s (inside g.place (t + g.calibration) u g.calibration []) (take j (edges (t + g.calibration) (nibbles_of g))) in
          let run : outcomes s x (take (suc j) (frame_edges t g)) ≡ b.outcome ∷ rest = outcomes_from s x _ (take j (edges (t + g.calibration) (nibbles_of g))) b.is in
          record { frames_exactly = ap frames_of run ∙ mild_frames rest b.mild ∙ n.frames; no_fault_after_calibration = ap (λ (os : List Outcome). faults_of (drop 1 os)) run ∙ n.no_fault }
  open_received (f ∷ fs) a u t {x} i =
      let t' : ℕ = t + f.calibration in
      let es : List Event = series (next_time t f) fs ++ take m (frame_edges (series_end (next_time t f) fs) g) in
      let n = then_more f a.0 u t fs es (λ y k. ready_exactly fs a.1 (next_place f) (next_time t f) k) in
      let b = begins s u t f.place f.calibration a.0.passes i in
      let rest : List Outcome = outcomes s (inside f.place t' u f.calibration []) (edges t' (nibbles_of f) ++ es) in
      let run : outcomes s x ((frame_edges t f ++ series (next_time t f) fs) ++ take m (frame_edges (series_end (next_time t f) fs) g)) ≡ b.outcome ∷ rest =
      ap (outcomes s x) (append_assoc (frame_edges t f) (series (next_time t f) fs) _)
      ∙ outcomes_from s x _ (edges t' (nibbles_of f) ++ es) b.is in
      record { frames_exactly = ap frames_of run ∙ mild_frames rest b.mild ∙ n.frames; no_fault_after_calibration = ap (λ (os : List Outcome). faults_of (drop 1 os)) run ∙ n.no_fault }

-- the outcomes of the rest, by the state after the cut
pub past_cut : (s : Settings) {es : List Event} (c : Cut es) → past c (outcomes s lost es) ≡ outcomes s (step s (after s lost c.before) (Edge c.place c.time)).state c.rest
past_cut s c =
    ap (λ (es : List Event). drop (length c.before + 1) (outcomes s lost es)) c.is
    ∙ outcomes_past s lost c.before (Edge c.place c.time) c.rest

pub clean_series_received : (s : Settings) (es : List Event) → CleanSeriesReceived s es (outcomes s lost es)
clean_series_received s es c z =
    subst (Received c.place z.sent)
    (ap (outcomes s (step s (after s lost c.before) (Edge c.place c.time)).state) (sym z.are) ∙ sym (past_cut s c))
    (open_received s z.cut_short z.cut_clean z.some z.not_all z.sent z.clean c.place c.time (open_after s c.before c.place c.time))
