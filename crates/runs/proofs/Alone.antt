-- A channel is undisturbed: what it reports in any run begins what it reports beside an empty source.
use Rattle.std.proofs.Common.{◌≡◌, ℕ, List, [], ◌∷◌, ◌++◌, length, sym, refl, ap, ◌∙◌, append-nil}
use Rattle.std.proofs.lemmas.Grind.{flat_map-append}
use Rattle.model.specs.declared.event.Event.{Event}
use Rattle.model.specs.declared.side.Side.{Side}
use Rattle.model.specs.declared.side.Side.TheVariants.{A as SideA, B as SideB}
use Rattle.receiver.specs.declared.answer.Call.{Call}
use Rattle.receiver.specs.declared.answer.Call.TheVariants.{Step as StepCall}
use Rattle.receiver.specs.declared.answer.StepRefusal.TheVariants.{NoEvent}
use Rattle.receiver.specs.declared.answer.Answer.TheVariants.{Refused}
use Rattle.receiver.specs.Channels.{Rules, ChannelState, fresh, given}
use Rattle.receiver.specs.Units.{Setup, UnitState, left, new, answer, answers, after_all}
use Rattle.runs.specs.Traces.{Said, said_by, Timed, timed, timed_reports}
use Rattle.runs.specs.Law.{beside_empty, steps, RunsOut, reports_alone, Undisturbed}
use Rattle.runs.proofs.Turns.{refused_only}
use Rattle.runs.proofs.Heard.{heard_after}
use Rattle.runs.proofs.Tracing.{spoken, spoken_append, Advance, run_advances}

-- what has been reported, and what would be reported of the rest, is what is reported of all
module _ {M : Type 0} {rules : Rules M} {c : ChannelState} {es : List Event} {said : List (Said M)} {then : ChannelState} {left_over : List Event} (a : Advance rules c es said then left_over) where
  yet_to_come : List (Timed M)
  yet_to_come = timed_reports (spoken rules (heard_after rules c a.taken) left_over)

  reports_of_all : timed_reports said ++ yet_to_come ≡ timed_reports (spoken rules c es)
  unfolding yet_to_come
  reports_of_all =
      ap (λ (xs : List (Said M)). timed_reports xs ++ yet_to_come) a.said_of_them
      ∙ sym (flat_map-append timed (spoken rules c a.taken) (spoken rules (heard_after rules c a.taken) left_over))
      ∙ ap timed_reports (sym (spoken_append rules c a.taken left_over))
      ∙ ap (λ (fs : List Event). timed_reports (spoken rules c fs)) (sym a.the_first_ones)

  reports_at_the_end : left_over ≡ [] → timed_reports said ≡ timed_reports (spoken rules c es)
  reports_at_the_end e =
      ap timed_reports a.said_of_them
      ∙ ap (λ (fs : List Event). timed_reports (spoken rules c fs))
      (sym (a.the_first_ones ∙ ap (λ (fs : List Event). a.taken ++ fs) e ∙ append-nil a.taken))

module _ {X Y : Type 0} (s : Setup X Y) where
  abbrev unit_of : List Event → List Event → ChannelState → ChannelState → UnitState
  unit_of xs ys c c' = record { left_a = xs; left_b = ys; channel_a = c; channel_b = c' }

  none_left : (u : UnitState) (d : Side) → answer s u StepCall ≡ Refused NoEvent → left u d ≡ []
  none_left u SideA h = (refused_only s u.channel_a u.channel_b u.left_a u.left_b NoEvent h).0
  none_left u SideB h = (refused_only s u.channel_a u.channel_b u.left_a u.left_b NoEvent h).1

  -- one list alone is at its end after as many steps as it has events
  a_runs_out : (xs : List Event) (c c' : ChannelState) → RunsOut s (unit_of xs [] c c') (length xs)
  a_runs_out [] c c' = refl
  a_runs_out (x ∷ xs) c c' = a_runs_out xs (given (s SideA) c x) c'

  b_runs_out : (ys : List Event) (c c' : ChannelState) → RunsOut s (unit_of [] ys c c') (length ys)
  b_runs_out [] c c' = refl
  b_runs_out (y ∷ ys) c c' = b_runs_out ys c (given (s SideB) c' y)

  module _ (from : Side → List Event) where
    alone_runs_out : (d : Side) → (n : ℕ) × RunsOut s (new (beside_empty d from)) n
    alone_runs_out SideA = (length (from SideA), a_runs_out (from SideA) fresh fresh)
    alone_runs_out SideB = (length (from SideB), b_runs_out (from SideB) fresh fresh)

    own_list : (d : Side) → beside_empty d from d ≡ from d
    own_list SideA = refl
    own_list SideB = refl

    -- beside an empty source the channel reports what it reports by itself
    alone_reports_all : (d : Side) (n : ℕ) → RunsOut s (new (beside_empty d from)) n → reports_alone s from d n ≡ timed_reports (spoken (s d) fresh (from d))
    alone_reports_all d n h =
        reports_at_the_end (run_advances s (beside_empty d from) (steps n) d) (none_left (after_all s (new (beside_empty d from)) (steps n)) d h)
        ∙ ap (λ (es : List Event). timed_reports (spoken (s d) fresh es)) (own_list d)

    pub run_undisturbed : (calls : List Call) (d : Side) → Undisturbed s from d (said_by d (answers s (new from) calls)) (left (after_all s (new from) calls) d)
    run_undisturbed calls d =
        let a = run_advances s from calls d in
        record {
          runs_out = alone_runs_out d;
          the_first_of_those_alone = λ n h. (yet_to_come a, reports_of_all a ∙ sym (alone_reports_all d n h));
          all_at_the_end = λ e n h. reports_at_the_end a e ∙ sym (alone_reports_all d n h);
        }
