use Rattle.std.proofs.Common.{◌≡◌, ℕ, ◌+◌, ◌<◌, ◌≤◌, true, ltb, List, [], ◌∷◌, ◌++◌, length, get_or, drop, None, vec_items, vec_capacity, sym, ap, ◌∙◌, subst, ap₂, append_assoc, append-nil, arith, rules}
use Rattle.std.proofs.lemmas.List.{at_drop_more, at_drop_all}
use Rattle.std.proofs.lemmas.Result.{MatchResult-at_ok}
use Rattle.std.proofs.lemmas.Bool.{le-ltb, cond-true, cond-false}
use Rattle.model.specs.declared.settings.Settings.{Settings}
use Rattle.model.specs.declared.event.Event.{Event}
use Rattle.pulses.specs.declared.outcome.Outcome.{Outcome}
use Rattle.pulses.specs.Decoding.{state_of}
use Rattle.series.specs.Running.{in_time, run_refused}
use Rattle.series.specs.Series.{CleanSeriesReceived, MovedEdgesTolerated}
use Rattle.pulses.specs.Steps.{PulseState, lost, step, outcomes, after}
use Rattle.series.proofs.Receiving.{clean_series_received}
use Rattle.series.proofs.Tolerating.{moved_edges_tolerated}
use Rattle.series.proofs.decoding.decode.Goals as goal

-- one event more
module _ (s : Settings) {j : Settings} (x : PulseState) {y : PulseState} {o : Outcome} (es : List Event) (i : ℕ) (d : Event) (l : i < length es) (same : j ≡ s)
    (out : o ≡ (step j x (get_or es i d)).outcome) (end : y ≡ (step j x (get_or es i d)).state) where
  outcomes_on : (before : List Outcome) {now : List Outcome} → now ≡ before ++ o ∷ [] → now ++ outcomes s y (drop (i + 1) es) ≡ before ++ outcomes s x (drop i es)
  outcomes_on before e =
      let out' : o ≡ (step s x (get_or es i d)).outcome = out ∙ ap (λ (k : Settings). (step k x (get_or es i d)).outcome) same in
      let end' : y ≡ (step s x (get_or es i d)).state = end ∙ ap (λ (k : Settings). (step k x (get_or es i d)).state) same in
      ap (λ (os : List Outcome). os ++ outcomes s y (drop (i + 1) es)) e ∙ append_assoc before (o ∷ []) (outcomes s y (drop (i + 1) es))
      ∙ ap (λ (os : List Outcome). before ++ os)
      (ap₂ (λ (p : Outcome) (z : PulseState). p ∷ outcomes s z (drop (i + 1) es)) out' end' ∙ sym (at_drop_more (outcomes s x) es i d l))

  after_on : after s y (drop (i + 1) es) ≡ after s x (drop i es)
  after_on =
      let end' : y ≡ (step s x (get_or es i d)).state = end ∙ ap (λ (k : Settings). (step k x (get_or es i d)).state) same in
      ap (λ (z : PulseState). after s z (drop (i + 1) es)) end' ∙ sym (at_drop_more (after s x) es i d l)

pub loop-event-preserved : goal.loop-event-preserved
loop-event-preserved c =
    let inv = c.loop-event.invariant in
    let s : Settings = c.prepare-decoder.result.settings in
    let a = MatchResult-at_ok _ _ c.unwrap.result c.unwrap.ensures c.step.ensures.answer in
    let l : c.loop-event.event-index < length c.args.events.now = omega arith in (
      outcomes_on s (state_of c.loop-event.decoder) c.args.events.now c.loop-event.event-index _ l inv.2 a.1 a.2 (vec_items c.loop-event.out) c.push_reserved.ensures.items ∙ inv.0,
      after_on s (state_of c.loop-event.decoder) c.args.events.now c.loop-event.event-index _ l inv.2 a.1 a.2 ∙ inv.1,
      c.step.ensures.settings_stay ∙ inv.2,
      search rules,
      search rules,
      c.push_reserved.ensures.capacity ∙ inv.5,
    )

-- not refused
free : (es : List Event) (room : ℕ) → length es ≤ room → in_time es ≡ true → run_refused es room ≡ None
free es room h t = cond-false (ltb room (length es)) _ _ (le-ltb room (length es) h) ∙ cond-true (in_time es) _ _ t

pub returns : goal.returns
returns c =
    let inv = c.loop-event.invariant in
    let es : List Event = c.args.events.now in
    let s : Settings = c.prepare-decoder.result.settings in
    let is : s ≡ c.args.settings = c.prepare-decoder.ensures.settings_kept in
    let i : length es ≤ c.loop-event.event-index = omega arith in
    let items : vec_items c.loop-event.out ≡ outcomes c.args.settings lost es =
    sym (append-nil (vec_items c.loop-event.out))
    ∙ sym (at_drop_all (λ (zs : List Event). vec_items c.loop-event.out ++ outcomes s (state_of c.loop-event.decoder) zs) es c.loop-event.event-index i)
    ∙ inv.0 ∙ ap (λ (k : Settings). outcomes k lost es) is in
    let end : state_of c.loop-event.decoder ≡ after c.args.settings lost es =
    sym (at_drop_all (after s (state_of c.loop-event.decoder)) es c.loop-event.event-index i) ∙ inv.1 ∙ ap (λ (k : Settings). after k lost es) is in
    record {
      answer = (free es (vec_capacity c.args.out.now) (omega arith) (search rules), items, inv.2 ∙ is, end);
      room_stays = inv.5 ∙ c.clear.ensures.capacity;
      clean_series_received = subst (CleanSeriesReceived c.args.settings es) (sym items) (clean_series_received c.args.settings es);
      moved_edges_tolerated = subst (MovedEdgesTolerated c.args.settings es) (sym items) (moved_edges_tolerated c.args.settings es);
    }
