-- What is heard, cut at an entry: the events are cut there, and the rest is heard from the channel after the entry's event.
use Rattle.std.proofs.Common.{◌≡◌, List, [], ◌∷◌, ◌++◌, sym, refl, ap, ◌∙◌, subst}
use Rattle.std.proofs.lemmas.List.{map-append}
use Rattle.model.specs.declared.event.Event.{Event}
use Rattle.model.specs.declared.event.Event.TheVariants.{Edge}
use Rattle.pulses.specs.Steps.{PulseState, step, outcomes, after}
use Rattle.series.specs.Series.{Cut, CleanSeries, Received}
use Rattle.series.proofs.Receiving.{past_cut, clean_series_received}
use Rattle.receiver.specs.Channels.{Rules, ChannelState, fresh, reports, given}
use Rattle.runs.specs.Traces.{Entry, events_of}
use Rattle.runs.specs.Law.{CutTrace}
use Rattle.runs.proofs.Heard.{heard, heard_after, heard_events}

module _ {M : Type 0} (rules : Rules M) where
  pub heard_pulses : (c : ChannelState) (es : List Event) → (heard_after rules c es).pulses ≡ after rules.settings c.pulses es
  heard_pulses c [] = refl
  heard_pulses c (e ∷ es) = heard_pulses (given rules c e) es

  rest_heard : (c : ChannelState) (es : List Event) (before : List (Entry M)) (x : Entry M) (rest : List (Entry M)) → heard rules c es ≡ before ++ x ∷ rest
      → rest ≡ heard rules (given rules (heard_after rules c (events_of before)) x.event) (events_of rest)
  rest_heard c [] [] x rest e = cc
  rest_heard c [] (b ∷ before) x rest e = cc
  rest_heard c (v ∷ es) [] x rest e =
      let first : record { event = v; said = reports rules c v } ≡ x = cc in
      let others : heard rules (given rules c v) es ≡ rest = cc in
      let same : es ≡ events_of rest = sym (heard_events rules (given rules c v) es) ∙ ap events_of others in
      subst (λ (i : Event). rest ≡ heard rules (given rules c i) (events_of rest)) (ap (λ (i : Entry M). i.event) first)
      (sym others ∙ ap (heard rules (given rules c v)) same)
  rest_heard c (v ∷ es) (b ∷ before) x rest e =
      let first : record { event = v; said = reports rules c v } ≡ b = cc in
      let others : heard rules (given rules c v) es ≡ before ++ x ∷ rest = cc in
      subst (λ (i : Event). rest ≡ heard rules (given rules (heard_after rules (given rules c i) (events_of before)) x.event) (events_of rest))
      (ap (λ (i : Entry M). i.event) first)
      (rest_heard (given rules c v) es before x rest others)

  module _ (es : List Event) (c : CutTrace (heard rules fresh es)) where
    -- the channel after the edge at which its trace is cut
    abbrev pub channel_at : ChannelState
    channel_at = given rules (heard_after rules fresh (events_of c.before)) (Edge c.place c.time)

    pub cut_rest : c.rest ≡ heard rules channel_at (events_of c.rest)
    cut_rest =
        subst (λ (i : Event). c.rest ≡ heard rules (given rules (heard_after rules fresh (events_of c.before)) i) (events_of c.rest)) c.at_an_edge
        (rest_heard fresh es c.before c.first c.rest c.is)

    pub cut_events : es ≡ events_of c.before ++ Edge c.place c.time ∷ events_of c.rest
    cut_events =
        sym (heard_events rules fresh es) ∙ ap events_of c.is ∙ map-append (λ x. x.event) c.before (c.first ∷ c.rest)
        ∙ ap (λ (i : Event). events_of c.before ++ i ∷ events_of c.rest) c.at_an_edge

    -- a clean series that starts at the edge is received
    pub cut_received : (z : CleanSeries rules.settings c.time (events_of c.rest))
        → Received c.place z.sent (outcomes rules.settings channel_at.pulses (events_of c.rest))
    cut_received z =
        let s = rules.settings in
        let cut : Cut es = record { before = events_of c.before; place = c.place; time = c.time; rest = events_of c.rest; is = cut_events } in
        subst (Received c.place z.sent)
        (past_cut s cut
        ∙ ap (λ (x : PulseState). outcomes s (step s x (Edge c.place c.time)).state (events_of c.rest)) (sym (heard_pulses fresh (events_of c.before))))
        (clean_series_received s es cut z)
