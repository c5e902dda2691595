-- A run over a list of events: when it is refused.
use Rattle.std.specs.Prelude.{ℕ, ◌^◌, Bool, cond, List, length, Some, None, Option, nat_lt}
use Rattle.std.specs.List.{list_all}
use Rattle.model.specs.declared.event.Event.{Event}
use Rattle.model.specs.Events.{time_of}
use Rattle.series.specs.declared.decoding.RunRefusal.{RunRefusal}
use Rattle.series.specs.declared.decoding.RunRefusal.TheVariants.{Room, Late}

-- every event's time is below the limit
abbrev pub in_time : List Event → Bool
in_time es = list_all (λ e. nat_lt (time_of e) (2 ^ 40)) es

-- why a run over these events is refused, if it is, where there is room for so many outcomes; the room is tested first
abbrev pub run_refused : List Event → ℕ → Option RunRefusal
run_refused es room = cond (nat_lt room (length es)) (Some Room) (cond (in_time es) None (Some Late))
