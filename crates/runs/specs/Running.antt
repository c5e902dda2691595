-- A run as the code makes it.
use Rattle.std.specs.Prelude.{◌≡◌, ◌<◌, ◌≤◌, List, length, MatchResult, Result, vec_items, vec_capacity}
use Rattle.std.specs.declared.vec.Vec.{Vec}
use Rattle.serial.specs.Format.{Format}
use Rattle.receiver.specs.declared.answer.Call.{Call}
use Rattle.receiver.specs.declared.answer.Answer.{Answer}
use Rattle.receiver.specs.Units.{answers, after_all}
use Rattle.receiver.specs.Receiving.{Standing, setup_of}
use Rattle.runs.specs.declared.run.NoRoom.{NoRoom}

-- the answers of a unit to a list of calls, and the unit after them, where the formats mean this
abbrev pub answers_of : {X Y : Type 0} → Format X → Format Y → Standing → List Call → List (Answer X Y)
answers_of f g u calls = answers (setup_of f g u) u.state calls

abbrev pub left_by_all : {X Y : Type 0} → Format X → Format Y → Standing → List Call → Standing
left_by_all f g u calls = record { settings_a = u.settings_a; settings_b = u.settings_b; state = after_all (setup_of f g u) u.state calls }

-- What a list of calls on a new unit gives: the list lent, which was `before`, and the unit that comes back. It comes back new, and the list is
-- as it was, exactly if there are more calls than the list has room for.
pub record RunsAsDefined {X Y Z : Type 0} (f : Format X) (g : Format Y) (unit : Standing) (calls : List Call) (before after : Vec (Answer X Y) Z) (outcome : Result Standing (NoRoom Standing)) : Type 0 where
  pub refused_exactly_for_want_of_room : MatchResult outcome (λ _. length calls ≤ vec_capacity before) (λ _. vec_capacity before < length calls)
  pub answers_of_the_defined_unit : MatchResult outcome (λ _. vec_items after ≡ answers_of f g unit calls) (λ _. vec_items after ≡ vec_items before)
  pub room_stays : vec_capacity after ≡ vec_capacity before
  pub unit_left : MatchResult outcome (λ u. u ≡ left_by_all f g unit calls) (λ e. e.unit ≡ unit)
