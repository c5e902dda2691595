use Rattle.std.proofs.Common.{◌≡◌, ◌≤◌, ◌++◌, length, drop, vec_items, vec_len, vec_capacity}
use Rattle.runs.specs.Running.{answers_of, left_by_all}
use Rattle.runs.proofs.run.make_calls.Given as goal

-- the answers so far and those yet to come are all, and there is room for these
abbrev pub invariant-loop-call : goal.invariant-loop-call
invariant-loop-call g l =
    let f = g.FA.SerialFormat.meaning in
    let h = g.FB.SerialFormat.meaning in
    record {
      answers : vec_items l.out ++ answers_of f h l.unit (drop l.call-index l.calls) ≡ answers_of f h l.initial.unit l.calls;
      left : left_by_all f h l.unit (drop l.call-index l.calls) ≡ left_by_all f h l.initial.unit l.calls;
      so_many : vec_len l.out ≡ l.call-index;
      room : length l.calls ≤ vec_capacity l.out;
      room_stays : vec_capacity l.out ≡ vec_capacity l.initial.out;
    }
