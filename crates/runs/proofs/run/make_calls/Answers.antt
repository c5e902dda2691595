use Rattle.std.proofs.Common.{◌<◌, length, ◌∙◌, arith, rules}
use Rattle.runs.proofs.Carrying.{answers_more, after_more}
use Rattle.runs.proofs.run.make_calls.Goals as goal

pub loop-call-preserved : goal.loop-call-preserved
loop-call-preserved g c =
    let inv = c.loop-call.invariant in
    let f = g.FA.SerialFormat.meaning in
    let h = g.FB.SerialFormat.meaning in
    let cs = c.args.calls.now in
    let more : c.loop-call.call-index < length cs = omega arith in
    record {
      answers = answers_more f h _ _ _ cs _ _ more c.call.ensures.answer c.call.ensures.left _ _ _ c.push_reserved.ensures.items inv.answers;
      left = after_more f h _ _ _ cs _ _ more c.call.ensures.answer c.call.ensures.left _ inv.left;
      so_many = search rules;
      room = search rules;
      room_stays = c.push_reserved.ensures.capacity ∙ inv.room_stays;
    }
