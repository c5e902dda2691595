use Rattle.std.proofs.Common.{◌∙◌}
use Rattle.captures.proofs.Lawfuls.{capture_in_order}
use Rattle.captures.proofs.Ruled.{events_by_rule}
use Rattle.captures.proofs.capture.Capture.open_sound.Goals as goal

pub returns : goal.returns
returns g c =
    let kind = g.K.Recording.kind in
    let xs = c.args.capture.now.bytes.now in
    record {
      events = c.begun.ensures;
      those_of_the_places_in_order = c.begun.ensures ∙ capture_in_order kind xs;
      each_event_by_its_rule = events_by_rule kind xs;
    }
