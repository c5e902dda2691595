use Rattle.listing.proofs.Rooms.{listed_in_turn}
use Rattle.listing.proofs.file.list.Goals as goal

pub returns-then-capacity-room_for-clause-answered_in_turn : goal.returns-then-capacity-room_for-clause-answered_in_turn
returns-then-capacity-room_for-clause-answered_in_turn c = listed_in_turn c.args.input.now

pub returns-clause-answered_in_turn : goal.returns-clause-answered_in_turn
returns-clause-answered_in_turn c = listed_in_turn c.args.input.now
