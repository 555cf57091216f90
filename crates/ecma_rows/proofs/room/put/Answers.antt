use Rattle.ecma_rows.proofs.RoomLemmas.{put-in, put-out}
use Rattle.ecma_rows.proofs.room.put.Goals as goal

pub returns-then-count-room : goal.returns-then-count-room
returns-then-count-room g c = λ rows before e at. put-in rows before c.args.room.now c.args.count c.args.row e at c.if-count-room.true

pub returns-else-count-room : goal.returns-else-count-room
returns-else-count-room g c = λ rows before e at. put-out rows before c.args.room.now c.args.count c.args.row e at c.if-count-room.false
