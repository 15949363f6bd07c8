use denote.Param.Send.{sendable}
use Rattle.std.proofs.Crossing.{crosses}
use Rattle.part_board.proofs.Crossing.{pass_field, pass_send}
use Rattle.live_rows.proofs.threads.all_work.Goals as goal

pub map_vec-requires-send-J : goal.map_vec-requires-send-J
map_vec-requires-send-J g c = search (sendable, crosses, pass_field, pass_send) depth 20

pub map_vec-requires-send-X : goal.map_vec-requires-send-X
map_vec-requires-send-X g c = search (sendable, crosses, pass_field, pass_send) depth 20
