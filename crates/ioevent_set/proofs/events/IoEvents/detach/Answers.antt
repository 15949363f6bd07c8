use Rattle.std.proofs.Common.{not, rules}
use Rattle.ioevent_set.specs.Rows.{is_same}
use Rattle.ioevent_set.proofs.IndexLemmas.{indexed-without}
use Rattle.ioevent_set.proofs.events.IoEvents.detach.Goals as goal

pub invariant_of-self : goal.invariant_of-self
invariant_of-self c = (
  rw (c.take_out.ensures.items, c.take_out-2.ensures.items) (indexed-without c.self.inside.rows.items c.self.inside.by_address.items (λ other. not (is_same c.args.row.now other)) c.self.invariant.0),
  search rules,
  search rules,
)
