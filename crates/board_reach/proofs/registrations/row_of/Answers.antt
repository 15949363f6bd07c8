use Rattle.board_reach.proofs.SeenRows.{low_row_if}
use Rattle.board_reach.proofs.registrations.row_of.Goals as goal

pub returns-clause-range : goal.returns-clause-range
returns-clause-range c =
    low_row_if c.args.seen.now.shape.now.counters c.args.seen.now.registry.now.irqfds c.args.counter c.of_trigger.result c.requires.registrations.irqfds c.of_trigger.ensures
