use Rattle.std.proofs.Common.{drop, None, sym, ap, ◌∙◌}
use Rattle.irq_base.specs.declared.call.Space.TheVariants.{Port}
use Rattle.ioevent_set.specs.declared.row.IoRow.{IoRow}
use Rattle.ioevent_set.specs.Rows.{counter_of}
use Rattle.ioevent_set.proofs.IndexLemmas.{none_fits, past_address}
use Rattle.ioevent_set.proofs.events.first_fit.Goals as goal

-- the row that stands for none
abbrev no_row : IoRow
no_row = record { space = Port; address = 0; len = 0; counter = 0; want = None }

pub returns-then-row-address : goal.returns-then-row-address
returns-then-row-address c = sym (ap counter_of (c.loop-row.invariant ∙ none_fits c.args.space c.args.address c.args.len c.args.value (drop c.loop-row.row-index c.args.rows.now)
    (past_address c.args.rows.now c.loop-row.row-index c.args.address no_row c.requires.ordered c.requires.from c.loop-row-test.true c.if-row-address.true)))
