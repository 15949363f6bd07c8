-- Words and pins of 0 stand for no rows.
use Rattle.std.proofs.Common.{[], replicate}
use Rattle.route_table.proofs.Filled.{stands_none, zeros_16, zeros_24, no_rows-kept, is_table}
use Rattle.route_table.proofs.TableLaws.{table_in-rows}
use Rattle.route_table.proofs.table.Table.empty.Goals as goal

pub invariant_of-result : goal.invariant_of-result
invariant_of-result c = is_table c.in_ok-words.words.items c.in_ok-spare.spare.items _ _ [] (stands_none c.in_ok-words.words.items _ _ c.in_ok-words.ensures.zero zeros_16 zeros_24) no_rows-kept c.in_ok-words.ensures.long c.in_ok-spare.ensures.long

pub returns : goal.returns
returns c = table_in-rows c.in_ok-words.words.items (replicate 16 0) (replicate 24 0) [] (stands_none c.in_ok-words.words.items (replicate 16 0) (replicate 24 0) c.in_ok-words.ensures.zero zeros_16 zeros_24)
