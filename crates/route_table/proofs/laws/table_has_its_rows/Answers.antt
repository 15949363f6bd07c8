-- Each row is in the table, and what is in the table is of a row.
use Rattle.route_table.proofs.Sound.{sound_of}
use Rattle.route_table.proofs.Given.{row_in_table, row_of_table, pin_of_gsi, gsi_of_pin}
use Rattle.route_table.proofs.laws.table_has_its_rows.Goals as goal

pub returns-clause-rows : goal.returns-clause-rows
returns-clause-rows c = λ rows kept row. (λ inside. row_in_table rows (sound_of rows kept) row inside, λ has. row_of_table rows row has)

pub returns-clause-pins : goal.returns-clause-pins
returns-clause-pins c = λ rows kept pin gsi. (λ found. pin_of_gsi rows pin gsi found, λ has. gsi_of_pin rows (sound_of rows kept) pin gsi has)
