use Rattle.std.proofs.Common.{◌≡◌, ◌≢◌, ◌==◌, List, Some, ap, sym, ◌∙◌, subst, get_or}
use Rattle.std.specs.List.{position, All, slice_get}
use Rattle.std.specs.Option.{option_map}
use Rattle.reg_table.specs.declared.row.RegRow.{RegRow}
use Rattle.lapic.specs.declared.register.Register.{Register}
use Rattle.lapic.specs.declared.register.Register.TheVariants.{Id}
use Rattle.lapic.specs.Registers.{row_for, is_there}
use Rattle.lapic.proofs.Table.{found, not_found, row_found, all_there}
use Rattle.lapic.proofs.register.register_at.Goals as goal

pub returns-in_err-k-clause-found : goal.returns-in_err-k-clause-found
returns-in_err-k-clause-found c =
    let none = c.in_err-k.ensures in
    c.from_residual.ensures ∙ ap (option_map (λ register. (register, row_for register))) (sym (not_found c.args.offset (subst (λ (rows : List RegRow). All (λ row. row.offset ≢ c.args.offset) rows) c.table-table.ensures none.none)))

pub returns-clause-found : goal.returns-clause-found
returns-clause-found c =
    let at = c.in_ok-k.ensures in
    let k = c.in_ok-k.k in
    let place = at.first ∙ ap (λ (rows : List RegRow). position (λ row. row.offset == c.args.offset) rows) c.table-table.ensures in
    let row = row_found k c.row.result (subst (λ (rows : List RegRow). slice_get rows k ≡ Some c.row.result) c.table-table.ensures c.row.ensures) in
    let register = ap (λ (rs : List Register). get_or rs k Id) c.registers.ensures in
    (λ i. Some (register i, row i)) ∙ sym (ap (option_map (λ register. (register, row_for register))) (found k c.args.offset place))

pub returns-clause-there : goal.returns-clause-there
returns-clause-there c = ap (λ (rs : List Register). is_there (get_or rs c.in_ok-k.k Id)) c.registers.ensures ∙ all_there c.in_ok-k.k
