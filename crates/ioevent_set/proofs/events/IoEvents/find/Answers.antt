use Rattle.std.proofs.Common.{◌≢◌, ℕ, ◌<◌, length, get_or, drop, find, sym, ap, subst, ◌∙◌, arith}
use Rattle.ioevent_set.specs.declared.row.IoRow.{IoRow}
use Rattle.ioevent_set.specs.Rows.{counter_of, does_fit}
use Rattle.ioevent_set.proofs.IndexLemmas.{found_same, passed_over}
use Rattle.ioevent_set.proofs.events.IoEvents.find.Goals as goal

-- the rows before the place are at lesser addresses
lesser : (c : goal.After-first_fit) (k : ℕ) (d : IoRow) → k < c.place_of-place.result → k < length c.self.inside.by_address.items → (get_or c.self.inside.by_address.items k d).address ≢ c.args.address
lesser c k d before below same =
    let low : (get_or c.self.inside.by_address.items k d).address < c.args.address = subst (λ rows. (get_or rows k d).address < c.args.address) c.as_slice.ensures.value (c.place_of-place.ensures.before k d (omega arith) before) in
    omega (arith, low, same)

pub returns-clause-value : goal.returns-clause-value
returns-clause-value c =
    c.first_fit.ensures
    ∙ ap counter_of (
    ap (find (does_fit c.args.space c.args.address c.args.len c.args.value)) (c.split_at.ensures.back ∙ ap (drop c.place_of-place.result) c.as_slice-2.ensures.value)
    ∙ sym (passed_over c.args.space c.args.address c.args.len c.args.value c.place_of-place.result c.self.inside.by_address.items (lesser c))
    ∙ found_same c.args.space c.args.address c.args.len c.args.value c.self.inside.rows.items c.self.inside.by_address.items c.self.invariant.0
    ∙ ap (find (does_fit c.args.space c.args.address c.args.len c.args.value)) c.self.view_is
    )
