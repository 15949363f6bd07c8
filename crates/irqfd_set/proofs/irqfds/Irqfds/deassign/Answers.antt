use Rattle.std.proofs.Common.{◌≡◌, get_or, set, is_some, Some, None, sym, ap, subst, ◌∙◌, arith, rules}
use Rattle.std.proofs.lemmas.Bool.Decides.{nat_tests}
use Rattle.irqfd_set.specs.Index.{IsIndexed}
use Rattle.irqfd_set.specs.Rows.{of_trigger, named_row}
use Rattle.irqfd_set.proofs.RowLemmas.{of_gsi, unnamed, named_is, without_none, indexed-without}
use Rattle.irqfd_set.proofs.irqfds.Irqfds.deassign.Goals as goal

-- no row has the trigger
none : (c : goal.After-from_residual) → of_trigger c.args.self.now c.args.trigger ≡ None
none c =
    ap (λ rows. of_trigger rows c.args.trigger) (sym c.self.view_is)
    ∙ sym (c.self.invariant.0.found c.args.trigger)
    ∙ ap (λ index. get_or index c.args.trigger None) (sym c.as_slice.ensures.value)
    ∙ sym c.row_at.ensures.value
    ∙ c.in_err-row.was

pub returns-in_err-row-clause-value : goal.returns-in_err-row-clause-value
returns-in_err-row-clause-value c = c.from_residual.ensures ∙ sym (unnamed c.args.self.now c.args.trigger c.args.gsi (none c))

pub returns-in_err-row-clause-after : goal.returns-in_err-row-clause-after
returns-in_err-row-clause-after c = sym (without_none c.args.self.now c.args.trigger c.args.gsi (unnamed c.args.self.now c.args.trigger c.args.gsi (none c)))

-- the row of the trigger has another GSI
other : (c : goal.Then-row-gsi) → named_row c.args.self.now c.args.trigger c.args.gsi ≡ None
other c =
    ap (λ rows. named_row rows c.args.trigger c.args.gsi) (sym c.self.view_is)
    ∙ named_is c.self.inside.rows.items c.args.trigger c.args.gsi c.self.invariant.0.distinct
    ∙ ap (of_gsi c.args.gsi) (sym (c.self.invariant.0.found c.args.trigger)
    ∙ ap (λ index. get_or index c.args.trigger None) (sym c.as_slice.ensures.value)
    ∙ sym c.row_at.ensures.value
    ∙ c.in_ok-row.was)
    ∙ grind (arith, nat_tests, c.if-row-gsi.true)

pub returns-then-row-gsi-clause-value : goal.returns-then-row-gsi-clause-value
returns-then-row-gsi-clause-value c = sym (other c)

pub returns-then-row-gsi-clause-after : goal.returns-then-row-gsi-clause-after
returns-then-row-gsi-clause-after c = sym (without_none c.args.self.now c.args.trigger c.args.gsi (other c))

-- the row of the trigger is the named one
row_is : (c : goal.After-self-1) → of_trigger c.self.inside.rows.items c.args.trigger ≡ Some c.in_ok-row.row
row_is c =
    sym (c.self.invariant.0.found c.args.trigger)
    ∙ ap (λ index. get_or index c.args.trigger None) (sym c.as_slice.ensures.value)
    ∙ sym c.row_at.ensures.value
    ∙ c.in_ok-row.was

named : (c : goal.After-self-1) → named_row c.self.inside.rows.items c.args.trigger c.args.gsi ≡ Some c.in_ok-row.row
named c =
    named_is c.self.inside.rows.items c.args.trigger c.args.gsi c.self.invariant.0.distinct
    ∙ ap (of_gsi c.args.gsi) (row_is c)
    ∙ grind (arith, nat_tests, c.if-row-gsi.false)

pub invariant_of-self : goal.invariant_of-self
invariant_of-self c = (
  subst (λ rows. IsIndexed rows (set c.self.inside.by_trigger.items c.args.trigger None)) (sym c.take_out.ensures.items) (indexed-without c.self.inside.rows.items c.self.inside.by_trigger.items c.args.trigger c.args.gsi c.in_ok-row.row c.self.invariant.0 (search rules) (row_is c) (ap is_some (named c))),
  search rules,
)

pub returns-clause-value : goal.returns-clause-value
returns-clause-value c = sym (named c) ∙ ap (λ rows. named_row rows c.args.trigger c.args.gsi) c.self.view_is
