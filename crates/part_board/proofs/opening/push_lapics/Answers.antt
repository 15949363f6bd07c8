use Rattle.std.proofs.Common.{◌<◌, ◌++◌, length, slice_set, slice_get, None, Some, sym, ap, ◌∙◌, subst, arith}
use Rattle.std.proofs.lemmas.List.{append_assoc}
use Rattle.part_copies.specs.Gathering.{listed, apic_slot, apic_slots, drained}
use Rattle.part_copies.proofs.Rows.{length-drained, drained_next, slots_next}
use Rattle.part_board.proofs.opening.push_lapics.Goals as goal

pub put-lapic-requires : goal.put-lapic-requires
put-lapic-requires c =
    let many = ap length c.loop-n.invariant.1 ∙ length-drained c.loop-n.n c.args.row.now in
    let all = c.requires.cpus in
    let low = c.loop-n-test.true in
    omega (arith, many, all, low)

pub loop-n-preserved : goal.loop-n-preserved
loop-n-preserved c =
    let n = c.loop-n.n in
    let row = c.args.row.now in
    let low : n < length row = (let all = c.requires.cpus in let test = c.loop-n-test.true in omega (arith, all, test)) in
    let there = ap (λ r. slice_get r n) (sym c.loop-n.invariant.1) ∙ c.put-lapic.ensures.before in (
      c.in_ok-push.ensures
          ∙ ap (λ x. c.loop-n.slots.items ++ listed x) c.slot_of_lapic.ensures
          ∙ ap (λ l. l ++ listed (apic_slot c.put-lapic.result)) c.loop-n.invariant.0
          ∙ append_assoc c.args.slots.now.items (apic_slots n row) (listed (apic_slot c.put-lapic.result))
          ∙ ap (λ l. c.args.slots.now.items ++ l) (sym (slots_next n row c.put-lapic.result there)),
      c.put-lapic.ensures.after ∙ ap (λ r. slice_set r n None) c.loop-n.invariant.1 ∙ drained_next n row low,
    )

pub returns-clause-row : goal.returns-clause-row
returns-clause-row c = ap length c.loop-n.invariant.1 ∙ length-drained c.loop-n.n c.args.row.now ∙ sym c.requires.cpus
