use Rattle.std.proofs.Common.{◌≡◌, ◌≤◌, sym, ap, ◌∙◌, arith}
use Rattle.std.specs.FinSet as set
use Rattle.board_raise.specs.Named.{is_named, lowest_of, chosen_of, numbers_of}
use Rattle.board_raise.specs.Send.{reached_by}
use Rattle.board_raise.specs.OnRow.{processors_in, accepted_by, named_in}
use Rattle.board_raise.specs.RowSteps.{numbers_between, sent_of, reached_after}
use Rattle.board_raise.proofs.OnHand.{reached_apart}
use Rattle.board_raise.proofs.Preferred.{ascends_filtered, ascends_between}
use Rattle.board_raise.proofs.Delivered.{delivered, row_delivered, lowest_below}
use Rattle.board_raise.proofs.sending.deliver.Goals as goal
use Rattle.irq_bits.specs.declared.limits.TheConstants.{MAX_CPUS}

pub chosen-takers-requires : goal.chosen-takers-requires
chosen-takers-requires c = λ k h.
    let reach = c.reach_of-reach.result in
    let few : reach.end ≤ MAX_CPUS = omega (c.reach_of-reach.ensures.end, c.requires.few_cpus, arith) in
    let lowest = c.requires.lowest ∙ ap (λ l. numbers_of (lowest_of (named_in c.args.row.now l c.args.message.now c.args.from))) (sym c.reach_of-reach.ensures.numbers) in
    lowest_below c.args.row.now reach.first reach.end MAX_CPUS c.args.message.now c.args.from c.reach_of-reach.ensures.order few k (ap (λ s. set.contains s k) (sym lowest) ∙ h)

takers : (c : goal.After-accept_each) → c.chosen-takers.result ≡ numbers_of (chosen_of c.args.message.now.mode c.args.wish.now (named_in c.args.row.now (reached_by c.args.message.now c.args.from c.args.cpus) c.args.message.now c.args.from))
takers c =
    let reach = c.reach_of-reach.result in
    let numbers = c.reach_of-reach.ensures.numbers in
    let named = named_in c.args.row.now (numbers_between reach.first reach.end) c.args.message.now c.args.from in
    c.chosen-takers.ensures named
    (ascends_filtered (is_named c.args.message.now c.args.from) (processors_in c.args.row.now (numbers_between reach.first reach.end)) (ascends_between c.args.row.now reach.first reach.end))
    (c.requires.named ∙ ap (λ l. numbers_of (named_in c.args.row.now l c.args.message.now c.args.from)) (sym numbers))
    (c.requires.lowest ∙ ap (λ l. numbers_of (lowest_of (named_in c.args.row.now l c.args.message.now c.args.from))) (sym numbers))
    ∙ ap (λ l. numbers_of (chosen_of c.args.message.now.mode c.args.wish.now (named_in c.args.row.now l c.args.message.now c.args.from))) numbers

pub returns-clause-sent : goal.returns-clause-sent
returns-clause-sent c =
    ap sent_of c.accept_each.ensures.reached
    ∙ ap (λ l. sent_of (reached_after c.args.message.now c.chosen-takers.result l c.args.row.now (record { new = set.empty; stood = set.empty }))) c.reach_of-reach.ensures.numbers
    ∙ delivered c.args.row.now (reached_by c.args.message.now c.args.from c.args.cpus) c.args.message.now c.args.from c.args.wish.now c.chosen-takers.result (takers c)
    (reached_apart c.args.message.now c.args.from c.args.cpus) c.requires.legal

pub returns-clause-row : goal.returns-clause-row
returns-clause-row c =
    c.accept_each.ensures.row
    ∙ ap (λ l. accepted_by c.args.message.now c.chosen-takers.result l c.args.row.now) c.reach_of-reach.ensures.numbers
    ∙ row_delivered c.args.row.now (reached_by c.args.message.now c.args.from c.args.cpus) c.args.message.now c.args.from c.args.wish.now c.chosen-takers.result (takers c)
