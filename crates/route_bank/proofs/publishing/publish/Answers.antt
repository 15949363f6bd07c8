use Rattle.std.proofs.Common.{◌≡◌, ℕ, ◌<◌, ◌||◌, false, nat_eq, get_or, ap, ◌∙◌, arith}
use Rattle.irqfd_set.specs.Rows.{has_resampler}
use Rattle.ack_notifiers.specs.Rows.{has_watch}
use Rattle.route_table.specs.Rows.{targets_of}
use Rattle.route_table.specs.Words.{targets_word}
use Rattle.board_model.specs.Routing.{is_marked}
use Rattle.route_bank.specs.Indices.{registry_of}
use Rattle.route_bank.proofs.Places.{all_drafted, has_kept, has_same, gsi_word, word_of_trigger, pic_word}
use Rattle.route_bank.proofs.publishing.publish.Goals as goal

pub returns-clause-drafted : goal.returns-clause-drafted
returns-clause-drafted g c =
    let table = c.args.words.now in
    let tick = c.args.tick in
    let registry = registry_of table c.args.irqfds.now c.args.watches.now in
    let marks = c.mark.new.marks in
    let after_gsis = c.draft_gsis.new.pen.seat.me.0.drafts in
    let after_triggers = c.draft_triggers.new.pen.seat.me.0.drafts in
    let after_pics = c.draft_pics.new.pen.seat.me.0.drafts in
    let drafts = c.draft_ioapics.new.pen.seat.me.0.drafts in
    let marked : (gsi : ℕ) → gsi < 4096 → get_or marks gsi false ≡ is_marked registry tick gsi = λ gsi low.
    c.mark.ensures.marked gsi (let long = c.mark.ensures.long in omega (arith, long, low))
    ∙ (λ i. has_resampler (c.rows.ensures i) gsi || (has_watch (c.rows-2.ensures i) gsi || nat_eq gsi tick)) in
    let gsis = has_same 0 4096 (λ gsi. targets_word (targets_of table gsi) (get_or marks gsi false)) (gsi_word registry tick) after_gsis (λ gsi low. ap (targets_word (targets_of table gsi)) (marked gsi low)) c.draft_gsis.ensures.drafted in
    let triggers = c.draft_triggers.ensures.drafted in
    let pics = c.draft_pics.ensures.drafted in
    all_drafted registry tick drafts
    (has_kept 0 4096 4368 (gsi_word registry tick) after_pics drafts (omega arith) c.draft_ioapics.ensures.below
    (has_kept 0 4096 4352 (gsi_word registry tick) after_triggers after_pics (omega arith) c.draft_pics.ensures.below
    (has_kept 0 4096 4096 (gsi_word registry tick) after_gsis after_triggers (omega arith) c.draft_triggers.ensures.below gsis)))
    (has_kept 4096 256 4368 (word_of_trigger registry tick) after_pics drafts (omega arith) c.draft_ioapics.ensures.below
    (has_kept 4096 256 4352 (word_of_trigger registry tick) after_triggers after_pics (omega arith) c.draft_pics.ensures.below triggers))
    (has_kept 4352 16 4368 (pic_word registry tick) after_pics drafts (omega arith) c.draft_ioapics.ensures.below pics)
    c.draft_ioapics.ensures.drafted
