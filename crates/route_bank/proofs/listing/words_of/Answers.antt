use Rattle.std.proofs.Common.{rules, ◌≡◌, ℕ, ◌<◌, ◌||◌, false, nat_eq, get_or, ◌++◌, ap, ◌∙◌, arith}
use Rattle.irqfd_set.specs.Rows.{has_resampler}
use Rattle.ack_notifiers.specs.Rows.{has_watch}
use Rattle.route_bank.specs.Lists.{gsi_words, trigger_words, pic_words, ioapic_words}
use Rattle.route_bank.proofs.EachWord.{all_listed}
use Rattle.route_bank.proofs.listing.words_of.Goals as goal

pub returns : goal.returns
returns c =
    let table = c.args.table.now in
    let irqfds = c.args.irqfds.now in
    let tick = c.args.tick in
    let marks = c.mark.new.marks in
    let marked : (gsi : ℕ) → gsi < 4096 → get_or marks gsi false ≡ (has_resampler irqfds gsi || (has_watch c.args.watches.now gsi || nat_eq gsi tick)) = λ gsi low.
    c.mark.ensures.marked gsi (let long = c.mark.ensures.long in omega (arith, long, low))
    ∙ (λ i. has_resampler (c.rows.ensures i) gsi || (has_watch (c.rows-2.ensures i) gsi || nat_eq gsi tick)) in
    let listed : c.push_ioapics.new.words.items ≡ ((gsi_words table marks 4096 ++ trigger_words irqfds 256) ++ pic_words table 16) ++ ioapic_words table 24 = search rules in
    listed ∙ all_listed table irqfds c.args.watches.now tick marks marked
