use Rattle.std.proofs.Common.{◌≡◌, ◌<◌, ◌^◌, Some, is_some, refl, sym, ap, ◌∙◌, subst, arith}
use Rattle.turn_book.specs.Hands.{held_at, slot_at}
use Rattle.turn_book.specs.Histories.{IsPrefix}
use Rattle.turn_book.specs.Views.{AddsNoneOfOwn}
use Rattle.write_ring.specs.declared.machine.RingEntry.TheVariants.{Put}
use Rattle.write_ring.specs.declared.queue.RingQueue.{RingQueue}
use Rattle.write_ring.specs.Queue.{reply_of, queue_put}
use Rattle.write_ring.specs.Ring.{pass_of}
use Rattle.write_ring.specs.Seen.{Seen}
use Rattle.write_ring.specs.Standing.{HasEntered}
use Rattle.write_ring.proofs.Attempts.{entered_on, gave_way, spent_at, all_in, one_in, mapped_in}
use Rattle.write_ring.proofs.attempting.put_held.Goals as goal

pub returns-then-had-ge-MOST-clause-stopped : goal.returns-then-had-ge-MOST-clause-stopped
returns-then-had-ge-MOST-clause-stopped c = spent_at c.front-had.new.pen.seat.me.0 _ c.front-had.ensures.legal c.front-had.ensures.length (omega (arith, c.if-had-ge-MOST.true))

pub enter-requires-clause-entry : goal.enter-requires-clause-entry
enter-requires-clause-entry c =
    let u : Seen = c.reply_in_hand-reply.new.pen.seat.me.0 in
    let front = c.front-had.ensures in
    let view = c.reply_in_hand-reply.ensures.view in
    let home = ap (slot_at 0) front.slots ∙ c.requires.home ∙ sym (ap (held_at 0) front.turns.0) ∙ sym (ap (λ (x : Seen). held_at 0 x.held) view) in
    record {
      caller = ap (λ (x : Seen). x.caller) view ∙ front.place.2 ∙ c.requires.caller;
      answers = λ q there. one_in (λ (x : RingQueue). c.reply_in_hand-reply.result ≡ reply_of x) _ (held_at 0 u.held) q home there c.reply_in_hand-reply.ensures.reply;
    }

pub put_in_hand-requires-clause-count : goal.put_in_hand-requires-clause-count
put_in_hand-requires-clause-count c =
    let u : Seen = c.reply_in_hand-reply.new.pen.seat.me.0 in
    let front = c.front-had.ensures in
    let reply = c.reply_in_hand-reply.ensures in
    let home = ap (slot_at 0) c.enter.ensures.slots ∙ reply.slot ∙ ap (slot_at 0) front.slots ∙ c.requires.home ∙ sym (ap (held_at 0) front.turns.0) ∙ sym (ap (λ (x : Seen). held_at 0 x.held) reply.view) in
    all_in (λ (x : RingQueue). x.placed < 2 ^ 40) _ (held_at 0 u.held) home c.in-Ok.ensures.entered.count

pub returns-in-Ok-clause-home : goal.returns-in-Ok-clause-home
returns-in-Ok-clause-home c =
    let u : Seen = c.reply_in_hand-reply.new.pen.seat.me.0 in
    let front = c.front-had.ensures in
    let reply = c.reply_in_hand-reply.ensures in
    let home = ap (slot_at 0) c.enter.ensures.slots ∙ reply.slot ∙ ap (slot_at 0) front.slots ∙ c.requires.home ∙ sym (ap (held_at 0) front.turns.0) ∙ sym (ap (λ (x : Seen). held_at 0 x.held) reply.view) in
    let held = ap (λ (x : Seen). is_some (held_at 0 x.held)) reply.view ∙ ap (λ l. is_some (held_at 0 l)) front.turns.0 ∙ c.requires.held in
    c.put_in_hand.ensures.slot ∙ mapped_in (queue_put c.args.write.now) _ (held_at 0 u.held) _ home held c.in-Ok.ensures.entered.next ∙ sym (ap (λ (x : Seen). held_at 0 x.held) c.put_in_hand.ensures.view)

pub returns-in-Ok-clause-entered : goal.returns-in-Ok-clause-entered
returns-in-Ok-clause-entered c =
    let v : Seen = c.args.pen.now.seat.me.0 in
    let u : Seen = c.reply_in_hand-reply.new.pen.seat.me.0 in
    let f : Seen = c.front-had.new.pen.seat.me.0 in
    let w : Seen = c.put_in_hand.new.pen.seat.me.0 in
    let front = c.front-had.ensures in
    let view = sym c.reply_in_hand-reply.ensures.view in
    entered_on v u w (Put c.args.number c.args.write.now c.reply_in_hand-reply.result) c.requires.caller
    (subst (λ (x : Seen). IsPrefix v.seen x.seen) view front.seen) (subst (λ (x : Seen). AddsNoneOfOwn pass_of v x) view front.own)
    (subst (HasEntered _ u) (sym c.put_in_hand.ensures.view) c.in-Ok.ensures.entered)

pub returns-in-Err-clause-stopped : goal.returns-in-Err-clause-stopped
returns-in-Err-clause-stopped c =
    gave_way c.args.pen.now.seat.me.0 c.reply_in_hand-reply.new.pen.seat.me.0 c.enter.new.pen.seat.me.0 _ (ap (λ (x : Seen). x.misses) c.reply_in_hand-reply.ensures.view ∙ c.front-had.ensures.misses) c.in-Err.ensures.missed
