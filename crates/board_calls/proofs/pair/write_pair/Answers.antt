use Rattle.std.proofs.Common.{ℕ, List, Ok, Err, subst}
use Rattle.std.specs.declared.option.Option.{Option}
use Rattle.irq_base.specs.declared.reply.Reply.TheVariants.{Done}
use Rattle.board_model.specs.Plan.{reply, ◌>>◌}
use Rattle.board_model.specs.Published.{routing_of_words}
use Rattle.board_model.specs.Run.{run_on}
use Rattle.board_raise.specs.InHand.{parts_of}
use Rattle.board_ack.specs.Acknowledge.{acknowledge_each}
use Rattle.board_ack.specs.OnHand.{Adds}
use Rattle.board_calls.specs.Accesses.{pair_write}
use Rattle.board_calls.specs.Processors.{pic_pin}
use Rattle.board_calls.specs.Accessed.{writing}
use Rattle.board_calls.proofs.Composed.{does_from, first_lacks}
use Rattle.board_calls.proofs.Answering.{answered}
use Rattle.board_calls.proofs.Accesses.{write_steps}
use Rattle.board_calls.proofs.pair.write_pair.Goals as goal

pub returns-in-Err-clause-does : goal.returns-in-Err-clause-does
returns-in-Err-clause-does g c = λ straight.
    let rig = c.args.rig.now in
    let shape = c.args.shape.now in
    let routing = routing_of_words (g.R.Rig.published rig) in
    let left = c.write.new.parts in
    let after = g.R.Rig.with_held rig left in
    let ws = g.R.Rig.wishes rig in
    first_lacks (writing c.args.port c.args.len c.args.value) (λ (a : Option ℕ). acknowledge_each routing shape (pic_pin a) >> reply (Done)) (pair_write routing shape c.args.port c.args.len c.args.value) (write_steps routing shape c.args.port c.args.len c.args.value) (parts_of (g.R.Rig.held rig)) ws c.in-Err.lacks.part
    (does_from {S = Option ℕ} (writing c.args.port c.args.len c.args.value) c.write.result (Err c.in-Err.lacks) (g.R.Rig.held rig) c.parts.result.now left (g.R.Rig.held after) ws (g.R.Rig.wishes after)
    c.in-Err.is c.parts.ensures.value (g.met.R.Rig.held_with rig left) (g.met.R.Rig.wishes_with rig left) (c.write.ensures.does ws))

pub returns-in-Ok-ack_pic-clause-does : goal.returns-in-Ok-ack_pic-clause-does
returns-in-Ok-ack_pic-clause-does g c = λ straight.
    let rig = c.args.rig.now in
    let shape = c.args.shape.now in
    let routing = routing_of_words (g.R.Rig.published rig) in
    let left = c.write.new.parts in
    let between = g.R.Rig.with_held rig left in
    let after = c.ack_pic.new.rig in
    let ws = g.R.Rig.wishes rig in
    let r = parts_of (g.R.Rig.held between) in
    let vs = g.R.Rig.wishes between in
    let s = parts_of (g.R.Rig.held after) in
    let later = g.R.Rig.wishes after in
    let old = c.args.events.now.items in
    let new = c.ack_pic.new.events.items in
    answered (writing c.args.port c.args.len c.args.value) (λ (a : Option ℕ). acknowledge_each routing shape (pic_pin a)) (λ (a : Option ℕ). Done) (pair_write routing shape c.args.port c.args.len c.args.value) (write_steps routing shape c.args.port c.args.len c.args.value) (parts_of (g.R.Rig.held rig)) ws c.in-Ok.pin r vs
    (does_from {S = Option ℕ} (writing c.args.port c.args.len c.args.value) c.write.result (Ok c.in-Ok.pin) (g.R.Rig.held rig) c.parts.result.now left (g.R.Rig.held between) ws vs
    c.in-Ok.is c.parts.ensures.value (g.met.R.Rig.held_with rig left) (g.met.R.Rig.wishes_with rig left) (c.write.ensures.does ws))
    (Ok (tt {0})) old new s later
    (subst (λ (words : List ℕ). Adds (Ok (tt {0})) old new s later (run_on (acknowledge_each (routing_of_words words) shape (pic_pin c.in-Ok.pin)) r vs)) (g.met.R.Rig.published_with rig left) (c.in-Ok-ack_pic.ensures.does straight))

pub returns-in-Err-ack_pic-clause-does : goal.returns-in-Err-ack_pic-clause-does
returns-in-Err-ack_pic-clause-does g c = λ straight.
    let rig = c.args.rig.now in
    let shape = c.args.shape.now in
    let routing = routing_of_words (g.R.Rig.published rig) in
    let left = c.write.new.parts in
    let between = g.R.Rig.with_held rig left in
    let after = c.ack_pic.new.rig in
    let ws = g.R.Rig.wishes rig in
    let r = parts_of (g.R.Rig.held between) in
    let vs = g.R.Rig.wishes between in
    let s = parts_of (g.R.Rig.held after) in
    let later = g.R.Rig.wishes after in
    let old = c.args.events.now.items in
    let new = c.ack_pic.new.events.items in
    answered (writing c.args.port c.args.len c.args.value) (λ (a : Option ℕ). acknowledge_each routing shape (pic_pin a)) (λ (a : Option ℕ). Done) (pair_write routing shape c.args.port c.args.len c.args.value) (write_steps routing shape c.args.port c.args.len c.args.value) (parts_of (g.R.Rig.held rig)) ws c.in-Ok.pin r vs
    (does_from {S = Option ℕ} (writing c.args.port c.args.len c.args.value) c.write.result (Ok c.in-Ok.pin) (g.R.Rig.held rig) c.parts.result.now left (g.R.Rig.held between) ws vs
    c.in-Ok.is c.parts.ensures.value (g.met.R.Rig.held_with rig left) (g.met.R.Rig.wishes_with rig left) (c.write.ensures.does ws))
    (Err c.in-Err-ack_pic.lacks) old new s later
    (subst (λ (words : List ℕ). Adds (Err c.in-Err-ack_pic.lacks) old new s later (run_on (acknowledge_each (routing_of_words words) shape (pic_pin c.in-Ok.pin)) r vs)) (g.met.R.Rig.published_with rig left) (c.in-Err-ack_pic.ensures.does straight))
