use Rattle.std.proofs.Common.{ℕ, List, Ok, Err, subst}
use Rattle.std.specs.declared.option.Option.{Option}
use Rattle.irq_base.specs.declared.reply.Reply.TheVariants.{Value}
use Rattle.board_model.specs.Plan.{reply, ◌>>◌}
use Rattle.board_model.specs.Published.{routing_of_words}
use Rattle.board_model.specs.Run.{run_on}
use Rattle.board_raise.specs.InHand.{parts_of}
use Rattle.board_ack.specs.Acknowledge.{acknowledge_each}
use Rattle.board_ack.specs.OnHand.{Adds}
use Rattle.board_calls.specs.Accesses.{pair_read}
use Rattle.board_calls.specs.Processors.{pic_pin}
use Rattle.board_calls.specs.Accessed.{reading}
use Rattle.board_calls.proofs.Composed.{does_from, first_lacks}
use Rattle.board_calls.proofs.Answering.{answered}
use Rattle.board_calls.proofs.Accesses.{read_steps}
use Rattle.board_calls.proofs.pair.read_pair.Goals as goal

pub returns-in-Err-clause-does : goal.returns-in-Err-clause-does
returns-in-Err-clause-does g c = λ straight.
    let rig = c.args.rig.now in
    let shape = c.args.shape.now in
    let routing = routing_of_words (g.R.Rig.published rig) in
    let left = c.read.new.parts in
    let after = g.R.Rig.with_held rig left in
    let ws = g.R.Rig.wishes rig in
    first_lacks (reading c.args.port c.args.len) (λ (a : ℕ × Option ℕ). acknowledge_each routing shape (pic_pin a.1) >> reply (Value a.0)) (pair_read routing shape c.args.port c.args.len) (read_steps routing shape c.args.port c.args.len) (parts_of (g.R.Rig.held rig)) ws c.in-Err.lacks.part
    (does_from {S = ℕ × Option ℕ} (reading c.args.port c.args.len) c.read.result (Err c.in-Err.lacks) (g.R.Rig.held rig) c.parts.result.now left (g.R.Rig.held after) ws (g.R.Rig.wishes after)
    c.in-Err.is c.parts.ensures.value (g.met.R.Rig.held_with rig left) (g.met.R.Rig.wishes_with rig left) (c.read.ensures.does ws))

pub returns-in-Ok-ack_pic-clause-does : goal.returns-in-Ok-ack_pic-clause-does
returns-in-Ok-ack_pic-clause-does g c = λ straight.
    let rig = c.args.rig.now in
    let shape = c.args.shape.now in
    let routing = routing_of_words (g.R.Rig.published rig) in
    let left = c.read.new.parts in
    let between = g.R.Rig.with_held rig left in
    let after = c.ack_pic.new.rig in
    let ws = g.R.Rig.wishes rig in
    let r = parts_of (g.R.Rig.held between) in
    let vs = g.R.Rig.wishes between in
    let s = parts_of (g.R.Rig.held after) in
    let later = g.R.Rig.wishes after in
    let old = c.args.events.now.items in
    let new = c.ack_pic.new.events.items in
    answered (reading c.args.port c.args.len) (λ (a : ℕ × Option ℕ). acknowledge_each routing shape (pic_pin a.1)) (λ (a : ℕ × Option ℕ). Value a.0) (pair_read routing shape c.args.port c.args.len) (read_steps routing shape c.args.port c.args.len) (parts_of (g.R.Rig.held rig)) ws c.in-Ok.gave r vs
    (does_from {S = ℕ × Option ℕ} (reading c.args.port c.args.len) c.read.result (Ok c.in-Ok.gave) (g.R.Rig.held rig) c.parts.result.now left (g.R.Rig.held between) ws vs
    c.in-Ok.is c.parts.ensures.value (g.met.R.Rig.held_with rig left) (g.met.R.Rig.wishes_with rig left) (c.read.ensures.does ws))
    (Ok (tt {0})) old new s later
    (subst (λ (words : List ℕ). Adds (Ok (tt {0})) old new s later (run_on (acknowledge_each (routing_of_words words) shape (pic_pin c.in-Ok.gave.1)) r vs)) (g.met.R.Rig.published_with rig left) (c.in-Ok-ack_pic.ensures.does straight))

pub returns-in-Err-ack_pic-clause-does : goal.returns-in-Err-ack_pic-clause-does
returns-in-Err-ack_pic-clause-does g c = λ straight.
    let rig = c.args.rig.now in
    let shape = c.args.shape.now in
    let routing = routing_of_words (g.R.Rig.published rig) in
    let left = c.read.new.parts in
    let between = g.R.Rig.with_held rig left in
    let after = c.ack_pic.new.rig in
    let ws = g.R.Rig.wishes rig in
    let r = parts_of (g.R.Rig.held between) in
    let vs = g.R.Rig.wishes between in
    let s = parts_of (g.R.Rig.held after) in
    let later = g.R.Rig.wishes after in
    let old = c.args.events.now.items in
    let new = c.ack_pic.new.events.items in
    answered (reading c.args.port c.args.len) (λ (a : ℕ × Option ℕ). acknowledge_each routing shape (pic_pin a.1)) (λ (a : ℕ × Option ℕ). Value a.0) (pair_read routing shape c.args.port c.args.len) (read_steps routing shape c.args.port c.args.len) (parts_of (g.R.Rig.held rig)) ws c.in-Ok.gave r vs
    (does_from {S = ℕ × Option ℕ} (reading c.args.port c.args.len) c.read.result (Ok c.in-Ok.gave) (g.R.Rig.held rig) c.parts.result.now left (g.R.Rig.held between) ws vs
    c.in-Ok.is c.parts.ensures.value (g.met.R.Rig.held_with rig left) (g.met.R.Rig.wishes_with rig left) (c.read.ensures.does ws))
    (Err c.in-Err-ack_pic.lacks) old new s later
    (subst (λ (words : List ℕ). Adds (Err c.in-Err-ack_pic.lacks) old new s later (run_on (acknowledge_each (routing_of_words words) shape (pic_pin c.in-Ok.gave.1)) r vs)) (g.met.R.Rig.published_with rig left) (c.in-Err-ack_pic.ensures.does straight))
