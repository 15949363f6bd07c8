use Rattle.std.proofs.Common.{◌≡◌, Bool, false, if◌then◌else◌, ◌∷◌, [], Ok, sym, subst, ◌∙◌}
use Rattle.irq_base.specs.declared.reply.Reply.{Reply}
use Rattle.irq_base.specs.declared.reply.Reply.TheVariants.{Exit}
use Rattle.pic_8259a.specs.Pair.{is_port}
use Rattle.board_model.specs.Plan.{reply}
use Rattle.board_model.specs.Published.{routing_of_words}
use Rattle.board_model.specs.Run.{run_on}
use Rattle.board_raise.specs.InHand.{parts_of}
use Rattle.board_calls.specs.Accesses.{pair_read}
use Rattle.board_calls.specs.Told.{TellsOn}
use Rattle.board_calls.proofs.Composed.{said}
use Rattle.board_calls.proofs.Room.{quiet_tells}
use Rattle.board_calls.proofs.pair.port_in.Goals as goal

pub returns-else-is_port-clause-does : goal.returns-else-is_port-clause-does
returns-else-is_port-clause-does g c = λ straight.
    let rig = c.args.rig.now in
    let events = c.args.events.now.items in
    let q = parts_of (g.R.Rig.held rig) in
    let ws = g.R.Rig.wishes rig in
    let other : is_port c.args.port ≡ false = sym c.is_port.ensures ∙ c.if-is_port.false in
    subst (λ (t : Bool). TellsOn {S = Reply} (λ r. r ∷ []) (Ok Exit) events events q ws (run_on (if t then pair_read (routing_of_words (g.R.Rig.published rig)) c.args.shape.now c.args.port c.args.len else reply Exit) q ws)) (sym other)
    (quiet_tells (Ok Exit) events q ws (run_on (reply Exit) q ws) (said Exit q ws))
