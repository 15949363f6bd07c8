use Rattle.std.proofs.Common.{◌≤◌, IfSome, IsOk, subst}
use Rattle.pit_8254.specs.Clocks.{channel_ticks}
use Rattle.pit_8254.specs.declared.channel.Channel.{Channel}
use Rattle.pit_8254.specs.Operations.{Advances}
use Rattle.pit_8254.proofs.Leading.{advances}
use Rattle.pit_8254.proofs.Standing.{none_barred}
use Rattle.pit_8254.proofs.pit.Pit.advance.Goals as goal

pub returns-clause-answers : goal.returns-clause-answers
returns-clause-answers g c =
    subst (λ (ch : Channel). IfSome (g.F.Face.left c.args.face.now) (λ left. channel_ticks c.args.clocks ch ≤ left → IsOk c.advance.result)) c.self.view_is
    (none_barred c.advance.result (g.F.Face.left c.args.face.now) c.args.clocks c.self.inside.channel c.advance.new.self
    c.advance.ensures.stands c.advance.ensures.none_left)

pub returns-clause-asked : goal.returns-clause-asked
returns-clause-asked g c =
    let had = c.args.events.now.items in
    let has = c.advance.new.events.items in
    let told = c.advance.ensures in
    subst (λ (ch : Channel). Advances g.F.Face c.args.clocks c.advance.result c.args.face.now c.advance.new.face ch c.advance.new.self had has) c.self.view_is
    (advances g.F.Face c.args.clocks c.advance.result c.args.face.now c.advance.new.face c.self.inside.channel c.advance.new.self had has
    told.after told.ticks told.stands told.asked)
