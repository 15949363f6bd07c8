use Rattle.std.proofs.Common.{◌≡◌, true, subst, sym}
use Rattle.irq_base.specs.Callers.{is_there}
use Rattle.face_asks.proofs.Told.{allowed_to_any, answered_one, stop_told}
use Rattle.face_asks.proofs.ask.ask_as_any.Goals as goal

pub ask-requires : goal.ask-requires
ask-requires g c =
    let face = c.args.face.now in
    let there : is_there (g.F.Face.who face) (g.F.Face.shape face) ≡ true =
    subst (λ who. is_there who (g.F.Face.shape face) ≡ true) c.caller-caller.ensures.who c.caller-caller.ensures.there in
    record { allowed = allowed_to_any (g.F.Face.who face) c.args.call.now (g.F.Face.shape face) there c.requires }

pub returns : goal.returns
returns g c =
    let told = c.ask.ensures in
    let answer = c.ask.result in
    let before = c.args.face.now in
    let after = c.ask.new.self in
    record {
      answered = answered_one g.F.Face before after c.args.call.now c.ask.new.events.items answer told.shape told.who told.home told.place told.own told.left told.keeps;
      stops = stop_told g.F.Face before after c.args.call.now c.ask.new.events.items answer told.stops;
      enough = told.answers;
      barred = told.barred;
      quiet = told.quiet;
      kept = told.keeps;
    }
