use Rattle.std.proofs.Common.{◌≡◌, sym, ap, ◌∙◌, subst, refl, Some}
use Rattle.irq_base.specs.declared.shape.Shape.{Shape}
use Rattle.board_step.specs.History.{opening, Legal}
use Rattle.part_slots.specs.Commits.{Seen}
use Rattle.part_board.proofs.Learnt.{legal_of}
use Rattle.part_board.proofs.Tries.{entered, learnt}
use Rattle.part_board.proofs.live.LiveBoard.try_call.Goals as goal

pub attempt-requires-clause-begins : goal.attempt-requires-clause-begins
attempt-requires-clause-begins c =
    let pass = c.args.pass.now in
    let v : Seen = pass.pen.seat.me.0 in
    subst (λ s. v.begin ≡ Some (opening s)) c.requires.pass.shape pass.begins

pub attempt-requires-clause-room : goal.attempt-requires-clause-room
attempt-requires-clause-room c =
    let pass = c.args.pass.now in
    record {
      registry = pass.registry_room;
      counters = pass.counters_room ∙ ap (λ (s : Shape). Some s.counters) c.requires.pass.shape;
      places = pass.lapics_room ∙ ap (λ (s : Shape). s.cpus) c.requires.pass.shape;
    }

pub returns-clause-legal : goal.returns-clause-legal
returns-clause-legal c =
    let pass = c.args.pass.now in
    let w : Seen = c.attempt.new.pen.seat.me.0 in
    subst (λ s. Legal s w.seen) c.requires.pass.shape (legal_of pass.shape w (c.attempt.ensures.came.place.0 ∙ pass.begins) c.attempt.ensures.came.legal)

pub returns-clause-entered : goal.returns-clause-entered
returns-clause-entered c =
    let pass = c.args.pass.now in
    let v : Seen = pass.pen.seat.me.0 in
    let w : Seen = c.attempt.new.pen.seat.me.0 in
    entered v v w pass.caller c.args.call.now c.attempt.new.events.items c.attempt.result refl c.attempt.ensures.came.entered

pub returns-clause-learnt : goal.returns-clause-learnt
returns-clause-learnt c =
    let pass = c.args.pass.now in
    let v : Seen = pass.pen.seat.me.0 in
    let w : Seen = c.attempt.new.pen.seat.me.0 in
    let came = c.attempt.ensures.came in
    learnt v v w pass.shape c.args.self.now.shape pass.caller c.attempt.result c.requires.pass.shape pass.begins pass.named came.place.0 refl refl came.seen came.legal came.own
