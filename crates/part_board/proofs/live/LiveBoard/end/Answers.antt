use Rattle.std.proofs.Common.{◌≡◌, ◌∙◌, Some, refl, sym, ap, subst, arith}
use Rattle.board_raise.specs.declared.parts.Parts.{Parts}
use Rattle.board_raise.specs.Fit.{Fits}
use Rattle.board_raise.specs.InHand.{parts_of, chips_of}
use Rattle.board_step.specs.History.{opening}
use Rattle.board_step.specs.Sound.{IsSound}
use Rattle.board_step.specs.Whole.{IsWhole, board_of}
use Rattle.part_slots.specs.Commits.{Seen}
use Rattle.part_board.proofs.Ends.{left_right, ended_is}
use Rattle.part_board.proofs.live.LiveBoard.end.Goals as goal

pub gather-parts-requires-clause-room : goal.gather-parts-requires-clause-room
gather-parts-requires-clause-room c =
    let live = c.args.self in
    let v : Seen = c.args.desk.pen.seat.me.0 in
    let begins = subst (λ s. v.begin ≡ Some (opening s)) c.requires.desk.shape c.args.desk.begins in
    let left = left_right live.shape v live.row c.close-slots.result.0.items c.close-slots.result.1 _ live.room begins c.close-slots.ensures.ends in
    let room = left.room in omega (arith, room)

pub restored-board-requires-clause-whole : goal.restored-board-requires-clause-whole
restored-board-requires-clause-whole c =
    let live = c.args.self in
    let v : Seen = c.args.desk.pen.seat.me.0 in
    let begins = subst (λ s. v.begin ≡ Some (opening s)) c.requires.desk.shape c.args.desk.begins in
    let left = left_right live.shape v live.row c.close-slots.result.0.items c.close-slots.result.1 _ live.room begins c.close-slots.ensures.ends in
    subst (λ (p : Parts). IsWhole live.shape (parts_of p)) (sym c.gather-parts.ensures) left.whole

pub restored-board-requires-clause-fits : goal.restored-board-requires-clause-fits
restored-board-requires-clause-fits c =
    let live = c.args.self in
    let v : Seen = c.args.desk.pen.seat.me.0 in
    let begins = subst (λ s. v.begin ≡ Some (opening s)) c.requires.desk.shape c.args.desk.begins in
    let left = left_right live.shape v live.row c.close-slots.result.0.items c.close-slots.result.1 _ live.room begins c.close-slots.ensures.ends in
    subst (λ (p : Parts). Fits live.shape (parts_of p) (chips_of p)) (sym c.gather-parts.ensures) left.fits

pub restored-board-requires-clause-sound : goal.restored-board-requires-clause-sound
restored-board-requires-clause-sound c =
    let live = c.args.self in
    let v : Seen = c.args.desk.pen.seat.me.0 in
    let begins = subst (λ s. v.begin ≡ Some (opening s)) c.requires.desk.shape c.args.desk.begins in
    let left = left_right live.shape v live.row c.close-slots.result.0.items c.close-slots.result.1 _ live.room begins c.close-slots.ensures.ends in
    let front = c.close-slots.result.1 in
    subst (λ (p : Parts). IsSound (board_of live.shape (parts_of p) front.length front.generation)) (sym c.gather-parts.ensures) left.sound

pub returns : goal.returns
returns c =
    let live = c.args.self in
    let v : Seen = c.args.desk.pen.seat.me.0 in
    let begins = subst (λ s. v.begin ≡ Some (opening s)) c.requires.desk.shape c.args.desk.begins in
    let left = left_right live.shape v live.row c.close-slots.result.0.items c.close-slots.result.1 _ live.room begins c.close-slots.ensures.ends in
    let front = c.close-slots.result.1 in
    let same = ap (λ (p : Parts). board_of live.shape (parts_of p) front.length front.generation) c.gather-parts.ensures in
    ended_is live.shape v live.row c.close-slots.result.0.items front _ left (c.restored-board.ensures ∙ same) refl
