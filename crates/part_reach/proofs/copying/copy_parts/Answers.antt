use Rattle.std.proofs.Common.{refl, sym, ap, ◌∙◌, subst}
use Rattle.turn_book.specs.Views.{view_of}
use Rattle.turn_copies.specs.Copies.{copied_each}
use Rattle.part_copies.specs.Copied.{with_copy}
use Rattle.part_rig.specs.declared.workroom.Workroom.{Workroom}
use Rattle.part_rig.specs.Rooms.{IsRoomFor}
use Rattle.part_rig.proofs.Rooms.{room_for, parts_copied, known_copied, rooms_copied}
use Rattle.part_attempt.proofs.Standing.{some_is, stands, many, right_is}
use Rattle.part_reach.specs.Copies.{AreCopies}
use Rattle.part_reach.proofs.Copied.{are_copies}
use Rattle.part_reach.proofs.OnHand.{slot_there}
use Rattle.part_reach.proofs.copying.copy_parts.Goals as goal

pub copy_each-requires-clause-room : goal.copy_each-requires-clause-room
copy_each-requires-clause-room c = λ q x within held.
    let v = view_of c.args.pen.now.seat in
    let is = stands c.args.shape.now v c.requires.begins c.requires.legal in
    room_for c.requires.legal.1 c.args.room.now is.sound (subst (λ s. IsRoomFor s c.args.room.now) (sym is.shape) c.requires.room) q x
    (right_is c.args.shape.now v c.requires.begins c.requires.legal c.requires.holds q x held)

pub returns-clause-copies : goal.returns-clause-copies
returns-clause-copies c = λ b now.
    let v = view_of c.args.pen.now.seat in
    let same = some_is c.requires.legal.1 b (sym c.requires.legal.4 ∙ now) in
    let q = c.args.room.now.rig.parts in
    let count = c.requires.room.places ∙ many c.args.shape.now v c.requires.begins c.requires.legal in
    let places = c.args.places.now in
    let copies = are_copies c.requires.legal.1 places v.held (slot_there c.args.shape.now v c.requires.begins c.requires.legal c.requires.holds places c.requires.just) q
    (λ p. c.requires.bare p refl) count in
    subst (λ p. AreCopies b places p) (sym (ap (λ (r : Workroom). r.rig.parts) c.copy_each.ensures.copied ∙ parts_copied places v.held c.args.room.now)) (subst (λ s. AreCopies s places (copied_each with_copy places v.held q)) same copies)

pub returns-clause-room : goal.returns-clause-room
returns-clause-room c =
    let v = view_of c.args.pen.now.seat in
    let is = stands c.args.shape.now v c.requires.begins c.requires.legal in
    subst (λ r. IsRoomFor c.args.shape.now r) (sym c.copy_each.ensures.copied)
    (rooms_copied c.args.shape.now c.args.places.now v.held c.args.room.now
    (λ q x within held. room_for c.requires.legal.1 c.args.room.now is.sound (subst (λ s. IsRoomFor s c.args.room.now) (sym is.shape) c.requires.room) q x (right_is c.args.shape.now v c.requires.begins c.requires.legal c.requires.holds q x held))
    c.requires.room)

pub returns-clause-known : goal.returns-clause-known
returns-clause-known c = ap (λ (r : Workroom). r.rig.known) c.copy_each.ensures.copied ∙ known_copied c.args.places.now (view_of c.args.pen.now.seat).held c.args.room.now
