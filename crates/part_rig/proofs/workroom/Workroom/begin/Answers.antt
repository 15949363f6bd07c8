use Rattle.std.proofs.Common.{sym, ap, ◌∙◌, subst}
use Rattle.part_rig.specs.declared.workroom.Workroom.{Workroom}
use Rattle.part_rig.specs.Rooms.{IsRoomFor, IsBare}
use Rattle.part_rig.proofs.Clearing.{all_bare, all_cleared, all_known, rooms_stay}
use Rattle.part_rig.proofs.workroom.Workroom.begin.Goals as goal

pub returns-clause-bare : goal.returns-clause-bare
returns-clause-bare c =
    subst (λ (room : Workroom). IsBare room.rig.parts) (sym c.clear_each.ensures) (all_bare c.args.places.now c.args.self.now c.requires.in_hand)

pub returns-clause-parts : goal.returns-clause-parts
returns-clause-parts c = ap (λ (room : Workroom). room.rig.parts) c.clear_each.ensures ∙ all_cleared c.args.places.now c.args.self.now c.requires.in_hand

pub returns-clause-known : goal.returns-clause-known
returns-clause-known c = ap (λ (room : Workroom). room.rig.known) c.clear_each.ensures ∙ all_known c.args.places.now c.args.self.now

pub returns-clause-room : goal.returns-clause-room
returns-clause-room c = λ shape has. subst (IsRoomFor shape) (sym c.clear_each.ensures) (rooms_stay c.args.places.now shape c.args.self.now has)
