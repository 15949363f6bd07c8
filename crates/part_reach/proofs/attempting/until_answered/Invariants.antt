use Rattle.std.specs.Prelude.{◌≡◌, [], true, IfSome}
use Rattle.board_step.specs.Publications.{words}
use Rattle.turn_book.specs.Hands.{AreHome}
use Rattle.turn_book.specs.Views.{view_of, slots_of}
use Rattle.part_rig.specs.Knowing.{list_of}
use Rattle.part_rig.specs.Readings.{AreNoted}
use Rattle.part_rig.specs.Rooms.{IsRoomFor, AreAt}
use Rattle.part_reach.specs.UnderWay.{HasLooked, HoldsPlaces, IsUnderWay, wants_left}
use Rattle.part_reach.proofs.attempting.until_answered.Given as goal

-- the attempt is under way, its last look was at this front, and the words that are known are those that are published there
abbrev pub invariant-runs : goal.invariant-runs
invariant-runs l = record {
  book : l.pen.seat.table_id ≡ l.book.table.shared.table_id;
  home : AreHome (view_of l.pen.seat).held (slots_of l.pen.seat);
  looked : HasLooked l.shape l.caller (view_of l.pen.seat) l.had;
  holds : HoldsPlaces l.shape (view_of l.pen.seat) l.places.items;
  way : IsUnderWay l.shape l.caller l.call (view_of l.fn.pen.seat) (view_of l.pen.seat) l.had l.places.items;
  published : IfSome (view_of l.pen.seat).now (λ b. words b ≡ list_of l.room.rig.known);
  under : l.room.rig.known.looked ≡ l.had.generation;
  settled : l.room.rig.known.settled ≡ true;
  room : IsRoomFor l.shape l.room;
  bare : AreAt [] l.room.rig.parts;
  noted : AreNoted (view_of l.pen.seat).notes l.room.rig.known.places.items;
}

-- each run but the last leaves one want less
abbrev pub decreases-runs : goal.decreases-runs
decreases-runs l = wants_left l.had l.places.items l.room.rig.known
