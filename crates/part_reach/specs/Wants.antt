-- What a call wants before it can be answered on the parts in hand (this board's own rule).
use Rattle.std.specs.Prelude.{◌≡◌, ℕ, ◌<◌, false, List, None, Err}
use Rattle.irq_base.specs.declared.call.Call.{Call}
use Rattle.irq_base.specs.declared.call.Caller.{Caller}
use Rattle.irq_base.specs.declared.event.Event.{Event}
use Rattle.irq_base.specs.declared.shape.Shape.{Shape}
use Rattle.board_model.specs.Hand.{Parts}
use Rattle.board_step.specs.Bodies.{BodyLeads}
use Rattle.turn_book.specs.Histories.{is_in}
use Rattle.part_slots.specs.Commits.{Seen}
use Rattle.part_slots.specs.Slots.{place}
use Rattle.part_rig.specs.declared.known.Known.{Known}
use Rattle.part_rig.specs.Readings.{word_under, read_at}
use Rattle.part_reach.specs.declared.want.Want.{Want}
use Rattle.part_reach.specs.declared.want.Want.TheVariants as wants
use Rattle.part_reach.specs.Turns.{IsReachedAfter}
use Rattle.board_model.specs.declared.width.TheConstants.{WORDS}

-- no word of that index was read under the generation of the last look
pub record IsUnread (known : Known) (index : ℕ) : Type 0 where
  pub low : index < WORDS
  pub blank : word_under known.looked (read_at known.places.items index) ≡ None

-- the run of a call on these parts, by these words, lacked what is wanted
abbrev pub IsAskedFor : Known → Shape → List ℕ → Parts → Caller → Call → List Event → List Event → Parts → Want → Type 0
IsAskedFor known shape words q caller call before events after (wants.Word index) = IsUnread known index
IsAskedFor known shape words q caller call before events after (wants.Turn part) =
    BodyLeads shape words q caller call (Err (record { part = part })) before events after

-- a word is wanted that was not read; or the turn of a part that is not at these places, and that the call reaches
abbrev pub IsWanted : Known → Shape → Caller → Call → Seen → List ℕ → Want → Type 0
IsWanted known shape caller call v places (wants.Word index) = IsUnread known index
IsWanted known shape caller call v places (wants.Turn part) = (is_in (place part) places ≡ false) × IsReachedAfter shape caller call v.seen part
