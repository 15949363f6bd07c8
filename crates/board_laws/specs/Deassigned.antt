-- No signal comes of a deassigned trigger (over this board's own definitions).
use Rattle.std.specs.Prelude.{◌≡◌, ◌≢◌, ℕ, ◌⊎◌, List, [], ◌∷◌, ◌++◌, slice_get, Some}
use Rattle.std.specs.List.{Contains}
use Rattle.std.specs.declared.option.Option.{Option}
use Rattle.irq_base.specs.declared.call.Call.TheVariants.{Write, Assign, Deassign}
use Rattle.irq_base.specs.declared.event.Event.TheVariants.{Rang}
use Rattle.irq_base.specs.declared.lists.Entry.{Entry}
use Rattle.irq_base.specs.declared.refusal.Refusal.{Refusal}
use Rattle.irq_base.specs.declared.reply.Reply.TheVariants.{Done, Removed, Refused}
use Rattle.irq_base.specs.declared.shape.Part.{Part}
use Rattle.irq_base.specs.declared.shape.Part.TheVariants.{Counters}
use Rattle.irq_base.specs.declared.shape.Shape.{Shape}
use Rattle.board_model.specs.Board.{Board, part_of}
use Rattle.board_laws.specs.Points.{Point, board_at, board_left, AtEachPoint}
use Rattle.board_laws.specs.Rings.{rung_on, IsRefusedAlone}

-- an entry that ends the irqfd of a trigger
pub record EndsTrigger (trigger : ℕ) (e : Entry) : Type 0 where
  pub gsi : ℕ
  pub call : e.call ≡ Deassign trigger gsi
  pub reply : e.reply ≡ Removed 1

-- an entry that makes an irqfd of the trigger
pub record MakesTrigger (trigger : ℕ) (e : Entry) : Type 0 where
  pub gsi : ℕ
  pub resample : Option ℕ
  pub call : e.call ≡ Assign trigger gsi resample
  pub reply : e.reply ≡ Done

-- no part changed but the count of that counter
pub record ChangesCountAlone (counter : ℕ) (b c : Board) : Type 0 where
  pub parts : (q : Part) → q ≢ Counters → part_of c q ≡ part_of b q
  pub counts : (k : ℕ) → k ≢ counter → slice_get c.counters k ≡ slice_get b.counters k

-- a call without a signal: it is refused, or done, and changes the count of that counter alone
pub record SignalsNothing (counter : ℕ) (b : Board) (e : Entry) (c : Board) : Type 0 where
  pub reply : (e.reply ≡ Done) ⊎ ((refusal : Refusal) × (e.reply ≡ Refused refusal))
  pub changes : ChangesCountAlone counter b c

-- a guest write that rings a counter and signals nothing: it tells that alone, and changes the count of that counter alone
pub record RingsAlone (counter : ℕ) (b : Board) (e : Entry) (c : Board) : Type 0 where
  pub reply : e.reply ≡ Done
  pub events : e.events ≡ Rang counter ∷ []
  pub changes : ChangesCountAlone counter b c

-- from the end of an irqfd to the next of its trigger, a write of its counter tells no event and signals nothing; a guest
-- write that rings it is refused, or rings and signals nothing; and no other call tells that it rang
pub record SignalsNoMore (counter : ℕ) (b : Board) (e : Entry) (c : Board) : Type 0 where
  pub written : (n : ℕ) → e.call ≡ Write counter n → (e.events ≡ []) × SignalsNothing counter b e c
  pub rung : rung_on b e.call ≡ Some counter → IsRefusedAlone b e c ⊎ RingsAlone counter b e c
  pub told : Contains e.events (Rang counter) → rung_on b e.call ≡ Some counter

-- before the point an entry ended the irqfd of the trigger, and none made one since
pub record HasEnded (trigger : ℕ) (p : Point) : Type 0 where
  pub early : List Entry
  pub end_ : Entry
  pub between : List Entry
  pub before : p.before ≡ early ++ end_ ∷ between
  pub ends : EndsTrigger trigger end_
  pub none_made : (e : Entry) → Contains between e → MakesTrigger trigger e → ⊥

-- so it is at a point
abbrev pub EndedSignalsNoMore : Shape → Point → Type 0
EndedSignalsNoMore shape p = (trigger : ℕ) → HasEnded trigger p → SignalsNoMore trigger (board_at shape p) p.entry (board_left shape p)

-- so it is at each point of a history
abbrev pub NoSignalOfDeassignedTrigger : Shape → List Entry → Type 0
NoSignalOfDeassignedTrigger = AtEachPoint EndedSignalsNoMore
