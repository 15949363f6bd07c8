-- What holds of every plan (A and B are the types of the values with which plans end), of statuses and of pins.
use Rattle.std.specs.Prelude.{◌≡◌, ◌↔◌, ℕ, false, ◌||◌, length, None}
use Rattle.std.specs.declared.option.Option.{Option}
use Rattle.irq_base.specs.declared.shape.Part.{Part}
use Rattle.pic_8259a.specs.declared.pair.Pair.{Pair}
use Rattle.ioapic_82093aa.specs.declared.ioapic.Ioapic.{Ioapic}
use Rattle.board_model.specs.Board.{Board, part_of}
use Rattle.board_model.specs.Hand.{Parts, part_in}
use Rattle.board_model.specs.Registry.{RegistryPart}
use Rattle.board_model.specs.Routing.{routing_of_registry}
use Rattle.board_model.specs.Published.{published, routing_of_words, IsSoundRegistry}
use Rattle.board_model.specs.Chips.{PicPart, IoapicPart, master_high, slave_high, pair_of, with_pair, ioapic_high, ioapic_of, with_ioapic}
use Rattle.board_model.specs.Statuses.{Sent, TargetAnswer, status_sent, sets_of}
use Rattle.board_model.specs.Plan.{Plan, ◌>>=◌}
use Rattle.board_model.specs.Run.{Wishes, run, then_run, reaches, lacks, run_on, then_on}
use Rattle.board_model.specs.Agreement.{Agrees, Exact, AgreesOnReach, RunsAlike, SameOutcome, SameFrame, IsLacking, ReachesPast}
use Rattle.board_model.specs.Following.{shown_wishes, IsSteady}
use Rattle.board_model.specs.declared.width.TheConstants.{WORDS}

-- a part outside the reach stays as it is
abbrev pub UnreachedStays : Type 0 → Type 0
UnreachedStays A = (m : Plan A) (b : Board) (ws : Wishes) (q : Part) → reaches m b ws q ≡ false → part_of (run m b ws).board q ≡ part_of b q

-- a run leaves the shape, the number of local APICs and the two counts as they are
abbrev pub FrameStays : Type 0 → Type 0
FrameStays A = (m : Plan A) (b : Board) (ws : Wishes) → SameFrame (run m b ws).board b

-- boards that agree on the reach run alike, and have the same reach
abbrev pub AgreeingAlike : Type 0 → Type 0
AgreeingAlike A = (m : Plan A) (b c : Board) (ws : Wishes) → AgreesOnReach m b c ws → RunsAlike m m b c ws

-- the events and answers of a run decide its value, its sendings and the board after it, whatever was wished
abbrev pub ShownDecides : Type 0 → Type 0
ShownDecides A =
    (m : Plan A) (b : Board) (ws vs : Wishes) → (run m b ws).log.events ≡ (run m b vs).log.events
    → (run m b ws).log.answers ≡ (run m b vs).log.answers → SameOutcome (run m b ws) (run m b vs)

-- on parts in hand of the board a plan gives as the board, or it lacks a part that is reached and is not in hand
abbrev pub ExactOnParts : Type 0 → Type 0
ExactOnParts A = (m : Plan A) (q : Parts) (b : Board) (ws : Wishes) → Agrees q b → Exact (run_on m q ws) (run m b ws) q (reaches m b ws)

-- on parts in hand of the board a plan lacks a part exactly where it reaches one that is not in hand
abbrev pub LackingExactly : Type 0 → Type 0
LackingExactly A =
    (m : Plan A) (q : Parts) (b : Board) (ws : Wishes) → Agrees q b → IsLacking (run_on m q ws) ↔ ReachesPast q (reaches m b ws)

-- on any parts in hand a plan lacks only a part that is not in hand
abbrev pub LackingIsNotHeld : Type 0 → Type 0
LackingIsNotHeld A = (m : Plan A) (q : Parts) (ws : Wishes) (p : Part) → run_on m q ws ≡ lacks p → part_in q p ≡ None

-- a steady plan run again under the wishes that its log shows gives the same value, log and board
abbrev pub ShownFollowed : Type 0 → Type 0
ShownFollowed A =
    (m : Plan A) (b : Board) (ws : Wishes) → IsSteady m
    → SameOutcome (run m b (shown_wishes (run m b ws).log.sendings)) (run m b ws)

-- a plan and then another, on a board: the one and then the other
abbrev pub RunInSequence : Type 0 → Type 0 → Type 0
RunInSequence A B = (m : Plan A) (f : A → Plan B) (b : Board) (ws : Wishes) → run (m >>= f) b ws ≡ then_run (run m b ws) f

-- a plan and then another, on parts in hand: the one and then the other
abbrev pub RunOnInSequence : Type 0 → Type 0 → Type 0
RunOnInSequence A B = (m : Plan A) (f : A → Plan B) (q : Parts) (ws : Wishes) → run_on (m >>= f) q ws ≡ then_on (run_on m q ws) f

-- a plan and then another reach what the one reaches, and what the other then reaches
abbrev pub ReachesInSequence : Type 0 → Type 0 → Type 0
ReachesInSequence A B =
    (m : Plan A) (f : A → Plan B) (b : Board) (ws : Wishes) (q : Part) → reaches (m >>= f) b ws q
    ≡ (reaches m b ws q || reaches (f (run m b ws).value) (run m b ws).board (run m b ws).wishes q)

-- the status of a sending shows the sets that it reached
abbrev pub StatusShowsSets : Type 0
StatusShowsSets = (pic : Option TargetAnswer) (sent : Sent) → sets_of (status_sent pic sent) ≡ sent

-- a chip's part is what its chip makes of it, and a chip comes out as it was put in where its pins are those that are held
pub record PinsFollowHolds : Type 0 where
  pub pic : (part : PicPart) → with_pair part (pair_of part) ≡ part
  pub pair : (part : PicPart) (pair : Pair) → pair.master.high ≡ master_high part.holds → pair.slave.high ≡ slave_high part.holds
      → pair_of (with_pair part pair) ≡ pair
  pub ioapic : (part : IoapicPart) → with_ioapic part (ioapic_of part) ≡ part
  pub chip : (part : IoapicPart) (chip : Ioapic) → chip.high ≡ ioapic_high part.holds → ioapic_of (with_ioapic part chip) ≡ chip

-- a sound registry publishes WORDS words, and they tell its routing
pub record PublishesRouting (registry : RegistryPart) (tick : ℕ) : Type 0 where
  pub count : length (published registry tick) ≡ WORDS
  pub told : routing_of_words (published registry tick) ≡ routing_of_registry registry tick

-- every sound registry publishes its routing
abbrev pub WordsTellTheRouting : Type 0
WordsTellTheRouting = (registry : RegistryPart) (tick : ℕ) → IsSoundRegistry registry tick → PublishesRouting registry tick

-- a board publishes WORDS words, whatever its registry
abbrev pub PublishesAsMany : Type 0
PublishesAsMany = (registry : RegistryPart) (tick : ℕ) → length (published registry tick) ≡ WORDS

-- two sound registries publish the same words
pub record PublishTheSame (registry other : RegistryPart) (tick other_tick : ℕ) : Type 0 where
  pub sound : IsSoundRegistry registry tick
  pub other_sound : IsSoundRegistry other other_tick
  pub words : published registry tick ≡ published other other_tick

-- two sound registries that publish the same words have one routing table
abbrev pub PublishedDecidesTheTable : Type 0
PublishedDecidesTheTable =
    (registry other : RegistryPart) (tick other_tick : ℕ) → PublishTheSame registry other tick other_tick → registry.table ≡ other.table

-- two sound registries that publish the same words have one routing
abbrev pub PublishedDecides : Type 0
PublishedDecides =
    (registry other : RegistryPart) (tick other_tick : ℕ) → IsSoundRegistry registry tick → IsSoundRegistry other other_tick
    → published registry tick ≡ published other other_tick
    → routing_of_registry registry tick ≡ routing_of_registry other other_tick
