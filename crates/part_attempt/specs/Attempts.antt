-- What one attempt of a call on a running board comes to (this board's own rule).
use Rattle.std.specs.Prelude.{◌≡◌, ◌≢◌, ℕ, ◌+◌, ◌<◌, List, [], ◌∷◌, ◌++◌, length, All, Some, Result, Ok, Err}
use Rattle.irq_base.specs.declared.call.Call.{Call}
use Rattle.irq_base.specs.declared.lists.Entry.{Entry}
use Rattle.irq_base.specs.declared.reply.Done.{Done}
use Rattle.irq_base.specs.declared.reply.Spent.{Spent}
use Rattle.irq_base.specs.declared.shape.Shape.{Shape}
use Rattle.board_model.specs.Board.{Board}
use Rattle.board_raise.specs.declared.parts.RegistryPart.{RegistryPart}
use Rattle.board_step.specs.History.{opening, Leads}
use Rattle.board_step.specs.Step.{spent_of}
use Rattle.route_bank.specs.Indices.{AreInRange, words_with}
use Rattle.turn_book.specs.declared.view.Front.{Front}
use Rattle.turn_book.specs.Histories.{IsPrefix, entries_of}
use Rattle.turn_book.specs.Views.{AddsNoneOfOwn}
use Rattle.part_slots.specs.Commits.{Seen}
use Rattle.part_slots.specs.Running.{caller_of}
use Rattle.part_slots.specs.Slots.{place}
use Rattle.part_attempt.specs.declared.not_now.NotNow.{NotNow}
use Rattle.part_attempt.specs.declared.not_now.NotNow.TheVariants as reasons

-- ---- what came of it

-- the entry stands last, behind a list that begins with what was seen before and has of its caller no other entries, and its place
-- is the length of that list
pub record EntersBehind (v w : Seen) (e : Entry) (at : ℕ) : Type 0 where
  pub others : List Entry
  pub seen : IsPrefix v.seen others
  pub own : entries_of caller_of (caller_of e) others ≡ entries_of caller_of (caller_of e) v.seen
  pub entered : w.seen ≡ others ++ e ∷ []
  pub place : at ≡ length others

-- the limit bars the call on the board that these entries leave
pub record IsBarred (shape : Shape) (call : Call) (spent : Spent) (now : List Entry) : Type 0 where
  pub last : Board
  pub after : Leads (opening shape) now last
  pub limit : spent_of last call ≡ Some spent

-- ---- why it gave way

-- the exchange that expected the front of the last look found another; of the attempt it is the only one
pub record LostExchange (v w : Seen) (had found : Front) : Type 0 where
  pub earlier : List Front
  pub looks : w.looks ≡ v.looks ++ (earlier ++ had ∷ [])
  pub misses : w.misses ≡ v.misses ++ record { had = had; found = found } ∷ []
  pub other : found ≢ had

-- the fronts of an exchange that was lost to a publication
pub record IsMoved (v w : Seen) (from to : ℕ) : Type 0 where
  pub had : Front
  pub found : Front
  pub lost : LostExchange v w had found
  pub from_is : had.generation ≡ from
  pub to_is : found.generation ≡ to
  pub differ : from ≢ to

-- the fronts of an exchange that was lost to entries without a publication
pub record IsFront (v w : Seen) (before now : ℕ) : Type 0 where
  pub had : Front
  pub found : Front
  pub lost : LostExchange v w had found
  pub generation : found.generation ≡ had.generation
  pub had_is : had.length ≡ before
  pub now_is : found.length ≡ now
  pub differ : before ≢ now

-- the attempt gave way for this reason
abbrev pub GaveWay : Seen → Seen → NotNow → Type 0
GaveWay v w (reasons.Busy part) = (w.found ≡ v.found ++ place part ∷ []) × (w.misses ≡ v.misses)
GaveWay v w (reasons.Moved from to) = IsMoved v w from to
GaveWay v w (reasons.Front had now) = IsFront v w had now

-- an exchange that expected the first front and found the second gave way for this reason
abbrev pub IsLate : Front → Front → NotNow → Type 0
IsLate had found (reasons.Busy part) = ⊥
IsLate had found (reasons.Moved from to) = (had.generation ≡ from) × (found.generation ≡ to) × (from ≢ to)
IsLate had found (reasons.Front before now) = (found.generation ≡ had.generation) × (had.length ≡ before) × (found.length ≡ now) × (before ≢ now)

-- an exchange was lost for this reason, and of the caller there is nothing new
pub record IsLost (v w : Seen) (had : Front) (why : NotNow) : Type 0 where
  pub found : Front
  pub late : IsLate had found why
  pub other : found ≢ had
  pub misses : w.misses ≡ v.misses ++ record { had = had; found = found } ∷ []
  pub own : AddsNoneOfOwn caller_of v w

-- ---- what an attempt answers

-- an attempt's answer: the call has its entry; or a limit bars it; or the attempt gave way
abbrev pub Answer : Type 0
Answer = Result (Result Done Spent) NotNow

-- so it is where the call has its entry
abbrev pub IfEntered : Answer → (Done → Type 0) → Type 0
IfEntered (Ok (Ok done)) P = P done
IfEntered _ P = Unit {0}

-- so it is where a limit bars the call
abbrev pub IfBarred : Answer → (Spent → Type 0) → Type 0
IfBarred (Ok (Err spent)) P = P spent
IfBarred _ P = Unit {0}

-- so it is where the attempt gave way
abbrev pub IfGaveWay : Answer → (NotNow → Type 0) → Type 0
IfGaveWay (Err why) P = P why
IfGaveWay _ P = Unit {0}

-- so it is where the call has no entry
abbrev pub OnNoEntry : Answer → Type 0 → Type 0
OnNoEntry (Ok (Ok done)) P = Unit {0}
OnNoEntry _ P = P

-- so it is where no exchange was lost, and no turn found taken
abbrev pub OnAnswer : Answer → Type 0 → Type 0
OnAnswer (Err why) P = Unit {0}
OnAnswer _ P = P

-- ---- turns

-- the turns that are found taken: one where the attempt is answered Busy
abbrev pub turns_found : Answer → List ℕ
turns_found (Err (reasons.Busy part)) = place part ∷ []
turns_found _ = []

-- ---- a registry in hand

-- irqfds, notifiers and ticks of a registry in hand name triggers and GSIs that there can be
abbrev pub NamesInRange : ℕ → RegistryPart → Type 0
NamesInRange tick registry = AreInRange registry.irqfds registry.watches tick

-- the words that a registry in hand publishes
abbrev pub words_in_hand : RegistryPart → ℕ → List ℕ
words_in_hand registry tick = words_with registry.table registry.irqfds registry.watches tick
