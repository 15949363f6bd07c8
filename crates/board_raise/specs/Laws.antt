-- What holds of every sending: the sets of processors that are reached under all wishes are those that may be reached.
use Rattle.std.specs.Prelude.{◌≡◌, ℕ, ◌<◌, ◌≤◌, Bool, true, false, not, ◌&&◌, if◌then◌else◌, List, [], ◌∷◌, length}
use Rattle.std.specs.declared.option.Option.{Option}
use Rattle.std.specs.FinSet as set
use Rattle.irq_bits.specs.Members.{Numbers}
use Rattle.irq_base.specs.declared.message.Message.{Message}
use Rattle.irq_base.specs.declared.message.Mode.{Mode}
use Rattle.irq_base.specs.declared.shape.Part.TheVariants.{Lapic}
use Rattle.lapic.specs.declared.outcome.Shorthand.{Shorthand}
use Rattle.lapic.specs.Messages.{is_taken, accepted, with_error}
use Rattle.board_model.specs.Board.{Board, part_of}
use Rattle.board_model.specs.Statuses.{Sent, TargetAnswer, message_answer}
use Rattle.board_model.specs.Plan.{About, events_of, answers_of}
use Rattle.board_model.specs.Run.{Wishes, Outcome, run}
use Rattle.board_model.specs.Following.{reached}
use Rattle.board_raise.specs.Named.{Processor, is_named, named_by, chosen_of, numbers_of, MayReach}
use Rattle.board_raise.specs.Send.{numbers_below, has_request, is_illegal, send}

-- ---- of the choice alone

-- under each wish a set is chosen that may be reached, and each set that may be reached is chosen under some wish
pub record ChoosesExactly (mode : Mode) (named : List Processor) : Type 0 where
  pub only : (wish : Numbers) → MayReach mode named (numbers_of (chosen_of mode wish named))
  pub every : (s : Numbers) → MayReach mode named s → (wish : Numbers) × (numbers_of (chosen_of mode wish named) ≡ s)

-- so it is wherever somebody is named
abbrev pub WishesChooseExactly : Type 0
WishesChooseExactly = (mode : Mode) (named : List Processor) → 0 < length named → ChoosesExactly mode named

-- ---- of a sending on a board

-- these processors of a board
abbrev pub processors_on : Board → List ℕ → List Processor
processors_on b [] = []
processors_on b (n ∷ ns) = record { number = n; apic = part_of b (Lapic n) } ∷ processors_on b ns

-- the processors, of all of the board, that a message names
abbrev pub named_on : Board → ℕ → Message → Option (ℕ × Shorthand) → List Processor
named_on b cpus message from = named_by message from (processors_on b (numbers_below cpus))

-- a board has so many processors, and each local APIC has the number of its place
pub record HasProcessors (b : Board) (cpus : ℕ) : Type 0 where
  pub places : cpus ≤ length b.lapics
  pub numbers : (n : ℕ) → n < cpus → (part_of b (Lapic n)).number ≡ n

-- a message that comes to be sent: local APICs take its mode, it names some, and its vector is legal
pub record IsSent (message : Message) (named : List Processor) : Type 0 where
  pub taken : is_taken message.mode ≡ true
  pub someone : 0 < length named
  pub legal : is_illegal message ≡ false

-- whether the request of a message is there already at a processor of a board
abbrev pub has_request_on : Board → Message → ℕ → Bool
has_request_on b message n = has_request message (record { number = n; apic = part_of b (Lapic n) })

-- a message was sent once, and it reached the processors of that set: those of them where its request stood before and those
-- where it is new show in the event or in the reply, and they decide what the message answers; each of them, and no other
-- processor, accepts the message
pub record IsSending (message : Message) (from : Option (ℕ × Shorthand)) (about : About) (b : Board) (s : Numbers)
    (o : Outcome TargetAnswer) : Type 0 where
  pub sent : Sent
  pub once : o.log.sendings ≡ record { heading = record { message = message; from = from }; sent = sent } ∷ []
  pub reaches : reached sent ≡ s
  pub stood : (n : ℕ) → set.contains sent.stood n ≡ (set.contains s n && has_request_on b message n)
  pub new : (n : ℕ) → set.contains sent.new n ≡ (set.contains s n && not (has_request_on b message n))
  pub events : o.log.events ≡ events_of about sent
  pub answers : o.log.answers ≡ answers_of about sent
  pub value : o.value ≡ message_answer sent
  pub after : (n : ℕ) →
      part_of o.board (Lapic n) ≡ (if set.contains s n then accepted (part_of b (Lapic n)) message else part_of b (Lapic n))

-- the message is sent once, under each wish to a set that may be reached, and to each set that may be reached under some
-- wish
pub record ReachesExactly (cpus : ℕ) (message : Message) (from : Option (ℕ × Shorthand)) (about : About) (b : Board) : Type 0 where
  pub only : (ws : Wishes) →
      (s : Numbers) × MayReach message.mode (named_on b cpus message from) s ×
      IsSending message from about b s (run (send cpus message from about) b ws)
  pub every : (s : Numbers) → MayReach message.mode (named_on b cpus message from) s →
      (wish : Numbers) × IsSending message from about b s (run (send cpus message from about) b (wish ∷ []))

-- so it is of each message that comes to be sent
abbrev pub WishesReachExactly : Type 0
WishesReachExactly =
    (cpus : ℕ) (message : Message) (from : Option (ℕ × Shorthand)) (about : About) (b : Board) → HasProcessors b cpus →
    IsSent message (named_on b cpus message from) → ReachesExactly cpus message from about b

-- ---- of an illegal vector

-- a named processor that accepts a message with an illegal vector records ESR bit 6, and nothing else of it changes
abbrev pub IllegalVectorIsRecorded : Type 0
IllegalVectorIsRecorded =
    (message : Message) (from : Option (ℕ × Shorthand)) (p : Processor) → is_taken message.mode ≡ true →
    is_named message from p ≡ true → is_illegal message ≡ true → accepted p.apic message ≡ with_error p.apic 6
