-- Requests stay pending until they are taken (over this board's own definitions).
use Rattle.std.specs.Prelude.{◌≡◌, ℕ, Bool, true, false, not, ◌&&◌, nat_eq, ◌⊎◌, List, [], ◌∷◌, map, All, IsTrue}
use Rattle.std.specs.List.{list_any}
use Rattle.std.specs.FinSet as set
use Rattle.irq_base.specs.declared.call.Call.{Call}
use Rattle.irq_base.specs.declared.call.Call.TheVariants.{Ack}
use Rattle.irq_base.specs.declared.call.Caller.{Caller}
use Rattle.irq_base.specs.declared.call.Caller.TheVariants.{Device, Cpu}
use Rattle.irq_base.specs.declared.lists.Entry.{Entry}
use Rattle.irq_base.specs.declared.message.Message.{Message}
use Rattle.irq_base.specs.declared.reply.Reply.{Reply}
use Rattle.irq_base.specs.declared.reply.Reply.TheVariants.{Vector, Nmi}
use Rattle.irq_base.specs.declared.shape.Shape.{Shape}
use Rattle.lapic.specs.Messages.{is_nmi}
use Rattle.board_model.specs.Board.{Board, part_of, with_part}
use Rattle.board_model.specs.Plan.{Plan, done, look, put, tell, answer, choose}
use Rattle.board_model.specs.Run.{Sending, Wishes, next_wish, later_wishes, run}
use Rattle.board_model.specs.Following.{reached}
use Rattle.board_raise.specs.Named.{MayReach}
use Rattle.board_raise.specs.Laws.{named_on, has_request_on}
use Rattle.board_step.specs.Step.{plan_on}
use Rattle.board_step.specs.History.{wishes_shown, board_after}
use Rattle.board_laws.specs.Points.{Point, board_at, board_left, Begins, AtEachPoint}

-- the sendings of a run, each with the board on which it was made
abbrev pub sendings_of : {A : Type 0} → Plan A → Board → Wishes → List (Board × Sending)
sendings_of (done a) b ws = []
sendings_of (look p k) b ws = sendings_of (k (part_of b p)) b ws
sendings_of (put p v rest) b ws = sendings_of rest (with_part b p v) ws
sendings_of (tell x rest) b ws = sendings_of rest b ws
sendings_of (answer r rest) b ws = sendings_of rest b ws
sendings_of (choose m about g k) b ws =
    (b, record { heading = m; sent = g (next_wish ws) }) ∷ sendings_of (k (g (next_wish ws))) b (later_wishes ws)

-- they are those that the log of the run shows, in order: none is left out
abbrev pub SendingsAreLogged : Type 0 → Type 0
SendingsAreLogged A =
    (m : Plan A) (b : Board) (ws : Wishes) → map (λ (made : Board × Sending). made.1) (sendings_of m b ws) ≡ (run m b ws).log.sendings

-- whether a reply takes the request of a message: its vector, or an NMI
abbrev pub takes_by : Message → Reply → Bool
takes_by message (Vector vector) = not (is_nmi message.mode) && nat_eq vector message.vector
takes_by message Nmi = is_nmi message.mode
takes_by message _ = false

-- whether the caller is that processor
abbrev pub is_processor : ℕ → Caller → Bool
is_processor n (Cpu m) = nat_eq m n
is_processor n (Device d) = false

-- whether the call asks for the next interrupt
abbrev pub is_ack : Call → Bool
is_ack Ack = true
is_ack _ = false

-- whether by this entry that processor takes the request of a message
abbrev pub takes : ℕ → Message → Entry → Bool
takes n message e = is_ack e.call && (is_processor n e.caller && takes_by message e.reply)

-- a processor has the request of a message after these entries, or took it in one of them
abbrev pub IsPendingOrTaken : Board → ℕ → Message → List Entry → Type 0
IsPendingOrTaken left n message es =
    (has_request_on (board_after left es) message n ≡ true) ⊎ IsTrue (list_any (takes n message) es)

-- the sending reached that processor
abbrev pub Reaches : Sending → ℕ → Type 0
Reaches s n = set.contains (reached s.sent) n ≡ true

-- a sending that was made on b: it reached a set that it may reach, and each processor of it has the request until it takes
-- it, however many of the later entries are looked at
pub record SendingStands (shape : Shape) (left : Board) (later : List Entry) (b : Board) (s : Sending) : Type 0 where
  pub chosen : MayReach s.heading.message.mode (named_on b shape.cpus s.heading.message s.heading.from) (reached s.sent)
  pub pending : (n : ℕ) (es : List Entry) → Reaches s n → Begins es later → IsPendingOrTaken left n s.heading.message es

-- the sendings of an entry, by the wishes that it shows
abbrev pub sendings_shown : Board → Entry → List (Board × Sending)
sendings_shown b e = sendings_of (plan_on b e.caller e.call) b (wishes_shown e)

-- each sending of the entry stands
abbrev pub SendingsStand : Shape → Point → Type 0
SendingsStand shape p =
    All (λ (made : Board × Sending). SendingStands shape (board_left shape p) p.after made.0 made.1)
    (sendings_shown (board_at shape p) p.entry)

-- so it is at each point of a history
abbrev pub RequestsStayPending : Shape → List Entry → Type 0
RequestsStayPending = AtEachPoint SendingsStand
