-- What a plan means: on a whole board, on the parts in hand, and which parts it reaches.
use Rattle.std.specs.Prelude.{Bool, false, ◌||◌, List, [], ◌∷◌, ◌++◌, Some, None}
use Rattle.std.specs.FinSet as set
use Rattle.irq_bits.specs.Members.{Numbers}
use Rattle.irq_base.specs.declared.event.Event.{Event}
use Rattle.irq_base.specs.declared.reply.Reply.{Reply}
use Rattle.irq_base.specs.declared.shape.Part.{Part}
use Rattle.board_model.specs.Board.{Board, part_of, with_part, is_same}
use Rattle.board_model.specs.Hand.{Parts, part_in, with_part_in}
use Rattle.board_model.specs.Statuses.{Sent}
use Rattle.board_model.specs.Plan.{Heading, About, events_of, answers_of, Plan, done, look, put, tell, answer, choose}

-- ---- what shows of a run

-- a message that was sent, and the processors that it reached
pub record Sending : Type 0 where
  pub heading : Heading
  pub sent : Sent

-- the events, the answers and the messages sent, each in order
pub record Log : Type 0 where
  pub events : List Event
  pub answers : List Reply
  pub sendings : List Sending

-- nothing shows
abbrev pub silence : Log
silence = record { events = []; answers = []; sendings = [] }

-- one log after another
abbrev pub both : Log → Log → Log
both a b = record { events = a.events ++ b.events; answers = a.answers ++ b.answers; sendings = a.sendings ++ b.sendings }

-- an event, and then the log
abbrev pub told : Event → Log → Log
told x l = record l { events = x ∷ l.events }

-- an answer, and then the log
abbrev pub answered : Reply → Log → Log
answered r l = record l { answers = r ∷ l.answers }

-- a sending with the event or the reply that shows it, and then the log
abbrev pub sending : Heading → About → Sent → Log → Log
sending m about s l = record {
  events = events_of about s ++ l.events;
  answers = answers_of about s ++ l.answers;
  sendings = record { heading = m; sent = s } ∷ l.sendings;
}

-- ---- wishes

-- for each sending a set of processors, one of which it is to choose where it is free to
abbrev pub Wishes : Type 0
Wishes = List Numbers

-- the next wish; nobody is wished for where none is left
abbrev pub next_wish : Wishes → Numbers
next_wish [] = set.empty
next_wish (w ∷ ws) = w

-- the wishes after the next
abbrev pub later_wishes : Wishes → Wishes
later_wishes [] = []
later_wishes (w ∷ ws) = ws

-- ---- on a whole board

-- the value of a plan, what shows, the board after it and the wishes that are left
pub record Outcome (A : Type 0) : Type 0 where
  pub value : A
  pub log : Log
  pub board : Board
  pub wishes : Wishes

-- the outcome with f of its log
abbrev pub with_log : {A : Type 0} → (Log → Log) → Outcome A → Outcome A
with_log f o = record { value = o.value; log = f o.log; board = o.board; wishes = o.wishes }

-- what a plan does on a board under these wishes
abbrev pub run : {A : Type 0} → Plan A → Board → Wishes → Outcome A
run (done a) b ws = record { value = a; log = silence; board = b; wishes = ws }
run (look p k) b ws = run (k (part_of b p)) b ws
run (put p v rest) b ws = run rest (with_part b p v) ws
run (tell x rest) b ws = with_log (told x) (run rest b ws)
run (answer r rest) b ws = with_log (answered r) (run rest b ws)
run (choose m about g k) b ws = with_log (sending m about (g (next_wish ws))) (run (k (g (next_wish ws))) b (later_wishes ws))

-- after an outcome the plan of its value, on the board and under the wishes that it left
abbrev pub then_run : {A B : Type 0} → Outcome A → (A → Plan B) → Outcome B
then_run o f = with_log (both o.log) (run (f o.value) o.board o.wishes)

-- whether a plan looks at a part or writes it
abbrev pub reaches : {A : Type 0} → Plan A → Board → Wishes → Part → Bool
reaches (done a) b ws q = false
reaches (look p k) b ws q = is_same p q || reaches (k (part_of b p)) b ws q
reaches (put p v rest) b ws q = is_same p q || reaches rest (with_part b p v) ws q
reaches (tell x rest) b ws q = reaches rest b ws q
reaches (answer r rest) b ws q = reaches rest b ws q
reaches (choose m about g k) b ws q = reaches (k (g (next_wish ws))) b (later_wishes ws) q

-- ---- on the parts in hand

-- what a plan gives on the parts in hand: its value, what shows, the parts after it and the wishes left; or the first part
-- that it lacks
pub data OnParts (A : Type 0) : Type 0 where
  gives : A → Log → Parts → Wishes → OnParts A
  lacks : Part → OnParts A

-- the same with f of its log, where nothing is lacking
abbrev pub with_log_on : {A : Type 0} → (Log → Log) → OnParts A → OnParts A
with_log_on f (gives a l q ws) = gives a (f l) q ws
with_log_on f (lacks p) = lacks p

-- what a plan does on the parts in hand under these wishes
abbrev pub run_on : {A : Type 0} → Plan A → Parts → Wishes → OnParts A
run_on (done a) q ws = gives a silence q ws
run_on (look p k) q ws = elim (part_in q p) [ None ↦ lacks p | Some v ↦ run_on (k v) q ws ]
run_on (put p v rest) q ws = elim (part_in q p) [ None ↦ lacks p | Some _ ↦ run_on rest (with_part_in q p v) ws ]
run_on (tell x rest) q ws = with_log_on (told x) (run_on rest q ws)
run_on (answer r rest) q ws = with_log_on (answered r) (run_on rest q ws)
run_on (choose m about g k) q ws = with_log_on (sending m about (g (next_wish ws))) (run_on (k (g (next_wish ws))) q (later_wishes ws))

-- after it the plan of its value, on the parts and under the wishes that it left; what is lacking stays so
abbrev pub then_on : {A B : Type 0} → OnParts A → (A → Plan B) → OnParts B
then_on (gives a l q ws) f = with_log_on (both l) (run_on (f a) q ws)
then_on (lacks p) f = lacks p
