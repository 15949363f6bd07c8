-- What an actor of a script asks, by the replies that it gets.
use Rattle.std.specs.Prelude.{◌≡◌, ℕ, zero, suc, ◌-◌, Bool, false, not, nat_eq, List, [], ◌∷◌, map, filter, fold, drop}
use Rattle.std.specs.Prelude.{slice_index_or, Some, None}
use Rattle.std.specs.declared.option.Option.{Option}
use Rattle.irq_base.specs.declared.call.Call.{Call}
use Rattle.irq_base.specs.declared.call.Call.TheVariants.{PortOut, Ack, Eoi}
use Rattle.irq_base.specs.declared.call.Caller.{Caller}
use Rattle.irq_base.specs.declared.call.Caller.TheVariants.{Device, Cpu}
use Rattle.irq_base.specs.declared.reply.Reply.{Reply}
use Rattle.irq_base.specs.declared.reply.Reply.TheVariants.{Vector, Extint}
use Rattle.script_text.specs.declared.task.Task.{Task}
use Rattle.script_text.specs.declared.task.Task.TheVariants.{Once, Repeat, Serve}
use Rattle.script_text.specs.declared.task.ActorLine.{ActorLine}
use Rattle.script_text.specs.declared.progress.Phase.{Phase}
use Rattle.script_text.specs.declared.progress.Phase.TheVariants.{Round, End, Slave, Master}
use Rattle.script_text.specs.declared.progress.Progress.{Progress}

abbrev pub same_caller : Caller → Caller → Bool
same_caller (Device a) (Device b) = nat_eq a b
same_caller (Cpu a) (Cpu b) = nat_eq a b
same_caller _ _ = false

-- the actors, each once, in the order of their first lines
unfoldable pub actors_of : List ActorLine → List Caller
actors_of [] = []
actors_of (line ∷ lines) = line.caller ∷ filter (λ c. not (same_caller c line.caller)) (actors_of lines)

-- the actor with this number, from 0
abbrev pub caller_at : List ActorLine → ℕ → Caller
caller_at lines actor = slice_index_or (actors_of lines) actor (Device 0)

-- what the lines of an actor ask
unfoldable pub tasks_of : Caller → List ActorLine → List Task
tasks_of who lines = map (λ line. line.task) (filter (λ line. same_caller line.caller who) lines)

-- a call, and what is asked after its reply; or nothing more
pub data Asks : Type 0 where
  no_more : Asks
  ask : Call → (Reply → Asks) → Asks

-- one call, whatever is answered
abbrev pub once : Call → Asks → Asks
once call rest = ask call (λ _. rest)

-- `repeat`: N times the call
unfoldable pub times : ℕ → Call → Asks → Asks
times zero call rest = rest
times (suc n) call rest = once call (times n call rest)

-- an end of interrupt written to the master, and to the slave before it
abbrev pub to_master : Asks → Asks
to_master rest = once (PortOut 0x20 1 0x20) rest

abbrev pub to_slave : Asks → Asks
to_slave rest = once (PortOut 0xa0 1 0x20) (to_master rest)

-- a round of `serve` goes on after a vector, and is over after another reply
abbrev pub after_ack : Reply → Asks → Asks
after_ack (Vector v) rest = once Eoi rest
after_ack (Extint v) rest = to_slave rest
after_ack _ rest = rest

-- where a round goes on after the reply to its Ack; None where it is over
abbrev pub phase_after : Reply → Option Phase
phase_after (Vector v) = Some End
phase_after (Extint v) = Some Slave
phase_after _ = None

-- `serve`: N rounds, each of which is Ack and what goes on
unfoldable pub rounds : ℕ → Asks → Asks
rounds zero rest = rest
rounds (suc n) rest = ask Ack (λ reply. after_ack reply (rounds n rest))

-- a line, and lines in order
abbrev pub line_asks : Task → Asks → Asks
line_asks (Once call) rest = once call rest
line_asks (Repeat n call) rest = times n call rest
line_asks (Serve n) rest = rounds n rest

unfoldable pub unrolled : List Task → Asks
unrolled [] = no_more
unrolled (t ∷ ts) = line_asks t (unrolled ts)

-- the next call, and what is asked after a reply
abbrev pub next_call : Asks → Option Call
next_call no_more = None
next_call (ask call k) = Some call

abbrev pub answered : Asks → Reply → Asks
answered no_more reply = no_more
answered (ask call k) reply = k reply

-- what an actor still asks after these replies
abbrev pub asks_after : Caller → List ActorLine → List Reply → Asks
asks_after who lines replies = fold answered (unrolled (tasks_of who lines)) replies

-- the next call of an actor after these replies, or none; a caller without lines asks nothing
abbrev pub next_ask : Caller → List ActorLine → List Reply → Option Call
next_ask who lines replies = next_call (asks_after who lines replies)

-- what is left at a place in the lines: of the line there, of which so much was done, and behind it
abbrev pub rest_of_line : Task → ℕ → Phase → Asks → Asks
rest_of_line (Once call) d p rest = once call rest
rest_of_line (Repeat zero call) d p rest = rest
rest_of_line (Repeat (suc n) call) d p rest = once call (times (n - d) call rest)
rest_of_line (Serve zero) d p rest = rest
rest_of_line (Serve (suc n)) d Round rest = ask Ack (λ reply. after_ack reply (rounds (n - d) rest))
rest_of_line (Serve (suc n)) d End rest = once Eoi (rounds (n - d) rest)
rest_of_line (Serve (suc n)) d Slave rest = to_slave (rounds (n - d) rest)
rest_of_line (Serve (suc n)) d Master rest = to_master (rounds (n - d) rest)

abbrev pub rest_of_lines : List Task → Progress → Asks
rest_of_lines [] p = no_more
rest_of_lines (t ∷ ts) p = rest_of_line t p.done p.phase (unrolled ts)

abbrev pub left_at : List Task → Progress → Asks
left_at tasks p = rest_of_lines (drop p.line tasks) p

-- the same line, or what stands behind it where it is done
abbrev pub goes_on : Task → Asks → Option (ℕ × Phase) → Asks
goes_on t rest None = rest
goes_on t rest (Some place) = rest_of_line t place.0 place.1 rest

-- this progress followed these replies to the calls of an actor: what it leaves is what the actor still asks
abbrev pub HasFollowed : Caller → List ActorLine → List Reply → Progress → Type 0
HasFollowed who lines replies p = left_at (tasks_of who lines) p ≡ asks_after who lines replies
