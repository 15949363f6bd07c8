-- One call on a board is one step: which refusal it meets, which limit bars it, and what it leads to (this board's own rule).
use Rattle.std.specs.Prelude.{◌≡◌, ℕ, ◌+◌, Bool, true, false, ◌&&◌, nat_eq, if◌then◌else◌, List, [], ◌∷◌, ◌++◌, is_some, Some, None}
use Rattle.std.specs.declared.option.Option.{Option}
use Rattle.irq_base.specs.Callers.{is_allowed}
use Rattle.irq_base.specs.Refusals.{Reason, first_of}
use Rattle.irq_base.specs.declared.call.Call.{Call}
use Rattle.irq_base.specs.declared.call.Call.TheVariants.{Write, Assign, Deassign, Reroute, Attach, Detach, Watch, Unwatch}
use Rattle.irq_base.specs.declared.call.Caller.{Caller}
use Rattle.irq_base.specs.declared.lists.Entry.{Entry}
use Rattle.irq_base.specs.declared.refusal.Refusal.{Refusal}
use Rattle.irq_base.specs.declared.reply.Reply.{Reply}
use Rattle.irq_base.specs.declared.reply.Reply.TheVariants.{Done, Removed}
use Rattle.irq_base.specs.declared.reply.Spent.{Spent}
use Rattle.irq_base.specs.declared.reply.Spent.TheVariants.{Calls, Publications}
use Rattle.irqfd_set.specs.Rows.{of_trigger, named_row}
use Rattle.board_model.specs.Board.{Board}
use Rattle.board_model.specs.Routing.{routing_of_registry}
use Rattle.board_model.specs.Plan.{Plan}
use Rattle.board_model.specs.Run.{Wishes, Outcome, run}
use Rattle.board_calls.specs.Refusals.{range_reasons, write_reasons, assign_reasons, attach_reasons, detach_reasons, watch_reasons, unwatch_reasons}
use Rattle.board_calls.specs.Calls.{io_row, plan_of}

-- ---- refusals

-- a write to the trigger of an irqfd is never past the greatest count, since the count stays 0
abbrev pub count_reasons : Board → ℕ → ℕ → List Reason
count_reasons b counter n = if is_some (of_trigger b.registry.irqfds counter) then [] else write_reasons b.counters counter n

-- the reasons of what stands on the board, in order
abbrev pub later_reasons : Board → Call → List Reason
later_reasons b (Write counter n) = count_reasons b counter n
later_reasons b (Assign trigger gsi resample) = assign_reasons b.registry trigger resample
later_reasons b (Attach space address len counter want) = attach_reasons b.registry (io_row space address len counter want)
later_reasons b (Detach space address len counter want) = detach_reasons b.registry (io_row space address len counter want)
later_reasons b (Watch counter gsi) = watch_reasons b.registry counter gsi
later_reasons b (Unwatch counter gsi) = unwatch_reasons b.registry counter gsi
later_reasons b _ = []

-- why a board refuses a call: the first reason of its arguments' range, else the first of what stands on the board
abbrev pub refusal_of : Board → Call → Option Refusal
refusal_of b call = first_of (range_reasons b.shape call ++ later_reasons b call)

-- ---- limits

-- the calls that count as publications, where they are not refused: a Deassign does where it removes a row
abbrev pub does_publish : Board → Call → Bool
does_publish b (Reroute rows) = true
does_publish b (Assign trigger gsi resample) = true
does_publish b (Watch counter gsi) = true
does_publish b (Unwatch counter gsi) = true
does_publish b (Deassign trigger gsi) = is_some (named_row b.registry.irqfds trigger gsi)
does_publish b _ = false

-- a call that is refused counts as none
abbrev pub publishes_unless : Option Refusal → Board → Call → Bool
publishes_unless None b call = does_publish b call
publishes_unless (Some refusal) b call = false

-- whether a call is a publication
abbrev pub would_publish : Board → Call → Bool
would_publish b call = publishes_unless (refusal_of b call) b call

-- which limit bars a call: that of calls before all refusals, that of publications after them
abbrev pub spent_of : Board → Call → Option Spent
spent_of b call =
    if nat_eq b.length b.shape.calls then Some (Calls b.shape.calls)
    else if would_publish b call && nat_eq b.publications b.shape.publications then Some (Publications b.shape.publications)
    else None

-- ---- the step

-- what a call does on this board, whose registry tells the routing
abbrev pub plan_on : Board → Caller → Call → Plan (Unit {0})
plan_on b caller call = plan_of (routing_of_registry b.registry b.shape.tick) b.shape caller call

-- the outcome of an entry's call under these wishes
abbrev pub outcome_of : Board → Entry → Wishes → Outcome (Unit {0})
outcome_of b e wishes = run (plan_on b e.caller e.call) b wishes

-- one call more, and one publication more where it is one
abbrev pub with_counts : Bool → Board → Board
with_counts true b = record b { length = b.length + 1; publications = b.publications + 1 }
with_counts false b = record b { length = b.length + 1 }

-- the board after an outcome, counted
abbrev pub counted : Board → Call → Board → Board
counted before call after = with_counts (would_publish before call) after

-- an entry leads from one board to the next: its call is allowed to its caller and no limit bars it, and under some wishes it
-- answers this reply alone, tells these events, and leaves that board
pub record Step (b : Board) (e : Entry) (c : Board) : Type 0 where
  pub allowed : is_allowed e.caller e.call b.shape ≡ true
  pub in_limits : spent_of b e.call ≡ None
  pub wishes : Wishes
  pub replied : (outcome_of b e wishes).log.answers ≡ e.reply ∷ []
  pub told : (outcome_of b e wishes).log.events ≡ e.events
  pub leads : counted b e.call (outcome_of b e wishes).board ≡ c

-- ---- what an entry shows

-- whether a reply says that a call was done
abbrev pub is_done : Reply → Bool
is_done Done = true
is_done _ = false

-- whether a reply says that a row was removed
abbrev pub is_removed : Reply → Bool
is_removed (Removed n) = nat_eq n 1
is_removed _ = false

-- whether a call that was answered so was a publication
abbrev pub did_publish : Call → Reply → Bool
did_publish (Reroute rows) reply = is_done reply
did_publish (Assign trigger gsi resample) reply = is_done reply
did_publish (Watch counter gsi) reply = is_done reply
did_publish (Unwatch counter gsi) reply = is_done reply
did_publish (Deassign trigger gsi) reply = is_removed reply
did_publish _ reply = false

-- whether an entry is a publication
abbrev pub is_publication : Entry → Bool
is_publication e = did_publish e.call e.reply
