-- The summary of a generated script: what its one replay counts.
use Rattle.std.specs.Prelude.{◌≡◌, ℕ, List, None}
use Rattle.std.specs.declared.option.Option.{Option}
use Rattle.irq_base.specs.declared.lists.Entry.{Entry}
use Rattle.irq_base.specs.declared.reply.Spent.{Spent}
use Rattle.replaying.specs.Replays.{Replays}
use Rattle.workload_gen.specs.Workload.{workload}
use Rattle.workload_sum.specs.Counts.{summary_text}

-- these bytes are the eight lines of the replay of the script of three numbers; no limit bars a call in it
pub record IsSummary (start n c : ℕ) (text : List ℕ) : Type 0 where
  pub history : List Entry
  pub replays : Replays (workload start n c) history None
  pub only : (other : List Entry) (spent : Option Spent) → Replays (workload start n c) other spent → other ≡ history
  pub counts : text ≡ summary_text history

-- the three numbers have one summary at most
abbrev pub SummariesAreOne : Type 0
SummariesAreOne = (start n c : ℕ) (one other : List ℕ) → IsSummary start n c one → IsSummary start n c other → one ≡ other
