-- What shows of publications, and what steps and histories leave of a board's frame (over this board's own definitions).
use Rattle.std.specs.Prelude.{◌≡◌, ℕ, ◌+◌, ◌<◌, Bool, true, ◌&&◌, nat_eq, if◌then◌else◌, List, length, count_by, Some, None}
use Rattle.std.specs.declared.option.Option.{Option}
use Rattle.irq_base.specs.Callers.{is_allowed}
use Rattle.irq_base.specs.declared.call.Call.{Call}
use Rattle.irq_base.specs.declared.call.Caller.{Caller}
use Rattle.irq_base.specs.declared.lists.Entry.{Entry}
use Rattle.irq_base.specs.declared.reply.Spent.{Spent}
use Rattle.irq_base.specs.declared.reply.Spent.TheVariants.{Calls, Publications}
use Rattle.irq_base.specs.declared.shape.Part.TheVariants.{Registry, Lapic}
use Rattle.irq_base.specs.declared.shape.Shape.{Shape}
use Rattle.board_model.specs.Board.{Board}
use Rattle.board_model.specs.Published.{published}
use Rattle.board_step.specs.Step.{would_publish, spent_of, is_publication, Step}
use Rattle.board_step.specs.Reach.{reach}
use Rattle.board_step.specs.History.{opening, Leads}

-- ---- publications

-- whether a step is a publication shows in its entry
abbrev pub StepsShowPublications : Type 0
StepsShowPublications = (b : Board) (e : Entry) (c : Board) → Step b e c → would_publish b e.call ≡ is_publication e

-- a publication reaches the registry
abbrev pub PublicationsReachTheRegistry : Type 0
PublicationsReachTheRegistry =
    (b : Board) (caller : Caller) (call : Call) → would_publish b call ≡ true → reach b caller call Registry ≡ true

-- ---- the frame

-- a step leaves the shape and the number of local APICs; there is one call more, and one publication more where it is one
pub record KeepsTheFrame (b : Board) (e : Entry) (c : Board) : Type 0 where
  pub shape : c.shape ≡ b.shape
  pub lapics : length c.lapics ≡ length b.lapics
  pub length : c.length ≡ b.length + 1
  pub publications : c.publications ≡ (if is_publication e then b.publications + 1 else b.publications)

-- each step does
abbrev pub StepsKeepTheFrame : Type 0
StepsKeepTheFrame = (b : Board) (e : Entry) (c : Board) → Step b e c → KeepsTheFrame b e c

-- a history leaves the shape and the number of local APICs, and counts its entries and its publications
pub record CountsEntries (b : Board) (es : List Entry) (c : Board) : Type 0 where
  pub shape : c.shape ≡ b.shape
  pub lapics : length c.lapics ≡ length b.lapics
  pub length : c.length ≡ b.length + length es
  pub publications : c.publications ≡ b.publications + count_by is_publication es

-- each history does
abbrev pub HistoriesKeepTheFrame : Type 0
HistoriesKeepTheFrame = (b : Board) (es : List Entry) (c : Board) → Leads b es c → CountsEntries b es c

-- the frame of a board after entries from power-on
pub record IsFrameAfter (first : Shape) (es : List Entry) (last : Board) : Type 0 where
  pub shape : last.shape ≡ first
  pub lapics : length last.lapics ≡ first.cpus
  pub length : last.length ≡ length es
  pub publications : last.publications ≡ count_by is_publication es

-- each board of a legal history has that frame
abbrev pub LegalHistoriesCount : Type 0
LegalHistoriesCount = (shape : Shape) (es : List Entry) (last : Board) → Leads (opening shape) es last → IsFrameAfter shape es last

-- ---- along histories

-- which limit bars a call after so many calls, so many of them publications
abbrev pub spent_by : Shape → ℕ → ℕ → Bool → Option Spent
spent_by shape calls publications publishes =
    if nat_eq calls shape.calls then Some (Calls shape.calls)
    else if publishes && nat_eq publications shape.publications then Some (Publications shape.publications)
    else None

-- after a legal history its entries tell which limit bars a call
abbrev pub LimitsAreTold : Type 0
LimitsAreTold =
    (shape : Shape) (es : List Entry) (last : Board) (call : Call) → Leads (opening shape) es last
    → spent_of last call ≡ spent_by shape (length es) (count_by is_publication es) (would_publish last call)

-- what a board publishes
abbrev pub words : Board → List ℕ
words b = published b.registry b.shape.tick

-- a history without a publication leaves the words
abbrev pub WordsStayAlong : Type 0
WordsStayAlong =
    (b : Board) (es : List Entry) (c : Board) → Leads b es c → count_by is_publication es ≡ 0 → words c ≡ words b

-- ---- what is reached is there

-- each local APIC that an allowed call reaches is one of the board's processors
abbrev pub ReachIsThere : Type 0
ReachIsThere =
    (b : Board) (caller : Caller) (call : Call) (n : ℕ) → is_allowed caller call b.shape ≡ true
    → reach b caller call (Lapic n) ≡ true → n < b.shape.cpus
