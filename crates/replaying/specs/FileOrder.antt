-- Histories in which a script's lines are taken in file order (this board's own rule).
use Rattle.std.specs.Prelude.{◌≡◌, List, [], ◌∷◌, ◌++◌, if◌then◌else◌, Some, None}
use Rattle.std.specs.declared.option.Option.{Option}
use Rattle.irq_base.specs.declared.call.Call.{Call}
use Rattle.irq_base.specs.declared.call.Caller.{Caller}
use Rattle.irq_base.specs.declared.lists.Entry.{Entry}
use Rattle.irq_base.specs.declared.reply.Spent.{Spent}
use Rattle.script_text.specs.declared.task.ActorLine.{ActorLine}
use Rattle.script_text.specs.Asks.{Asks, same_caller, next_call, answered, line_asks}
use Rattle.script_text.specs.Scripts.{Script}
use Rattle.board_model.specs.Board.{Board}
use Rattle.board_step.specs.Applied.{UnwishedStep}
use Rattle.board_step.specs.History.{opening}
use Rattle.board_step.specs.Step.{spent_of}
use Rattle.replaying.specs.declared.stops.Stop.{Stop}

-- the limit that stopped a caller, if one did
abbrev pub stop_of : Caller → List Stop → Option Spent
stop_of who [] = None
stop_of who (stop ∷ stops) = if same_caller stop.caller who then Some stop.spent else stop_of who stops

-- these entries are calls of one caller, each what it asks next by the replies to those before; behind them it asks what is left
abbrev pub AsksInTurn : Caller → Asks → List Entry → Asks → Type 0
AsksInTurn who asks [] left = asks ≡ left
AsksInTurn who asks (e ∷ es) left =
    (e.caller ≡ who) × (next_call asks ≡ Some e.call) × AsksInTurn who (answered asks e.reply) es left

-- what is left is all that was to be left; or a limit of the board bars the next call
abbrev pub Leaves : Board → Asks → Asks → Option Spent → Type 0
Leaves b left rest None = left ≡ rest
Leaves b left rest (Some spent) = (call : Call) × (next_call left ≡ Some call) × (spent_of b call ≡ Some spent)

-- entries lead from one board to another, and nothing is wished of any of their calls
abbrev pub LeadsUnwished : Board → List Entry → Board → Type 0
LeadsUnwished b [] c = b ≡ c
LeadsUnwished b (e ∷ es) c = (next : Board) × UnwishedStep b e next × LeadsUnwished next es c

-- a caller asks up to `rest`, or up to its first call that a limit bars: these entries, which lead from b to c
pub record Asked (who : Caller) (asks rest : Asks) (b : Board) (entries : List Entry) (stop : Option Spent) (c : Board) : Type 0 where
  pub left : Asks
  pub asked : AsksInTurn who asks entries left
  pub leads : LeadsUnwished b entries c
  pub leaves : Leaves c left rest stop

-- a line, whatever its caller asks behind it: the caller asks the whole line, or up to the first call of the line that a limit bars
abbrev pub LineAsked : ActorLine → Board → List Entry → Option Spent → Board → Type 0
LineAsked line b entries stop c = (behind : Asks) → Asked line.caller (line_asks line.task behind) behind b entries stop c

-- the stops with that of a caller, where it has one
abbrev pub with_stop : Caller → Option Spent → List Stop → List Stop
with_stop who None stops = stops
with_stop who (Some spent) stops = record { caller = who; spent = spent } ∷ stops

-- the line of a caller that a limit stopped is passed over
abbrev pub PassedOver : Option Spent → Type 0 → Type 0 → Type 0
PassedOver None passed taken = taken
PassedOver (Some spent) passed taken = passed

-- The lines in the order of the file, each whole before the next, those of a caller being passed over after its first call that a
-- limit bars. The entries lead from b, where these callers had stopped, to c, where those have.
unfoldable pub LinesAsked : List ActorLine → Board → List Stop → List Entry → Board → List Stop → Type 0
LinesAsked [] b had entries c has = (entries ≡ []) × (b ≡ c) × (had ≡ has)
LinesAsked (line ∷ lines) b had entries c has =
    PassedOver (stop_of line.caller had)
    (LinesAsked lines b had entries c has)
    ((mine : List Entry) × (later : List Entry) × (stop : Option Spent) × (mid : Board) × (entries ≡ mine ++ later)
    × LineAsked line b mine stop mid × LinesAsked lines mid (with_stop line.caller stop had) later c has)

-- the limit that stopped the first actor of those that were stopped; actors are numbered by their first lines
abbrev pub first_stop : List ActorLine → List Stop → Option Spent
first_stop [] stops = None
first_stop (line ∷ lines) stops = elim (stop_of line.caller stops) [ None ↦ first_stop lines stops | Some spent ↦ Some spent ]

-- the history is that of the script's lines in file order, and this is the limit that stopped the first actor that was stopped
pub record InFileOrder (s : Script) (history : List Entry) (spent : Option Spent) : Type 0 where
  pub last : Board
  pub stops : List Stop
  pub lines : LinesAsked s.lines (opening s.shape) [] history last stops
  pub first : spent ≡ first_stop s.lines stops
