-- The verdict on a transcript: legal, or the first entry, or else the ending, that has a flaw (this board's own rule).
use Rattle.std.specs.Prelude.{◌≡◌, ℕ, List, take, length, slice_get, Some}
use Rattle.irq_base.specs.declared.lists.Entry.{Entry}
use Rattle.irq_base.specs.declared.shape.Shape.{Shape}
use Rattle.board_laws.specs.Lawful.{KeepsTheLaws}
use Rattle.board_model.specs.Board.{Board}
use Rattle.board_step.specs.Applied.{LeadsOn}
use Rattle.script_text.specs.Scripts.{Script}
use Rattle.transcript.specs.declared.transcript.Transcript.{Transcript}
use Rattle.legal_check.specs.declared.verdict.Flaw.{Flaw}
use Rattle.legal_check.specs.declared.verdict.Flaw.TheVariants.{Asked, Reply, Ending}
use Rattle.legal_check.specs.declared.verdict.Verdict.{Verdict}
use Rattle.legal_check.specs.declared.verdict.Verdict.TheVariants.{Legal, NotAt}
use Rattle.script_merging.specs.Merging.{IsAsked}
use Rattle.script_histories.specs.Merging.{Stand, EndsWell, Fits}

-- an entry has this flaw on a board, behind these entries; `asked` is tried first
abbrev pub HasFlaw : Script → List Entry → Board → Entry → Flaw → Type 0
HasFlaw s before b e Asked = IsAsked s before e → ⊥
HasFlaw s before b e Reply = IsAsked s before e × (LeadsOn b e → ⊥)
HasFlaw s before b e Ending = ⊥

-- the entry at that place has this flaw, on the board before it
pub record EntryHas (s : Script) (run : Transcript) (place : ℕ) (b : Board) (flaw : Flaw) : Type 0 where
  pub entry : Entry
  pub there : slice_get run.history place ≡ Some entry
  pub has : HasFlaw s (take place run.history) b entry flaw

-- that place is behind the last entry, and the ending is not right
pub record EndingHas (s : Script) (run : Transcript) (place : ℕ) (b : Board) : Type 0 where
  pub last : place ≡ length run.history
  pub wrong : EndsWell s run.history b run.spent → ⊥

abbrev pub Has : Script → Transcript → ℕ → Board → Flaw → Type 0
Has s run place b Asked = EntryHas s run place b Asked
Has s run place b Reply = EntryHas s run place b Reply
Has s run place b Ending = EndingHas s run place b

-- the entries before that place have no flaw, and the entry there, or the ending, has this one
pub record FlawAt (s : Script) (run : Transcript) (place : ℕ) (flaw : Flaw) : Type 0 where
  pub board : Board
  pub before : Stand s (take place run.history) board
  pub has : Has s run place board flaw

-- the verdict
abbrev pub IsVerdict : Script → Transcript → Verdict → Type 0
IsVerdict s run Legal = Fits s run
IsVerdict s run (NotAt place flaw) = FlawAt s run place flaw

-- a history that is said to be legal keeps all laws
abbrev pub KeepsIfLegal : Verdict → Shape → List Entry → Type 0
KeepsIfLegal Legal shape history = KeepsTheLaws shape history
KeepsIfLegal (NotAt place flaw) shape history = Unit {0}

-- a transcript has one verdict
abbrev pub HasOneVerdict : Type 0
HasOneVerdict = (s : Script) (run : Transcript) (v w : Verdict) → IsVerdict s run v → IsVerdict s run w → v ≡ w
