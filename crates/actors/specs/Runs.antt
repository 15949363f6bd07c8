-- The calls of all actors of a script, in one history (this board's own rule).
use Rattle.std.specs.Prelude.{◌≡◌, ℕ, ◌<◌, nat_eq, if◌then◌else◌, List, [], ◌∷◌, ◌++◌, filter, flat_map, Some, None}
use Rattle.std.specs.List.Sorted.{IsNonDecreasingBy}
use Rattle.std.specs.declared.option.Option.{Option}
use Rattle.irq_base.specs.Faces.{PlacedEntry, WhereTold}
use Rattle.irq_base.specs.declared.call.Call.{Call}
use Rattle.irq_base.specs.declared.call.Caller.{Caller}
use Rattle.irq_base.specs.declared.face.Face.{Ghosts}
use Rattle.irq_base.specs.declared.lists.Entry.{Entry}
use Rattle.irq_base.specs.declared.reply.Spent.{Spent}
use Rattle.script_merging.specs.Merging.{next_of}
use Rattle.script_text.specs.Asks.{same_caller}
use Rattle.script_text.specs.Scripts.{Script}
use Rattle.actors.specs.Turns.{entries_in, HasRun}

-- ---- the order of calls

-- the calls of all actors, those of the first actor first
abbrev pub all_of : List (List PlacedEntry) → List PlacedEntry
all_of answered = flat_map (λ (ps : List PlacedEntry). ps) answered

-- the calls that stand at one place
abbrev pub at_place : ℕ → List PlacedEntry → List PlacedEntry
at_place at ps = filter (λ (p : PlacedEntry). nat_eq p.at at) ps

-- the same calls, each once, in the order of their places; those at one place keep the order that they had
pub record AreOrdered (all ordered : List PlacedEntry) : Type 0 where
  pub rising : IsNonDecreasingBy (λ (p : PlacedEntry). p.at) ordered
  pub same : (at : ℕ) → at_place at ordered ≡ at_place at all

-- ---- the calls of one actor

-- the calls of one caller among those of all, and the entries of one caller in a history
abbrev pub calls_by : Caller → List PlacedEntry → List PlacedEntry
calls_by who ps = filter (λ (p : PlacedEntry). same_caller p.entry.caller who) ps

abbrev pub entries_by : Caller → List Entry → List Entry
entries_by who history = filter (λ (e : Entry). same_caller e.caller who) history

-- the calls that were gained have just the caller's entries of the history
pub record Gains (who : Caller) (history : List Entry) (had has : List PlacedEntry) : Type 0 where
  pub gained : List PlacedEntry
  pub behind : has ≡ had ++ gained
  pub just : entries_in gained ≡ entries_by who history

-- ---- the faces

module _ {F : Type 0} (face : Ghosts F) where
  -- each actor ran over its face, which answered the calls of its list
  abbrev pub HaveRun : Script → List F → List F → List (List PlacedEntry) → Type 0
  HaveRun s [] [] [] = Unit {0}
  HaveRun s (f ∷ fs) (g ∷ gs) (ps ∷ more) = HasRun face s f g ps × HaveRun s fs gs more
  HaveRun s _ _ _ = ⊥

  -- the list of each actor has just the calls of its caller among these, each at its place
  abbrev pub AreOwn : List PlacedEntry → List F → List (List PlacedEntry) → Type 0
  AreOwn ordered [] [] = Unit {0}
  AreOwn ordered (f ∷ fs) (ps ∷ more) = (calls_by (face.who f) ordered ≡ ps) × AreOwn ordered fs more
  AreOwn ordered _ _ = ⊥

  -- the faces of all actors answered these calls, one list an actor, and the history is all of them in the order of their places
  pub record AreGathered (s : Script) (before after : List F) (history : List Entry) : Type 0 where
    pub answered : List (List PlacedEntry)
    pub ran : HaveRun s before after answered
    pub ordered : List PlacedEntry
    pub order : AreOrdered (all_of answered) ordered
    pub own : AreOwn ordered before answered
    pub listed : history ≡ entries_in ordered

  -- the limit of the first face at which one barred a call, in the order of actors
  abbrev pub first_stop : List F → Option Spent
  first_stop [] = None
  first_stop (f ∷ fs) = if nat_eq (face.stops f) 0 then first_stop fs else face.last f

  -- the actor has a next call behind a history, which the last limit that its face tells bars
  pub record IsBarred (s : Script) (history : List Entry) (f : F) : Type 0 where
    pub call : Call
    pub next : next_of s history (face.who f) ≡ Some call
    pub spent : Spent
    pub last : face.last f ≡ Some spent
    pub barred : face.barred f call spent

  -- a face is handed back after a run that left this history
  pub record IsBack (s : Script) (history : List Entry) (before after : F) : Type 0 where
    pub caller : face.who after ≡ face.who before
    pub shape : face.shape after ≡ face.shape before
    pub home : face.home after ≡ face.home before
    -- where it tells its caller's entries, it gained just those of the history
    pub own : WhereTold (face.own before) (face.own after) (Gains (face.who before) history)
    -- where no limit barred a call its actor has asked all, and else its next call is barred
    pub all : face.stops after ≡ 0 → next_of s history (face.who before) ≡ None
    pub barred : 0 < face.stops after → IsBarred s history after

  -- all faces are handed back, in their order
  abbrev pub AreBack : Script → List Entry → List F → List F → Type 0
  AreBack s history [] [] = Unit {0}
  AreBack s history (f ∷ fs) (g ∷ gs) = IsBack s history f g × AreBack s history fs gs
  AreBack s history _ _ = ⊥
