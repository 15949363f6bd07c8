-- The calls of one actor, and what its face tells of them (this board's own rule).
use Rattle.std.specs.Prelude.{◌≡◌, ℕ, ◌+◌, ◌<◌, ◌≤◌, List, [], ◌∷◌, ◌++◌, length, map, Some, None}
use Rattle.irq_base.specs.Faces.{PlacedEntry, WhereTold}
use Rattle.irq_base.specs.declared.call.Call.{Call}
use Rattle.irq_base.specs.declared.call.Caller.{Caller}
use Rattle.irq_base.specs.declared.face.Face.{Ghosts}
use Rattle.irq_base.specs.declared.lists.Entry.{Entry}
use Rattle.irq_base.specs.declared.reply.Reply.{Reply}
use Rattle.irq_base.specs.declared.reply.Spent.{Spent}
use Rattle.face_asks.specs.Asks.{HasKept}
use Rattle.script_text.specs.Asks.{next_ask}
use Rattle.script_text.specs.Scripts.{Script}

-- ---- calls that were answered

-- the entries of a list, without their places, and the replies in them
abbrev pub entries_in : List PlacedEntry → List Entry
entries_in placed = map (λ (p : PlacedEntry). p.entry) placed

abbrev pub replies_in : List PlacedEntry → List Reply
replies_in placed = map (λ (p : PlacedEntry). p.entry.reply) placed

-- these are calls of one actor, each being what the actor asks next after the replies to those before
abbrev pub AskedInTurn : Script → Caller → List Reply → List PlacedEntry → Type 0
AskedInTurn s who replies [] = Unit {0}
AskedInTurn s who replies (p ∷ ps) =
    (p.entry.caller ≡ who) × (next_ask who s.lines replies ≡ Some p.entry.call)
    × AskedInTurn s who (replies ++ p.entry.reply ∷ []) ps

-- their places rise, from the first number on and below the second
abbrev pub RiseWithin : ℕ → ℕ → List PlacedEntry → Type 0
RiseWithin low high [] = low ≤ high
RiseWithin low high (p ∷ ps) = (low ≤ p.at) × RiseWithin (p.at + 1) high ps

-- ---- what a face tells

module _ {F : Type 0} (face : Ghosts F) where
  -- the actor has a next call, which the last limit that its face tells bars
  pub record IsStopped (s : Script) (f : F) (answered : List PlacedEntry) : Type 0 where
    pub call : Call
    pub next : next_ask (face.who f) s.lines (replies_in answered) ≡ Some call
    pub spent : Spent
    pub last : face.last f ≡ Some spent
    pub barred : face.barred f call spent

  -- an actor ran over its face, which answered these calls
  pub record HasRun (s : Script) (before after : F) (answered : List PlacedEntry) : Type 0 where
    -- the face has the caller, the shape and the home that it had
    pub caller : face.who after ≡ face.who before
    pub shape : face.shape after ≡ face.shape before
    pub home : face.home after ≡ face.home before
    -- where it tells the entries of its caller, it gained just these
    pub own : WhereTold (face.own before) (face.own after) (λ had has. has ≡ had ++ answered)
    -- where it tells how many calls are left to it, they are fewer by just these
    pub left : WhereTold (face.left before) (face.left after) (λ had has. has + length answered ≡ had)
    -- they are what the actor asks, at places that rise
    pub asked : AskedInTurn s (face.who before) [] answered
    pub places : RiseWithin (face.floor before) (face.floor after) answered
    -- each call that was asked is as the face promises
    pub kept : HasKept face before after answered
    -- where no limit barred a call the actor has asked all, and else its next call is barred
    pub all : face.stops after ≡ 0 → next_ask (face.who before) s.lines (replies_in answered) ≡ None
    pub stopped : 0 < face.stops after → IsStopped s after answered
