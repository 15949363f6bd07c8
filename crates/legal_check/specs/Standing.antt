-- How far the actors of a script have come, and what an entry does then (over this board's own rule).
use Rattle.std.specs.Prelude.{◌≡◌, ℕ, ◌<◌, List, [], ◌∷◌, ◌++◌, length, slice_index_or}
use Rattle.irq_base.specs.declared.lists.Entry.{Entry}
use Rattle.board_model.specs.Board.{Board}
use Rattle.board_step.specs.Step.{Step}
use Rattle.script_text.specs.declared.progress.Phase.TheVariants.{Round}
use Rattle.script_text.specs.declared.progress.Progress.{Progress}
use Rattle.script_text.specs.Asks.{actors_of, caller_at, HasFollowed}
use Rattle.script_text.specs.Scripts.{Script}
use Rattle.script_merging.specs.Merging.{replies_of, IsAsked}

-- how many actors a script has
abbrev pub actors_in : Script → ℕ
actors_in s = length (actors_of s.lines)

-- the progress of an actor
abbrev pub progress_at : List Progress → ℕ → Progress
progress_at ps a = slice_index_or ps a (record { line = 0; done = 0; phase = Round })

-- each actor has followed the replies that its caller got in these entries
pub record HaveFollowed (s : Script) (before : List Entry) (ps : List Progress) : Type 0 where
  pub as_many : length ps ≡ actors_in s
  pub each : (a : ℕ) → a < actors_in s
      → HasFollowed (caller_at s.lines a) s.lines (replies_of (caller_at s.lines a) before) (progress_at ps a)

-- an entry without a flaw leads to this board, and the actors follow it
pub record GoesOn (s : Script) (before : List Entry) (b : Board) (e : Entry) (c : Board) (ps : List Progress) : Type 0 where
  pub asked : IsAsked s before e
  pub step : Step b e c
  pub followed : HaveFollowed s (before ++ e ∷ []) ps
