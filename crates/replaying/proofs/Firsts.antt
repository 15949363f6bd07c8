-- The first actor that was stopped, line by line.
use Rattle.std.proofs.Common.{◌≡◌, ℕ, ◌+◌, List, drop, Some, None, sym, ap, ◌∙◌}
use Rattle.std.specs.List.{slice_get}
use Rattle.irq_base.specs.declared.reply.Spent.{Spent}
use Rattle.script_text.specs.declared.task.ActorLine.{ActorLine}
use Rattle.replaying.specs.declared.stops.Stop.{Stop}
use Rattle.replaying.specs.FileOrder.{stop_of, first_stop}
use Rattle.entry_copies.proofs.RowCopies.{drop-at}

pub first-next : (lines : List ActorLine) (stops : List Stop) (k : ℕ) (line : ActorLine) → slice_get lines k ≡ Some line → stop_of line.caller stops ≡ None
    → first_stop (drop (k + 1) lines) stops ≡ first_stop (drop k lines) stops
first-next lines stops k line at none =
    sym (ap (λ ls. first_stop ls stops) (drop-at lines k line at) ∙ ap (λ o. elim o [ None ↦ first_stop (drop (k + 1) lines) stops | Some s ↦ Some s ]) none)

pub first-here : (lines : List ActorLine) (stops : List Stop) (k : ℕ) (line : ActorLine) (spent : Spent) → slice_get lines k ≡ Some line → stop_of line.caller stops ≡ Some spent
    → first_stop (drop k lines) stops ≡ Some spent
first-here lines stops k line spent at is =
    ap (λ ls. first_stop ls stops) (drop-at lines k line at) ∙ ap (λ o. elim o [ None ↦ first_stop (drop (k + 1) lines) stops | Some s ↦ Some s ]) is

pub ruleset first_rules = (first-next, first-here)
