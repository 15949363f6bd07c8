-- What an exchange of the front by a named entry tells.
use Rattle.std.proofs.Common.{◌≡◌, ℕ, Bool, Some, subst}
use Rattle.std.specs.Prelude.{IfSome, IfOk, IfErr, Result, Ok, Err}
use Rattle.std.specs.declared.option.Option.{Option}
use Rattle.irq_base.specs.declared.lists.Entry.{Entry}
use Rattle.board_model.specs.Board.{Board}
use Rattle.turn_book.specs.declared.view.Front.{Front}
use Rattle.turn_book.specs.Views.{SameWords, AfterEntry}
use Rattle.part_slots.specs.Commits.{Seen}
use Rattle.part_slots.specs.Running.{IsStep}

pub follows_named : (named : Option Entry) (e : Entry) (before after : Option Board) (r : Result ℕ Front) → named ≡ Some e → IfOk r (λ at. IfSome named (λ x. (s t : Board) → before ≡ Some s → after ≡ Some t → IsStep s x t)) → IfOk r (λ at. (s t : Board) → before ≡ Some s → after ≡ Some t → IsStep s e t)
follows_named named e before after r is follows = subst (λ o. IfOk r (λ at. IfSome o (λ x. (s t : Board) → before ≡ Some s → after ≡ Some t → IsStep s x t))) is follows

-- an exchange of the front leaves the notes
pub notes_kept : (v w : Seen) (publishes : Bool) (r : Result ℕ Front) → IfOk r (λ at. AfterEntry publishes v w) → IfErr r (λ now. SameWords v w) → w.notes ≡ v.notes
notes_kept v w publishes (Ok at) won lost = won.0
notes_kept v w publishes (Err now) won lost = lost.0
