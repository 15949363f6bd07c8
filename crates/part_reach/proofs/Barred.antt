-- Which limit bars a call, told by the registry where that is in hand.
use Rattle.std.proofs.Common.{◌≡◌, Bool, true, false, true≢false, nat_eq, if◌then◌else◌, is_some, Some, None, refl, sym, ap, ◌∙◌, subst}
use Rattle.std.specs.Prelude.{◌&&◌, IfSome}
use Rattle.std.specs.declared.option.Option.{Option}
use Rattle.irq_base.specs.declared.call.Call.{Call}
use Rattle.irq_base.specs.declared.reply.Spent.{Spent}
use Rattle.irq_base.specs.declared.reply.Spent.TheVariants.{Calls, Publications}
use Rattle.irq_base.specs.declared.shape.Shape.{Shape}
use Rattle.board_model.specs.Board.{Board}
use Rattle.board_model.specs.Hand.{Parts}
use Rattle.board_step.specs.Publications.{spent_by}
use Rattle.board_step.specs.Step.{would_publish, spent_of}
use Rattle.turn_book.specs.declared.view.Front.{Front}
use Rattle.part_reach.specs.Limits.{IsCounted}

module _ (shape : Shape) (had : Front) (q : Parts) (call : Call) (b : Board) (counted : IsCounted b shape had q) where
  -- the limits of the board by its counts
  told : spent_by shape had.length had.generation (would_publish b call) ≡ spent_of b call
  told = λ i. spent_by (sym counted.one_shape i) (sym counted.calls i) (sym counted.publications i) (would_publish b call)

  module _ (publishes : Bool) (only : publishes ≡ true → is_some q.registry ≡ true) (there : Some b.registry ≡ q.registry → publishes ≡ would_publish b call) where
    -- what is taken for a publication is one
    sure : publishes ≡ true → would_publish b call ≡ true
    sure is = sym (there (counted.registry (only is))) ∙ is

    by_limits : (t : Bool) → publishes ≡ t → (calls many : Bool)
        → IfSome (if calls then Some (Calls shape.calls) else if t && many then Some (Publications shape.publications) else None)
        (λ spent. (if calls then Some (Calls shape.calls) else if would_publish b call && many then Some (Publications shape.publications) else None) ≡ Some spent)
    by_limits t is true many = refl
    by_limits false is false many = tt
    by_limits true is false false = tt
    by_limits true is false true = ap (λ w. if w && true then Some (Publications shape.publications) else None) (sure is)

    pub bars : (result : Option Spent) → result ≡ spent_by shape had.length had.generation publishes → IfSome result (λ spent. spent_of b call ≡ Some spent)
    bars result is = subst (λ o. IfSome o (λ spent. spent_of b call ≡ Some spent)) (sym is)
        (subst (λ o. IfSome (spent_by shape had.length had.generation publishes) (λ spent. o ≡ Some spent)) told (by_limits publishes refl (nat_eq had.length shape.calls) (nat_eq had.generation shape.publications)))

    pub free : (would_publish b call ≡ true → is_some q.registry ≡ true) → (result : Option Spent) → result ≡ spent_by shape had.length had.generation publishes → result ≡ None → spent_of b call ≡ None
    free reached result is none = sym told ∙ ap (spent_by shape had.length had.generation) (sym same) ∙ sym is ∙ none
      where
        by : (w : Bool) → would_publish b call ≡ w → publishes ≡ would_publish b call
        by true is = there (counted.registry (reached is))
        by false out = not_so publishes refl ∙ sym out
          where
            not_so : (t : Bool) → publishes ≡ t → publishes ≡ false
            not_so false is = is
            not_so true is = absurd (true≢false (sym (sure is) ∙ out))

        same : publishes ≡ would_publish b call
        same = by (would_publish b call) refl
