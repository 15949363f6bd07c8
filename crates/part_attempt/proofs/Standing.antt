-- What stands of the board that a seat's list leaves.
use Rattle.std.proofs.Common.{◌≡◌, ℕ, length, slice_get, Some, sym, ap, ◌∙◌, subst}
use Rattle.std.specs.Prelude.{IfSome}
use Rattle.irq_base.specs.declared.shape.Shape.{Shape}
use Rattle.board_model.specs.Board.{Board}
use Rattle.board_step.specs.History.{opening, Leads}
use Rattle.turn_book.specs.Hands.{held_at}
use Rattle.turn_book.specs.Views.{IsLegal, HoldsRight}
use Rattle.part_slots.specs.declared.slot.Slot.{Slot}
use Rattle.part_slots.specs.Commits.{Seen}
use Rattle.part_slots.specs.Histories.{Stands}
use Rattle.part_slots.specs.Running.{Opens, IsStep}
use Rattle.part_slots.specs.Slots.{slots_of}
use Rattle.part_slots.proofs.Histories.{runs_are_legal, states_stand}

pub some_is : {A : Type 0} (x y : A) → Some x ≡ Some y → x ≡ y
some_is x y e = cc

module _ (shape : Shape) (v : Seen) (begins : v.begin ≡ Some (opening shape)) (legal : IsLegal Opens IsStep v) where
  -- the board that the list leaves
  abbrev pub board_left : Board
  board_left = legal.1

  first : legal.0 ≡ opening shape
  first = some_is legal.0 (opening shape) (sym legal.2 ∙ begins)

  shape_first : legal.0.shape ≡ shape
  shape_first = ap (λ (b : Board). b.shape) first

  pub stands : Stands shape v.seen legal.1
  stands = subst (λ s. Stands s v.seen legal.1) shape_first (states_stand legal.0 legal.1 v.seen legal.3 legal.5)

  pub leads : Leads (opening shape) v.seen legal.1
  leads = subst (λ s. Leads (opening s) v.seen legal.1) shape_first (runs_are_legal.leads legal.0 legal.1 v.seen legal.3 legal.5)

  pub many : shape.cpus ≡ length legal.1.lapics
  many = sym (stands.sound.lapics.places ∙ ap (λ (s : Shape). s.cpus) stands.shape)

  pub right_is : HoldsRight slots_of v → (q : ℕ) (x : Slot) → held_at q v.held ≡ Some x → slice_get (slots_of legal.1) q ≡ Some x
  right_is right q x held = subst (λ o. IfSome o (λ s. slice_get (slots_of s) q ≡ Some x)) legal.4 (right q x held)
