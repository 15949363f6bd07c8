-- What is due to a processor, by the slots that a pen holds of the board that its list leaves.
use Rattle.std.proofs.Common.{◌≡◌, ℕ, zero, suc, ◌+◌, ◌<◌, ◌≤◌, Bool, true, false, true≢false, ◌&&◌, nat_eq, if◌then◌else◌, List, [], ◌∷◌, ◌++◌, map, Some, is_some, refl, sym, ap, ◌∙◌, subst, arith}
use Rattle.std.proofs.lemmas.Bool.Decides.{nat_tests}
use Rattle.std.specs.Prelude.{slice_get, option_map, unwrap_or, IfSome}
use Rattle.irq_base.specs.declared.call.Caller.TheVariants.{Cpu}
use Rattle.irq_base.specs.declared.shape.Part.TheVariants.{Lapic}
use Rattle.pic_8259a.specs.Pair.{has_output}
use Rattle.lapic.specs.Registers.{LocalApic, power_on}
use Rattle.lapic.specs.Priority.{giveable_of}
use Rattle.board_model.specs.Board.{Board, part_of}
use Rattle.board_model.specs.Chips.{pair_of}
use Rattle.board_calls.specs.Processors.{lets_through}
use Rattle.board_step.specs.declared.due.Due.{Due}
use Rattle.board_step.specs.declared.due.Due.TheVariants as dues
use Rattle.board_step.specs.Due.{given_due, due_by}
use Rattle.turn_book.specs.Hands.{held_at}
use Rattle.turn_book.specs.Histories.{is_in}
use Rattle.turn_book.specs.Many.{AllBelow, AreApart, HoldsAll}
use Rattle.turn_book.specs.Views.{HoldsRight}
use Rattle.turn_book.proofs.Lists.{has, in_first, in_more}
use Rattle.part_slots.specs.declared.slot.Slot.{Slot}
use Rattle.part_slots.specs.declared.slot.Slot.TheVariants as slots
use Rattle.part_slots.specs.Commits.{Seen}
use Rattle.part_slots.specs.Slots.{pic_slot, slots_of}
use Rattle.part_attempt.proofs.Standing.{some_is}
use Rattle.part_board.specs.DueNow.{due_turns, output_in, due_by_line, due_in_slot, output_held, due_of_held}

-- ---- the turns

pub own_among : (n : ℕ) → is_in (n + 5) (due_turns (Cpu n)) ≡ true
own_among n = by_test (nat_eq n 0)
  where
    by_test : (t : Bool) → is_in (n + 5) ((if t then 3 ∷ [] else []) ++ (n + 5) ∷ []) ≡ true
    by_test true = in_more 3 (n + 5) ((n + 5) ∷ []) (in_first (n + 5) [])
    by_test false = in_first (n + 5) []

pub pair_among : (n : ℕ) → nat_eq n 0 ≡ true → is_in 3 (due_turns (Cpu n)) ≡ true
pair_among n is = ap (λ t. is_in 3 ((if t then 3 ∷ [] else []) ++ (n + 5) ∷ [])) is

pub due_low : (q n : ℕ) → is_in q (due_turns (Cpu n)) ≡ true → q ≤ n + 5
due_low q n within = by_test (nat_eq n 0) within
  where
    last : (b : Bool) → nat_eq (n + 5) q ≡ b → elim b [ true ↦ true | false ↦ false ] ≡ true → q ≤ n + 5
    last true is h = (let same : n + 5 ≡ q = grind (arith, nat_tests) in omega (arith, same))
    last false is h = absurd (true≢false (sym h))

    first : (b : Bool) → nat_eq 3 q ≡ b → elim b [ true ↦ true | false ↦ is_in q ((n + 5) ∷ []) ] ≡ true → q ≤ n + 5
    first true is h = (let same : 3 ≡ q = grind (arith, nat_tests) in omega (arith, same))
    first false is h = last (nat_eq (n + 5) q) refl h

    by_test : (t : Bool) → is_in q ((if t then 3 ∷ [] else []) ++ (n + 5) ∷ []) ≡ true → q ≤ n + 5
    by_test true h = first (nat_eq 3 q) refl h
    by_test false h = last (nat_eq (n + 5) q) refl h

pub due_below : (n slots : ℕ) → n + 5 < slots → AllBelow slots (due_turns (Cpu n))
due_below n slots low = by_test (nat_eq n 0)
  where
    by_test : (t : Bool) → AllBelow slots ((if t then 3 ∷ [] else []) ++ (n + 5) ∷ [])
    by_test true = (omega (arith, low), (low, tt))
    by_test false = (low, tt)

pub due_apart : (n : ℕ) → AreApart (due_turns (Cpu n))
due_apart n = by_test (nat_eq n 0)
  where
    other : nat_eq (n + 5) 3 ≡ false
    other = grind (arith, nat_tests)

    by_test : (t : Bool) → AreApart ((if t then 3 ∷ [] else []) ++ (n + 5) ∷ [])
    by_test true = (ap (λ b. elim b [ true ↦ true | false ↦ false ]) other, (refl, tt))
    by_test false = (refl, tt)

-- ---- the slots

row_slot : (row : List LocalApic) (k : ℕ) (d : LocalApic) (x : Slot) → slice_get (map (λ (a : LocalApic). slots.Lapic a) row) k ≡ Some x → x ≡ slots.Lapic (unwrap_or (slice_get row k) d)
row_slot [] k d x is = cc
row_slot (a ∷ row) zero d x is = sym (some_is (slots.Lapic a) x is)
row_slot (a ∷ row) (suc k) d x is = row_slot row k d x is

-- the line of the pair matters to processor 0 alone
line_is : (t through nmi output here : Bool) (given : Due) → (t ≡ true → here ≡ output)
    → (if nmi then dues.Nmi else if (t && through) && (t && here) then dues.Extint else given) ≡ (if nmi then dues.Nmi else if (t && through) && output then dues.Extint else given)
line_is true through nmi output here given is = ap (λ o. if nmi then dues.Nmi else if through && o then dues.Extint else given) (is refl)
line_is false through nmi output here given is = refl

module _ (v : Seen) (b : Board) (now : v.now ≡ Some b) (right : HoldsRight slots_of v) where
  slot_is : (q : ℕ) (x : Slot) → held_at q v.held ≡ Some x → slice_get (slots_of b) q ≡ Some x
  slot_is q x held = subst (λ o. IfSome o (λ s. slice_get (slots_of s) q ≡ Some x)) now (right q x held)

  pair_is : (x : Slot) → held_at 3 v.held ≡ Some x → output_held v.held ≡ has_output (pair_of b.pic)
  pair_is x held = ap (λ o. unwrap_or (option_map output_in o) false) held ∙ ap output_in (sym (some_is (pic_slot b) x (slot_is 3 x held)))

  apic_is : (n : ℕ) (x : Slot) → held_at (n + 5) v.held ≡ Some x → x ≡ slots.Lapic (part_of b (Lapic n))
  apic_is n x held =
      let five : n + 5 ≡ suc (suc (suc (suc (suc n)))) = omega arith in
      row_slot b.lapics n (power_on n) x (ap (slice_get (slots_of b)) (sym five) ∙ slot_is (n + 5) x held)

  -- what is held tells what is due on the board
  pub due_is : (n : ℕ) (due : Due) → HoldsAll (due_turns (Cpu n)) v.held → due_of_held n v.held ≡ Some due → due ≡ due_by n (part_of b (Lapic n)) (pair_of b.pic)
  due_is n due all told =
      sym (some_is _ due (ap (option_map (due_in_slot n line)) (sym own.1) ∙ told))
      ∙ ap (due_in_slot n line) (apic_is n own.0 own.1)
      ∙ line_is (nat_eq n 0) (lets_through apic) apic.nmi (has_output (pair_of b.pic)) (output_held v.held) (given_due (giveable_of apic)) heard
    where
      apic : LocalApic
      apic = part_of b (Lapic n)

      line : Bool
      line = nat_eq n 0 && output_held v.held

      own : (x : Slot) × (held_at (n + 5) v.held ≡ Some x)
      own = has (held_at (n + 5) v.held) (all (n + 5) (own_among n))

      heard : nat_eq n 0 ≡ true → output_held v.held ≡ has_output (pair_of b.pic)
      heard first = (let pair = has (held_at 3 v.held) (all 3 (pair_among n first)) in pair_is pair.0 pair.1)
