-- Histories of a running board, and what its slots keep.
use Rattle.std.proofs.Common.{◌≡◌, ℕ, zero, suc, true, List, [], ◌∷◌, map, length, slice_get, Some, refl, sym, ap, subst, arith}
use Rattle.std.proofs.lemmas.List.Elements.{All-head, All-tail, All-cons}
use Rattle.irq_base.specs.Callers.{is_allowed}
use Rattle.irq_base.specs.declared.lists.Entry.{Entry}
use Rattle.lapic.specs.Registers.{LocalApic}
use Rattle.board_model.specs.Board.{Board}
use Rattle.board_model.specs.Hand.{flat}
use Rattle.board_step.specs.Laws.{IsTyped, HasStep}
use Rattle.board_step.specs.History.{opening, Leads}
use Rattle.board_step.proofs.CountingAnswers.{always_answers}
use Rattle.turn_book.specs.Histories.{Runs}
use Rattle.part_slots.specs.declared.slot.Slot.{Slot}
use Rattle.part_slots.specs.declared.slot.Slot.TheVariants as slots
use Rattle.part_slots.specs.Running.{IsStep}
use Rattle.part_slots.specs.Histories.{OpeningsAreTold, RunsAreLegal, AllTyped, StatesStand, StatesGoOn, KeepsPart, SlotsKeepParts}
use Rattle.part_slots.proofs.Places.{lapic_slots}
use Rattle.part_slots.proofs.Running.{stands_after, opens_sound}

pub openings_are_told : OpeningsAreTold
openings_are_told shape limits = record { opens = record { shape = limits; fresh = refl }; parts = refl; board = refl }

-- ---- legal histories

runs_lead : (o b : Board) (h : List Entry) → Runs IsStep o h b → Leads o h b
runs_lead o b [] runs = sym runs
runs_lead o b (e ∷ es) (m, step, later) = (m, step.step, runs_lead m b es later)

runs_typed : (o b : Board) (h : List Entry) → Runs IsStep o h b → AllTyped h
runs_typed o b [] runs = λ k d low. absurd (omega arith)
runs_typed o b (e ∷ es) (m, step, later) = All-cons (λ (x : Entry). IsTyped x.call) e es step.typed (runs_typed m b es later)

leads_run : (o b : Board) (h : List Entry) → AllTyped h → Leads o h b → Runs IsStep o h b
leads_run o b [] typed leads = sym leads
leads_run o b (e ∷ es) typed (m, step, later) =
    (m, record { step = step; typed = All-head (λ (x : Entry). IsTyped x.call) e es typed }, leads_run m b es (All-tail (λ (x : Entry). IsTyped x.call) e es typed) later)

pub runs_are_legal : RunsAreLegal
runs_are_legal = record {
  leads = λ o b h opens runs. subst (λ x. Leads x h b) opens.fresh (runs_lead o b h runs);
  typed = runs_typed;
  runs = λ shape b h typed leads. leads_run (opening shape) b h typed leads;
}

pub states_stand : StatesStand
states_stand o b h opens runs =
    let a = stands_after o b h (opens_sound o opens) runs in
    record {
      sound = a.sound;
      shape = a.shape;
      length = (let x = a.length in let y = ap (λ (c : Board). c.length) opens.fresh in omega arith);
      publications = (let x = a.publications in let y = ap (λ (c : Board). c.publications) opens.fresh in omega arith);
    }

pub states_go_on : StatesGoOn
states_go_on o b h caller call opens runs allowed typed free =
    let a = states_stand o b h opens runs in
    let s : HasStep b caller call = always_answers b caller call a.sound (subst (λ shape. is_allowed caller call shape ≡ true) (sym a.shape) allowed) free in
    record { reply = s.reply; events = s.events; next = s.next; step = record { step = s.step; typed = typed } }

-- ---- slots

some_is : {A : Type 0} (x y : A) → Some x ≡ Some y → x ≡ y
some_is x y e = cc

-- the slot of a local APIC keeps it
row_keeps : (row : List LocalApic) (n : ℕ) (s : Slot) → slice_get (lapic_slots row) n ≡ Some s → (a : LocalApic) × (s ≡ slots.Lapic a) × (slice_get (map (λ x. Some x) row) n ≡ Some (Some a))
row_keeps [] n s is = cc
row_keeps (a ∷ row) zero s is = (a, sym (some_is (slots.Lapic a) s is), refl)
row_keeps (a ∷ row) (suc n) s is = row_keeps row n s is

pub slots_keep_parts : SlotsKeepParts
slots_keep_parts b zero s is = subst (KeepsPart b _) (some_is _ s is) (record { there = refl; same = refl })
slots_keep_parts b (suc zero) s is = subst (KeepsPart b _) (some_is _ s is) (record { there = refl; same = refl })
slots_keep_parts b (suc (suc zero)) s is = subst (KeepsPart b _) (some_is _ s is) (record { there = refl; same = refl })
slots_keep_parts b (suc (suc (suc zero))) s is = subst (KeepsPart b _) (some_is _ s is) (record { there = refl; same = refl })
slots_keep_parts b (suc (suc (suc (suc zero)))) s is = subst (KeepsPart b _) (some_is _ s is) (record { there = refl; same = refl })
slots_keep_parts b (suc (suc (suc (suc (suc n))))) s is =
    let (a, slot, there) = row_keeps b.lapics n s is in
    subst (KeepsPart b _) (sym slot) (record { there = refl; same = sym (ap flat there) })
