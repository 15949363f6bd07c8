-- What a pen knows is enough for a call to be entered.
use Rattle.std.proofs.Common.{◌≡◌, ℕ, zero, suc, true, List, [], ◌∷◌, map, slice_get, is_some, Some, None, Ok, refl, sym, ap, ◌∙◌, subst}
use Rattle.std.specs.Prelude.{IfSome}
use Rattle.std.specs.declared.option.Option.{Option}
use Rattle.irq_base.specs.declared.lists.Entry.{Entry}
use Rattle.irq_base.specs.declared.shape.Part.{Part}
use Rattle.irq_base.specs.declared.shape.Shape.{Shape}
use Rattle.lapic.specs.Registers.{LocalApic}
use Rattle.board_model.specs.Board.{ValueOf, Board}
use Rattle.board_model.specs.Hand.{Parts, part_in, all_parts, flat}
use Rattle.board_model.specs.Agreement.{Agrees}
use Rattle.board_raise.specs.declared.parts.PicPart as pic
use Rattle.board_raise.specs.declared.parts.IoPart as io
use Rattle.board_raise.specs.Fit.{PairFits, IoapicFits}
use Rattle.board_raise.specs.InHand.{pic_of, ioapic_of}
use Rattle.board_step.specs.History.{opening}
use Rattle.board_step.specs.Reach.{reach}
use Rattle.board_step.specs.Sound.{IsSound}
use Rattle.board_step.specs.Step.{Step}
use Rattle.board_step.proofs.Steps.{leads_to_one}
use Rattle.board_step.specs.Bodies.{MayCall, entry_of, Stepped}
use Rattle.board_step.specs.Publications.{words}
use Rattle.board_step.proofs.CountingAnswers.{steps_tell_few}
use Rattle.turn_book.specs.Hands.{held_at}
use Rattle.part_slots.specs.declared.slot.Slot.{Slot}
use Rattle.part_slots.specs.declared.slot.Slot.TheVariants as slots
use Rattle.part_slots.specs.Slots.{place, part_at, pic_slot, ioapic_slot, slots_of}
use Rattle.part_slots.specs.Running.{IsStep}
use Rattle.part_slots.specs.Histories.{value_in, KeepsPart, Stands}
use Rattle.part_slots.proofs.Inverse.{part_back, place_back}
use Rattle.part_slots.proofs.Places.{lapic_slots}
use Rattle.part_slots.proofs.Histories.{states_stand, slots_keep_parts}
use Rattle.part_slots.specs.Commits.{Seen, HasInHand, HandsAreOfTheBoard, CallsAreEntered, LackingIsReached, KeptPartsAreSlots}

some_is : {A : Type 0} (x y : A) → Some x ≡ Some y → x ≡ y
some_is x y e = cc

is_there : {A : Type 0} (o : Option A) (x : A) → o ≡ Some x → is_some o ≡ true
is_there o x e = ap is_some e

-- what stands of the board that the seat's list leaves
state_stands : (shape : Shape) (known : List ℕ) (q : Parts) (v : Seen) (b : Board) (h : HasInHand shape known q v) → v.now ≡ Some b → Stands h.legal.0.shape v.seen b
state_stands shape known q v b h now = subst (λ c. Stands h.legal.0.shape v.seen c) (some_is h.legal.1 b (sym h.legal.4 ∙ now)) (states_stand h.legal.0 h.legal.1 v.seen h.legal.3 h.legal.5)

state_sound : (shape : Shape) (known : List ℕ) (q : Parts) (v : Seen) (b : Board) (h : HasInHand shape known q v) → v.now ≡ Some b → IsSound b
state_sound shape known q v b h now = (state_stands shape known q v b h now).sound

pub hands_are_of_the_board : HandsAreOfTheBoard
hands_are_of_the_board shape known q v b h now = record {
  one_shape = stands.shape ∙ ap (λ (c : Board). c.shape) (some_is h.legal.0 (opening shape) (sym h.legal.2 ∙ h.begins));
  sound = stands.sound.registry;
  publishes = subst (λ o. IfSome o (λ c. words c ≡ known)) now h.told;
  agrees = λ p x there. (let i = h.copies p x there in own p x i.slot i.held i.keeps);
}
  where
    stands : Stands h.legal.0.shape v.seen b
    stands = state_stands shape known q v b h now

    in_slot : (k : ℕ) (s : Slot) → held_at k v.held ≡ Some s → KeepsPart b (part_at k) s
    in_slot k s held = slots_keep_parts b k s (subst (λ o. IfSome o (λ c. slice_get (slots_of c) k ≡ Some s)) now (h.right k s held))

    own : (p : Part) (x : ValueOf p) (s : Slot) → held_at (place p) v.held ≡ Some s → value_in s p ≡ Some x → part_in (all_parts b) p ≡ Some x
    own p x s held keeps = sym (subst (λ r. KeepsPart b r s) (part_back p) (in_slot (place p) s held)).same ∙ keeps

pub calls_are_entered : CallsAreEntered
calls_are_entered shape known q after caller call reply before events had v h made did = record {
  told = worth.told;
  noted = worth.noted;
  few = steps_tell_few b e worth.leads.next sound step;
  leads = λ s at. (worth.leads.next, subst (λ x. IsStep x e worth.leads.next) (some_is b s (sym made.now ∙ at.1)) (record { step = step; typed = made.typed }));
  reach = λ s at p within. holds p (worth.leads.reached (part_at p) (ap (λ x. reach x caller call (part_at p)) (some_is b s (sym made.now ∙ at.1)) ∙ within));
  agrees = λ s c now to. subst (Agrees after) (leads_to_one b e worth.leads.next c step (subst (λ x. Step x e c) (some_is s b (sym now ∙ made.now)) to.step)) worth.leads.agrees;
  held = worth.leads.held;
}
  where
    b : Board
    b = made.board

    worth : Stepped b caller call q after reply before events
    worth = did b (hands_are_of_the_board shape known q v b h made.now)

    e : Entry
    e = entry_of caller call reply worth.told

    step : Step b e worth.leads.next
    step = worth.leads.step made.may

    sound : IsSound b
    sound = state_sound shape known q v b h made.now

    by_value : (p : Part) (o : Option (ValueOf p)) → part_in q p ≡ o → is_some o ≡ true → is_some (held_at (place p) v.held) ≡ true
    by_value p None is there = cc
    by_value p (Some x) is there = (let i = h.copies p x is in is_there (held_at (place p) v.held) i.slot i.held)

    holds : (k : ℕ) → is_some (part_in q (part_at k)) ≡ true → is_some (held_at k v.held) ≡ true
    holds k there = subst (λ j. is_some (held_at j v.held) ≡ true) (place_back k) (by_value (part_at k) (part_in q (part_at k)) refl there)

pub lacking_is_reached : LackingIsReached
lacking_is_reached shape known q after caller call lacks before events v b h now did = did b (hands_are_of_the_board shape known q v b h now)

-- ---- home

pic_whole : (b : Board) (p : pic.PicPart) → PairFits p.pair p.levels → pic_of p ≡ b.pic → pic_slot b ≡ slots.Pic p
pic_whole b p fits is = ap (λ part. pic_slot (record b { pic = part })) (sym is) ∙ (λ i. slots.Pic (record {
  pair = record {
    master = record p.pair.master { high = sym fits.master i };
    slave = record p.pair.slave { high = sym fits.slave i };
  };
  levels = p.levels;
}))

ioapic_whole : (b : Board) (p : io.IoPart) → IoapicFits p.ioapic p.levels → ioapic_of p ≡ b.ioapic → ioapic_slot b ≡ slots.Ioapic p
ioapic_whole b p fits is = ap (λ part. ioapic_slot (record b { ioapic = part })) (sym is) ∙ (λ i. slots.Ioapic (record { ioapic = record p.ioapic { high = sym fits i }; levels = p.levels }))

row_has : (row : List LocalApic) (n : ℕ) (a : LocalApic) → flat (slice_get (map (λ x. Some x) row) n) ≡ Some a → slice_get (lapic_slots row) n ≡ Some (slots.Lapic a)
row_has [] n a is = cc
row_has (x ∷ row) zero a is = ap (λ y. Some (slots.Lapic y)) (some_is x a is)
row_has (x ∷ row) (suc n) a is = row_has row n a is

pub kept_parts_are_slots : KeptPartsAreSlots
kept_parts_are_slots b zero (slots.Registry home) keeps fits =
    (let r = some_is _ b.registry keeps.same in λ i. Some (slots.Registry (record {
      registry = record { table = (sym r i).table; irqfds = (sym r i).irqfds; watches = (sym r i).watches; ioevents = (sym r i).ioevents };
      shape = sym fits i;
    })))
kept_parts_are_slots b (suc zero) (slots.Counters v) keeps fits = ap (λ x. Some (slots.Counters x)) (sym (some_is v b.counters keeps.same))
kept_parts_are_slots b (suc (suc zero)) (slots.Tick v) keeps fits = ap (λ x. Some (slots.Tick x)) (sym (some_is v b.tick keeps.same))
kept_parts_are_slots b (suc (suc (suc zero))) (slots.Pic v) keeps fits = ap (λ x. Some x) (pic_whole b v fits (some_is _ b.pic keeps.same))
kept_parts_are_slots b (suc (suc (suc (suc zero)))) (slots.Ioapic v) keeps fits = ap (λ x. Some x) (ioapic_whole b v fits (some_is _ b.ioapic keeps.same))
kept_parts_are_slots b (suc (suc (suc (suc (suc n))))) (slots.Lapic a) keeps fits = row_has b.lapics n a (sym keeps.same)
kept_parts_are_slots b k s keeps fits = (let no = keeps.there in cc)
