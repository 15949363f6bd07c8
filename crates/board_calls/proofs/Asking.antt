-- What a processor is answered that asks for its next interrupt.
use Rattle.std.proofs.Common.{◌≡◌, ℕ, Bool, true, false, if◌then◌else◌, [], slice_get, Some, None, Ok, Err, refl, sym, ap, subst, ◌∙◌}
use Rattle.std.specs.Prelude.{Result, IfSome, is_some, option_map}
use Rattle.std.specs.declared.option.Option.{Option}
use Rattle.irq_base.specs.declared.reply.Reply.{Reply}
use Rattle.irq_base.specs.declared.reply.Reply.TheVariants.{Extint}
use Rattle.irq_base.specs.declared.shape.Part.TheVariants.{Pic, Lapic}
use Rattle.irq_base.specs.declared.shape.Shape.{Shape}
use Rattle.pic_8259a.specs.declared.pair.Pair.{Pair}
use Rattle.pic_8259a.specs.Pair.{has_output, cycle}
use Rattle.source_levels.specs.Holds.{Holds}
use Rattle.lapic.specs.Registers.{LocalApic}
use Rattle.board_model.specs.Chips as chips
use Rattle.board_model.specs.Chips.{pair_of}
use Rattle.board_model.specs.Hand.{Parts, part_in}
use Rattle.board_model.specs.Plan.{Plan, done, reply, ◌>>=◌}
use Rattle.board_model.specs.Routing.{Routing}
use Rattle.board_model.specs.Run.{Wishes, lacks, run_on}
use Rattle.board_raise.specs.declared.lacks.Lacks.{Lacks}
use Rattle.board_raise.specs.declared.parts.PicPart as pic
use Rattle.board_raise.specs.declared.parts.Parts as code
use Rattle.board_raise.specs.Fit.{PairFits, PinsFit}
use Rattle.board_raise.specs.InHand.{pic_of, parts_of, chips_of}
use Rattle.board_raise.specs.Shown.{EndsWith}
use Rattle.board_raise.proofs.PinsInHand.{pair_is}
use Rattle.board_ack.proofs.Adding.{looked}
use Rattle.board_calls.specs.Processors.{cycle_made, hears_pair, give, take_nmi, give_of_pair, next_interrupt}
use Rattle.board_calls.specs.Accessed.{cycle_answered}
use Rattle.board_calls.specs.Own.{taking_nmi, giving, giving_unless_pair, answering, pair_heard}
use Rattle.board_calls.proofs.Own.{with_own, own_seen, own_stays}

-- ---- what is answered, and then the pair's cycle where it gives

module _ (routing : Routing) (shape : Shape) where
  -- after what the processor is answered without the pair
  abbrev pub after_answer : Option Reply → Plan (Unit {0})
  after_answer (Some answer) = reply answer
  after_answer None = cycle_answered routing shape (λ vector. Extint vector)

  -- the pair in hand is looked at a second time, and is as it was
  pub answer_steps : (n : ℕ) (q : Parts) (ws : Wishes) → run_on (answering n >>= after_answer) q ws ≡ run_on (next_interrupt routing shape n) q ws
  answer_steps n q ws = elim (part_in q (Lapic n)) as (λ (x : Option LocalApic).
      (elim x [ None ↦ lacks (Lapic n) | Some v ↦ run_on ((if v.nmi then taking_nmi n v else if hears_pair n v then giving_unless_pair n v else giving n v) >>= after_answer) q ws ])
      ≡ (elim x [ None ↦ lacks (Lapic n) | Some v ↦ run_on (if v.nmi then take_nmi n v else if hears_pair n v then give_of_pair routing shape n v else give n v) q ws ])) [
        | None ↦ refl
        | Some v ↦ by_nmi v v.nmi
      ]
    where
      cycle_of : chips.PicPart → Plan (Unit {0})
      cycle_of part = cycle_made routing shape part (cycle (pair_of part)) (Extint (cycle (pair_of part)).vector)

      by_output : (v : LocalApic) (part : chips.PicPart) → part_in q Pic ≡ Some part → (t : Bool) → run_on ((if t then done None else giving n v) >>= after_answer) q ws ≡ run_on (if t then cycle_of part else give n v) q ws
      by_output v part there true = looked Pic cycle_of q ws part there
      by_output v part there false = refl

      by_pair : (v : LocalApic) (o : Option chips.PicPart) → part_in q Pic ≡ o → run_on (giving_unless_pair n v >>= after_answer) q ws ≡ run_on (give_of_pair routing shape n v) q ws
      by_pair v None there =
          ap (λ (x : Option chips.PicPart). elim x [ None ↦ lacks Pic | Some part ↦ run_on ((if has_output (pair_of part) then done None else giving n v) >>= after_answer) q ws ]) there
          ∙ sym (ap (λ (x : Option chips.PicPart). elim x [ None ↦ lacks Pic | Some part ↦ run_on (if has_output (pair_of part) then cycle_of part else give n v) q ws ]) there)
      by_pair v (Some part) there =
          looked Pic (λ x. (if has_output (pair_of x) then done None else giving n v) >>= after_answer) q ws part there
          ∙ by_output v part there (has_output (pair_of part))
          ∙ sym (looked Pic (λ x. if has_output (pair_of x) then cycle_of x else give n v) q ws part there)

      by_hears : (v : LocalApic) (t : Bool) → run_on ((if t then giving_unless_pair n v else giving n v) >>= after_answer) q ws ≡ run_on (if t then give_of_pair routing shape n v else give n v) q ws
      by_hears v true = by_pair v (part_in q Pic) refl
      by_hears v false = refl

      by_nmi : (v : LocalApic) (t : Bool) → run_on ((if t then taking_nmi n v else if hears_pair n v then giving_unless_pair n v else giving n v) >>= after_answer) q ws
          ≡ run_on (if t then take_nmi n v else if hears_pair n v then give_of_pair routing shape n v else give n v) q ws
      by_nmi v true = refl
      by_nmi v false = by_hears v (hears_pair n v)

-- ---- what is answered, by the parts in hand

Ok_is : {A B : Type 0} (a b : A) → ◌≡◌ {A = Result A B} (Ok a) (Ok b) → a ≡ b
Ok_is a b e = cc

Err_not_Ok : {A B : Type 0} (a : A) (b : B) → ◌≡◌ {A = Result A B} (Err b) (Ok a) → ⊥
Err_not_Ok a b e = cc

Err_is : (l m : Lacks) → ◌≡◌ {A = Result Bool Lacks} (Err l) (Err m) → l ≡ m
Err_is l m e = cc

-- the pair in hand with the levels of its pins, if it is in hand
abbrev pub pair_in : Option pic.PicPart → Option Pair
pair_in o = option_map (λ (part : pic.PicPart). part.pair) o

-- where the pair is lacking that a processor hears, it is not in hand
pub pair_missing : (h : Bool) (p : code.Parts) (l : Lacks) → pair_heard h (pair_in p.pic) ≡ Err l → is_some (part_in (parts_of p) l.part) ≡ false
pair_missing false p l e = absurd (Err_not_Ok false l (sym e))
pair_missing true p l e = at p.pic refl e
  where
    at : (o : Option pic.PicPart) → p.pic ≡ o → pair_heard true (pair_in o) ≡ Err l → is_some (part_in (parts_of p) l.part) ≡ false
    at None is named = subst (λ (m : Lacks). is_some (part_in (parts_of p) m.part) ≡ false) (Err_is (record { part = Pic }) l named) (ap (λ (o : Option pic.PicPart). is_some (option_map pic_of o)) is)
    at (Some part) is told = absurd (Err_not_Ok (has_output part.pair) l (sym told))

module _ (p : code.Parts) (n : ℕ) (apic : LocalApic) (ws : Wishes) where
  -- the pair gives, or the local APIC
  abbrev goes_on : Bool → Plan (Option Reply)
  goes_on t = if t then done None else giving n apic

  abbrev hearing : Bool → Plan (Option Reply)
  hearing h = if h then giving_unless_pair n apic else giving n apic

  heard : PinsFit (chips_of p) → (h t : Bool) → pair_heard h (pair_in p.pic) ≡ Ok t → run_on (hearing h) (parts_of p) ws ≡ run_on (goes_on t) (parts_of p) ws
  heard fits false t e = ap (λ u. run_on (goes_on u) (parts_of p) ws) (Ok_is false t e)
  heard fits true t e = at p.pic refl e
    where
      at : (o : Option pic.PicPart) → p.pic ≡ o → pair_heard true (pair_in o) ≡ Ok t → run_on (hearing true) (parts_of p) ws ≡ run_on (goes_on t) (parts_of p) ws
      at None is none = absurd (Err_not_Ok t (record { part = Pic }) none)
      at (Some part) is told =
          let fit : PairFits part.pair part.levels = subst (λ (o : Option pic.PicPart). IfSome {T = Pair × Holds} (option_map (λ (c : pic.PicPart). (c.pair, c.levels)) o) (λ c. PairFits c.0 c.1)) is fits.pic in
          looked Pic (λ v. if has_output (pair_of v) then done None else giving n apic) (parts_of p) ws (pic_of part) (ap (option_map pic_of) is)
          ∙ ap (λ u. run_on (goes_on u) (parts_of p) ws) (ap has_output (sym (pair_is part fit)) ∙ Ok_is (has_output part.pair) t told)

  module _ (there : slice_get p.lapics n ≡ Some (Some apic)) where
    abbrev asked : Bool → Plan (Option Reply)
    asked t = if t then taking_nmi n apic else hearing (hears_pair n apic)

    asked_by : (t : Bool) → apic.nmi ≡ t → run_on (answering n) (parts_of p) ws ≡ run_on (asked t) (parts_of p) ws
    asked_by t h =
        own_seen p n apic there (λ v. if v.nmi then taking_nmi n v else if hears_pair n v then giving_unless_pair n v else giving n v) ws
        ∙ ap (λ u. run_on (asked u) (parts_of p) ws) h

    module _ (h : apic.nmi ≡ false) where
      -- without an NMI pending, to take it changes nothing
      quiet : record apic { nmi = false } ≡ apic
      quiet = ap (λ t. record apic { nmi = t }) (sym h)

      -- the pair gives
      pub answers_pair : PinsFit (chips_of p) → (new : LocalApic) → pair_heard (hears_pair n apic) (pair_in p.pic) ≡ Ok true → new ≡ record apic { nmi = false } → EndsWith None [] [] (parts_of (with_own p n new)) ws (run_on (answering n) (parts_of p) ws)
      answers_pair fits new e is =
          subst (EndsWith None [] [] (parts_of (with_own p n new)) ws) (sym (asked_by false h ∙ heard fits (hears_pair n apic) true e))
          (record { value_is = refl; events_are = refl; replies_are = refl; parts = ap (λ a. parts_of (with_own p n a)) (is ∙ quiet) ∙ ap parts_of (own_stays p n apic there); wishes = refl })
