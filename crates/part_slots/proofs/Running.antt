-- The laws of a running board.
use Rattle.std.proofs.Common.{◌≡◌, ℕ, suc, ◌+◌, Bool, true, false, if◌then◌else◌, List, [], ◌∷◌, length, slice_get, refl, sym, ap, ◌∙◌, subst, arith, cond}
use Rattle.std.specs.Prelude.{count_by}
use Rattle.std.proofs.lemmas.List.Sums.{sum_by-cons}
use Rattle.irq_base.specs.declared.lists.Entry.{Entry}
use Rattle.irq_base.specs.declared.shape.Part.{Part}
use Rattle.board_model.specs.Board.{Board, part_of}
use Rattle.board_step.specs.Reach.{reach}
use Rattle.board_step.specs.Sound.{IsSound}
use Rattle.board_step.specs.Laws.{AgreesForCall, StepsAlike}
use Rattle.board_step.proofs.Steps.{leads_to_one}
use Rattle.board_step.specs.Step.{is_publication}
use Rattle.board_step.specs.Publications.{words}
use Rattle.board_model.proofs.Tables.{publishes_as_many}
use Rattle.board_step.proofs.Publishing.{steps_show_publications, steps_keep_the_frame}
use Rattle.board_step.proofs.ReachDecides.{stays_outside_reach, equal_part, depends_on_reach as depends_of_board}
use Rattle.board_step.proofs.WordsStay.{words_stay as words_of_board}
use Rattle.board_step.proofs.SoundOpening.{opening_is_sound}
use Rattle.board_step.proofs.SoundSteps.{steps_keep_sound}
use Rattle.turn_book.specs.Histories.{Runs}
use Rattle.turn_book.specs.Laws.{DependsOnReach, IsBounded}
use Rattle.part_slots.specs.Slots.{place, part_at, slots_of}
use Rattle.part_slots.specs.Running.{Opens, IsStep, reach_at, HasRoom}
use Rattle.part_slots.proofs.Inverse.{part_back}
use Rattle.part_slots.proofs.Places.{lapic_slots, slot_same, part_same}
use Rattle.part_slots.specs.declared.numbers.TheConstants.{FIXED_PARTS}

pub one_step : (s : Board) (e : Entry) (t u : Board) → IsStep s e t → IsStep s e u → t ≡ u
one_step s e t u one other = leads_to_one s e t u one.step other.step

-- ---- the frame

pub count_stays : (s : Board) (e : Entry) (t : Board) → IsStep s e t → length (slots_of t) ≡ length (slots_of s)
count_stays s e t step = slots_count t ∙ ap (λ n. n + FIXED_PARTS) (steps_keep_the_frame s e t step.step).lapics ∙ sym (slots_count s)
  where
    row_count : (row : List _) → length (lapic_slots row) ≡ length row
    row_count [] = refl
    row_count (a ∷ row) = ap suc (row_count row)

    slots_count : (b : Board) → length (slots_of b) ≡ length b.lapics + FIXED_PARTS
    slots_count b = omega (arith, row_count b.lapics)

pub unreached_stays : (s : Board) (e : Entry) (t : Board) (p : ℕ) → IsStep s e t → reach_at s e p ≡ false → slice_get (slots_of t) p ≡ slice_get (slots_of s) p
unreached_stays s e t p step outside =
    let frame = steps_keep_the_frame s e t step.step in
    slot_same t s p
    (record { shape = frame.shape; lapics = frame.lapics; part = stays_outside_reach s e t (part_at p) step.step outside })

-- ---- histories

-- what holds of each board of a history, by the board from which it leads
pub record Counted (o b : Board) (entries : ℕ) (many : ℕ) : Type 0 where
  pub sound : IsSound b
  pub shape : b.shape ≡ o.shape
  pub length : b.length ≡ o.length + entries
  pub publications : b.publications ≡ o.publications + many

pub stands_after : (o t : Board) (h : List Entry) → IsSound o → Runs IsStep o h t → Counted o t (length h) (count_by is_publication h)
stands_after o t [] sound runs = record {
  sound = subst IsSound (sym runs) sound;
  shape = ap (λ (x : Board). x.shape) runs;
  length = (let e = ap (λ (x : Board). x.length) runs in omega arith);
  publications = (let e = ap (λ (x : Board). x.publications) runs in omega arith);
}
stands_after o t (e ∷ es) sound (m, step, later) =
    let frame = steps_keep_the_frame o e m step.step in
    let a = stands_after m t es (steps_keep_sound o e m sound step.typed step.step) later in
    record {
      sound = a.sound;
      shape = a.shape ∙ frame.shape;
      length = (let p = a.length in let q = frame.length in omega arith);
      publications = by_test (is_publication e) a.publications frame.publications ∙ ap (λ n. o.publications + n) (sym (sum_by-cons (λ x. cond (is_publication x) 1 0) e es));
    }
  where
    by_test : (q : Bool) → t.publications ≡ m.publications + count_by is_publication es → m.publications ≡ (if q then o.publications + 1 else o.publications) → t.publications ≡ o.publications + (cond q 1 0 + count_by is_publication es)
    by_test true a b = omega arith
    by_test false a b = omega arith

pub opens_sound : (o : Board) → Opens o → IsSound o
opens_sound o opens = subst IsSound (sym opens.fresh) (opening_is_sound o.shape opens.shape)

pub bounded : IsBounded Opens IsStep is_publication
bounded o t h opens runs =
    let a = stands_after o t h (opens_sound o opens) runs in
    let x = a.length in
    let y = a.publications in
    let b = a.sound.calls in
    let c = a.sound.publications in
    let d = a.sound.limits.calls in
    let f = a.sound.limits.publications in
    (omega arith, omega arith)

-- ---- words and reach

pub words_stay : (s : Board) (e : Entry) (t : Board) → IsStep s e t → is_publication e ≡ false → words t ≡ words s
words_stay s e t step never = words_of_board s e t step.step (steps_show_publications s e t step.step ∙ never)

pub width_stays : (s : Board) (e : Entry) (t : Board) → IsStep s e t → length (words t) ≡ length (words s)
width_stays s e t step = publishes_as_many t.registry t.shape.tick ∙ sym (publishes_as_many s.registry s.shape.tick)

pub depends_on_reach : DependsOnReach Opens IsStep slots_of words reach_at HasRoom
depends_on_reach o s u t h k e opens runs other_runs step agree room =
    ((λ p. alike.reaches (part_at p)), (alike.next, record { step = alike.step; typed = step.typed }, same_after))
  where
    first : Counted o s (length h) (count_by is_publication h)
    first = stands_after o s h (opens_sound o opens) runs

    second : Counted o u (length k) (count_by is_publication k)
    second = stands_after o u k (opens_sound o opens) other_runs

    shape : s.shape ≡ u.shape
    shape = first.shape ∙ sym second.shape

    same_slot : (q : Part) → reach s e.caller e.call q ≡ true → slice_get (slots_of s) (place q) ≡ slice_get (slots_of u) (place q)
    same_slot q within = sym (agree.0 (place q) (ap (reach s e.caller e.call) (part_back q) ∙ within))

    agrees : AgreesForCall s u e.caller e.call
    agrees = record {
      shape = shape;
      words = sym agree.1;
      parts = λ q within. equal_part s u q (subst (λ r. part_of s r ≡ part_of u r) (part_back q) (part_same s u (place q) (same_slot q within)));
    }

    alike : StepsAlike s u e t
    alike = depends_of_board s u e t first.sound second.sound agrees room step.step

    lapics : length alike.next.lapics ≡ length t.lapics
    lapics =
        (steps_keep_the_frame u e alike.next alike.step).lapics
        ∙ second.sound.lapics.places
        ∙ ap (λ x. x.cpus) (sym shape)
        ∙ sym first.sound.lapics.places
        ∙ sym (steps_keep_the_frame s e t step.step).lapics

    same_after : (p : ℕ) → reach_at s e p ≡ true → slice_get (slots_of alike.next) p ≡ slice_get (slots_of t) p
    same_after p within = slot_same alike.next t p
        (record {
          shape = (steps_keep_the_frame u e alike.next alike.step).shape ∙ sym shape ∙ sym (steps_keep_the_frame s e t step.step).shape;
          lapics = lapics;
          part = alike.parts (part_at p) within;
        })
