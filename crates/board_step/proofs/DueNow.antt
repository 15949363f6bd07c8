-- An Ack answers what is due.
use Rattle.board_step.proofs.Basics.{routing_on, ◌≡◌, ℕ, ◌<◌, zero, suc, Bool, true, false, true≢false, ◌&&◌, if◌then◌else◌, List, [], ◌∷◌, ◌++◌, map, length, Some, None, refl, sym, ap, ◌∙◌, arith, IfSome, unwrap_or, Option, Ack, Cpu, Reply, Pic, Lapic, Pair, has_output, Cycle, cycle, Holds, LocalApic, power_on, giveable_of, Board, part_of, with_part, pair_of, with_pair, flat, Plan, reply, ◌>>◌, Wishes, Outcome, run, PairFits, acknowledge_each, cycle_pins, cycle_made, give, given_reply, hears_pair, give_of_pair, take_nmi, slice_get, is_some, option_map, pic_of, apic_in, run-bind, opening_pic, board_in, IsKept, given_due, due_by, due_in, IsDue, AnswersDue}
use Rattle.board_step.proofs.Basics.pic
use Rattle.board_step.specs.declared.due.Due.{Due}
use Rattle.board_step.specs.declared.due.Due.TheVariants as dues
use Rattle.board_step.specs.declared.board.Board.TheInside.{Inside}
use Rattle.board_step.proofs.WholeParts.{below_is}
use Rattle.board_step.proofs.CountingAnswers.{answers_once}

-- of one reply the last is the only one
last_alone : (rs : List Reply) (q : Reply) → length (rs ++ q ∷ []) ≡ 1 → rs ++ q ∷ [] ≡ q ∷ []
last_alone [] q one = refl
last_alone (r ∷ []) q one = absurd (omega (arith, one))
last_alone (r ∷ s ∷ rs) q one = absurd (omega (arith, one))

module _ (b : Board) (n : ℕ) (ws : Wishes) where
  abbrev apic : LocalApic
  apic = part_of b (Lapic n)

  -- a plan on the board answers what is due, where it answers once
  abbrev Answers : Plan (Unit {0}) → Due → Type 0
  Answers plan due = length (run plan b ws).log.answers ≡ 1 → (r : Reply) × ((run plan b ws).log.answers ≡ r ∷ []) × IsDue due r

  given_is_due : (vector : Option ℕ) → IsDue (given_due vector) (given_reply vector)
  given_is_due None = tt
  given_is_due (Some vector) = refl

  gives_due : Answers (give n apic) (given_due (giveable_of apic))
  gives_due one = (given_reply (giveable_of apic), refl, given_is_due (giveable_of apic))

  cycle_due : (c : Cycle) → Answers (cycle_made (routing_on b) b.shape b.pic c (Reply.Extint c.vector)) dues.Extint
  cycle_due c one =
      let m = acknowledge_each (routing_on b) b.shape (cycle_pins c.pins) in
      let after = with_part b Pic (with_pair b.pic c.after) in
      let q = Reply.Extint c.vector in
      let sum : (run (m >> reply q) after ws).log.answers ≡ (run m after ws).log.answers ++ q ∷ [] = ap (λ (o : Outcome (Unit {0})). o.log.answers) (run-bind (λ _. reply q) m after ws) in
      (q, sum ∙ last_alone (run m after ws).log.answers q (sym (ap length sum) ∙ one), tt)

  pair_due : (t : Bool) → Answers (if t then cycle_made (routing_on b) b.shape b.pic (cycle (pair_of b.pic)) (Reply.Extint (cycle (pair_of b.pic)).vector) else give n apic) (if t then dues.Extint else given_due (giveable_of apic))
  pair_due true = cycle_due (cycle (pair_of b.pic))
  pair_due false = gives_due

  hears_due : (t : Bool) → Answers (if t then give_of_pair (routing_on b) b.shape n apic else give n apic) (if t && has_output (pair_of b.pic) then dues.Extint else given_due (giveable_of apic))
  hears_due true = pair_due (has_output (pair_of b.pic))
  hears_due false = gives_due

  next_due : (t : Bool) → Answers (if t then take_nmi n apic else if hears_pair n apic then give_of_pair (routing_on b) b.shape n apic else give n apic) (if t then dues.Nmi else if hears_pair n apic && has_output (pair_of b.pic) then dues.Extint else given_due (giveable_of apic))
  next_due true one = (Reply.Nmi, refl, tt)
  next_due false one = hears_due (hears_pair n apic) one

  pub acks_due : AnswersDue b n (due_by n (part_of b (Lapic n)) (pair_of b.pic)) ws
  acks_due = (let a = next_due apic.nmi (answers_once b (Cpu n) Ack ws) in record { reply = a.0; answers = a.1; is_due = a.2 })

-- ---- what is in hand of a board

pair_whole : (part : Option pic.PicPart) → is_some (option_map pic_of part) ≡ true → IfSome {T = Pair × Holds} (option_map (λ (c : pic.PicPart). (c.pair, c.levels)) part) (λ p. PairFits p.0 p.1) → option_map (λ (c : pic.PicPart). c.pair) part ≡ Some (pair_of (unwrap_or (option_map pic_of part) opening_pic))
pair_whole None there fits = absurd (true≢false (sym there))
pair_whole (Some c) there fits = ap Some (λ i. record { master = record c.pair.master { high = fits.master i }; slave = record c.pair.slave { high = fits.slave i } })

apic_whole : (row : List (Option LocalApic)) (n m : ℕ) → is_some (flat (slice_get row n)) ≡ true → flat (slice_get row n) ≡ Some (unwrap_or (slice_get (map (λ place. unwrap_or place (power_on 0)) row) n) (power_on m))
apic_whole [] n m there = absurd (true≢false (sym there))
apic_whole (None ∷ row) zero m there = absurd (true≢false (sym there))
apic_whole (Some a ∷ row) zero m there = refl
apic_whole (place ∷ row) (suc n) m there = apic_whole row n m there

-- the local APIC of a processor is in hand, as the board has it
pub kept_apic : (a : Inside) (n : ℕ) → IsKept a → n < a.shape.cpus → apic_in a.rig.parts.lapics n ≡ Some (part_of (board_in a) (Lapic n))
kept_apic a n kept low = apic_whole a.rig.parts.lapics n n (kept.whole.each (Lapic n) (below_is n a.shape.cpus low))

pub kept_due : (a : Inside) (n : ℕ) → IsKept a → n < a.shape.cpus → due_in n (apic_in a.rig.parts.lapics n) (option_map (λ (c : pic.PicPart). c.pair) a.rig.parts.pic) ≡ due_by n (part_of (board_in a) (Lapic n)) (pair_of (board_in a).pic)
kept_due a n kept low =
    λ i. due_in n ((apic_whole a.rig.parts.lapics n n (kept.whole.each (Lapic n) (below_is n a.shape.cpus low))) i) ((pair_whole a.rig.parts.pic (kept.whole.each Pic refl) kept.pins.pic) i)
