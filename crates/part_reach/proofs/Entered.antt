-- The entry of a call that was made on copies of the parts in hand.
use Rattle.std.proofs.Common.{◌≡◌, ℕ, ◌<◌, ◌≤◌, Bool, true, false, true≢false, List, slice_get, is_some, Some, None, refl, sym, ap, ◌∙◌, subst}
use Rattle.std.specs.Prelude.{IfSome, option_map}
use Rattle.std.specs.declared.option.Option.{Option}
use Rattle.irq_base.specs.declared.lists.Entry.{Entry}
use Rattle.irq_base.specs.declared.shape.Shape.{Shape}
use Rattle.irq_base.specs.declared.shape.Part.TheVariants.{Registry}
use Rattle.board_model.specs.Board.{Board}
use Rattle.board_model.specs.Published.{published, IsSoundRegistry}
use Rattle.board_model.specs.Registry.{RegistryPart as Kept}
use Rattle.board_raise.specs.declared.parts.Parts.{Parts}
use Rattle.board_raise.specs.declared.parts.RegistryPart.{RegistryPart}
use Rattle.board_raise.specs.InHand.{registry_of}
use Rattle.board_step.specs.History.{opening}
use Rattle.board_step.specs.Publications.{words, KeepsTheFrame}
use Rattle.board_step.specs.Sound.{IsSound}
use Rattle.board_step.specs.Step.{is_publication}
use Rattle.board_step.proofs.Publishing.{steps_keep_the_frame, steps_show_publications, publications_reach_the_registry}
use Rattle.board_step.proofs.SoundSteps.{steps_keep_sound}
use Rattle.turn_book.specs.declared.view.Draft.{Draft}
use Rattle.turn_book.specs.declared.view.Front.{Front}
use Rattle.turn_book.specs.Banks.{AreDrafted}
use Rattle.turn_book.specs.Hands.{held_at}
use Rattle.turn_book.specs.Histories.{is_in}
use Rattle.turn_book.specs.Many.{HoldsJust}
use Rattle.turn_book.specs.Plays.{IsAt, LeadsOn, HoldsReach, HasDrafted}
use Rattle.turn_book.specs.Views.{IsLegal, HoldsRight}
use Rattle.turn_book.proofs.Lists.{has}
use Rattle.turn_copies.specs.Copies.{written_at}
use Rattle.part_slots.specs.declared.slot.Slot.{Slot}
use Rattle.part_slots.specs.Commits.{Seen}
use Rattle.part_slots.specs.Running.{Opens, IsStep, reach_at}
use Rattle.part_slots.specs.Slots.{slots_of}
use Rattle.part_slots.proofs.Running.{one_step}
use Rattle.part_copies.specs.Copied.{written_by, FitsOver}
use Rattle.part_rig.specs.declared.workroom.Workroom.{Workroom}
use Rattle.part_rig.specs.Rooms.{written_from}
use Rattle.part_attempt.specs.Attempts.{NamesInRange, words_in_hand}
use Rattle.part_attempt.proofs.Standing.{some_is, stands, right_is}
use Rattle.part_reach.specs.Entered.{IsMadeOn}
use Rattle.part_reach.proofs.Home.{written_home, fits_home}
use Rattle.irq_bits.specs.declared.limits.TheConstants.{MAX_CPUS}

module _ (shape : Shape) (v : Seen) (begins : v.begin ≡ Some (opening shape)) (legal : IsLegal Opens IsStep v) (e : Entry) (places : List ℕ) (q : Parts) (made : IsMadeOn v e places q) where
  before_is : legal.1 ≡ made.before
  before_is = some_is legal.1 made.before (sym legal.4 ∙ made.now)

  before_sound : IsSound made.before
  before_sound = subst IsSound before_is (stands shape v begins legal).sound

  before_shape : made.before.shape ≡ shape
  before_shape = sym (ap (λ (b : Board). b.shape) before_is) ∙ (stands shape v begins legal).shape

  frame : KeepsTheFrame made.before e made.after
  frame = steps_keep_the_frame made.before e made.after made.step.step

  after_sound : IsSound made.after
  after_sound = steps_keep_sound made.before e made.after before_sound made.step.typed made.step.step

  after_shape : made.after.shape ≡ shape
  after_shape = frame.shape ∙ before_shape

  -- ---- words

  registry_range : (o : Option RegistryPart) → ((k : Kept) → option_map registry_of o ≡ Some k → Some made.after.registry ≡ Some k) → IfSome o (NamesInRange shape.tick)
  registry_range None agree = tt
  registry_range (Some r) agree =
      let sound = subst (λ (k : Kept). IsSoundRegistry k made.after.shape.tick) (some_is made.after.registry (registry_of r) (agree (registry_of r) refl)) after_sound.registry in
      record { of_irqfds = sound.irqfds; of_watches = sound.watches; of_ticks = subst (λ (s : Shape). s.tick < 4096) after_shape sound.ticks }

  -- its registry names what there can be, if it is in hand
  pub range_is : IfSome q.registry (NamesInRange shape.tick)
  range_is = registry_range q.registry (made.agrees Registry)

  -- a publication has the registry in hand
  pub has_registry : is_publication e ≡ true → is_in 0 places ≡ true
  has_registry is_so = made.reached 0 (publications_reach_the_registry made.before e.caller e.call (steps_show_publications made.before e made.after made.step.step ∙ is_so))

  module _ (w : Seen) (now : w.now ≡ v.now) (had : Front) where
    at_before : (s : Board) → IsAt had w s → s ≡ made.before
    at_before s at = some_is s made.before (sym at.1 ∙ now ∙ made.now)

    pub leads_on : LeadsOn IsStep had w e
    leads_on s at = (made.after, subst (λ x. IsStep x e made.after) (sym (at_before s at)) made.step)

    -- all of the reach is held
    pub reach_held : HoldsJust places w.held → HoldsReach reach_at had w e
    reach_held just s at p within = just p ∙ made.reached p (ap (λ b. reach_at b e p) (sym (at_before s at)) ∙ within)

    registry_drafted : (drafts : List Draft) (o : Option RegistryPart) → is_some (option_map registry_of o) ≡ true → ((k : Kept) → option_map registry_of o ≡ Some k → Some made.after.registry ≡ Some k) → IfSome o (λ r. AreDrafted (words_in_hand r shape.tick) drafts) → AreDrafted (words made.after) drafts
    registry_drafted drafts None there agree are = absurd (true≢false (sym there))
    registry_drafted drafts (Some r) there agree are = subst (λ l. AreDrafted l drafts) (λ i. published (sym (some_is made.after.registry (registry_of r) (agree (registry_of r) refl)) i) (sym after_shape i).tick) are

    -- each word that is published after the entry was drafted
    pub has_drafted : is_publication e ≡ true → IfSome q.registry (λ r. AreDrafted (words_in_hand r shape.tick) w.drafts) → HasDrafted IsStep words had w e
    has_drafted is_so are s t at step = subst (λ x. AreDrafted (words x) w.drafts)
        (one_step made.before e made.after t made.step (subst (λ x. IsStep x e t) (at_before s at) step))
        (registry_drafted w.drafts q.registry (made.in_hand 0 (has_registry is_so)) (made.agrees Registry) are)

  -- ---- home

  module _ (right : HoldsRight slots_of v) where
    slot_is : (k : ℕ) (x : Slot) → held_at k v.held ≡ Some x → slice_get (slots_of made.before) k ≡ Some x
    slot_is k x held = subst (λ b. slice_get (slots_of b) k ≡ Some x) before_is (right_is shape v begins legal right k x held)

    -- the copies can be written into the slots
    pub all_fit : (k : ℕ) (x : Slot) → held_at k v.held ≡ Some x → FitsOver k q x
    all_fit k x held = fits_home made.before made.after q made.agrees made.pins frame.shape
        (before_sound.counts.number ∙ ap (λ (s : Shape). s.counters) (sym frame.shape) ∙ sym after_sound.counts.number)
        made.row (subst (λ n. n ≤ MAX_CPUS) (sym before_sound.lapics.places) before_sound.limits.cpus) k x (slot_is k x held)

    -- what is written is what the history then has
    pub all_home : (w : Seen) (legal' : IsLegal Opens IsStep w) → w.begin ≡ Some (opening shape) → HoldsRight slots_of w → HoldsJust places v.held → HoldsJust places w.held
        → ((s t : Board) → v.now ≡ Some s → w.now ≡ Some t → IsStep s e t) → (room : Workroom) → room.rig.parts ≡ q → (k : ℕ) (o : Option Slot) → o ≡ held_at k v.held
        → written_at written_from room (is_in k places) k o ≡ held_at k w.held
    all_home w legal' begins' right' just just' follows room is k o there = by (is_in k places) refl
      where
        next : legal'.1 ≡ made.after
        next = sym (one_step made.before e made.after legal'.1 made.step (follows made.before legal'.1 made.now legal'.4))

        none : (x y : Option Slot) → is_some x ≡ false → is_some y ≡ false → x ≡ y
        none None None a b = refl
        none None (Some y) a b = absurd (true≢false b)
        none (Some x) y a b = absurd (true≢false a)

        by : (t : Bool) → is_in k places ≡ t → written_at written_from room (is_in k places) k o ≡ held_at k w.held
        by false out = ap (λ t. written_at written_from room t k o) out ∙ none o (held_at k w.held) (ap is_some there ∙ just k ∙ out) (just' k ∙ out)
        by true within =
            let (x, held) = has (held_at k v.held) (just k ∙ within) in
            let (y, kept) = has (held_at k w.held) (just' k ∙ within) in
            let left = subst (λ b. slice_get (slots_of b) k ≡ Some y) next (right_is shape w begins' legal' right' k y kept) in
            (λ i. written_at written_from room (within i) k ((there ∙ held) i))
            ∙ ap (λ p. Some (written_by k p x)) is
            ∙ sym (written_home made.before made.after q made.agrees made.pins frame.shape k x (slot_is k x held) (made.in_hand k within))
            ∙ left
            ∙ sym kept
