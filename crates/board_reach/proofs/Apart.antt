-- What an acknowledge changes of the I/O APIC is of its own pins: it leaves the others as they are.
use Rattle.board_reach.proofs.Basics.{◌≡◌, ℕ, Bool, true, false, not, ◌&&◌, ◌||◌, nat_eq, nat_lt, if◌then◌else◌, inl, inr, refl, sym, ap, ◌∙◌, subst, arith, Some, None, Option, unsigned_Decides, contains-insert, contains-remove, eq_by_cmp, contains-set_below, Pin, Message, MsiWord, Source, Resample, TickSource, Tick, Ioapic, Shape, Raise, entry_at, raise_of, pin_acked, pin_accepted, has_resampler, message_in, Holds as PinHolds, hold, hold_cmp, is_high, ack_injects, tick_acked, tick_injected, Board, with_part, IoapicPart, ioapic_of, with_ioapic, Routing, nobody, TargetAnswer, status_of, About, injected, the_reply, Plan, done, change, ◌>>=◌, ◌>>◌, Wishes, Outcome, run, show, send, ioapic_raised, ioapic_let_go, is_accepted, accept_pin, answer_shown, ioapic_answered, raise_pic, raise_other, raise, let_go, let_go_after, inject, tell_concerned, end_level, end_tick, acknowledge, inject_tick, inject_next, acknowledge_tick, entry_ended, ◌⊎◌, hold_cmp_total, high_where_held, held_where_high, run-bind, pin_freed, part_freed, contains}
use Rattle.board_reach.proofs.Pins.{irr_cleared, irr_accepted, acked_entry, accepted_entry, sent_registry, sent_ioapic, MarksResamplers, told_holds, SentAgain, level_ends}

-- ---- one pin of the I/O APIC that stays

-- two I/O APICs have the entry of a pin the same, and the same sources hold the pin
pub record SamePin (pin : ℕ) (part other : IoapicPart) : Type 0 where
  pub entry : entry_at (ioapic_of other) pin ≡ entry_at (ioapic_of part) pin
  pub holds : (source : Source) → contains other.holds (hold pin source) ≡ contains part.holds (hold pin source)

pub pin_itself : (pin : ℕ) (part : IoapicPart) → SamePin pin part part
pin_itself pin part = record { entry = refl; holds = λ source. refl }

pub pin_on : {pin : ℕ} {part other last : IoapicPart} → SamePin pin part other → SamePin pin other last → SamePin pin part last
pin_on h k = record { entry = k.entry ∙ h.entry; holds = λ source. k.holds source ∙ h.holds source }

same_tests : (a b : Bool) → (a ≡ true → b ≡ true) → (b ≡ true → a ≡ true) → a ≡ b
same_tests a b h1 h2 = grind arith

high_by_holds : (s t : PinHolds) (pin : ℕ) → ((source : Source) → contains t (hold pin source) ≡ contains s (hold pin source)) → is_high t pin ≡ is_high s pin
high_by_holds s t pin same = same_tests _ _
    (λ high. let one = held_where_high t pin high in high_where_held s pin one.0 (sym (same one.0) ∙ one.1))
    (λ high. let one = held_where_high s pin high in high_where_held t pin one.0 (same one.0 ∙ one.1))

-- and so its level
pub same_level : {pin : ℕ} {part other : IoapicPart} → SamePin pin part other → contains (ioapic_of other).high pin ≡ contains (ioapic_of part).high pin
same_level {pin} {part} {other} h =
    contains-set_below 24 (is_high other.holds) pin
    ∙ ap (λ t. nat_lt pin 24 && t) (high_by_holds part.holds other.holds pin h.holds)
    ∙ sym (contains-set_below 24 (is_high part.holds) pin)

-- ---- writes of other pins

module _ (pin at : ℕ) (other : nat_eq at pin ≡ false) (part : IoapicPart) where
  untied : (source own : Source) → eq_by_cmp hold_cmp (hold pin source) (hold at own) ≡ false
  untied source own = grind arith

  pub raised_pin : (own : Source) → SamePin pin part (ioapic_raised part at own)
  raised_pin own = record {
    entry = refl;
    holds = λ source. contains-insert hold_cmp_total part.holds (hold at own) (hold pin source) ∙ ap (λ t. t || contains part.holds (hold pin source)) (untied source own);
  }

  pub let_go_pin : (own : Source) → SamePin pin part (ioapic_let_go part at own)
  let_go_pin own = record {
    entry = refl;
    holds = λ source. contains-remove hold_cmp_total part.holds (hold at own) (hold pin source) ∙ ap (λ t. not t && contains part.holds (hold pin source)) (untied source own);
  }

  pub acked_pin : SamePin pin part (with_ioapic part (pin_acked (ioapic_of part) at))
  acked_pin = record {
    entry = acked_entry (ioapic_of part) at pin ∙ ap (λ t. if t then irr_cleared (entry_at (ioapic_of part) at) else entry_at (ioapic_of part) pin) other;
    holds = λ source. refl;
  }

  pub accepted_pin : SamePin pin part (with_ioapic part (pin_accepted (ioapic_of part) at))
  accepted_pin = record {
    entry = accepted_entry (ioapic_of part) at pin ∙ ap (λ t. if t then irr_accepted (entry_at (ioapic_of part) at) else entry_at (ioapic_of part) pin) other;
    holds = λ source. refl;
  }

-- an I/O APIC pin of these targets is another, if there is one
abbrev pub IsOther : ℕ → Option ℕ → Type 0
IsOther pin None = Unit {0}
IsOther pin (Some at) = nat_eq at pin ≡ false

freed_pin : (pin : ℕ) (part : IoapicPart) (ioapic : Option ℕ) → IsOther pin ioapic → SamePin pin part (pin_freed part ioapic)
freed_pin pin part None other = pin_itself pin part
freed_pin pin part (Some at) other = let_go_pin pin at other part Resample

-- ---- plans that leave a pin

-- a board has the registrations of another, and this pin of its I/O APIC
pub record LeavesPin (pin : ℕ) (b c : Board) : Type 0 where
  pub registry : c.registry ≡ b.registry
  pub ioapic : SamePin pin b.ioapic c.ioapic

module _ (pin : ℕ) where
  leaves_itself : (b : Board) → LeavesPin pin b b
  leaves_itself b = record { registry = refl; ioapic = pin_itself pin b.ioapic }

  leaves_on : {b c d : Board} → LeavesPin pin b c → LeavesPin pin c d → LeavesPin pin b d
  leaves_on h k = record { registry = k.registry ∙ h.registry; ioapic = pin_on h.ioapic k.ioapic }

  abbrev pub Leaves : {A : Type 0} → Plan A → Type 0
  Leaves m = (b : Board) (ws : Wishes) → LeavesPin pin b (run m b ws).board

  bound : {A B : Type 0} (f : A → Plan B) (m : Plan A) → Leaves m → ((a : A) → Leaves (f a)) → Leaves (m >>= f)
  bound {A} {B} f m first later = λ b ws.
      subst (λ (o : Outcome B). LeavesPin pin b o.board) (sym (run-bind f m b ws))
      (leaves_on (first b ws) (later (run m b ws).value (run m b ws).board (run m b ws).wishes))

  ended : {A : Type 0} (a : A) → Leaves (done a)
  ended a = λ b ws. leaves_itself b

  nothing : Leaves {A = Unit {0}} (done tt)
  nothing = λ b ws. leaves_itself b

  shown : (about : About) (answer : Option TargetAnswer) → Leaves (show about answer)
  shown (the_reply pic) answer = λ b ws. leaves_itself b
  shown _ answer = λ b ws. leaves_itself b

  answered : (about : About) (answer : Option TargetAnswer) → Leaves (answer_shown about answer)
  answered about answer = bound (λ _. done answer) (show about answer) (shown about answer) (λ _. ended answer)

  sent : (cpus : ℕ) (message : Message) (about : About) → Leaves (send cpus message None about)
  sent cpus message about = λ b ws. record {
    registry = sent_registry cpus message about b ws;
    ioapic = subst (λ part. SamePin pin b.ioapic part) (sym (sent_ioapic cpus message about b ws)) (pin_itself pin b.ioapic);
  }

  accepted : (at : ℕ) → nat_eq at pin ≡ false → (t : Bool) → Leaves (accept_pin at t)
  accepted at other true = λ b ws. record { registry = refl; ioapic = accepted_pin pin at other b.ioapic }
  accepted at other false = λ b ws. leaves_itself b

  raised_pic : (pic : Option ℕ) (source : Source) → Leaves (raise_pic pic source)
  raised_pic None source = λ b ws. leaves_itself b
  raised_pic (Some p) source = λ b ws. record { registry = refl; ioapic = pin_itself pin b.ioapic }

  pin_answered : (cpus at : ℕ) → nat_eq at pin ≡ false → (about : About) (answer : Raise) → Leaves (ioapic_answered cpus at about answer)
  pin_answered cpus at other about Raise.Masked = answered about _
  pin_answered cpus at other about Raise.Stood = answered about _
  pin_answered cpus at other about (Raise.Send message) =
      bound (λ answer. accept_pin at (is_accepted message answer) >> done (Some answer)) (send cpus message None about) (sent cpus message about)
      (λ answer. bound (λ _. done (Some answer)) (accept_pin at (is_accepted message answer)) (accepted at other (is_accepted message answer)) (λ _. ended (Some answer)))

  other_raised : (cpus : ℕ) (ioapic : Option ℕ) (msi : Option MsiWord) (source : Source) (about : About) → IsOther pin ioapic → Leaves (raise_other cpus ioapic msi source about)
  other_raised cpus (Some at) msi source about other = λ b ws.
      leaves_on (record { registry = refl; ioapic = raised_pin pin at other b.ioapic source })
      (pin_answered cpus at other about (raise_of (ioapic_of b.ioapic) at) (with_part b Ioapic (ioapic_raised b.ioapic at source)) ws)
  other_raised cpus None (Some word) source about other =
      bound (λ answer. done (Some answer)) (send cpus (message_in word.address word.payload) None about) (sent cpus (message_in word.address word.payload) about) (λ answer. ended (Some answer))
  other_raised cpus None None source about other = answered about None

  gone : (pic ioapic : Option ℕ) (msi : Option MsiWord) (source : Source) → IsOther pin ioapic → Leaves (let_go (record { pic = pic; ioapic = ioapic; msi = msi }) source)
  gone None None msi source other = λ b ws. leaves_itself b
  gone (Some p) None msi source other = λ b ws. record { registry = refl; ioapic = pin_itself pin b.ioapic }
  gone None (Some at) msi source other = λ b ws. record { registry = refl; ioapic = let_go_pin pin at other b.ioapic source }
  gone (Some p) (Some at) msi source other = λ b ws. record { registry = refl; ioapic = let_go_pin pin at other b.ioapic source }

  -- ---- an acknowledge

  module _ (routing : Routing) (shape : Shape) where
    tick_injected_leaves : IsOther pin (routing.targets shape.tick).ioapic → (about : Option TargetAnswer → About) → Leaves (inject_tick routing shape about)
    tick_injected_leaves other about =
        let targets = routing.targets shape.tick in
        bound (λ status. change Tick (λ tick. tick_injected tick status)) (inject shape.cpus targets TickSource about)
        (bound (λ status. let_go_after targets TickSource >> done status) (raise shape.cpus targets TickSource about)
        (bound (λ p. raise_other shape.cpus targets.ioapic targets.msi TickSource (about p) >>= (λ o. done (status_of p o nobody))) (raise_pic targets.pic TickSource) (raised_pic targets.pic TickSource)
        (λ p. bound (λ o. done (status_of p o nobody)) (raise_other shape.cpus targets.ioapic targets.msi TickSource (about p)) (other_raised shape.cpus targets.ioapic targets.msi TickSource (about p) other) (λ o. ended (status_of p o nobody))))
        (λ status. bound (λ _. done status) (let_go targets TickSource) (gone targets.pic targets.ioapic targets.msi TickSource other) (λ _. ended status)))
        (λ status b ws. record { registry = refl; ioapic = pin_itself pin b.ioapic })

    next_leaves : IsOther pin (routing.targets shape.tick).ioapic → (injects : Bool) → Leaves (inject_next routing shape injects)
    next_leaves other true = tick_injected_leaves other (λ pic. injected shape.tick pic)
    next_leaves other false = nothing

    tick_leaves : IsOther pin (routing.targets shape.tick).ioapic → Leaves (acknowledge_tick routing shape)
    tick_leaves other = λ b ws.
        leaves_on (record { registry = refl; ioapic = pin_itself pin b.ioapic }) (next_leaves other (ack_injects b.tick) (with_part b Tick (tick_acked b.tick)) ws)

    -- the pin of the I/O APIC that a GSI has is another
    abbrev pub IsOtherOf : Option ℕ → Type 0
    IsOtherOf None = Unit {0}
    IsOtherOf (Some gsi) = IsOther pin (routing.targets gsi).ioapic

    end_tick_leaves : (gsi : Option ℕ) → IsOtherOf gsi → Leaves (end_tick routing shape gsi)
    end_tick_leaves None other = nothing
    end_tick_leaves (Some gsi) other = elim (nat_eq gsi shape.tick) as (λ t. nat_eq gsi shape.tick ≡ t → Leaves (if t then acknowledge_tick routing shape else done tt)) [
      | true ↦ λ same. tick_leaves (subst (λ g. IsOther pin (routing.targets g).ioapic) ((unsigned_Decides gsi shape.tick).0 same) other)
      | false ↦ λ _. nothing
    ] refl

    -- an acknowledged pin is another
    abbrev pub IsOtherPin : Pin → Type 0
    IsOtherPin (Pin.Pic p) = Unit {0}
    IsOtherPin (Pin.Ioapic at) = nat_eq at pin ≡ false

    level_leaves : (acked : Pin) → IsOtherPin acked → Leaves (end_level shape.cpus acked)
    level_leaves (Pin.Pic p) other = nothing
    level_leaves (Pin.Ioapic at) other = λ b ws.
        let ends = level_ends shape.cpus at b ws in
        record { registry = ends.registry; ioapic = by_end b (run (end_level shape.cpus (Pin.Ioapic at)) b ws).board.ioapic ends.ioapic }
      where
        cleared_pin : (part : IoapicPart) (t : Bool) → SamePin pin part (if t then with_ioapic part (pin_acked (ioapic_of part) at) else part)
        cleared_pin part true = acked_pin pin at other part
        cleared_pin part false = pin_itself pin part

        by_end : (b : Board) (after : IoapicPart) → (after ≡ entry_ended b.ioapic at) ⊎ SentAgain b.ioapic after at → SamePin pin b.ioapic after
        by_end b after (inl same) = subst (λ part. SamePin pin b.ioapic part) (sym same) (cleared_pin b.ioapic (entry_at (ioapic_of b.ioapic) at).level)
        by_end b after (inr s) = subst (λ part. SamePin pin b.ioapic part) (sym s.ioapic)
            (pin_on (acked_pin pin at other b.ioapic) (accepted_pin pin at other (with_ioapic b.ioapic (pin_acked (ioapic_of b.ioapic) at))))

    tell_leaves : (b : Board) (ws : Wishes) (gsi : Option ℕ) → IsOtherOf gsi → MarksResamplers routing shape b → LeavesPin pin b (run (tell_concerned routing gsi) b ws).board
    tell_leaves b ws gsi other marks =
        let holds = told_holds routing shape gsi b ws marks in
        record { registry = holds.registry; ioapic = subst (λ part. SamePin pin b.ioapic part) (sym holds.ioapic) (by_gsi gsi other) }
      where
        by_test : (t : Bool) (ioapic : Option ℕ) → IsOther pin ioapic → SamePin pin b.ioapic (if t then pin_freed b.ioapic ioapic else b.ioapic)
        by_test true ioapic other = freed_pin pin b.ioapic ioapic other
        by_test false ioapic other = pin_itself pin b.ioapic

        by_gsi : (gsi : Option ℕ) → IsOtherOf gsi → SamePin pin b.ioapic (part_freed routing shape b gsi)
        by_gsi None other = pin_itself pin b.ioapic
        by_gsi (Some gsi) other = by_test (has_resampler b.registry.irqfds gsi) (routing.targets gsi).ioapic other

    -- an acknowledge of another pin, whose GSI has another pin, leaves the pin
    pub acknowledge_leaves : (acked : Pin) → IsOtherPin acked → IsOtherOf (routing.gsi_of acked) → (b : Board) (ws : Wishes) → MarksResamplers routing shape b → LeavesPin pin b (run (acknowledge routing shape acked) b ws).board
    acknowledge_leaves acked other of_gsi b ws marks =
        let gsi = routing.gsi_of acked in
        let told = run (tell_concerned routing gsi) b ws in
        subst (λ (o : Outcome (Unit {0})). LeavesPin pin b o.board) (sym (run-bind (λ _. end_level shape.cpus acked >> end_tick routing shape gsi) (tell_concerned routing gsi) b ws))
        (leaves_on (tell_leaves b ws gsi of_gsi marks)
        (bound (λ _. end_tick routing shape gsi) (end_level shape.cpus acked) (level_leaves acked other) (λ _. end_tick_leaves gsi of_gsi) told.board told.wishes))
