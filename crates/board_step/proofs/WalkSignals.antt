-- Sendings and signals: what holds of their parts holds of them.
use Rattle.board_step.proofs.Basics.{◌≡◌, ℕ, Bool, true, false, not, if◌then◌else◌, List, [], ◌∷◌, Some, None, refl, Option, Numbers, Message, MsiWord, Source, Resample, Targets, Pic, Ioapic, Lapic, Cause, Masked, NoProcessor, BadVector, BadMode, Signal, Raise, Shorthand, raise_of, pin_accepted, LocalApic, is_taken, accepted, message_in, pin_outcome, Board, with_part, pair_of, ioapic_of, with_ioapic, Sent, TargetAnswer, nobody, no_effect, stood_already, message_answer, status_of, Heading, About, Plan, done, put, choose, reply, ◌>>=◌, ◌>>◌, reached, Processor, named_by, numbers_of, chosen_of, show, ignore, reached_by, see_each, parted, is_illegal, accept_each, deliver, refuse_vector, send_to, send, processors_on, pic_raised, pic_let_go, pic_answer, raise_pic, ioapic_raised, ioapic_let_go, is_accepted, accept_pin, answer_shown, ioapic_answered, raise_other, raise, let_go_pic, let_go_ioapic, let_go, lowered_status, lower, let_go_after, inject, contains}
use Rattle.board_step.proofs.Walk.{Walk, Holds, Seen, ended, bound, after, either, written, changed}

module _ (w : Walk) where
  -- ---- a sending

  -- a place where a status may show, with a message sent or without
  pub record Shows (cpus : ℕ) (about : About) : Type 0 where
    pub shown : (other : Option TargetAnswer) → Holds w (show about other)
    pub sends : (message : Message) (from : Option (ℕ × Shorthand)) → Holds w (send cpus message from about)

  module _ (about : About) (shown : (other : Option TargetAnswer) → Holds w (show about other)) where
    pub ignored : (cause : Cause) → Holds w (ignore about cause)
    ignored cause = bound w (λ _. done (no_effect cause)) (show about (Some (no_effect cause))) (shown (Some (no_effect cause))) (λ _. ended w (no_effect cause))

  -- these processors were looked at
  abbrev pub AreSeen : List Processor → Type 0
  AreSeen [] = Unit {0}
  AreSeen (p ∷ ps) = Seen w (Lapic p.number) p.apic × AreSeen ps

  seen_on : (b : Board) → w.Fit b → (ns : List ℕ) → AreSeen (processors_on b ns)
  seen_on b fit [] = tt
  seen_on b fit (n ∷ ns) = ((b, fit, refl), seen_on b fit ns)

  -- ---- whatever is chosen

  -- local APICs may accept
  abbrev pub Accepts : Type 0
  Accepts = (n : ℕ) (apic : LocalApic) (message : Message) → Seen w (Lapic n) apic → (b : Board) → w.Fit b → w.May b (Lapic n) (accepted apic message)

  -- a choice of whom to reach may show there
  abbrev pub Chooses : About → Type 0
  Chooses about = (m : Heading) (g : Numbers → Sent) (k : Sent → Plan TargetAnswer) → ((s : Sent) → Holds w (k s)) → Holds w (choose m about g k)

  module _ (accepts : Accepts) where
    accept_holds : (message : Message) (takers : Numbers) (ps : List Processor) → AreSeen ps → Holds w (accept_each message takers ps)
    accept_holds message takers [] seen = ended w tt
    accept_holds message takers (p ∷ ps) seen =
        either w (contains takers p.number) (put (Lapic p.number) (accepted p.apic message) (accept_each message takers ps)) (accept_each message takers ps)
        (λ b ws fit. w.puts (Lapic p.number) (accepted p.apic message) (accept_each message takers ps) b ws fit (accepts p.number p.apic message seen.0 b fit)
        (accept_holds message takers ps seen.1 (with_part b (Lapic p.number) (accepted p.apic message)) ws))
        (accept_holds message takers ps seen.1)

    module _ (about : About) (shown : (other : Option TargetAnswer) → Holds w (show about other)) (chosen : Chooses about) (message : Message) (from : Option (ℕ × Shorthand)) where
      send_to_holds : (processors named : List Processor) → AreSeen processors → Holds w (send_to message from about processors named)
      send_to_holds processors [] seen = ignored about shown NoProcessor
      send_to_holds processors (p ∷ ps) seen =
          either w (is_illegal message) (refuse_vector message about processors (p ∷ ps)) (deliver message from about processors (p ∷ ps))
          (after w (accept_each message (numbers_of (p ∷ ps)) processors) (ignore about BadVector) (accept_holds message (numbers_of (p ∷ ps)) processors seen) (ignored about shown BadVector))
          (chosen (record { message = message; from = from }) (λ wish. parted message (chosen_of message.mode wish (p ∷ ps))) (λ sent. accept_each message (reached sent) processors >> done (message_answer sent))
          (λ sent. after w (accept_each message (reached sent) processors) (done (message_answer sent)) (accept_holds message (reached sent) processors seen) (ended w (message_answer sent))))

      -- a sending, whose local APICs accept
      send_holds : (cpus : ℕ) → Holds w (send cpus message from about)
      send_holds cpus = elim (is_taken message.mode) as (λ t. Holds w (if not t then ignore about BadMode else (see_each (reached_by message from cpus) >>= f))) [
        | true ↦ λ b ws fit. w.sees f (reached_by message from cpus) b ws (send_to_holds (processors_on b (reached_by message from cpus)) (named_by message from (processors_on b (reached_by message from cpus))) (seen_on b fit (reached_by message from cpus)) b ws fit)
        | false ↦ ignored about shown BadMode
      ]
        where
          f : List Processor → Plan TargetAnswer
          f processors = send_to message from about processors (named_by message from processors)

    -- such a place
    pub shows_by : {cpus : ℕ} (about : About) → ((other : Option TargetAnswer) → Holds w (show about other)) → Chooses about → Shows cpus about
    shows_by {cpus} about shown chosen = record { shown = shown; sends = λ message from. send_holds about shown chosen message from cpus }

  -- ---- signals

  -- what signals need of pins
  pub record Signals : Type 0 where
    pub accepts : (pin : ℕ) (b : Board) → w.Fit b → w.May b Ioapic (with_ioapic b.ioapic (pin_accepted (ioapic_of b.ioapic) pin))
    pub pic_leaves : (pin : ℕ) (source : Source) (b : Board) → w.Fit b → w.May b Pic (pic_let_go b.pic pin source)
    pub ioapic_leaves : (pin : ℕ) (source : Source) (b : Board) → w.Fit b → w.May b Ioapic (ioapic_let_go b.ioapic pin source)

  -- a source may hold the pins of these targets
  pub record MayRaise (targets : Targets) (source : Source) : Type 0 where
    pub pic : (pin : ℕ) → targets.pic ≡ Some pin → (b : Board) → w.Fit b → w.May b Pic (pic_raised b.pic pin source)
    pub ioapic : (pin : ℕ) → targets.ioapic ≡ Some pin → (b : Board) → w.Fit b → w.May b Ioapic (ioapic_raised b.ioapic pin source)

  module _ (cpus : ℕ) (s : Signals) where
    pub accept_pin_holds : (pin : ℕ) (t : Bool) → Holds w (accept_pin pin t)
    accept_pin_holds pin true = changed w Ioapic (λ part. with_ioapic part (pin_accepted (ioapic_of part) pin)) (s.accepts pin)
    accept_pin_holds pin false = ended w tt

    let_go_pic_holds : (pin : Option ℕ) (source : Source) → Holds w (let_go_pic pin source)
    let_go_pic_holds None source = ended w tt
    let_go_pic_holds (Some pin) source = changed w Pic (λ pic. pic_let_go pic pin source) (s.pic_leaves pin source)

    let_go_ioapic_holds : (pin : Option ℕ) (source : Source) → Holds w (let_go_ioapic pin source)
    let_go_ioapic_holds None source = ended w tt
    let_go_ioapic_holds (Some pin) source = changed w Ioapic (λ part. ioapic_let_go part pin source) (s.ioapic_leaves pin source)

    pub let_go_holds : (targets : Targets) (source : Source) → Holds w (let_go targets source)
    let_go_holds targets source = after w (let_go_pic targets.pic source) (let_go_ioapic targets.ioapic source) (let_go_pic_holds targets.pic source) (let_go_ioapic_holds targets.ioapic source)

    pub lower_holds : (targets : Targets) (source : Source) → Holds w (reply (Signal (lowered_status targets.pic targets.ioapic targets.msi))) → Holds w (lower targets source)
    lower_holds targets source answers = after w (let_go targets source) (reply (Signal (lowered_status targets.pic targets.ioapic targets.msi))) (let_go_holds targets source) answers

    pub let_go_after_holds : (targets : Targets) (source : Source) → Holds w (let_go_after targets source)
    let_go_after_holds targets Resample = ended w tt
    let_go_after_holds targets other = let_go_holds targets other

    shown_holds : (about : About) → Shows cpus about → (other : Option TargetAnswer) → Holds w (answer_shown about other)
    shown_holds about there other = after w (show about other) (done other) (there.shown other) (ended w other)

    answered_holds : (pin : ℕ) (about : About) → Shows cpus about → (raised : Raise) → Holds w (ioapic_answered cpus pin about raised)
    answered_holds pin about there Raise.Masked = shown_holds about there (Some (no_effect Masked))
    answered_holds pin about there Raise.Stood = shown_holds about there (Some stood_already)
    answered_holds pin about there (Raise.Send message) =
        bound w (λ answer. accept_pin pin (is_accepted message answer) >> done (Some answer)) (send cpus message None about) (there.sends message None)
        (λ answer. after w (accept_pin pin (is_accepted message answer)) (done (Some answer)) (accept_pin_holds pin (is_accepted message answer)) (ended w (Some answer)))

    module _ (targets : Targets) (source : Source) (may : MayRaise targets source) where
      pub raise_pic_holds : (pin : Option ℕ) → targets.pic ≡ pin → Holds w (raise_pic pin source)
      raise_pic_holds None is = ended w None
      raise_pic_holds (Some pin) is = written w Pic (λ pic. pic_raised pic pin source) (λ pic. done (Some (pic_answer (pin_outcome (pair_of pic) pin true)))) (may.pic pin is)
          (λ pic. ended w (Some (pic_answer (pin_outcome (pair_of pic) pin true))))

      raise_other_holds : (pin : Option ℕ) (msi : Option MsiWord) (about : About) → Shows cpus about → targets.ioapic ≡ pin → Holds w (raise_other cpus pin msi source about)
      raise_other_holds (Some pin) msi about there is = written w Ioapic (λ part. ioapic_raised part pin source) (λ part. ioapic_answered cpus pin about (raise_of (ioapic_of part) pin)) (may.ioapic pin is)
          (λ part. answered_holds pin about there (raise_of (ioapic_of part) pin))
      raise_other_holds None (Some word) about there is =
          bound w (λ answer. done (Some answer)) (send cpus (message_in word.address word.payload) None about) (there.sends (message_in word.address word.payload) None) (λ answer. ended w (Some answer))
      raise_other_holds None None about there is = shown_holds about there None

      module _ (about : Option TargetAnswer → About) (there : (pic : Option TargetAnswer) → Shows cpus (about pic)) where
        pub raise_holds : Holds w (raise cpus targets source about)
        raise_holds =
            bound w (λ pic. raise_other cpus targets.ioapic targets.msi source (about pic) >>= (λ other. done (status_of pic other nobody))) (raise_pic targets.pic source) (raise_pic_holds targets.pic refl)
            (λ pic. bound w (λ other. done (status_of pic other nobody)) (raise_other cpus targets.ioapic targets.msi source (about pic)) (raise_other_holds targets.ioapic targets.msi (about pic) (there pic) refl)
            (λ other. ended w (status_of pic other nobody)))

        pub inject_holds : Holds w (inject cpus targets source about)
        inject_holds =
            bound w (λ status. let_go_after targets source >> done status) (raise cpus targets source about) raise_holds
            (λ status. after w (let_go_after targets source) (done status) (let_go_after_holds targets source) (ended w status))

        -- a signal, and then nothing more
        pub inject_only : Holds w {A = Unit {0}} (inject cpus targets source about >>= (λ status. done tt))
        inject_only = bound w (λ status. done tt) (inject cpus targets source about) inject_holds (λ _. ended w tt)
