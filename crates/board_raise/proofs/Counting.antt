-- How many events and answers a plan tells: at most so many events, and exactly so many answers, on every board of a kind.
use Rattle.std.proofs.Common.{◌≡◌, ℕ, suc, ◌+◌, ◌≤◌, Bool, true, false, not, if◌then◌else◌, List, [], ◌∷◌, length, refl, sym, ap, ◌∙◌, subst, arith, length-append, Some, None}
use Rattle.std.specs.declared.option.Option.{Option}
use Rattle.std.specs.FinSet as set
use Rattle.irq_bits.specs.Members.{Numbers}
use Rattle.irq_base.specs.declared.message.Message.{Message}
use Rattle.irq_base.specs.declared.message.MsiWord.{MsiWord}
use Rattle.irq_base.specs.declared.message.Source.{Source}
use Rattle.irq_base.specs.declared.message.Source.TheVariants.{Line, Pulse, Resample, Tick}
use Rattle.irq_base.specs.declared.message.Targets.{Targets}
use Rattle.irq_base.specs.declared.reply.Reply.TheVariants.{Signal}
use Rattle.irq_base.specs.declared.shape.Part.{Part}
use Rattle.irq_base.specs.declared.shape.Part.TheVariants.{Registry, Pic, Ioapic, Lapic}
use Rattle.irq_base.specs.declared.status.Cause.{Cause}
use Rattle.irq_base.specs.declared.status.Cause.TheVariants.{NoProcessor, BadVector, Mode as BadMode, Masked}
use Rattle.ioapic_82093aa.specs.declared.ioapic.Raise.{Raise}
use Rattle.ioapic_82093aa.specs.declared.ioapic.Raise.TheVariants as raises
use Rattle.ioapic_82093aa.specs.Pins.{raise_of, pin_accepted}
use Rattle.lapic.specs.declared.outcome.Shorthand.{Shorthand}
use Rattle.lapic.specs.Messages.{is_taken, accepted}
use Rattle.msi_decode.specs.Messages.{message_in}
use Rattle.board_model.specs.Board.{ValueOf, Board, part_of, with_part, is_same}
use Rattle.board_model.specs.Chips.{ioapic_of, with_ioapic}
use Rattle.board_model.specs.Statuses.{Sent, nobody, TargetAnswer, no_effect, stood_already, message_answer, status_of}
use Rattle.board_model.specs.Plan.{Heading, About, injected, resent, ipi, the_reply, Plan, done, put, choose, reply, ◌>>=◌, ◌>>◌}
use Rattle.board_model.specs.Run.{Wishes, next_wish, later_wishes, Outcome, run}
use Rattle.board_model.specs.Following.{reached}
use Rattle.board_model.proofs.Sequence.{run-bind}
use Rattle.board_raise.specs.Named.{Processor, named_by, chosen_of, numbers_of}
use Rattle.board_raise.specs.Send.{show, ignore, reached_by, see_each, parted, is_illegal, accept_each, deliver, refuse_vector, send_to, send}
use Rattle.board_raise.specs.Signal.{pic_raised, raise_pic, ioapic_raised, answer_shown, ioapic_answered, accept_pin, is_accepted, raise_other, raise, pic_let_go, let_go_pic, ioapic_let_go, let_go_ioapic, let_go, lowered_status, lower, let_go_after, inject}

-- an outcome tells at most so many events and exactly so many answers, and leaves a board of the kind
pub record Told {A : Type 0} (Kind : Board → Type 0) (events answers : ℕ) (o : Outcome A) : Type 0 where
  pub events_at_most : length o.log.events ≤ events
  pub answers_exactly : length o.log.answers ≡ answers
  pub left : Kind o.board

-- so it is of a plan on every board of the kind, under all wishes
abbrev pub Tells : {A : Type 0} → (Board → Type 0) → ℕ → ℕ → Plan A → Type 0
Tells Kind events answers m = (b : Board) (ws : Wishes) → Kind b → Told Kind events answers (run m b ws)

-- a sending shows in one event, but where it shows in the reply
abbrev pub events_for : About → ℕ
events_for (the_reply pic) = 0
events_for _ = 1

-- a sending shows in no answer, but where it shows in the reply
abbrev pub answers_for : About → ℕ
answers_for (the_reply pic) = 1
answers_for _ = 0

-- a kind of board that no write but one of the registry leaves
abbrev pub IsKind : (Board → Type 0) → Type 0
IsKind Kind = (b : Board) (p : Part) (v : ValueOf p) → is_same p Registry ≡ false → Kind b → Kind (with_part b p v)

module _ (Kind : Board → Type 0) where
  -- a plan and then another tell what both tell
  pub tells_both : {A B : Type 0} (i j k l : ℕ) (f : A → Plan B) (m : Plan A) → Tells Kind i k m → ((a : A) → Tells Kind j l (f a)) → Tells Kind (i + j) (k + l) (m >>= f)
  tells_both {A} {B} i j k l f m first next = λ b ws h.
      let o = run m b ws in
      let one : Told Kind i k o = first b ws h in
      let two : Told Kind j l (run (f o.value) o.board o.wishes) = next o.value o.board o.wishes one.left in
      subst (λ (x : Outcome B). Told Kind (i + j) (k + l) x) (sym (run-bind f m b ws)) (record {
        events_at_most = omega (arith, length-append o.log.events (run (f o.value) o.board o.wishes).log.events, one.events_at_most, two.events_at_most);
        answers_exactly = omega (arith, length-append o.log.answers (run (f o.value) o.board o.wishes).log.answers, one.answers_exactly, two.answers_exactly);
        left = two.left;
      })

  -- one that tells more
  pub tells_more : {A : Type 0} (i j k l : ℕ) (m : Plan A) → i ≤ j → k ≡ l → Tells Kind i k m → Tells Kind j l m
  tells_more i j k l m less same t = λ b ws h.
      let one = t b ws h in
      record { events_at_most = omega (arith, one.events_at_most); answers_exactly = one.answers_exactly ∙ same; left = one.left }

  -- the first of two plans is silent
  pub tells_later : {A B : Type 0} (j l : ℕ) (f : A → Plan B) (m : Plan A) → Tells Kind 0 0 m → ((a : A) → Tells Kind j l (f a)) → Tells Kind j l (m >>= f)
  tells_later j l f m first next = tells_more (0 + j) j (0 + l) l (m >>= f) (omega arith) (omega arith) (tells_both 0 j 0 l f m first next)

  -- the second is silent
  pub tells_before : {A B : Type 0} (i k : ℕ) (f : A → Plan B) (m : Plan A) → Tells Kind i k m → ((a : A) → Tells Kind 0 0 (f a)) → Tells Kind i k (m >>= f)
  tells_before i k f m first next = tells_more (i + 0) i (k + 0) k (m >>= f) (omega arith) (omega arith) (tells_both i 0 k 0 f m first next)

  -- an end is silent
  pub done_tells : {A : Type 0} (a : A) → Tells Kind 0 0 (done a)
  done_tells a = λ b ws h. record { events_at_most = omega arith; answers_exactly = refl; left = h }

  -- ---- a sending

  -- a choice shows where its sending does
  choose_tells : {A : Type 0} (m : Heading) (g : Numbers → Sent) (k : Sent → Plan A) (about : About) → ((s : Sent) → Tells Kind 0 0 (k s)) → Tells Kind (events_for about) (answers_for about) (choose m about g k)
  choose_tells m g k (injected gsi pic) later = λ b ws h.
      let r = later (g (next_wish ws)) b (later_wishes ws) h in
      record { events_at_most = omega (arith, r.events_at_most); answers_exactly = r.answers_exactly; left = r.left }
  choose_tells m g k (resent pin) later = λ b ws h.
      let r = later (g (next_wish ws)) b (later_wishes ws) h in
      record { events_at_most = omega (arith, r.events_at_most); answers_exactly = r.answers_exactly; left = r.left }
  choose_tells m g k ipi later = λ b ws h.
      let r = later (g (next_wish ws)) b (later_wishes ws) h in
      record { events_at_most = omega (arith, r.events_at_most); answers_exactly = r.answers_exactly; left = r.left }
  choose_tells m g k (the_reply pic) later = λ b ws h.
      let r = later (g (next_wish ws)) b (later_wishes ws) h in
      record { events_at_most = r.events_at_most; answers_exactly = ap suc r.answers_exactly; left = r.left }

  show_tells : (about : About) (other : Option TargetAnswer) → Tells Kind (events_for about) (answers_for about) (show about other)
  show_tells (injected gsi pic) other = λ b ws h. record { events_at_most = omega arith; answers_exactly = refl; left = h }
  show_tells (resent pin) other = λ b ws h. record { events_at_most = omega arith; answers_exactly = refl; left = h }
  show_tells ipi other = λ b ws h. record { events_at_most = omega arith; answers_exactly = refl; left = h }
  show_tells (the_reply pic) other = λ b ws h. record { events_at_most = omega arith; answers_exactly = refl; left = h }

  ignore_tells : (about : About) (cause : Cause) → Tells Kind (events_for about) (answers_for about) (ignore about cause)
  ignore_tells about cause = tells_before (events_for about) (answers_for about) (λ _. done (no_effect cause)) (show about (Some (no_effect cause))) (show_tells about (Some (no_effect cause))) (λ _. done_tells (no_effect cause))

  see_tells : (ns : List ℕ) → Tells Kind 0 0 (see_each ns)
  see_tells [] = done_tells []
  see_tells (n ∷ ns) = λ b ws h.
      tells_later 0 0 (λ rest. done (record { number = n; apic = part_of b (Lapic n) } ∷ rest)) (see_each ns) (see_tells ns) (λ rest. done_tells (record { number = n; apic = part_of b (Lapic n) } ∷ rest)) b ws h

  module _ (kind : IsKind Kind) where
    accept_tells : (message : Message) (takers : Numbers) (ps : List Processor) → Tells Kind 0 0 (accept_each message takers ps)
    accept_tells message takers [] = done_tells tt
    accept_tells message takers (p ∷ ps) = elim (set.contains takers p.number) as (λ t. Tells Kind 0 0 (if t then put (Lapic p.number) (accepted p.apic message) (accept_each message takers ps) else accept_each message takers ps)) [
      | true ↦ λ b ws h. accept_tells message takers ps (with_part b (Lapic p.number) (accepted p.apic message)) ws (kind b (Lapic p.number) (accepted p.apic message) refl h)
      | false ↦ accept_tells message takers ps
    ]

    pub accept_pin_tells : (pin : ℕ) (t : Bool) → Tells Kind 0 0 (accept_pin pin t)
    accept_pin_tells pin true = λ b ws h.
        let part = with_ioapic b.ioapic (pin_accepted (ioapic_of b.ioapic) pin) in
        done_tells tt (with_part b Ioapic part) ws (kind b Ioapic part refl h)
    accept_pin_tells pin false = done_tells tt

    module _ (about : About) where
      module _ (message : Message) (from : Option (ℕ × Shorthand)) (processors : List Processor) where
        deliver_tells : (named : List Processor) → Tells Kind (events_for about) (answers_for about) (deliver message from about processors named)
        deliver_tells named =
            choose_tells (record { message = message; from = from }) (λ wish. parted message (chosen_of message.mode wish named)) (λ sent. accept_each message (reached sent) processors >> done (message_answer sent)) about
            (λ sent. tells_later 0 0 (λ _. done (message_answer sent)) (accept_each message (reached sent) processors) (accept_tells message (reached sent) processors) (λ _. done_tells (message_answer sent)))

        send_to_tells : (named : List Processor) → Tells Kind (events_for about) (answers_for about) (send_to message from about processors named)
        send_to_tells [] = ignore_tells about NoProcessor
        send_to_tells (p ∷ ps) = elim (is_illegal message) as (λ t. Tells Kind (events_for about) (answers_for about) (if t then refuse_vector message about processors (p ∷ ps) else deliver message from about processors (p ∷ ps))) [
          | true ↦ tells_later (events_for about) (answers_for about) (λ _. ignore about BadVector) (accept_each message (numbers_of (p ∷ ps)) processors) (accept_tells message (numbers_of (p ∷ ps)) processors) (λ _. ignore_tells about BadVector)
          | false ↦ deliver_tells (p ∷ ps)
        ]

      -- a sending shows once
      pub send_tells : (cpus : ℕ) (message : Message) (from : Option (ℕ × Shorthand)) → Tells Kind (events_for about) (answers_for about) (send cpus message from about)
      send_tells cpus message from = elim (is_taken message.mode) as (λ t. Tells Kind (events_for about) (answers_for about) (if not t then ignore about BadMode else (see_each (reached_by message from cpus) >>= f))) [
        | true ↦ tells_later (events_for about) (answers_for about) f (see_each (reached_by message from cpus)) (see_tells (reached_by message from cpus)) (λ ps. send_to_tells message from ps (named_by message from ps))
        | false ↦ ignore_tells about BadMode
      ]
        where
          f : List Processor → Plan TargetAnswer
          f processors = send_to message from about processors (named_by message from processors)

      -- ---- the pins

      shown_tells : (other : Option TargetAnswer) → Tells Kind (events_for about) (answers_for about) (answer_shown about other)
      shown_tells other = tells_before (events_for about) (answers_for about) (λ _. done other) (show about other) (show_tells about other) (λ _. done_tells other)

      answered_tells : (cpus pin : ℕ) (answer : Raise) → Tells Kind (events_for about) (answers_for about) (ioapic_answered cpus pin about answer)
      answered_tells cpus pin raises.Masked = shown_tells (Some (no_effect Masked))
      answered_tells cpus pin raises.Stood = shown_tells (Some stood_already)
      answered_tells cpus pin (raises.Send message) =
          tells_before (events_for about) (answers_for about) (λ answer. accept_pin pin (is_accepted message answer) >> done (Some answer)) (send cpus message None about) (send_tells cpus message None)
          (λ answer. tells_later 0 0 (λ _. done (Some answer)) (accept_pin pin (is_accepted message answer)) (accept_pin_tells pin (is_accepted message answer)) (λ _. done_tells (Some answer)))

      other_tells : (cpus : ℕ) (ioapic : Option ℕ) (msi : Option MsiWord) (source : Source) → Tells Kind (events_for about) (answers_for about) (raise_other cpus ioapic msi source about)
      other_tells cpus (Some pin) msi source = λ b ws h.
          answered_tells cpus pin (raise_of (ioapic_of b.ioapic) pin) (with_part b Ioapic (ioapic_raised b.ioapic pin source)) ws (kind b Ioapic (ioapic_raised b.ioapic pin source) refl h)
      other_tells cpus None (Some word) source =
          tells_before (events_for about) (answers_for about) (λ answer. done (Some answer)) (send cpus (message_in word.address word.payload) None about) (send_tells cpus (message_in word.address word.payload) None) (λ answer. done_tells (Some answer))
      other_tells cpus None None source = shown_tells None

    -- ---- signals

    let_go_pic_tells : (pin : Option ℕ) (source : Source) → Tells Kind 0 0 (let_go_pic pin source)
    let_go_pic_tells None source = done_tells tt
    let_go_pic_tells (Some pin) source = λ b ws h. done_tells tt (with_part b Pic (pic_let_go b.pic pin source)) ws (kind b Pic (pic_let_go b.pic pin source) refl h)

    let_go_ioapic_tells : (pin : Option ℕ) (source : Source) → Tells Kind 0 0 (let_go_ioapic pin source)
    let_go_ioapic_tells None source = done_tells tt
    let_go_ioapic_tells (Some pin) source = λ b ws h. done_tells tt (with_part b Ioapic (ioapic_let_go b.ioapic pin source)) ws (kind b Ioapic (ioapic_let_go b.ioapic pin source) refl h)

    pub let_go_tells : (targets : Targets) (source : Source) → Tells Kind 0 0 (let_go targets source)
    let_go_tells targets source = tells_later 0 0 (λ _. let_go_ioapic targets.ioapic source) (let_go_pic targets.pic source) (let_go_pic_tells targets.pic source) (λ _. let_go_ioapic_tells targets.ioapic source)

    -- a signal that is lowered answers its status
    pub lower_tells : (targets : Targets) (source : Source) → Tells Kind 0 1 (lower targets source)
    lower_tells targets source =
        tells_later 0 1 (λ _. reply (Signal (lowered_status targets.pic targets.ioapic targets.msi))) (let_go targets source) (let_go_tells targets source)
        (λ _ b ws h. record { events_at_most = omega arith; answers_exactly = refl; left = h })

    let_go_after_tells : (targets : Targets) (source : Source) → Tells Kind 0 0 (let_go_after targets source)
    let_go_after_tells targets Resample = done_tells tt
    let_go_after_tells targets (Line n) = let_go_tells targets (Line n)
    let_go_after_tells targets Pulse = let_go_tells targets Pulse
    let_go_after_tells targets Tick = let_go_tells targets Tick

    raise_pic_tells : (pin : Option ℕ) (source : Source) → Tells Kind 0 0 (raise_pic pin source)
    raise_pic_tells None source = done_tells None
    raise_pic_tells (Some pin) source = λ b ws h. record { events_at_most = omega arith; answers_exactly = refl; left = kind b Pic (pic_raised b.pic pin source) refl h }

    module _ (cpus : ℕ) (targets : Targets) (source : Source) (about : Option TargetAnswer → About) (i k : ℕ) (in_events : (pic : Option TargetAnswer) → events_for (about pic) ≡ i) (in_answers : (pic : Option TargetAnswer) → answers_for (about pic) ≡ k) where
      -- a signal that is raised shows once
      pub raise_tells : Tells Kind i k (raise cpus targets source about)
      raise_tells =
          tells_later i k (λ pic. raise_other cpus targets.ioapic targets.msi source (about pic) >>= (λ other. done (status_of pic other nobody))) (raise_pic targets.pic source) (raise_pic_tells targets.pic source)
          (λ pic. tells_before i k (λ other. done (status_of pic other nobody)) (raise_other cpus targets.ioapic targets.msi source (about pic))
          (tells_more (events_for (about pic)) i (answers_for (about pic)) k (raise_other cpus targets.ioapic targets.msi source (about pic)) (omega (arith, in_events pic)) (in_answers pic) (other_tells (about pic) cpus targets.ioapic targets.msi source))
          (λ other. done_tells (status_of pic other nobody)))

      -- so does one that is injected
      pub inject_tells : Tells Kind i k (inject cpus targets source about)
      inject_tells =
          tells_before i k (λ status. let_go_after targets source >> done status) (raise cpus targets source about) raise_tells
          (λ status. tells_later 0 0 (λ _. done status) (let_go_after targets source) (let_go_after_tells targets source) (λ _. done_tells status))
