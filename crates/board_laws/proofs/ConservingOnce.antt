-- A signal that shows as an injection tells that alone, once.
use Rattle.board_laws.proofs.Basics.{◌≡◌, ℕ, true, false, not, if◌then◌else◌, List, [], ◌∷◌, ◌++◌, refl, ap, ◌∙◌, Some, None, Option, Numbers, Injected, Message, MsiWord, Source, Targets, Ioapic, Lapic, Cause, NoProcessor, BadVector, BadMode, Masked, Status, Shorthand, Raise, is_taken, accepted, raise_of, message_in, ioapic_of, Board, with_part, Sent, nobody, TargetAnswer, status_of, status_sent, message_answer, no_effect, stood_already, Heading, injected, Plan, done, put, choose, ◌>>=◌, ◌>>◌, Wishes, next_wish, later_wishes, Outcome, run, reached, Processor, named_by, chosen_of, numbers_of, show, ignore, reached_by, see_each, parted, is_illegal, accept_each, deliver, refuse_vector, send_to, send, raise_pic, answer_shown, ioapic_raised, ioapic_answered, accept_pin, is_accepted, raise_other, raise, let_go_after, inject, run-bind, contains, Walk, Holds, Open, of_log, open_signals, open_raise, bound, let_go_after_holds, raise_pic_holds, accept_pin_holds, after_seen, processors_on, subst, sym}

-- nothing is told
abbrev silent : Walk
silent = of_log (λ l. l.events ≡ []) refl (λ a c h k i. h i ++ k i)

is_open : Open silent
is_open = record { counters = λ v b fit. tt; pic = λ v b fit. tt; ioapic = λ v b fit. tt; lapic = λ n v b fit. tt }

-- a plan tells no event
abbrev pub Silent : {A : Type 0} → Plan A → Type 0
Silent m = Holds silent m

-- a plan tells one injection of this GSI and no more
abbrev pub Injects : {A : Type 0} → ℕ → Plan A → Type 0
Injects gsi m = (b : Board) (ws : Wishes) → (status : Status) × ((run m b ws).log.events ≡ Injected gsi status ∷ [])

accept_silent : (message : Message) (takers : Numbers) (ps : List Processor) → Silent (accept_each message takers ps)
accept_silent message takers [] = λ b ws fit. refl
accept_silent message takers (p ∷ ps) = elim (contains takers p.number) as (λ t. Silent (if t then put (Lapic p.number) (accepted p.apic message) (accept_each message takers ps) else accept_each message takers ps)) [
  | true ↦ λ b ws fit. accept_silent message takers ps (with_part b (Lapic p.number) (accepted p.apic message)) ws tt
  | false ↦ accept_silent message takers ps
]

module _ (gsi : ℕ) where
  -- a plan and then another, the first silent
  injects_later : {A B : Type 0} (f : A → Plan B) (m : Plan A) → Silent m → ((a : A) → Injects gsi (f a)) → Injects gsi (m >>= f)
  injects_later {A} {B} f m first next = λ b ws.
      let o = run m b ws in
      let two = next o.value o.board o.wishes in
      (two.0, ap (λ (q : Outcome B). q.log.events) (run-bind f m b ws) ∙ (λ i. first b ws tt i ++ two.1 i))

  -- or the second
  pub injects_before : {A B : Type 0} (f : A → Plan B) (m : Plan A) → Injects gsi m → ((a : A) → Silent (f a)) → Injects gsi (m >>= f)
  injects_before {A} {B} f m first next = λ b ws.
      let o = run m b ws in
      let one = first b ws in
      (one.0, ap (λ (q : Outcome B). q.log.events) (run-bind f m b ws) ∙ (λ i. one.1 i ++ next o.value o.board o.wishes tt i))

  module _ (pic : Option TargetAnswer) where
    show_injects : (other : Option TargetAnswer) → Injects gsi (show (injected gsi pic) other)
    show_injects other = λ b ws. (status_of pic other nobody, refl)

    ignore_injects : (cause : Cause) → Injects gsi (ignore (injected gsi pic) cause)
    ignore_injects cause = injects_before (λ _. done (no_effect cause)) (show (injected gsi pic) (Some (no_effect cause))) (show_injects (Some (no_effect cause))) (λ _ b ws fit. refl)

    choose_injects : {A : Type 0} (m : Heading) (g : Numbers → Sent) (k : Sent → Plan A) → ((s : Sent) → Silent (k s)) → Injects gsi (choose m (injected gsi pic) g k)
    choose_injects m g k later = λ b ws.
        let s = g (next_wish ws) in
        (status_sent pic s, ap (λ l. Injected gsi (status_sent pic s) ∷ l) (later s b (later_wishes ws) tt))

    -- ---- a sending

    module _ (message : Message) (from : Option (ℕ × Shorthand)) (processors : List Processor) where
      deliver_injects : (named : List Processor) → Injects gsi (deliver message from (injected gsi pic) processors named)
      deliver_injects named =
          choose_injects (record { message = message; from = from }) (λ wish. parted message (chosen_of message.mode wish named)) (λ sent. accept_each message (reached sent) processors >> done (message_answer sent))
          (λ sent. bound silent (λ _. done (message_answer sent)) (accept_each message (reached sent) processors) (accept_silent message (reached sent) processors) (λ _ b ws fit. refl))

      send_to_injects : (named : List Processor) → Injects gsi (send_to message from (injected gsi pic) processors named)
      send_to_injects [] = ignore_injects NoProcessor
      send_to_injects (p ∷ ps) = elim (is_illegal message) as (λ t. Injects gsi (if t then refuse_vector message (injected gsi pic) processors (p ∷ ps) else deliver message from (injected gsi pic) processors (p ∷ ps))) [
        | true ↦ injects_later (λ _. ignore (injected gsi pic) BadVector) (accept_each message (numbers_of (p ∷ ps)) processors) (accept_silent message (numbers_of (p ∷ ps)) processors) (λ _. ignore_injects BadVector)
        | false ↦ deliver_injects (p ∷ ps)
      ]

    send_injects : (cpus : ℕ) (message : Message) (from : Option (ℕ × Shorthand)) → Injects gsi (send cpus message from (injected gsi pic))
    send_injects cpus message from = elim (is_taken message.mode) as (λ t. Injects gsi (if not t then ignore (injected gsi pic) BadMode else (see_each (reached_by message from cpus) >>= f))) [
      | true ↦ λ b ws. subst (λ (o : Outcome TargetAnswer). (status : Status) × (o.log.events ≡ Injected gsi status ∷ [])) (sym (after_seen f b (reached_by message from cpus) ws))
          (send_to_injects message from (processors_on b (reached_by message from cpus)) (named_by message from (processors_on b (reached_by message from cpus))) b ws)
      | false ↦ ignore_injects BadMode
    ]
      where
        f : List Processor → Plan TargetAnswer
        f processors = send_to message from (injected gsi pic) processors (named_by message from processors)

    -- ---- the pins

    shown_injects : (other : Option TargetAnswer) → Injects gsi (answer_shown (injected gsi pic) other)
    shown_injects other = injects_before (λ _. done other) (show (injected gsi pic) other) (show_injects other) (λ _ b ws fit. refl)

    answered_injects : (cpus pin : ℕ) (answer : Raise) → Injects gsi (ioapic_answered cpus pin (injected gsi pic) answer)
    answered_injects cpus pin Raise.Masked = shown_injects (Some (no_effect Masked))
    answered_injects cpus pin Raise.Stood = shown_injects (Some stood_already)
    answered_injects cpus pin (Raise.Send message) =
        injects_before (λ answer. accept_pin pin (is_accepted message answer) >> done (Some answer)) (send cpus message None (injected gsi pic)) (send_injects cpus message None)
        (λ answer. bound silent (λ _. done (Some answer)) (accept_pin pin (is_accepted message answer)) (accept_pin_holds silent cpus (open_signals silent is_open) pin (is_accepted message answer)) (λ _ b ws fit. refl))

    other_injects : (cpus : ℕ) (ioapic : Option ℕ) (msi : Option MsiWord) (source : Source) → Injects gsi (raise_other cpus ioapic msi source (injected gsi pic))
    other_injects cpus (Some pin) msi source = λ b ws. answered_injects cpus pin (raise_of (ioapic_of b.ioapic) pin) (with_part b Ioapic (ioapic_raised b.ioapic pin source)) ws
    other_injects cpus None (Some word) source =
        injects_before (λ answer. done (Some answer)) (send cpus (message_in word.address word.payload) None (injected gsi pic)) (send_injects cpus (message_in word.address word.payload) None) (λ _ b ws fit. refl)
    other_injects cpus None None source = shown_injects None

  -- ---- signals

  module _ (cpus : ℕ) (targets : Targets) (source : Source) where
    raise_injects : Injects gsi (raise cpus targets source (λ pic. injected gsi pic))
    raise_injects =
        injects_later (λ pic. raise_other cpus targets.ioapic targets.msi source (injected gsi pic) >>= (λ other. done (status_of pic other nobody))) (raise_pic targets.pic source) (raise_pic_holds silent cpus (open_signals silent is_open) targets source (open_raise silent is_open targets source) targets.pic refl)
        (λ pic. injects_before (λ other. done (status_of pic other nobody)) (raise_other cpus targets.ioapic targets.msi source (injected gsi pic)) (other_injects pic cpus targets.ioapic targets.msi source) (λ _ b ws fit. refl))

    -- an injection shows once
    pub inject_injects : Injects gsi (inject cpus targets source (λ pic. injected gsi pic))
    inject_injects =
        injects_before (λ status. let_go_after targets source >> done status) (raise cpus targets source (λ pic. injected gsi pic)) raise_injects
        (λ status. bound silent (λ _. done status) (let_go_after targets source) (let_go_after_holds silent cpus (open_signals silent is_open) targets source) (λ _ b ws fit. refl))
