-- Sendings and signals keep to every manner that lets them show.
use Rattle.std.proofs.Common.{◌≡◌, ℕ, ◌<◌, Bool, true, false, not, ◌||◌, nat_eq, if◌then◌else◌, List, [], ◌∷◌, length, refl, sym, ap, ◌∙◌, arith, Some, None}
use Rattle.std.specs.declared.option.Option.{Option}
use Rattle.std.specs.FinSet as set
use Rattle.std.specs.FinSet.{contains-empty}
use Rattle.std.specs.Ordering.{nat_cmp}
use Rattle.irq_bits.specs.Members.{Numbers}
use Rattle.irq_bits.specs.SetLemmas.{contains-insert_number}
use Rattle.irq_base.specs.declared.message.Message.{Message}
use Rattle.irq_base.specs.declared.message.Mode.{Mode}
use Rattle.irq_base.specs.declared.message.Mode.TheVariants.{Fixed, Lowest, Smi, Nmi, Init, Startup, ExtInt, Reserved}
use Rattle.irq_base.specs.declared.message.MsiWord.{MsiWord}
use Rattle.irq_base.specs.declared.message.Source.{Source}
use Rattle.irq_base.specs.declared.message.Source.TheVariants.{Line, Pulse, Resample, Tick}
use Rattle.irq_base.specs.declared.message.Targets.{Targets}
use Rattle.irq_base.specs.declared.reply.Reply.TheVariants.{Signal}
use Rattle.irq_base.specs.declared.status.Cause.{Cause}
use Rattle.irq_base.specs.declared.status.Cause.TheVariants.{NoProcessor, BadVector, Mode as BadMode, Masked}
use Rattle.irq_base.specs.declared.status.Status.TheVariants.{Delivered, Coalesced, Ignored}
use Rattle.irq_base.specs.declared.shape.Part.TheVariants.{Lapic}
use Rattle.lapic.specs.declared.outcome.Shorthand.{Shorthand}
use Rattle.lapic.specs.Messages.{is_taken, accepted}
use Rattle.ioapic_82093aa.specs.declared.ioapic.Raise.{Raise}
use Rattle.ioapic_82093aa.specs.declared.ioapic.Raise.TheVariants as raises
use Rattle.ioapic_82093aa.specs.Pins.{raise_of}
use Rattle.msi_decode.specs.Messages.{message_in}
use Rattle.board_model.specs.Chips.{ioapic_of}
use Rattle.board_model.specs.Statuses.{nobody, is_empty, sets_of, TargetAnswer, status_of, message_answer, took, stands, first_cause, no_effect, stood_already}
use Rattle.board_model.specs.Plan.{About, injected, resent, ipi, the_reply, Plan, done, put, reply, ◌>>=◌, ◌>>◌}
use Rattle.board_model.specs.Following.{reached, IsSteady}
use Rattle.board_raise.specs.Named.{Processor, named_by, chosen_of, numbers_of, MayReach}
use Rattle.board_raise.specs.Send.{show, ignore, reached_by, see_each, parted, is_illegal, accept_each, deliver, refuse_vector, send_to, send}
use Rattle.board_raise.specs.Signal.{raise_pic, answer_shown, ioapic_answered, accept_pin, is_accepted, raise_other, raise, let_go_pic, let_go_ioapic, let_go, lowered_status, lower, let_go_after, inject}
use Rattle.board_raise.proofs.Manner.{Manner, shows_there, Keeps, keeps_bind, keeps_bind_steady}
use Rattle.board_raise.proofs.Choice.{wishes_choose_exactly}
use Rattle.board_raise.proofs.SendExactly.{all_reached}
use Rattle.board_raise.proofs.Steady.{sends_steadily}

-- ---- the chosen set is never empty

-- a set with a member
someone_in : (s : Numbers) (k : ℕ) → set.contains s k ≡ true → is_empty s ≡ false
someone_in s k h = elim (is_empty s) as (λ t. is_empty s ≡ t → t ≡ false) [
  | true ↦ λ none. let e : s ≡ set.empty = set.empty_of_len s (grind (none, arith)) in
      sym h ∙ ap (λ t. set.contains t k) e ∙ contains-empty nat_cmp k
  | false ↦ λ _. refl
] refl

inserted : (s : Numbers) (k : ℕ) → is_empty (set.insert s k) ≡ false
inserted s k = someone_in (set.insert s k) k (contains-insert_number s k k ∙ here (set.contains s k))
  where
    here : (t : Bool) → (nat_eq k k || t) ≡ true
    here t = grind arith

may_reach_someone : (mode : Mode) (p : Processor) (ps : List Processor) (s : Numbers) → MayReach mode (p ∷ ps) s → is_empty s ≡ false
may_reach_someone Lowest p ps s (k, q, below, at, one) = ap is_empty one.alone ∙ inserted set.empty q.number
may_reach_someone Fixed p ps s may = ap is_empty may ∙ inserted (numbers_of ps) p.number
may_reach_someone Smi p ps s may = ap is_empty may ∙ inserted (numbers_of ps) p.number
may_reach_someone Nmi p ps s may = ap is_empty may ∙ inserted (numbers_of ps) p.number
may_reach_someone Init p ps s may = ap is_empty may ∙ inserted (numbers_of ps) p.number
may_reach_someone Startup p ps s may = ap is_empty may ∙ inserted (numbers_of ps) p.number
may_reach_someone ExtInt p ps s may = ap is_empty may ∙ inserted (numbers_of ps) p.number
may_reach_someone Reserved p ps s may = ap is_empty may ∙ inserted (numbers_of ps) p.number

chosen_someone : (message : Message) (wish : Numbers) (p : Processor) (ps : List Processor) → is_empty (reached (parted message (chosen_of message.mode wish (p ∷ ps)))) ≡ false
chosen_someone message wish p ps =
    let some : 0 < length (p ∷ ps) = grind arith in
    let chosen = chosen_of message.mode wish (p ∷ ps) in
    ap is_empty (all_reached message chosen)
    ∙ may_reach_someone message.mode p ps (numbers_of chosen) ((wishes_choose_exactly message.mode (p ∷ ps) some).only wish)

-- ---- a status without a message sent

sets_none : (pic other : Option TargetAnswer) → sets_of (status_of pic other nobody) ≡ nobody
sets_none pic other = elim (took pic || took other) as (λ t. sets_of (if t then Delivered set.empty set.empty (took pic) else if stands pic || stands other then Coalesced set.empty else Ignored (first_cause pic other)) ≡ nobody) [
  | true ↦ refl
  | false ↦ elim (stands pic || stands other) as (λ t. sets_of (if t then Coalesced set.empty else Ignored (first_cause pic other)) ≡ nobody) [ true ↦ refl | false ↦ refl ]
]

module _ (w : Manner) where
  pub accept_pin_keeps : (pin : ℕ) (t : Bool) → Keeps w (accept_pin pin t)
  accept_pin_keeps pin true = λ v. (refl, tt)
  accept_pin_keeps pin false = tt

  show_keeps : (about : About) (other : Option TargetAnswer) → Keeps w (show about other)
  show_keeps (injected gsi pic) other = (sets_none pic other, tt)
  show_keeps (resent pin) other = (sets_none None other, tt)
  show_keeps ipi other = (sets_none None other, tt)
  show_keeps (the_reply pic) other = (record { sets = sets_none pic other; accepts = refl }, tt)

  ignore_keeps : (about : About) (cause : Cause) → Keeps w (ignore about cause)
  ignore_keeps about cause = keeps_bind w (λ _. done (no_effect cause)) (show about (Some (no_effect cause))) (show_keeps about (Some (no_effect cause))) (λ _. tt)

  see_keeps : (ns : List ℕ) → Keeps w (see_each ns)
  see_keeps [] = tt
  see_keeps (n ∷ ns) = λ v. keeps_bind w (λ rest. done (record { number = n; apic = v } ∷ rest)) (see_each ns) (see_keeps ns) (λ _. tt)

  accept_keeps : (message : Message) (takers : Numbers) (ps : List Processor) → Keeps w (accept_each message takers ps)
  accept_keeps message takers [] = tt
  accept_keeps message takers (p ∷ ps) = elim (set.contains takers p.number) as (λ t. Keeps w (if t then put (Lapic p.number) (accepted p.apic message) (accept_each message takers ps) else accept_each message takers ps)) [
    | true ↦ (refl, accept_keeps message takers ps)
    | false ↦ accept_keeps message takers ps
  ]

  -- ---- a sending

  module _ (about : About) (there : shows_there w about ≡ true) where
    module _ (message : Message) (from : Option (ℕ × Shorthand)) (processors : List Processor) where
      deliver_keeps : (p : Processor) (ps : List Processor) → IsSteady (deliver message from about processors (p ∷ ps)) → Keeps w (deliver message from about processors (p ∷ ps))
      deliver_keeps p ps s = (
        record { place = there; steady = s.0; somebody = λ wish. chosen_someone message wish p ps },
        λ sent. keeps_bind w (λ _. done (message_answer sent)) (accept_each message (reached sent) processors) (accept_keeps message (reached sent) processors) (λ _. tt),
      )

      send_to_keeps : (named : List Processor) → IsSteady (send_to message from about processors named) → Keeps w (send_to message from about processors named)
      send_to_keeps [] s = ignore_keeps about NoProcessor
      send_to_keeps (p ∷ ps) s = elim (is_illegal message) as (λ t. IsSteady (if t then refuse_vector message about processors (p ∷ ps) else deliver message from about processors (p ∷ ps)) → Keeps w (if t then refuse_vector message about processors (p ∷ ps) else deliver message from about processors (p ∷ ps))) [
        | true ↦ λ s. keeps_bind w (λ _. ignore about BadVector) (accept_each message (numbers_of (p ∷ ps)) processors) (accept_keeps message (numbers_of (p ∷ ps)) processors) (λ _. ignore_keeps about BadVector)
        | false ↦ deliver_keeps p ps
      ] s

    pub send_keeps : (cpus : ℕ) (message : Message) (from : Option (ℕ × Shorthand)) → Keeps w (send cpus message from about)
    send_keeps cpus message from = elim (is_taken message.mode) as (λ t. IsSteady (if not t then ignore about BadMode else (see_each (reached_by message from cpus) >>= f)) → Keeps w (if not t then ignore about BadMode else (see_each (reached_by message from cpus) >>= f))) [
      | true ↦ λ s. keeps_bind_steady w f (see_each (reached_by message from cpus)) (see_keeps (reached_by message from cpus)) s (λ ps. send_to_keeps message from ps (named_by message from ps))
      | false ↦ λ _. ignore_keeps about BadMode
    ] (sends_steadily cpus message from about)
      where
        f : List Processor → Plan TargetAnswer
        f processors = send_to message from about processors (named_by message from processors)

    -- ---- the pins

    shown_keeps : (other : Option TargetAnswer) → Keeps w (answer_shown about other)
    shown_keeps other = keeps_bind w (λ _. done other) (show about other) (show_keeps about other) (λ _. tt)

    answered_keeps : (cpus pin : ℕ) (answer : Raise) → Keeps w (ioapic_answered cpus pin about answer)
    answered_keeps cpus pin raises.Masked = shown_keeps (Some (no_effect Masked))
    answered_keeps cpus pin raises.Stood = shown_keeps (Some stood_already)
    answered_keeps cpus pin (raises.Send message) =
        keeps_bind w (λ answer. accept_pin pin (is_accepted message answer) >> done (Some answer)) (send cpus message None about) (send_keeps cpus message None)
        (λ answer. keeps_bind w (λ _. done (Some answer)) (accept_pin pin (is_accepted message answer)) (accept_pin_keeps pin (is_accepted message answer)) (λ _. tt))

    other_keeps : (cpus : ℕ) (ioapic : Option ℕ) (msi : Option MsiWord) (source : Source) → Keeps w (raise_other cpus ioapic msi source about)
    other_keeps cpus (Some pin) msi source = λ part. (refl, answered_keeps cpus pin (raise_of (ioapic_of part) pin))
    other_keeps cpus None (Some word) source =
        keeps_bind w (λ answer. done (Some answer)) (send cpus (message_in word.address word.payload) None about) (send_keeps cpus (message_in word.address word.payload) None) (λ _. tt)
    other_keeps cpus None None source = shown_keeps None

  -- ---- signals

  let_go_pic_keeps : (pin : Option ℕ) (source : Source) → Keeps w (let_go_pic pin source)
  let_go_pic_keeps None source = tt
  let_go_pic_keeps (Some pin) source = λ v. (refl, tt)

  let_go_ioapic_keeps : (pin : Option ℕ) (source : Source) → Keeps w (let_go_ioapic pin source)
  let_go_ioapic_keeps None source = tt
  let_go_ioapic_keeps (Some pin) source = λ v. (refl, tt)

  pub let_go_keeps : (targets : Targets) (source : Source) → Keeps w (let_go targets source)
  let_go_keeps targets source = keeps_bind w (λ _. let_go_ioapic targets.ioapic source) (let_go_pic targets.pic source) (let_go_pic_keeps targets.pic source) (λ _. let_go_ioapic_keeps targets.ioapic source)

  lowered_none : (pic ioapic : Option ℕ) (msi : Option MsiWord) → sets_of (lowered_status pic ioapic msi) ≡ nobody
  lowered_none None None None = refl
  lowered_none None None (Some word) = refl
  lowered_none None (Some pin) msi = refl
  lowered_none (Some pin) ioapic msi = refl

  pub lower_keeps : (targets : Targets) (source : Source) → Keeps w (lower targets source)
  lower_keeps targets source =
      keeps_bind w (λ _. reply (Signal (lowered_status targets.pic targets.ioapic targets.msi))) (let_go targets source) (let_go_keeps targets source)
      (λ _. (record { sets = lowered_none targets.pic targets.ioapic targets.msi; accepts = refl }, tt))

  let_go_after_keeps : (targets : Targets) (source : Source) → Keeps w (let_go_after targets source)
  let_go_after_keeps targets Resample = tt
  let_go_after_keeps targets (Line n) = let_go_keeps targets (Line n)
  let_go_after_keeps targets Pulse = let_go_keeps targets Pulse
  let_go_after_keeps targets Tick = let_go_keeps targets Tick

  raise_pic_keeps : (pin : Option ℕ) (source : Source) → Keeps w (raise_pic pin source)
  raise_pic_keeps None source = tt
  raise_pic_keeps (Some pin) source = λ v. (refl, tt)

  module _ (cpus : ℕ) (targets : Targets) (source : Source) (about : Option TargetAnswer → About) (there : (pic : Option TargetAnswer) → shows_there w (about pic) ≡ true) where
    pub raise_keeps : Keeps w (raise cpus targets source about)
    raise_keeps =
        keeps_bind w (λ pic. raise_other cpus targets.ioapic targets.msi source (about pic) >>= (λ other. done (status_of pic other nobody))) (raise_pic targets.pic source) (raise_pic_keeps targets.pic source)
        (λ pic. keeps_bind w (λ other. done (status_of pic other nobody)) (raise_other cpus targets.ioapic targets.msi source (about pic)) (other_keeps (about pic) (there pic) cpus targets.ioapic targets.msi source) (λ _. tt))

    pub inject_keeps : Keeps w (inject cpus targets source about)
    inject_keeps =
        keeps_bind w (λ status. let_go_after targets source >> done status) (raise cpus targets source about) raise_keeps
        (λ status. keeps_bind w (λ _. done status) (let_go_after targets source) (let_go_after_keeps targets source) (λ _. tt))
