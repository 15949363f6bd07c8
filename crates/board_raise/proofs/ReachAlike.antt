-- Boards that are alike to later sendings: which processors a message is given to makes no difference to what is reached.
use Rattle.std.proofs.Common.{◌≡◌, ℕ, zero, suc, Bool, true, false, cond, not, nat_lt, if◌then◌else◌, List, [], ◌∷◌, slice_get, slice_set, unwrap_or, refl, sym, ap, ◌∙◌, subst, true≢false, Some, None}
use Rattle.std.specs.declared.option.Option.{Option}
use Rattle.std.specs.FinSet as set
use Rattle.irq_bits.specs.Members.{Numbers}
use Rattle.irq_base.specs.declared.message.Message.{Message}
use Rattle.irq_base.specs.declared.message.MsiWord.{MsiWord}
use Rattle.irq_base.specs.declared.message.Source.{Source}
use Rattle.irq_base.specs.declared.message.Source.TheVariants as sources
use Rattle.irq_base.specs.declared.message.Targets.{Targets}
use Rattle.irq_base.specs.declared.shape.Part.TheVariants.{Pic, Ioapic, Lapic, Counters, Tick}
use Rattle.irq_base.specs.declared.status.Cause.{Cause}
use Rattle.irq_base.specs.declared.status.Cause.TheVariants.{NoProcessor, BadVector, Mode as BadMode}
use Rattle.ioapic_82093aa.specs.declared.ioapic.Raise.{Raise}
use Rattle.ioapic_82093aa.specs.declared.ioapic.Raise.TheVariants as raises
use Rattle.ioapic_82093aa.specs.Pins.{raise_of, pin_accepted}
use Rattle.lapic.specs.declared.outcome.Shorthand.{Shorthand}
use Rattle.lapic.specs.declared.outcome.Shorthand.TheVariants.{Field, OwnOnly, All, Others}
use Rattle.lapic.specs.Registers.{LocalApic, power_on, is_enabled}
use Rattle.lapic.specs.Messages.{is_nmi, is_taken, accepted, with_error, with_request}
use Rattle.msi_decode.specs.Messages.{message_in}
use Rattle.tick_reinject.specs.declared.state.TickState.{TickState}
use Rattle.board_model.specs.Board.{Board, part_of, with_part}
use Rattle.board_model.specs.Chips.{PicPart, IoapicPart, ioapic_of, with_ioapic}
use Rattle.board_model.specs.Statuses.{Sent, TargetAnswer, newly_taken, stood_already, no_effect, message_answer, is_empty}
use Rattle.board_model.specs.Plan.{About, injected, resent, ipi, the_reply, Plan, done, put, ◌>>=◌, ◌>>◌}
use Rattle.board_model.specs.Run.{Wishes, Outcome, next_wish, later_wishes, run, then_run}
use Rattle.board_model.specs.Following.{reached}
use Rattle.board_model.proofs.Sequence.{run-bind}
use Rattle.board_raise.specs.Named.{Processor, is_named, named_by, chosen_of, numbers_of}
use Rattle.board_raise.specs.Send.{ignore, reached_by, see_each, parted, is_illegal, accept_each, deliver, refuse_vector, send_to, send}
use Rattle.board_raise.specs.Signal.{is_accepted, accept_pin, answer_shown, ioapic_answered, ioapic_raised, raise_pic, raise_other, raise, ioapic_let_go, let_go_pic, let_go_ioapic, let_go, let_go_after, inject}
use Rattle.board_raise.specs.Laws.{processors_on}
use Rattle.board_raise.proofs.SendExactly.{after_seen}

-- ---- local APICs that the same messages name

-- what of a local APIC tells which messages name its processor: its number, SVR, LDR and DFR
abbrev pub heard_of : LocalApic → ℕ × ℕ × ℕ × ℕ
heard_of a = (a.number, a.registers.svr, a.registers.ldr, a.registers.dfr)

abbrev is_named_by : Message → Option (ℕ × Shorthand) → ℕ → (ℕ × ℕ × ℕ × ℕ) → Bool
is_named_by message from n heard = is_named message from (record {
  number = n;
  apic = record {
    number = heard.0;
    irr = set.empty;
    isr = set.empty;
    tmr = set.empty;
    nmi = false;
    registers = record { tpr = 0; ldr = heard.2; dfr = heard.3; svr = heard.1; esr = 0; errors = 0; icr_low = 0; icr_high = 0; lint0 = 0; lint1 = 0 };
  };
})

named_by_heard : (message : Message) (from : Option (ℕ × Shorthand)) (n : ℕ) (a : LocalApic) → is_named message from (record { number = n; apic = a }) ≡ is_named_by message from n (heard_of a)
named_by_heard message None n a = refl
named_by_heard message (Some (sender, Field)) n a = refl
named_by_heard message (Some (sender, OwnOnly)) n a = refl
named_by_heard message (Some (sender, All)) n a = refl
named_by_heard message (Some (sender, Others)) n a = refl

named_alike : (message : Message) (from : Option (ℕ × Shorthand)) (n : ℕ) (a o : LocalApic) → heard_of a ≡ heard_of o → is_named message from (record { number = n; apic = a }) ≡ is_named message from (record { number = n; apic = o })
named_alike message from n a o same = named_by_heard message from n a ∙ ap (is_named_by message from n) same ∙ sym (named_by_heard message from n o)

-- a message that is accepted leaves it
accepted_heard : (a : LocalApic) (m : Message) → heard_of (accepted a m) ≡ heard_of a
accepted_heard a m = by_tests (is_nmi m.mode) (not (is_enabled a)) (nat_lt m.vector 16)
  where
    by_tests : (nmi disabled low : Bool) → heard_of (if nmi then record a { nmi = true } else if disabled then a else if low then with_error a 6 else with_request a m) ≡ heard_of a
    by_tests true disabled low = refl
    by_tests false true low = refl
    by_tests false false true = refl
    by_tests false false false = refl

-- ---- boards that are alike

-- two boards are alike: the same registrations and I/O APIC, ticks pending alike, and local APICs that the same messages name
pub record Alike (b c : Board) : Type 0 where
  pub registry : b.registry ≡ c.registry
  pub reinjects : b.tick.reinjects ≡ c.tick.reinjects
  pub pending : b.tick.pending ≡ c.tick.pending
  pub ioapic : b.ioapic ≡ c.ioapic
  pub heard : (n : ℕ) → heard_of (part_of b (Lapic n)) ≡ heard_of (part_of c (Lapic n))

pub alike_itself : (b : Board) → Alike b b
alike_itself b = record { registry = refl; reinjects = refl; pending = refl; ioapic = refl; heard = λ n. refl }

pub alike_back : {b c : Board} → Alike b c → Alike c b
alike_back h = record { registry = sym h.registry; reinjects = sym h.reinjects; pending = sym h.pending; ioapic = sym h.ioapic; heard = λ n. sym (h.heard n) }

pub alike_on : {b c d : Board} → Alike b c → Alike c d → Alike b d
alike_on h k = record { registry = h.registry ∙ k.registry; reinjects = h.reinjects ∙ k.reinjects; pending = h.pending ∙ k.pending; ioapic = h.ioapic ∙ k.ioapic; heard = λ n. h.heard n ∙ k.heard n }

-- ---- writes to boards that are alike

module _ {b c : Board} (h : Alike b c) where
  pub alike_counters : (v w : List ℕ) → Alike (with_part b Counters v) (with_part c Counters w)
  alike_counters v w = record { registry = h.registry; reinjects = h.reinjects; pending = h.pending; ioapic = h.ioapic; heard = h.heard }

  pub alike_pic : (v w : PicPart) → Alike (with_part b Pic v) (with_part c Pic w)
  alike_pic v w = record { registry = h.registry; reinjects = h.reinjects; pending = h.pending; ioapic = h.ioapic; heard = h.heard }

  pub alike_ioapic : (v w : IoapicPart) → v ≡ w → Alike (with_part b Ioapic v) (with_part c Ioapic w)
  alike_ioapic v w same = record { registry = h.registry; reinjects = h.reinjects; pending = h.pending; ioapic = same; heard = h.heard }

  pub alike_tick : (v w : TickState) → v.reinjects ≡ w.reinjects → v.pending ≡ w.pending → Alike (with_part b Tick v) (with_part c Tick w)
  alike_tick v w reinjects pending = record { registry = h.registry; reinjects = reinjects; pending = pending; ioapic = h.ioapic; heard = h.heard }

set_heard : (xs : List LocalApic) (i j : ℕ) (v d e : LocalApic) → heard_of v ≡ heard_of (unwrap_or (slice_get xs i) d) → heard_of (unwrap_or (slice_get (slice_set xs i v) j) e) ≡ heard_of (unwrap_or (slice_get xs j) e)
set_heard [] i j v d e same = refl
set_heard (x ∷ xs) zero zero v d e same = same
set_heard (x ∷ xs) zero (suc j) v d e same = refl
set_heard (x ∷ xs) (suc i) zero v d e same = refl
set_heard (x ∷ xs) (suc i) (suc j) v d e same = set_heard xs i j v d e same

-- a local APIC that the same messages name as before
pub alike_lapic : (b : Board) (n : ℕ) (v : LocalApic) → heard_of v ≡ heard_of (part_of b (Lapic n)) → Alike (with_part b (Lapic n) v) b
alike_lapic b n v same = record { registry = refl; reinjects = refl; pending = refl; ioapic = refl; heard = λ m. set_heard b.lapics n m v (power_on n) (power_on m) same }

-- ---- plans that run alike

-- two outcomes end alike: values related by V, and boards alike
pub record EndsAlike {A B : Type 0} (V : A → B → Type 0) (o : Outcome A) (u : Outcome B) : Type 0 where
  pub value : V o.value u.value
  pub boards : Alike o.board u.board

-- on boards that are alike, and under all wishes, two plans end alike
abbrev pub RunAlike : {A B : Type 0} → (A → B → Type 0) → Plan A → Plan B → Type 0
RunAlike V m n = (b c : Board) (ws vs : Wishes) → Alike b c → EndsAlike V (run m b ws) (run n c vs)

abbrev pub Whatever : {A B : Type 0} → A → B → Type 0
Whatever x y = Unit {0}

module _ {A B C D : Type 0} (V : A → B → Type 0) (W : C → D → Type 0) (f : A → Plan C) (g : B → Plan D) (m : Plan A) (n : Plan B) where
  pub alike-bind : RunAlike V m n → ((x : A) (y : B) → V x y → RunAlike W (f x) (g y)) → RunAlike W (m >>= f) (n >>= g)
  alike-bind first later b c ws vs h =
      let o = first b c ws vs h in
      let u = later (run m b ws).value (run n c vs).value o.value (run m b ws).board (run n c vs).board (run m b ws).wishes (run n c vs).wishes o.boards in
      subst (λ x. EndsAlike W x (run (n >>= g) c vs)) (sym (run-bind f m b ws))
      (subst (λ y. EndsAlike W (then_run (run m b ws) f) y) (sym (run-bind g n c vs)) (record { value = u.value; boards = u.boards }))

-- a plan leaves a board that is alike to the one before
abbrev Keeps : {A : Type 0} → Plan A → Type 0
Keeps m = (b : Board) (ws : Wishes) → Alike (run m b ws).board b

from_kept : {A B : Type 0} (m : Plan A) (n : Plan B) → Keeps m → Keeps n → RunAlike Whatever m n
from_kept m n left right b c ws vs h = record { value = tt; boards = alike_on (left b ws) (alike_on h (alike_back (right c vs))) }

pub done_alike : {A B : Type 0} (x : A) (y : B) → RunAlike Whatever (done x) (done y)
done_alike x y b c ws vs h = record { value = tt; boards = h }

-- ---- a message is sent

-- the cause why an answer has no effect, if it has none
abbrev settled : TargetAnswer → Option Cause
settled newly_taken = None
settled stood_already = None
settled (no_effect cause) = Some cause

-- both have no effect from the same cause, or both have one
abbrev pub SameCause : TargetAnswer → TargetAnswer → Type 0
SameCause x y = settled x ≡ settled y

-- the cause why a message has no effect on these named processors
cause_of : Message → List Processor → Option Cause
cause_of message [] = Some NoProcessor
cause_of message (p ∷ ps) = if is_illegal message then Some BadVector else None

-- each of the processors hears what it hears on the board
On : Board → List Processor → Type 0
On b [] = Unit {0}
On b (p ∷ ps) = (heard_of p.apic ≡ heard_of (part_of b (Lapic p.number))) × On b ps

on_alike : {b c : Board} → Alike b c → (ps : List Processor) → On b ps → On c ps
unfolding On
on_alike h [] on = tt
on_alike h (p ∷ ps) on = (on.0 ∙ h.heard p.number, on_alike h ps on.1)

on_board : (b : Board) (ns : List ℕ) → On b (processors_on b ns)
unfolding On
on_board b [] = tt
on_board b (n ∷ ns) = (refl, on_board b ns)

ignored_kept : (about : About) (cause : Cause) → Keeps (ignore about cause)
ignored_kept (injected gsi pic) cause b ws = alike_itself b
ignored_kept (resent pin) cause b ws = alike_itself b
ignored_kept ipi cause b ws = alike_itself b
ignored_kept (the_reply pic) cause b ws = alike_itself b

ignored_cause : (about : About) (cause : Cause) (b : Board) (ws : Wishes) → settled (run (ignore about cause) b ws).value ≡ Some cause
ignored_cause (injected gsi pic) cause b ws = refl
ignored_cause (resent pin) cause b ws = refl
ignored_cause ipi cause b ws = refl
ignored_cause (the_reply pic) cause b ws = refl

answer_cause : (sent : Sent) → settled (message_answer sent) ≡ None
answer_cause sent = elim (is_empty sent.new) as (λ t. settled (if t then stood_already else newly_taken) ≡ None) [ true ↦ refl | false ↦ refl ]

module _ {A : Type 0} (k : Plan A) (message : Message) (takers : Numbers) where
  accept_kept : Keeps k → (ps : List Processor) (b : Board) (ws : Wishes) → On b ps → Alike (run (accept_each message takers ps >> k) b ws).board b
  unfolding On
  accept_kept kept [] b ws on = kept b ws
  accept_kept kept (p ∷ ps) b ws on = elim (set.contains takers p.number) as (λ t. Alike (run ((if t then put (Lapic p.number) (accepted p.apic message) (accept_each message takers ps) else accept_each message takers ps) >> k) b ws).board b) [
    | true ↦
        let once : Alike (with_part b (Lapic p.number) (accepted p.apic message)) b = alike_lapic b p.number (accepted p.apic message) (accepted_heard p.apic message ∙ on.0) in
        alike_on (accept_kept kept ps (with_part b (Lapic p.number) (accepted p.apic message)) ws (on_alike (alike_back once) ps on.1)) once
    | false ↦ accept_kept kept ps b ws on.1
  ]

  accept_ends : (P : A → Type 0) → ((c : Board) (vs : Wishes) → P (run k c vs).value) → (ps : List Processor) (b : Board) (ws : Wishes) → P (run (accept_each message takers ps >> k) b ws).value
  accept_ends P ends [] b ws = ends b ws
  accept_ends P ends (p ∷ ps) b ws = elim (set.contains takers p.number) as (λ t. P (run ((if t then put (Lapic p.number) (accepted p.apic message) (accept_each message takers ps) else accept_each message takers ps) >> k) b ws).value) [
    | true ↦ accept_ends P ends ps (with_part b (Lapic p.number) (accepted p.apic message)) ws
    | false ↦ accept_ends P ends ps b ws
  ]

module _ (message : Message) (from : Option (ℕ × Shorthand)) (about : About) (processors : List Processor) (b : Board) (ws : Wishes) where
  abbrev sent_now : List Processor → Sent
  sent_now named = parted message (chosen_of message.mode (next_wish ws) named)

  sent_kept : On b processors → (named : List Processor) → Alike (run (send_to message from about processors named) b ws).board b
  sent_kept on [] = ignored_kept about NoProcessor b ws
  sent_kept on (p ∷ ps) = elim (is_illegal message) as (λ t. Alike (run (if t then refuse_vector message about processors (p ∷ ps) else deliver message from about processors (p ∷ ps)) b ws).board b) [
    | true ↦ accept_kept (ignore about BadVector) message (numbers_of (p ∷ ps)) (ignored_kept about BadVector) processors b ws on
    | false ↦ accept_kept (done (message_answer (sent_now (p ∷ ps)))) message (reached (sent_now (p ∷ ps))) (λ c vs. alike_itself c) processors b (later_wishes ws) on
  ]

  sent_cause : (named : List Processor) → settled (run (send_to message from about processors named) b ws).value ≡ cause_of message named
  unfolding cause_of
  sent_cause [] = ignored_cause about NoProcessor b ws
  sent_cause (p ∷ ps) = elim (is_illegal message) as (λ t. settled (run (if t then refuse_vector message about processors (p ∷ ps) else deliver message from about processors (p ∷ ps)) b ws).value ≡ (if t then Some BadVector else None)) [
    | true ↦ accept_ends (ignore about BadVector) message (numbers_of (p ∷ ps)) (λ x. settled x ≡ Some BadVector) (λ c vs. ignored_cause about BadVector c vs) processors b ws
    | false ↦ accept_ends (done (message_answer (sent_now (p ∷ ps)))) message (reached (sent_now (p ∷ ps))) (λ x. settled x ≡ None) (λ c vs. answer_cause (sent_now (p ∷ ps))) processors b (later_wishes ws)
  ]

-- on boards that are alike somebody is named or nobody
same_cause : {b c : Board} → Alike b c → (message : Message) (from : Option (ℕ × Shorthand)) (ns : List ℕ) → cause_of message (named_by message from (processors_on b ns)) ≡ cause_of message (named_by message from (processors_on c ns))
unfolding cause_of
same_cause h message from [] = refl
same_cause {b} {c} h message from (n ∷ ns) = by_tests _ _ (named_alike message from n (part_of b (Lapic n)) (part_of c (Lapic n)) (h.heard n)) _ _ _ _ (same_cause h message from ns)
  where
    by_tests : (s t : Bool) → s ≡ t → (x y : Processor) (xs ys : List Processor) → cause_of message xs ≡ cause_of message ys → cause_of message (cond s (x ∷ xs) xs) ≡ cause_of message (cond t (y ∷ ys) ys)
    by_tests true true e x y xs ys same = refl
    by_tests true false e x y xs ys same = absurd (true≢false e)
    by_tests false true e x y xs ys same = absurd (true≢false (sym e))
    by_tests false false e x y xs ys same = same

-- a message that is sent on boards that are alike has the same cause, or an effect on both; wherever its status shows
pub send_alike : (cpus : ℕ) (message : Message) (from : Option (ℕ × Shorthand)) (about other : About) → RunAlike SameCause (send cpus message from about) (send cpus message from other)
send_alike cpus message from about other = elim (is_taken message.mode) as (λ t. RunAlike SameCause (if not t then ignore about BadMode else (see_each ns >>= f about)) (if not t then ignore other BadMode else (see_each ns >>= f other))) [
  | true ↦ λ b c ws vs h.
      subst (λ x. EndsAlike SameCause x (run (see_each ns >>= f other) c vs)) (sym (after_seen (f about) b ns ws))
      (subst (λ y. EndsAlike SameCause (run (f about (processors_on b ns)) b ws) y) (sym (after_seen (f other) c ns vs)) (record {
        value = sent_cause message from about (processors_on b ns) b ws (named_by message from (processors_on b ns)) ∙ same_cause h message from ns ∙ sym (sent_cause message from other (processors_on c ns) c vs (named_by message from (processors_on c ns)));
        boards = alike_on (sent_kept message from about (processors_on b ns) b ws (on_board b ns) (named_by message from (processors_on b ns)))
            (alike_on h (alike_back (sent_kept message from other (processors_on c ns) c vs (on_board c ns) (named_by message from (processors_on c ns)))));
      }))
  | false ↦ λ b c ws vs h. record {
    value = ignored_cause about BadMode b ws ∙ sym (ignored_cause other BadMode c vs);
    boards = alike_on (ignored_kept about BadMode b ws) (alike_on h (alike_back (ignored_kept other BadMode c vs)));
  }
]
  where
    ns : List ℕ
    ns = reached_by message from cpus

    f : About → List Processor → Plan TargetAnswer
    f shown processors = send_to message from shown processors (named_by message from processors)

-- ---- signals

pub accepted_alike : (message : Message) (x y : TargetAnswer) → SameCause x y → is_accepted message x ≡ is_accepted message y
accepted_alike message newly_taken newly_taken e = refl
accepted_alike message newly_taken stood_already e = refl
accepted_alike message newly_taken (no_effect d) e = cc
accepted_alike message stood_already newly_taken e = refl
accepted_alike message stood_already stood_already e = refl
accepted_alike message stood_already (no_effect d) e = cc
accepted_alike message (no_effect a) newly_taken e = cc
accepted_alike message (no_effect a) stood_already e = cc
accepted_alike message (no_effect a) (no_effect d) e = refl

pub accept_alike : (pin : ℕ) (t : Bool) → RunAlike Whatever (accept_pin pin t) (accept_pin pin t)
accept_alike pin true b c ws vs h = record { value = tt; boards = alike_ioapic h _ _ (ap (λ part. with_ioapic part (pin_accepted (ioapic_of part) pin)) h.ioapic) }
accept_alike pin false b c ws vs h = record { value = tt; boards = h }

shown_kept : (about : About) (answer : Option TargetAnswer) → Keeps (answer_shown about answer)
shown_kept (injected gsi pic) answer b ws = alike_itself b
shown_kept (resent pin) answer b ws = alike_itself b
shown_kept ipi answer b ws = alike_itself b
shown_kept (the_reply pic) answer b ws = alike_itself b

shown_alike : (about other : About) (answer : Option TargetAnswer) → RunAlike Whatever (answer_shown about answer) (answer_shown other answer)
shown_alike about other answer = from_kept (answer_shown about answer) (answer_shown other answer) (shown_kept about answer) (shown_kept other answer)

answered_alike : (cpus pin : ℕ) (about other : About) (answer : Raise) → RunAlike Whatever (ioapic_answered cpus pin about answer) (ioapic_answered cpus pin other answer)
answered_alike cpus pin about other raises.Masked = shown_alike about other _
answered_alike cpus pin about other raises.Stood = shown_alike about other _
answered_alike cpus pin about other (raises.Send message) =
    alike-bind SameCause Whatever _ _ (send cpus message None about) (send cpus message None other) (send_alike cpus message None about other)
    (λ x y same. subst (λ t. RunAlike Whatever (accept_pin pin (is_accepted message x) >> done (Some x)) (accept_pin pin t >> done (Some y))) (accepted_alike message x y same)
    (alike-bind Whatever Whatever (λ _. done (Some x)) (λ _. done (Some y)) (accept_pin pin (is_accepted message x)) (accept_pin pin (is_accepted message x)) (accept_alike pin (is_accepted message x)) (λ _ _ _. done_alike (Some x) (Some y))))

other_alike : (cpus : ℕ) (ioapic : Option ℕ) (msi : Option MsiWord) (source : Source) (about other : About) → RunAlike Whatever (raise_other cpus ioapic msi source about) (raise_other cpus ioapic msi source other)
other_alike cpus (Some pin) msi source about other = λ b c ws vs h.
    subst (λ p. EndsAlike Whatever (run (ioapic_answered cpus pin about (raise_of (ioapic_of b.ioapic) pin)) (with_part b Ioapic (ioapic_raised b.ioapic pin source)) ws) (run (ioapic_answered cpus pin other (raise_of (ioapic_of p) pin)) (with_part c Ioapic (ioapic_raised c.ioapic pin source)) vs)) h.ioapic
    (answered_alike cpus pin about other (raise_of (ioapic_of b.ioapic) pin) _ _ ws vs (alike_ioapic h _ _ (ap (λ part. ioapic_raised part pin source) h.ioapic)))
other_alike cpus None (Some word) source about other =
    alike-bind SameCause Whatever (λ x. done (Some x)) (λ x. done (Some x)) (send cpus (message_in word.address word.payload) None about) (send cpus (message_in word.address word.payload) None other)
    (send_alike cpus (message_in word.address word.payload) None about other) (λ x y _. done_alike (Some x) (Some y))
other_alike cpus None None source about other = shown_alike about other None

pic_alike : (pic : Option ℕ) (source : Source) → RunAlike Whatever (raise_pic pic source) (raise_pic pic source)
pic_alike None source b c ws vs h = record { value = tt; boards = h }
pic_alike (Some pin) source b c ws vs h = record { value = tt; boards = alike_pic h _ _ }

pub raise_alike : (cpus : ℕ) (targets : Targets) (source : Source) (about : Option TargetAnswer → About) → RunAlike Whatever (raise cpus targets source about) (raise cpus targets source about)
raise_alike cpus targets source about =
    alike-bind Whatever Whatever _ _ (raise_pic targets.pic source) (raise_pic targets.pic source) (pic_alike targets.pic source)
    (λ x y _. alike-bind Whatever Whatever _ _ (raise_other cpus targets.ioapic targets.msi source (about x)) (raise_other cpus targets.ioapic targets.msi source (about y)) (other_alike cpus targets.ioapic targets.msi source (about x) (about y))
    (λ p q _. done_alike _ _))

let_go_pic_alike : (pic : Option ℕ) (source : Source) → RunAlike Whatever (let_go_pic pic source) (let_go_pic pic source)
let_go_pic_alike None source b c ws vs h = record { value = tt; boards = h }
let_go_pic_alike (Some pin) source b c ws vs h = record { value = tt; boards = alike_pic h _ _ }

let_go_ioapic_alike : (ioapic : Option ℕ) (source : Source) → RunAlike Whatever (let_go_ioapic ioapic source) (let_go_ioapic ioapic source)
let_go_ioapic_alike None source b c ws vs h = record { value = tt; boards = h }
let_go_ioapic_alike (Some pin) source b c ws vs h = record { value = tt; boards = alike_ioapic h _ _ (ap (λ part. ioapic_let_go part pin source) h.ioapic) }

pub let_go_alike : (targets : Targets) (source : Source) → RunAlike Whatever (let_go targets source) (let_go targets source)
let_go_alike targets source =
    alike-bind Whatever Whatever _ _ (let_go_pic targets.pic source) (let_go_pic targets.pic source) (let_go_pic_alike targets.pic source) (λ _ _ _. let_go_ioapic_alike targets.ioapic source)

let_go_after_alike : (targets : Targets) (source : Source) → RunAlike Whatever (let_go_after targets source) (let_go_after targets source)
let_go_after_alike targets sources.Resample = done_alike tt tt
let_go_after_alike targets sources.Pulse = let_go_alike targets sources.Pulse
let_go_after_alike targets sources.Tick = let_go_alike targets sources.Tick
let_go_after_alike targets (sources.Line n) = let_go_alike targets (sources.Line n)

pub inject_alike : (cpus : ℕ) (targets : Targets) (source : Source) (about : Option TargetAnswer → About) → RunAlike Whatever (inject cpus targets source about) (inject cpus targets source about)
inject_alike cpus targets source about =
    alike-bind Whatever Whatever _ _ (raise cpus targets source about) (raise cpus targets source about) (raise_alike cpus targets source about)
    (λ x y _. alike-bind Whatever Whatever _ _ (let_go_after targets source) (let_go_after targets source) (let_go_after_alike targets source) (λ _ _ _. done_alike x y))
