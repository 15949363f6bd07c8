-- Signals reach the same under all wishes.
use Rattle.std.proofs.Common.{◌≡◌, ℕ, Bool, true, false, ◌||◌, refl, sym, ap, ◌∙◌, true≢false, Some, None}
use Rattle.std.specs.declared.option.Option.{Option}
use Rattle.irq_base.specs.declared.message.MsiWord.{MsiWord}
use Rattle.irq_base.specs.declared.message.Source.{Source}
use Rattle.irq_base.specs.declared.message.Source.TheVariants.{Line, Pulse, Resample, Tick}
use Rattle.irq_base.specs.declared.message.Targets.{Targets}
use Rattle.irq_base.specs.declared.shape.Part.{Part}
use Rattle.irq_base.specs.declared.shape.Part.TheVariants.{Pic, Ioapic}
use Rattle.ioapic_82093aa.specs.declared.ioapic.Raise.{Raise}
use Rattle.ioapic_82093aa.specs.declared.ioapic.Raise.TheVariants as raises
use Rattle.ioapic_82093aa.specs.Pins.{raise_of}
use Rattle.msi_decode.specs.Messages.{message_in}
use Rattle.board_model.specs.Board.{Board, with_part, is_same}
use Rattle.board_model.specs.Chips.{pair_of, ioapic_of}
use Rattle.board_model.specs.Statuses.{nobody, TargetAnswer, status_of}
use Rattle.board_model.specs.Plan.{About, injected, resent, ipi, the_reply, Plan, done, ◌>>=◌, ◌>>◌}
use Rattle.board_model.specs.Run.{Wishes, run, reaches}
use Rattle.board_model.proofs.Sequence.{reaches-bind}
use Rattle.pic_8259a.specs.Pair.{pin_outcome}
use Rattle.board_raise.specs.Send.{show, send}
use Rattle.board_raise.specs.Signal.{is_accepted, accept_pin, answer_shown, ioapic_answered, ioapic_raised, pic_raised, pic_answer, raise_other, raise, let_go, let_go_after, lower}
use Rattle.board_raise.specs.ReachLaws.{of_pin, of_answer, of_other, of_fall, SignalsReachTheSame}
use Rattle.board_raise.proofs.Reaching.{or_false, absorbed, sends_reach}

module _ (q : Part) where
  show_reach : (about : About) (other : Option TargetAnswer) (b : Board) (ws : Wishes) → reaches (show about other) b ws q ≡ false
  show_reach (injected gsi pic) other b ws = refl
  show_reach (resent pin) other b ws = refl
  show_reach ipi other b ws = refl
  show_reach (the_reply pic) other b ws = refl

  -- a plan with another value at its end reaches the same
  ended_reach : {A B : Type 0} (m : Plan A) (a : B) (b : Board) (ws : Wishes) → reaches (m >> done a) b ws q ≡ reaches m b ws q
  ended_reach m a b ws = reaches-bind (λ _. done a) m b ws q ∙ or_false _

  shown_reach : (about : About) (other : Option TargetAnswer) (b : Board) (ws : Wishes) → reaches (answer_shown about other) b ws q ≡ false
  shown_reach about other b ws = ended_reach (show about other) other b ws ∙ show_reach about other b ws

  -- to set remote IRR reaches the I/O APIC at most
  pub accept_reach : (pin : ℕ) (t : Bool) (b : Board) (ws : Wishes) → reaches (accept_pin pin t) b ws q ≡ true → is_same Ioapic q ≡ true
  accept_reach pin true b ws h = at_most _ h
    where
      at_most : (a : Bool) → (a || (a || false)) ≡ true → a ≡ true
      at_most true h = refl
      at_most false h = h
  accept_reach pin false b ws h = absurd (true≢false (sym h))

  -- more of what is reached already
  pub more_of : (i m r : Bool) → (r ≡ true → i ≡ true) → (i || (m || r)) ≡ (i || m)
  more_of true m r f = refl
  more_of false m true f = absurd (true≢false (sym (f refl)))
  more_of false m false f = or_false m

  answered_reach : (cpus pin : ℕ) (about : About) (answer : Raise) (b : Board) (ws : Wishes)
      → (is_same Ioapic q || reaches (ioapic_answered cpus pin about answer) b ws q) ≡ (is_same Ioapic q || of_answer answer cpus q)
  answered_reach cpus pin about raises.Masked b ws = ap (λ r. is_same Ioapic q || r) (shown_reach about _ b ws)
  answered_reach cpus pin about raises.Stood b ws = ap (λ r. is_same Ioapic q || r) (shown_reach about _ b ws)
  answered_reach cpus pin about (raises.Send message) b ws =
      ap (λ r. is_same Ioapic q || r) (reaches-bind (λ answer. accept_pin pin (is_accepted message answer) >> done (Some answer)) (send cpus message None about) b ws q)
      ∙ more_of _ _ _ (λ h. accept_reach pin _ _ _ (sym (ended_reach (accept_pin pin _) (Some _) _ _) ∙ h))
      ∙ ap (λ r. is_same Ioapic q || r) (sends_reach cpus message None about b ws q)

  other_reach : (cpus : ℕ) (ioapic : Option ℕ) (msi : Option MsiWord) (source : Source) (about : About) (b : Board) (ws : Wishes)
      → reaches (raise_other cpus ioapic msi source about) b ws q ≡ of_other b ioapic msi cpus q
  other_reach cpus (Some pin) msi source about b ws =
      twice (is_same Ioapic q) _ ∙ answered_reach cpus pin about (raise_of (ioapic_of b.ioapic) pin) (with_part b Ioapic (ioapic_raised b.ioapic pin source)) ws
    where
      twice : (a r : Bool) → (a || (a || r)) ≡ (a || r)
      twice true r = refl
      twice false r = refl
  other_reach cpus None (Some word) source about b ws =
      reaches-bind (λ answer. done (Some answer)) (send cpus (message_in word.address word.payload) None about) b ws q
      ∙ or_false _
      ∙ sends_reach cpus (message_in word.address word.payload) None about b ws q
  other_reach cpus None None source about b ws = shown_reach about None b ws

  -- the status at the end of a raise
  status_reach : (cpus : ℕ) (ioapic : Option ℕ) (msi : Option MsiWord) (source : Source) (about : About) (pic : Option TargetAnswer) (b : Board) (ws : Wishes)
      → reaches (raise_other cpus ioapic msi source about >>= (λ other. done (status_of pic other nobody))) b ws q ≡ of_other b ioapic msi cpus q
  status_reach cpus ioapic msi source about pic b ws =
      reaches-bind (λ other. done (status_of pic other nobody)) (raise_other cpus ioapic msi source about) b ws q
      ∙ or_false _
      ∙ other_reach cpus ioapic msi source about b ws

  raised_by : (cpus : ℕ) (pic ioapic : Option ℕ) (msi : Option MsiWord) (source : Source) (about : Option TargetAnswer → About) (b : Board) (ws : Wishes)
      → reaches (raise cpus (record { pic = pic; ioapic = ioapic; msi = msi }) source about) b ws q ≡ (of_pin pic Pic q || of_other b ioapic msi cpus q)
  raised_by cpus None ioapic msi source about b ws = status_reach cpus ioapic msi source (about None) None b ws
  raised_by cpus (Some pin) ioapic msi source about b ws =
      twice (is_same Pic q) _
      ∙ ap (λ r. is_same Pic q || r) (status_reach cpus ioapic msi source (about (Some (pic_answer (pin_outcome (pair_of b.pic) pin true)))) (Some (pic_answer (pin_outcome (pair_of b.pic) pin true))) (with_part b Pic (pic_raised b.pic pin source)) ws ∙ same ioapic msi)
    where
      twice : (a r : Bool) → (a || (a || r)) ≡ (a || r)
      twice true r = refl
      twice false r = refl

      same : (ioapic : Option ℕ) (msi : Option MsiWord) → of_other (with_part b Pic (pic_raised b.pic pin source)) ioapic msi cpus q ≡ of_other b ioapic msi cpus q
      same (Some pin) msi = refl
      same None (Some word) = refl
      same None None = refl

  -- ---- to let go

  one_chip : (a : Bool) → (a || (a || false)) ≡ a
  one_chip true = refl
  one_chip false = refl

  both_chips : (a i : Bool) → (a || (a || (i || (i || false)))) ≡ (a || i)
  both_chips true i = refl
  both_chips false i = one_chip i

  pub let_go_by : (pic ioapic : Option ℕ) (msi : Option MsiWord) (source : Source) (b : Board) (ws : Wishes)
      → reaches (let_go (record { pic = pic; ioapic = ioapic; msi = msi }) source) b ws q ≡ (of_pin pic Pic q || of_pin ioapic Ioapic q)
  let_go_by None None msi source b ws = refl
  let_go_by (Some pin) None msi source b ws = one_chip (is_same Pic q) ∙ sym (or_false (is_same Pic q))
  let_go_by None (Some pin) msi source b ws = one_chip (is_same Ioapic q)
  let_go_by (Some m) (Some n) msi source b ws = both_chips (is_same Pic q) (is_same Ioapic q)

  lowered_by : (pic ioapic : Option ℕ) (msi : Option MsiWord) (source : Source) (b : Board) (ws : Wishes)
      → reaches (lower (record { pic = pic; ioapic = ioapic; msi = msi }) source) b ws q ≡ (of_pin pic Pic q || of_pin ioapic Ioapic q)
  lowered_by None None msi source b ws = refl
  lowered_by (Some pin) None msi source b ws = one_chip (is_same Pic q) ∙ sym (or_false (is_same Pic q))
  lowered_by None (Some pin) msi source b ws = one_chip (is_same Ioapic q)
  lowered_by (Some m) (Some n) msi source b ws = both_chips (is_same Pic q) (is_same Ioapic q)

  -- what is let go after a raise, the raise reached
  let_go_within : (targets : Targets) (source : Source) (b : Board) (ws : Wishes) → reaches (let_go_after targets source) b ws q ≡ true → of_fall targets q ≡ true
  let_go_within targets Resample b ws h = absurd (true≢false (sym h))
  let_go_within targets Pulse b ws h = sym (let_go_by targets.pic targets.ioapic targets.msi Pulse b ws) ∙ h
  let_go_within targets Tick b ws h = sym (let_go_by targets.pic targets.ioapic targets.msi Tick b ws) ∙ h
  let_go_within targets (Line n) b ws h = sym (let_go_by targets.pic targets.ioapic targets.msi (Line n) b ws) ∙ h

  fall_within : (b : Board) (pic ioapic : Option ℕ) (msi : Option MsiWord) (cpus : ℕ) → (of_pin pic Pic q || of_pin ioapic Ioapic q) ≡ true → (of_pin pic Pic q || of_other b ioapic msi cpus q) ≡ true
  fall_within b pic (Some pin) msi cpus h = wider (of_pin pic Pic q) (is_same Ioapic q) _ h
    where
      wider : (a i m : Bool) → (a || i) ≡ true → (a || (i || m)) ≡ true
      wider true i m h = refl
      wider false true m h = refl
      wider false false m h = absurd (true≢false (sym h))
  fall_within b pic None msi cpus h = first (of_pin pic Pic q) _ (sym (or_false (of_pin pic Pic q)) ∙ h)
    where
      first : (a m : Bool) → a ≡ true → (a || m) ≡ true
      first true m h = refl
      first false m h = absurd (true≢false (sym h))

pub signals_reach_the_same : SignalsReachTheSame
signals_reach_the_same cpus targets source about b ws q = record {
  raised = raised_by q cpus targets.pic targets.ioapic targets.msi source about b ws;
  fallen = lowered_by q targets.pic targets.ioapic targets.msi source b ws;
  injected = reaches-bind (λ status. let_go_after targets source >> done status) (raise cpus targets source about) b ws q
      ∙ ap (λ r. r || reaches (let_go_after targets source >> done (run (raise cpus targets source about) b ws).value) (run (raise cpus targets source about) b ws).board (run (raise cpus targets source about) b ws).wishes q) (raised_by q cpus targets.pic targets.ioapic targets.msi source about b ws)
      ∙ absorbed _ _ (λ h. fall_within q b targets.pic targets.ioapic targets.msi cpus (let_go_within q targets source _ _ (sym (ended_reach q (let_go_after targets source) _ _ _) ∙ h)));
}
