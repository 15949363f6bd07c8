-- What an acknowledge reaches is what the table says, whatever is wished.
use Rattle.std.proofs.Common.{◌≡◌, ℕ, Bool, true, false, ◌&&◌, ◌||◌, nat_eq, if◌then◌else◌, List, [], ◌∷◌, refl, ap, ◌∙◌, subst, Some, None}
use Rattle.std.specs.declared.option.Option.{Option}
use Rattle.irq_base.specs.declared.event.Pin.{Pin}
use Rattle.irq_base.specs.declared.event.Pin.TheVariants as pins
use Rattle.irq_base.specs.declared.message.Message.{Message}
use Rattle.irq_base.specs.declared.message.MsiWord.{MsiWord}
use Rattle.irq_base.specs.declared.message.Source.TheVariants as sources
use Rattle.irq_base.specs.declared.shape.Part.{Part}
use Rattle.irq_base.specs.declared.shape.Part.TheVariants.{Registry, Counters, Tick, Pic, Ioapic, Lapic}
use Rattle.irq_base.specs.declared.shape.Shape.{Shape}
use Rattle.ioapic_82093aa.specs.Pins.{entry_at, pin_acked, resend_of, raise_of}
use Rattle.tick_reinject.specs.Ticks.{tick_acked, tick_injected, ack_injects}
use Rattle.board_model.specs.Board.{Board, with_part, is_same}
use Rattle.board_model.specs.Chips.{ioapic_of}
use Rattle.board_model.specs.Routing.{Routing}
use Rattle.board_model.specs.Statuses.{TargetAnswer}
use Rattle.board_model.specs.Plan.{About, injected, resent, Plan, done, change, ◌>>◌}
use Rattle.board_model.specs.Run.{Wishes, Outcome, run, reaches}
use Rattle.board_model.proofs.Sequence.{run-bind, reaches-bind}
use Rattle.board_raise.specs.Send.{send}
use Rattle.board_raise.specs.Signal.{is_accepted, accept_pin, inject}
use Rattle.board_raise.specs.ReachLaws.{of_pin, of_answer, of_other}
use Rattle.board_raise.proofs.Reaching.{sends_reach}
use Rattle.board_raise.proofs.SignalReach.{accept_reach, more_of, signals_reach_the_same}
use Rattle.board_ack.specs.Acknowledge.{resample_and_notify, tell_concerned, resend, clear_and_resend, end_level, end_tick, acknowledge, acknowledge_each}
use Rattle.board_ack.specs.Ticks.{inject_tick, inject_next, acknowledge_tick}
use Rattle.board_ack.proofs.ReachAlike.{tell_alike, told_level_alike, injects_alike, acknowledge_alike, concerned_none}
use Rattle.board_ack.specs.ReachLaws as table
use Rattle.board_ack.specs.ReachLaws.{board_by, AcknowledgesReachTheSame}
use Rattle.board_raise.proofs.ReachAlike.{Alike, alike_itself, RunAlike, Whatever}

-- ---- truth values

pub twice : (a r : Bool) → (a || (a || r)) ≡ (a || r)
twice true r = refl
twice false r = refl

-- to change one part reaches it at most
pub one_part : (a : Bool) → (a || (a || false)) ≡ true → a ≡ true
one_part true h = refl
one_part false h = h

module _ (routing : Routing) (shape : Shape) where
  -- ---- the table on boards that are alike

  other_same : (ioapic : Option ℕ) (msi : Option MsiWord) (b c : Board) (q : Part) → b.ioapic ≡ c.ioapic → of_other b ioapic msi shape.cpus q ≡ of_other c ioapic msi shape.cpus q
  other_same (Some pin) msi b c q same = ap (λ part. is_same Ioapic q || of_answer (raise_of (ioapic_of part) pin) shape.cpus q) same
  other_same None (Some word) b c q same = refl
  other_same None None b c q same = refl

  pub gsi_same : (b c : Board) (gsi : ℕ) (q : Part) → b.ioapic ≡ c.ioapic → table.of_gsi routing shape b gsi q ≡ table.of_gsi routing shape c gsi q
  gsi_same b c gsi q same = ap (λ r. of_pin (routing.targets gsi).pic Pic q || r) (other_same (routing.targets gsi).ioapic (routing.targets gsi).msi b c q same)

  level_same : (b c : Board) (pin : Pin) (q : Part) → Alike b c → table.of_level routing shape b pin q ≡ table.of_level routing shape c pin q
  level_same b c (pins.Pic pin) q h = refl
  level_same b c (pins.Ioapic pin) q h = ap (λ part. is_same Ioapic q || ((entry_at (ioapic_of part) pin).level && table.of_resend routing shape (resend_of (pin_acked (ioapic_of part) pin) pin) q)) h.ioapic

  tick_same : (b c : Board) (gsi : Option ℕ) (q : Part) → Alike b c → table.of_tick routing shape b gsi q ≡ table.of_tick routing shape c gsi q
  tick_same b c None q h = refl
  tick_same b c (Some gsi) q h = λ i. nat_eq gsi shape.tick && (is_same Tick q || (injects_alike routing shape b.tick c.tick h.reinjects h.pending i && gsi_same b c shape.tick q h.ioapic i))

  -- after a plan that runs alike
  by_alike : {A : Type 0} (m : Plan A) → RunAlike Whatever m m → {b c : Board} → (ws : Wishes) → Alike b c → Alike (run m b ws).board (board_by m c)
  by_alike m alike {b} {c} ws h = (alike b c ws [] h).boards

  acknowledge_same : (b c : Board) (pin : Pin) (q : Part) → Alike b c → table.of_acknowledge routing shape b pin q ≡ table.of_acknowledge routing shape c pin q
  acknowledge_same b c pin q h = λ i. table.of_marked routing shape (routing.gsi_of pin) q
      || (level_same _ _ pin q (by_alike (tell_concerned routing (routing.gsi_of pin)) (tell_alike routing shape (routing.gsi_of pin)) [] h) i
      || tick_same _ _ (routing.gsi_of pin) q (by_alike (tell_concerned routing (routing.gsi_of pin) >> end_level shape.cpus pin) (told_level_alike routing shape (routing.gsi_of pin) pin) [] h) i)

  pub each_same : (acked : List Pin) (b c : Board) (q : Part) → Alike b c → table.of_acknowledge_each routing shape b acked q ≡ table.of_acknowledge_each routing shape c acked q
  each_same [] b c q h = refl
  each_same (pin ∷ acked) b c q h = λ i. acknowledge_same b c pin q h i || each_same acked (run (acknowledge routing shape pin) b []).board (run (acknowledge routing shape pin) c []).board q (by_alike (acknowledge routing shape pin) (acknowledge_alike routing shape pin) [] h) i

  -- ---- what the steps of an acknowledge reach

  module _ (q : Part) where
    pub resend_reach : (pin : ℕ) (message : Option Message) (b : Board) (ws : Wishes) → (is_same Ioapic q || reaches (resend shape.cpus pin message) b ws q) ≡ (is_same Ioapic q || table.of_resend routing shape message q)
    resend_reach pin None b ws = refl
    resend_reach pin (Some message) b ws =
        ap (λ r. is_same Ioapic q || r) (reaches-bind (λ answer. accept_pin pin (is_accepted message answer)) (send shape.cpus message None (resent pin)) b ws q)
        ∙ more_of q _ _ _ (λ h. accept_reach q pin _ _ _ h)
        ∙ ap (λ r. is_same Ioapic q || r) (sends_reach shape.cpus message None (resent pin) b ws q)

    level_reach : (pin : Pin) (b : Board) (ws : Wishes) → reaches (end_level shape.cpus pin) b ws q ≡ table.of_level routing shape b pin q
    level_reach (pins.Pic pin) b ws = refl
    level_reach (pins.Ioapic pin) b ws = elim (entry_at (ioapic_of b.ioapic) pin).level as (λ t. (is_same Ioapic q || reaches (if t then clear_and_resend shape.cpus pin b.ioapic else done tt) b ws q) ≡ (is_same Ioapic q || (t && table.of_resend routing shape (resend_of (pin_acked (ioapic_of b.ioapic) pin) pin) q))) [
      | true ↦ twice (is_same Ioapic q) _ ∙ resend_reach pin (resend_of (pin_acked (ioapic_of b.ioapic) pin) pin) _ ws
      | false ↦ refl
    ]

    pub inject_reach : (gsi : ℕ) (b : Board) (ws : Wishes) (about : Option TargetAnswer → About) → reaches (inject shape.cpus (routing.targets gsi) sources.Tick about) b ws q ≡ table.of_gsi routing shape b gsi q
    inject_reach gsi b ws about = (signals_reach_the_same shape.cpus (routing.targets gsi) sources.Tick about b ws q).injected

    pub inject_tick_reach : (about : Option TargetAnswer → About) (b : Board) (ws : Wishes) → (is_same Tick q || reaches (inject_tick routing shape about) b ws q) ≡ (is_same Tick q || table.of_gsi routing shape b shape.tick q)
    inject_tick_reach about b ws =
        ap (λ r. is_same Tick q || r) (reaches-bind (λ status. change Tick (λ tick. tick_injected tick status)) (inject shape.cpus (routing.targets shape.tick) sources.Tick about) b ws q)
        ∙ more_of q (is_same Tick q) (reaches (inject shape.cpus (routing.targets shape.tick) sources.Tick about) b ws q) (is_same Tick q || (is_same Tick q || false)) (one_part (is_same Tick q))
        ∙ ap (λ r. is_same Tick q || r) (inject_reach shape.tick b ws about)

    next_reach : (t : Bool) (b : Board) (ws : Wishes) → (is_same Tick q || reaches (inject_next routing shape t) b ws q) ≡ (is_same Tick q || (t && table.of_gsi routing shape b shape.tick q))
    next_reach true b ws = inject_tick_reach (λ pic. injected shape.tick pic) b ws
    next_reach false b ws = refl

    tick_reach : (gsi : Option ℕ) (b : Board) (ws : Wishes) → reaches (end_tick routing shape gsi) b ws q ≡ table.of_tick routing shape b gsi q
    tick_reach None b ws = refl
    tick_reach (Some gsi) b ws = elim (nat_eq gsi shape.tick) as (λ t. reaches (if t then acknowledge_tick routing shape else done tt) b ws q ≡ (t && (is_same Tick q || (ack_injects b.tick && table.of_gsi routing shape b shape.tick q)))) [
      | true ↦ twice (is_same Tick q) _ ∙ next_reach (ack_injects b.tick) (with_part b Tick (tick_acked b.tick)) ws
          ∙ ap (λ r. is_same Tick q || (ack_injects b.tick && r)) (gsi_same (with_part b Tick (tick_acked b.tick)) b shape.tick q refl)
      | false ↦ refl
    ]

  concerned_reach : (gsi : ℕ) (b : Board) (ws : Wishes) (q : Part) → reaches (resample_and_notify routing gsi) b ws q ≡ table.is_concerned routing shape q
  concerned_reach gsi b ws Registry = refl
  concerned_reach gsi b ws Counters = refl
  concerned_reach gsi b ws Tick = refl
  concerned_reach gsi b ws Pic = refl
  concerned_reach gsi b ws Ioapic = refl
  concerned_reach gsi b ws (Lapic n) = concerned_none routing shape gsi n b ws

  tell_reach : (gsi : Option ℕ) (b : Board) (ws : Wishes) (q : Part) → reaches (tell_concerned routing gsi) b ws q ≡ table.of_marked routing shape gsi q
  tell_reach None b ws q = refl
  tell_reach (Some gsi) b ws q = elim (routing.marked gsi) as (λ t. reaches (if t then resample_and_notify routing gsi else done tt) b ws q ≡ (t && table.is_concerned routing shape q)) [
    | true ↦ concerned_reach gsi b ws q
    | false ↦ refl
  ]

  -- ---- an acknowledge

  acknowledge_reach : (pin : Pin) (b : Board) (ws : Wishes) (q : Part) → reaches (acknowledge routing shape pin) b ws q ≡ table.of_acknowledge routing shape b pin q
  acknowledge_reach pin b ws q =
      reaches-bind (λ _. level >> end_tick routing shape gsi) tell b ws q
      ∙ (λ i. tell_reach gsi b ws q i || later i)
    where
      gsi : Option ℕ
      gsi = routing.gsi_of pin

      tell : Plan (Unit {0})
      tell = tell_concerned routing gsi

      level : Plan (Unit {0})
      level = end_level shape.cpus pin

      told : Outcome (Unit {0})
      told = run tell b ws

      ended : Board
      ended = (run level told.board told.wishes).board

      ended_alike : Alike ended (board_by (tell >> level) b)
      ended_alike = subst (λ o. Alike o.board (board_by (tell >> level) b)) (run-bind (λ _. level) tell b ws) (by_alike (tell >> level) (told_level_alike routing shape gsi pin) ws (alike_itself b))

      later : reaches (level >> end_tick routing shape gsi) told.board told.wishes q
          ≡ (table.of_level routing shape (board_by tell b) pin q || table.of_tick routing shape (board_by (tell >> level) b) gsi q)
      later =
          reaches-bind (λ _. end_tick routing shape gsi) level told.board told.wishes q
          ∙ (λ i. (level_reach q pin told.board told.wishes ∙ level_same told.board (board_by tell b) pin q (by_alike tell (tell_alike routing shape gsi) ws (alike_itself b))) i
          || (tick_reach q gsi ended (run level told.board told.wishes).wishes ∙ tick_same ended (board_by (tell >> level) b) gsi q ended_alike) i)

  pub each_reach : (acked : List Pin) (b : Board) (ws : Wishes) (q : Part) → reaches (acknowledge_each routing shape acked) b ws q ≡ table.of_acknowledge_each routing shape b acked q
  each_reach [] b ws q = refl
  each_reach (pin ∷ acked) b ws q =
      reaches-bind (λ _. acknowledge_each routing shape acked) (acknowledge routing shape pin) b ws q
      ∙ (λ i. acknowledge_reach pin b ws q i || (each_reach acked (run (acknowledge routing shape pin) b ws).board (run (acknowledge routing shape pin) b ws).wishes q
      ∙ each_same acked (run (acknowledge routing shape pin) b ws).board (board_by (acknowledge routing shape pin) b) q (by_alike (acknowledge routing shape pin) (acknowledge_alike routing shape pin) ws (alike_itself b))) i)

pub acknowledges_reach_the_same : AcknowledgesReachTheSame
acknowledges_reach_the_same routing shape b ws q = record { one = λ pin. acknowledge_reach routing shape pin b ws q; each = λ acked. each_reach routing shape acked b ws q }
