-- What the acknowledge of one pin reaches is told by the board before it.
use Rattle.board_reach.proofs.Basics.{◌≡◌, ℕ, zero, suc, Bool, true, false, not, ◌&&◌, ◌||◌, nat_eq, if◌then◌else◌, List, [], ◌∷◌, inl, inr, refl, sym, ap, ◌∙◌, subst, true≢false, arith, Some, None, slice_index_or, Option, unsigned_Decides, nat_tests, signalled_all, Event, Pin, Message, MsiWord, Resample, Part, Registry, Counters, Tick, Pic, Ioapic, Lapic, Shape, IoapicChip, message_of, entry_at, raise_of, resend_of, pin_acked, pin_accepted, has_resampler, watched, watch_events, resampled, resample_events, ack_injects, Board, part_of, with_part, is_same, IoapicPart, ioapic_of, with_ioapic, Routing, About, resent, Plan, done, ◌>>◌, Wishes, Outcome, run, TargetAnswer, reached_by, send, is_accepted, accept_pin, let_go, is_of_one, of_message, of_pin, of_answer, of_other, say_each, signal_each, resample, notify, resample_and_notify, tell_concerned, resend, clear_and_resend, end_level, entry_ended, board_by, of_marked, of_resend, of_level, of_tick, of_acknowledge, slice_set, ◌⊎◌, IoEntry as Entry, entry_at_power_on, run-bind, unreached_stays, sends_reach, pin_freed, part_freed, freed, part_cleared, cleared, of_acknowledge_now, Raise, contains}

-- ---- entries that are written

-- an entry that is changed, where the default stays
changed_entry : (g : Entry → Entry) (d : Entry) → g d ≡ d → (xs : List Entry) (i j : ℕ)
    → slice_index_or (slice_set xs i (g (slice_index_or xs i d))) j d ≡ (if nat_eq i j then g (slice_index_or xs i d) else slice_index_or xs j d)
changed_entry g d fixed [] i j = elim (nat_eq i j) as (λ t. d ≡ (if t then g d else d)) [ true ↦ sym fixed | false ↦ refl ]
changed_entry g d fixed (x ∷ xs) zero zero = refl
changed_entry g d fixed (x ∷ xs) zero (suc j) = ap (λ t. if t then g x else slice_index_or xs j d) (sym (tests j))
  where
    tests : (j : ℕ) → nat_eq 0 (suc j) ≡ false
    tests j = grind (arith, nat_tests)
changed_entry g d fixed (x ∷ xs) (suc i) zero = ap (λ t. if t then g (slice_index_or xs i d) else x) (sym (tests i))
  where
    tests : (i : ℕ) → nat_eq (suc i) 0 ≡ false
    tests i = grind (arith, nat_tests)
changed_entry g d fixed (x ∷ xs) (suc i) (suc j) = changed_entry g d fixed xs i j ∙ ap (λ t. if t then g (slice_index_or xs i d) else slice_index_or xs j d) (sym (tests i j))
  where
    tests : (i j : ℕ) → nat_eq (suc i) (suc j) ≡ nat_eq i j
    tests i j = grind (arith, nat_tests)

abbrev pub irr_cleared : Entry → Entry
irr_cleared e = record e { remote_irr = false }

abbrev pub irr_accepted : Entry → Entry
irr_accepted e = record e { remote_irr = e.level || e.remote_irr }

pub acked_entry : (io : IoapicChip) (pin other : ℕ) → entry_at (pin_acked io pin) other ≡ (if nat_eq pin other then irr_cleared (entry_at io pin) else entry_at io other)
acked_entry io pin other = changed_entry irr_cleared entry_at_power_on refl io.entries pin other

pub accepted_entry : (io : IoapicChip) (pin other : ℕ) → entry_at (pin_accepted io pin) other ≡ (if nat_eq pin other then irr_accepted (entry_at io pin) else entry_at io other)
accepted_entry io pin other = changed_entry irr_accepted entry_at_power_on refl io.entries pin other

-- ---- a message leaves all but the local APICs

none_of : (q : Part) → ((n : ℕ) → is_same (Lapic n) q ≡ false) → (ns : List ℕ) → is_of_one ns q ≡ false
none_of q other [] = refl
none_of q other (n ∷ ns) = (λ i. other n i || is_of_one ns q) ∙ none_of q other ns

module _ (cpus : ℕ) (message : Message) (about : About) (b : Board) (ws : Wishes) where
  abbrev pub sent_board : Board
  sent_board = (run (send cpus message None about) b ws).board

  sent_stays : (q : Part) → ((n : ℕ) → is_same (Lapic n) q ≡ false) → part_of sent_board q ≡ part_of b q
  sent_stays q other = unreached_stays (send cpus message None about) b ws q
      (sends_reach cpus message None about b ws q ∙ (grind (arith, (none_of q other (reached_by message None cpus)))))

  pub sent_registry : sent_board.registry ≡ b.registry
  sent_registry = sent_stays Registry (λ n. refl)

  pub sent_tick : sent_board.tick ≡ b.tick
  sent_tick = sent_stays Tick (λ n. refl)

  pub sent_ioapic : sent_board.ioapic ≡ b.ioapic
  sent_ioapic = sent_stays Ioapic (λ n. refl)

-- ---- steps 2 and 3

-- a board with the same registrations and ticks, and this I/O APIC
pub record Holds (b c : Board) (part : IoapicPart) : Type 0 where
  pub registry : c.registry ≡ b.registry
  pub tick : c.tick ≡ b.tick
  pub ioapic : c.ioapic ≡ part

then_holds : {b c d : Board} {part other : IoapicPart} → Holds b c part → Holds c d other → other ≡ part → Holds b d part
then_holds h k same = record { registry = k.registry ∙ h.registry; tick = k.tick ∙ h.tick; ioapic = k.ioapic ∙ same }

said : (events : List Event) (b : Board) (ws : Wishes) → (run (say_each events) b ws).board ≡ b
said [] b ws = refl
said (event ∷ events) b ws = said events b ws

signalled_holds : (counters : List ℕ) (events : List Event) (b : Board) (ws : Wishes) → Holds b (run (signal_each counters events) b ws).board b.ioapic
signalled_holds counters events b ws =
    subst (λ (c : Board). Holds b c b.ioapic) (sym (said events (with_part b Counters (signalled_all b.counters counters)) ws)) (record { registry = refl; tick = refl; ioapic = refl })

gone_holds : (pic ioapic : Option ℕ) (msi : Option MsiWord) (b : Board) (ws : Wishes)
    → Holds b (run (let_go (record { pic = pic; ioapic = ioapic; msi = msi }) Resample) b ws).board (pin_freed b.ioapic ioapic)
gone_holds None None msi b ws = record { registry = refl; tick = refl; ioapic = refl }
gone_holds (Some p) None msi b ws = record { registry = refl; tick = refl; ioapic = refl }
gone_holds _ _ msi b ws = record { registry = refl; tick = refl; ioapic = refl }

module _ (routing : Routing) (shape : Shape) where
  resampled_holds : (gsi : ℕ) (b : Board) (ws : Wishes) → Holds b (run (resample (routing.targets gsi) gsi b.registry) b ws).board (part_freed routing shape b (Some gsi))
  resampled_holds gsi b ws = by_test (has_resampler b.registry.irqfds gsi) (resampled b.registry.irqfds gsi) (resample_events b.registry.irqfds gsi)
    where
      by_test : (t : Bool) (counters : List ℕ) (events : List Event) → Holds b (run (if not t then done tt else (let_go (routing.targets gsi) Resample >> signal_each counters events)) b ws).board
          (if t then pin_freed b.ioapic (routing.targets gsi).ioapic else b.ioapic)
      by_test true counters events =
          let gone = gone_holds (routing.targets gsi).pic (routing.targets gsi).ioapic (routing.targets gsi).msi b ws in
          subst (λ (o : Outcome (Unit {0})). Holds b o.board (pin_freed b.ioapic (routing.targets gsi).ioapic)) (sym (run-bind (λ _. signal_each counters events) (let_go (routing.targets gsi) Resample) b ws))
          (then_holds gone (signalled_holds counters events _ _) gone.ioapic)
      by_test false counters events = record { registry = refl; tick = refl; ioapic = refl }

  concerned_holds : (gsi : ℕ) (b : Board) (ws : Wishes) → Holds b (run (resample_and_notify routing gsi) b ws).board (part_freed routing shape b (Some gsi))
  concerned_holds gsi b ws =
      let first = resampled_holds gsi b ws in
      subst (λ (o : Outcome (Unit {0})). Holds b o.board (part_freed routing shape b (Some gsi))) (sym (run-bind (λ _. notify gsi b.registry) (resample (routing.targets gsi) gsi b.registry) b ws))
      (then_holds first (signalled_holds (watched b.registry.watches gsi) (watch_events b.registry.watches gsi) _ _) first.ioapic)

  -- a GSI with resamplers is marked
  abbrev pub MarksResamplers : Board → Type 0
  MarksResamplers b = (gsi : ℕ) → has_resampler b.registry.irqfds gsi ≡ true → routing.marked gsi ≡ true

  pub told_holds : (gsi : Option ℕ) (b : Board) (ws : Wishes) → MarksResamplers b → Holds b (run (tell_concerned routing gsi) b ws).board (part_freed routing shape b gsi)
  told_holds None b ws marks = record { registry = refl; tick = refl; ioapic = refl }
  told_holds (Some gsi) b ws marks = by_mark (routing.marked gsi) refl
    where
      unmarked : (t : Bool) → (t ≡ true → false ≡ true) → Holds b b (if t then pin_freed b.ioapic (routing.targets gsi).ioapic else b.ioapic)
      unmarked true never = absurd (true≢false (sym (never refl)))
      unmarked false never = record { registry = refl; tick = refl; ioapic = refl }

      by_mark : (t : Bool) → routing.marked gsi ≡ t → Holds b (run (if t then resample_and_notify routing gsi else done tt) b ws).board (part_freed routing shape b (Some gsi))
      by_mark true is = concerned_holds gsi b ws
      by_mark false is = unmarked (has_resampler b.registry.irqfds gsi) (λ has. sym is ∙ marks gsi has)

-- ---- step 4

-- the I/O APIC after a message was sent again and processors took it
pub record SentAgain (part after : IoapicPart) (pin : ℕ) : Type 0 where
  pub level : (entry_at (ioapic_of part) pin).level ≡ true
  pub message : Message
  pub again : resend_of (pin_acked (ioapic_of part) pin) pin ≡ Some message
  pub ioapic : after ≡ with_ioapic part (pin_accepted (pin_acked (ioapic_of part) pin) pin)

-- a board with the same registrations and ticks, on which the entry was ended, and perhaps a message was sent again
pub record Ends (b c : Board) (pin : ℕ) (part : IoapicPart) : Type 0 where
  pub registry : c.registry ≡ b.registry
  pub tick : c.tick ≡ b.tick
  pub ioapic : (c.ioapic ≡ part) ⊎ SentAgain b.ioapic c.ioapic pin

module _ (cpus pin : ℕ) (b : Board) (ws : Wishes) where
  abbrev acked_part : IoapicPart
  acked_part = with_ioapic b.ioapic (pin_acked (ioapic_of b.ioapic) pin)

  abbrev acked_board : Board
  acked_board = with_part b Ioapic acked_part

  resent_ends : (level : (entry_at (ioapic_of b.ioapic) pin).level ≡ true) (message : Option Message) → resend_of (pin_acked (ioapic_of b.ioapic) pin) pin ≡ message
      → Ends b (run (resend cpus pin message) acked_board ws).board pin acked_part
  resent_ends level None again = record { registry = refl; tick = refl; ioapic = inl refl }
  resent_ends level (Some message) again =
      subst (λ (o : Outcome (Unit {0})). Ends b o.board pin acked_part) (sym (run-bind (λ answer. accept_pin pin (is_accepted message answer)) (send cpus message None (resent pin)) acked_board ws))
      (by_answer (is_accepted message (run (send cpus message None (resent pin)) acked_board ws).value))
    where
      after : Outcome TargetAnswer
      after = run (send cpus message None (resent pin)) acked_board ws

      by_answer : (t : Bool) → Ends b (run (accept_pin pin t) after.board after.wishes).board pin acked_part
      by_answer true = record {
        registry = sent_registry cpus message (resent pin) acked_board ws;
        tick = sent_tick cpus message (resent pin) acked_board ws;
        ioapic = inr (record { level = level; message = message; again = again; ioapic = ap (λ part. with_ioapic part (pin_accepted (ioapic_of part) pin)) (sent_ioapic cpus message (resent pin) acked_board ws) });
      }
      by_answer false = record {
        registry = sent_registry cpus message (resent pin) acked_board ws;
        tick = sent_tick cpus message (resent pin) acked_board ws;
        ioapic = inl (sent_ioapic cpus message (resent pin) acked_board ws);
      }

  pub level_ends : Ends b (run (end_level cpus (Pin.Ioapic pin)) b ws).board pin (entry_ended b.ioapic pin)
  level_ends = by_level (entry_at (ioapic_of b.ioapic) pin).level refl
    where
      by_level : (t : Bool) → (entry_at (ioapic_of b.ioapic) pin).level ≡ t
          → Ends b (run (if t then clear_and_resend cpus pin b.ioapic else done tt) b ws).board pin (if t then acked_part else b.ioapic)
      by_level true is = resent_ends is (resend_of (pin_acked (ioapic_of b.ioapic) pin) pin) refl
      by_level false is = record { registry = refl; tick = refl; ioapic = inl refl }

-- ---- the messages of one entry

-- what a pin sends is its entry's message
answer_within : (io : IoapicChip) (pin cpus : ℕ) (q : Part) → of_answer (raise_of io pin) cpus q ≡ true → of_message (message_of (entry_at io pin)) None cpus q ≡ true
answer_within io pin cpus q h1 = grind arith

-- what is sent again is its entry's message
again_is : (io : IoapicChip) (pin : ℕ) (message : Message) → resend_of io pin ≡ Some message → message_of (entry_at io pin) ≡ message
again_is io pin message h1 = grind arith

-- of two parts of what is reached already, each adds nothing
swallowed : (i m g t j p a c : Bool) → (a ≡ true → m ≡ true) → (c ≡ true → m ≡ true)
    → ((i || m) || (g && (t || (j && (p || (i || a)))))) ≡ ((i || m) || (g && (t || (j && (p || (i || c))))))
swallowed i m g t j p a c h1 h2 = grind arith

-- what a pin answers is told by its entry and its level
pub raise_alike : (io other : IoapicChip) (pin : ℕ) → entry_at io pin ≡ entry_at other pin → contains io.high pin ≡ contains other.high pin → raise_of io pin ≡ raise_of other pin
raise_alike io other pin entries levels = λ i. if (entries i).masked then Raise.Masked else if (if (entries i).level then (entries i).remote_irr else levels i) then Raise.Stood else Raise.Send (message_of (entries i))

-- ---- one pin

module _ (routing : Routing) (shape : Shape) where
  level_by : (b c : Board) (pin : Pin) (q : Part) → b.ioapic ≡ c.ioapic → of_level routing shape b pin q ≡ of_level routing shape c pin q
  level_by b c pin q h1 = grind arith

  tick_by : (b c : Board) (gsi : Option ℕ) (q : Part) → b.tick ≡ c.tick → b.ioapic ≡ c.ioapic → of_tick routing shape b gsi q ≡ of_tick routing shape c gsi q
  tick_by b c gsi q h1 h2 = grind arith

  module _ (b : Board) (pin : ℕ) (gsi : Option ℕ) (q : Part) where
    abbrev chip : IoapicChip
    chip = ioapic_of b.ioapic

    -- the board with remote IRR of the pin clear, and with it set again
    abbrev clear : Board
    clear = record b { ioapic = with_ioapic b.ioapic (pin_acked chip pin) }

    abbrev again : Board
    again = record b { ioapic = with_ioapic b.ioapic (pin_accepted (pin_acked chip pin) pin) }

    module _ (message : Message) (sent : resend_of (pin_acked chip pin) pin ≡ Some message) where
      abbrev Within : Board → ℕ → Type 0
      Within c t = of_answer (raise_of (ioapic_of c.ioapic) t) shape.cpus q ≡ true → of_message message None shape.cpus q ≡ true

      within_clear : Within clear pin
      within_clear h = ap (λ m. of_message m None shape.cpus q) (sym (again_is (pin_acked chip pin) pin message sent)) ∙ answer_within (pin_acked chip pin) pin shape.cpus q h

      within_again : Within again pin
      within_again h = ap (λ m. of_message m None shape.cpus q) (sym (ap message_of (accepted_entry (pin_acked chip pin) pin pin) ∙ (grind arith) ∙ again_is (pin_acked chip pin) pin message sent)) ∙ answer_within (pin_accepted (pin_acked chip pin) pin) pin shape.cpus q h

      -- another pin answers the same
      elsewhere : (t : ℕ) → nat_eq pin t ≡ false → raise_of (ioapic_of again.ioapic) t ≡ raise_of (ioapic_of clear.ioapic) t
      elsewhere t other = raise_alike (ioapic_of again.ioapic) (ioapic_of clear.ioapic) t
          (accepted_entry (pin_acked chip pin) pin t ∙ ap (λ x. if x then irr_accepted (entry_at (pin_acked chip pin) pin) else entry_at (pin_acked chip pin) t) other) refl

      abbrev Both : (g j p : Bool) → Board → Option ℕ → Option MsiWord → Bool
      Both g j p c ioapic msi = (is_same Ioapic q || of_message message None shape.cpus q) || (g && (is_same Tick q || (j && (p || of_other c ioapic msi shape.cpus q))))

      no_more : (g j p : Bool) (ioapic : Option ℕ) (msi : Option MsiWord) → Both g j p again ioapic msi ≡ Both g j p clear ioapic msi
      no_more g j p (Some t) msi = elim (nat_eq pin t) as (λ x. nat_eq pin t ≡ x → Both g j p again (Some t) msi ≡ Both g j p clear (Some t) msi) [
        | true ↦ λ here.
            let e : pin ≡ t = (unsigned_Decides pin t).0 here in
            swallowed (is_same Ioapic q) (of_message message None shape.cpus q) g (is_same Tick q) j p _ _ (subst (Within again) e within_again) (subst (Within clear) e within_clear)
        | false ↦ λ other. ap (λ answer. (is_same Ioapic q || of_message message None shape.cpus q) || (g && (is_same Tick q || (j && (p || (is_same Ioapic q || of_answer answer shape.cpus q)))))) (elsewhere t other)
      ] refl
      no_more g j p None (Some word) = refl
      no_more g j p None None = refl

      ticks_no_more : (gsi : Option ℕ) → ((is_same Ioapic q || of_message message None shape.cpus q) || of_tick routing shape again gsi q) ≡ ((is_same Ioapic q || of_message message None shape.cpus q) || of_tick routing shape clear gsi q)
      ticks_no_more None = refl
      ticks_no_more (Some g) = no_more (nat_eq g shape.tick) (ack_injects b.tick) (of_pin (routing.targets shape.tick).pic Pic q) (routing.targets shape.tick).ioapic (routing.targets shape.tick).msi

    -- what was sent again leaves nothing that the next tick sends besides
    sent_again_same : (c : Board) → c.tick ≡ b.tick → SentAgain b.ioapic c.ioapic pin
        → (of_level routing shape b (Pin.Ioapic pin) q || of_tick routing shape c gsi q) ≡ (of_level routing shape b (Pin.Ioapic pin) q || of_tick routing shape (cleared b (Pin.Ioapic pin)) gsi q)
    sent_again_same c ticks s =
        (λ i. level i || tick_by c again gsi q ticks s.ioapic i)
        ∙ ticks_no_more s.message s.again gsi
        ∙ sym (λ i. level i || tick_by (cleared b (Pin.Ioapic pin)) clear gsi q refl (ap (λ t. if t then with_ioapic b.ioapic (pin_acked chip pin) else b.ioapic) s.level) i)
      where
        level : of_level routing shape b (Pin.Ioapic pin) q ≡ (is_same Ioapic q || of_message s.message None shape.cpus q)
        level = λ i. is_same Ioapic q || (s.level i && of_resend routing shape (s.again i) q)

  ended_same : (b : Board) (ws : Wishes) (pin : Pin) (gsi : Option ℕ) (q : Part) → (of_level routing shape b pin q || of_tick routing shape (run (end_level shape.cpus pin) b ws).board gsi q)
      ≡ (of_level routing shape b pin q || of_tick routing shape (cleared b pin) gsi q)
  ended_same b ws (Pin.Pic pin) gsi q = ap (λ r. of_level routing shape b (Pin.Pic pin) q || r) (tick_by b (cleared b (Pin.Pic pin)) gsi q refl refl)
  ended_same b ws (Pin.Ioapic pin) gsi q =
      let ends = level_ends shape.cpus pin b ws in
      elim ends.ioapic [
        | inl same ↦ ap (λ r. of_level routing shape b (Pin.Ioapic pin) q || r) (tick_by (run (end_level shape.cpus (Pin.Ioapic pin)) b ws).board (cleared b (Pin.Ioapic pin)) gsi q ends.tick same)
        | inr s ↦ sent_again_same b pin gsi q (run (end_level shape.cpus (Pin.Ioapic pin)) b ws).board ends.tick s
      ]

  -- the acknowledge of one pin reaches what the board before it tells
  pub acknowledge_is_now : (b : Board) (pin : Pin) (q : Part) → MarksResamplers routing shape b → of_acknowledge routing shape b pin q ≡ of_acknowledge_now routing shape b pin q
  acknowledge_is_now b pin q marks = ap (λ r. of_marked routing shape gsi q || r)
      (ap (λ c. of_level routing shape told pin q || of_tick routing shape c gsi q) (ap (λ (o : Outcome (Unit {0})). o.board) (run-bind (λ _. end_level shape.cpus pin) tell b []))
      ∙ ended_same told (run tell b []).wishes pin gsi q
      ∙ (λ i. level_by told (freed routing shape b gsi) pin q holds.ioapic i
      || tick_by (cleared told pin) (cleared (freed routing shape b gsi) pin) gsi q holds.tick (ap (λ part. part_cleared part pin) holds.ioapic) i))
    where
      gsi : Option ℕ
      gsi = routing.gsi_of pin

      tell : Plan (Unit {0})
      tell = tell_concerned routing gsi

      told : Board
      told = board_by tell b

      holds : Holds b told (part_freed routing shape b gsi)
      holds = told_holds routing shape gsi b [] marks
