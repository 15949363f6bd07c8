-- The status of a signal tells what its plan gives.
use Rattle.std.proofs.Common.{◌≡◌, ℕ, Bool, true, false, ◌||◌, if◌then◌else◌, List, [], ◌∷◌, Some, None, Ok, Err, refl, sym, ap, subst, ◌∙◌}
use Rattle.std.specs.Prelude.{Result, option_map, is_some}
use Rattle.std.specs.declared.option.Option.{Option}
use Rattle.std.specs.FinSet as set
use Rattle.std.specs.Ordering.{nat_cmp}
use Rattle.irq_base.specs.declared.message.Message.{Message}
use Rattle.irq_base.specs.declared.message.MsiWord.{MsiWord}
use Rattle.irq_base.specs.declared.message.Source.{Source}
use Rattle.irq_base.specs.declared.message.Targets.{Targets}
use Rattle.irq_base.specs.declared.shape.Part.{Part}
use Rattle.irq_base.specs.declared.shape.Part.TheVariants.{Registry, Counters, Tick, Pic, Ioapic, Lapic}
use Rattle.irq_base.specs.declared.status.Cause.TheVariants.{Masked}
use Rattle.irq_base.specs.declared.status.Status.{Status}
use Rattle.irq_base.specs.declared.status.Status.TheVariants.{Delivered, Coalesced, Ignored}
use Rattle.ioapic_82093aa.specs.declared.ioapic.Raise.{Raise}
use Rattle.ioapic_82093aa.specs.declared.ioapic.Raise.TheVariants as raises
use Rattle.msi_decode.specs.Messages.{message_in}
use Rattle.lapic.specs.declared.outcome.Shorthand.{Shorthand}
use Rattle.board_model.specs.Board.{Board}
use Rattle.board_model.specs.Hand.{Parts, part_in}
use Rattle.board_model.specs.Statuses.{Sent, nobody, TargetAnswer, no_effect, stood_already, took, stands, first_cause, status_of}
use Rattle.board_model.specs.Plan.{About, Plan, done, ◌>>=◌, ◌>>◌}
use Rattle.board_model.specs.Run.{Wishes, reaches, OnParts, gives, lacks, run_on}
use Rattle.board_raise.specs.declared.lacks.Lacks.{Lacks}
use Rattle.board_raise.specs.declared.parts.Parts as code
use Rattle.board_raise.specs.declared.parts.PicPart as pic
use Rattle.board_raise.specs.declared.parts.IoPart as io
use Rattle.board_raise.specs.InHand.{parts_of, pic_of, ioapic_of, OnlyPinsChange}
use Rattle.board_raise.specs.Send.{send}
use Rattle.board_raise.specs.Signal.{is_accepted, accept_pin, send_of_pin, answer_shown, ioapic_answered, raise_pic, raise_ioapic, raise_other, raise, let_go_pic, let_go_ioapic, let_go, let_go_after, inject}
use Rattle.board_raise.specs.Told.{heading_of, answer_in, events_told, answers_told, Tells}
use Rattle.board_raise.specs.Shown.{EndsWith, StopsAt, Leaves, Place, in_reply, in_event, about_at, events_at, replies_at, without_sets, Shows, shown_beside, ShowsBeside, as_other, ShowsSent, IsNeeded, HoldsNeeded}
use Rattle.board_raise.specs.ReachLaws.{of_raise, of_fall}
use Rattle.board_raise.proofs.SignalReach.{let_go_by, signals_reach_the_same}
use Rattle.board_raise.proofs.Composing.{bind-assoc, ends_as, then_ends, then_quiet, then_stops, stops_first, then_done, stops_needs, ends_holds}

-- ---- one chip changes

module _ (old : code.Parts) where
  pub only_pic : (before after : pic.PicPart) → old.pic ≡ Some before → OnlyPinsChange old (record old { pic = Some after })
  only_pic before after there = record { held = held; others = refl }
    where
      held : (part : Part) → is_some (part_in (parts_of (record old { pic = Some after })) part) ≡ is_some (part_in (parts_of old) part)
      held Registry = refl
      held Counters = refl
      held Tick = refl
      held Pic = sym (ap (λ (o : Option pic.PicPart). is_some (option_map pic_of o)) there)
      held Ioapic = refl
      held (Lapic n) = refl

  pub only_ioapic : (before after : io.IoPart) → old.ioapic ≡ Some before → OnlyPinsChange old (record old { ioapic = Some after })
  only_ioapic before after there = record { held = held; others = refl }
    where
      held : (part : Part) → is_some (part_in (parts_of (record old { ioapic = Some after })) part) ≡ is_some (part_in (parts_of old) part)
      held Registry = refl
      held Counters = refl
      held Tick = refl
      held Pic = refl
      held Ioapic = sym (ap (λ (o : Option io.IoPart). is_some (option_map ioapic_of o)) there)
      held (Lapic n) = refl

-- ---- a message that a pin sends

tells_sent : (message : Message) (about : About) (status : Status) (after : Parts) (later : Wishes) (o : OnParts TargetAnswer) → Tells (heading_of message None) about (Ok status) after later o → ShowsSent about (Ok status) after later o
tells_sent message about status after later (gives a l left others) h = record { value_is = h.answer; events_are = h.events; replies_are = h.answers; parts = h.parts; wishes = h.wishes }
tells_sent message about status after later (lacks p) h = absurd h

tells_lack : (message : Message) (about : About) (l : Lacks) (after : Parts) (later : Wishes) (o : OnParts TargetAnswer) → Tells (heading_of message None) about (Err l) after later o → StopsAt l.part o
tells_lack message about l after later (gives a log left others) h = absurd h
tells_lack message about l after later (lacks p) h = h

module _ (cpus pin : ℕ) (message : Message) (about : About) (q : Parts) (ws : Wishes) where
  abbrev accepts : TargetAnswer → Plan TargetAnswer
  accepts answer = accept_pin pin (is_accepted message answer) >> done answer

  pub pin_lacks : (l : Lacks) (after : Parts) (later : Wishes) → Tells (heading_of message None) about (Err l) after later (run_on (send cpus message None about) q ws) → StopsAt l.part (run_on (send_of_pin cpus pin message about) q ws)
  pin_lacks l after later h = stops_first accepts (send cpus message None about) q ws l.part (tells_lack message about l after later (run_on (send cpus message None about) q ws) h)

  module _ (status : Status) (r : Parts) (vs : Wishes) (sent : Tells (heading_of message None) about (Ok status) r vs (run_on (send cpus message None about) q ws)) where
    shows : ShowsSent about (Ok status) r vs (run_on (send cpus message None about) q ws)
    shows = tells_sent message about status r vs (run_on (send cpus message None about) q ws) sent

    pub pin_sends : (is : Bool) (s : Parts) (us : Wishes) → is ≡ is_accepted message (answer_in status) → EndsWith tt [] [] s us (run_on (accept_pin pin is) r vs) → ShowsSent about (Ok status) s us (run_on (send_of_pin cpus pin message about) q ws)
    pin_sends is s us e h =
        then_quiet accepts (send cpus message None about) q ws (answer_in status) (events_told about status) (answers_told about status) r vs (answer_in status) s us shows
        (subst (λ t. EndsWith (answer_in status) [] [] s us (run_on (accept_pin pin t >> done (answer_in status)) r vs)) e (then_done (λ _. answer_in status) (accept_pin pin is) r vs tt [] [] s us h))

    pub pin_stops : (is : Bool) (p : Part) → is ≡ is_accepted message (answer_in status) → StopsAt p (run_on (accept_pin pin is) r vs) → StopsAt p (run_on (send_of_pin cpus pin message about) q ws)
    pin_stops is p e h =
        then_stops accepts (send cpus message None about) q ws (answer_in status) (events_told about status) (answers_told about status) r vs p shows
        (subst (λ t. StopsAt p (run_on (accept_pin pin t >> done (answer_in status)) r vs)) e (stops_first (λ _. done (answer_in status)) (accept_pin pin is) r vs p h))

-- ---- the other target

-- a message, where the status of the whole signal shows
beside : (place : Place) (pic : Option TargetAnswer) (status : Status) (after : Parts) (later : Wishes) (o : OnParts TargetAnswer) → ShowsSent (about_at place pic) (Ok status) after later o → EndsWith (answer_in status) (events_at place (shown_beside pic (Some status))) (replies_at place (shown_beside pic (Some status))) after later o
beside in_reply pic status after later o h = h
beside (in_event gsi) pic status after later o h = h

other_sent : (place : Place) (pic : Option TargetAnswer) (result : Result Status Lacks) (after : Parts) (later : Wishes) (m : Plan TargetAnswer) (q : Parts) (ws : Wishes)
    → ShowsSent (about_at place pic) result after later (run_on m q ws) → ShowsBeside place pic (as_other result) after later (run_on (m >>= (λ answer. done (Some answer))) q ws)
other_sent place pic (Ok status) after later m q ws h =
    then_done (λ answer. Some answer) m q ws (answer_in status) (events_at place (shown_beside pic (Some status))) (replies_at place (shown_beside pic (Some status))) after later (beside place pic status after later (run_on m q ws) h)
other_sent place pic (Err l) after later m q ws h = stops_first (λ answer. done (Some answer)) m q ws l.part h

shows_sent : (message : Message) (about : About) (result : Result Status Lacks) (after : Parts) (later : Wishes) (o : OnParts TargetAnswer) → Tells (heading_of message None) about result after later o → ShowsSent about result after later o
shows_sent message about (Ok status) after later o h = tells_sent message about status after later o h
shows_sent message about (Err l) after later o h = tells_lack message about l after later o h

-- the message target
pub message_beside : (cpus : ℕ) (word : MsiWord) (message : Message) (source : Source) (place : Place) (pic : Option TargetAnswer) (result : Result Status Lacks) (q after : Parts) (ws later : Wishes) → message ≡ message_in word.address word.payload
    → Tells (heading_of message None) (about_at place pic) result after later (run_on (send cpus message None (about_at place pic)) q ws) → ShowsBeside place pic (as_other result) after later (run_on (raise_other cpus None (Some word) source (about_at place pic)) q ws)
message_beside cpus word message source place pic result q after ws later is h =
    subst (λ m. ShowsBeside place pic (as_other result) after later (run_on (send cpus m None (about_at place pic) >>= (λ answer. done (Some answer))) q ws)) is
    (other_sent place pic result after later (send cpus message None (about_at place pic)) q ws (shows_sent message (about_at place pic) result after later (run_on (send cpus message None (about_at place pic)) q ws) h))

-- a pin that sends its message is a target whose message is sent
sends_so : (cpus pin : ℕ) (about : About) (message : Message) → ioapic_answered cpus pin about (raises.Send message) ≡ (send_of_pin cpus pin message about >>= (λ answer. done (Some answer)))
sends_so cpus pin about message =
    ap (λ f. send cpus message None about >>= f) (λ i answer. ends (is_accepted message answer) answer i)
    ∙ sym (bind-assoc (λ answer. accept_pin pin (is_accepted message answer) >> done answer) (λ answer. done (Some answer)) (send cpus message None about))
  where
    ends : (t : Bool) (answer : TargetAnswer) → (accept_pin pin t >> done (Some answer)) ≡ (accept_pin pin t >> done answer >>= (λ a. done (Some a)))
    ends true answer = refl
    ends false answer = refl

module _ (cpus pin : ℕ) (msi : Option MsiWord) (source : Source) (place : Place) (pic : Option TargetAnswer) (q : Parts) (ws : Wishes) where
  abbrev other : Plan (Option TargetAnswer)
  other = raise_other cpus (Some pin) msi source (about_at place pic)

  abbrev answers : Raise → Plan (Option TargetAnswer)
  answers answer = ioapic_answered cpus pin (about_at place pic) answer

  pub pin_not_there : (p : Part) → StopsAt p (run_on (raise_ioapic pin source) q ws) → StopsAt p (run_on other q ws)
  pin_not_there p h = stops_first answers (raise_ioapic pin source) q ws p h

  module _ (answer : Raise) (r : Parts) (vs : Wishes) (raised : EndsWith answer [] [] r vs (run_on (raise_ioapic pin source) q ws)) where
    pub pin_answers : (result : Result (Option Status) Lacks) (after : Parts) (later : Wishes) → ShowsBeside place pic result after later (run_on (answers answer) r vs) → ShowsBeside place pic result after later (run_on other q ws)
    pin_answers (Ok status) after later h =
        then_ends answers (raise_ioapic pin source) q ws answer [] [] r vs (option_map answer_in status) (events_at place (shown_beside pic status)) (replies_at place (shown_beside pic status)) after later raised h
    pin_answers (Err l) after later h = then_stops answers (raise_ioapic pin source) q ws answer [] [] r vs l.part raised h

  pub masked_shows : (r : Parts) (vs : Wishes) → ShowsBeside place pic (Ok (Some (Ignored Masked))) r vs (run_on (answers raises.Masked) r vs)
  masked_shows r vs = at place
    where
      at : (place : Place) → ShowsBeside place pic (Ok (Some (Ignored Masked))) r vs (run_on (ioapic_answered cpus pin (about_at place pic) raises.Masked) r vs)
      at in_reply = record { value_is = refl; events_are = refl; replies_are = refl; parts = refl; wishes = refl }
      at (in_event gsi) = record { value_is = refl; events_are = refl; replies_are = refl; parts = refl; wishes = refl }

  pub stood_shows : (none : set.FinSet nat_cmp) → none ≡ set.empty → (r : Parts) (vs : Wishes) → ShowsBeside place pic (Ok (Some (Coalesced none))) r vs (run_on (answers raises.Stood) r vs)
  stood_shows none is r vs = subst (λ (s : set.FinSet nat_cmp). ShowsBeside place pic (Ok (Some (Coalesced s))) r vs (run_on (answers raises.Stood) r vs)) (sym is) (at place)
    where
      at : (place : Place) → ShowsBeside place pic (Ok (Some (Coalesced set.empty))) r vs (run_on (ioapic_answered cpus pin (about_at place pic) raises.Stood) r vs)
      at in_reply = record { value_is = refl; events_are = refl; replies_are = refl; parts = refl; wishes = refl }
      at (in_event gsi) = record { value_is = refl; events_are = refl; replies_are = refl; parts = refl; wishes = refl }

  pub sent_shows : (message : Message) (result : Result Status Lacks) (r after : Parts) (vs later : Wishes) → ShowsSent (about_at place pic) result after later (run_on (send_of_pin cpus pin message (about_at place pic)) r vs) → ShowsBeside place pic (as_other result) after later (run_on (answers (raises.Send message)) r vs)
  sent_shows message result r after vs later h =
      subst (λ m. ShowsBeside place pic (as_other result) after later (run_on m r vs)) (sym (sends_so cpus pin (about_at place pic) message))
      (other_sent place pic result after later (send_of_pin cpus pin message (about_at place pic)) r vs h)

-- ---- a signal

-- the status without its sets is that with nobody reached
status_without : (pic other : Option TargetAnswer) (sent : Sent) → without_sets (status_of pic other sent) ≡ status_of pic other nobody
status_without pic other sent = by (took pic || took other) (stands pic || stands other)
  where
    by : (t s : Bool) → without_sets (if t then Delivered sent.new sent.stood (took pic) else if s then Coalesced sent.stood else Ignored (first_cause pic other)) ≡ (if t then Delivered set.empty set.empty (took pic) else if s then Coalesced set.empty else Ignored (first_cause pic other))
    by true s = refl
    by false true = refl
    by false false = refl

module _ (cpus : ℕ) (targets : Targets) (source : Source) (place : Place) (q : Parts) (ws : Wishes) where
  abbrev ends : Option TargetAnswer → Option TargetAnswer → Plan Status
  ends pic other = done (status_of pic other nobody)

  abbrev others : Option TargetAnswer → Plan (Option TargetAnswer)
  others pic = raise_other cpus targets.ioapic targets.msi source (about_at place pic)

  abbrev after_pic : Option TargetAnswer → Plan Status
  after_pic pic = others pic >>= ends pic

  pub raise_lacks_pic : (p : Part) → StopsAt p (run_on (raise_pic targets.pic source) q ws) → StopsAt p (run_on (raise cpus targets source (about_at place)) q ws)
  raise_lacks_pic p h = stops_first after_pic (raise_pic targets.pic source) q ws p h

  module _ (pic : Option TargetAnswer) (r : Parts) (vs : Wishes) (first : EndsWith pic [] [] r vs (run_on (raise_pic targets.pic source) q ws)) where
    pub raise_lacks : (p : Part) → StopsAt p (run_on (others pic) r vs) → StopsAt p (run_on (raise cpus targets source (about_at place)) q ws)
    raise_lacks p h = then_stops after_pic (raise_pic targets.pic source) q ws pic [] [] r vs p first (stops_first (ends pic) (others pic) r vs p h)

    pub raise_shows : (other : Option Status) (status : Status) (s : Parts) (us : Wishes) → status ≡ shown_beside pic other → ShowsBeside place pic (Ok other) s us (run_on (others pic) r vs) → Shows place (Ok status) s us (run_on (raise cpus targets source (about_at place)) q ws)
    raise_shows other status s us is h =
        subst (λ x. Shows place (Ok x) s us (run_on (raise cpus targets source (about_at place)) q ws)) (sym is)
        (subst (λ x. EndsWith x (events_at place (shown_beside pic other)) (replies_at place (shown_beside pic other)) s us (run_on (raise cpus targets source (about_at place)) q ws)) (sym (status_without pic (option_map answer_in other) _))
        (then_ends after_pic (raise_pic targets.pic source) q ws pic [] [] r vs (status_of pic (option_map answer_in other) nobody) (events_at place (shown_beside pic other)) (replies_at place (shown_beside pic other)) s us first
        (then_done (λ o. status_of pic o nobody) (others pic) r vs (option_map answer_in other) (events_at place (shown_beside pic other)) (replies_at place (shown_beside pic other)) s us h)))

-- ---- an injection

module _ (cpus : ℕ) (targets : Targets) (source : Source) (place : Place) (q : Parts) (ws : Wishes) where
  abbrev lets_go : Status → Plan Status
  lets_go status = let_go_after targets source >> done status

  pub inject_lacks : (p : Part) → StopsAt p (run_on (raise cpus targets source (about_at place)) q ws) → StopsAt p (run_on (inject cpus targets source (about_at place)) q ws)
  inject_lacks p h = stops_first lets_go (raise cpus targets source (about_at place)) q ws p h

  module _ (status : Status) (r : Parts) (vs : Wishes) (first : Shows place (Ok status) r vs (run_on (raise cpus targets source (about_at place)) q ws)) where
    pub inject_shows : (s : Parts) (us : Wishes) → EndsWith tt [] [] s us (run_on (let_go_after targets source) r vs) → Shows place (Ok status) s us (run_on (inject cpus targets source (about_at place)) q ws)
    inject_shows s us h =
        then_quiet lets_go (raise cpus targets source (about_at place)) q ws (without_sets status) (events_at place status) (replies_at place status) r vs (without_sets status) s us first
        (then_done (λ _. without_sets status) (let_go_after targets source) r vs tt [] [] s us h)

    pub inject_stops : (p : Part) → StopsAt p (run_on (let_go_after targets source) r vs) → StopsAt p (run_on (inject cpus targets source (about_at place)) q ws)
    inject_stops p h =
        then_stops lets_go (raise cpus targets source (about_at place)) q ws (without_sets status) (events_at place status) (replies_at place status) r vs p first
        (stops_first (λ _. done (without_sets status)) (let_go_after targets source) r vs p h)

-- ---- to let go

pub let_go_next : (targets : Targets) (source : Source) (q r s : Parts) (ws : Wishes) (result : Result (Unit {0}) Lacks) → EndsWith tt [] [] r ws (run_on (let_go_pic targets.pic source) q ws) → Leaves result s ws (run_on (let_go_ioapic targets.ioapic source) r ws) → Leaves result s ws (run_on (let_go targets source) q ws)
let_go_next targets source q r s ws (Ok u) first h = then_ends (λ _. let_go_ioapic targets.ioapic source) (let_go_pic targets.pic source) q ws tt [] [] r ws tt [] [] s ws first h
let_go_next targets source q r s ws (Err l) first h = then_stops (λ _. let_go_ioapic targets.ioapic source) (let_go_pic targets.pic source) q ws tt [] [] r ws l.part first h

-- ---- what is needed

module _ (cpus : ℕ) (targets : Targets) (source : Source) (q : Parts) (ws : Wishes) where
  pub raise_needs : (p : Part) → StopsAt p (run_on (raise cpus targets source (about_at in_reply)) q ws) → IsNeeded p q (λ b. of_raise b targets cpus)
  raise_needs p h = stops_needs (raise cpus targets source (about_at in_reply)) q ws (λ b. of_raise b targets cpus) (λ b part. (signals_reach_the_same cpus targets source (about_at in_reply) b ws part).raised) p h

  pub raise_holds : (status : Status) (r : Parts) (vs : Wishes) → Shows in_reply (Ok status) r vs (run_on (raise cpus targets source (about_at in_reply)) q ws) → HoldsNeeded q (λ b. of_raise b targets cpus)
  raise_holds status r vs h = ends_holds (raise cpus targets source (about_at in_reply)) q ws (λ b. of_raise b targets cpus) (λ b part. (signals_reach_the_same cpus targets source (about_at in_reply) b ws part).raised) (without_sets status) (events_at in_reply status) (replies_at in_reply status) r vs h

  pub inject_needs : (p : Part) → StopsAt p (run_on (inject cpus targets source (about_at in_reply)) q ws) → IsNeeded p q (λ b. of_raise b targets cpus)
  inject_needs p h = stops_needs (inject cpus targets source (about_at in_reply)) q ws (λ b. of_raise b targets cpus) (λ b part. (signals_reach_the_same cpus targets source (about_at in_reply) b ws part).injected) p h

module _ (targets : Targets) (source : Source) (q : Parts) (ws : Wishes) where
  falls : (b : Board) (part : Part) → reaches (let_go targets source) b ws part ≡ of_fall targets part
  falls b part = let_go_by part targets.pic targets.ioapic targets.msi source b ws

  pub fall_needs : (p : Part) → StopsAt p (run_on (let_go targets source) q ws) → IsNeeded p q (λ _. of_fall targets)
  fall_needs p h = stops_needs (let_go targets source) q ws (λ _. of_fall targets) falls p h

  pub fall_holds : (r : Parts) (vs : Wishes) → EndsWith tt [] [] r vs (run_on (let_go targets source) q ws) → HoldsNeeded q (λ _. of_fall targets)
  fall_holds r vs h = ends_holds (let_go targets source) q ws (λ _. of_fall targets) falls tt [] [] r vs h
