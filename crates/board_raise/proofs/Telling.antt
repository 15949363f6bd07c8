-- The status of a sending tells what its plan gives.
use Rattle.std.proofs.Common.{◌≡◌, ℕ, zero, suc, true, false, not, nat_eq, nat_lt, if◌then◌else◌, List, [], ◌∷◌, ◌++◌, length, slice_set, Some, None, Ok, Err, refl, sym, ap, subst, ◌∙◌, arith}
use Rattle.std.specs.Prelude.{Result, IfSome, is_some, option_map}
use Rattle.std.specs.declared.option.Option.{Option}
use Rattle.std.specs.FinSet as set
use Rattle.std.specs.Ordering.{nat_cmp}
use Rattle.irq_bits.specs.Members.{Numbers}
use Rattle.irq_base.specs.declared.event.Event.TheVariants.{Injected, Resent, Ipi}
use Rattle.irq_base.specs.declared.reply.Reply.TheVariants.{Signal}
use Rattle.irq_base.specs.declared.message.Message.{Message}
use Rattle.irq_base.specs.declared.shape.Shape.{Shape}
use Rattle.irq_base.specs.declared.shape.Part.{Part}
use Rattle.irq_base.specs.declared.shape.Part.TheVariants.{Registry, Counters, Tick, Pic, Ioapic, Lapic}
use Rattle.irq_base.specs.declared.status.Cause.{Cause}
use Rattle.irq_base.specs.declared.status.Cause.TheVariants.{NoProcessor, BadVector}
use Rattle.irq_base.specs.declared.status.Status.{Status}
use Rattle.irq_base.specs.declared.status.Status.TheVariants.{Delivered, Coalesced, Ignored, Lowered}
use Rattle.lapic.specs.declared.outcome.Shorthand.{Shorthand}
use Rattle.lapic.specs.Registers.{LocalApic, is_enabled}
use Rattle.lapic.specs.Messages.{is_nmi, is_taken, accepted, with_error, with_request}
use Rattle.board_model.specs.Hand.{Parts, part_in}
use Rattle.board_model.specs.Statuses.{Sent, TargetAnswer, newly_taken, stood_already, is_empty, message_answer, sets_of, status_of, status_sent}
use Rattle.board_model.specs.Plan.{Heading, About, injected, resent, ipi, the_reply, events_of, answers_of}
use Rattle.board_model.specs.Run.{Wishes, OnParts, gives, silence, sending, run_on, next_wish, later_wishes}
use Rattle.board_model.specs.Following.{reached}
use Rattle.board_raise.specs.declared.lacks.Lacks.{Lacks}
use Rattle.board_raise.specs.declared.parts.Parts as code
use Rattle.board_raise.specs.Fit.{LapicsFit}
use Rattle.board_raise.specs.InHand.{parts_of, number_in, OnlyApicsChange}
use Rattle.board_raise.specs.Named.{numbers_of}
use Rattle.board_raise.specs.Send.{ignore, reached_by, is_illegal, send}
use Rattle.board_raise.specs.OnRow.{Row, apic_in, first_missing, accepted_at, accepted_by, named_in, sent_in}
use Rattle.board_raise.specs.Told.{heading_of, status_told, answer_in, shown_with, events_told, answers_told, sendings_told, IsOfMessage, Tells}
use Rattle.board_raise.proofs.InHand.{is_some-map}
use Rattle.board_raise.proofs.OnHand.{with_row, send-lacking, send-nobody, send-illegal, send-delivered}

-- ---- what a status tells

told_ignored : (heading : Heading) (about : About) (cause : Cause) (q : Parts) (ws : Wishes) → Tells heading about (Ok (Ignored cause)) q ws (run_on (ignore about cause) q ws)
told_ignored heading (injected gsi pic) cause q ws = record { answer = refl; events = refl; answers = refl; sendings = refl; parts = refl; wishes = refl }
told_ignored heading (resent pin) cause q ws = record { answer = refl; events = refl; answers = refl; sendings = refl; parts = refl; wishes = refl }
told_ignored heading ipi cause q ws = record { answer = refl; events = refl; answers = refl; sendings = refl; parts = refl; wishes = refl }
told_ignored heading (the_reply pic) cause q ws = record { answer = refl; events = refl; answers = refl; sendings = refl; parts = refl; wishes = refl }

-- the status of a message that was sent tells its answer and its sets
answer-told : (sent : Sent) → answer_in (status_told sent) ≡ message_answer sent
answer-told sent = elim (is_empty sent.new) as (λ b. answer_in (if b then Coalesced sent.stood else Delivered sent.new sent.stood false) ≡ (if b then stood_already else newly_taken)) [
  | true ↦ refl
  | false ↦ refl
]

empty-is : (s : Numbers) → is_empty s ≡ true → s ≡ set.empty
empty-is s h = set.empty_of_len s (grind (h, arith))

sets-told : (sent : Sent) → sets_of (status_told sent) ≡ sent
sets-told sent = elim (is_empty sent.new) as (λ b. is_empty sent.new ≡ b → sets_of (if b then Coalesced sent.stood else Delivered sent.new sent.stood false) ≡ sent) [
  | true ↦ λ h. ap (λ (s : Numbers). record { new = s; stood = sent.stood }) (sym (empty-is sent.new h))
  | false ↦ λ _. refl
] refl

shown-told : (pic : Option TargetAnswer) (sent : Sent) → shown_with pic (status_told sent) ≡ status_sent pic sent
shown-told pic sent =
    ap (λ a. status_of pic (Some a) (sets_of (status_told sent))) (answer-told sent)
    ∙ ap (λ s. status_of pic (Some (message_answer sent)) s) (sets-told sent)

events-told : (about : About) (sent : Sent) → events_told about (status_told sent) ≡ events_of about sent ++ []
events-told (injected gsi pic) sent = ap (λ s. Injected gsi s ∷ []) (shown-told pic sent)
events-told (resent pin) sent = ap (λ s. Resent pin s ∷ []) (shown-told None sent)
events-told ipi sent = ap (λ s. Ipi s ∷ []) (shown-told None sent)
events-told (the_reply pic) sent = refl

answers-told : (about : About) (sent : Sent) → answers_told about (status_told sent) ≡ answers_of about sent ++ []
answers-told (injected gsi pic) sent = refl
answers-told (resent pin) sent = refl
answers-told ipi sent = refl
answers-told (the_reply pic) sent = ap (λ s. Signal s ∷ []) (shown-told pic sent)

sendings-told : (heading : Heading) (sent : Sent) → sendings_told heading (status_told sent) ≡ record { heading = heading; sent = sent } ∷ []
sendings-told heading sent =
    (elim (is_empty sent.new) as (λ b. sendings_told heading (if b then Coalesced sent.stood else Delivered sent.new sent.stood false) ≡ record { heading = heading; sent = sets_of (if b then Coalesced sent.stood else Delivered sent.new sent.stood false) } ∷ []) [
      | true ↦ refl
      | false ↦ refl
    ])
    ∙ ap (λ (s : Sent). record { heading = heading; sent = s } ∷ []) (sets-told sent)

told_sent : (heading : Heading) (about : About) (sent : Sent) (q : Parts) (ws : Wishes) → Tells heading about (Ok (status_told sent)) q ws (gives (message_answer sent) (sending heading about sent silence) q ws)
told_sent heading about sent q ws = record {
  answer = answer-told sent;
  events = events-told about sent;
  answers = answers-told about sent;
  sendings = sendings-told heading sent;
  parts = refl;
  wishes = refl;
}

-- the status by whether some processor newly took the request
pub status_told-none : (new stood : Numbers) → new ≡ set.empty → status_told (record { new = new; stood = stood }) ≡ Coalesced stood
status_told-none new stood none = ap (λ b. if b then Coalesced stood else Delivered new stood false) (ap is_empty none ∙ nobody)
  where
    nobody : is_empty set.empty ≡ true
    nobody = ap (λ n. nat_eq n 0) (set.len-empty nat_cmp)

pub status_told-some : (new stood : Numbers) → (new ≡ set.empty → ⊥) → status_told (record { new = new; stood = stood }) ≡ Delivered new stood false
status_told-some new stood some = elim (is_empty new) as (λ b. is_empty new ≡ b → (if b then Coalesced stood else Delivered new stood false) ≡ Delivered new stood false) [
  | true ↦ λ h. absurd (some (empty-is new h))
  | false ↦ λ _. refl
] refl

pub ruleset status_rules = (status_told-none, status_told-some)

-- the same of parts and wishes that equal those
told_at : (heading : Heading) (about : About) (result : Result Status Lacks) (o : OnParts TargetAnswer) (q r : Parts) (ws vs : Wishes) → q ≡ r → ws ≡ vs → Tells heading about result r vs o → Tells heading about result q ws o
told_at heading about result o q r ws vs e h t = subst (λ p. Tells heading about result p ws o) (sym e) (subst (λ w. Tells heading about result r w o) (sym h) t)

-- ---- the exits of a sending

module _ (cpus : ℕ) (message : Message) (from : Option (ℕ × Shorthand)) (about : About) (q : Parts) (ws : Wishes) where
  abbrev reach : List ℕ
  reach = reached_by message from cpus

  abbrev Told : Result Status Lacks → Parts → Wishes → Type 0
  Told result after later = Tells (heading_of message from) about result after later (run_on (send cpus message from about) q ws)

  module _ (taken : is_taken message.mode ≡ true) where
    pub told-lacking : (l : Lacks) (after : Parts) (later : Wishes) → option_map Lapic (first_missing q.lapics reach) ≡ Some l.part → Told (Err l) after later
    told-lacking l after later missing = elim (first_missing q.lapics reach) as (λ (o : Option ℕ). first_missing q.lapics reach ≡ o → option_map Lapic o ≡ Some l.part → Told (Err l) after later) [
      | None ↦ λ _ h. absurd (None≢Some l.part h)
      | Some n ↦ λ e h. subst (λ o. Tells (heading_of message from) about (Err l) after later o) (sym (send-lacking cpus message from about q ws taken n e)) (is_part n h)
    ] refl missing
      where
        None≢Some : (p : Part) → None ≡ Some p → ⊥
        None≢Some p h = cc

        is_part : (n : ℕ) → Some (Lapic n) ≡ Some l.part → l.part ≡ Lapic n
        is_part n h = cc

    module _ (all : first_missing q.lapics reach ≡ None) where
      pub told-nobody : numbers_of (named_in q.lapics reach message from) ≡ set.empty → Told (Ok (Ignored NoProcessor)) q ws
      told-nobody none = subst (λ o. Tells (heading_of message from) about (Ok (Ignored NoProcessor)) q ws o) (sym (send-nobody cpus message from about q ws taken all none)) (told_ignored (heading_of message from) about NoProcessor q ws)

      module _ (some : numbers_of (named_in q.lapics reach message from) ≡ set.empty → ⊥) where
        pub told-illegal : is_illegal message ≡ true → Told (Ok (Ignored BadVector)) (with_row q (accepted_by message (numbers_of (named_in q.lapics reach message from)) reach q.lapics)) ws
        told-illegal illegal =
            subst (λ o. Tells (heading_of message from) about (Ok (Ignored BadVector)) (with_row q (accepted_by message (numbers_of (named_in q.lapics reach message from)) reach q.lapics)) ws o)
            (sym (send-illegal cpus message from about q ws taken all some illegal))
            (told_ignored (heading_of message from) about BadVector (with_row q (accepted_by message (numbers_of (named_in q.lapics reach message from)) reach q.lapics)) ws)

        pub told-delivered : is_illegal message ≡ false → Told (Ok (status_told (sent_in q.lapics reach message from (next_wish ws)))) (with_row q (accepted_by message (reached (sent_in q.lapics reach message from (next_wish ws))) reach q.lapics)) (later_wishes ws)
        told-delivered legal =
            subst (λ o. Tells (heading_of message from) about (Ok (status_told (sent_in q.lapics reach message from (next_wish ws)))) (with_row q (accepted_by message (reached (sent_in q.lapics reach message from (next_wish ws))) reach q.lapics)) (later_wishes ws) o)
            (sym (send-delivered cpus message from about q ws taken all some legal))
            (told_sent (heading_of message from) about (sent_in q.lapics reach message from (next_wish ws)) (with_row q (accepted_by message (reached (sent_in q.lapics reach message from (next_wish ws))) reach q.lapics)) (later_wishes ws))

-- ---- the local APICs stay at their places

accepted-number : (a : LocalApic) (m : Message) → (accepted a m).number ≡ a.number
accepted-number a m = elim (is_nmi m.mode) as (λ b. (if b then record a { nmi = true } else if not (is_enabled a) then a else if nat_lt m.vector 16 then with_error a 6 else with_request a m).number ≡ a.number) [
  | true ↦ refl
  | false ↦ elim (not (is_enabled a)) as (λ b. (if b then a else if nat_lt m.vector 16 then with_error a 6 else with_request a m).number ≡ a.number) [
    | true ↦ refl
    | false ↦ elim (nat_lt m.vector 16) as (λ b. (if b then with_error a 6 else with_request a m).number ≡ a.number) [
      | true ↦ refl
      | false ↦ refl
    ]
  ]
]

-- a row of as many places, with local APICs of the same numbers at the same places
record StaysAt (old new : Row) : Type 0 where
  places : length new ≡ length old
  numbers : (n : ℕ) → number_in new n ≡ number_in old n

stays-itself : (row : Row) → StaysAt row row
stays-itself row = record { places = refl; numbers = λ n. refl }

stays-both : (a b c : Row) → StaysAt a b → StaysAt b c → StaysAt a c
stays-both a b c s t = record { places = t.places ∙ s.places; numbers = λ n. t.numbers n ∙ s.numbers n }

set-places : (row : Row) (k : ℕ) (x : Option LocalApic) → length (slice_set row k x) ≡ length row
set-places [] k x = refl
set-places (y ∷ ys) zero x = refl
set-places (y ∷ ys) (suc k) x = ap suc (set-places ys k x)

set-numbers : (row : Row) (k : ℕ) (a v : LocalApic) → apic_in row k ≡ Some v → a.number ≡ v.number → (n : ℕ) → number_in (slice_set row k (Some a)) n ≡ number_in row n
set-numbers [] k a v at same n = refl
set-numbers (y ∷ ys) zero a v at same zero = ap Some same ∙ sym (ap (option_map (λ (x : LocalApic). x.number)) at)
set-numbers (y ∷ ys) zero a v at same (suc n) = refl
set-numbers (y ∷ ys) (suc k) a v at same zero = refl
set-numbers (y ∷ ys) (suc k) a v at same (suc n) = set-numbers ys k a v at same n

stays-accepted : (message : Message) (row : Row) (n : ℕ) → StaysAt row (accepted_at n (apic_in row n) message row)
stays-accepted message row n = elim (apic_in row n) as (λ (o : Option LocalApic). apic_in row n ≡ o → StaysAt row (accepted_at n o message row)) [
  | None ↦ λ _. stays-itself row
  | Some v ↦ λ at. record { places = set-places row n (Some (accepted v message)); numbers = set-numbers row n (accepted v message) v at (accepted-number v message) }
] refl

stays-each : (message : Message) (takers : Numbers) (ns : List ℕ) (row : Row) → StaysAt row (accepted_by message takers ns row)
stays-each message takers [] row = stays-itself row
stays-each message takers (n ∷ ns) row =
    let first : StaysAt row (if set.contains takers n then accepted_at n (apic_in row n) message row else row) = elim (set.contains takers n) as (λ b. StaysAt row (if b then accepted_at n (apic_in row n) message row else row)) [
      | true ↦ stays-accepted message row n
      | false ↦ stays-itself row
    ] in
    stays-both row _ _ first (stays-each message takers ns (if set.contains takers n then accepted_at n (apic_in row n) message row else row))

-- the same parts are in hand with a row of the same numbers
held-row : (p : code.Parts) (row : Row) → ((n : ℕ) → number_in row n ≡ number_in p.lapics n) → (part : Part) → is_some (part_in (parts_of (record p { lapics = row })) part) ≡ is_some (part_in (parts_of p) part)
held-row p row same Registry = refl
held-row p row same Counters = refl
held-row p row same Tick = refl
held-row p row same Pic = refl
held-row p row same Ioapic = refl
held-row p row same (Lapic n) = sym (is_some-map (λ (a : LocalApic). a.number) (apic_in row n)) ∙ ap is_some (same n) ∙ is_some-map (λ (a : LocalApic). a.number) (apic_in p.lapics n)

pub only_apics : (message : Message) (takers : Numbers) (ns : List ℕ) (p : code.Parts) → OnlyApicsChange p (record p { lapics = accepted_by message takers ns p.lapics })
only_apics message takers ns p =
    let each = stays-each message takers ns p.lapics in
    record { held = held-row p (accepted_by message takers ns p.lapics) each.numbers; others = refl; places = each.places; numbers = each.numbers }

-- a local APIC with the number of the one that stood there
pub same_number : (n : ℕ) (x y : Option LocalApic) → option_map (λ (a : LocalApic). a.number) x ≡ option_map (λ (a : LocalApic). a.number) y → IfSome y (λ a. a.number ≡ n) → IfSome x (λ a. a.number ≡ n)
same_number n None y h is = tt
same_number n (Some a) None h is = absurd (some_none h)
  where
    some_none : Some a.number ≡ None → ⊥
    some_none e = cc
same_number n (Some a) (Some b) h is = same h ∙ is
  where
    same : Some a.number ≡ Some b.number → a.number ≡ b.number
    same e = cc

-- so they fit where they did
pub fits_still : (old new : code.Parts) → OnlyApicsChange old new → (shape : Shape) → LapicsFit shape (parts_of old) → LapicsFit shape (parts_of new)
fits_still old new only shape fit = record { places = only.places ∙ fit.places; numbers = λ n. same_number n (apic_in new.lapics n) (apic_in old.lapics n) (only.numbers n) (fit.numbers n) }

-- ---- the same, of the parts that a rig lent

-- only local APICs change where some of them accepted a message
pub only_at : (message : Message) (takers : Numbers) (ns : List ℕ) (old lent after : code.Parts) (row : Row) → lent ≡ old → row ≡ accepted_by message takers ns lent.lapics → after ≡ record lent { lapics = row } → OnlyApicsChange old after
only_at message takers ns old lent after row same accepts is =
    subst (λ p. OnlyApicsChange old p)
    (sym (is ∙ ap (λ (r : Row). record lent { lapics = r }) accepts ∙ ap (λ (p : code.Parts). record p { lapics = accepted_by message takers ns p.lapics }) same))
    (only_apics message takers ns old)

module _ (cpus : ℕ) (message : Message) (from : Option (ℕ × Shorthand)) (old : code.Parts) (ws : Wishes) (taken : is_taken message.mode ≡ true) where
  abbrev each : List ℕ
  each = reached_by message from cpus

  abbrev TellsOf : About → Result Status Lacks → code.Parts → Wishes → Type 0
  TellsOf about result after later = Tells (heading_of message from) about result (parts_of after) later (run_on (send cpus message from about) (parts_of old) ws)

  abbrev numbers_named : code.Parts → Numbers
  numbers_named p = numbers_of (named_in p.lapics each message from)

  pub lacking_at : (about : About) (lent after : code.Parts) (later : Wishes) (l : Lacks) → lent ≡ old → option_map Lapic (first_missing lent.lapics each) ≡ Some l.part → TellsOf about (Err l) after later
  lacking_at about lent after later l same missing =
      told-lacking cpus message from about (parts_of old) ws taken l (parts_of after) later (ap (λ (p : code.Parts). option_map Lapic (first_missing p.lapics each)) (sym same) ∙ missing)

  module _ (lent : code.Parts) (same : lent ≡ old) (all : first_missing lent.lapics each ≡ None) where
    all_of : first_missing old.lapics each ≡ None
    all_of = ap (λ (p : code.Parts). first_missing p.lapics each) (sym same) ∙ all

    module _ (named : Numbers) (is : named ≡ numbers_named lent) where
      named_of : named ≡ numbers_named old
      named_of = is ∙ ap numbers_named same

      pub nobody_at : (about : About) (after : code.Parts) (later : Wishes) → named ≡ set.empty → after ≡ lent → later ≡ ws → TellsOf about (Ok (Ignored NoProcessor)) after later
      nobody_at about after later none stays others =
          told_at (heading_of message from) about (Ok (Ignored NoProcessor)) (run_on (send cpus message from about) (parts_of old) ws) (parts_of after) (parts_of old) later ws (ap parts_of (stays ∙ same)) others
          (told-nobody cpus message from about (parts_of old) ws taken all_of (sym named_of ∙ none))

      module _ (some : named ≡ set.empty → ⊥) where
        some_of : numbers_named old ≡ set.empty → ⊥
        some_of none = some (named_of ∙ none)

        pub illegal_at : (about : About) (after : code.Parts) (row : Row) (later : Wishes) → is_illegal message ≡ true → row ≡ accepted_by message named each lent.lapics → after ≡ record lent { lapics = row } → later ≡ ws → TellsOf about (Ok (Ignored BadVector)) after later
        illegal_at about after row later illegal accepts stays others =
            told_at (heading_of message from) about (Ok (Ignored BadVector)) (run_on (send cpus message from about) (parts_of old) ws) (parts_of after) (with_row (parts_of old) (accepted_by message (numbers_named old) each old.lapics)) later ws
            (ap parts_of stays
            ∙ ap (λ (r : Row). parts_of (record lent { lapics = r })) (accepts ∙ ap (λ n. accepted_by message n each lent.lapics) named_of)
            ∙ ap (λ (p : code.Parts). parts_of (record p { lapics = accepted_by message (numbers_named old) each p.lapics })) same)
            others
            (told-illegal cpus message from about (parts_of old) ws taken all_of some_of illegal)

        pub delivered_at : (about : About) (again after : code.Parts) (row : Row) (wish : Numbers) (sent : Sent) (status : Status) (later : Wishes)
            → is_illegal message ≡ false → again ≡ old → wish ≡ next_wish ws → sent ≡ sent_in again.lapics each message from wish → status ≡ status_told sent
            → row ≡ accepted_by message (reached (sent_in again.lapics each message from wish)) each again.lapics → after ≡ record again { lapics = row } → later ≡ later_wishes ws → TellsOf about (Ok status) after later
        delivered_at about again after row wish sent status later legal same_again wished sends tells accepts stays others =
            let sent_is : sent_in again.lapics each message from wish ≡ sent_in old.lapics each message from (next_wish ws) =
            ap (λ (p : code.Parts). sent_in p.lapics each message from wish) same_again ∙ ap (λ w. sent_in old.lapics each message from w) wished in
            let row_is : row ≡ accepted_by message (reached (sent_in old.lapics each message from (next_wish ws))) each again.lapics =
            accepts ∙ ap (λ s. accepted_by message (reached s) each again.lapics) sent_is in
            let after_is : parts_of after ≡ with_row (parts_of old) (accepted_by message (reached (sent_in old.lapics each message from (next_wish ws))) each old.lapics) =
            ap parts_of stays
            ∙ ap (λ (r : Row). parts_of (record again { lapics = r })) row_is
            ∙ ap (λ (p : code.Parts). parts_of (record p { lapics = accepted_by message (reached (sent_in old.lapics each message from (next_wish ws))) each p.lapics })) same_again in
            subst (λ s. TellsOf about (Ok s) after later) (sym (tells ∙ ap status_told (sends ∙ sent_is)))
            (told_at (heading_of message from) about (Ok (status_told (sent_in old.lapics each message from (next_wish ws)))) (run_on (send cpus message from about) (parts_of old) ws) (parts_of after) (with_row (parts_of old) (accepted_by message (reached (sent_in old.lapics each message from (next_wish ws))) each old.lapics)) later (later_wishes ws) after_is others
            (told-delivered cpus message from about (parts_of old) ws taken all_of some_of legal))

-- a message alone shows the status that it has
pub shown_alone : (status : Status) → IsOfMessage status → shown_with None status ≡ status
shown_alone (Delivered new stood pic) none = ap (λ b. Delivered new stood b) (sym none)
shown_alone (Coalesced stood) none = refl
shown_alone (Ignored cause) none = refl
shown_alone Lowered none = absurd none
