-- A sending on the parts in hand is one on the row of the local APICs.
use Rattle.std.proofs.Common.{◌≡◌, ℕ, true, false, not, nat_eq, if◌then◌else◌, List, [], ◌∷◌, refl, sym, ap, ◌∙◌, Some, None}
use Rattle.std.specs.declared.option.Option.{Option}
use Rattle.std.specs.List.{list_any}
use Rattle.std.specs.FinSet as set
use Rattle.irq_bits.specs.Members.{Numbers}
use Rattle.irq_base.specs.declared.message.Message.{Message}
use Rattle.irq_base.specs.declared.shape.Part.TheVariants.{Lapic}
use Rattle.irq_base.specs.declared.status.Cause.TheVariants.{NoProcessor, BadVector, Mode as BadMode}
use Rattle.lapic.specs.declared.outcome.Shorthand.{Shorthand}
use Rattle.lapic.specs.Registers.{LocalApic}
use Rattle.lapic.specs.Messages.{is_taken, accepted}
use Rattle.board_model.specs.Hand.{Parts, with_part_in}
use Rattle.board_model.specs.Statuses.{message_answer}
use Rattle.board_model.specs.Plan.{About, Plan, done, put, ◌>>=◌, ◌>>◌}
use Rattle.board_model.specs.Run.{silence, both, sending, Wishes, next_wish, later_wishes, OnParts, gives, lacks, with_log_on, run_on, then_on}
use Rattle.board_model.specs.Following.{reached}
use Rattle.board_model.proofs.Sequence.{run_on-bind}
use Rattle.board_raise.specs.Named.{Processor, named_by, numbers_of}
use Rattle.board_raise.specs.Send.{ignore, reached_by, see_each, is_illegal, accept_each, refuse_vector, deliver, send_to, send}
use Rattle.board_raise.specs.OnRow.{Row, apic_in, missing_or, first_missing, with_processor, processors_in, accepted_at, accepted_by, named_in, sent_in}
use Rattle.board_raise.proofs.SendExactly.{Apart, of_reached, below_apart, only_apart}
use Rattle.board_raise.proofs.Each.{nobody_told}
use Rattle.board_raise.proofs.Rows.{Same, same_itself, same_after}

-- ---- the processors that are looked at

-- processors that are found, or the first that is lacking
abbrev found : Option ℕ → List Processor → Parts → Wishes → OnParts (List Processor)
found None ps q ws = gives ps silence q ws
found (Some n) ps q ws = lacks (Lapic n)

unlogged : {A : Type 0} (o : OnParts A) → with_log_on (both silence) o ≡ o
unlogged (gives a l q ws) = refl
unlogged (lacks p) = refl

module _ (q : Parts) (ws : Wishes) where
  seen_each : (ns : List ℕ) → run_on (see_each ns) q ws ≡ found (first_missing q.lapics ns) (processors_in q.lapics ns) q ws
  seen_each [] = refl
  seen_each (n ∷ ns) = elim (apic_in q.lapics n) as (λ (x : Option LocalApic). (elim x [ None ↦ lacks (Lapic n) | Some v ↦ run_on (see_each ns >>= before v) q ws ]) ≡ found (missing_or n x (first_missing q.lapics ns)) (with_processor n x (processors_in q.lapics ns)) q ws) [
    | None ↦ refl
    | Some v ↦ run_on-bind (before v) (see_each ns) q ws ∙ ap (λ o. then_on o (before v)) (seen_each ns) ∙ one_more v (first_missing q.lapics ns)
  ]
    where
      before : LocalApic → List Processor → Plan (List Processor)
      before v rest = done (record { number = n; apic = v } ∷ rest)

      one_more : (v : LocalApic) (m : Option ℕ) → then_on (found m (processors_in q.lapics ns) q ws) (before v) ≡ found m (record { number = n; apic = v } ∷ processors_in q.lapics ns) q ws
      one_more v None = refl
      one_more v (Some k) = refl

  module _ {A : Type 0} (f : List Processor → Plan A) (ns : List ℕ) where
    seen : run_on (see_each ns >>= f) q ws ≡ then_on (found (first_missing q.lapics ns) (processors_in q.lapics ns) q ws) f
    seen = run_on-bind f (see_each ns) q ws ∙ ap (λ o. then_on o f) (seen_each ns)

    -- where one is not in hand, it is lacking
    pub after_lacking : (n : ℕ) → first_missing q.lapics ns ≡ Some n → run_on (see_each ns >>= f) q ws ≡ lacks (Lapic n)
    after_lacking n missing = seen ∙ ap (λ m. then_on (found m (processors_in q.lapics ns) q ws) f) missing

    -- where all are in hand, it goes on with them
    pub after_seen : first_missing q.lapics ns ≡ None → run_on (see_each ns >>= f) q ws ≡ run_on (f (processors_in q.lapics ns)) q ws
    after_seen all = seen ∙ ap (λ m. then_on (found m (processors_in q.lapics ns) q ws) f) all ∙ unlogged (run_on (f (processors_in q.lapics ns)) q ws)

-- ---- the processors that accept

-- the parts with other local APICs
abbrev pub with_row : Parts → Row → Parts
with_row q row = record q { lapics = row }

Some≢None : {X : Type 0} (x : X) → Some x ≡ None → ⊥
Some≢None x h = cc

module _ {A : Type 0} (message : Message) (takers : Numbers) (rest : Plan A) (ws : Wishes) (row : Row) where
  abbrev Goes : List ℕ → Parts → Type 0
  Goes ns q = run_on (accept_each message takers (processors_in row ns) >> rest) q ws ≡ run_on rest (with_row q (accepted_by message takers ns q.lapics)) ws

  one_more : (n : ℕ) (ns : List ℕ) (q : Parts) → list_any (λ m. nat_eq m n) ns ≡ false → apic_in q.lapics n ≡ apic_in row n → Same q.lapics row ns → ((other : Parts) → Same other.lapics row ns → Goes ns other)
      → (x : Option LocalApic) → apic_in row n ≡ x → missing_or n x (first_missing row ns) ≡ None
      → run_on (accept_each message takers (with_processor n x (processors_in row ns)) >> rest) q ws ≡ run_on rest (with_row q (accepted_by message takers (n ∷ ns) q.lapics)) ws
  one_more n ns q apart first same later None here all = absurd (Some≢None n all)
  one_more n ns q apart first same later (Some v) here all =
      let there : apic_in q.lapics n ≡ Some v = first ∙ here in
      elim (set.contains takers n) as (λ t.
      run_on ((if t then put (Lapic n) (accepted v message) (accept_each message takers (processors_in row ns)) else accept_each message takers (processors_in row ns)) >> rest) q ws
      ≡ run_on rest (with_row q (accepted_by message takers ns (if t then accepted_at n (apic_in q.lapics n) message q.lapics else q.lapics))) ws) [
        | true ↦
            ap (λ (x : Option LocalApic). elim x [ None ↦ lacks (Lapic n) | Some _ ↦ run_on (accept_each message takers (processors_in row ns) >> rest) (with_part_in q (Lapic n) (accepted v message)) ws ]) there
            ∙ later (with_part_in q (Lapic n) (accepted v message)) (same_after q.lapics row n (Some (accepted v message)) ns apart same)
            ∙ ap (λ x. run_on rest (with_row q (accepted_by message takers ns (accepted_at n x message q.lapics))) ws) (sym there)
        | false ↦ later q same
      ]

  present_later : (n : ℕ) (x : Option LocalApic) (m : Option ℕ) → missing_or n x m ≡ None → m ≡ None
  present_later n None m h = absurd (Some≢None n h)
  present_later n (Some v) m h = h

  accepting : (ns : List ℕ) → Apart ns → first_missing row ns ≡ None → (q : Parts) → Same q.lapics row ns → Goes ns q
  unfolding Apart Same
  accepting [] apart all q same = refl
  accepting (n ∷ ns) apart all q same = one_more n ns q apart.0 same.0 same.1 (accepting ns apart.1 (present_later n (apic_in row n) (first_missing row ns) all)) (apic_in row n) refl all

-- ---- a sending

-- no number stands twice among the processors that are looked at
pub reached_apart : (message : Message) (from : Option (ℕ × Shorthand)) (cpus : ℕ) → Apart (reached_by message from cpus)
reached_apart message from cpus = of_reached message cpus Apart (below_apart cpus) (only_apart cpus) from

module _ (cpus : ℕ) (message : Message) (from : Option (ℕ × Shorthand)) (about : About) (q : Parts) (ws : Wishes) where
  -- a mode that no local APIC takes
  pub send-bad_mode : is_taken message.mode ≡ false → run_on (send cpus message from about) q ws ≡ run_on (ignore about BadMode) q ws
  send-bad_mode h = ap (λ t. run_on (if not t then ignore about BadMode else (see_each (reached_by message from cpus) >>= (λ ps. send_to message from about ps (named_by message from ps)))) q ws) h

  module _ (taken : is_taken message.mode ≡ true) where
    begins : run_on (send cpus message from about) q ws ≡ run_on (see_each (reached_by message from cpus) >>= (λ ps. send_to message from about ps (named_by message from ps))) q ws
    begins = ap (λ t. run_on (if not t then ignore about BadMode else (see_each (reached_by message from cpus) >>= (λ ps. send_to message from about ps (named_by message from ps)))) q ws) taken

    -- a local APIC that is not in hand
    pub send-lacking : (n : ℕ) → first_missing q.lapics (reached_by message from cpus) ≡ Some n → run_on (send cpus message from about) q ws ≡ lacks (Lapic n)
    send-lacking n missing = begins ∙ after_lacking q ws (λ ps. send_to message from about ps (named_by message from ps)) (reached_by message from cpus) n missing

    module _ (all : first_missing q.lapics (reached_by message from cpus) ≡ None) where
      looked : run_on (send cpus message from about) q ws ≡ run_on (send_to message from about (processors_in q.lapics (reached_by message from cpus)) (named_in q.lapics (reached_by message from cpus) message from)) q ws
      looked = begins ∙ after_seen q ws (λ ps. send_to message from about ps (named_by message from ps)) (reached_by message from cpus) all

      -- nobody is named
      pub send-nobody : numbers_of (named_in q.lapics (reached_by message from cpus) message from) ≡ set.empty → run_on (send cpus message from about) q ws ≡ run_on (ignore about NoProcessor) q ws
      send-nobody none = looked ∙ ap (λ ps. run_on (send_to message from about (processors_in q.lapics (reached_by message from cpus)) ps) q ws) (nobody_told _ none)

      -- somebody is named
      named_some : (named : List Processor) → (numbers_of named ≡ set.empty → ⊥)
          → run_on (send_to message from about (processors_in q.lapics (reached_by message from cpus)) named) q ws
          ≡ run_on (if is_illegal message then refuse_vector message about (processors_in q.lapics (reached_by message from cpus)) named else deliver message from about (processors_in q.lapics (reached_by message from cpus)) named) q ws
      named_some [] some = absurd (some refl)
      named_some (p ∷ ps) some = refl

      module _ (some : numbers_of (named_in q.lapics (reached_by message from cpus) message from) ≡ set.empty → ⊥) where
        to_named : run_on (send cpus message from about) q ws
            ≡ run_on (if is_illegal message then refuse_vector message about (processors_in q.lapics (reached_by message from cpus)) (named_in q.lapics (reached_by message from cpus) message from) else deliver message from about (processors_in q.lapics (reached_by message from cpus)) (named_in q.lapics (reached_by message from cpus) message from)) q ws
        to_named = looked ∙ named_some _ some

        -- an illegal vector, which each named one records
        pub send-illegal : is_illegal message ≡ true → run_on (send cpus message from about) q ws
            ≡ run_on (ignore about BadVector) (with_row q (accepted_by message (numbers_of (named_in q.lapics (reached_by message from cpus) message from)) (reached_by message from cpus) q.lapics)) ws
        send-illegal illegal =
            to_named
            ∙ ap (λ t. run_on (if t then refuse_vector message about (processors_in q.lapics (reached_by message from cpus)) (named_in q.lapics (reached_by message from cpus) message from) else deliver message from about (processors_in q.lapics (reached_by message from cpus)) (named_in q.lapics (reached_by message from cpus) message from)) q ws) illegal
            ∙ accepting message _ (ignore about BadVector) ws q.lapics (reached_by message from cpus) (reached_apart message from cpus) all q (same_itself q.lapics (reached_by message from cpus))

        -- it is delivered
        pub send-delivered : is_illegal message ≡ false → run_on (send cpus message from about) q ws
            ≡ gives (message_answer (sent_in q.lapics (reached_by message from cpus) message from (next_wish ws)))
            (sending (record { message = message; from = from }) about (sent_in q.lapics (reached_by message from cpus) message from (next_wish ws)) silence)
            (with_row q (accepted_by message (reached (sent_in q.lapics (reached_by message from cpus) message from (next_wish ws))) (reached_by message from cpus) q.lapics))
            (later_wishes ws)
        send-delivered legal =
            to_named
            ∙ ap (λ t. run_on (if t then refuse_vector message about (processors_in q.lapics (reached_by message from cpus)) (named_in q.lapics (reached_by message from cpus) message from) else deliver message from about (processors_in q.lapics (reached_by message from cpus)) (named_in q.lapics (reached_by message from cpus) message from)) q ws) legal
            ∙ ap (with_log_on (sending (record { message = message; from = from }) about (sent_in q.lapics (reached_by message from cpus) message from (next_wish ws))))
            (accepting message _ (done (message_answer (sent_in q.lapics (reached_by message from cpus) message from (next_wish ws)))) (later_wishes ws) q.lapics (reached_by message from cpus) (reached_apart message from cpus) all q (same_itself q.lapics (reached_by message from cpus)))
