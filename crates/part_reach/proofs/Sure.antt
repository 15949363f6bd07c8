-- A part that the table of reach names is reached on every board.
use Rattle.std.proofs.Common.{◌≡◌, ℕ, ◌≤◌, Bool, true, false, nat_eq, nat_lt, [], ◌∷◌, is_some, Some, None, refl, sym, ap, ◌∙◌, subst, arith}
use Rattle.std.proofs.lemmas.Bool.Decides.{nat_tests}
use Rattle.std.specs.Prelude.{not, ◌&&◌, ◌||◌, ◌==◌, if◌then◌else◌, IfSome}
use Rattle.std.specs.declared.option.Option.{Option}
use Rattle.irq_bits.specs.Fields.{bits_of}
use Rattle.irq_base.specs.Refusals.{first_of}
use Rattle.irq_base.specs.declared.call.Call.{Call}
use Rattle.irq_base.specs.declared.call.Call.TheVariants as calls
use Rattle.irq_base.specs.declared.call.Caller.{Caller}
use Rattle.irq_base.specs.declared.message.Message.{Message}
use Rattle.irq_base.specs.declared.shape.Part.{Part}
use Rattle.irq_base.specs.declared.shape.Part.TheVariants.{Registry, Pic, Ioapic, Lapic}
use Rattle.irq_base.specs.declared.shape.Shape.{Shape}
use Rattle.pic_8259a.specs.Pair.{is_port}
use Rattle.dest_match.specs.declared.destination.TheConstants.{BROADCAST}
use Rattle.lapic.specs.Messages.{is_taken}
use Rattle.msi_decode.specs.Messages.{message_in, message_of}
use Rattle.board_model.specs.Board.{Board}
use Rattle.board_model.specs.Routing.{routing_of_registry}
use Rattle.board_raise.specs.ReachLaws.{of_message, is_of_one}
use Rattle.board_raise.specs.Send.{numbers_below}
use Rattle.board_ack.specs.ReachLaws.{of_acknowledge_each}
use Rattle.board_calls.specs.Calls.{number_of}
use Rattle.board_calls.specs.Refusals.{range_reasons, is_ioapic_address, is_lapic_address}
use Rattle.board_step.specs.Reach.{of_call, reach}
use Rattle.part_reach.specs.Sure.{IsSure, named_alone, sure_part}
use Rattle.part_reach.proofs.Copied.{number_itself}
use Rattle.irq_bits.specs.declared.limits.TheConstants.{MAX_CPUS}

-- ---- messages

-- what a message of no sender reaches, by its tests
abbrev of_tests : Message → ℕ → Part → Bool → Bool → Bool → Bool → Bool
of_tests message cpus q taken logical all low =
    taken && is_of_one (if logical then numbers_below cpus else if all then numbers_below cpus else if low then message.dest ∷ [] else []) q

alone_is_reached : (message : Message) (cpus : ℕ) → cpus ≤ MAX_CPUS → IfSome (named_alone (Some message) cpus) (λ p. of_message message None cpus p ≡ true)
alone_is_reached message cpus few = by (is_taken message.mode) refl message.logical refl (nat_lt message.dest cpus) refl
  where
    by : (taken : Bool) → is_taken message.mode ≡ taken → (logical : Bool) → message.logical ≡ logical → (low : Bool) → nat_lt message.dest cpus ≡ low
        → IfSome (if taken && (not logical && low) then Some (Lapic message.dest) else None) (λ p. of_message message None cpus p ≡ true)
    by true taken false logical true low =
        let one : nat_eq message.dest BROADCAST ≡ false = (grind (arith, nat_tests)) in
        let reached : of_tests message cpus (Lapic message.dest) true false false true ≡ true = ap (λ t. t || false) (number_itself message.dest) in
        (λ i. of_tests message cpus (Lapic message.dest) (taken i) (logical i) (one i) (low i)) ∙ reached
    by true taken false logical false low = tt
    by true taken true logical l low = tt
    by false taken g logical l low = tt

message_is_reached : (address payload cpus : ℕ) → cpus ≤ MAX_CPUS → IfSome (named_alone (message_of address payload) cpus) (λ p. of_message (message_in address payload) None cpus p ≡ true)
message_is_reached address payload cpus few = by (bits_of address 63 20 == 0xfee)
  where
    by : (good : Bool) → IfSome (named_alone (if good then Some (message_in address payload) else None) cpus) (λ p. of_message (message_in address payload) None cpus p ≡ true)
    by true = alone_is_reached (message_in address payload) cpus few
    by false = tt

-- ---- the table

-- what is reached by whether a test holds
by_test : (t : Bool) (x y : Option Part) (u v : Part → Bool) → IfSome x (λ p. u p ≡ true) → IfSome y (λ p. v p ≡ true)
    → IfSome (if t then x else y) (λ p. (if t then u p else v p) ≡ true)
by_test t x y u v here there = elim t as (λ t. IfSome (if t then x else y) (λ p. (if t then u p else v p) ≡ true)) [ true ↦ here | false ↦ there ]

itself_or : (n : ℕ) (rest : Bool) → (nat_eq n n || rest) ≡ true
itself_or n rest = ap (λ t. t || rest) (number_itself n)

abbrev row : Board → ℕ → Call → Part → Bool
row b n call q = of_call of_acknowledge_each (routing_of_registry b.registry b.shape.tick) b.shape b n call q

in_table : (b : Board) (n : ℕ) (call : Call) → b.shape.cpus ≤ MAX_CPUS → IfSome (sure_part b.shape n call) (λ p. row b n call p ≡ true)
in_table b n (calls.Line gsi line high) few = tt
in_table b n (calls.Msi address payload) few = message_is_reached address payload b.shape.cpus few
in_table b n (calls.Write counter count) few = tt
in_table b n (calls.Take counter) few = refl
in_table b n (calls.Assign trigger gsi resample) few = refl
in_table b n (calls.Deassign trigger gsi) few = refl
in_table b n (calls.Reroute rows) few = refl
in_table b n (calls.Attach space address len counter want) few = refl
in_table b n (calls.Detach space address len counter want) few = refl
in_table b n (calls.Watch counter gsi) few = refl
in_table b n (calls.Unwatch counter gsi) few = refl
in_table b n calls.Tick few = refl
in_table b n (calls.TickMode reinject) few = refl
in_table b n (calls.PortOut port len value) few = by_test (is_port port) (Some Pic) (Some Registry) _ _ refl refl
in_table b n (calls.PortIn port len) few = by_test (is_port port) (Some Pic) None _ _ refl tt
in_table b n (calls.Store address len value) few =
    by_test (is_ioapic_address address) (Some Ioapic) _ _ _ refl (by_test (is_lapic_address address) (Some (Lapic n)) (Some Registry) _ _ (itself_or n _) refl)
in_table b n (calls.Load address len) few =
    by_test (is_ioapic_address address) (Some Ioapic) _ _ _ refl (by_test (is_lapic_address address) (Some (Lapic n)) None _ _ (number_itself n) tt)
in_table b n calls.Ack few = itself_or n _
in_table b n calls.Inta few = refl
in_table b n calls.Eoi few = itself_or n _

-- ---- every board

module _ (shape : Shape) (caller : Caller) (call : Call) (few : shape.cpus ≤ MAX_CPUS) (range : first_of (range_reasons shape call) ≡ None) where
  -- what the table tells of a part on one board
  on_board : (b : Board) → b.shape ≡ shape → (o : Option Part) → IfSome o (λ p. row b (number_of caller) call p ≡ true) → IfSome o (λ p. reach b caller call p ≡ true)
  on_board b same None told = tt
  on_board b same (Some p) told =
      let here : first_of (range_reasons b.shape call) ≡ None = ap (λ s. first_of (range_reasons s call)) same ∙ range in
      λ i. not (is_some (here i)) && told i

  on_each : (o : Option Part) → ((b : Board) → b.shape ≡ shape → IfSome o (λ p. reach b caller call p ≡ true)) → IfSome o (IsSure shape caller call)
  on_each None told = tt
  on_each (Some p) told = told

  pub sure_is_reached : (o : Option Part) → o ≡ sure_part shape (number_of caller) call → IfSome o (IsSure shape caller call)
  sure_is_reached o is = on_each o (λ b same. on_board b same o
      (subst (λ x. IfSome x (λ p. row b (number_of caller) call p ≡ true)) (ap (λ s. sure_part s (number_of caller) call) same ∙ sym is)
      (in_table b (number_of caller) call (subst (λ (s : Shape). s.cpus ≤ MAX_CPUS) (sym same) few))))
