-- A sending reaches the same under all wishes.
use Rattle.std.proofs.Common.{◌≡◌, ℕ, Bool, true, false, not, ◌&&◌, ◌||◌, if◌then◌else◌, List, [], ◌∷◌, refl, sym, ap, ◌∙◌, true≢false}
use Rattle.std.specs.List.{list_any}
use Rattle.std.specs.declared.option.Option.{Option}
use Rattle.std.specs.FinSet as set
use Rattle.irq_bits.specs.Members.{Numbers}
use Rattle.irq_base.specs.declared.message.Message.{Message}
use Rattle.irq_base.specs.declared.shape.Part.{Part}
use Rattle.irq_base.specs.declared.shape.Part.TheVariants.{Lapic}
use Rattle.irq_base.specs.declared.status.Cause.{Cause}
use Rattle.irq_base.specs.declared.status.Cause.TheVariants.{NoProcessor, BadVector, Mode as BadMode}
use Rattle.lapic.specs.declared.outcome.Shorthand.{Shorthand}
use Rattle.lapic.specs.Messages.{is_taken, accepted}
use Rattle.board_model.specs.Board.{Board, part_of, with_part, is_same}
use Rattle.board_model.specs.Statuses.{TargetAnswer, message_answer}
use Rattle.board_model.specs.Plan.{About, injected, resent, ipi, the_reply, Plan, done, put, ◌>>=◌, ◌>>◌}
use Rattle.board_model.specs.Run.{Wishes, next_wish, later_wishes, run, reaches}
use Rattle.board_model.specs.Following.{reached}
use Rattle.board_model.proofs.Sequence.{reaches-bind}
use Rattle.board_raise.specs.Named.{Processor, named_by, chosen_of, numbers_of}
use Rattle.board_raise.specs.Send.{ignore, reached_by, see_each, parted, is_illegal, accept_each, deliver, refuse_vector, send_to, send}
use Rattle.board_raise.specs.Laws.{processors_on}
use Rattle.board_raise.specs.ReachLaws.{is_of_one, of_message, SendsReachTheSame}
use Rattle.board_raise.proofs.SendExactly.{seen_each}

pub or_false : (a : Bool) → (a || false) ≡ a
or_false true = refl
or_false false = refl

pub absorbed : (x y : Bool) → (y ≡ true → x ≡ true) → (x || y) ≡ x
absorbed true y f = refl
absorbed false true f = sym (f refl)
absorbed false false f = refl

or_second : (a b : Bool) → b ≡ true → (a || b) ≡ true
or_second true b h = refl
or_second false b h = h

module _ (q : Part) where
  -- ---- to look at processors

  seen_reach : (b : Board) (ns : List ℕ) (ws : Wishes) → reaches (see_each ns) b ws q ≡ is_of_one ns q
  seen_reach b [] ws = refl
  seen_reach b (n ∷ ns) ws =
      let f : List Processor → Plan (List Processor) = λ rest. done (record { number = n; apic = part_of b (Lapic n) } ∷ rest) in
      ap (λ r. is_same (Lapic n) q || r) (reaches-bind f (see_each ns) b ws q ∙ or_false _ ∙ seen_reach b ns ws)

  reach_after_seen : {A : Type 0} (f : List Processor → Plan A) (b : Board) (ns : List ℕ) (ws : Wishes)
      → reaches (see_each ns >>= f) b ws q ≡ (is_of_one ns q || reaches (f (processors_on b ns)) b ws q)
  reach_after_seen f b ns ws =
      reaches-bind f (see_each ns) b ws q
      ∙ ap (λ r. r || reaches (f (run (see_each ns) b ws).value) (run (see_each ns) b ws).board (run (see_each ns) b ws).wishes q) (seen_reach b ns ws)
      ∙ ap (λ o. is_of_one ns q || reaches (f o.value) o.board o.wishes q) (seen_each b ns ws)

  -- ---- what comes after it reaches no other

  among_seen : (b : Board) (ns : List ℕ) → list_any (λ p. is_same (Lapic p.number) q) (processors_on b ns) ≡ is_of_one ns q
  among_seen b [] = refl
  among_seen b (n ∷ ns) = ap (λ r. is_same (Lapic n) q || r) (among_seen b ns)

  ignored_reach : (about : About) (cause : Cause) (b : Board) (ws : Wishes) → reaches (ignore about cause) b ws q ≡ false
  ignored_reach (injected gsi pic) cause b ws = refl
  ignored_reach (resent pin) cause b ws = refl
  ignored_reach ipi cause b ws = refl
  ignored_reach (the_reply pic) cause b ws = refl

  module _ {A : Type 0} (k : Plan A) (none : (b : Board) (ws : Wishes) → reaches k b ws q ≡ false) (message : Message) (takers : Numbers) where
    accepting_reach : (ps : List Processor) (b : Board) (ws : Wishes) → reaches (accept_each message takers ps >> k) b ws q ≡ true → list_any (λ p. is_same (Lapic p.number) q) ps ≡ true
    accepting_reach [] b ws h = absurd (true≢false (sym h ∙ none b ws))
    accepting_reach (p ∷ ps) b ws h = elim (set.contains takers p.number) as (λ t. reaches ((if t then put (Lapic p.number) (accepted p.apic message) (accept_each message takers ps) else accept_each message takers ps) >> k) b ws q ≡ true → (is_same (Lapic p.number) q || list_any (λ p. is_same (Lapic p.number) q) ps) ≡ true) [
      | true ↦ λ h. put_reach (is_same (Lapic p.number) q) _ h (accepting_reach ps (with_part b (Lapic p.number) (accepted p.apic message)) ws)
      | false ↦ λ h. or_second _ _ (accepting_reach ps b ws h)
    ] h
      where
        put_reach : (a r : Bool) → (a || r) ≡ true → (r ≡ true → list_any (λ p. is_same (Lapic p.number) q) ps ≡ true) → (a || list_any (λ p. is_same (Lapic p.number) q) ps) ≡ true
        put_reach true r h f = refl
        put_reach false r h f = f h

  module _ (message : Message) (from : Option (ℕ × Shorthand)) (about : About) (processors : List Processor) (b : Board) (ws : Wishes) where
    sending_reach : (named : List Processor) → reaches (send_to message from about processors named) b ws q ≡ true → list_any (λ p. is_same (Lapic p.number) q) processors ≡ true
    sending_reach [] h = absurd (true≢false (sym h ∙ ignored_reach about NoProcessor b ws))
    sending_reach (p ∷ ps) h = elim (is_illegal message) as (λ t. reaches (if t then refuse_vector message about processors (p ∷ ps) else deliver message from about processors (p ∷ ps)) b ws q ≡ true → list_any (λ p. is_same (Lapic p.number) q) processors ≡ true) [
      | true ↦ λ h. accepting_reach (ignore about BadVector) (ignored_reach about BadVector) message (numbers_of (p ∷ ps)) processors b ws h
      | false ↦ λ h. accepting_reach (done (message_answer (parted message (chosen_of message.mode (next_wish ws) (p ∷ ps))))) (λ c vs. refl) message
          (reached (parted message (chosen_of message.mode (next_wish ws) (p ∷ ps)))) processors b (later_wishes ws) h
    ] h

module _ (cpus : ℕ) (message : Message) (from : Option (ℕ × Shorthand)) (about : About) (b : Board) (ws : Wishes) (q : Part) where
  abbrev f : List Processor → Plan TargetAnswer
  f processors = send_to message from about processors (named_by message from processors)

  abbrev ns : List ℕ
  ns = reached_by message from cpus

  pub sends_reach : reaches (send cpus message from about) b ws q ≡ of_message message from cpus q
  sends_reach = elim (is_taken message.mode) as (λ t. reaches (if not t then ignore about BadMode else (see_each ns >>= f)) b ws q ≡ (t && is_of_one ns q)) [
    | true ↦ reach_after_seen q f b ns ws
        ∙ absorbed (is_of_one ns q) _ (λ h. sym (among_seen q b ns) ∙ sending_reach q message from about (processors_on b ns) b ws (named_by message from (processors_on b ns)) h)
    | false ↦ ignored_reach q about BadMode b ws
  ]

pub sends_reach_the_same : SendsReachTheSame
sends_reach_the_same cpus message from about b ws q = sends_reach cpus message from about b ws q
