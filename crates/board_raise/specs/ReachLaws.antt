-- Which parts sendings and signals look at or write: they are the same whatever is wished.
use Rattle.std.specs.Prelude.{◌≡◌, ℕ, Bool, false, ◌&&◌, ◌||◌, List, Some, None}
use Rattle.std.specs.List.{list_any}
use Rattle.std.specs.declared.option.Option.{Option}
use Rattle.irq_base.specs.declared.message.Message.{Message}
use Rattle.irq_base.specs.declared.message.MsiWord.{MsiWord}
use Rattle.irq_base.specs.declared.message.Source.{Source}
use Rattle.irq_base.specs.declared.message.Targets.{Targets}
use Rattle.irq_base.specs.declared.shape.Part.{Part}
use Rattle.irq_base.specs.declared.shape.Part.TheVariants.{Pic, Ioapic, Lapic}
use Rattle.lapic.specs.declared.outcome.Shorthand.{Shorthand}
use Rattle.lapic.specs.Messages.{is_taken}
use Rattle.ioapic_82093aa.specs.declared.ioapic.Raise.{Raise}
use Rattle.ioapic_82093aa.specs.declared.ioapic.Raise.TheVariants.{Send}
use Rattle.ioapic_82093aa.specs.Pins.{raise_of}
use Rattle.msi_decode.specs.Messages.{message_in}
use Rattle.board_model.specs.Board.{Board, is_same}
use Rattle.board_model.specs.Chips.{ioapic_of}
use Rattle.board_model.specs.Statuses.{TargetAnswer}
use Rattle.board_model.specs.Plan.{About}
use Rattle.board_model.specs.Run.{Wishes, reaches}
use Rattle.board_raise.specs.Send.{reached_by, send}
use Rattle.board_raise.specs.Signal.{raise, lower, inject}

-- whether a part is the local APIC of one of these processors
abbrev pub is_of_one : List ℕ → Part → Bool
is_of_one ns q = list_any (λ n. is_same (Lapic n) q) ns

-- what a message reaches: nothing where no local APIC takes its mode; else the local APICs that its shorthand or its
-- destination tells
abbrev pub of_message : Message → Option (ℕ × Shorthand) → ℕ → Part → Bool
of_message message from cpus q = is_taken message.mode && is_of_one (reached_by message from cpus) q

-- a sending reaches what its message reaches, under all wishes
abbrev pub SendsReachTheSame : Type 0
SendsReachTheSame =
    (cpus : ℕ) (message : Message) (from : Option (ℕ × Shorthand)) (about : About) (b : Board) (ws : Wishes) (q : Part) →
    reaches (send cpus message from about) b ws q ≡ of_message message from cpus q

-- ---- signals

-- the part of a pin, if there is one
abbrev pub of_pin : Option ℕ → Part → Part → Bool
of_pin None chip q = false
of_pin (Some pin) chip q = is_same chip q

-- what the message reaches that a pin of the I/O APIC sends; a pin that is masked, or whose request stands, sends none
abbrev pub of_answer : Raise → ℕ → Part → Bool
of_answer (Send message) cpus q = of_message message None cpus q
of_answer _ cpus q = false

-- the I/O APIC and what its pin sends; or what the message target reaches
abbrev pub of_other : Board → Option ℕ → Option MsiWord → ℕ → Part → Bool
of_other b (Some pin) msi cpus q = is_same Ioapic q || of_answer (raise_of (ioapic_of b.ioapic) pin) cpus q
of_other b None (Some word) cpus q = of_message (message_in word.address word.payload) None cpus q
of_other b None None cpus q = false

-- what a raise reaches: the chips on which its GSI has a pin, and the local APICs of the message that is sent
abbrev pub of_raise : Board → Targets → ℕ → Part → Bool
of_raise b targets cpus q = of_pin targets.pic Pic q || of_other b targets.ioapic targets.msi cpus q

-- what a fall reaches: the chips on which its GSI has a pin
abbrev pub of_fall : Targets → Part → Bool
of_fall targets q = of_pin targets.pic Pic q || of_pin targets.ioapic Ioapic q

-- a raise, a fall and an injection reach this, under all wishes; an injection reaches what its raise reaches
pub record SignalReaches (cpus : ℕ) (targets : Targets) (source : Source) (about : Option TargetAnswer → About) (b : Board)
    (ws : Wishes) (q : Part) : Type 0 where
  pub raised : reaches (raise cpus targets source about) b ws q ≡ of_raise b targets cpus q
  pub fallen : reaches (lower targets source) b ws q ≡ of_fall targets q
  pub injected : reaches (inject cpus targets source about) b ws q ≡ of_raise b targets cpus q

abbrev pub SignalsReachTheSame : Type 0
SignalsReachTheSame =
    (cpus : ℕ) (targets : Targets) (source : Source) (about : Option TargetAnswer → About) (b : Board) (ws : Wishes) (q : Part) →
    SignalReaches cpus targets source about b ws q
