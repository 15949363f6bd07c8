-- A board on one thread as a rig: its parts, and the words that it published.
use Rattle.std.specs.Prelude.{ℕ, ◌<◌, All, List}
use Rattle.ack_notifiers.specs.declared.watches.Watch.{Watch}
use Rattle.board_model.specs.Published.{published, IsSoundIrqfd}
use Rattle.board_raise.specs.declared.parts.Parts.{Parts}
use Rattle.board_raise.specs.declared.parts.RegistryPart.{RegistryPart}
use Rattle.board_raise.specs.declared.words.Words.{Words}
use Rattle.board_raise.specs.declared.board_rig.BoardRig.{BoardRig}
use Rattle.board_raise.specs.InHand.{registry_of}

-- the rig with other parts
abbrev pub with_parts : BoardRig → Parts → BoardRig
with_parts r p = record r { parts = p }

-- the words that a registry publishes
abbrev pub words_in : Words → List ℕ
words_in w = published (registry_of w.registry) w.tick

-- irqfds and notifiers name triggers and GSIs that there can be
pub record NamesWhatIsThere (registry : RegistryPart) : Type 0 where
  pub irqfds : All IsSoundIrqfd registry.irqfds
  pub watches : All (λ (row : Watch). row.gsi < 4096) registry.watches
