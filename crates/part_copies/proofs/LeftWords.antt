-- The words of the registry of a board that is made of parts.
use Rattle.std.proofs.Common.{◌≡◌, ℕ, true, true≢false, List, is_some, Some, None, IfSome, sym}
use Rattle.std.specs.Prelude.{option_map, unwrap_or}
use Rattle.std.specs.declared.option.Option.{Option}
use Rattle.board_model.specs.Published.{published, IsSoundRegistry}
use Rattle.board_raise.specs.declared.parts.RegistryPart.{RegistryPart}
use Rattle.board_raise.specs.BoardRig.{NamesWhatIsThere}
use Rattle.board_raise.specs.InHand.{registry_of}
use Rattle.board_step.specs.History.{opening_registry}

-- it names what there can be
pub left_names : (o : Option RegistryPart) (tick : ℕ) → IsSoundRegistry (unwrap_or (option_map registry_of o) opening_registry) tick → IfSome o NamesWhatIsThere
left_names None tick sound = tt
left_names (Some r) tick sound = record { irqfds = sound.irqfds; watches = sound.watches }

-- the words that it publishes are those of its board
pub left_words : (o : Option RegistryPart) (ws : List ℕ) (tick : ℕ) → is_some (option_map registry_of o) ≡ true → IfSome o (λ (r : RegistryPart). ws ≡ published (registry_of r) tick) → ws ≡ published (unwrap_or (option_map registry_of o) opening_registry) tick
left_words None ws tick there is = absurd (true≢false (sym there))
left_words (Some r) ws tick there is = is
