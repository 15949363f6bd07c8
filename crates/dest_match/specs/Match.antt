-- Which processors a message is for (SDM volume 3, determining IPI destination: physical and logical destination mode).
use Rattle.std.specs.Prelude.{ℕ, ◌+◌, ◌-◌, ◌/◌, ◌%◌, ◌^◌, ◌==◌, nat_lt, Bool, true, false, ◌&&◌, ◌||◌, [], ◌∷◌, if◌then◌else◌}
use Rattle.std.specs.List.{list_any}
use Rattle.irq_bits.specs.Fields.{bits_of}
use Rattle.irq_bits.specs.Members.{is_set}
use Rattle.irq_base.specs.declared.message.Message.{Message}
use Rattle.irq_base.specs.declared.message.DestView.{DestView}
use Rattle.dest_match.specs.declared.destination.TheConstants.{BROADCAST}

-- some of the bits 0 to 7 is set in both bytes
unfoldable pub share_a_bit : ℕ → ℕ → Bool
share_a_bit a b = list_any (λ n. is_set a n && is_set b n) (0 ∷ 1 ∷ 2 ∷ 3 ∷ 4 ∷ 5 ∷ 6 ∷ 7 ∷ [])

-- physical: the processor of that number
abbrev pub matches_physical : DestView → ℕ → Bool
matches_physical view dest = dest == BROADCAST || dest == view.number

-- flat: the destination and the logical identity share a bit
abbrev pub matches_flat : ℕ → ℕ → Bool
matches_flat identity dest = share_a_bit dest identity

-- cluster: the high nibbles name the same cluster, and the low nibbles share a bit
abbrev pub matches_cluster : ℕ → ℕ → Bool
matches_cluster identity dest = bits_of dest 7 4 == bits_of identity 7 4 && share_a_bit (bits_of dest 3 0) (bits_of identity 3 0)

-- a destination of eight bits in the model of DFR bits 31 to 28: 1111 is flat, 0000 cluster; in others nothing matches
abbrev pub matches_in_model : ℕ → ℕ → ℕ → Bool
matches_in_model model identity dest =
    if model == 0b1111 then matches_flat identity dest
    else if model == 0b0000 then matches_cluster identity dest
    else false

-- logical: a destination above FFh matches nothing; the logical identity is LDR bits 31 to 24
abbrev pub matches_logical : DestView → ℕ → Bool
matches_logical view dest =
    if dest == BROADCAST then true
    else if nat_lt 0xff dest then false
    else matches_in_model (bits_of view.dfr 31 28) (bits_of view.ldr 31 24) dest

-- whether a processor of this view is among those that the message is for
abbrev pub does_match : DestView → Message → Bool
does_match view message = if message.logical then matches_logical view message.dest else matches_physical view message.dest
