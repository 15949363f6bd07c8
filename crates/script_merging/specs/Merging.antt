-- Entries as what the actors of a script ask (this board's own rule).
use Rattle.std.specs.Prelude.{◌≡◌, List, [], ◌∷◌, ◌++◌, map, filter, Some, None}
use Rattle.std.specs.declared.option.Option.{Option}
use Rattle.irq_base.specs.declared.call.Call.{Call}
use Rattle.irq_base.specs.declared.call.Caller.{Caller}
use Rattle.irq_base.specs.declared.lists.Entry.{Entry}
use Rattle.irq_base.specs.declared.reply.Reply.{Reply}
use Rattle.script_text.specs.Asks.{same_caller, next_ask}
use Rattle.script_text.specs.Scripts.{Script}

-- the replies that a caller got in these entries, in their order
unfoldable pub replies_of : Caller → List Entry → List Reply
replies_of who entries = map (λ e. e.reply) (filter (λ e. same_caller e.caller who) entries)

-- the next call of a caller behind these entries; a caller without lines asks nothing
abbrev pub next_of : Script → List Entry → Caller → Option Call
next_of s before who = next_ask who s.lines (replies_of who before)

-- an entry is the next call of the actor of the script with its caller
abbrev pub IsAsked : Script → List Entry → Entry → Type 0
IsAsked s before e = next_of s before e.caller ≡ Some e.call

-- each of these entries, behind those before, is what its caller asks next
abbrev pub Merges : Script → List Entry → List Entry → Type 0
Merges s before [] = Unit {0}
Merges s before (e ∷ es) = IsAsked s before e × Merges s (before ++ e ∷ []) es

-- every actor has asked all its calls
abbrev pub IsWhole : Script → List Entry → Type 0
IsWhole s entries = (who : Caller) → next_of s entries who ≡ None
