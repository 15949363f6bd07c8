-- Operations one after another, and what clocks come to.
use Rattle.std.proofs.Common.{◌≡◌, ℕ, ◌+◌, List, [], ◌∷◌, length, All, Ok, Err, IfErr, IfOk, OnOk, refl, sym, ◌∙◌, subst, zero-add, length-append}
use Rattle.std.proofs.lemmas.List.Elements.{All-append, All-nil}
use Rattle.std.specs.declared.result.Result.{Result}
use Rattle.irq_base.specs.declared.event.Event.{Event}
use Rattle.irq_base.specs.declared.face.Face.{Ghosts}
use Rattle.pit_8254.specs.Accesses.{unset}
use Rattle.pit_8254.specs.Asks.{answered, limit_of, HasTicked, IsTick}
use Rattle.pit_8254.specs.Clocks.{channel_after, channel_ticks, StandsBefore}
use Rattle.pit_8254.specs.Operations.{Operation, write, read, advance, Advances, Lead, asked_in, after_ops, ticks_over, TicksOnce}
use Rattle.pit_8254.specs.declared.channel.Channel.{Channel}
use Rattle.pit_8254.specs.declared.ticking.PitSpent.{PitSpent}

-- ---- clocks

pub advances : {F : Type 0} (face : Ghosts F) (clocks : ℕ) (answer : Result ℕ PitSpent) (f g : F) (ch now : Channel) (had has : List Event)
    → OnOk answer (now ≡ channel_after clocks ch) → IfOk answer (λ n. n ≡ channel_ticks clocks ch)
    → IfErr answer (λ stop. StandsBefore clocks stop.ticks ch now) → HasTicked face (answered answer) (limit_of answer) f g had has
    → Advances face clocks answer f g ch now had has
advances face clocks (Ok n) f g ch now had has after ticks stands asked = record {
  gone = clocks;
  ticks = asked.ticks;
  step = record { stands = after; many = asked.many ∙ ticks; each = asked.each; told = (refl, sym asked.many) };
  asked = asked.asked;
  events = asked.events;
}
advances face clocks (Err stop) f g ch now had has after ticks stands asked = record {
  gone = stands.gone;
  ticks = asked.ticks;
  step = record { stands = stands.stands; many = asked.many ∙ sym stands.ticked; each = asked.each; told = (stands.within, sym asked.many, stands.next) };
  asked = asked.asked;
  events = asked.events;
}

-- ---- a list

-- over operations from a channel
record Over (operations : List Operation) (ch now : Channel) : Type 0 where
  stands : now ≡ after_ops operations ch
  many : length (asked_in operations) ≡ ticks_over operations ch
  each : All IsTick (asked_in operations)

over : (operations : List Operation) (ch now : Channel) → Lead ch operations now → Over operations ch now
over [] ch now is = record { stands = is; many = refl; each = All-nil IsTick }
over (write port value ∷ more) ch now (next, step, lead) =
    let rest = subst (λ (c : Channel). Over more c now) step (over more next now lead) in
    record { stands = rest.stands; many = rest.many ∙ sym (zero-add _); each = rest.each }
over (read port byte ∷ more) ch now (next, step, lead) =
    let rest = subst (λ (c : Channel). Over more c now) step.1 (over more next now lead) in
    record { stands = rest.stands; many = rest.many ∙ sym (zero-add _); each = rest.each }
over (advance clocks gone answer ticks ∷ more) ch now (next, step, lead) =
    let rest = subst (λ (c : Channel). Over more c now) step.stands (over more next now lead) in
    record {
      stands = rest.stands;
      many = length-append ticks (asked_in more) ∙ (λ i. step.many i + rest.many i);
      each = All-append IsTick ticks (asked_in more) step.each rest.each;
    }

pub ticks_once : (operations : List Operation) (now : Channel) → Lead unset operations now → TicksOnce operations now
ticks_once operations now lead =
    let all = over operations unset now lead in
    record { stands = all.stands; many = all.many; each = all.each }
