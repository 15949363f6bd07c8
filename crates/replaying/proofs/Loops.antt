-- What is asked several times.
use Rattle.std.proofs.Common.{◌≡◌, ℕ, suc, ◌+◌, ◌-◌, ◌<◌, ◌≤◌, List, Ok, Err, Some, None, IfOk, refl, sym, ap, ◌∙◌, subst, arith}
use Rattle.std.specs.declared.option.Option.{Option}
use Rattle.std.specs.declared.result.Result.{Result}
use Rattle.irq_base.specs.declared.call.Call.{Call}
use Rattle.irq_base.specs.declared.call.Call.TheVariants.{Ack, PortOut}
use Rattle.irq_base.specs.declared.call.Caller.{Caller}
use Rattle.irq_base.specs.declared.lists.Entry.{Entry}
use Rattle.irq_base.specs.declared.lists.NoMemory.{NoMemory}
use Rattle.irq_base.specs.declared.reply.Reply.{Reply}
use Rattle.irq_base.specs.declared.reply.Spent.{Spent}
use Rattle.script_text.specs.Asks.{Asks, ask, once, times, rounds, to_slave, to_master, after_ack}
use Rattle.board_model.specs.Board.{Board}
use Rattle.replaying.specs.Played.{Answered, Played}
use Rattle.replaying.proofs.Turns.{played-nothing, played-barred, played-one, played-then, played-stopped}

-- what is asked n times, of which each time is `one`
pub record Grows (grow : ℕ → Asks → Asks) (one : Asks → Asks) : Type 0 where
  pub none : (rest : Asks) → grow 0 rest ≡ rest
  pub more : (n : ℕ) (rest : Asks) → grow (suc n) rest ≡ one (grow n rest)

times_none : (call : Call) (rest : Asks) → times 0 call rest ≡ rest
unfolding times
times_none call rest = refl

times_more : (call : Call) (n : ℕ) (rest : Asks) → times (suc n) call rest ≡ once call (times n call rest)
unfolding times
times_more call n rest = refl

pub times_grow : (call : Call) → Grows (λ n rest. times n call rest) (once call)
times_grow call = record { none = times_none call; more = times_more call }

rounds_none : (rest : Asks) → rounds 0 rest ≡ rest
unfolding rounds
rounds_none rest = refl

rounds_more : (n : ℕ) (rest : Asks) → rounds (suc n) rest ≡ ask Ack (λ reply. after_ack reply (rounds n rest))
unfolding rounds
rounds_more n rest = refl

pub rounds_grow : Grows rounds (λ rest. ask Ack (λ reply. after_ack reply rest))
rounds_grow = record { none = rounds_none; more = rounds_more }

module _ (who : Caller) (grow : ℕ → Asks → Asks) (one : Asks → Asks) (grows : Grows grow one) (count : ℕ) (start : Board) (first : List Entry) where
  -- what so many more times make from here, all of them make from the start
  abbrev pub Makes : ℕ → Board → List Entry → Type 0
  Makes n b before = (rest : Asks) (stop : Option Spent) (c : Board) (after : List Entry)
      → Played who (grow n rest) rest b before stop c after → Played who (grow count rest) rest start first stop c after

  one_left : (turn : ℕ) → turn < count → (rest : Asks) → grow (count - turn) rest ≡ one (grow (count - (turn + 1)) rest)
  one_left turn below rest = let e : count - turn ≡ suc (count - (turn + 1)) = omega (arith, below) in ap (λ n. grow n rest) e ∙ grows.more (count - (turn + 1)) rest

  pub makes_next : (turn : ℕ) (b : Board) (before : List Entry) (m : Board) (between : List Entry) → turn < count → Makes (count - turn) b before
      → ((rest : Asks) → Played who (one rest) rest b before None m between) → Makes (count - (turn + 1)) m between
  makes_next turn b before m between below makes each rest stop c after later =
      let behind = grow (count - (turn + 1)) rest in
      makes rest stop c after (subst (λ a. Played who a rest b before stop c after) (sym (one_left turn below rest)) (played-then who (one behind) behind rest b before m between stop c after (each behind) later))

  pub makes_stopped : (turn : ℕ) (b : Board) (before : List Entry) (spent : Spent) (m : Board) (between : List Entry) → turn < count → Makes (count - turn) b before
      → ((rest : Asks) → Played who (one rest) rest b before (Some spent) m between) → (rest : Asks) → Played who (grow count rest) rest start first (Some spent) m between
  makes_stopped turn b before spent m between below makes each rest =
      let behind = grow (count - (turn + 1)) rest in
      makes rest (Some spent) m between (subst (λ a. Played who a rest b before (Some spent) m between) (sym (one_left turn below rest)) (played-stopped who (one behind) behind rest b before spent m between (each behind)))

  pub makes_all : (turn : ℕ) (b : Board) (before : List Entry) → count ≤ turn → Makes (count - turn) b before → (rest : Asks) → Played who (grow count rest) rest start first None b before
  makes_all turn b before past makes rest =
      let e : count - turn ≡ 0 = omega (arith, past) in
      makes rest None b before (subst (λ a. Played who a rest b before None b before) (sym (ap (λ n. grow n rest) e ∙ grows.none rest)) (played-nothing who rest b before))

-- ---- two ends

module _ (who : Caller) (call : Call) (b : Board) (before : List Entry) (o : Option Spent) (m : Board) (between : List Entry)
    (is : call ≡ PortOut 0xa0 1 0x20) (each : (rest : Asks) → Played who (once call rest) rest b before o m between) where
  at_slave : (stop : Option Spent) → o ≡ stop → (rest : Asks) → Played who (to_slave rest) (to_master rest) b before stop m between
  at_slave stop has rest =
      subst (λ k. Played who (once k (to_master rest)) (to_master rest) b before stop m between) is
      (subst (λ s. Played who (once call (to_master rest)) (to_master rest) b before s m between) has (each (to_master rest)))

  -- the first end is barred
  pub ends_stopped : (spent : Spent) → o ≡ Some spent → (rest : Asks) → Played who (to_slave rest) rest b before (Some spent) m between
  ends_stopped spent has rest = played-stopped who (to_slave rest) (to_master rest) rest b before spent m between (at_slave (Some spent) has rest)

  -- and then the second is asked
  pub ends_then : (last : Call) (result : Result (Option Spent) NoMemory) (c : Board) (after : List Entry) → o ≡ None → last ≡ PortOut 0x20 1 0x20
      → IfOk result (λ stop. (rest : Asks) → Played who (once last rest) rest m between stop c after)
      → IfOk result (λ stop. (rest : Asks) → Played who (to_slave rest) rest b before stop c after)
  ends_then last (Ok stop) c after has next second = λ rest.
      played-then who (to_slave rest) (to_master rest) rest b before m between stop c after (at_slave None has rest)
      (subst (λ k. Played who (once k rest) rest m between stop c after) next (second rest))
  ends_then last (Err e) c after has next second = tt

-- ---- a round

pub round_then : (who : Caller) (reply : Reply) (b : Board) (before : List Entry) (m : Board) (between : List Entry) (result : Result (Option Spent) NoMemory) (c : Board) (after : List Entry)
    → Answered who Ack b before (Ok reply) m between
    → IfOk result (λ stop. (rest : Asks) → Played who (after_ack reply rest) rest m between stop c after)
    → IfOk result (λ stop. (rest : Asks) → Played who (ask Ack (λ reply. after_ack reply rest)) rest b before stop c after)
round_then who reply b before m between (Ok stop) c after answered second = λ rest.
    played-then who (ask Ack (λ reply. after_ack reply rest)) (after_ack reply rest) rest b before m between stop c after
    (played-one who Ack (λ reply. after_ack reply rest) b before reply m between answered) (second rest)
round_then who reply b before m between (Err e) c after answered second = tt

pub round_barred : (who : Caller) (b : Board) (before : List Entry) (spent : Spent) (c : Board) (after : List Entry)
    → Answered who Ack b before (Err spent) c after → (rest : Asks) → Played who (ask Ack (λ reply. after_ack reply rest)) rest b before (Some spent) c after
round_barred who b before spent c after answered rest = played-barred who Ack (λ reply. after_ack reply rest) rest b before spent c after answered
