-- Ticks asked of a face one after another.
use Rattle.std.proofs.Common.{◌≡◌, ℕ, zero, suc, ◌+◌, ◌<◌, ◌≤◌, false, List, [], ◌++◌, length, Option, Some, None, Ok, Err, IfSome, IsOk, refl, sym, ◌∙◌, subst, arith, length-append}
use Rattle.std.proofs.lemmas.Bool.{true≢false}
use Rattle.std.proofs.lemmas.List.Elements.{All-append, All-cons, All-nil}
use Rattle.std.specs.declared.result.Result.{Result}
use Rattle.irq_base.specs.Faces.{PlacedEntry, WhereTold, may_publish}
use Rattle.irq_base.specs.declared.call.Call.TheVariants.{Tick}
use Rattle.irq_base.specs.declared.event.Event.{Event}
use Rattle.irq_base.specs.declared.face.Face.{Ghosts}
use Rattle.irq_base.specs.declared.reply.Done.{Done}
use Rattle.irq_base.specs.declared.reply.Spent.{Spent}
use Rattle.face_asks.specs.Asks.{IsAnswered}
use Rattle.face_asks.proofs.Told.{answered_none, answered_then, left_one, left_then}
use Rattle.pit_8254.specs.Asks.{HasTicked, IsTick}

-- a limit barred a call
abbrev stopped : Spent → Result Done Spent
stopped spent = Err spent

-- where calls are left no more than so many, and these were asked and left none
left_most : (before between : Option ℕ) (ticks : List PlacedEntry) (n : ℕ) → WhereTold before between (λ had has. has + length ticks ≡ had) → length ticks ≡ n
    → IfSome between (λ left. left ≡ 0) → IfSome before (λ left. left ≤ n)
left_most None between ticks n falls many none = tt
left_most (Some had) None ticks n falls many none = absurd falls
left_most (Some had) (Some has) ticks n falls many none = omega (arith, falls, many, none)

module _ {F : Type 0} (face : Ghosts F) where
  -- nothing was asked
  pub ticked_none : (f : F) (had : List Event) → HasTicked face 0 None f f had had
  ticked_none f had = record { ticks = []; many = refl; each = All-nil IsTick; asked = answered_none face f; events = refl }

  -- ticks, and then more
  pub ticked_both : (m n : ℕ) (spent : Option Spent) (a b c : F) (had has now : List Event) → HasTicked face m None a b had has → HasTicked face n spent b c has now
      → HasTicked face (m + n) spent a c had now
  ticked_both m n spent a b c had has now first next = record {
    ticks = first.ticks ++ next.ticks;
    many = length-append first.ticks next.ticks ∙ (λ i. first.many i + next.many i);
    each = All-append IsTick first.ticks next.ticks first.each next.each;
    asked = answered_then face a b c first.ticks next.ticks first.asked next.asked;
    events = left_then spent first.ticks next.ticks had has now first.events next.events;
  }

  -- ticks, and then a limit
  pub ticked_barred : (n : ℕ) (spent : Option Spent) (a b c : F) (had has now : List Event) → HasTicked face n None a b had has → HasTicked face 0 spent b c has now
      → HasTicked face n spent a c had now
  ticked_barred n spent a b c had has now first next =
      let same : n + 0 ≡ n = omega arith in
      subst (λ k. HasTicked face k spent a c had now) same (ticked_both n 0 spent a b c had has now first next)

  -- one tick was asked, and answered or barred
  module _ (before after : F) (had has : List Event) where
    pub ticked_answered : (done : Done) → IsAnswered face Tick has (Ok done) before after → HasTicked face 1 None before after had has
    ticked_answered done told = record {
      ticks = _;
      many = refl;
      each = All-cons IsTick _ [] refl (All-nil IsTick);
      asked = told.answered;
      events = left_one (face.who before) Tick has had (Ok done) told.quiet;
    }

    pub ticked_stopped : (spent : Spent) → IsAnswered face Tick has (Err spent) before after → HasTicked face 0 (Some spent) before after had has
    ticked_stopped spent told = record {
      ticks = [];
      many = refl;
      each = All-nil IsTick;
      asked = told.answered;
      events = left_one (face.who before) Tick has had (Err spent) told.quiet;
    }

    -- a tick is barred only where no call is left
    pub none_at_stop : (spent : Spent) → IsAnswered face Tick has (Err spent) before after → IfSome (face.left before) (λ left. left ≡ 0)
    none_at_stop spent told = by (face.left before) told.enough
      where
        by : (left : Option ℕ) → IfSome left (λ n. 0 < n → may_publish Tick ≡ false → IsOk (stopped spent)) → IfSome left (λ n. n ≡ 0)
        by None enough = tt
        by (Some zero) enough = refl
        by (Some (suc n)) enough = absurd (true≢false (sym (enough (omega arith) refl)))

  -- where a limit bars one behind so many ticks, no more calls were left
  pub most_left : (n : ℕ) (a b : F) (had has : List Event) → HasTicked face n None a b had has → IfSome (face.left b) (λ left. left ≡ 0)
      → IfSome (face.left a) (λ left. left ≤ n)
  most_left n a b had has ticked none = left_most (face.left a) (face.left b) ticked.ticks n ticked.asked.left ticked.many none

pub ruleset ask_rules = (ticked_answered, ticked_stopped, none_at_stop)
