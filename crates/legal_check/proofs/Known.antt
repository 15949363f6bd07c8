-- The actors of a script are its callers with lines, each once; each follows the replies that its own caller gets.
use Rattle.std.proofs.Common.{◌≡◌, ℕ, suc, ◌<◌, ◌≤◌, ◌⊎◌, inl, inr, Bool, true, false, cond, not, nat_lt, List, [], ◌∷◌, ◌++◌, length, filter, replicate, get_or, set, refl, ap, sym, ◌∙◌, subst, if◌then◌else◌, ltb-true, ltb-false, None, arith}
use Rattle.std.specs.List.{IsDistinct, AllByRecursion}
use Rattle.std.proofs.lemmas.List.{get_or-replicate, get_or-set_same, get_or-set_other, length-replicate, length-set}
use Rattle.std.proofs.lemmas.Map.Keys.{apart_from_distinct}
use Rattle.std.proofs.lemmas.Bool.Decides.{eqb_tells}
use Rattle.irq_base.specs.declared.call.Caller.{Caller}
use Rattle.irq_base.specs.declared.call.Caller.TheVariants.{Device}
use Rattle.irq_base.specs.declared.lists.Entry.{Entry}
use Rattle.irq_base.specs.declared.reply.Reply.{Reply}
use Rattle.script_text.specs.declared.task.ActorLine.{ActorLine}
use Rattle.script_text.specs.declared.progress.Progress.{Progress}
use Rattle.script_text.specs.Asks.{same_caller, actors_of, caller_at, tasks_of, HasFollowed}
use Rattle.script_text.specs.Scripts.{Script}
use Rattle.script_merging.specs.Merging.{replies_of, next_of}
use Rattle.script_merging.proofs.Callers.{callers_same, callers_apart}
use Rattle.script_merging.proofs.Asking.{tasks_nothing, tasks_of_line, lineless_ask_nothing}
use Rattle.script_merging.proofs.Merged.{no_replies, own_reply, others_reply}
use Rattle.legal_check.specs.Standing.{actors_in, progress_at, HaveFollowed}

-- ---- whether a caller has lines

abbrev knows : Caller → List Caller → Bool
knows who [] = false
knows who (c ∷ cs) = if same_caller c who then true else knows who cs

abbrev Found : Caller → List Caller → Type 0
Found who cs = (k : ℕ) × (k < length cs) × (get_or cs k (Device 0) ≡ who)

found-step : (who c : Caller) (cs : List Caller) (b : Bool) → (b ≡ true → c ≡ who) → (knows who cs ≡ true → Found who cs) →
    (if b then true else knows who cs) ≡ true → Found who (c ∷ cs)
found-step who c cs true is rest h = (0, omega arith, is refl)
found-step who c cs false is rest h = let (k, below, at) = rest h in (suc k, omega (arith, below), at)

knows-found : (who : Caller) (cs : List Caller) → knows who cs ≡ true → Found who cs
knows-found who [] h = absurd (cc)
knows-found who (c ∷ cs) h = found-step who c cs (same_caller c who) (callers_same c who) (knows-found who cs) h

kept-step : (who x c : Caller) (cs kept : List Caller) → same_caller x who ≡ false → knows who kept ≡ knows who cs → (b : Bool) → (b ≡ true → c ≡ x) →
    knows who (cond (not b) (c ∷ kept) kept) ≡ knows who (c ∷ cs)
kept-step who x c cs kept other rest true is =
    rest ∙ sym (ap (λ (t : Bool). if t then true else knows who cs) (ap (λ (d : Caller). same_caller d who) (is refl) ∙ other))
kept-step who x c cs kept other rest false is = ap (λ (t : Bool). if same_caller c who then true else t) rest

-- without another caller a list knows the same
knows-kept : (who x : Caller) (cs : List Caller) → same_caller x who ≡ false → knows who (filter (λ c. not (same_caller c x)) cs) ≡ knows who cs
knows-kept who x [] other = refl
knows-kept who x (c ∷ cs) other =
    kept-step who x c cs (filter (λ c. not (same_caller c x)) cs) other (knows-kept who x cs other) (same_caller c x) (callers_same c x)

actors-first : (x : ActorLine) (lines : List ActorLine) →
    actors_of (x ∷ lines) ≡ x.caller ∷ filter (λ c. not (same_caller c x.caller)) (actors_of lines)
unfolding actors_of
actors-first x lines = refl

actors-none : actors_of [] ≡ []
unfolding actors_of
actors-none = refl

tasks-later : (who : Caller) (x : ActorLine) (lines : List ActorLine) → same_caller x.caller who ≡ false → tasks_of who (x ∷ lines) ≡ tasks_of who lines
tasks-later who x lines other = tasks_of_line who x lines ∙ ap (λ (b : Bool). if b then x.task ∷ tasks_of who lines else tasks_of who lines) other

missing-step : (who : Caller) (x : ActorLine) (lines : List ActorLine) (b : Bool) → same_caller x.caller who ≡ b →
    (if b then true else knows who (filter (λ c. not (same_caller c x.caller)) (actors_of lines))) ≡ false →
    (knows who (actors_of lines) ≡ false → tasks_of who lines ≡ []) → tasks_of who (x ∷ lines) ≡ []
missing-step who x lines true is h rest = absurd (cc)
missing-step who x lines false is h rest =
    tasks-later who x lines is ∙ rest (sym (knows-kept who x.caller (actors_of lines) is) ∙ h)

tasks-missing : (who : Caller) (lines : List ActorLine) → knows who (actors_of lines) ≡ false → tasks_of who lines ≡ []
tasks-missing who [] h = tasks_nothing who
tasks-missing who (x ∷ lines) h =
    missing-step who x lines (same_caller x.caller who) refl (sym (ap (knows who) (actors-first x lines)) ∙ h) (tasks-missing who lines)

-- a caller is an actor, or asks nothing
pub of-actors : (s : Script) (who : Caller) →
    ((k : ℕ) × (k < actors_in s) × (caller_at s.lines k ≡ who)) ⊎ ((before : List Entry) → next_of s before who ≡ None)
of-actors s who = go (knows who (actors_of s.lines)) refl
  where
    go : (b : Bool) → knows who (actors_of s.lines) ≡ b →
        ((k : ℕ) × (k < actors_in s) × (caller_at s.lines k ≡ who)) ⊎ ((before : List Entry) → next_of s before who ≡ None)
    go true h = inl (knows-found who (actors_of s.lines) h)
    go false h = inr (λ before. lineless_ask_nothing who s.lines (replies_of who before) (tasks-missing who s.lines h))

pub asks-none : (s : Script) (who : Caller) → ((k : ℕ) → k < actors_in s → caller_at s.lines k ≡ who → ⊥) → (before : List Entry) →
    next_of s before who ≡ None
asks-none s who apart before = elim (of-actors s who) [
  | inl w ↦ absurd (apart w.0 w.1 w.2)
  | inr silent ↦ silent before
]

-- ---- each actor once

apart-kept : (p : Caller → Bool) (x : Caller) (cs : List Caller) → AllByRecursion (λ y. same_caller x y ≡ false) cs →
    AllByRecursion (λ y. same_caller x y ≡ false) (filter p cs)
apart-kept p x [] a = tt
apart-kept p x (c ∷ cs) a = by (p c) (apart-kept p x cs a.1)
  where
    by : (b : Bool) → AllByRecursion (λ y. same_caller x y ≡ false) (filter p cs) →
        AllByRecursion (λ y. same_caller x y ≡ false) (cond b (c ∷ filter p cs) (filter p cs))
    by true r = (a.0, r)
    by false r = r

distinct-kept : (p : Caller → Bool) (cs : List Caller) → IsDistinct same_caller cs → IsDistinct same_caller (filter p cs)
unfolding IsDistinct
distinct-kept p [] d = tt
distinct-kept p (c ∷ cs) d = by (p c) (apart-kept p c cs d.0) (distinct-kept p cs d.1)
  where
    by : (b : Bool) → AllByRecursion (λ y. same_caller c y ≡ false) (filter p cs) → IsDistinct same_caller (filter p cs) →
        IsDistinct same_caller (cond b (c ∷ filter p cs) (filter p cs))
    by true a r = (a, r)
    by false a r = r

none-same : (x : Caller) (cs : List Caller) → AllByRecursion (λ y. same_caller x y ≡ false) (filter (λ c. not (same_caller c x)) cs)
none-same x [] = tt
none-same x (c ∷ cs) = by (same_caller c x) (callers_apart c x) (filter (λ c. not (same_caller c x)) cs) (none-same x cs)
  where
    by : (b : Bool) → (b ≡ false → same_caller x c ≡ false) → (kept : List Caller) → AllByRecursion (λ y. same_caller x y ≡ false) kept →
        AllByRecursion (λ y. same_caller x y ≡ false) (cond (not b) (c ∷ kept) kept)
    by true e kept r = r
    by false e kept r = (e refl, r)

distinct-first : (x : Caller) (cs : List Caller) → IsDistinct same_caller cs → IsDistinct same_caller (x ∷ filter (λ c. not (same_caller c x)) cs)
unfolding IsDistinct
distinct-first x cs d = (none-same x cs, distinct-kept (λ c. not (same_caller c x)) cs d)

distinct-none : IsDistinct same_caller []
unfolding IsDistinct
distinct-none = tt

actors-distinct : (lines : List ActorLine) → IsDistinct same_caller (actors_of lines)
actors-distinct [] = subst (IsDistinct same_caller) (sym actors-none) distinct-none
actors-distinct (x ∷ lines) = subst (IsDistinct same_caller) (sym (actors-first x lines)) (distinct-first x.caller (actors_of lines) (actors-distinct lines))

actors-apart : (lines : List ActorLine) (a b : ℕ) → a < length (actors_of lines) → b < length (actors_of lines) → (b ≡ a → ⊥) →
    same_caller (caller_at lines a) (caller_at lines b) ≡ false
actors-apart lines a b here there apart = go (nat_lt a b) refl
  where
    go : (t : Bool) → nat_lt a b ≡ t → same_caller (caller_at lines a) (caller_at lines b) ≡ false
    go true h = apart_from_distinct same_caller (actors_of lines) a b (Device 0) (actors-distinct lines) (ltb-true a b h) there
    go false h =
        let above : b ≤ a = ltb-false a b h in
        let below : b < a = grind (arith, above, apart) in
        callers_apart (caller_at lines b) (caller_at lines a) (apart_from_distinct same_caller (actors_of lines) b a (Device 0) (actors-distinct lines) below here)

-- ---- an actor follows

pub have-started : (s : Script) (ps : List Progress) (n : ℕ) (first : Progress) → n ≡ actors_in s → ps ≡ replicate n first →
    ((who : Caller) (lines : List ActorLine) → HasFollowed who lines [] first) → HaveFollowed s [] ps
have-started s ps n first all is begins = record {
  as_many = ap length is ∙ length-replicate n first ∙ all;
  each = λ a below.
      let who = caller_at s.lines a in
      subst (λ (rs : List Reply). HasFollowed who s.lines rs (progress_at ps a)) (sym (no_replies who))
      (subst (λ (p : Progress). HasFollowed who s.lines [] p) (sym (at a below)) (begins who s.lines));
}
  where
    at : (a : ℕ) → a < actors_in s → progress_at ps a ≡ first
    at a below = ap (λ (qs : List Progress). progress_at qs a) is ∙ get_or-replicate n a first _ (omega (arith, below, all))

pub follow-one : (s : Script) (ps new : List Progress) (a : ℕ) (p : Progress) (reply : Reply) → a < actors_in s → length ps ≡ actors_in s → new ≡ set ps a p →
    ((replies : List Reply) → HasFollowed (caller_at s.lines a) s.lines replies (progress_at ps a) →
    HasFollowed (caller_at s.lines a) s.lines (replies ++ reply ∷ []) p) →
    (before : List Entry) (e : Entry) → HaveFollowed s before ps → caller_at s.lines a ≡ e.caller → e.reply ≡ reply → HaveFollowed s (before ++ e ∷ []) new
follow-one s ps new a p reply there many is follows before e have mine told = record {
  as_many = ap length is ∙ length-set ps a p ∙ many;
  each = λ b below. elim (eqb_tells b a) [ inl h ↦ subst (λ (k : ℕ). Follows k) (sym h.1) here | inr h ↦ other b below h.1 ];
}
  where
    Follows : ℕ → Type 0
    Follows b = HasFollowed (caller_at s.lines b) s.lines (replies_of (caller_at s.lines b) (before ++ e ∷ [])) (progress_at new b)

    here : Follows a
    here =
        let who = caller_at s.lines a in
        let at : progress_at new a ≡ p = ap (λ (qs : List Progress). progress_at qs a) is ∙ get_or-set_same ps a p _ (omega (arith, there, many)) in
        let more : replies_of who (before ++ e ∷ []) ≡ replies_of who before ++ reply ∷ [] =
        own_reply who before e (sym mine) ∙ ap (λ (r : Reply). replies_of who before ++ r ∷ []) told in
        subst (λ (q : Progress). HasFollowed who s.lines (replies_of who (before ++ e ∷ [])) q) (sym at)
        (subst (λ (rs : List Reply). HasFollowed who s.lines rs p) (sym more) (follows (replies_of who before) (have.each a there)))

    other : (b : ℕ) → b < actors_in s → (b ≡ a → ⊥) → Follows b
    other b below apart =
        let who = caller_at s.lines b in
        let at : progress_at new b ≡ progress_at ps b = ap (λ (qs : List Progress). progress_at qs b) is ∙ get_or-set_other ps a b p _ apart in
        let same : replies_of who (before ++ e ∷ []) ≡ replies_of who before =
        others_reply who before e (ap (λ (c : Caller). same_caller c who) (sym mine) ∙ actors-apart s.lines a b there below apart) in
        subst (λ (q : Progress). HasFollowed who s.lines (replies_of who (before ++ e ∷ [])) q) (sym at)
        (subst (λ (rs : List Reply). HasFollowed who s.lines rs (progress_at ps b)) (sym same) (have.each b below))
