-- What a plan gives on the parts in hand, and what another gives after it.
use Rattle.std.proofs.Common.{◌≡◌, Bool, true, List, [], ◌∷◌, ◌++◌, Ok, Err, refl, sym, ap, ◌∙◌, subst}
use Rattle.std.specs.Prelude.{Result, is_some}
use Rattle.std.proofs.lemmas.List.{append-nil}
use Rattle.irq_base.specs.declared.event.Event.{Event}
use Rattle.irq_base.specs.declared.reply.Reply.{Reply}
use Rattle.irq_base.specs.declared.shape.Part.{Part}
use Rattle.board_model.specs.Board.{Board}
use Rattle.board_model.specs.Hand.{Parts, part_in}
use Rattle.board_model.specs.Plan.{Plan, done, look, put, tell, answer, choose, ◌>>=◌, ◌>>◌}
use Rattle.board_model.specs.Run.{Log, Wishes, Outcome, silence, both, run, reaches, OnParts, gives, lacks, with_log_on, run_on, then_on}
use Rattle.board_model.specs.Agreement.{Agrees, Exact, HoldsReached}
use Rattle.board_model.proofs.Sequence.{run_on-bind}
use Rattle.board_model.proofs.OnParts.{exact_on_parts, lacking_is_not_held}
use Rattle.board_raise.specs.declared.lacks.Lacks.{Lacks}
use Rattle.board_raise.specs.declared.parts.Parts as code
use Rattle.board_raise.specs.InHand.{parts_of}
use Rattle.board_raise.specs.Shown.{IsEnd, EndsWith, StopsAt, DoesQuietly, IsNeeded, HoldsNeeded}

-- three plans, one after another
pub bind-assoc : {A B C : Type 0} (f : A → Plan B) (g : B → Plan C) (m : Plan A) → (m >>= f >>= g) ≡ (m >>= (λ a. f a >>= g))
bind-assoc f g (done a) = refl
bind-assoc f g (look p k) = λ i. look p (λ v. bind-assoc f g (k v) i)
bind-assoc f g (put p v rest) = ap (put p v) (bind-assoc f g rest)
bind-assoc f g (tell x rest) = ap (tell x) (bind-assoc f g rest)
bind-assoc f g (answer r rest) = ap (answer r) (bind-assoc f g rest)
bind-assoc f g (choose m about h k) = λ i. choose m about h (λ s. bind-assoc f g (k s) i)

-- ---- parts and wishes that equal those

module _ {A : Type 0} (a : A) (es : List Event) (rs : List Reply) where
  pub ends_as : (q r : Parts) (ws vs : Wishes) → q ≡ r → ws ≡ vs → (o : OnParts A) → EndsWith a es rs r vs o → EndsWith a es rs q ws o
  ends_as q r ws vs same others (gives b l left later) h = record { value_is = h.value_is; events_are = h.events_are; replies_are = h.replies_are; parts = same ∙ h.parts; wishes = others ∙ h.wishes }
  ends_as q r ws vs same others (lacks p) h = absurd h

-- a call on the parts that a rig lent, as one on those that it held and holds
module _ {S A : Type 0} (value : S → A) (result : Result S Lacks) (m : Plan A) where
  does_as : (q r : Parts) (ws vs : Wishes) → q ≡ r → ws ≡ vs → (result : Result S Lacks) (o : OnParts A) → DoesQuietly value result r vs o → DoesQuietly value result q ws o
  does_as q r ws vs same others (Ok s) o h = ends_as (value s) [] [] q r ws vs same others o h
  does_as q r ws vs same others (Err l) o h = h

  pub does_on : (old lent left after : code.Parts) (ws later : Wishes) → lent ≡ old → after ≡ left → later ≡ ws
      → DoesQuietly value result (parts_of left) ws (run_on m (parts_of lent) ws) → DoesQuietly value result (parts_of after) later (run_on m (parts_of old) ws)
  does_on old lent left after ws later was is others h =
      subst (λ (p : code.Parts). DoesQuietly value result (parts_of after) later (run_on m (parts_of p) ws)) was
      (does_as (parts_of after) (parts_of left) later ws (ap parts_of is) others result (run_on m (parts_of lent) ws) h)

-- ---- one plan after another

module _ {A B : Type 0} (f : A → Plan B) (m : Plan A) (q : Parts) (ws : Wishes) where
  module _ (a : A) (es : List Event) (rs : List Reply) (r : Parts) (vs : Wishes) where
    logged : (b : B) (fs : List Event) (ss : List Reply) (s : Parts) (us : Wishes) (l : Log) → es ≡ l.events → rs ≡ l.answers → (o : OnParts B) → EndsWith b fs ss s us o → EndsWith b (es ++ fs) (rs ++ ss) s us (with_log_on (both l) o)
    logged b fs ss s us l ee re (gives c k left later) h = record {
      value_is = h.value_is;
      events_are = λ i. ee i ++ h.events_are i;
      replies_are = λ i. re i ++ h.replies_are i;
      parts = h.parts;
      wishes = h.wishes;
    }
    logged b fs ss s us l ee re (lacks p) h = absurd h

    pub then_ends : (b : B) (fs : List Event) (ss : List Reply) (s : Parts) (us : Wishes) → EndsWith a es rs r vs (run_on m q ws) → EndsWith b fs ss s us (run_on (f a) r vs) → EndsWith b (es ++ fs) (rs ++ ss) s us (run_on (m >>= f) q ws)
    then_ends b fs ss s us first next = subst (EndsWith b (es ++ fs) (rs ++ ss) s us) (sym (run_on-bind f m q ws)) (from (run_on m q ws) first)
      where
        from : (o : OnParts A) → EndsWith a es rs r vs o → EndsWith b (es ++ fs) (rs ++ ss) s us (then_on o f)
        from (gives c l left later) h = logged b fs ss s us l h.events_are h.replies_are (run_on (f c) left later) (subst (EndsWith b fs ss s us) (λ i. run_on (f (h.value_is i)) (h.parts i) (h.wishes i)) next)
        from (lacks p) h = absurd h

    -- the second shows nothing
    pub then_quiet : (b : B) (s : Parts) (us : Wishes) → EndsWith a es rs r vs (run_on m q ws) → EndsWith b [] [] s us (run_on (f a) r vs) → EndsWith b es rs s us (run_on (m >>= f) q ws)
    then_quiet b s us first next =
        subst (λ l. EndsWith b es l s us (run_on (m >>= f) q ws)) (append-nil rs)
        (subst (λ l. EndsWith b l (rs ++ []) s us (run_on (m >>= f) q ws)) (append-nil es) (then_ends b [] [] s us first next))

    -- the second lacks a part
    pub then_stops : (p : Part) → EndsWith a es rs r vs (run_on m q ws) → StopsAt p (run_on (f a) r vs) → StopsAt p (run_on (m >>= f) q ws)
    then_stops p first next = subst (StopsAt p) (sym (run_on-bind f m q ws)) (from (run_on m q ws) first)
      where
        unlogged : (l : Log) (o : OnParts B) → StopsAt p o → StopsAt p (with_log_on (both l) o)
        unlogged l (gives c k left later) h = absurd h
        unlogged l (lacks x) h = h

        from : (o : OnParts A) → EndsWith a es rs r vs o → StopsAt p (then_on o f)
        from (gives c l left later) h = unlogged l (run_on (f c) left later) (subst (StopsAt p) (λ i. run_on (f (h.value_is i)) (h.parts i) (h.wishes i)) next)
        from (lacks x) h = absurd h

  -- the first lacks a part
  pub stops_first : (p : Part) → StopsAt p (run_on m q ws) → StopsAt p (run_on (m >>= f) q ws)
  stops_first p first = subst (StopsAt p) (sym (run_on-bind f m q ws)) (from (run_on m q ws) first)
    where
      from : (o : OnParts A) → StopsAt p o → StopsAt p (then_on o f)
      from (gives c l left later) h = absurd h
      from (lacks x) h = h

-- a plan, and then its value's value
pub then_done : {A B : Type 0} (g : A → B) (m : Plan A) (q : Parts) (ws : Wishes) (a : A) (es : List Event) (rs : List Reply) (r : Parts) (vs : Wishes) → EndsWith a es rs r vs (run_on m q ws) → EndsWith (g a) es rs r vs (run_on (m >>= (λ x. done (g x))) q ws)
then_done g m q ws a es rs r vs h = then_quiet (λ x. done (g x)) m q ws a es rs r vs (g a) r vs h (record { value_is = refl; events_are = refl; replies_are = refl; parts = refl; wishes = refl })

-- ---- what is lacking

module _ {A : Type 0} (m : Plan A) (q : Parts) (ws : Wishes) (reach : Board → Part → Bool) (same : (b : Board) (p : Part) → reaches m b ws p ≡ reach b p) where
  pub stops_needs : (p : Part) → StopsAt p (run_on m q ws) → IsNeeded p q reach
  stops_needs p h = record { lacking = lacking_is_not_held m q ws p (is (run_on m q ws) h); reached = λ b agrees. sym (same b p) ∙ from b (run_on m q ws) (exact_on_parts m q b ws agrees) h }
    where
      is : (o : OnParts A) → StopsAt p o → o ≡ lacks p
      is (gives c l left later) h = absurd h
      is (lacks x) h = ap lacks (sym h)

      from : (b : Board) (o : OnParts A) → Exact o (run m b ws) q (reaches m b ws) → StopsAt p o → reaches m b ws p ≡ true
      from b (gives c l left later) e h = absurd h
      from b (lacks x) e h = ap (reaches m b ws) h ∙ e.reached

  pub ends_holds : (a : A) (es : List Event) (rs : List Reply) (r : Parts) (vs : Wishes) → EndsWith a es rs r vs (run_on m q ws) → HoldsNeeded q reach
  ends_holds a es rs r vs h b agrees p t = from (run_on m q ws) (exact_on_parts m q b ws agrees) h
    where
      from : (o : OnParts A) → Exact o (run m b ws) q (reaches m b ws) → EndsWith a es rs r vs o → is_some (part_in q p) ≡ true
      from (gives c l left later) e h = e.all p (same b p ∙ t)
      from (lacks x) e h = absurd h
