-- On the parts in hand: the same as on the board, or a part of the reach that is lacking.
use Rattle.std.proofs.Common.{◌≡◌, ◌↔◌, true≢false, Bool, true, false, refl, sym, ap, ◌∙◌, subst, ◌||◌, Some, None, is_some}
use Rattle.std.specs.declared.option.Option.{Option}
use Rattle.irq_base.specs.declared.shape.Part.{Part}
use Rattle.board_model.specs.Board.{ValueOf, Board, part_of, with_part, is_same}
use Rattle.board_model.specs.Hand.{Parts, part_in, with_part_in, all_parts}
use Rattle.board_model.specs.Plan.{Plan, done, look, put, tell, answer, choose}
use Rattle.board_model.specs.Run.{Log, told, answered, sending, Wishes, next_wish, later_wishes, Outcome, with_log, run, reaches, OnParts, gives, lacks, with_log_on, run_on}
use Rattle.board_model.specs.Agreement.{Agrees, Exact, IsLacking, ReachesPast}
use Rattle.board_model.proofs.Lens.{same_is, same_itself, in_written, in_other, all_reads, all_written, none_too}
use Rattle.board_model.proofs.Alike.{or-true, or-true_right}

-- ---- one write

module _ (q : Parts) (p : Part) (v : ValueOf p) (h : part_in q p ≡ Some v) (w : ValueOf p) where
  held_after : (r : Part) → is_some (part_in (with_part_in q p w) r) ≡ is_some (part_in q r)
  held_after r = elim (is_same p r) as (λ t. is_same p r ≡ t → is_some (part_in (with_part_in q p w) r) ≡ is_some (part_in q r)) [
    | true ↦ λ s. subst (λ x. is_some (part_in (with_part_in q p w) x) ≡ is_some (part_in q x)) (same_is p r s) (ap is_some (in_written q p v w h) ∙ sym (ap is_some h))
    | false ↦ λ s. ap is_some (in_other q p r w s)
  ] refl

module _ (q : Parts) (b : Board) (p : Part) (v : ValueOf p) (h : part_in q p ≡ Some v) (w : ValueOf p) where
  agrees-itself : Agrees q b → (u : ValueOf p) → part_in (with_part_in q p w) p ≡ Some u → part_in (all_parts (with_part b p w)) p ≡ Some u
  agrees-itself a u e = ap (λ x. part_in x p) (all_written b p w) ∙ in_written (all_parts b) p v w (a p v h) ∙ sym (in_written q p v w h) ∙ e

  agrees-other : Agrees q b → (r : Part) (u : ValueOf r) → is_same p r ≡ false → part_in (with_part_in q p w) r ≡ Some u → part_in (all_parts (with_part b p w)) r ≡ Some u
  agrees-other a r u s e = ap (λ x. part_in x r) (all_written b p w) ∙ in_other (all_parts b) p r w s ∙ a r u (sym (in_other q p r w s) ∙ e)

  agrees_after : Agrees q b → Agrees (with_part_in q p w) (with_part b p w)
  agrees_after a r u e = elim (is_same p r) as (λ t. is_same p r ≡ t → part_in (all_parts (with_part b p w)) r ≡ Some u) [
    | true ↦ λ s. subst (λ x. (u : ValueOf x) → part_in (with_part_in q p w) x ≡ Some u → part_in (all_parts (with_part b p w)) x ≡ Some u) (same_is p r s) (agrees-itself a) u e
    | false ↦ λ s. agrees-other a r u s e
  ] refl

-- ---- what a step adds

shows_too : {A : Type 0} (f : Log → Log) (s : OnParts A) (o : Outcome A) (q : Parts) (reach : Part → Bool) → Exact s o q reach → Exact (with_log_on f s) (with_log f o) q reach
shows_too f (gives a l r ws) o q reach h = record { value = h.value; log = ap f h.log; wishes = h.wishes; agrees = h.agrees; held = h.held; all = h.all }
shows_too f (lacks p) o q reach h = h

-- one part more in the reach, which is held
reaches_too : {A : Type 0} (p : Part) (s : OnParts A) (o : Outcome A) (q : Parts) (reach : Part → Bool) → is_some (part_in q p) ≡ true → Exact s o q reach → Exact s o q (λ r. is_same p r || reach r)
reaches_too p (gives a l r ws) o q reach here h = record {
  value = h.value;
  log = h.log;
  wishes = h.wishes;
  agrees = h.agrees;
  held = h.held;
  all = λ r t. elim (is_same p r) as (λ t. is_same p r ≡ t → (t || reach r) ≡ true → is_some (part_in q r) ≡ true) [
    | true ↦ λ s _. subst (λ x. is_some (part_in q x) ≡ true) (same_is p r s) here
    | false ↦ λ s t. h.all r t
  ] refl t;
}
reaches_too p (lacks r) o q reach here h = record { lacking = h.lacking; reached = or-true_right _ _ h.reached }

held_before : {A : Type 0} (s : OnParts A) (o : Outcome A) (q q' : Parts) (reach : Part → Bool) → ((p : Part) → is_some (part_in q' p) ≡ is_some (part_in q p)) → Exact s o q' reach → Exact s o q reach
held_before (gives a l r ws) o q q' reach same h = record {
  value = h.value;
  log = h.log;
  wishes = h.wishes;
  agrees = h.agrees;
  held = λ p. h.held p ∙ same p;
  all = λ p t. sym (same p) ∙ h.all p t;
}
held_before (lacks p) o q q' reach same h = record { lacking = none_too (part_in q p) (part_in q' p) (same p) h.lacking; reached = h.reached }

-- ---- every plan

pub exact_on_parts : {A : Type 0} (m : Plan A) (q : Parts) (b : Board) (ws : Wishes) → Agrees q b → Exact (run_on m q ws) (run m b ws) q (reaches m b ws)
exact_on_parts (done a) q b ws agrees = record { value = refl; log = refl; wishes = refl; agrees = agrees; held = λ p. refl; all = λ p t. cc }
exact_on_parts {A} (look p k) q b ws agrees = elim (part_in q p) as (λ (x : Option (ValueOf p)). part_in q p ≡ x → Exact (elim x [ None ↦ lacks p | Some v ↦ run_on (k v) q ws ]) (run (k (part_of b p)) b ws) q (λ r. is_same p r || reaches (k (part_of b p)) b ws r)) [
  | None ↦ λ e. record { lacking = e; reached = or-true _ _ (same_itself p) }
  | Some v ↦ λ e.
      subst (λ u. Exact (run_on (k v) q ws) (run (k u) b ws) q (λ r. is_same p r || reaches (k u) b ws r)) (sym (all_reads b p v (agrees p v e)))
      (reaches_too p (run_on (k v) q ws) (run (k v) b ws) q (reaches (k v) b ws) (ap is_some e) (exact_on_parts (k v) q b ws agrees))
] refl
exact_on_parts {A} (put p w rest) q b ws agrees = elim (part_in q p) as (λ (x : Option (ValueOf p)). part_in q p ≡ x → Exact (elim x [ None ↦ lacks p | Some _ ↦ run_on rest (with_part_in q p w) ws ]) (run rest (with_part b p w) ws) q (λ r. is_same p r || reaches rest (with_part b p w) ws r)) [
  | None ↦ λ e. record { lacking = e; reached = or-true _ _ (same_itself p) }
  | Some v ↦ λ e.
      reaches_too p (run_on rest (with_part_in q p w) ws) (run rest (with_part b p w) ws) q (reaches rest (with_part b p w) ws) (ap is_some e)
      (held_before (run_on rest (with_part_in q p w) ws) (run rest (with_part b p w) ws) q (with_part_in q p w) (reaches rest (with_part b p w) ws) (held_after q p v e w)
      (exact_on_parts rest (with_part_in q p w) (with_part b p w) ws (agrees_after q b p v e w agrees)))
] refl
exact_on_parts (tell x rest) q b ws agrees = shows_too (told x) (run_on rest q ws) (run rest b ws) q (reaches rest b ws) (exact_on_parts rest q b ws agrees)
exact_on_parts (answer x rest) q b ws agrees = shows_too (answered x) (run_on rest q ws) (run rest b ws) q (reaches rest b ws) (exact_on_parts rest q b ws agrees)
exact_on_parts (choose m about g k) q b ws agrees = shows_too (sending m about (g (next_wish ws))) (run_on (k (g (next_wish ws))) q (later_wishes ws)) (run (k (g (next_wish ws))) b (later_wishes ws)) q (reaches (k (g (next_wish ws))) b (later_wishes ws)) (exact_on_parts (k (g (next_wish ws))) q b (later_wishes ws) agrees)

-- ---- what is lacking

lacking_from : {A : Type 0} (s : OnParts A) (o : Outcome A) (q : Parts) (reach : Part → Bool) → Exact s o q reach → IsLacking s ↔ ReachesPast q reach
lacking_from (gives a l r ws) o q reach h = (λ f. absurd f, λ x. absurd (true≢false (sym (h.all x.part x.lacks.reached) ∙ ap is_some x.lacks.lacking)))
lacking_from (lacks p) o q reach h = (λ _. record { part = p; lacks = h }, λ _. tt)

pub lacking_exactly : {A : Type 0} (m : Plan A) (q : Parts) (b : Board) (ws : Wishes) → Agrees q b → IsLacking (run_on m q ws) ↔ ReachesPast q (reaches m b ws)
lacking_exactly m q b ws agrees = lacking_from (run_on m q ws) (run m b ws) q (reaches m b ws) (exact_on_parts m q b ws agrees)

-- ---- on any parts, of a board or not

lacks_too : {A : Type 0} (f : Log → Log) (s : OnParts A) (p : Part) → with_log_on f s ≡ lacks p → s ≡ lacks p
lacks_too f (gives a l r ws) p e = cc
lacks_too f (lacks r) p e = cc

lacks-is : {A : Type 0} (r p : Part) → ◌≡◌ {A = OnParts A} (lacks r) (lacks p) → r ≡ p
lacks-is r p e = cc

pub lacking_is_not_held : {A : Type 0} (m : Plan A) (q : Parts) (ws : Wishes) (p : Part) → run_on m q ws ≡ lacks p → part_in q p ≡ None
lacking_is_not_held (done a) q ws p e = cc
lacking_is_not_held {A} (look r k) q ws p e = elim (part_in q r) as (λ (x : Option (ValueOf r)). part_in q r ≡ x → ◌≡◌ {A = OnParts A} (elim x [ None ↦ lacks r | Some v ↦ run_on (k v) q ws ]) (lacks p) → part_in q p ≡ None) [
  | None ↦ λ h l. subst (λ x. part_in q x ≡ None) (lacks-is r p l) h
  | Some v ↦ λ _ l. lacking_is_not_held (k v) q ws p l
] refl e
lacking_is_not_held {A} (put r w rest) q ws p e = elim (part_in q r) as (λ (x : Option (ValueOf r)). part_in q r ≡ x → ◌≡◌ {A = OnParts A} (elim x [ None ↦ lacks r | Some _ ↦ run_on rest (with_part_in q r w) ws ]) (lacks p) → part_in q p ≡ None) [
  | None ↦ λ h l. subst (λ x. part_in q x ≡ None) (lacks-is r p l) h
  | Some v ↦ λ h l. none_too (part_in q p) (part_in (with_part_in q r w) p) (held_after q r v h w p) (lacking_is_not_held rest (with_part_in q r w) ws p l)
] refl e
lacking_is_not_held (tell x rest) q ws p e = lacking_is_not_held rest q ws p (lacks_too (told x) (run_on rest q ws) p e)
lacking_is_not_held (answer x rest) q ws p e = lacking_is_not_held rest q ws p (lacks_too (answered x) (run_on rest q ws) p e)
lacking_is_not_held (choose m about g k) q ws p e = lacking_is_not_held (k (g (next_wish ws))) q (later_wishes ws) p (lacks_too (sending m about (g (next_wish ws))) (run_on (k (g (next_wish ws))) q (later_wishes ws)) p e)
