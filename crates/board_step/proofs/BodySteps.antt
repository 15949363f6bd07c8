-- One law for all bodies, from exactness on parts, the table of reach and the published words.
use Rattle.board_step.proofs.Basics.{◌≡◌, ℕ, List, [], ◌∷◌, length, refl, sym, ap, ◌∙◌, subst, Ok, Err, arith, Result, Call, Caller, Event, Reply, Shape, with_told, Lacks, Board, Parts, part_in, Wishes, Log, run, reaches, OnParts, gives, lacks, run_on, LacksReached, plan_of, Agrees, Exact, exact_on_parts, words_tell, plan_on, counted, reach, Ran, IsOf, IsWorth, plan_by, IsStepFrom, BodiesStep, Did, LeadsFrom, DoneLeads}
use Rattle.board_step.proofs.CountingAnswers.{answers_once}
use Rattle.board_step.proofs.ReachCalls.{reach_is_table}

-- a list of one reply
one_reply : (rs : List Reply) → length rs ≡ 1 → (r : Reply) × (rs ≡ r ∷ [])
one_reply [] one = cc
one_reply (r ∷ []) one = (r, refl)
one_reply (r ∷ s ∷ rs) one = absurd (omega (arith, one))

-- the plan by the words is that of the board
same_plan : (words : List _) (q : Parts) (shape : Shape) (caller : Caller) (call : Call) (b : Board) → IsOf shape words q b → plan_by words shape caller call ≡ plan_on b caller call
same_plan words q shape caller call b is =
    ap (λ xs. plan_by xs shape caller call) (sym is.publishes)
    ∙ (λ i. plan_of ((words_tell b.registry b.shape.tick is.sound).told i) (sym is.one_shape i) caller call)

module _ (q : Parts) (caller : Caller) (call : Call) (ws : Wishes) (b : Board) (agrees : Agrees q b) where
  worth : (o : OnParts (Unit {0})) → Exact o (run (plan_on b caller call) b ws) q (reaches (plan_on b caller call) b ws) → IsWorth b caller call q o
  worth (gives _ log left later) h = record {
    reply = one.0;
    answered = ap (λ (l : Log). l.answers) h.log ∙ one.1;
    leads = record {
      next = counted b call (run (plan_on b caller call) b ws).board;
      step = λ may. record {
        allowed = may.allowed;
        in_limits = may.in_limits;
        wishes = ws;
        replied = one.1;
        told = sym (ap (λ (l : Log). l.events) h.log);
        leads = refl;
      };
      agrees = λ p v e. ap (λ (x : Parts). part_in x p) (grind arith) ∙ h.agrees p v e;
      held = h.held;
      reached = λ p within. h.all p (reach_is_table b caller call ws p ∙ within);
    };
  }
    where
      one : (r : Reply) × ((run (plan_on b caller call) b ws).log.answers ≡ r ∷ [])
      one = one_reply (run (plan_on b caller call) b ws).log.answers (answers_once b caller call ws)
  worth (lacks p) h = record { lacking = h.lacking; reached = sym (reach_is_table b caller call ws p) ∙ h.reached }

pub bodies_step : BodiesStep
bodies_step shape words q caller call ws b is =
    subst (λ m. IsWorth b caller call q (run_on m q ws)) (sym (same_plan words q shape caller call b is))
    (worth q caller call ws b is.agrees (run_on (plan_on b caller call) q ws) (exact_on_parts (plan_on b caller call) q b ws is.agrees))

-- ---- bodies in code

first_is : (r s : Reply) → r ∷ [] ≡ s ∷ [] → r ≡ s
first_is r s e = cc

module _ (b : Board) (caller : Caller) (call : Call) (q : Parts) (before events : List Event) (after : Parts) (later : Wishes) where
  leads : (result : Result Reply Lacks) (o : OnParts (Unit {0})) → Did result before events after later o → IsWorth b caller call q o → LeadsFrom b caller call q result before events after
  leads (Ok reply) (gives _ log left ws) did worth =
      record {
        told = log.events;
        noted = did.noted;
        leads = subst (λ (x : Reply × Parts). IsStepFrom b caller call q x.1 x.0 log.events) (λ i. ((first_is worth.reply reply (sym worth.answered ∙ did.answers)) i, sym did.parts i)) worth.leads;
      }
  leads (Ok reply) (lacks p) did worth = absurd did
  leads (Err l) (gives _ log left ws) did worth = absurd did
  leads (Err l) (lacks p) did worth = subst (λ x. LacksReached x q (reach b caller call)) (sym did) worth

pub done_leads : DoneLeads
done_leads shape words q caller call ws result before events after later did b is =
    leads b caller call q before events after later result (run_on (plan_by words shape caller call) q ws) did (bodies_step shape words q caller call ws b is)

-- what a body told is what its call tells on each board of which its parts are
module _ (shape : Shape) (words : List ℕ) (q : Parts) (caller : Caller) (call : Call) (ws : Wishes) (b : Board) (is : IsOf shape words q b)
    (reply : Reply) (before now : List Event) (after : Parts) (later : Wishes) where
  ran_by : (o : OnParts (Unit {0})) → Exact o (run (plan_on b caller call) b ws) q (reaches (plan_on b caller call) b ws) → Did (Ok reply) before now after later o → Ran b caller call ws reply before now
  ran_by (gives _ log left others) h did = record { answers = ap (λ (l : Log). l.answers) (sym h.log) ∙ did.answers; events = did.noted ∙ ap (λ (l : Log). with_told before l.events) h.log }
  ran_by (lacks p) h did = absurd did

  pub done_ran : Did (Ok reply) before now after later (run_on (plan_by words shape caller call) q ws) → Ran b caller call ws reply before now
  done_ran did = ran_by (run_on (plan_on b caller call) q ws) (exact_on_parts (plan_on b caller call) q b ws is.agrees)
      (subst (λ m. Did (Ok reply) before now after later (run_on m q ws)) (same_plan words q shape caller call b is) did)
