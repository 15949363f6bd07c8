-- Requests stay pending until they are taken, along every legal history.
use Rattle.board_laws.proofs.Basics.{routing_on, ◌≡◌, ℕ, ◌+◌, Bool, true, false, All, ◌&&◌, ◌||◌, ◌⊎◌, inl, inr, List, [], ◌∷◌, ◌++◌, map, length, refl, sym, ap, subst, ◌∙◌, arith, slice_get, unwrap_or, list_any, is_allowed, first_of, Call, Caller, Entry, Message, Reply, Shape, LocalApic, power_on, Board, Sending, numbers_below, has_request_on, range_reasons, number_of, frame_stays, would_publish, plan_on, outcome_of, with_counts, Step, Leads, wishes_shown, next_board, Point, board_at, board_left, IsLegal, OfLegalHistories, sendings_of, takes_by, is_processor, is_ack, takes, IsPendingOrTaken, SendingStands, SendingsStand, RequestsStayPending, steps_are_followed, next_is, number_at, apics_many, apics_numbered}
use Rattle.board_laws.proofs.Points.{step_at, after_point, holds_at, at_points}
use Rattle.board_laws.proofs.PendingPlans.{or_later, has, at, Fine, IsMade, Good}
use Rattle.board_laws.proofs.PendingCalls.{call_safe}
use Rattle.board_laws.proofs.PendingTaking.{Taking, TakingRun, next_taking}

-- ---- a board at power-on

pub opening_fine : (cpus : ℕ) → Fine cpus (map power_on (numbers_below cpus))
opening_fine cpus = record {
  places = let many : length (map power_on (numbers_below cpus)) ≡ cpus = apics_many cpus in omega (many, arith);
  numbers = λ n. let at : (unwrap_or (slice_get (map power_on (numbers_below cpus)) n) (power_on n)).number ≡ 0 + n = number_at 0 (map power_on (numbers_below cpus)) n (power_on n) (apics_numbered cpus) (omega arith) in omega (arith, at);
}

-- ---- one entry

-- the sendings of an entry, and the board after its plan
abbrev made_by : Board → Entry → List (Board × Sending)
made_by b e = sendings_of (plan_on b e.caller e.call) b (wishes_shown e)

abbrev after_plan : Board → Entry → Board
after_plan b e = (outcome_of b e (wishes_shown e)).board

-- an entry that leaves these local APICs loses no request, or it is an Ack and takes what it answers
abbrev LosesNone : Board → Entry → List LocalApic → Type 0
LosesNone b e apics =
    Good b.shape.cpus b.lapics apics (made_by b e)
    ⊎ ((e.call ≡ Call.Ack) × Taking b.shape.cpus (number_of e.caller) b.lapics apics (made_by b e) (outcome_of b e (wishes_shown e)).log.answers)

loses_none : (b : Board) (e : Entry) → Fine b.shape.cpus b.lapics → LosesNone b e (after_plan b e).lapics
loses_none b e fine = of_ack (is_ack e.call) refl
  where
    of_ack : (t : Bool) → is_ack e.call ≡ t → LosesNone b e (after_plan b e).lapics
    of_ack false other = inl (call_safe (routing_on b) b.shape (first_of (range_reasons b.shape e.call)) (number_of e.caller) e.call other b (wishes_shown e) fine)
    of_ack true is =
        let ack : e.call ≡ Call.Ack = (grind (arith, is)) in
        inr (ack, subst (λ (c : Call). TakingRun b.shape.cpus (number_of e.caller) (plan_on b e.caller c) b (wishes_shown e)) (sym ack) (next_taking (routing_on b) b.shape (number_of e.caller) b (wishes_shown e) fine))

-- an entry leaves each request or takes it, and each of its sendings leaves a request at each processor that it reached
record Passes (shape : Shape) (b : Board) (e : Entry) : Type 0 where
  same : (next_board b e).shape ≡ shape
  fine : Fine shape.cpus (next_board b e).lapics
  keeps : (n : ℕ) (message : Message) → has_request_on b message n ≡ true → (has_request_on (next_board b e) message n ≡ true) ⊎ (takes n message e ≡ true)
  sent : All (λ (x : Board × Sending). IsMade shape.cpus (next_board b e).lapics x.0 x.1) (made_by b e)

counted_lapics : (t : Bool) (o : Board) → (with_counts t o).lapics ≡ o.lapics
counted_lapics t o = grind arith

counted_shape : (t : Bool) (o : Board) → (with_counts t o).shape ≡ o.shape
counted_shape t o = grind arith

never : (t : Bool) → (t && false) ≡ true → false ≡ true
never t h1 = grind arith

-- who is allowed to ask Ack is the processor of that number
asks_ack : (caller : Caller) (shape : Shape) (n : ℕ) → is_allowed caller Call.Ack shape ≡ true → number_of caller ≡ n → is_processor n caller ≡ true
asks_ack caller shape n h1 h2 = grind arith

passes_own : (b : Board) (e : Entry) (c : Board) → Fine b.shape.cpus b.lapics → Step b e c → Passes b.shape b e
passes_own b e c fine step = from (subst (LosesNone b e) (sym (counted_lapics (would_publish b e.call) (after_plan b e))) (loses_none b e fine))
  where
    same_shape : (next_board b e).shape ≡ b.shape
    same_shape = counted_shape (would_publish b e.call) (after_plan b e) ∙ (frame_stays (plan_on b e.caller e.call) b (wishes_shown e)).shape

    from : LosesNone b e (next_board b e).lapics → Passes b.shape b e
    from (inl g) = record { same = same_shape; fine = g.stands; sent = g.sent; keeps = λ k message h. inl (g.keeps k message h) }
    from (inr (ack, g)) = record { same = same_shape; fine = g.stands; sent = g.sent; keeps = λ k message h. kept k message (g.keeps k message h) }
      where
        kept : (k : ℕ) (message : Message) → (has (at (next_board b e).lapics k) message ≡ true) ⊎ ((number_of e.caller ≡ k) × ((r : Reply) → (outcome_of b e (wishes_shown e)).log.answers ≡ r ∷ [] → takes_by message r ≡ true)) → (has_request_on (next_board b e) message k ≡ true) ⊎ (takes k message e ≡ true)
        kept k message (inl h) = inl h
        kept k message (inr (is, told)) = inr (
            ap (λ t. t && (is_processor k e.caller && takes_by message e.reply)) (ap is_ack ack)
            ∙ ap (λ t. t && takes_by message e.reply) (asks_ack e.caller b.shape k (ap (λ x. is_allowed e.caller x b.shape) (sym ack) ∙ step.allowed) is)
            ∙ told e.reply (steps_are_followed b e c step).replied)

-- a board of this shape with all its local APICs
pub record Stands (shape : Shape) (b : Board) : Type 0 where
  pub same : b.shape ≡ shape
  pub fine : Fine shape.cpus b.lapics

passes : (shape : Shape) (b : Board) (e : Entry) (c : Board) → Stands shape b → Step b e c → Passes shape b e
passes shape b e c stands step = subst (λ (s : Shape). Fine s.cpus b.lapics → Passes s b e) stands.same (λ fine. passes_own b e c fine step) stands.fine

-- ---- along a history

stays : (shape : Shape) (b : Board) (es more : List Entry) (c : Board) → Stands shape b → Leads b (es ++ more) c → (n : ℕ) (message : Message) → has_request_on b message n ≡ true → IsPendingOrTaken b n message es
stays shape b [] more c stands leads n message h = inl h
stays shape b (e ∷ es) more c stands (next, step, later) n message h =
    let p = passes shape b e next stands step in
    of_entry (λ had. stays shape (next_board b e) es more c (record { same = p.same; fine = p.fine }) (subst (λ (x : Board). Leads x (es ++ more) c) (sym (next_is b e next step)) later) n message had) (p.keeps n message h)
  where
    of_entry : (has_request_on (next_board b e) message n ≡ true → IsPendingOrTaken (next_board b e) n message es) → (has_request_on (next_board b e) message n ≡ true) ⊎ (takes n message e ≡ true) → IsPendingOrTaken b n message (e ∷ es)
    of_entry on (inl had) = of_later (on had)
      where
        of_later : IsPendingOrTaken (next_board b e) n message es → IsPendingOrTaken b n message (e ∷ es)
        of_later (inl still) = inl still
        of_later (inr taken) = inr (or_later (takes n message e) (list_any (takes n message) es) taken)
    of_entry on (inr taken) = inr (ap (λ t. t || list_any (takes n message) es) taken)

pub step_stands : (shape : Shape) (b : Board) (e : Entry) (c : Board) → Step b e c → Stands shape b → Stands shape c
step_stands shape b e c step stands = let p = passes shape b e c stands step in subst (Stands shape) (next_is b e c step) (record { same = p.same; fine = p.fine })

sendings_stand : (shape : Shape) (p : Point) → IsLegal shape p → SendingsStand shape p
sendings_stand shape p legal = λ k d below. of_made (passed.sent k d below)
  where
    passed : Passes shape (board_at shape p) p.entry
    passed = passes shape (board_at shape p) p.entry (board_left shape p) (holds_at shape p legal (Stands shape) (step_stands shape) (record { same = refl; fine = opening_fine shape.cpus })) (step_at shape p legal)

    of_made : {b : Board} {s : Sending} → IsMade shape.cpus (board_left shape p).lapics b s → SendingStands shape (board_left shape p) p.after b s
    of_made {b} {s} made = record {
      chosen = made.chosen;
      pending = λ n es there begins. stays shape (board_left shape p) es begins.0 legal.0 (record { same = passed.same; fine = passed.fine })
          (subst (λ (l : List Entry). Leads (board_left shape p) l legal.0) begins.1 (after_point shape p legal)) n s.heading.message (made.pending n there);
    }

pub requests_stay_pending : OfLegalHistories RequestsStayPending
requests_stay_pending = at_points SendingsStand sendings_stand
