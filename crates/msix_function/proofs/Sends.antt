-- The entries that are due are sent one after another.
use Rattle.std.proofs.Common.{◌≡◌, ℕ, ◌+◌, ◌-◌, ◌<◌, ◌≤◌, true, false, not, ◌&&◌, List, [], ◌∷◌, ◌++◌, length, filter, Some, None, Ok, Err, IfSome, refl, sym, ap, ◌∙◌, subst, arith, length-append}
use Rattle.std.proofs.lemmas.Bool.{true≢false}
use Rattle.std.proofs.lemmas.List.{append-nil, map-append, length-map}
use Rattle.std.proofs.lemmas.List.Elements.{All-nil, All-cons, All-append}
use Rattle.std.specs.declared.option.Option.{Option}
use Rattle.std.specs.List.{range_with_len}
use Rattle.irq_base.specs.Faces.{PlacedEntry, WhereTold, Rose, may_publish}
use Rattle.irq_base.specs.declared.call.Call.{Call}
use Rattle.irq_base.specs.declared.event.Event.{Event}
use Rattle.irq_base.specs.declared.face.Face.{Ghosts}
use Rattle.irq_base.specs.declared.reply.Done.{Done}
use Rattle.irq_base.specs.declared.reply.Spent.{Spent}
use Rattle.face_asks.specs.Asks.{HasAnswered, StopTold, IsAnswered, events_after}
use Rattle.face_asks.proofs.Told.{answered_none, answered_then, events_then}
use Rattle.msix_function.specs.Balance.{one_if}
use Rattle.msix_function.specs.Calls.{Operates, SendsAll}
use Rattle.msix_function.specs.Functions.{message_at, is_pending_at, is_held, is_due, due, pended, cleared, all_cleared}
use Rattle.msix_function.specs.Operations.{Sending, fire, AreMessages, call_of, can_send, numbers_in, calls_in}
use Rattle.msix_function.specs.declared.fired.Fired.TheVariants.{Sent}
use Rattle.msix_function.specs.declared.function.Function.{Function}
use Rattle.msix_function.proofs.Cleared.{is_in, due_still, cleared_next, all_cleared_is}
use Rattle.msix_function.proofs.Ranges.{passing, passing_more, passing_same, passing_from, not_there}

abbrev IsMessage : {N : ℕ} → Function N → Sending → Type 0
IsMessage f s = s.placed.entry.call ≡ call_of (message_at f s.number)

-- where so many are left as are to be asked, and fewer were, one is left
not_barred : (before between : Option ℕ) (asked messages : ℕ) (Q : Type 0) → WhereTold before between (λ had has. has + asked ≡ had) → asked < messages
    → IfSome between (λ left. 0 < left → ⊥) → IfSome before (λ left. messages ≤ left → Q)
not_barred None between asked messages Q falls fewer barred = tt
not_barred (Some had) (Some has) asked messages Q falls fewer barred = λ enough. absurd (barred (omega (arith, falls, fewer, enough)))
not_barred (Some had) None asked messages Q falls fewer barred = absurd falls

if_some : {A : Type 0} (o : Option A) (P R : A → Type 0) → ((x : A) → P x → R x) → IfSome o P → IfSome o R
if_some None P R h p = tt
if_some (Some x) P R h p = h x p

always : {A : Type 0} (o : Option A) (P : A → Type 0) → ((x : A) → P x) → IfSome o P
always None P h = tt
always (Some x) P h = h x

pub can_now : {N : ℕ} (f : Function N) (k : ℕ) → f.enabled ≡ true → false ≡ is_pending_at f k → false ≡ is_held f k → can_send f k ≡ true
can_now f k on clear free = (λ i. on i && (not (sym clear i) && not (sym free i)))

module _ {F : Type 0} (face : Ghosts F) {N : ℕ} where
  -- the message of a fire was sent
  pub fire_sent : (f : Function N) (k : ℕ) (before after : F) (call : Call) (had events : List Event) (done : Done) → can_send f k ≡ true → call ≡ call_of (message_at f k)
      → (messages : ℕ) → IsAnswered face call events (Ok done) before after → Operates face (fire k) messages (Ok (Sent done.reply)) before after f f had events
  fire_sent f k before after call had events done can is messages answered = record {
    sent = record { number = k; placed = placed } ∷ [];
    step = (can, record { placed = placed; one = refl; call = is; reply_is = refl }, refl);
    asked = answered.answered;
    stops = answered.stops;
    barred = tt;
    enough = always (face.left before) _ (λ _ _. refl);
    events = refl;
  }
    where
      placed : PlacedEntry
      placed = record { entry = record { caller = face.who before; call = call; reply = done.reply; events = events }; at = done.at }

  -- a limit barred the message of a fire
  pub fire_barred : (f now : Function N) (k : ℕ) (before after : F) (call : Call) (had events : List Event) (spent : Spent) → can_send f k ≡ true
      → call ≡ call_of (message_at f k) → now ≡ pended f k → IsAnswered face call events (Err spent) before after
      → Operates face (fire k) (one_if (can_send f k)) (Err spent) before after f now had events
  fire_barred f now k before after call had events spent can is pends answered = record {
    sent = [];
    step = (can, refl, pends);
    asked = answered.answered;
    stops = answered.stops;
    barred = (k, subst (λ (asked : Call). face.barred after asked spent) (is ∙ ap (λ (g : Function N). call_of (message_at g k)) (sym pends)) answered.barred);
    enough = if_some (face.left before) _ _
        (λ left ok enough. (let one = ap one_if can in absurd (true≢false (sym (ok (omega (arith, enough, one)) (ap may_publish is)))))) answered.enough;
    events = answered.quiet;
  }

  -- the entries below a number that are due were sent
  pub record SentBelow (f : Function N) (before : F) (k : ℕ) (count : ℕ) (between : F) (now : Function N) (had here : List Event) : Type 0 where
    pub sent : List Sending
    pub order : numbers_in sent ≡ passing (is_due f) k
    pub count_is : count ≡ length sent
    pub count_most : count ≤ k
    pub messages : AreMessages f sent
    pub cleared : now ≡ all_cleared f (numbers_in sent)
    pub asked : HasAnswered face before between (calls_in sent)
    pub stops : StopTold face None before between
    pub events : here ≡ events_after (calls_in sent) had

  pub none_sent : (f : Function N) (x : F) (had : List Event) → SentBelow f x 0 0 x f had had
  none_sent f x had = record {
    sent = [];
    order = refl;
    count_is = refl;
    count_most = omega arith;
    messages = All-nil _;
    cleared = refl;
    asked = answered_none face x;
    stops = (refl, refl);
    events = refl;
  }

  module _ (f : Function N) (before : F) (k count : ℕ) (between : F) (now : Function N) (had here : List Event)
      (so_far : SentBelow f before k count between now had here) where
    pub due_now : is_due now k ≡ is_due f k
    due_now = due_still f now (numbers_in so_far.sent) k so_far.cleared (ap (is_in k) so_far.order ∙ not_there (is_due f) k)

    -- the next is not due
    pub not_sent : is_due now k ≡ false → SentBelow f before (k + 1) count between now had here
    not_sent fails = record {
      sent = so_far.sent;
      order = so_far.order ∙ sym (append-nil (passing (is_due f) k)) ∙ sym (passing_same (is_due f) k (sym due_now ∙ fails));
      count_is = so_far.count_is;
      count_most = (let most = so_far.count_most in omega (arith, most));
      messages = so_far.messages;
      cleared = so_far.cleared;
      asked = so_far.asked;
      stops = so_far.stops;
      events = so_far.events;
    }

    module _ (after : F) (call : Call) (events : List Event) (due_is : is_due now k ≡ true) (is : call ≡ call_of (message_at now k)) where
      is_message : call ≡ call_of (message_at f k)
      is_message = is ∙ ap (λ (g : Function N). call_of (message_at g k)) (so_far.cleared ∙ all_cleared_is f (numbers_in so_far.sent))

      -- the next is sent
      pub next_sent : (done : Done) → IsAnswered face call events (Ok done) between after → SentBelow f before (k + 1) (count + 1) after (cleared now k) had events
      next_sent done answered = record {
        sent = so_far.sent ++ one ∷ [];
        order = numbers ∙ ap (λ l. l ++ k ∷ []) so_far.order ∙ sym (passing_more (is_due f) k (sym due_now ∙ due_is));
        count_is = (let was = so_far.count_is in let long = length-append so_far.sent (one ∷ []) in omega (arith, was, long));
        count_most = (let most = so_far.count_most in omega (arith, most));
        messages = All-append (IsMessage f) so_far.sent (one ∷ []) so_far.messages (All-cons (IsMessage f) one [] is_message (All-nil (IsMessage f)));
        cleared = cleared_next f now (numbers_in so_far.sent) k so_far.cleared ∙ ap (all_cleared f) (sym numbers);
        asked = subst (HasAnswered face before after) (sym calls) (answered_then face before between after (calls_in so_far.sent) (placed ∷ []) so_far.asked answered.answered);
        stops = (answered.stops.0 ∙ so_far.stops.0, answered.stops.1 ∙ so_far.stops.1);
        events = sym (ap (λ l. events_after l had) calls ∙ events_then (calls_in so_far.sent) (placed ∷ []) had);
      }
        where
          placed : PlacedEntry
          placed = record { entry = record { caller = face.who between; call = call; reply = done.reply; events = events }; at = done.at }

          one : Sending
          one = record { number = k; placed = placed }

          numbers : numbers_in (so_far.sent ++ one ∷ []) ≡ numbers_in so_far.sent ++ k ∷ []
          numbers = map-append (λ (s : Sending). s.number) so_far.sent (one ∷ [])

          calls : calls_in (so_far.sent ++ one ∷ []) ≡ calls_in so_far.sent ++ placed ∷ []
          calls = map-append (λ (s : Sending). s.placed) so_far.sent (one ∷ [])

      -- a limit bars it
      pub next_barred : (spent : Spent) → k < N → IsAnswered face call events (Err spent) between after → SendsAll face (Err spent) before after f now had events
      next_barred spent below answered = record {
        sent = so_far.sent;
        sends = record {
          left = k ∷ later;
          order = passing_from (is_due f) k N below (sym due_now ∙ due_is) ∙ ap (λ l. l ++ k ∷ later) (sym so_far.order);
          answered = (k, later, refl);
          messages = so_far.messages;
          cleared = so_far.cleared;
        };
        asked = subst (HasAnswered face before after) (append-nil (calls_in so_far.sent)) (answered_then face before between after (calls_in so_far.sent) [] so_far.asked answered.answered);
        stops = (subst (λ n. Rose n (face.stops after)) so_far.stops.0 answered.stops.0, answered.stops.1);
        barred = (k, subst (λ (asked : Call). face.barred after asked spent) is answered.barred);
        enough = not_barred (face.left before) (face.left between) (length (calls_in so_far.sent)) (length (due f)) (Some spent ≡ None) so_far.asked.left fewer
            (if_some (face.left between) _ (λ left. 0 < left → ⊥) (λ left ok some. true≢false (sym (ok some (ap may_publish is)))) answered.enough);
        events = answered.quiet;
      }
        where
          later : List ℕ
          later = filter (is_due f) (range_with_len (k + 1) (N - (k + 1)))

          fewer : length (calls_in so_far.sent) < length (due f)
          fewer =
              let all = ap length (passing_from (is_due f) k N below (sym due_now ∙ due_is)) in
              let long = length-append (passing (is_due f) k) (k ∷ later) in
              let placed = length-map so_far.sent (λ (s : Sending). s.placed) in
              let numbered = length-map so_far.sent (λ (s : Sending). s.number) in
              let same = ap length so_far.order in
              omega (arith, all, long, placed, numbered, same)

    pub all_sent : k ≡ N → SendsAll face (Ok count) before between f now had here
    all_sent is = record {
      sent = so_far.sent;
      sends = record {
        left = [];
        order = ap (passing (is_due f)) (sym is) ∙ sym so_far.order ∙ sym (append-nil (numbers_in so_far.sent));
        answered = (so_far.count_is, refl);
        messages = so_far.messages;
        cleared = so_far.cleared;
      };
      asked = so_far.asked;
      stops = so_far.stops;
      barred = tt;
      enough = always (face.left before) _ (λ _ _. refl);
      events = so_far.events;
    }
