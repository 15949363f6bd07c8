-- What a face of a running board tells, before and after a call.
use Rattle.std.proofs.Common.{◌≡◌, ℕ, ◌+◌, ◌<◌, ◌≤◌, Bool, true, false, cond, nat_eq, List, [], ◌∷◌, ◌++◌, append_assoc, filter, length, is_some, Some, None, refl, sym, ap, ◌∙◌, subst, arith}
use Rattle.std.proofs.lemmas.Bool.Decides.{nat_tests}
use Rattle.std.proofs.lemmas.List.{append-nil, length-append}
use Rattle.std.proofs.lemmas.List.Elements.{filter-append}
use Rattle.std.specs.declared.option.Option.{Option}
use Rattle.atomic_table.specs.Seated.{TableId}
use Rattle.irq_base.specs.Faces.{PlacedEntry}
use Rattle.irq_base.specs.declared.call.Call.{Call}
use Rattle.irq_base.specs.declared.call.Caller.{Caller}
use Rattle.irq_base.specs.declared.event.Event.{Event}
use Rattle.irq_base.specs.declared.lists.Entry.{Entry}
use Rattle.irq_base.specs.declared.reply.Done.{Done}
use Rattle.irq_base.specs.declared.reply.Spent.{Spent}
use Rattle.irq_base.specs.declared.shape.Shape.{Shape}
use Rattle.board_model.specs.Board.{Board}
use Rattle.board_step.specs.Applied.{is_reached}
use Rattle.board_step.specs.Bodies.{entry_of}
use Rattle.board_step.specs.History.{opening, Leads, Legal, board_after}
use Rattle.board_step.specs.Step.{spent_of}
use Rattle.board_step.proofs.Faces.{spent_reached, stays_reached}
use Rattle.board_step.proofs.Following.{board_after_is_reached, next_is}
use Rattle.turn_book.specs.Histories.{IsPrefix}
use Rattle.turn_book.proofs.Lists.{prefix-length}
use Rattle.part_slots.specs.Callers.{caller_number, is_caller}
use Rattle.part_slots.proofs.Inverse.{callers_are_numbers}
use Rattle.part_attempt.specs.Attempts.{IsBarred}
use Rattle.part_board.specs.Seen.{entries_by, Learnt}
use Rattle.part_board.specs.Tried.{IsEntered}
use Rattle.part_board.specs.Facing.{numbers_of, placed_from, own_in}

-- ---- the name of a table

abbrev head_or : ℕ → List ℕ → ℕ
head_or d [] = d
head_or d (n ∷ ns) = n

abbrev tail_of : List ℕ → List ℕ
tail_of [] = []
tail_of (n ∷ ns) = ns

-- tables with the same numbers are one
pub table_is : (x y : TableId) → numbers_of x ≡ numbers_of y → x ≡ y
table_is x y same i = record {
  words = head_or 0 (same i);
  slots = head_or 0 (tail_of (same i));
  views_name = head_or 0 (tail_of (tail_of (same i)));
  atom = head_or 0 (tail_of (tail_of (tail_of (same i))));
  block = head_or 0 (tail_of (tail_of (tail_of (tail_of (same i)))));
  offset = head_or 0 (tail_of (tail_of (tail_of (tail_of (tail_of (same i))))));
  slot_names = tail_of (tail_of (tail_of (tail_of (tail_of (tail_of (same i))))));
}

-- ---- the entries of a caller, with their places

-- those of the caller in a list that begins at place k
abbrev own_from : Caller → ℕ → List Entry → List PlacedEntry
own_from who k es = filter (λ (p : PlacedEntry). is_caller p.entry.caller who) (placed_from k es)

placed_append : (k : ℕ) (xs ys : List Entry) → placed_from k (xs ++ ys) ≡ placed_from k xs ++ placed_from (k + length xs) ys
placed_append k [] ys = ap (λ n. placed_from n ys) (omega arith)
placed_append k (x ∷ xs) ys =
    ap (λ l. record { entry = x; at = k } ∷ l)
    (placed_append (k + 1) xs ys ∙ ap (λ n. placed_from (k + 1) xs ++ placed_from n ys) (let e : k + 1 + length xs ≡ k + length (x ∷ xs) = omega arith in e))

own_append : (who : Caller) (k : ℕ) (xs ys : List Entry) → own_from who k (xs ++ ys) ≡ own_from who k xs ++ own_from who (k + length xs) ys
own_append who k xs ys =
    ap (filter (λ (p : PlacedEntry). is_caller p.entry.caller who)) (placed_append k xs ys)
    ∙ filter-append (λ (p : PlacedEntry). is_caller p.entry.caller who) (placed_from k xs) (placed_from (k + length xs) ys)

-- a list without entries of the caller has none with places
own_none_with : (who : Caller) (k : ℕ) (e : Entry) (es : List Entry) (t : Bool) → is_caller e.caller who ≡ t → (entries_by who es ≡ [] → own_from who (k + 1) es ≡ [])
    → cond t (e ∷ entries_by who es) (entries_by who es) ≡ []
    → cond (is_caller e.caller who) (record { entry = e; at = k } ∷ own_from who (k + 1) es) (own_from who (k + 1) es) ≡ []
own_none_with who k e es true is rest none = absurd (cc)
own_none_with who k e es false is rest none = ap (λ t. cond t (record { entry = e; at = k } ∷ own_from who (k + 1) es) (own_from who (k + 1) es)) is ∙ rest none

own_none : (who : Caller) (k : ℕ) (es : List Entry) → entries_by who es ≡ [] → own_from who k es ≡ []
own_none who k [] none = refl
own_none who k (e ∷ es) none = own_none_with who k e es (is_caller e.caller who) refl (own_none who (k + 1) es) none

nothing_more : {A : Type 0} (xs ys : List A) → xs ++ ys ≡ xs → ys ≡ []
nothing_more xs [] same = refl
nothing_more xs (y ∷ ys) same = absurd (let n = ap length same in let l = length-append xs (y ∷ ys) in omega arith)

-- a longer list with the same entries of the caller has them at the same places
pub own_stays : (who : Caller) (before now : List Entry) → IsPrefix before now → entries_by who now ≡ entries_by who before → own_in who now ≡ own_in who before
own_stays who before now (rest, is) own =
    ap (own_in who) (sym is) ∙ own_append who 0 before rest ∙ ap (λ l. own_in who before ++ l) (own_none who (0 + length before) rest none) ∙ append-nil (own_in who before)
  where
    none : entries_by who rest ≡ []
    none = nothing_more (entries_by who before) (entries_by who rest) (sym (filter-append (λ (e : Entry). is_caller e.caller who) before rest) ∙ ap (entries_by who) is ∙ own)

itself : (who : Caller) → is_caller who who ≡ true
itself who = sym (callers_are_numbers.apart who who) ∙ same (caller_number who)
  where
    same : (n : ℕ) → nat_eq n n ≡ true
    same n = grind (arith, nat_tests)

-- ---- after a call

module _ (who : Caller) (call : Call) (done : Done) (events : List Event) (before now : List Entry) (entered : IsEntered who call done events before now) where
  abbrev e : Entry
  e = entry_of who call done.reply events

  pub entered_own : own_in who now ≡ own_in who before ++ record { entry = e; at = done.at } ∷ []
  entered_own =
      ap (own_in who) entered.entered
      ∙ own_append who 0 entered.others (e ∷ [])
      ∙ (λ i. own_stays who before entered.others entered.seen entered.own i ++ cond (itself who i) (record { entry = e; at = place i } ∷ []) [])
    where
      place : 0 + length entered.others ≡ done.at
      place = (let at = entered.at in omega (arith, at))

-- ---- limits

-- a list that begins with another leads on from its board
leads_on : (b : Board) (xs ys : List Entry) (c : Board) → Leads b (xs ++ ys) c → Leads (board_after b xs) ys c
leads_on b [] ys c leads = leads
leads_on b (x ∷ xs) ys c (next, step, more) = subst (λ (d : Board). Leads (board_after d xs) ys c) (sym (next_is b x next step)) (leads_on next xs ys c more)

pub seen_reached : (shape : Shape) (before now : List Entry) (o : Option Spent) → IsPrefix before now → Legal shape now
    → is_reached (board_after (opening shape) before) o ≡ true → is_reached (board_after (opening shape) now) o ≡ true
seen_reached shape before now o (rest, is) (last, leads) reached =
    subst (λ (b : Board). is_reached b o ≡ true) (sym (board_after_is_reached (opening shape) now last leads))
    (stays_reached (board_after (opening shape) before) o rest last
    (leads_on (opening shape) before rest last (subst (λ es. Leads (opening shape) es last) (sym is) leads)) reached)

-- the limit that bars a call, and it is reached
pub barred_now : (shape : Shape) (call : Call) (spent : Spent) (now : List Entry) → IsBarred shape call spent now
    → (spent_of (board_after (opening shape) now) call ≡ Some spent) × (is_reached (board_after (opening shape) now) (Some spent) ≡ true)
barred_now shape call spent now barred = (limit, spent_reached (board_after (opening shape) now) call spent limit)
  where
    limit : spent_of (board_after (opening shape) now) call ≡ Some spent
    limit = ap (λ b. spent_of b call) (board_after_is_reached (opening shape) now barred.last barred.after) ∙ barred.limit
