-- A pass for each actor of a script.
use Rattle.std.proofs.Common.{◌≡◌, ℕ, zero, suc, ◌+◌, ◌<◌, Bool, true, false, true≢false, not, ◌&&◌, ◌||◌, nat_eq, nat_lt, List, [], ◌∷◌, ◌++◌, filter, take, length, slice_index_or, All, refl, sym, ap, ◌∙◌, arith}
use Rattle.std.proofs.lemmas.List.{map-append}
use Rattle.std.proofs.lemmas.List.Elements.{All-head, All-tail, All-cons, All-filter, All-push}
use Rattle.std.proofs.lemmas.List.Folds.{list_any-append}
use Rattle.std.specs.List.{list_any, IsDistinct, AllByRecursion}
use Rattle.irq_base.specs.Callers.{is_allowed, is_there}
use Rattle.irq_base.specs.declared.call.Call.{Call}
use Rattle.irq_base.specs.declared.call.Call.TheVariants.{Ack, Inta}
use Rattle.irq_base.specs.declared.call.Caller.{Caller}
use Rattle.irq_base.specs.declared.call.Caller.TheVariants.{Device, Cpu}
use Rattle.irq_base.specs.declared.shape.Shape.{Shape}
use Rattle.script_text.specs.declared.task.Task.{Task}
use Rattle.script_text.specs.declared.task.Task.TheVariants.{Once, Repeat, Serve}
use Rattle.script_text.specs.declared.task.ActorLine.{ActorLine}
use Rattle.script_text.specs.Asks.{same_caller, actors_of, caller_at}
use Rattle.script_text.specs.Fitting.{IsLine, IsScript}
use Rattle.script_text.specs.Scripts.{Script, may_ask}
use Rattle.script_merging.proofs.Actors.{actors-distinct}
use Rattle.turn_book.specs.Histories.{is_in}
use Rattle.part_slots.specs.Callers.{caller_number, is_caller}
use Rattle.part_slots.proofs.Inverse.{callers_are_numbers}
use Rattle.part_board.specs.Closing.{has_pass}
use Rattle.part_board.specs.declared.desk.Desk.{Desk}
use Rattle.part_board.specs.declared.live.LiveBoard.{LiveBoard}
use Rattle.part_board.specs.declared.pass.Pass.{Pass}
use Rattle.part_board.specs.Seen.{pass_seen, desk_view, has_made, entries_by, IsDeskOf, IsNewPass}
use Rattle.live_runs.specs.Made.{IsFresh, callers_of, HasMadeJust}
use Rattle.irq_base.specs.declared.limits.TheConstants.{MAX_DEVICES}

-- ---- actors are there

first_of_both : (a b : Bool) → (a && b) ≡ true → a ≡ true
first_of_both true b e = refl
first_of_both false b e = absurd (true≢false (sym e))

allowed_there : (who : Caller) (call : Call) (shape : Shape) → is_allowed who call shape ≡ true → is_there who shape ≡ true
allowed_there (Device d) call shape allowed = first_of_both (nat_lt d MAX_DEVICES) _ allowed
allowed_there (Cpu n) Inta shape allowed = first_of_both (nat_lt n shape.cpus) (nat_eq n 0) allowed
allowed_there (Cpu n) call shape allowed = allowed

may_there : (shape : Shape) (who : Caller) (t : Task) → may_ask shape who t ≡ true → is_there who shape ≡ true
may_there shape who (Once call) may = allowed_there who call shape may
may_there shape who (Repeat n call) may = allowed_there who call shape may
may_there shape who (Serve n) may = allowed_there who Ack shape may

abbrev IsThere : Shape → Caller → Type 0
IsThere shape c = is_there c shape ≡ true

all_there : (shape : Shape) (lines : List ActorLine) → All (IsLine shape) lines → All (IsThere shape) (actors_of lines)
unfolding actors_of
all_there shape [] fit = λ k d low. absurd (omega (arith, low))
all_there shape (line ∷ lines) fit =
    All-cons (IsThere shape) line.caller (filter (λ c. not (same_caller c line.caller)) (actors_of lines))
    (may_there shape line.caller line.task (All-head (IsLine shape) line lines fit).2)
    (All-filter (λ c. not (same_caller c line.caller)) (IsThere shape) (actors_of lines) (all_there shape lines (All-tail (IsLine shape) line lines fit)))

pub actor_there : (s : Script) (k : ℕ) → IsScript s → k < length (actors_of s.lines) → is_there (caller_at s.lines k) s.shape ≡ true
actor_there s k fits low = all_there s.shape s.lines fits.lines k (Device 0) low

-- ---- callers of passes

pub callers_agree : (c d : Caller) → is_caller c d ≡ same_caller c d
callers_agree (Device c) (Device d) = refl
callers_agree (Cpu c) (Cpu d) = refl
callers_agree (Device c) (Cpu d) = refl
callers_agree (Cpu c) (Device d) = refl

-- whether a caller has a pass is told by the callers
has_by_callers : (passes : List Pass) (c : Caller) → has_pass passes c ≡ list_any (λ (d : Caller). is_caller d c) (callers_of passes)
has_by_callers [] c = refl
has_by_callers (p ∷ passes) c = ap (λ t. is_caller p.caller c || t) (has_by_callers passes c)

pub same_passes : (passes others : List Pass) → callers_of passes ≡ callers_of others → (c : Caller) → has_pass passes c ≡ has_pass others c
same_passes passes others same c = has_by_callers passes c ∙ ap (list_any (λ (d : Caller). is_caller d c)) same ∙ sym (has_by_callers others c)

-- ---- a pass for each

either_true : (had has test : Bool) → had ≡ has → elim test [ true ↦ true | false ↦ had ] ≡ (has || (test || false))
either_true had true true is = refl
either_true had false true is = refl
either_true had true false is = is
either_true had false false is = is

-- the desk that has made these passes, and one more
made_more : (old new : Desk) (passes : List Pass) (pass : Pass) (caller : Caller) → pass.caller ≡ caller → (desk_view new).made ≡ caller_number caller ∷ (desk_view old).made
    → HasMadeJust old passes → HasMadeJust new (passes ++ pass ∷ [])
made_more old new passes pass caller is made just c =
    ap (is_in (caller_number c)) made
    ∙ ap (λ (t : Bool). elim t [ true ↦ true | false ↦ has_made old c ]) (callers_are_numbers.apart caller c ∙ ap (λ d. is_caller d c) (sym is))
    ∙ either_true (has_made old c) (has_pass passes c) (is_caller pass.caller c) (just c)
    ∙ sym (list_any-append (λ (p : Pass). is_caller p.caller c) passes (pass ∷ []))

fresh_of : (board : LiveBoard) (desk : Desk) (asked : Caller) (pass : Pass) → IsNewPass board desk asked pass → IsFresh board pass
fresh_of board desk asked pass new = record { of_board = new.board; fresh = ap (λ c. entries_by c (pass_seen pass)) new.caller ∙ new.fresh }

take_next : (xs : List Caller) (k : ℕ) → k < length xs → take k xs ++ slice_index_or xs k (Device 0) ∷ [] ≡ take (suc k) xs
take_next [] k low = absurd (omega (arith, low))
take_next (x ∷ xs) zero low = refl
take_next (x ∷ xs) (suc k) low = ap (λ l. x ∷ l) (take_next xs k (omega (arith, low)))

take_more : (xs : List Caller) (k : ℕ) → k < length xs → take k xs ++ slice_index_or xs k (Device 0) ∷ [] ≡ take (k + 1) xs
take_more xs k low = take_next xs k low ∙ ap (λ n. take n xs) (let e : suc k ≡ k + 1 = omega arith in e)

abbrev pub Made : LiveBoard → List Caller → Desk → ℕ → List Pass → Type 0
Made board actors desk k passes = IsDeskOf board desk × All (IsFresh board) passes × (callers_of passes ≡ take k actors) × HasMadeJust desk passes

pub one_more : (board : LiveBoard) (actors : List Caller) (old new : Desk) (k : ℕ) (passes : List Pass) (caller : Caller) (pass : Pass) → k < length actors → caller ≡ slice_index_or actors k (Device 0)
    → IsDeskOf board new → IsNewPass board old caller pass → (desk_view new).made ≡ caller_number caller ∷ (desk_view old).made → Made board actors old k passes
    → Made board actors new (k + 1) (passes ++ pass ∷ [])
one_more board actors old new k passes caller pass low is of_board pass_new made (desk, fresh, callers, just) = (
  of_board,
  All-push (IsFresh board) passes pass fresh (fresh_of board old caller pass pass_new),
  map-append (λ (p : Pass). p.caller) passes (pass ∷ []) ∙ (λ i. callers i ++ (pass_new.caller ∙ is) i ∷ []) ∙ take_more actors k low,
  made_more old new passes pass caller pass_new.caller made just,
)

-- ---- no pass is made twice

at_number : (P : Caller → Type 0) (xs : List Caller) → AllByRecursion P xs → (k : ℕ) → k < length xs → P (slice_index_or xs k (Device 0))
at_number P [] all k low = absurd (omega (arith, low))
at_number P (x ∷ xs) all zero low = all.0
at_number P (x ∷ xs) all (suc k) low = at_number P xs all.1 k (omega (arith, low))

none_before : (xs : List Caller) → IsDistinct same_caller xs → (k : ℕ) → k < length xs → list_any (λ (d : Caller). is_caller d (slice_index_or xs k (Device 0))) (take k xs) ≡ false
unfolding IsDistinct
none_before [] apart k low = absurd (omega (arith, low))
none_before (x ∷ xs) apart zero low = refl
none_before (x ∷ xs) apart (suc k) low =
    (λ i. (callers_agree x (slice_index_or xs k (Device 0)) ∙ at_number (λ y. same_caller x y ≡ false) xs apart.0 k (omega (arith, low))) i
    || none_before xs apart.1 k (omega (arith, low)) i)

pub not_taken : (s : Script) (desk : Desk) (k : ℕ) (passes : List Pass) (caller : Caller) → k < length (actors_of s.lines) → caller ≡ caller_at s.lines k → callers_of passes ≡ take k (actors_of s.lines)
    → HasMadeJust desk passes → has_made desk caller ≡ true → ⊥
not_taken s desk k passes caller low is callers just made =
    true≢false (sym made ∙ just caller ∙ has_by_callers passes caller ∙ (λ i. list_any (λ (d : Caller). is_caller d (is i)) (callers i)) ∙ none_before (actors_of s.lines) (actors-distinct s.lines) k low)

-- no pass yet
pub none_made : (board : LiveBoard) (actors : List Caller) (desk : Desk) → IsDeskOf board desk → ((c : Caller) → has_made desk c ≡ false) → Made board actors desk 0 []
none_made board actors desk of_board none = (of_board, (λ k d low. absurd (omega (arith, low))), refl, none)
