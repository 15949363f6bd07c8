-- A call that a limit bars stays barred.
use Rattle.std.proofs.Common.{◌≡◌, ℕ, ◌+◌, Bool, true, false, ◌&&◌, nat_eq, if◌then◌else◌, List, [], ◌∷◌, ◌++◌, is_some, Some, None, refl, sym, ap, ◌∙◌, subst}
use Rattle.std.specs.declared.option.Option.{Option}
use Rattle.irq_base.specs.Refusals.{first_of}
use Rattle.irq_base.specs.declared.call.Call.{Call}
use Rattle.irq_base.specs.declared.call.Call.TheVariants as calls
use Rattle.irq_base.specs.declared.lists.Entry.{Entry}
use Rattle.irq_base.specs.declared.refusal.Refusal.{Refusal}
use Rattle.irq_base.specs.declared.reply.Spent.{Spent}
use Rattle.irq_base.specs.declared.reply.Spent.TheVariants.{Calls, Publications}
use Rattle.irq_base.specs.declared.shape.Shape.{Shape}
use Rattle.irqfd_set.specs.declared.irqfds.Irqfd.{Irqfd}
use Rattle.ack_notifiers.specs.declared.watches.Watch.{Watch}
use Rattle.board_model.specs.Board.{Board}
use Rattle.board_calls.specs.Refusals.{range_reasons}
use Rattle.board_step.specs.History.{opening, Leads}
use Rattle.board_step.specs.Publications.{KeepsTheFrame}
use Rattle.board_step.specs.Step.{would_publish, does_publish, publishes_unless, refusal_of, later_reasons, spent_of, is_publication, Step}
use Rattle.board_step.proofs.Publishing.{steps_show_publications, steps_keep_the_frame}
use Rattle.replaying.proofs.Registrations.{registered, registered_stay}

-- a board of that shape with these irqfds and notifiers
abbrev alike : Shape → List Irqfd × List Watch → Board
alike shape rows = record (opening shape) { registry = record (opening shape).registry { irqfds = rows.0; watches = rows.1 } }

unless_false : (refused : Option Refusal) (b : Board) (call : Call) → does_publish b call ≡ false → publishes_unless refused b call ≡ false
unless_false None b call never = never
unless_false (Some refusal) b call never = refl

abbrev other : Board → Board
other b = alike b.shape (registered b)

unless_same : (refused : Option Refusal) (b c : Board) (call : Call) → does_publish b call ≡ does_publish c call → publishes_unless refused b call ≡ publishes_unless refused c call
unless_same None b c call same = same
unless_same (Some refusal) b c call same = refl

-- by the reasons of what stands on the board
by_reasons : (b : Board) (call : Call) → later_reasons b call ≡ later_reasons (other b) call → does_publish b call ≡ does_publish (other b) call
    → would_publish b call ≡ would_publish (other b) call
by_reasons b call reasons same =
    ap (λ rs. publishes_unless (first_of (range_reasons b.shape call ++ rs)) b call) reasons
    ∙ unless_same (first_of (range_reasons b.shape call ++ later_reasons (other b) call)) b (other b) call same

-- whether a call would publish is told by the shape, the irqfds and the notifiers
publishes_alike : (b : Board) (call : Call) → would_publish b call ≡ would_publish (alike b.shape (registered b)) call
publishes_alike b (calls.Reroute rows) = by_reasons b (calls.Reroute rows) refl refl
publishes_alike b (calls.Assign trigger gsi None) = by_reasons b (calls.Assign trigger gsi None) refl refl
publishes_alike b (calls.Assign trigger gsi (Some counter)) = by_reasons b (calls.Assign trigger gsi (Some counter)) refl refl
publishes_alike b (calls.Deassign trigger gsi) = by_reasons b (calls.Deassign trigger gsi) refl refl
publishes_alike b (calls.Watch counter gsi) = by_reasons b (calls.Watch counter gsi) refl refl
publishes_alike b (calls.Unwatch counter gsi) = by_reasons b (calls.Unwatch counter gsi) refl refl
publishes_alike b call = unless_false (refusal_of b call) b call refl ∙ sym (unless_false (refusal_of (alike b.shape (registered b)) call) (alike b.shape (registered b)) call refl)

-- the limits, by the counts
abbrev by_counts : ℕ → ℕ → ℕ → ℕ → Bool → Option Spent
by_counts length calls publications limit publishes =
    if nat_eq length calls then Some (Calls calls) else if publishes && nat_eq publications limit then Some (Publications limit) else None

full_bars : (t : Bool) (calls limit : ℕ) → is_some (if t then Some (Calls calls) else if true && true then Some (Publications limit) else None) ≡ true
full_bars true calls limit = refl
full_bars false calls limit = refl

-- where one call is barred and another not, the limit is that of publications, and the other is none
none_by : (calls limit : ℕ) (t mine other full : Bool) → is_some (if t then Some (Calls calls) else if mine && full then Some (Publications limit) else None) ≡ true
    → (if t then Some (Calls calls) else if other && full then Some (Publications limit) else None) ≡ None → (mine ≡ true) × (other ≡ false) × (full ≡ true)
none_by calls limit true mine other full barred free = cc
none_by calls limit false true false true barred free = (refl, refl, refl)
none_by calls limit false true true true barred free = cc
none_by calls limit false true other false barred free = cc
none_by calls limit false false other full barred free = cc

-- after a step it is
barred_after : (b : Board) (call : Call) (e : Entry) (c : Board) → Step b e c → is_some (spent_of b call) ≡ true → is_some (spent_of c call) ≡ true
barred_after b call e c step barred =
    let (mine, other, full) = none_by b.shape.calls b.shape.publications (nat_eq b.length b.shape.calls) (would_publish b call) (would_publish b e.call) (nat_eq b.publications b.shape.publications) barred step.in_limits in
    let frame : KeepsTheFrame b e c = steps_keep_the_frame b e c step in
    let shown : is_publication e ≡ false = sym (steps_show_publications b e c step) ∙ other in
    let same : c.publications ≡ b.publications = frame.publications ∙ ap (λ t. if t then b.publications + 1 else b.publications) shown in
    let publishes : would_publish c call ≡ true =
    publishes_alike c call ∙ (λ i. would_publish (alike (frame.shape i) (registered_stay b e c step other i)) call) ∙ sym (publishes_alike b call) ∙ mine in
    let still : nat_eq c.publications c.shape.publications ≡ true = (λ i. nat_eq (same i) (frame.shape i).publications) ∙ full in
    (λ i. is_some (if nat_eq c.length c.shape.calls then Some (Calls c.shape.calls) else if publishes i && still i then Some (Publications c.shape.publications) else None))
    ∙ full_bars (nat_eq c.length c.shape.calls) c.shape.calls c.shape.publications

-- and after entries
pub stays_barred : (b : Board) (call : Call) (es : List Entry) (c : Board) → Leads b es c → is_some (spent_of b call) ≡ true → is_some (spent_of c call) ≡ true
stays_barred b call [] c same barred = subst (λ (x : Board). is_some (spent_of x call) ≡ true) same barred
stays_barred b call (e ∷ es) c (next, step, more) barred = stays_barred next call es c more (barred_after b call e next step barred)
