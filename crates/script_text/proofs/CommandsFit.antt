-- What is read fits: each command, and each actor line.
use Rattle.std.proofs.Common.{◌≡◌, ℕ, ◌^◌, ◌<◌, Bool, true, false, not, ◌||◌, nat_lt, List, [], ◌∷◌, take, drop, length, codes, Ok, Err, IfOk, if◌then◌else◌, refl, All}
use Rattle.std.specs.List.{list_all}
use Rattle.std.specs.declared.option.Option.{Option}
use Rattle.std.specs.declared.result.Result.{Result}
use Rattle.irq_base.specs.declared.fault.LineCause.{LineCause}
use Rattle.irq_base.specs.declared.fault.LineCause.TheVariants.{Actor}
use Rattle.irq_base.specs.declared.call.Call.{Call}
use Rattle.irq_base.specs.declared.call.Call.TheVariants.{Line, Msi, Write, Take, Assign, Deassign, Reroute, Attach, Detach, Watch, Unwatch, Tick, TickMode, PortOut, PortIn, Store, Load, Ack, Inta, Eoi}
use Rattle.irq_base.specs.declared.call.Caller.{Caller}
use Rattle.irq_base.specs.declared.call.Caller.TheVariants.{Device, Cpu}
use Rattle.irq_base.specs.declared.call.Space.{Space}
use Rattle.irq_base.specs.declared.shape.Shape.{Shape}
use Rattle.script_text.specs.declared.task.Task.{Task}
use Rattle.script_text.specs.declared.task.Task.TheVariants.{Once, Repeat, Serve}
use Rattle.script_text.specs.Causes.{both, all_three, all_five, of_two, of_five}
use Rattle.script_text.specs.Words.{same_text, two}
use Rattle.script_text.specs.Numbers.{hex64, hex32, hex16, number64, number16, number8}
use Rattle.script_text.specs.Commands.{command, assign, binding, optional, space, level, switch, rows}
use Rattle.script_text.specs.Scripts.{is_digit, caller, times_of, repeated, task, may_ask, if_allowed, actor_line}
use Rattle.script_text.specs.Fitting.{FitsCall, FitsIfThere, FitsRow, FitsTask, FitsCaller, IsTimes, IsLine}
use Rattle.script_text.proofs.FieldsFit.{if-either, one-fits, two-fits, three-fits, none-fits, of-one, of-two, of-three, Below, Any, any, fits-hex64, fits-hex32, fits-hex16, fits-number64, fits-number16, fits-number8, decimal-fits, optional-fits, rows-fit}

assign-fits : (words : List (List ℕ)) → IfOk (assign words) FitsCall
assign-fits [] = tt
assign-fits (c ∷ []) = tt
assign-fits (c ∷ gsi ∷ more) =
    of-three FitsCall (Below 16) (Below 16) (FitsIfThere 16) (λ c g r. Assign c g r) (number16 c) (number16 gsi) (optional (codes "resample") number16 more)
    (fits-number16 c) (fits-number16 gsi) (optional-fits 16 (codes "resample") number16 more fits-number16) (λ _ _ _ c g r. (c, g, r))

-- two fields that make a call of a counter and a GSI
pair-fits : (make : ℕ → ℕ → Call) (words : List (List ℕ)) → ((c g : ℕ) → c < 2 ^ 16 → g < 2 ^ 16 → FitsCall (make c g)) →
    IfOk (two words (λ v w. of_two make (number16 v) (number16 w))) FitsCall
pair-fits make words h =
    two-fits FitsCall words (λ v w. of_two make (number16 v) (number16 w))
    (λ v w. of-two FitsCall (Below 16) (Below 16) make (number16 v) (number16 w) (fits-number16 v) (fits-number16 w) h)

both-fit : {A B : Type 0} (Q : A → Type 0) (R : B → Type 0) (a : Result A LineCause) (b : Result B LineCause) → IfOk a Q → IfOk b R → IfOk (both a b) (λ w. Q w.0 × R w.1)
both-fit Q R (Ok v) (Ok w) q r = (q, r)
both-fit Q R (Ok v) (Err e) q r = tt
both-fit Q R (Err d) (Ok w) q r = tt
both-fit Q R (Err d) (Err e) q r = tt

three-fit : {A B C : Type 0} (Q : A → Type 0) (R : B → Type 0) (S : C → Type 0) (a : Result A LineCause) (b : Result B LineCause) (c : Result C LineCause) →
    IfOk a Q → IfOk b R → IfOk c S → IfOk (all_three a b c) (λ w. Q w.0 × R w.1 × S w.2)
three-fit {A} {B} {C} Q R S a b c q r s =
    of-one (λ (w : A × B × C). Q w.0 × R w.1 × S w.2) (λ (w : (A × B) × C). (Q w.0.0 × R w.0.1) × S w.1) (λ w. (w.0.0, w.0.1, w.1)) (both (both a b) c)
    (both-fit (λ (w : A × B). Q w.0 × R w.1) S (both a b) c (both-fit Q R a b q r) s) (λ _ h. (h.0.0, h.0.1, h.1))

-- the five fields of a binding
abbrev Five : Type 0
Five = Space × ℕ × ℕ × ℕ × Option ℕ

five-fits : (make : Space → ℕ → ℕ → ℕ → Option ℕ → Call) (s : Result Space LineCause) (a l c : Result ℕ LineCause) (w : Result (Option ℕ) LineCause) →
    IfOk a (Below 64) → IfOk l (Below 8) → IfOk c (Below 16) → IfOk w (FitsIfThere 64) →
    ((s : Space) (a l c : ℕ) (w : Option ℕ) → a < 2 ^ 64 → l < 2 ^ 8 → c < 2 ^ 16 → FitsIfThere 64 w → FitsCall (make s a l c w)) → IfOk (of_five make s a l c w) FitsCall
five-fits make s a l c w ha hl hc hw k =
    let Q = λ (x : Five). (x.1 < 2 ^ 64) × (x.2 < 2 ^ 8) × (x.3 < 2 ^ 16) × FitsIfThere 64 x.4 in
    let T = λ (x : Space × ℕ × ℕ). Unit {0} × (x.1 < 2 ^ 64) × (x.2 < 2 ^ 8) in
    of-one FitsCall Q (λ x. make x.0 x.1 x.2 x.3 x.4) (all_five s a l c w)
    (of-one Q (λ (x : (Space × ℕ × ℕ) × ℕ × Option ℕ). T x.0 × (x.1 < 2 ^ 16) × FitsIfThere 64 x.2) (λ x. (x.0.0, x.0.1, x.0.2, x.1, x.2)) (all_three (all_three s a l) c w)
    (three-fit T (Below 16) (FitsIfThere 64) (all_three s a l) c w (three-fit (Any {A = Space}) (Below 64) (Below 8) s a l (any s) ha hl) hc hw)
    (λ _ h. (h.0.1, h.0.2, h.1, h.2)))
    (λ x h. k x.0 x.1 x.2 x.3 x.4 h.0 h.1 h.2 h.3)

binding-fits : (make : Space → ℕ → ℕ → ℕ → Option ℕ → Call) (words : List (List ℕ)) →
    ((s : Space) (a l c : ℕ) (w : Option ℕ) → a < 2 ^ 64 → l < 2 ^ 8 → c < 2 ^ 16 → FitsIfThere 64 w → FitsCall (make s a l c w)) → IfOk (binding make words) FitsCall
binding-fits make [] k = tt
binding-fits make (s ∷ []) k = tt
binding-fits make (s ∷ a ∷ []) k = tt
binding-fits make (s ∷ a ∷ l ∷ []) k = tt
binding-fits make (s ∷ a ∷ l ∷ c ∷ more) k =
    five-fits make (space s) (hex64 a) (number8 l) (number16 c) (optional (codes "match") hex64 more) (fits-hex64 a) (fits-number8 l) (fits-number16 c)
    (optional-fits 64 (codes "match") hex64 more fits-hex64) k

-- the table, row by row
pub command-fits : (name : List ℕ) (words : List (List ℕ)) → IfOk (command name words) FitsCall
command-fits name words =
    if-either FitsCall (same_text name (codes "line")) _ _
    (three-fits FitsCall words _ (λ a b c. of-three FitsCall (Below 16) (Below 8) (Any {A = Bool}) (λ g l u. Line g l u) (number16 a) (number8 b) (level c) (fits-number16 a) (fits-number8 b) (any (level c)) (λ _ _ _ g l _. (g, l))))
    (if-either FitsCall (same_text name (codes "msi")) _ _
    (two-fits FitsCall words _ (λ a b. of-two FitsCall (Below 64) (Below 32) (λ a p. Msi a p) (hex64 a) (hex32 b) (fits-hex64 a) (fits-hex32 b) (λ _ _ a p. (a, p))))
    (if-either FitsCall (same_text name (codes "write")) _ _
    (two-fits FitsCall words _ (λ a b. of-two FitsCall (Below 16) (Below 64) (λ c n. Write c n) (number16 a) (number64 b) (fits-number16 a) (fits-number64 b) (λ _ _ c n. (c, n))))
    (if-either FitsCall (same_text name (codes "take")) _ _
    (one-fits FitsCall words _ (λ a. of-one FitsCall (Below 16) (λ c. Take c) (number16 a) (fits-number16 a) (λ _ c. c)))
    (if-either FitsCall (same_text name (codes "assign")) _ _ (assign-fits words)
    (if-either FitsCall (same_text name (codes "deassign")) _ _ (pair-fits (λ c g. Deassign c g) words (λ _ _ c g. (c, g)))
    (if-either FitsCall (same_text name (codes "reroute")) _ _ (of-one FitsCall (All FitsRow) (λ rs. Reroute rs) (rows words) (rows-fit words) (λ _ h. h))
    (if-either FitsCall (same_text name (codes "attach")) _ _ (binding-fits (λ s a l c w. Attach s a l c w) words (λ _ _ _ _ _ a l c w. (a, l, c, w)))
    (if-either FitsCall (same_text name (codes "detach")) _ _ (binding-fits (λ s a l c w. Detach s a l c w) words (λ _ _ _ _ _ a l c w. (a, l, c, w)))
    (if-either FitsCall (same_text name (codes "watch")) _ _ (pair-fits (λ c g. Watch c g) words (λ _ _ c g. (c, g)))
    (if-either FitsCall (same_text name (codes "unwatch")) _ _ (pair-fits (λ c g. Unwatch c g) words (λ _ _ c g. (c, g)))
    (if-either FitsCall (same_text name (codes "tick")) _ _ (none-fits FitsCall words Tick tt)
    (if-either FitsCall (same_text name (codes "tickmode")) _ _
    (one-fits FitsCall words _ (λ a. of-one FitsCall (Any {A = Bool}) (λ r. TickMode r) (switch a) (any (switch a)) (λ _ _. tt)))
    (if-either FitsCall (same_text name (codes "out")) _ _
    (three-fits FitsCall words _ (λ a b c. of-three FitsCall (Below 16) (Below 8) (Below 32) (λ p l v. PortOut p l v) (hex16 a) (number8 b) (hex32 c) (fits-hex16 a) (fits-number8 b) (fits-hex32 c) (λ _ _ _ p l v. (p, l, v))))
    (if-either FitsCall (same_text name (codes "in")) _ _
    (two-fits FitsCall words _ (λ a b. of-two FitsCall (Below 16) (Below 8) (λ p l. PortIn p l) (hex16 a) (number8 b) (fits-hex16 a) (fits-number8 b) (λ _ _ p l. (p, l))))
    (if-either FitsCall (same_text name (codes "store")) _ _
    (three-fits FitsCall words _ (λ a b c. of-three FitsCall (Below 64) (Below 8) (Below 64) (λ a l v. Store a l v) (hex64 a) (number8 b) (hex64 c) (fits-hex64 a) (fits-number8 b) (fits-hex64 c) (λ _ _ _ a l v. (a, l, v))))
    (if-either FitsCall (same_text name (codes "load")) _ _
    (two-fits FitsCall words _ (λ a b. of-two FitsCall (Below 64) (Below 8) (λ a l. Load a l) (hex64 a) (number8 b) (fits-hex64 a) (fits-number8 b) (λ _ _ a l. (a, l))))
    (if-either FitsCall (same_text name (codes "ack")) _ _ (none-fits FitsCall words Ack tt)
    (if-either FitsCall (same_text name (codes "inta")) _ _ (none-fits FitsCall words Inta tt)
    (if-either FitsCall (same_text name (codes "eoi")) _ _ (none-fits FitsCall words Eoi tt) tt)))))))))))))))))))

-- what a line asks
repeated-fits : (words : List (List ℕ)) → IfOk (repeated words) FitsTask
repeated-fits [] = tt
repeated-fits (n ∷ []) = tt
repeated-fits (n ∷ name ∷ words) =
    of-two FitsTask IsTimes FitsCall (λ n c. Repeat n c) (times_of n) (command name words) (decimal-fits 1 1000000 n) (command-fits name words) (λ _ _ n c. (n, c))

task-fits : (name : List ℕ) (words : List (List ℕ)) → IfOk (task name words) FitsTask
task-fits name words =
    if-either FitsTask (same_text name (codes "repeat")) _ _ (repeated-fits words)
    (if-either FitsTask (same_text name (codes "serve")) _ _
    (one-fits FitsTask words _ (λ a. of-one FitsTask IsTimes (λ n. Serve n) (times_of a) (decimal-fits 1 1000000 a) (λ _ h. h)))
    (of-one FitsTask FitsCall (λ c. Once c) (command name words) (command-fits name words) (λ _ h. h)))

caller-fits : (word : List ℕ) → IfOk (caller word) FitsCaller
caller-fits word =
    if-either FitsCaller (nat_lt (length word) 4 || not (list_all is_digit (drop 3 word))) _ _ tt
    (if-either FitsCaller (same_text (take 3 word) (codes "cpu")) _ _ (of-one FitsCaller (Below 16) (λ n. Cpu n) (number16 (drop 3 word)) (fits-number16 (drop 3 word)) (λ _ h. h))
    (if-either FitsCaller (same_text (take 3 word) (codes "dev")) _ _ (of-one FitsCaller (Below 16) (λ n. Device n) (number16 (drop 3 word)) (fits-number16 (drop 3 word)) (λ _ h. h)) tt))

-- an actor that may ask
allowed-fits : (shape : Shape) (r : Result (Caller × Task) LineCause) → IfOk r (λ w. FitsCaller w.0 × FitsTask w.1) → IfOk (if_allowed shape r) (IsLine shape)
allowed-fits shape (Err e) h = tt
allowed-fits shape (Ok (who, t)) h = go (may_ask shape who t) (λ e. (h.0, h.1, e))
  where
    go : (b : Bool) → (b ≡ true → IsLine shape (record { caller = who; task = t })) → IfOk (if b then Ok (record { caller = who; task = t }) else Err Actor) (IsLine shape)
    go true k = k refl
    go false k = tt

pub line-fits : (shape : Shape) (words : List (List ℕ)) → IfOk (actor_line shape words) (IsLine shape)
line-fits shape [] = tt
line-fits shape (who ∷ []) = tt
line-fits shape (who ∷ name ∷ words) =
    allowed-fits shape (both (caller who) (task name words)) (both-fit FitsCaller FitsTask (caller who) (task name words) (caller-fits who) (task-fits name words))
