-- Lists of what is made of the numbers below a bound, and the text of lines one after another.
use Rattle.std.proofs.Common.{◌≡◌, ℕ, zero, suc, ◌+◌, ◌<◌, List, [], ◌∷◌, ◌++◌, map, length, codes, refl, ap, sym, ◌∙◌, append_assoc, add-one, All, None, arith}
use Rattle.std.proofs.lemmas.List.{append-nil, length-append}
use Rattle.std.proofs.lemmas.List.Elements.{All-cons, All-nil, All-head, All-tail}
use Rattle.irq_base.specs.Text.{caller_text}
use Rattle.irq_base.specs.declared.call.Call.{Call}
use Rattle.irq_base.specs.declared.call.Call.TheVariants.{Assign, Store}
use Rattle.irq_base.specs.declared.call.Caller.{Caller}
use Rattle.irq_base.specs.declared.call.Caller.TheVariants.{Device, Cpu}
use Rattle.script_text.specs.declared.task.ActorLine.{ActorLine}
use Rattle.script_text.specs.Spelling.{call_words, actor_words, spaced, joined, with_feeds}
use Rattle.workload_gen.specs.Workload.{asks, each_below, enable, row, trigger, set_up, actor, drawn, draws_at, drawn_line, draws_from, workload}
use Rattle.workload_gen.specs.Text.{header_words, lines_text, workload_text}

-- ---- one number more

pub below-next : {A : Type 0} (f : ℕ → A) (n : ℕ) → each_below f n ++ f n ∷ [] ≡ each_below f (n + 1)
unfolding each_below
below-next f n = ap (each_below f) (sym (add-one n))

pub below-none : {A : Type 0} (f : ℕ → A) → each_below f 0 ≡ []
unfolding each_below
below-none f = refl

pub rows-next : (c s j : ℕ) → each_below (row c s) j ++ row c s j ∷ [] ≡ each_below (row c s) (j + 1)
rows-next c s j = below-next (row c s) j

pub ruleset below_rules = (rows-next, below-none)

-- as many as numbers
pub length-each : {A : Type 0} (f : ℕ → A) (n : ℕ) → length (each_below f n) ≡ n
unfolding each_below
length-each f zero = refl
length-each f (suc n) = omega (arith, length-append (each_below f n) (f n ∷ []), length-each f n)

-- what holds of each is held by all
pub all-append : {A : Type 0} (P : A → Type 0) (a b : List A) → All P a → All P b → All P (a ++ b)
all-append P [] b h k = k
all-append P (x ∷ a) b h k = All-cons P x (a ++ b) (All-head P x a h) (all-append P a b (All-tail P x a h) k)

pub each-holds : {A : Type 0} (P : A → Type 0) (f : ℕ → A) (n : ℕ) → ((k : ℕ) → k < n → P (f k)) → All P (each_below f n)
unfolding each_below
each-holds P f zero h = All-nil P
each-holds P f (suc n) h =
    all-append P (each_below f n) (f n ∷ []) (each-holds P f n (λ k below. h k (omega (arith, below)))) (All-cons P (f n) [] (h n (omega arith)) (All-nil P))

-- ---- the text of lines

feeds-append : (a b : List (List ℕ)) → with_feeds (a ++ b) ≡ with_feeds a ++ with_feeds b
feeds-append [] b = refl
feeds-append (x ∷ a) b = ap (λ t. x ++ 10 ∷ t) (feeds-append a b) ∙ sym (append_assoc x (10 ∷ with_feeds a) (with_feeds b))

map-append : {A B : Type 0} (f : A → B) (a b : List A) → map f (a ++ b) ≡ map f a ++ map f b
map-append f [] b = refl
map-append f (x ∷ a) b = ap (λ t. f x ∷ t) (map-append f a b)

pub text-append : (a b : List ActorLine) → lines_text (a ++ b) ≡ lines_text a ++ lines_text b
unfolding lines_text
text-append a b =
    ap (λ ws. with_feeds (map joined ws)) (map-append actor_words a b)
    ∙ ap with_feeds (map-append joined (map actor_words a) (map actor_words b))
    ∙ feeds-append (map joined (map actor_words a)) (map joined (map actor_words b))

-- a line
pub line-text : (text : List ℕ) (who : Caller) (call : Call) →
    ((text ++ caller_text who) ++ spaced (call_words call)) ++ 10 ∷ [] ≡ text ++ lines_text (asks who call ∷ [])
unfolding lines_text
line-text text who call =
    append_assoc (text ++ caller_text who) (spaced (call_words call)) (10 ∷ [])
    ∙ append_assoc text (caller_text who) (spaced (call_words call) ++ 10 ∷ [])
    ∙ ap (λ t. text ++ t) (sym (append_assoc (caller_text who) (spaced (call_words call)) (10 ∷ [])))

pub ruleset one_rules = (line-text)

-- one line more
pub text-next : (text : List ℕ) (f : ℕ → ActorLine) (n : ℕ) →
    (text ++ lines_text (each_below f n)) ++ lines_text (f n ∷ []) ≡ text ++ lines_text (each_below f (n + 1))
text-next text f n =
    append_assoc text (lines_text (each_below f n)) (lines_text (f n ∷ []))
    ∙ ap (λ t. text ++ t) (sym (text-append (each_below f n) (f n ∷ [])) ∙ ap lines_text (below-next f n))

pub text-none : (text : List ℕ) (f : ℕ → ActorLine) → text ++ lines_text (each_below f 0) ≡ text
unfolding lines_text each_below
text-none text f = append-nil text

pub enables-next : (text : List ℕ) (n : ℕ) →
    (text ++ lines_text (each_below enable n)) ++ lines_text (asks (Cpu n) (Store 0xfee000f0 4 0x1ff) ∷ []) ≡ text ++ lines_text (each_below enable (n + 1))
enables-next text n = text-next text enable n

pub triggers-next : (text : List ℕ) (j : ℕ) →
    (text ++ lines_text (each_below trigger j)) ++ lines_text (asks (Device 0) (Assign j (24 + j) None) ∷ []) ≡ text ++ lines_text (each_below trigger (j + 1))
triggers-next text j = text-next text trigger j

pub ruleset line_rules = (enables-next, triggers-next, text-none)

-- the lines that set up
pub text-three : (text : List ℕ) (enables line triggers : List ActorLine) →
    ((text ++ lines_text enables) ++ lines_text line) ++ lines_text triggers ≡ text ++ lines_text (enables ++ (line ++ triggers))
text-three text enables line triggers =
    append_assoc (text ++ lines_text enables) (lines_text line) (lines_text triggers)
    ∙ append_assoc text (lines_text enables) (lines_text line ++ lines_text triggers)
    ∙ ap (λ t. text ++ (lines_text enables ++ t)) (sym (text-append line triggers))
    ∙ ap (λ t. text ++ t) (sym (text-append enables (line ++ triggers)))

pub ruleset text_rules = (text-three)

-- ---- the draws

pub draws-none : (start c : ℕ) → draws_at start c 0 ≡ draws_from start
unfolding draws_at
draws-none start c = refl

pub draws-next : (start c k : ℕ) → (drawn c k (draws_at start c k)).1 ≡ draws_at start c (k + 1)
unfolding draws_at
draws-next start c k = ap (draws_at start c) (sym (add-one k))

pub drawn-next : (text : List ℕ) (start c k : ℕ) →
    (text ++ lines_text (each_below (drawn_line start c) k)) ++ lines_text (asks (actor c k) (drawn c k (draws_at start c k)).0 ∷ [])
    ≡ text ++ lines_text (each_below (drawn_line start c) (k + 1))
drawn-next text start c k = text-next text (drawn_line start c) k

pub ruleset drawn_rules = (drawn-next, text-none, draws-none, draws-next)

-- ---- the whole

-- the header, the lines that set up, the drawn lines, and the end
pub whole-text : (start n c : ℕ) →
    ((with_feeds (map joined (header_words c)) ++ lines_text (set_up c)) ++ lines_text (each_below (drawn_line start c) n)) ++ codes "end\n" ≡ workload_text start n c
unfolding workload_text workload lines_text
whole-text start n c =
    let head = map joined (header_words c) in
    let lines = set_up c ++ each_below (drawn_line start c) n in
    let ending = codes "end" ∷ [] in
    append_assoc (with_feeds head ++ lines_text (set_up c)) (lines_text (each_below (drawn_line start c) n)) (codes "end\n")
    ∙ append_assoc (with_feeds head) (lines_text (set_up c)) (lines_text (each_below (drawn_line start c) n) ++ codes "end\n")
    ∙ ap (λ t. with_feeds head ++ t)
    (sym (append_assoc (lines_text (set_up c)) (lines_text (each_below (drawn_line start c) n)) (codes "end\n"))
    ∙ ap (λ t. t ++ codes "end\n") (sym (text-append (set_up c) (each_below (drawn_line start c) n)))
    ∙ sym (feeds-append (map joined (map actor_words lines)) ending))
    ∙ sym (feeds-append head (map joined (map actor_words lines) ++ ending))
    ∙ ap (λ ws. with_feeds (head ++ ws)) (sym (map-append joined (map actor_words lines) (ending ∷ [])))
    ∙ ap with_feeds (sym (map-append joined (header_words c) (map actor_words lines ++ ending ∷ [])))

pub ruleset whole_rules = (whole-text)
