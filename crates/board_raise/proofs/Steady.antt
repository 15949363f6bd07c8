-- A sending is steady.
use Rattle.std.proofs.Common.{◌≡◌, ℕ, Bool, true, false, cond, not, ◌||◌, nat_eq, if◌then◌else◌, filter, map, List, [], ◌∷◌, refl, sym, ap, ◌∙◌, subst, arith}
use Rattle.std.specs.declared.option.Option.{Option}
use Rattle.std.specs.List.{list_any}
use Rattle.std.specs.FinSet as set
use Rattle.std.specs.FinSet.{contains-empty}
use Rattle.std.specs.Ordering.{nat_cmp}
use Rattle.irq_bits.specs.Members.{Numbers}
use Rattle.irq_bits.specs.SetLemmas.{contains-insert_number}
use Rattle.irq_base.specs.declared.message.Message.{Message}
use Rattle.irq_base.specs.declared.message.Mode.{Mode}
use Rattle.irq_base.specs.declared.message.Mode.TheVariants.{Fixed, Lowest, Smi, Nmi, Init, Startup, ExtInt, Reserved}
use Rattle.irq_base.specs.declared.shape.Part.TheVariants.{Lapic}
use Rattle.irq_base.specs.declared.status.Cause.{Cause}
use Rattle.irq_base.specs.declared.status.Cause.TheVariants.{NoProcessor, BadVector, Mode as BadMode}
use Rattle.lapic.specs.declared.outcome.Shorthand.{Shorthand}
use Rattle.lapic.specs.Messages.{is_taken, accepted}
use Rattle.board_model.specs.Board.{ValueOf}
use Rattle.board_model.specs.Statuses.{Sent, TargetAnswer, message_answer}
use Rattle.board_model.specs.Plan.{About, injected, resent, ipi, the_reply, Plan, done, look, put, tell, answer, choose, ◌>>=◌, ◌>>◌}
use Rattle.board_model.specs.Following.{reached, IsSteady}
use Rattle.board_raise.specs.Named.{Processor, is_lowest, lowest_of, first_or, first_alone, preferred, is_named, named_by, chosen_of, numbers_of}
use Rattle.board_raise.specs.Send.{ignore, reached_by, see_each, parted, is_illegal, accept_each, deliver, refuse_vector, send_to}
use Rattle.board_raise.specs.Steady.{SendsSteadily}
use Rattle.board_raise.proofs.SendExactly.{Apart, neither, all_reached, of_reached, below_apart, only_apart}

-- Q holds of each value with which a plan can end
Ends : {A : Type 0} → (A → Type 0) → Plan A → Type 0
Ends Q (done a) = Q a
Ends Q (look p k) = (v : ValueOf p) → Ends Q (k v)
Ends Q (put p v rest) = Ends Q rest
Ends Q (tell x rest) = Ends Q rest
Ends Q (answer r rest) = Ends Q rest
Ends Q (choose m about g k) = (s : Sent) → Ends Q (k s)

ends_weaker : {A : Type 0} (P Q : A → Type 0) → ((a : A) → P a → Q a) → (m : Plan A) → Ends P m → Ends Q m
unfolding Ends
ends_weaker P Q f (done a) h = f a h
ends_weaker P Q f (look p k) h = λ v. ends_weaker P Q f (k v) (h v)
ends_weaker P Q f (put p v rest) h = ends_weaker P Q f rest h
ends_weaker P Q f (tell x rest) h = ends_weaker P Q f rest h
ends_weaker P Q f (answer r rest) h = ends_weaker P Q f rest h
ends_weaker P Q f (choose m about g k) h = λ s. ends_weaker P Q f (k s) (h s)

ends_bind : {A B : Type 0} (Q : B → Type 0) (f : A → Plan B) (m : Plan A) → Ends (λ a. Ends Q (f a)) m → Ends Q (m >>= f)
unfolding Ends
ends_bind Q f (done a) h = h
ends_bind Q f (look p k) h = λ v. ends_bind Q f (k v) (h v)
ends_bind Q f (put p v rest) h = ends_bind Q f rest h
ends_bind Q f (tell x rest) h = ends_bind Q f rest h
ends_bind Q f (answer r rest) h = ends_bind Q f rest h
ends_bind Q f (choose m about g k) h = λ s. ends_bind Q f (k s) (h s)

steady_bind : {A B : Type 0} (f : A → Plan B) (m : Plan A) → IsSteady m → Ends (λ a. IsSteady (f a)) m → IsSteady (m >>= f)
unfolding Ends
steady_bind f (done a) s h = h
steady_bind f (look p k) s h = λ v. steady_bind f (k v) (s v) (h v)
steady_bind f (put p v rest) s h = steady_bind f rest s h
steady_bind f (tell x rest) s h = steady_bind f rest s h
steady_bind f (answer r rest) s h = steady_bind f rest s h
steady_bind f (choose m about g k) s h = (s.0, λ t. steady_bind f (k t) (s.1 t) (h t))

numbers : List Processor → List ℕ
numbers ps = map (λ p. p.number) ps

see_ends : (ns : List ℕ) → Ends (λ ps. numbers ps ≡ ns) (see_each ns)
unfolding Ends numbers
see_ends [] = refl
see_ends (n ∷ ns) = λ v. ends_bind _ (λ rest. done (record { number = n; apic = v } ∷ rest)) (see_each ns) (ends_weaker _ _ (λ ps is. ap (λ l. n ∷ l) is) (see_each ns) (see_ends ns))

see_steady : (ns : List ℕ) → IsSteady (see_each ns)
unfolding Ends
see_steady [] = tt
see_steady (n ∷ ns) = λ v. steady_bind (λ rest. done (record { number = n; apic = v } ∷ rest)) (see_each ns) (see_steady ns) (ends_weaker (λ ps. numbers ps ≡ ns) _ (λ ps _. tt) (see_each ns) (see_ends ns))

ignore_steady : (about : About) (cause : Cause) → IsSteady (ignore about cause)
ignore_steady (injected gsi pic) cause = tt
ignore_steady (resent pin) cause = tt
ignore_steady ipi cause = tt
ignore_steady (the_reply pic) cause = tt

accept_steady : {A : Type 0} (k : Plan A) → IsSteady k → (message : Message) (takers : Numbers) (ps : List Processor) → IsSteady (accept_each message takers ps >> k)
accept_steady k h message takers [] = h
accept_steady k h message takers (p ∷ ps) = elim (set.contains takers p.number) as (λ t. IsSteady ((if t then put (Lapic p.number) (accepted p.apic message) (accept_each message takers ps) else accept_each message takers ps) >> k)) [
  | true ↦ accept_steady k h message takers ps
  | false ↦ accept_steady k h message takers ps
]

-- ---- to choose the chosen one again

-- no number stands twice
Differ : List Processor → Type 0
Differ [] = Unit {0}
Differ (p ∷ ps) = (list_any (λ o. nat_eq o.number p.number) ps ≡ false) × Differ ps

differ : (ps : List Processor) → Apart (numbers ps) → Differ ps
unfolding Apart Differ numbers
differ [] h = tt
differ (p ∷ ps) h = (named_alike ps ∙ h.0, differ ps h.1)
  where
    named_alike : (qs : List Processor) → list_any (λ o. nat_eq o.number p.number) qs ≡ list_any (λ m. nat_eq m p.number) (map (λ q. q.number) qs)
    named_alike [] = refl
    named_alike (q ∷ qs) = ap (λ t. nat_eq q.number p.number || t) (named_alike qs)

some_differ : (t : Processor → Bool) (ps : List Processor) → Differ ps → Differ (filter t ps)
unfolding Differ
some_differ t [] h = tt
some_differ t (p ∷ ps) h = elim (t p) as (λ k. Differ (cond k (p ∷ filter t ps) (filter t ps))) [ true ↦ (fewer ps h.0, some_differ t ps h.1) | false ↦ some_differ t ps h.1 ]
  where
    fewer : (qs : List Processor) → list_any (λ o. nat_eq o.number p.number) qs ≡ false → list_any (λ o. nat_eq o.number p.number) (filter t qs) ≡ false
    fewer [] h = refl
    fewer (q ∷ qs) h = let each = neither _ _ h in elim (t q) as (λ k. list_any (λ o. nat_eq o.number p.number) (cond k (q ∷ filter t qs) (filter t qs)) ≡ false) [
      | true ↦ ap (λ e. e || list_any (λ o. nat_eq o.number p.number) (filter t qs)) each.0 ∙ fewer qs each.1
      | false ↦ fewer qs each.1
    ]

abbrev alone : ℕ → Numbers
alone n = set.insert set.empty n

alone_has : (n k : ℕ) → set.contains (alone n) k ≡ nat_eq k n
alone_has n k = contains-insert_number set.empty n k ∙ ap (λ b. nat_eq k n || b) (contains-empty nat_cmp k) ∙ or_false (nat_eq k n)
  where
    or_false : (b : Bool) → (b || false) ≡ b
    or_false true = refl
    or_false false = refl

none_left : (n : ℕ) (ps : List Processor) → list_any (λ o. nat_eq o.number n) ps ≡ false → filter (λ p. set.contains (alone n) p.number) ps ≡ []
none_left n [] h = refl
none_left n (p ∷ ps) h = let each = neither _ _ h in ap (λ t. cond t (p ∷ filter (λ p. set.contains (alone n) p.number) ps) (filter (λ p. set.contains (alone n) p.number) ps)) (alone_has n p.number ∙ each.0) ∙ none_left n ps each.1

-- where the first that passes is w, the wish for its number leaves w alone
found_again : (t : Processor → Bool) (ps : List Processor) → Differ ps → (w : Processor) (ws : List Processor) → filter t ps ≡ w ∷ ws → filter (λ p. set.contains (alone w.number) p.number) ps ≡ w ∷ []
unfolding Differ
found_again t [] h w ws is = cc
found_again t (p ∷ ps) h w ws given = elim (t p) as (λ k. cond k (p ∷ filter t ps) (filter t ps) ≡ w ∷ ws → filter (λ p. set.contains (alone w.number) p.number) (p ∷ ps) ≡ w ∷ []) [
  | true ↦ λ is. let e : p ≡ w = cc in subst (λ x. filter (λ p. set.contains (alone x.number) p.number) (p ∷ ps) ≡ x ∷ []) e
      (ap (λ k. cond k (p ∷ filter (λ q. set.contains (alone p.number) q.number) ps) (filter (λ q. set.contains (alone p.number) q.number) ps)) (alone_has p.number p.number ∙ itself p.number)
      ∙ ap (λ l. p ∷ l) (none_left p.number ps h.0))
  | false ↦ λ is. ap (λ k. cond k (p ∷ filter (λ q. set.contains (alone w.number) q.number) ps) (filter (λ q. set.contains (alone w.number) q.number) ps)) (alone_has w.number p.number ∙ other ps w ws is h.0) ∙ found_again t ps h.1 w ws is
] given
  where
    itself : (n : ℕ) → nat_eq n n ≡ true
    itself n = grind arith

    apart : (m n : ℕ) → nat_eq n m ≡ false → nat_eq m n ≡ false
    apart m n h = grind (h, arith)

    other : (qs : List Processor) (w : Processor) (ws : List Processor) → filter t qs ≡ w ∷ ws → list_any (λ o. nat_eq o.number p.number) qs ≡ false → nat_eq p.number w.number ≡ false
    other [] w ws is h = cc
    other (q ∷ qs) w ws is h = let each = neither (nat_eq q.number p.number) (list_any (λ o. nat_eq o.number p.number) qs) h in elim (t q) as (λ k. cond k (q ∷ filter t qs) (filter t qs) ≡ w ∷ ws → nat_eq p.number w.number ≡ false) [
      | true ↦ λ is. let e : q ≡ w = cc in subst (λ (x : Processor). nat_eq p.number x.number ≡ false) e (apart p.number q.number each.0)
      | false ↦ λ is. other qs w ws is each.1
    ] is

-- the preferred one is preferred again
preferred_again : (wish : Numbers) (ps : List Processor) → Differ ps → preferred (numbers_of (preferred wish ps)) ps ≡ preferred wish ps
unfolding Differ
preferred_again wish ps h = by_wished (filter (λ p. set.contains wish p.number) ps) refl
  where
    first_again : (qs : List Processor) → Differ qs → preferred (numbers_of (first_alone qs)) qs ≡ first_alone qs
    first_again [] d = refl
    first_again (q ∷ qs) d = ap (λ l. first_or l (q ∷ qs)) (found_again (λ _. true) (q ∷ qs) d q (filter (λ _. true) qs) refl)

    by_wished : (wished : List Processor) → filter (λ p. set.contains wish p.number) ps ≡ wished → preferred (numbers_of (first_or wished ps)) ps ≡ first_or wished ps
    by_wished [] is = first_again ps h
    by_wished (w ∷ ws) is = ap (λ l. first_or l ps) (found_again (λ p. set.contains wish p.number) ps h w ws is)

chosen_again : (mode : Mode) (wish : Numbers) (named : List Processor) → Differ named → chosen_of mode (numbers_of (chosen_of mode wish named)) named ≡ chosen_of mode wish named
chosen_again Lowest wish named h = preferred_again wish (lowest_of named) (some_differ (is_lowest named) named h)
chosen_again Fixed wish named h = refl
chosen_again Smi wish named h = refl
chosen_again Nmi wish named h = refl
chosen_again Init wish named h = refl
chosen_again Startup wish named h = refl
chosen_again ExtInt wish named h = refl
chosen_again Reserved wish named h = refl

module _ (message : Message) (from : Option (ℕ × Shorthand)) (about : About) (processors : List Processor) where
  deliver_steady : (named : List Processor) → Differ named → IsSteady (deliver message from about processors named)
  deliver_steady named h = (
    λ wish. ap (parted message) (ap (λ s. chosen_of message.mode s named) (all_reached message (chosen_of message.mode wish named)) ∙ chosen_again message.mode wish named h),
    λ sent. accept_steady (done (message_answer sent)) tt message (reached sent) processors,
  )

  send_to_steady : (named : List Processor) → Differ named → IsSteady (send_to message from about processors named)
  send_to_steady [] h = ignore_steady about NoProcessor
  send_to_steady (p ∷ ps) h = elim (is_illegal message) as (λ t. IsSteady (if t then refuse_vector message about processors (p ∷ ps) else deliver message from about processors (p ∷ ps))) [
    | true ↦ accept_steady (ignore about BadVector) (ignore_steady about BadVector) message (numbers_of (p ∷ ps)) processors
    | false ↦ deliver_steady (p ∷ ps) h
  ]

pub sends_steadily : SendsSteadily
sends_steadily cpus message from about = elim (is_taken message.mode) as (λ t. IsSteady (if not t then ignore about BadMode else (see_each (reached_by message from cpus) >>= f))) [
  | true ↦ steady_bind f (see_each (reached_by message from cpus)) (see_steady (reached_by message from cpus))
      (ends_weaker (λ ps. numbers ps ≡ reached_by message from cpus) (λ ps. IsSteady (f ps))
      (λ ps is. send_to_steady message from about ps (named_by message from ps)
      (some_differ (is_named message from) ps (differ ps (subst Apart (sym is) (of_reached message cpus Apart (below_apart cpus) (only_apart cpus) from)))))
      (see_each (reached_by message from cpus)) (see_ends (reached_by message from cpus)))
  | false ↦ ignore_steady about BadMode
]
  where
    f : List Processor → Plan TargetAnswer
    f processors = send_to message from about processors (named_by message from processors)
