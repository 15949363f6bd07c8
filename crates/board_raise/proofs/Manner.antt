-- What every plan of a call keeps to: how it tells, answers, chooses and writes; and what follows of its runs.
use Rattle.std.proofs.Common.{◌≡◌, Bool, true, false, not, ◌&&◌, ◌||◌, List, [], ◌∷◌, refl, sym, ap, ◌∙◌, if◌then◌else◌}
use Rattle.irq_bits.specs.Members.{Numbers}
use Rattle.irq_base.specs.declared.event.Event.{Event}
use Rattle.irq_base.specs.declared.event.Event.TheVariants.{Injected, Resent, Ipi}
use Rattle.irq_base.specs.declared.reply.Reply.{Reply}
use Rattle.irq_base.specs.declared.reply.Reply.TheVariants.{Signal, Refused}
use Rattle.irq_base.specs.declared.shape.Part.{Part}
use Rattle.irq_base.specs.declared.shape.Part.TheVariants.{Registry, Counters, Tick, Pic, Ioapic, Lapic}
use Rattle.board_model.specs.Board.{ValueOf, Board, part_of, with_part, is_same}
use Rattle.board_model.specs.Statuses.{Sent, nobody, is_empty, sets_of}
use Rattle.board_model.specs.Plan.{About, injected, resent, ipi, the_reply, Plan, done, look, put, tell, answer, choose, ◌>>=◌}
use Rattle.board_model.specs.Run.{Wishes, next_wish, later_wishes, run}
use Rattle.board_model.specs.Following.{reached, IsSteady}

-- ---- the manner of a plan

-- the sets that an event shows
abbrev pub sets_told : Event → Sent
sets_told (Injected gsi status) = sets_of status
sets_told (Resent pin status) = sets_of status
sets_told (Ipi status) = sets_of status
sets_told _ = nobody

-- the sets that a reply shows
abbrev pub sets_replied : Reply → Sent
sets_replied (Signal status) = sets_of status
sets_replied _ = nobody

-- whether a reply is a refusal
abbrev pub is_refusal : Reply → Bool
is_refusal (Refused refusal) = true
is_refusal _ = false

-- whether a sending shows in the reply
abbrev pub in_reply : About → Bool
in_reply (the_reply pic) = true
in_reply _ = false

-- where sendings show, whether the registry may be written, and whether a refusal may be answered
pub record Manner : Type 0 where
  pub replies : Bool
  pub writes : Bool
  pub refuses : Bool

-- whether a sending may show there
abbrev pub shows_there : Manner → About → Bool
shows_there w about = if w.replies then in_reply about else not (in_reply about)

-- a choice shows where the manner says, it can be followed, and it reaches somebody
pub record Chooses (w : Manner) (about : About) (g : Numbers → Sent) : Type 0 where
  pub place : shows_there w about ≡ true
  pub steady : (wish : Numbers) → g (reached (g wish)) ≡ g wish
  pub somebody : (wish : Numbers) → is_empty (reached (g wish)) ≡ false

-- a reply shows no set, and is a refusal where it may be
pub record Answers (w : Manner) (r : Reply) : Type 0 where
  pub sets : sets_replied r ≡ nobody
  pub accepts : (is_refusal r && not w.refuses) ≡ false

-- a plan keeps to the manner; what it tells besides the sendings shows no sets
abbrev pub Keeps : {A : Type 0} → Manner → Plan A → Type 0
Keeps w (done a) = Unit {0}
Keeps w (look p k) = (v : ValueOf p) → Keeps w (k v)
Keeps w (put p v rest) = ((not (is_same p Registry) || w.writes) ≡ true) × Keeps w rest
Keeps w (tell x rest) = (sets_told x ≡ nobody) × Keeps w rest
Keeps w (answer r rest) = Answers w r × Keeps w rest
Keeps w (choose m about g k) = Chooses w about g × ((s : Sent) → Keeps w (k s))

-- a plan and then another
pub keeps_bind : {A B : Type 0} (w : Manner) (f : A → Plan B) (m : Plan A) → Keeps w m → ((a : A) → Keeps w (f a)) → Keeps w (m >>= f)
keeps_bind w f (done a) h next = next a
keeps_bind w f (look p k) h next = λ v. keeps_bind w f (k v) (h v) next
keeps_bind w f (put p v rest) h next = (h.0, keeps_bind w f rest h.1 next)
keeps_bind w f (tell x rest) h next = (h.0, keeps_bind w f rest h.1 next)
keeps_bind w f (answer r rest) h next = (h.0, keeps_bind w f rest h.1 next)
keeps_bind w f (choose m about g k) h next = (h.0, λ s. keeps_bind w f (k s) (h.1 s) next)

-- a plan and then another, where the whole can be followed
pub keeps_bind_steady : {A B : Type 0} (w : Manner) (f : A → Plan B) (m : Plan A) → Keeps w m → IsSteady (m >>= f) → ((a : A) → IsSteady (f a) → Keeps w (f a)) → Keeps w (m >>= f)
keeps_bind_steady w f (done a) h s next = next a s
keeps_bind_steady w f (look p k) h s next = λ v. keeps_bind_steady w f (k v) (h v) (s v) next
keeps_bind_steady w f (put p v rest) h s next = (h.0, keeps_bind_steady w f rest h.1 s next)
keeps_bind_steady w f (tell x rest) h s next = (h.0, keeps_bind_steady w f rest h.1 s next)
keeps_bind_steady w f (answer r rest) h s next = (h.0, keeps_bind_steady w f rest h.1 s next)
keeps_bind_steady w f (choose m about g k) h s next = (h.0, λ t. keeps_bind_steady w f (k t) (h.1 t) (s.1 t) next)

-- ---- what follows of a run

-- the choices can be followed
pub steady_of : {A : Type 0} (w : Manner) (m : Plan A) → Keeps w m → IsSteady m
steady_of w (done a) h = tt
steady_of w (look p k) h = λ v. steady_of w (k v) (h v)
steady_of w (put p v rest) h = steady_of w rest h.1
steady_of w (tell x rest) h = steady_of w rest h.1
steady_of w (answer r rest) h = steady_of w rest h.1
steady_of w (choose m about g k) h = (h.0.steady, λ s. steady_of w (k s) (h.1 s))

-- the registry stays where it may not be written
pub registry_stays : {A : Type 0} (w : Manner) (m : Plan A) (b : Board) (ws : Wishes) → w.writes ≡ false → Keeps w m → (run m b ws).board.registry ≡ b.registry
registry_stays w (done a) b ws never h = refl
registry_stays w (look p k) b ws never h = registry_stays w (k (part_of b p)) b ws never (h (part_of b p))
registry_stays w (put p v rest) b ws never h = registry_stays w rest (with_part b p v) ws never h.1 ∙ other p v h.0
  where
    other : (p : Part) (v : ValueOf p) → (not (is_same p Registry) || w.writes) ≡ true → (with_part b p v).registry ≡ b.registry
    other Registry v may = let e : false ≡ true = sym never ∙ may in cc
    other Counters v may = refl
    other Tick v may = refl
    other Pic v may = refl
    other Ioapic v may = refl
    other (Lapic n) v may = refl
registry_stays w (tell x rest) b ws never h = registry_stays w rest b ws never h.1
registry_stays w (answer r rest) b ws never h = registry_stays w rest b ws never h.1
registry_stays w (choose m about g k) b ws never h = registry_stays w (k (g (next_wish ws))) b (later_wishes ws) never (h.1 (g (next_wish ws)))

-- whether some reply is a refusal
abbrev pub some_refusal : List Reply → Bool
some_refusal [] = false
some_refusal (r ∷ rs) = is_refusal r || some_refusal rs

-- no refusal is answered where none may be
pub accepts : {A : Type 0} (w : Manner) (m : Plan A) (b : Board) (ws : Wishes) → w.refuses ≡ false → Keeps w m → some_refusal (run m b ws).log.answers ≡ false
accepts w (done a) b ws never h = refl
accepts w (look p k) b ws never h = accepts w (k (part_of b p)) b ws never (h (part_of b p))
accepts w (put p v rest) b ws never h = accepts w rest (with_part b p v) ws never h.1
accepts w (tell x rest) b ws never h = accepts w rest b ws never h.1
accepts w (answer r rest) b ws never h = ap (λ t. t || some_refusal (run rest b ws).log.answers) (none (is_refusal r) w.refuses never h.0.accepts) ∙ accepts w rest b ws never h.1
  where
    none : (is may : Bool) → may ≡ false → (is && not may) ≡ false → is ≡ false
    none false may never h = refl
    none true may never h = sym (ap not never) ∙ h
accepts w (choose m about g k) b ws never h = of_sending about (accepts w (k (g (next_wish ws))) b (later_wishes ws) never (h.1 (g (next_wish ws))))
  where
    of_sending : (about : About) → some_refusal (run (k (g (next_wish ws))) b (later_wishes ws)).log.answers ≡ false → some_refusal (run (choose m about g k) b ws).log.answers ≡ false
    of_sending (injected gsi pic) later = later
    of_sending (resent pin) later = later
    of_sending ipi later = later
    of_sending (the_reply pic) later = later
