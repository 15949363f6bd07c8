-- What a call does, as a plan: it looks at parts, writes parts, tells events, answers, and makes the one free choice.
use Rattle.std.specs.Prelude.{ℕ, List, [], ◌∷◌, None}
use Rattle.std.specs.declared.option.Option.{Option}
use Rattle.irq_bits.specs.Members.{Numbers}
use Rattle.irq_base.specs.declared.event.Event.{Event}
use Rattle.irq_base.specs.declared.event.Event.TheVariants.{Injected, Resent, Ipi}
use Rattle.irq_base.specs.declared.message.Message.{Message}
use Rattle.irq_base.specs.declared.reply.Reply.{Reply}
use Rattle.irq_base.specs.declared.reply.Reply.TheVariants.{Signal}
use Rattle.irq_base.specs.declared.shape.Part.{Part}
use Rattle.lapic.specs.declared.outcome.Shorthand.{Shorthand}
use Rattle.board_model.specs.Board.{ValueOf}
use Rattle.board_model.specs.Statuses.{Sent, TargetAnswer, status_sent}

-- a message with the sender and the shorthand of an interprocessor interrupt, and with none of any other message (SDM
-- volume 3, interrupt command register)
pub record Heading : Type 0 where
  pub message : Message
  pub from : Option (ℕ × Shorthand)

-- where the status of a sending shows: in an event or in the reply; with what the GSI's 8259A pin answered, if it has one
pub data About : Type 0 where
  injected : ℕ → Option TargetAnswer → About
  resent : ℕ → About
  ipi : About
  the_reply : Option TargetAnswer → About

-- the event that shows a sending
abbrev pub events_of : About → Sent → List Event
events_of (injected gsi pic) sent = Injected gsi (status_sent pic sent) ∷ []
events_of (resent pin) sent = Resent pin (status_sent None sent) ∷ []
events_of ipi sent = Ipi (status_sent None sent) ∷ []
events_of (the_reply pic) sent = []

-- the reply that shows a sending
abbrev pub answers_of : About → Sent → List Reply
answers_of (the_reply pic) sent = Signal (status_sent pic sent) ∷ []
answers_of _ sent = []

-- a plan, which ends with a value
pub data Plan (A : Type 0) : Type 0 where
  -- it is over
  done : A → Plan A
  -- it looks at a part
  look : (p : Part) → (ValueOf p → Plan A) → Plan A
  -- it writes a part
  put : (p : Part) → ValueOf p → Plan A → Plan A
  -- it tells an event
  tell : Event → Plan A → Plan A
  -- it answers
  answer : Reply → Plan A → Plan A
  -- it sends the message, the only free choice: the next wish decides which processors are reached, and they show at once
  choose : Heading → About → (Numbers → Sent) → (Sent → Plan A) → Plan A

infixl 20 ◌>>=◌
infixl 20 ◌>>◌
-- a plan, and then the plan of its value
abbrev pub ◌>>=◌ : {A B : Type 0} → Plan A → (A → Plan B) → Plan B
done a >>= f = f a
look p k >>= f = look p (λ v. k v >>= f)
put p v rest >>= f = put p v (rest >>= f)
tell x rest >>= f = tell x (rest >>= f)
answer r rest >>= f = answer r (rest >>= f)
choose m about g k >>= f = choose m about g (λ s. k s >>= f)

-- a plan, and then another
abbrev pub ◌>>◌ : {A B : Type 0} → Plan A → Plan B → Plan B
m >> n = m >>= (λ _. n)

-- look at a part
abbrev pub see : (p : Part) → Plan (ValueOf p)
see p = look p (λ v. done v)

-- the part becomes this
abbrev pub set : (p : Part) → ValueOf p → Plan (Unit {0})
set p v = put p v (done tt)

-- the part becomes f of what it is
abbrev pub change : (p : Part) → (ValueOf p → ValueOf p) → Plan (Unit {0})
change p f = look p (λ v. put p (f v) (done tt))

-- tell an event
abbrev pub say : Event → Plan (Unit {0})
say x = tell x (done tt)

-- answer
abbrev pub reply : Reply → Plan (Unit {0})
reply r = answer r (done tt)
