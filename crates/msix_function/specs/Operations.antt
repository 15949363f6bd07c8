-- What is asked of an MSI-X function, and what comes of it (PCI Local Bus Specification 3.0, 6.8.3.5 and 6.8.3.6, masked and
-- pending messages; what a limit of the board leaves is this board's own rule).
use Rattle.std.specs.Prelude.{◌≡◌, ℕ, Bool, true, false, not, ◌&&◌, List, [], ◌∷◌, ◌++◌, length, map, All, Ok, Err}
use Rattle.std.specs.declared.result.Result.{Result}
use Rattle.irq_base.specs.Faces.{PlacedEntry}
use Rattle.irq_base.specs.declared.call.Call.{Call}
use Rattle.irq_base.specs.declared.call.Call.TheVariants.{Msi}
use Rattle.irq_base.specs.declared.message.MsiWord.{MsiWord}
use Rattle.irq_base.specs.declared.reply.Reply.{Reply}
use Rattle.irq_base.specs.declared.reply.Spent.{Spent}
use Rattle.msix_function.specs.Functions.{is_pending_at, is_held, message_at, pended, all_cleared, due, stored, controlled}
use Rattle.msix_function.specs.declared.fired.Fired.{Fired}
use Rattle.msix_function.specs.declared.fired.Fired.TheVariants.{Off, Merged, Pended, Sent}
use Rattle.msix_function.specs.declared.function.Function.{Function}

-- a message that was sent for an entry: the number of the entry, and the call that was answered, at its place
pub record Sending : Type 0 where
  pub number : ℕ
  pub placed : PlacedEntry

-- an operation, with its answer and the messages that were sent in it
pub data Operation : Type 0 where
  fire : ℕ → Result Fired Spent → List Sending → Operation
  store : ℕ → ℕ → Result ℕ Spent → List Sending → Operation
  control : Bool → Bool → Result ℕ Spent → List Sending → Operation

abbrev pub numbers_in : List Sending → List ℕ
numbers_in sent = map (λ (s : Sending). s.number) sent

abbrev pub calls_in : List Sending → List PlacedEntry
calls_in sent = map (λ (s : Sending). s.placed) sent

-- the call that sends a message
abbrev pub call_of : MsiWord → Call
call_of message = Msi message.address message.payload

-- what is answered where these were sent and those left: all were sent, and this is how many; or a limit barred the first of
-- those that are left
abbrev pub AnswersSent : Result ℕ Spent → List Sending → List ℕ → Type 0
AnswersSent (Ok n) sent left = (n ≡ length sent) × (left ≡ [])
AnswersSent (Err spent) sent left = (k : ℕ) × (later : List ℕ) × (left ≡ k ∷ later)

module _ {N : ℕ} where
  -- each message has the address and payload of its entry
  abbrev pub AreMessages : Function N → List Sending → Type 0
  AreMessages f sent = All (λ (s : Sending). s.placed.entry.call ≡ call_of (message_at f s.number)) sent

  -- a fire of an entry sends its message where the function is enabled, and the entry neither pending nor held back
  abbrev pub can_send : Function N → ℕ → Bool
  can_send f k = f.enabled && (not (is_pending_at f k) && not (is_held f k))

  -- one message was sent, for this entry, and this was answered
  pub record IsSent (f : Function N) (k : ℕ) (reply : Reply) (sent : List Sending) : Type 0 where
    pub placed : PlacedEntry
    pub one : sent ≡ record { number = k; placed = placed } ∷ []
    pub call : placed.entry.call ≡ call_of (message_at f k)
    pub reply_is : placed.entry.reply ≡ reply

  -- a fire of an entry: each answer with its cause, with what was sent and what is left
  abbrev pub Fires : Function N → ℕ → Result Fired Spent → List Sending → Function N → Type 0
  Fires f k (Ok Off) sent now = (f.enabled ≡ false) × (sent ≡ []) × (now ≡ f)
  Fires f k (Ok Merged) sent now = (f.enabled ≡ true) × (is_pending_at f k ≡ true) × (sent ≡ []) × (now ≡ f)
  Fires f k (Ok Pended) sent now =
      (f.enabled ≡ true) × (is_pending_at f k ≡ false) × (is_held f k ≡ true) × (sent ≡ []) × (now ≡ pended f k)
  Fires f k (Ok (Sent reply)) sent now = (can_send f k ≡ true) × IsSent f k reply sent × (now ≡ f)
  -- a limit of the board barred the message, which is pending
  Fires f k (Err spent) sent now = (can_send f k ≡ true) × (sent ≡ []) × (now ≡ pended f k)

  -- the entries that are due in a changed function are sent, in order
  pub record SendsDue (f : Function N) (answer : Result ℕ Spent) (sent : List Sending) (now : Function N) : Type 0 where
    -- those that are due and were not sent
    pub left : List ℕ
    pub order : due f ≡ numbers_in sent ++ left
    pub answered : AnswersSent answer sent left
    pub messages : AreMessages f sent
    -- just the pending bits of those that were sent are cleared
    pub cleared : now ≡ all_cleared f (numbers_in sent)

  -- one operation leads from one function to the next
  abbrev pub IsStep : Function N → Operation → Function N → Type 0
  IsStep f (fire k answer sent) now = Fires f k answer sent now
  IsStep f (store offset value answer sent) now = SendsDue (stored f offset value) answer sent now
  IsStep f (control enable mask answer sent) now = SendsDue (controlled f enable mask) answer sent now
