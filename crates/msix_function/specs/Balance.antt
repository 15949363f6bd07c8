-- Over every list of operations no request is lost, and one merges only while another is pending.
use Rattle.std.specs.Prelude.{◌≡◌, ℕ, ◌+◌, Bool, false, nat_eq, if◌then◌else◌, List, [], ◌∷◌, sum_by, count_by, Ok}
use Rattle.msix_function.specs.Functions.{is_pending_at}
use Rattle.msix_function.specs.Operations.{Sending, Operation, fire, store, control, numbers_in, IsStep}
use Rattle.msix_function.specs.declared.fired.Fired.TheVariants.{Off, Merged}
use Rattle.msix_function.specs.declared.function.Function.{Function}

-- 1 where it is so
abbrev pub one_if : Bool → ℕ
one_if is_so = if is_so then 1 else 0

-- whether an operation is a fire of entry k that was answered other than Off; one that a limit stopped is one
abbrev pub is_fire : ℕ → Operation → Bool
is_fire k (fire n (Ok Off) sent) = false
is_fire k (fire n answer sent) = nat_eq n k
is_fire k operation = false

-- whether it is a fire of entry k that was answered Merged
abbrev pub is_merge : ℕ → Operation → Bool
is_merge k (fire n (Ok Merged) sent) = nat_eq n k
is_merge k operation = false

-- the messages that were sent in it
abbrev pub sent_in : Operation → List Sending
sent_in (fire k answer sent) = sent
sent_in (store offset value answer sent) = sent
sent_in (control enable mask answer sent) = sent

-- how many messages it sent for entry k
abbrev pub sent_for : ℕ → Operation → ℕ
sent_for k operation = count_by (λ n. nat_eq n k) (numbers_in (sent_in operation))

module _ {N : ℕ} where
  -- operations lead one after another from one function to another
  abbrev pub Lead : Function N → List Operation → Function N → Type 0
  Lead before [] now = now ≡ before
  Lead before (operation ∷ more) now = (next : Function N) × IsStep before operation next × Lead next more now

  -- the fires of entry k are as many as the messages sent for it, those that merged, and one where it is pending
  abbrev pub IsBalanced : ℕ → List Operation → Function N → Type 0
  IsBalanced k operations now =
      count_by (is_fire k) operations
      ≡ sum_by (sent_for k) operations + (count_by (is_merge k) operations + one_if (is_pending_at now k))
