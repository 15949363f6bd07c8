-- Events told where there is room for them.
use Rattle.std.proofs.Common.{◌≡◌, ℕ, zero, suc, ◌+◌, ◌-◌, ◌<◌, ◌≤◌, List, [], ◌∷◌, ◌++◌, length, take, refl, sym, ap, ◌∙◌, arith, length-append, append_assoc}
use Rattle.std.proofs.lemmas.List.{append-nil}
use Rattle.irq_base.specs.declared.event.Event.{Event}
use Rattle.irq_base.specs.Room.{with_told}

take-none : {A : Type 0} (n : ℕ) → take {A = A} n [] ≡ []
take-none zero = refl
take-none (suc n) = refl

take-fits : {A : Type 0} (n : ℕ) (xs : List A) → length xs ≤ n → take n xs ≡ xs
take-fits zero [] h = refl
take-fits zero (x ∷ xs) h = absurd (omega (arith, h))
take-fits (suc n) [] h = refl
take-fits (suc n) (x ∷ xs) h = let less : length xs ≤ n = omega (arith, h) in ap (λ l. x ∷ l) (take-fits n xs less)

take-both : {A : Type 0} (n : ℕ) (xs ys : List A) → take n (xs ++ ys) ≡ take n xs ++ take (n - length (take n xs)) ys
take-both zero xs ys = refl
take-both (suc n) [] ys = let all : suc n ≡ suc n - 0 = omega arith in ap (λ k. take k ys) all
take-both (suc n) (x ∷ xs) ys =
    let less : n - length (take n xs) ≡ suc n - suc (length (take n xs)) = omega arith in
    ap (λ l. x ∷ l) (take-both n xs ys ∙ ap (λ k. take n xs ++ take k ys) less)

-- what finds room is told
pub told-fits : (events told : List Event) → length events + length told ≤ 640 → with_told events told ≡ events ++ told
unfolding with_told
told-fits events told h = let fits : length told ≤ 640 - length events = omega (arith, h) in ap (λ l. events ++ l) (take-fits (640 - length events) told fits)

-- nothing more is told
pub told-none : (events : List Event) → with_told events [] ≡ events
unfolding with_told
told-none events = ap (λ l. events ++ l) (take-none (640 - length events)) ∙ append-nil events

-- events told one after another are told together
pub told-both : (events told more : List Event) → with_told (with_told events told) more ≡ with_told events (told ++ more)
unfolding with_told
told-both events told more =
    let room = 640 - length events in
    let less : 640 - length (events ++ take room told) ≡ room - length (take room told) = omega (arith, length-append events (take room told)) in
    append_assoc events (take room told) (take (640 - length (events ++ take room told)) more)
    ∙ ap (λ k. events ++ (take room told ++ take k more)) less
    ∙ ap (λ l. events ++ l) (sym (take-both room told more))

-- one event is told
pub told_one : (events : List Event) (event : Event) → length events < 640 → with_told events (event ∷ []) ≡ events ++ event ∷ []
told_one events event h = let fits : length events + length (event ∷ []) ≤ 640 = omega (arith, h) in told-fits events (event ∷ []) fits

-- where there is no room, it is left out
pub told_past_one : (events : List Event) (event : Event) → length events ≡ 640 → with_told events (event ∷ []) ≡ events
unfolding with_told
told_past_one events event h = ap (λ n. events ++ take (640 - n) (event ∷ [])) h ∙ append-nil events
