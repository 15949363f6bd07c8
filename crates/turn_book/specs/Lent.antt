-- A seat, after a write through the part that it lent: each other slot keeps its value, and what a pen says of its slots stays
use Rattle.std.proofs.Common.{◌≡◌, ℕ, zero, suc, ◌≤◌, List, [], ◌∷◌, ◌++◌, Bool, true, false, refl, sym, ap, ◌∙◌, subst, arith, length, append_assoc, append-nil}
use Rattle.std.specs.Prelude.{Option, Some, None, nat_eq, is_some}
use Rattle.atomic_table.specs.declared.shared.Seat.{Seat}
use Rattle.atomic_table.specs.Table.{rest}
use Rattle.turn_book.specs.declared.view.Held.{Held}
use Rattle.turn_book.specs.Hands.{slot_at, are_distinct, turned_to, brought, written, ArePaired}

-- the seat, with this slot brought to the front and with this value in it
abbrev pub lent_with : {P V : Type 0} → Seat P V → ℕ → P → Seat P V
lent_with it k w = record { marker = it.marker; table_id = it.table_id; id = it.id; me = (it.me.0, written k w (brought k it.me.1)) }

module _ {P : Type 0} where
  pub slot_here : (q : ℕ) (x : P) (cs : List (ℕ × P)) → slot_at q ((q, x) ∷ cs) ≡ Some x
  slot_here q x cs = let t : nat_eq q q ≡ true = grind arith in ap (λ b. elim b [ true ↦ Some x | false ↦ slot_at q cs ]) t

  pub slot_else : (p q : ℕ) (x : P) (cs : List (ℕ × P)) → nat_eq p q ≡ false → slot_at q ((p, x) ∷ cs) ≡ slot_at q cs
  slot_else p q x cs t = ap (λ b. elim b [ true ↦ Some x | false ↦ slot_at q cs ]) t

  -- a member put behind the others is found where none before it has its number
  behind-other : (q : ℕ) (c : ℕ × P) (cs : List (ℕ × P)) → nat_eq c.0 q ≡ false → slot_at q (cs ++ c ∷ []) ≡ slot_at q cs
  behind-other q c [] h = ap (λ b. elim b [ true ↦ Some c.1 | false ↦ None ]) h
  behind-other q c (d ∷ ds) h = ap (λ o. elim (nat_eq d.0 q) [ true ↦ Some d.1 | false ↦ o ]) (behind-other q c ds h)

  behind-same : (q : ℕ) (c : ℕ × P) (cs : List (ℕ × P)) → nat_eq c.0 q ≡ true → is_some (slot_at q cs) ≡ false → slot_at q (cs ++ c ∷ []) ≡ Some c.1
  behind-same q c [] h n = ap (λ b. elim b [ true ↦ Some c.1 | false ↦ None ]) h
  behind-same q c (d ∷ ds) h n = by_test (behind-same q c ds h) (nat_eq d.0 q) n
    where
      by_test : (is_some (slot_at q ds) ≡ false → slot_at q (ds ++ c ∷ []) ≡ Some c.1) → (b : Bool) → is_some (elim b [ true ↦ Some d.1 | false ↦ slot_at q ds ]) ≡ false → ◌≡◌ {A = Option P} (elim b [ true ↦ Some d.1 | false ↦ slot_at q (ds ++ c ∷ []) ]) (Some c.1)
      by_test again true e = absurd (let q : true ≡ false = e in cc)
      by_test again false e = again e

  pub distinct_cons : (c : ℕ × P) (cs : List (ℕ × P)) → is_some (slot_at c.0 cs) ≡ false → are_distinct cs ≡ true → are_distinct (c ∷ cs) ≡ true
  distinct_cons c cs n d = ap (λ b. elim b [ true ↦ false | false ↦ are_distinct cs ]) n ∙ d

  pub distinct_split : (c : ℕ × P) (cs : List (ℕ × P)) → are_distinct (c ∷ cs) ≡ true → (is_some (slot_at c.0 cs) ≡ false) × (are_distinct cs ≡ true)
  distinct_split c cs d = by_test (is_some (slot_at c.0 cs)) d
    where
      by_test : (b : Bool) → (elim b [ true ↦ false | false ↦ are_distinct cs ]) ≡ true → (b ≡ false) × (are_distinct cs ≡ true)
      by_test true e = absurd (let q : false ≡ true = e in cc)
      by_test false e = (refl, e)

  turn_keeps : (q : ℕ) (c : ℕ × P) (cs : List (ℕ × P)) → is_some (slot_at c.0 cs) ≡ false → slot_at q (cs ++ c ∷ []) ≡ slot_at q (c ∷ cs)
  turn_keeps q c cs n = elim (nat_eq c.0 q) as (λ b. nat_eq c.0 q ≡ b → slot_at q (cs ++ c ∷ []) ≡ elim b [ true ↦ Some c.1 | false ↦ slot_at q cs ]) [
    | true ↦ λ t. (let same : c.0 ≡ q = grind arith in behind-same q c cs t (subst (λ m. is_some (slot_at m cs) ≡ false) same n))
    | false ↦ λ t. behind-other q c cs t
  ] refl

  turn_distinct : (c : ℕ × P) (cs : List (ℕ × P)) → is_some (slot_at c.0 cs) ≡ false → are_distinct cs ≡ true → are_distinct (cs ++ c ∷ []) ≡ true
  turn_distinct c [] n d = refl
  turn_distinct c (x ∷ xs) n d =
      let (m, more) = distinct_split x xs d in
      by_test (λ e. turn_distinct c xs e more) m (nat_eq x.0 c.0) refl n
    where
      by_test : (is_some (slot_at c.0 xs) ≡ false → are_distinct (xs ++ c ∷ []) ≡ true) → is_some (slot_at x.0 xs) ≡ false → (b : Bool) → nat_eq x.0 c.0 ≡ b → is_some (elim b [ true ↦ Some x.1 | false ↦ slot_at c.0 xs ]) ≡ false → are_distinct (x ∷ (xs ++ c ∷ [])) ≡ true
      by_test again m true t e = absurd (let q : true ≡ false = e in cc)
      by_test again m false t e = distinct_cons x (xs ++ c ∷ []) (ap is_some (behind-other x.0 c xs (let f : nat_eq c.0 x.0 ≡ false = grind arith in f)) ∙ m) (again e)

  turned-keeps : (n slot q : ℕ) (cs : List (ℕ × P)) → are_distinct cs ≡ true → (slot_at q (turned_to n slot cs) ≡ slot_at q cs) × (are_distinct (turned_to n slot cs) ≡ true)
  turned-keeps zero slot q cs d = (refl, d)
  turned-keeps (suc n) slot q [] d = (refl, d)
  turned-keeps (suc n) slot q (c ∷ cs) d = elim (nat_eq c.0 slot) as (λ b. (slot_at q (elim b [ true ↦ c ∷ cs | false ↦ turned_to n slot (cs ++ c ∷ []) ]) ≡ slot_at q (c ∷ cs)) × (are_distinct (elim b [ true ↦ c ∷ cs | false ↦ turned_to n slot (cs ++ c ∷ []) ]) ≡ true)) [
    | true ↦ (refl, d)
    | false ↦ (let (absent, more) = distinct_split c cs d in let r = turned-keeps n slot q (cs ++ c ∷ []) (turn_distinct c cs absent more) in (r.0 ∙ turn_keeps q c cs absent, r.1))
  ]

  -- bringing a slot to the front changes no slot's value
  pub brought-keeps : (slot q : ℕ) (cs : List (ℕ × P)) → are_distinct cs ≡ true → slot_at q (brought slot cs) ≡ slot_at q cs
  brought-keeps slot q cs d = (turned-keeps (length cs) slot q cs d).0

  pub brought-distinct : (slot : ℕ) (cs : List (ℕ × P)) → are_distinct cs ≡ true → are_distinct (brought slot cs) ≡ true
  brought-distinct slot cs d = (turned-keeps (length cs) slot 0 cs d).1

  turned-first : (n slot : ℕ) (cs ds : List (ℕ × P)) (x : P) → slot_at slot cs ≡ Some x → length cs ≤ n → turned_to n slot (cs ++ ds) ≡ (slot, x) ∷ rest (turned_to n slot (cs ++ ds))
  turned-first n slot [] ds x h le = absurd (let q : None ≡ Some x = h in cc)
  turned-first zero slot (c ∷ cs) ds x h le = absurd (omega arith)
  turned-first (suc n) slot (c ∷ cs) ds x h le = elim (nat_eq c.0 slot) as (λ b. nat_eq c.0 slot ≡ b → (elim b [ true ↦ Some c.1 | false ↦ slot_at slot cs ]) ≡ Some x → First (elim b [ true ↦ c ∷ (cs ++ ds) | false ↦ turned_to n slot ((cs ++ ds) ++ c ∷ []) ])) [
    | true ↦ λ t e. (let same : c.0 ≡ slot = grind arith in ap (λ y. (c.0, y) ∷ (cs ++ ds)) (some_is c.1 x e) ∙ ap (λ k. (k, x) ∷ (cs ++ ds)) same)
    | false ↦ λ t e. subst (λ l. First (turned_to n slot l)) (sym (append_assoc cs ds (c ∷ []))) (turned-first n slot cs (ds ++ c ∷ []) x e (omega arith))
  ] refl h
    where
      First : List (ℕ × P) → Type 0
      First l = l ≡ (slot, x) ∷ rest l

      some_is : (a b : P) → Some a ≡ Some b → a ≡ b
      some_is a b e = cc

  -- a slot in hand comes to the front
  pub brought-first : (slot : ℕ) (cs : List (ℕ × P)) (x : P) → slot_at slot cs ≡ Some x → brought slot cs ≡ (slot, x) ∷ rest (brought slot cs)
  brought-first slot cs x h = subst (λ l. turned_to (length cs) slot l ≡ (slot, x) ∷ rest (turned_to (length cs) slot l)) (append-nil cs) (turned-first (length cs) slot cs [] x h (omega arith))

  has : (o : Option P) → is_some o ≡ true → (x : P) × (o ≡ Some x)
  has None h = absurd (let q : false ≡ true = h in cc)
  has (Some x) h = (x, refl)

  -- what is behind the slot that was brought has the other slots alone
  pub rest-brought : (slot : ℕ) (cs : List (ℕ × P)) (x : P) → are_distinct cs ≡ true → slot_at slot cs ≡ Some x
      → (is_some (slot_at slot (rest (brought slot cs))) ≡ false) × (are_distinct (rest (brought slot cs)) ≡ true) × ((q : ℕ) → nat_eq slot q ≡ false → slot_at q (rest (brought slot cs)) ≡ slot_at q cs)
  rest-brought slot cs x d h =
      let first = brought-first slot cs x h in
      let (absent, more) = distinct_split (slot, x) (rest (brought slot cs)) (subst (λ l. are_distinct l ≡ true) first (brought-distinct slot cs d)) in
      (absent, more, λ q other. sym (slot_else slot q x (rest (brought slot cs)) other) ∙ ap (slot_at q) (sym first) ∙ brought-keeps slot q cs d)

  -- a slot that was written is where it was, and so is each other
  pub written-first : (slot : ℕ) (w x : P) (cs : List (ℕ × P)) → written slot w ((slot, x) ∷ cs) ≡ (slot, w) ∷ cs
  written-first slot w x cs = let t : nat_eq slot slot ≡ true = grind arith in ap (λ b. elim b [ true ↦ (slot, w) ∷ cs | false ↦ (slot, x) ∷ cs ]) t

  written-there : (slot q : ℕ) (w : P) (cs : List (ℕ × P)) → is_some (slot_at q (written slot w cs)) ≡ is_some (slot_at q cs)
  written-there slot q w [] = refl
  written-there slot q w (c ∷ cs) = elim (nat_eq c.0 slot) as (λ b. nat_eq c.0 slot ≡ b → is_some (slot_at q (elim b [ true ↦ (slot, w) ∷ cs | false ↦ c ∷ cs ])) ≡ is_some (slot_at q (c ∷ cs))) [
    | true ↦ λ t. (let same : c.0 ≡ slot = grind arith in subst (λ n. is_some (slot_at q ((n, w) ∷ cs)) ≡ is_some (slot_at q (c ∷ cs))) same (by_value (nat_eq c.0 q)))
    | false ↦ λ t. refl
  ] refl
    where
      by_value : (b : Bool) → is_some (elim b as (λ _. Option P) [ true ↦ Some w | false ↦ slot_at q cs ]) ≡ is_some (elim b as (λ _. Option P) [ true ↦ Some c.1 | false ↦ slot_at q cs ])
      by_value true = refl
      by_value false = refl

  written-distinct : (slot : ℕ) (w : P) (cs : List (ℕ × P)) → are_distinct (written slot w cs) ≡ are_distinct cs
  written-distinct slot w [] = refl
  written-distinct slot w (c ∷ cs) = elim (nat_eq c.0 slot) as (λ b. nat_eq c.0 slot ≡ b → are_distinct (elim b [ true ↦ (slot, w) ∷ cs | false ↦ c ∷ cs ]) ≡ are_distinct (c ∷ cs)) [
    | true ↦ λ t. (let same : c.0 ≡ slot = grind arith in ap (λ n. elim (is_some (slot_at n cs)) [ true ↦ false | false ↦ are_distinct cs ]) (sym same))
    | false ↦ λ t. refl
  ] refl

  -- Of the slots of a pen that lent a part: the part's slot has what was written, each other what it had
  pub slot_lent : (p q : ℕ) (w : P) (cs : List (ℕ × P)) → are_distinct cs ≡ true → is_some (slot_at p cs) ≡ true → slot_at q (written p w (brought p cs)) ≡ elim (nat_eq p q) [ true ↦ Some w | false ↦ slot_at q cs ]
  slot_lent p q w cs d h =
      let (x, is) = has (slot_at p cs) h in
      let r = rest-brought p cs x d is in
      ap (slot_at q) (ap (written p w) (brought-first p cs x is) ∙ written-first p w x (rest (brought p cs)))
      ∙ elim (nat_eq p q) as (λ b. nat_eq p q ≡ b → (elim b [ true ↦ Some w | false ↦ slot_at q (rest (brought p cs)) ]) ≡ (elim b [ true ↦ Some w | false ↦ slot_at q cs ])) [ true ↦ λ t. refl | false ↦ λ t. r.2 q t ] refl

  pub lent_here : (p : ℕ) (w : P) (cs : List (ℕ × P)) → is_some (slot_at p cs) ≡ true → slot_at p (written p w (brought p cs)) ≡ Some w
  lent_here p w cs h =
      let (x, is) = has (slot_at p cs) h in
      ap (slot_at p) (ap (written p w) (brought-first p cs x is) ∙ written-first p w x (rest (brought p cs))) ∙ slot_here p w (rest (brought p cs))

  -- what a pen says of its slots stays
  pub lent-distinct : (p : ℕ) (w : P) (cs : List (ℕ × P)) → are_distinct cs ≡ true → are_distinct (written p w (brought p cs)) ≡ true
  lent-distinct p w cs d = written-distinct p w (brought p cs) ∙ brought-distinct p cs d

  pub lent-paired : (p : ℕ) (w : P) (hs : List (Held P)) (cs : List (ℕ × P)) → are_distinct cs ≡ true → ArePaired hs cs → ArePaired hs (written p w (brought p cs))
  lent-paired p w hs cs d pair q = written-there p q w (brought p cs) ∙ ap is_some (brought-keeps p q cs d) ∙ pair q
