-- What a table made of rows answers.
use Rattle.std.proofs.Common.{◌≡◌, ◌≢◌, ℕ, ◌+◌, ◌-◌, ◌<◌, ◌≤◌, zero, suc, Bool, true, false, ◌&&◌, ◌||◌, nat_lt, if◌then◌else◌, cond, inl, inr, List, [], ◌∷◌, Some, None, true≢false, refl, sym, ap, ◌∙◌, arith}
use Rattle.std.proofs.lemmas.Bool.Decides.{nat_tests, eqb_tells, leb_tells}
use Rattle.std.specs.Cmp.{nat_cmp_total, unsigned_tied, unsigned_Decides}
use Rattle.std.specs.FinMap as map
use Rattle.std.specs.FinMap.{get-empty, get-insert, contains_key-keys}
use Rattle.std.specs.List.{Contains, list_any, find}
use Rattle.std.specs.Option.{is_some, unwrap_or}
use Rattle.std.specs.Ordering.{eq_by_cmp, nat_cmp}
use Rattle.std.specs.declared.option.Option.{Option}
use Rattle.irq_base.specs.declared.call.Row.{Row}
use Rattle.irq_base.specs.declared.message.Targets.{Targets}
use Rattle.route_table.specs.Words.{no_targets}
use Rattle.route_table.specs.Rows.{Table, gsi_in, is_same, has_target, targets_by, table_below, table_of, targets_of, first_given}
use Rattle.route_table.proofs.RowLaws.{first_given-row}
use Rattle.route_table.specs.Pins.{gsi_told, owner}
use Rattle.route_table.proofs.Sound.{Sound, Gives, Owns, owner-row}
use Rattle.route_table.specs.Standing.{route_at, Stands}
use Rattle.route_table.specs.Tables.{table_in}

-- ---- where a table sends a GSI

abbrev where_target : Bool → Targets → Option Targets
where_target b t = if b then Some t else None

get-table_below : (k : ℕ) (f : ℕ → Targets) (q : ℕ) → map.get (table_below k f) q ≡ where_target (nat_lt q k && has_target (f q)) (f q)
unfolding table_below
get-table_below zero f q = get-empty nat_cmp q ∙ ap (λ b. where_target b (f q)) (none (has_target (f q)))
  where
    none : (b : Bool) → false ≡ (nat_lt q 0 && b)
    none b = grind (arith, nat_tests)
get-table_below (suc k) f q =
    elim (has_target (f k)) as (λ b. has_target (f k) ≡ b → map.get (if b then map.insert (table_below k f) k (f k) else table_below k f) q ≡ where_target (nat_lt q (suc k) && has_target (f q)) (f q)) [
      | true ↦ λ on.
          get-insert nat_cmp_total (table_below k f) k (f k) q
          ∙ ap (λ b. cond b (Some (f k)) (map.get (table_below k f) q)) (unsigned_tied q k)
          ∙ elim (eqb_tells q k) [
            | inl h ↦
                ap (λ b. cond b (Some (f k)) (map.get (table_below k f) q)) h.0
                ∙ ap (λ b. where_target b (f k)) (sym (ap (λ b. nat_lt k (suc k) && b) on ∙ now k))
                ∙ ap (λ n. where_target (nat_lt n (suc k) && has_target (f n)) (f n)) (sym h.1)
            | inr h ↦
                ap (λ b. cond b (Some (f k)) (map.get (table_below k f) q)) h.0
                ∙ get-table_below k f q
                ∙ ap (λ b. where_target b (f q)) (later q k (has_target (f q)) h.1)
          ]
      | false ↦ λ off.
          get-table_below k f q
          ∙ ap (λ b. where_target b (f q)) (elim (eqb_tells q k) [
            | inl h ↦ none_here q k (has_target (f q)) (ap (λ n. has_target (f n)) h.1 ∙ off)
            | inr h ↦ later q k (has_target (f q)) h.1
          ])
    ] refl
  where
    now : (k : ℕ) → (nat_lt k (suc k) && true) ≡ true
    now k = grind (arith, nat_tests)

    later : (q k : ℕ) (b : Bool) → q ≢ k → (nat_lt q k && b) ≡ (nat_lt q (suc k) && b)
    later q k b ne = grind (arith, nat_tests)

    none_here : (q k : ℕ) (b : Bool) → b ≡ false → (nat_lt q k && b) ≡ (nat_lt q (suc k) && b)
    none_here q k b e = grind (arith, nat_tests)

nowhere : (t : Targets) → has_target t ≡ false → no_targets ≡ t
nowhere t none = λ i. record { pic = none_of t.pic (first (is_some t.pic) (is_some t.ioapic) (is_some t.msi) none) i; ioapic = none_of t.ioapic (second (is_some t.pic) (is_some t.ioapic) (is_some t.msi) none) i; msi = none_of t.msi (third (is_some t.pic) (is_some t.ioapic) (is_some t.msi) none) i }
  where
    none_of : {A : Type 0} (a : Option A) → is_some a ≡ false → None ≡ a
    none_of None e = refl
    none_of (Some x) e = absurd (true≢false e)

    first : (a b c : Bool) → (a || (b || c)) ≡ false → a ≡ false
    first a b c e = grind arith

    second : (a b c : Bool) → (a || (b || c)) ≡ false → b ≡ false
    second a b c e = grind arith

    third : (a b c : Bool) → (a || (b || c)) ≡ false → c ≡ false
    third a b c e = grind arith

pub targets_of-table_below : (f : ℕ → Targets) (gsi : ℕ) → gsi < 4096 → targets_of (table_below 4096 f) gsi ≡ f gsi
unfolding targets_of
targets_of-table_below f gsi below =
    ap (λ o. unwrap_or o no_targets) (get-table_below 4096 f gsi)
    ∙ elim (has_target (f gsi)) as (λ b. has_target (f gsi) ≡ b → unwrap_or (where_target (nat_lt gsi 4096 && b) (f gsi)) no_targets ≡ f gsi) [
      | true ↦ λ _. ap (λ b. unwrap_or (where_target b (f gsi)) no_targets) (within gsi true below)
      | false ↦ λ off. ap (λ b. unwrap_or (where_target b (f gsi)) no_targets) (within gsi false below) ∙ nowhere (f gsi) off
    ] refl
  where
    within : (g : ℕ) (b : Bool) → g < 4096 → (nat_lt g 4096 && b) ≡ b
    within g b below = grind (arith, nat_tests)

targets_of-past : (f : ℕ → Targets) (gsi : ℕ) → 4096 ≤ gsi → targets_of (table_below 4096 f) gsi ≡ no_targets
unfolding targets_of
targets_of-past f gsi past = ap (λ o. unwrap_or o no_targets) (get-table_below 4096 f gsi) ∙ ap (λ b. unwrap_or (where_target b (f gsi)) no_targets) (without gsi (has_target (f gsi)) past)
  where
    without : (g : ℕ) (b : Bool) → 4096 ≤ g → (nat_lt g 4096 && b) ≡ false
    without g b past = grind (arith, nat_tests)

-- words that stand for rows stand for the table of the rows
pub table_in-rows : (words pics ioapics : List ℕ) (rows : List Row) → Stands words pics ioapics rows → table_in words ≡ table_of rows
unfolding table_in table_of
table_in-rows words pics ioapics rows s = λ i. table_below 4096 (λ gsi. s.routes gsi i)

pub targets_of-words : (words : List ℕ) (gsi : ℕ) → gsi < 4096 → targets_of (table_in words) gsi ≡ route_at words gsi
unfolding table_in
targets_of-words words gsi below = targets_of-table_below (route_at words) gsi below

pub targets_past-words : (words : List ℕ) (gsi : ℕ) → 4096 ≤ gsi → targets_of (table_in words) gsi ≡ no_targets
unfolding table_in
targets_past-words words gsi past = targets_of-past (route_at words) gsi past

pub targets_of-rows : (rows : List Row) (gsi : ℕ) → gsi < 4096 → targets_of (table_of rows) gsi ≡ targets_by rows gsi
unfolding table_of
targets_of-rows rows gsi below = targets_of-table_below (targets_by rows) gsi below

targets_past-rows : (rows : List Row) (gsi : ℕ) → 4096 ≤ gsi → targets_of (table_of rows) gsi ≡ no_targets
unfolding table_of
targets_past-rows rows gsi past = targets_of-past (targets_by rows) gsi past

-- ---- what a table of rows gives, a row gives

module _ {A : Type 0} (pick : Targets → Option A) (f : Row → Option A) (picks : (rows : List Row) (gsi : ℕ) → pick (targets_by rows gsi) ≡ first_given f gsi rows) (none : pick no_targets ≡ None) where
  pub given_by_rows : (rows : List Row) (gsi : ℕ) (a : A) → pick (targets_of (table_of rows) gsi) ≡ Some a → (row : Row) × Contains rows row × (gsi_in row ≡ gsi) × (f row ≡ Some a)
  given_by_rows rows gsi a e =
      elim (leb_tells 4096 gsi) [
        | inl h ↦ absurd (some_is_none a (sym none ∙ ap pick (sym (targets_past-rows rows gsi h.1)) ∙ e))
        | inr h ↦ first_given-row f gsi rows a (sym (picks rows gsi) ∙ ap pick (sym (targets_of-rows rows gsi h.1)) ∙ e)
      ]
    where
      some_is_none : (a : A) → None ≡ Some a → ⊥
      some_is_none a e = cc

  pub given_in_table : (rows : List Row) → Sound rows → Gives f rows → (row : Row) (a : A) → Contains rows row → f row ≡ Some a → pick (targets_of (table_of rows) (gsi_in row)) ≡ Some a
  given_in_table rows s gives row a inside named = ap pick (targets_of-rows rows (gsi_in row) (s.low row inside)) ∙ picks rows (gsi_in row) ∙ gives row a inside named

-- ---- the GSI of a pin

find_none : (p : ℕ → Bool) (xs : List ℕ) → ((x : ℕ) → p x ≡ false) → find p xs ≡ None
find_none p [] none = refl
find_none p (x ∷ xs) none = ap (λ b. cond b (Some x) (find p xs)) (none x) ∙ find_none p xs none

find_only : (p : ℕ → Bool) (g : ℕ) → p g ≡ true → ((x : ℕ) → p x ≡ true → x ≡ g) → (xs : List ℕ) → list_any (eq_by_cmp nat_cmp g) xs ≡ true → find p xs ≡ Some g
find_only p g on only [] one = absurd (true≢false (sym one))
find_only p g on only (x ∷ xs) one =
    elim (p x) as (λ b. p x ≡ b → cond b (Some x) (find p xs) ≡ Some g) [
      | true ↦ λ e. ap Some (only x e)
      | false ↦ λ e. find_only p g on only xs (rest (eq_by_cmp nat_cmp g x) (list_any (eq_by_cmp nat_cmp g) xs) (other e) one)
    ] refl
  where
    rest : (a b : Bool) → a ≡ false → (a || b) ≡ true → b ≡ true
    rest a b off one = grind arith

    other : p x ≡ false → eq_by_cmp nat_cmp g x ≡ false
    other off = elim (eqb_tells g x) [
      | inl h ↦ absurd (true≢false (sym on ∙ ap p h.1 ∙ off))
      | inr h ↦ unsigned_tied g x ∙ h.0
    ]

same_is : (o : Option ℕ) (n : ℕ) → is_same o (Some n) ≡ true → o ≡ Some n
same_is None n e = absurd (true≢false (sym e))
same_is (Some k) n e = ap Some ((unsigned_Decides k n).0 e)

pub is_same-some : (n : ℕ) → is_same (Some n) (Some n) ≡ true
is_same-some n = (unsigned_Decides n n).1 refl

key_of : (table : Table) (gsi : ℕ) → has_target (targets_of table gsi) ≡ true → is_some (map.get table gsi) ≡ true
unfolding targets_of
key_of table gsi e =
    elim (map.get table gsi) as (λ (o : Option Targets). has_target (unwrap_or o no_targets) ≡ true → is_some o ≡ true) [
      | None ↦ λ none. none
      | Some t ↦ λ _. refl
    ] e

module _ (pick : Targets → Option ℕ) (f : Row → Option ℕ) (picks : (rows : List Row) (gsi : ℕ) → pick (targets_by rows gsi) ≡ first_given f gsi rows) (none : pick no_targets ≡ None) (some : (t : Targets) (n : ℕ) → pick t ≡ Some n → has_target t ≡ true) where
  pub one_owner : (rows : List Row) → Owns f rows → (n gsi : ℕ) → is_same (pick (targets_of (table_of rows) gsi)) (Some n) ≡ true → owner f n rows ≡ gsi + 1
  one_owner rows owns n gsi has =
      let found = given_by_rows pick f picks none rows gsi n (same_is (pick (targets_of (table_of rows) gsi)) n has) in
      owns found.0 n found.1 found.3 ∙ ap (λ g. g + 1) found.2

  pub gsi_found : (rows : List Row) → Sound rows → Gives f rows → Owns f rows → (n : ℕ) → find (λ gsi. is_same (pick (targets_of (table_of rows) gsi)) (Some n)) (map.keys (table_of rows)) ≡ gsi_told (owner f n rows)
  gsi_found rows s gives owns n =
      elim (eqb_tells (owner f n rows) 0) [
        | inl h ↦
            find_none _ (map.keys (table_of rows)) (λ gsi. elim (is_same (pick (targets_of (table_of rows) gsi)) (Some n)) as (λ b. is_same (pick (targets_of (table_of rows) gsi)) (Some n) ≡ b → b ≡ false) [
              | true ↦ λ e. absurd (not_zero gsi (sym (one_owner rows owns n gsi e) ∙ h.1))
              | false ↦ λ _. refl
            ] refl)
            ∙ ap (λ b. if b then None else Some (owner f n rows - 1)) (sym h.0)
        | inr h ↦
            let found = owner-row f n rows (owner f n rows) refl h.1 in
            let has : pick (targets_of (table_of rows) (gsi_in found.0)) ≡ Some n = given_in_table pick f picks none rows s gives found.0 n found.1 (same_is (f found.0) n found.3) in
            find_only _ (gsi_in found.0) (ap (λ o. is_same o (Some n)) has ∙ is_same-some n)
            (λ gsi e. plus_one gsi (gsi_in found.0) (sym (one_owner rows owns n gsi e) ∙ sym found.2))
            (map.keys (table_of rows))
            (sym (contains_key-keys (table_of rows) (gsi_in found.0)) ∙ key_of (table_of rows) (gsi_in found.0) (some (targets_of (table_of rows) (gsi_in found.0)) n has))
            ∙ ap Some (minus_one (gsi_in found.0) (owner f n rows) found.2)
            ∙ ap (λ b. if b then None else Some (owner f n rows - 1)) (sym h.0)
      ]
    where
      not_zero : (g : ℕ) → g + 1 ≡ 0 → ⊥
      not_zero g e = omega arith

      plus_one : (g h : ℕ) → g + 1 ≡ h + 1 → g ≡ h
      plus_one g h e = omega arith

      minus_one : (g v : ℕ) → g + 1 ≡ v → g ≡ v - 1
      minus_one g v e = omega arith
