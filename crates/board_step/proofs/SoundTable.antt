-- The table of rows that keep the rules is sound where each payload has 32 bits.
use Rattle.board_step.proofs.Basics.{◌≡◌, ℕ, zero, suc, true, false, nat_lt, inl, inr, List, [], ◌∷◌, ◌++◌, length, get_or, replicate, All, None, refl, sym, subst, ◌∙◌, arith, append_assoc, append-nil, length-set, length-replicate, All-nil, All-head, All-tail, All-push, All-append, IsTrue, Reason, first_of, Row, Full, refusal_of, table_of, targets_of, default_rows, IsSoundTable, leb_tells, get_or-replicate, get_or_past, PicRow as Pic, IoapicRow as Ioapic, is_route, gsi_in, pic_in, ioapic_in, msi_in, row_reasons, reasons_after, with_owner, fits_if, word_with, Stands, stands-snoc, no_reason, kept_of, table_in-rows, stands_none, sends_to_routes, pic_rows, ioapic_rows, default_rows-kept, PayloadFits}
use Rattle.std.proofs.Common.{set}

-- words and pins that stand for rows
record Made (rows : List Row) : Type 0 where
  words : List ℕ
  pics : List ℕ
  ioapics : List ℕ
  long : length words ≡ 4096
  sixteen : length pics ≡ 16
  twenty_four : length ioapics ≡ 24
  stands : Stands words pics ioapics rows

zeros_at : (n k : ℕ) → get_or {A = ℕ} (replicate n 0) k 0 ≡ 0
zeros_at n k =
    elim (leb_tells n k) [
      | inl h ↦ get_or_past {X = ℕ} (replicate n 0) k 0 (omega (arith, length-replicate {A = ℕ} n 0, h.1))
      | inr h ↦ get_or-replicate {A = ℕ} n k 0 0 h.1
    ]

made_none : (n m k : ℕ) → n ≡ 4096 → m ≡ 16 → k ≡ 24 → Made []
made_none n m k long sixteen twenty_four = record {
  words = replicate n 0;
  pics = replicate m 0;
  ioapics = replicate k 0;
  long = length-replicate {A = ℕ} n 0 ∙ long;
  sixteen = length-replicate {A = ℕ} m 0 ∙ sixteen;
  twenty_four = length-replicate {A = ℕ} k 0 ∙ twenty_four;
  stands = stands_none (replicate n 0) (replicate m 0) (replicate k 0) (zeros_at n) (zeros_at m) (zeros_at k);
}

pub both_none : (xs ys : List Reason) → first_of (xs ++ ys) ≡ None → (first_of xs ≡ None) × (first_of ys ≡ None)
both_none [] ys e = (refl, e)
both_none ((true, r) ∷ xs) ys e = cc
both_none ((false, r) ∷ xs) ys e = both_none xs ys e

fits : (row : Row) → PayloadFits row → fits_if (msi_in row) ≡ true
unfolding msi_in
fits row h1 = grind arith

made_after : (earlier rows : List Row) → Made earlier → first_of (reasons_after earlier rows) ≡ None → All PayloadFits rows → Made (earlier ++ rows)
unfolding reasons_after
made_after earlier [] m e typed = subst Made (sym (append-nil earlier)) m
made_after earlier (row ∷ rows) m e typed =
    let parts = both_none (row_reasons earlier row) (reasons_after (earlier ++ row ∷ []) rows) e in
    let next : Made (earlier ++ row ∷ []) = record {
      words = set m.words (gsi_in row) (word_with m.words row);
      pics = with_owner m.pics (pic_in row) (gsi_in row);
      ioapics = with_owner m.ioapics (ioapic_in row) (gsi_in row);
      long = length-set m.words (gsi_in row) _ ∙ m.long;
      sixteen = (grind (arith, length-set)) ∙ m.sixteen;
      twenty_four = (grind (arith, length-set)) ∙ m.twenty_four;
      stands = stands-snoc m.words m.pics m.ioapics earlier row m.stands (kept_of earlier row parts.0) (fits row (All-head PayloadFits row rows typed)) m.long m.sixteen m.twenty_four;
    } in
    subst Made (append_assoc earlier (row ∷ []) rows) (made_after (earlier ++ row ∷ []) rows next parts.1 (All-tail PayloadFits row rows typed))

routes_of : (rows : List Row) → Made rows → (gsi : ℕ) → IsTrue (is_route (targets_of (table_of rows) gsi))
routes_of rows m gsi = subst (λ t. IsTrue (is_route (targets_of t gsi))) (table_in-rows m.words m.pics m.ioapics rows m.stands) (sends_to_routes m.words gsi)

pub table_is_sound : (rows : List Row) → refusal_of rows ≡ None → All PayloadFits rows → IsSoundTable (table_of rows)
table_is_sound rows kept typed = record {
  made = (rows, kept, refl);
  routes = routes_of rows (made_after [] rows (made_none 4096 16 24 refl refl refl) (no_reason (nat_lt 4096 (length rows)) Full (reasons_after [] rows) kept).1 typed);
}

-- ---- at power-on

pics_fit : (n : ℕ) → All PayloadFits (pic_rows n)
unfolding pic_rows
pics_fit zero = All-nil PayloadFits
pics_fit (suc n) = All-push PayloadFits (pic_rows n) (Pic n n) (pics_fit n) tt

ioapics_fit : (n : ℕ) → All PayloadFits (ioapic_rows n)
unfolding ioapic_rows
ioapics_fit zero = All-nil PayloadFits
ioapics_fit (suc n) = All-push PayloadFits (ioapic_rows n) (Ioapic n n) (ioapics_fit n) tt

defaults_fit : All PayloadFits default_rows
unfolding default_rows
defaults_fit = All-append PayloadFits (pic_rows 16) (ioapic_rows 24) (pics_fit 16) (ioapics_fit 24)

pub opening_table : IsSoundTable (table_of default_rows)
opening_table = table_is_sound default_rows default_rows-kept defaults_fit
