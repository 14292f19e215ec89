-- Rows place by place.
use Rattle.std.proofs.Common.{◌≡◌, ℕ, ◌+◌, ◌<◌, ◌≤◌, List, [], ◌∷◌, length, drop, get_or, ap, ◌∙◌, arith, nat_cmp}
use Rattle.std.specs.Ordering.{ord_max}
use Rattle.std.proofs.lemmas.Bool.Decides.{nat_tests}
use Rattle.std.proofs.lemmas.List.{at_drop_more, at_drop_all}
use Rattle.scr_layout.specs.declared.rows.Place.{Place}
use Rattle.scr_layout.specs.Rows.{greater, rows_of}

pub greater-is : (m n : ℕ) → ord_max nat_cmp m n ≡ greater m n
greater-is m n = grind (arith, nat_tests)

together : (m n o : ℕ) → greater (greater m n) o ≡ greater m (greater n o)
together m n o = grind (arith, nat_tests)

one-first : (m n : ℕ) → 1 ≤ m → 1 ≤ greater m n
one-first m n some = grind (arith, nat_tests)

of-one : (n : ℕ) → 1 ≤ n → greater 1 n ≡ n
of-one n some = grind (arith, nat_tests)

at-least-one : (n : ℕ) → 1 ≤ n → greater n 1 ≡ n
at-least-one n some = grind (arith, nat_tests)

some-row : (places : List Place) → 1 ≤ rows_of places
unfolding rows_of
some-row [] = omega arith
some-row (place ∷ rest) = one-first (place.row + 1) (rows_of rest) (omega arith)

pub rows-some : (places : List Place) → greater 1 (rows_of places) ≡ rows_of places
rows-some places = of-one (rows_of places) (some-row places)

pub rows-next : (places : List Place) (n rows row taken : ℕ) (other : Place) → n < length places → row ≡ (get_or places n other).row
    → taken ≡ ord_max nat_cmp rows (row + 1)
    → greater taken (rows_of (drop (n + 1) places)) ≡ greater rows (rows_of (drop n places))
unfolding rows_of
rows-next places n rows row taken other below row_is is =
    grind (arith, greater-is rows (row + 1), at_drop_more rows_of places n other below)

pub rows-end : (places : List Place) (n rows : ℕ) → length places ≤ n → 1 ≤ rows → greater rows (rows_of (drop n places)) ≡ rows
unfolding rows_of
rows-end places n rows all some = ap (greater rows) (at_drop_all rows_of places n all) ∙ at-least-one rows some

pub rows-within : (rows row taken : ℕ) → 1 ≤ rows → rows ≤ 256 → row < 256 → taken ≡ ord_max nat_cmp rows (row + 1)
    → (1 ≤ taken) × (taken ≤ 256)
rows-within rows row taken some few low is = grind arith
