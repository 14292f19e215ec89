use Rattle.std.proofs.Common.{◌≡◌, ℕ, zero, suc, ◌+◌, ◌<◌, [], ◌∷◌, refl, arith, lit<}
use Rattle.std.specs.Prelude.{◌==◌, All, count_by, slice_index}
use Rattle.std.specs.Fmt.{digits}
use Rattle.scr_table.specs.declared.name.TableName.TheVariants.{Corners}
use Rattle.scr_table.specs.Row.{row_line}
use Rattle.scr_table_text.specs.Counted.{AreEntryCounts}
use Rattle.scr_laws.proofs.table_text.known_texts.Goals as goal

pub returns-clause-of_222 : goal.returns-clause-of_222
unfolding digits
returns-clause-of_222 c = refl

-- each of three distances has one position
one_each : (d : ℕ) → d < 3 → slice_index (1 ∷ 1 ∷ 1 ∷ []) d ≡ count_by (λ distance. distance == d) (0 ∷ 1 ∷ 2 ∷ [])
one_each zero lt = refl
one_each (suc zero) lt = refl
one_each (suc (suc zero)) lt = refl
one_each (suc (suc (suc d))) lt = absurd (omega arith)

all_below : All (λ distance. distance < 3) (0 ∷ 1 ∷ 2 ∷ [])
all_below zero d lt = lit< tt
all_below (suc zero) d lt = lit< tt
all_below (suc (suc zero)) d lt = lit< tt
all_below (suc (suc (suc k))) d lt = absurd (omega arith)

some_at_last : (d : ℕ) → 3 ≡ d + 1 → 0 < slice_index (1 ∷ 1 ∷ 1 ∷ []) d
some_at_last zero last = absurd (omega arith)
some_at_last (suc zero) last = absurd (omega arith)
some_at_last (suc (suc zero)) last = lit< tt
some_at_last (suc (suc (suc d))) last = absurd (omega arith)

counts_of_a_row : AreEntryCounts (0 ∷ 1 ∷ 2 ∷ []) (1 ∷ 1 ∷ 1 ∷ [])
counts_of_a_row = record { counted = one_each; each = all_below; greatest = some_at_last }

pub returns-clause-of_a_row : goal.returns-clause-of_a_row
unfolding digits
returns-clause-of_a_row c =
    c.measured.ensures (row_line 3 Corners 2) (record { name = Corners; bound = 2; distances = 0 ∷ 1 ∷ 2 ∷ [] }) (1 ∷ 1 ∷ 1 ∷ [])
    c.rows.ensures.measures refl refl counts_of_a_row
