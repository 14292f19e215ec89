-- The lines of counts, one after another.
use Rattle.std.proofs.Common.{◌≡◌, ℕ, ◌+◌, ◌<◌, List, ◌∷◌, ◌++◌, length, drop, get_or, refl, ap, ◌∙◌, append_assoc, drop-cons, add-one}
use Rattle.std.specs.Prelude.{codes}
use Rattle.std.specs.Fmt.{decimal}
use Rattle.scr_text.specs.Lines.{text_of_lines}
use Rattle.scr_text.proofs.WrittenLines.{first_line}
use Rattle.scr_table_text.specs.TableText.{count_lines}

-- the line that stands next
pub count_lines-next : (counts : List ℕ) (d : ℕ) (label text : List ℕ) → d < length counts
    → label ≡ decimal d ++ codes " " → text ≡ decimal (get_or counts d 0)
    → text_of_lines (count_lines d (drop d counts)) ≡ ((label ++ text) ++ codes "\n") ++ text_of_lines (count_lines (d + 1) (drop (d + 1) counts))
count_lines-next counts d label text there is_label is_text =
    let line : label ++ text ≡ decimal d ++ 32 ∷ decimal (get_or counts d 0) =
    ap (λ l. l ++ text) is_label ∙ append_assoc (decimal d) (codes " ") text ∙ ap (λ t. decimal d ++ 32 ∷ t) is_text in
    let lines : count_lines d (drop d counts) ≡ (label ++ text) ∷ count_lines (d + 1) (drop (d + 1) counts) =
    rw (drop-cons counts d 0 there, line, add-one d) refl in
    ap text_of_lines lines ∙ first_line (label ++ text) (count_lines (d + 1) (drop (d + 1) counts))
