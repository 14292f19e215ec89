-- Lines written one after another.
use Rattle.std.proofs.Common.{◌≡◌, ℕ, List, [], ◌∷◌, ◌++◌, refl, sym, ap, ◌∙◌, append_assoc}
use Rattle.std.specs.Prelude.{codes}
use Rattle.scr_text.specs.Lines.{text_of_lines}

-- a line, as it is written
abbrev pub line_of : List ℕ → List ℕ → List ℕ
line_of label text = (label ++ text) ++ codes "\n"

-- the first line of a text, and the others
pub first_line : (line : List ℕ) (lines : List (List ℕ))
    → text_of_lines (line ∷ lines) ≡ (line ++ codes "\n") ++ text_of_lines lines
first_line line lines = sym (append_assoc line (10 ∷ []) (text_of_lines lines))

-- lines in two parts
pub text_of_lines-append : (xs ys : List (List ℕ)) → text_of_lines (xs ++ ys) ≡ text_of_lines xs ++ text_of_lines ys
text_of_lines-append [] ys = refl
text_of_lines-append (x ∷ xs) ys =
    ap (λ t. x ++ 10 ∷ t) (text_of_lines-append xs ys) ∙ sym (append_assoc x (10 ∷ text_of_lines xs) (text_of_lines ys))
