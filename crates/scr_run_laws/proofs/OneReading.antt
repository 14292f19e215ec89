-- A text tells how the scrambles are spelled that stand in it in order.
use Rattle.std.proofs.Common.{◌≡◌, ℕ, ◌==◌, Bool, true, false, List, ◌∷◌, ◌++◌, map, refl, sym, subst, ◌∙◌, append_assoc}
use Rattle.std.proofs.lemmas.List.Folds.{list_any-append}
use Rattle.std.specs.Prelude.{codes}
use Rattle.std.specs.List.{list_any}
use Rattle.scr_notation.specs.declared.turn.Turn.{Turn}
use Rattle.scr_notation.specs.Spelling.{text_of}
use Rattle.scr_round.proofs.CleanLaws.{apart, either, text-clean}
use Rattle.scr_sheet.specs.Headline.{HasNoDot, StandInOrder, no_more, next}

first_dot : (before t below : List ℕ) → HasNoDot (before ++ codes ". " ++ t ++ 10 ∷ below) → ⊥
first_dot before t below bare =
    let d : ℕ → Bool = λ byte. byte == 46 in
    let start = (either (list_any d (before ++ codes ". " ++ t)) (list_any d (10 ∷ below)) (sym (list_any-append d (before ++ codes ". " ++ t) (10 ∷ below)) ∙ bare)).0 in
    let label = (either (list_any d (before ++ codes ". ")) (list_any d t) (sym (list_any-append d (before ++ codes ". ") t) ∙ start)).0 in
    let dot : true ≡ false = (either (list_any d before) true (sym (list_any-append d before (codes ". ")) ∙ label)).1 in
    cc

-- what stands before and behind a dot
by_dot : (before t below : List ℕ) → before ++ codes ". " ++ t ++ 10 ∷ below ≡ before ++ 46 ∷ (32 ∷ (t ++ 10 ∷ below))
by_dot before t below = append_assoc (before ++ codes ". ") t (10 ∷ below) ∙ append_assoc before (codes ". ") (t ++ 10 ∷ below)

-- two readings of one text
spelled_alike : (some : List (List Turn)) (text : List ℕ) (other : List (List Turn)) (again : List ℕ)
    → StandInOrder some text → StandInOrder other again → text ≡ again → map text_of some ≡ map text_of other
spelled_alike _ _ _ _ (no_more text bare) (no_more again plain) same = refl
spelled_alike _ _ _ _ (no_more text bare) (next before turns others below bare' rest) same =
    absurd (first_dot before (text_of turns) below (subst HasNoDot same bare))
spelled_alike _ _ _ _ (next before turns others below bare rest) (no_more text bare') same =
    absurd (first_dot before (text_of turns) below (subst HasNoDot (sym same) bare'))
spelled_alike _ _ _ _ (next before turns others below bare rest) (next before' turns' others' below' bare' rest') same =
    let t = text_of turns in
    let t' = text_of turns' in
    let whole : before ++ 46 ∷ (32 ∷ (t ++ 10 ∷ below)) ≡ before' ++ 46 ∷ (32 ∷ (t' ++ 10 ∷ below')) =
    sym (by_dot before t below) ∙ same ∙ by_dot before' t' below' in
    let behind = (apart 46 before (32 ∷ (t ++ 10 ∷ below)) before' (32 ∷ (t' ++ 10 ∷ below')) refl bare bare' whole).1 in
    let lines : t ++ 10 ∷ below ≡ t' ++ 10 ∷ below' = cc in
    let line = apart 10 t below t' below' refl (text-clean turns) (text-clean turns') lines in
    let here = line.0 in
    let more = spelled_alike others below others' below' rest rest' line.1 in
    cc

pub one-reading : (text : List ℕ) (some other : List (List Turn)) → StandInOrder some text → StandInOrder other text
    → map text_of some ≡ map text_of other
one-reading text some other first second = spelled_alike some text other text first second refl
