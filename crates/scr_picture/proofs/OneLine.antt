-- The text of a picture is one line.
use Rattle.std.proofs.Common.{◌≡◌, ℕ, zero, suc, true, List, [], ◌∷◌, ◌++◌, refl, ap, ◌∙◌}
use Rattle.std.specs.Prelude.{◌||◌, not, flat_map}
use Rattle.std.specs.List.{slice_index_or, list_any, list_all, range_with_len}
use Rattle.std.proofs.lemmas.Bool.{and_parts, not-true}
use Rattle.std.proofs.lemmas.List.Concat.{flat_map-cons}
use Rattle.std.proofs.lemmas.List.Folds.{list_any-append}
use Rattle.scr_text.specs.Lines.{is_line_feed}
use Rattle.scr_net.specs.Nets.{Letters, cell}
use Rattle.scr_picture.specs.declared.names.Alphabet.{Alphabet}
use Rattle.scr_picture.specs.declared.names.Alphabet.TheVariants.{Cube, Pyraminx, Megaminx, Hours, Units}
use Rattle.scr_picture.specs.Names.{IsLine, names_of, name_in, joined_text}
use Rattle.scr_picture.specs.Pictures.{row_letters, face_letters}

entry_line : (texts : List (List ℕ)) (k : ℕ) → list_all (λ text. not (list_any is_line_feed text)) texts ≡ true
    → IsLine (slice_index_or texts k [])
entry_line [] zero h = refl
entry_line [] (suc k) h = refl
entry_line (text ∷ texts) zero h =
    not-true (list_any is_line_feed text) (and_parts (not (list_any is_line_feed text)) (list_all (λ text. not (list_any is_line_feed text)) texts) h).0
entry_line (text ∷ texts) (suc k) h =
    entry_line texts k (and_parts (not (list_any is_line_feed text)) (list_all (λ text. not (list_any is_line_feed text)) texts) h).1

name_line : (alphabet : Alphabet) (letter : ℕ) → IsLine (name_in alphabet letter)
name_line Cube letter = entry_line (names_of Cube) letter refl
name_line Pyraminx letter = entry_line (names_of Pyraminx) letter refl
name_line Megaminx letter = entry_line (names_of Megaminx) letter refl
name_line Hours letter = entry_line (names_of Hours) letter refl
name_line Units letter = entry_line (names_of Units) letter refl

line_then : (xs ys : List ℕ) → IsLine xs → IsLine ys → IsLine (xs ++ ys)
line_then xs ys h k = list_any-append is_line_feed xs ys ∙ ap (λ b. b || list_any is_line_feed ys) h ∙ k

flat_map_line : (f : ℕ → List ℕ) (xs : List ℕ) → ((x : ℕ) → IsLine (f x)) → IsLine (flat_map f xs)
flat_map_line f [] h = refl
flat_map_line f (x ∷ xs) h =
    ap (list_any is_line_feed) (flat_map-cons f x xs) ∙ line_then (f x) (flat_map f xs) (h x) (flat_map_line f xs h)

pub joined_line : (alphabet : Alphabet) (letters : List ℕ) → IsLine (joined_text alphabet letters)
joined_line alphabet letters = flat_map_line (name_in alphabet) letters (name_line alphabet)

-- with spaces between names
pub spaced_line : (alphabet : Alphabet) (letter : ℕ) (letters : List ℕ)
    → IsLine (name_in alphabet letter ++ flat_map (λ other. 32 ∷ name_in alphabet other) letters)
spaced_line alphabet letter letters =
    line_then (name_in alphabet letter) _ (name_line alphabet letter)
    (flat_map_line (λ other. 32 ∷ name_in alphabet other) letters (name_line alphabet))

pub faces_line : (side : ℕ) (net : Letters) (faces : List ℕ) → IsLine (flat_map (face_letters side net) faces)
faces_line side net faces =
    flat_map_line (face_letters side net) faces
    (λ face. flat_map_line (row_letters side net face) (range_with_len 0 side)
    (λ row. flat_map_line (λ column. name_in Cube (cell net face row column)) (range_with_len 0 side)
    (λ column. name_line Cube (cell net face row column))))
