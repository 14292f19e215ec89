-- The lines of a net, one after another.
use Rattle.std.proofs.Common.{◌≡◌, ℕ, ◌+◌, ◌*◌, ◌-◌, ◌<◌, ◌≤◌, List, [], ◌∷◌, ◌++◌, map, length, get_or, take, drop, refl, sym, ap, ◌∙◌, subst, arith}
use Rattle.std.specs.Prelude.{All, codes, flat_map, nat_lt, replicate}
use Rattle.std.specs.List.{slice_index_or}
use Rattle.std.proofs.Math.ListN.{get_or-append}
use Rattle.std.proofs.lemmas.Bool.{ltb-true}
use Rattle.std.proofs.lemmas.List.{append-nil, drop_all, drop_more, get_or-append_right, get_or-map, length-append, length-map, map-append, take_more}
use Rattle.std.proofs.lemmas.List.Concat.{flat_map-append}
use Rattle.std.proofs.lemmas.List.Elements.{All-nil, All-cons, All-append, All-replicate}
use Rattle.std.proofs.lemmas.List.FromFn.{get_or-map-range_with_len, length-map-range_with_len}
use Rattle.scr_text.specs.Lines.{text_of_lines}
use Rattle.scr_text.proofs.WrittenLines.{first_line}
use Rattle.scr_notation.specs.Ranges.{all_below}
use Rattle.scr_notation.proofs.Below.{at_below}
use Rattle.scr_net.specs.Nets.{Letters, IsNet, cell}
use Rattle.scr_net.specs.NetText.{letter_code, lines_beside, net_lines, net_text, row_text, rows_beside}

-- the next line of those that are left
pub next_line : (lines : List (List ℕ)) (place : ℕ) → place < length lines
    → text_of_lines (drop place lines) ≡ (get_or lines place [] ++ codes "\n") ++ text_of_lines (drop (place + 1) lines)
next_line lines place lt =
    ap text_of_lines (drop_more lines place [] lt) ∙ first_line (get_or lines place []) (drop (place + 1) lines)

-- none is left
pub no_line : (lines : List (List ℕ)) (place : ℕ) → length lines ≤ place → text_of_lines (drop place lines) ≡ []
no_line lines place le = ap text_of_lines (drop_all place lines le)

-- one more piece of each of a list
pub map_more : (f : ℕ → ℕ) (xs : List ℕ) (k : ℕ) → k < length xs
    → map f (take (k + 1) xs) ≡ map f (take k xs) ++ f (get_or xs k 0) ∷ []
map_more f xs k lt = ap (map f) (take_more xs k 0 lt) ∙ map-append f (take k xs) (get_or xs k 0 ∷ [])

pub flat_map_next : (f : ℕ → List ℕ) (xs : List ℕ) (k : ℕ) → k < length xs
    → flat_map f (take (k + 1) xs) ≡ flat_map f (take k xs) ++ f (get_or xs k 0)
flat_map_next f xs k lt =
    ap (flat_map f) (take_more xs k 0 lt) ∙ flat_map-append f (take k xs) (get_or xs k 0 ∷ []) ∙ ap (λ t. flat_map f (take k xs) ++ t) (append-nil (f (get_or xs k 0)))

-- ---- the lines of a net

-- a line of some faces
abbrev line_of : Letters → ℕ → ℕ → List ℕ → ℕ → List ℕ
line_of net indent first others row = replicate indent 32 ++ rows_beside net row first others

module _ (side : ℕ) (net : Letters) where
  abbrev upper : List (List ℕ)
  upper = lines_beside side net (side + 1) 0 []

  abbrev middle : List (List ℕ)
  middle = lines_beside side net 0 4 (2 ∷ 1 ∷ 5 ∷ [])

  abbrev lower : List (List ℕ)
  lower = lines_beside side net (side + 1) 3 []

  long : (indent first : ℕ) (others : List ℕ) → length (lines_beside side net indent first others) ≡ side
  long indent first others = length-map-range_with_len (line_of net indent first others) 0 side

  row-at : (indent first : ℕ) (others : List ℕ) (row : ℕ) → row < side
      → get_or (lines_beside side net indent first others) row [] ≡ line_of net indent first others row
  row-at indent first others row lt = get_or-map-range_with_len (line_of net indent first others) 0 side row row [] lt (omega arith)

  pub upper-at : (place : ℕ) → place < side → get_or (net_lines side net) place [] ≡ line_of net (side + 1) 0 [] place
  upper-at place lt =
      get_or-append upper (middle ++ lower) [] place (omega (arith, lt, long (side + 1) 0 [])) ∙ row-at (side + 1) 0 [] place lt

  behind : (place : ℕ) → side ≤ place → get_or (net_lines side net) place [] ≡ get_or (middle ++ lower) (place - side) []
  behind place le = get_or-append_right upper (middle ++ lower) side place [] (long (side + 1) 0 []) le

  pub middle-at : (place : ℕ) → side ≤ place → place < 2 * side
      → get_or (net_lines side net) place [] ≡ line_of net 0 4 (2 ∷ 1 ∷ 5 ∷ []) (place - side)
  middle-at place le lt =
      behind place le ∙ get_or-append middle lower [] (place - side) (omega (arith, le, lt, long 0 4 (2 ∷ 1 ∷ 5 ∷ [])))
      ∙ row-at 0 4 (2 ∷ 1 ∷ 5 ∷ []) (place - side) (omega (arith, le, lt))

  pub lower-at : (place : ℕ) → 2 * side ≤ place → place < 3 * side
      → get_or (net_lines side net) place [] ≡ line_of net (side + 1) 3 [] (place - 2 * side)
  lower-at place le lt =
      let same : (place - side) - side ≡ place - 2 * side = omega (arith, le) in
      behind place (omega (arith, le))
      ∙ get_or-append_right middle lower side (place - side) [] (long 0 4 (2 ∷ 1 ∷ 5 ∷ [])) (omega (arith, le))
      ∙ ap (λ k. get_or lower k []) same ∙ row-at (side + 1) 3 [] (place - 2 * side) (omega (arith, le, lt))

  pub lines-long : length (net_lines side net) ≡ 3 * side
  lines-long =
      length-append upper (middle ++ lower) ∙ ap (λ n. length upper + n) (length-append middle lower)
      ∙ omega (arith, long (side + 1) 0 [], long 0 4 (2 ∷ 1 ∷ 5 ∷ []), long (side + 1) 3 [])

  pub text-is : net_text side net ≡ text_of_lines (net_lines side net)
  unfolding net_text
  text-is = refl

-- ---- printable bytes

abbrev Printable : List ℕ → Type 0
Printable text = All (λ byte. 31 < byte) text

code-printable : (letter : ℕ) → letter < 6 → 31 < letter_code letter
unfolding all_below
code-printable letter lt = ltb-true 31 (letter_code letter) (at_below (λ l. nat_lt 31 (letter_code l)) 6 letter refl lt)

-- the letters of a row
row-printable : (net : Letters) (row face : ℕ) → ((column : ℕ) → cell net face row column < 6) → Printable (row_text net row face)
row-printable net row face below = λ k d lt.
    let letters = slice_index_or (slice_index_or net face []) row [] in
    let long : k < length letters = omega (arith, lt, length-map letters letter_code) in
    subst (λ byte. 31 < byte) (sym (get_or-map letter_code letters k 0 d long)) (code-printable (get_or letters k 0) (below k))

rows-printable : (net : Letters) (row : ℕ) (others : List ℕ) → ((face column : ℕ) → cell net face row column < 6)
    → Printable (flat_map (λ face. 32 ∷ row_text net row face) others)
rows-printable net row [] below = All-nil (λ byte. 31 < byte)
rows-printable net row (face ∷ others) below =
    All-append (λ byte. 31 < byte) (32 ∷ row_text net row face) (flat_map (λ face. 32 ∷ row_text net row face) others)
    (All-cons (λ byte. 31 < byte) 32 (row_text net row face) (omega arith) (row-printable net row face (below face)))
    (rows-printable net row others below)

pub line-printable : (side : ℕ) (net : Letters) (indent first : ℕ) (others : List ℕ) (row : ℕ) → IsNet side net
    → Printable (line_of net indent first others row)
line-printable side net indent first others row is =
    All-append (λ byte. 31 < byte) (replicate indent 32) (rows_beside net row first others)
    (All-replicate (λ byte. 31 < byte) indent 32 (omega arith))
    (All-append (λ byte. 31 < byte) (row_text net row first) (flat_map (λ face. 32 ∷ row_text net row face) others)
    (row-printable net row first (is.letters first row)) (rows-printable net row others (λ face. is.letters face row)))
