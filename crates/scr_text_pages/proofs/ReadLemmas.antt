-- What is read of lines one after another.
use Rattle.std.proofs.Common.{◌≡◌, ℕ, Bool, true, false, if◌then◌else◌, List, [], ◌∷◌, ◌++◌, refl, sym, ap, ◌∙◌, append_assoc}
use Rattle.scr_text_pages.specs.Reading.{ReadSlot, ReadLines, is_cut_line, cut_text, row_words, read_lines}
use Rattle.scr_text_pages.specs.Adding.{words_read, slots_read}

-- with a line that is one to cut at, or isn't
abbrev with_by : Bool → List ℕ → ReadLines → ReadLines
with_by cut line more =
    if cut
    then record { before = []; slots = record { of = cut_text line; words = more.before } ∷ more.slots }
    else record { before = row_words line ++ more.before; slots = more.slots }

abbrev read_as : List (List ℕ) → List ReadSlot → ReadLines
read_as before slots = record { before = before; slots = slots }

rows-line : (cut : Bool) (line : List ℕ) (a b ab : ReadLines) → (with_by cut line a).slots ≡ []
    → (a.slots ≡ [] → ab ≡ read_as (a.before ++ b.before) b.slots)
    → with_by cut line ab ≡ read_as ((with_by cut line a).before ++ b.before) b.slots
rows-line true line a b ab none more = cc
rows-line false line a b ab none more =
    ap (λ (r : ReadLines). read_as (row_words line ++ r.before) r.slots) (more none)
    ∙ ap (λ words. read_as words b.slots) (sym (append_assoc (row_words line) a.before b.before))

-- behind lines without one to cut at, what is read of others goes on with their words
pub read-rows : (a b : List (List ℕ)) → (read_lines a).slots ≡ []
    → read_lines (a ++ b) ≡ record { before = (read_lines a).before ++ (read_lines b).before; slots = (read_lines b).slots }
read-rows [] b none = refl
read-rows (line ∷ a) b none =
    rows-line (is_cut_line line) line (read_lines a) (read_lines b) (read_lines (a ++ b)) none (read-rows a b)

slots-line : (cut : Bool) (line : List ℕ) (a ab : ReadLines) (slots : List ReadSlot) → ab ≡ read_as a.before (a.slots ++ slots)
    → with_by cut line ab ≡ read_as (with_by cut line a).before ((with_by cut line a).slots ++ slots)
slots-line true line a ab slots is = ap (with_by true line) is
slots-line false line a ab slots is = ap (with_by false line) is

-- lines that begin with one to cut at have scrambles of their own
pub read-slots : (a b : List (List ℕ)) → (read_lines b).before ≡ []
    → read_lines (a ++ b) ≡ record { before = (read_lines a).before; slots = (read_lines a).slots ++ (read_lines b).slots }
read-slots [] b none = ap (λ words. read_as words (read_lines b).slots) none
read-slots (line ∷ a) b none =
    slots-line (is_cut_line line) line (read_lines a) (read_lines (a ++ b)) (read_lines b).slots (read-slots a b none)

-- below a line to cut at stand the words up to the next
pub read-cut : (line : List ℕ) (lines words : List (List ℕ)) → is_cut_line line ≡ true → read_lines lines ≡ words_read words
    → read_lines (line ∷ lines) ≡ slots_read (record { of = cut_text line; words = words } ∷ [])
read-cut line lines words cut reads = ap (λ c. with_by c line (read_lines lines)) cut ∙ ap (with_by true line) reads

-- a line that isn't one to cut at
pub read-row : (line : List ℕ) (more : List (List ℕ)) → is_cut_line line ≡ false
    → read_lines (line ∷ more) ≡ record { before = row_words line ++ (read_lines more).before; slots = (read_lines more).slots }
read-row line more not = ap (λ c. with_by c line (read_lines more)) not
