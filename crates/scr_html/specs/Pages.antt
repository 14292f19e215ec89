-- What the pages of a group promise, by their elements of some class; whatever else they have is for the eye.
use Rattle.std.specs.Prelude.{ℕ, ◌+◌, Bool, true, false, if◌then◌else◌, List, [], ◌∷◌, ◌++◌, map, flat_map, zip, codes, option_map, option_to_list}
use Rattle.std.specs.Fmt.{decimal}
use Rattle.scr_notation.specs.declared.event.Event.{Event}
use Rattle.scr_notation.specs.declared.event.Puzzle.{Puzzle}
use Rattle.scr_notation.specs.declared.event.Puzzle.TheVariants as puzzle
use Rattle.scr_notation.specs.declared.turn.Turn.{Turn}
use Rattle.scr_notation.specs.Event.{puzzle_of}
use Rattle.scr_notation.specs.Spelling.{spelling}
use Rattle.scr_notation.specs.Written.{Written}
use Rattle.scr_text.specs.Lines.{has_bytes}
use Rattle.scr_picture.specs.Pictures.{picture_of}
use Rattle.scr_drawing.specs.Told.{picture_mark}
use Rattle.scr_drawing.specs.Legend.{legend_of}
use Rattle.scr_layout.specs.Group.{Group}
use Rattle.scr_layout.specs.Texts.{title_of, round_line_of, labels_of}
use Rattle.scr_markup.specs.Tokens.{Close, Mark, text_of_tokens}

-- an element of a class that tells its text alone
abbrev pub told : List ℕ → List ℕ → Mark
told class text = record { class = class; values = []; text = text }

-- the same, where there is a text
abbrev pub told_if_any : List ℕ → List ℕ → List Mark
told_if_any class text = if has_bytes text then told class text ∷ [] else []

-- ---- a scramble

-- its words, each as `print` writes its turn
abbrev pub word_marks : List Turn → List Mark
word_marks turns = map (λ turn. told (codes "word") (spelling turn)) turns

-- the picture of what it makes of a solved puzzle, where pictures are asked for; a barred turn of a Square-1 makes none
abbrev pub picture_marks : Bool → Written → List Mark
picture_marks pictures scramble =
    if pictures
    then option_to_list (option_map (picture_mark scramble.event) (picture_of scramble.event scramble.turns))
    else []

-- a scramble with its label: an element `scramble`, the label, the words in their order, the picture
abbrev pub slot_marks : Bool → List ℕ × Written → List Mark
slot_marks pictures slot =
    told (codes "scramble") [] ∷ told (codes "label") slot.0 ∷ word_marks slot.1.turns ++ picture_marks pictures slot.1

-- ---- a group

-- what a page begins with: an element `page` with the number of the round in the sheet and the letter of the group, the
-- competition's name, where it isn't empty, the title, the line of the round, and with pictures what their marks mean
abbrev pub page_mark_of : List ℕ → List ℕ → Mark
page_mark_of round letter = record { class = codes "page"; values = round ∷ letter ∷ []; text = [] }

abbrev pub page_mark : Group → Mark
page_mark group = page_mark_of (decimal group.sheet_round) ((65 + group.number) ∷ [])

abbrev pub legend_marks : Bool → Event → List Mark
legend_marks pictures event = if pictures then told_if_any (codes "legend") (legend_of event) else []

abbrev pub head_marks : Bool → List ℕ → Group → List Mark
head_marks pictures name group =
    page_mark group ∷ told_if_any (codes "competition") name ++ told (codes "title") (title_of group)
    ∷ told (codes "round") (round_line_of group) ∷ legend_marks pictures group.event

-- its scrambles with their labels, in the order of the slots
abbrev pub labelled : Group → List (List ℕ × Written)
labelled group = zip (labels_of group.event) group.scrambles

-- scrambles of this puzzle have a page each, as competitors get it for an attempt: those of fewest moves
abbrev pub has_page_each_as : Puzzle → Bool
has_page_each_as puzzle.Cube222 = false
has_page_each_as puzzle.Cube333 = false
has_page_each_as puzzle.Held333 = false
has_page_each_as puzzle.Fewest333 = true
has_page_each_as puzzle.Cube555 = false
has_page_each_as puzzle.Cube666 = false
has_page_each_as puzzle.Cube777 = false
has_page_each_as puzzle.Clock = false
has_page_each_as puzzle.Megaminx = false
has_page_each_as puzzle.Pyraminx = false
has_page_each_as puzzle.Skewb = false
has_page_each_as puzzle.Square1 = false

-- and so have those of an event
abbrev pub has_page_each : Event → Bool
has_page_each event = has_page_each_as (puzzle_of event)

abbrev pub attempt_marks : Bool → List ℕ → Group → List ℕ × Written → List Mark
attempt_marks pictures name group slot = head_marks pictures name group ++ slot_marks pictures slot

-- One page with all scrambles of a group, or a page for each, below a competition's name; with pictures or without.
abbrev pub page_marks : Bool → List ℕ → Group → List Mark
page_marks pictures name group =
    if has_page_each group.event
    then flat_map (attempt_marks pictures name group) (labelled group)
    else head_marks pictures name group ++ flat_map (slot_marks pictures) (labelled group)

-- ---- a document

-- what a document begins with, before its tokens
abbrev pub doctype : List ℕ
doctype = codes "<!DOCTYPE html>\n"

-- its title: a competition's name, where it isn't empty
abbrev pub document_mark : List ℕ → Mark
document_mark name = told (codes "document") (if has_bytes name then name else codes "Scrambles")

-- what it ends with
abbrev pub document_end : List ℕ
document_end = text_of_tokens (Close (codes "body") ∷ Close (codes "html") ∷ [])
