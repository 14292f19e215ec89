-- Which texts are the pages of groups.
use Rattle.std.specs.Prelude.{ℕ, ◌≡◌, Bool, true, false, if◌then◌else◌, List, [], ◌∷◌, ◌++◌, flat_map}
use Rattle.scr_text.specs.Lines.{has_bytes}
use Rattle.scr_markup.specs.Tokens.{Adds}
use Rattle.scr_html.specs.Pages.{page_marks, doctype, document_end, document_mark}
use Rattle.scr_layout.specs.Group.{Group}
use Rattle.scr_text_pages.specs.Reading.{slots_of_text, AreNamed}
use Rattle.scr_text_pages.specs.Slots.{slots_of_group}

-- A document of HTML up to its end: behind its doctype some tokens, which tell its title, and then just the marks of these
-- groups, below a competition's name.
abbrev pub AreHtmlPages : Bool → List ℕ → List Group → List ℕ → Type 0
AreHtmlPages pictures name groups text =
    Adds doctype text (document_mark name ∷ flat_map (page_marks pictures name) groups)

-- Pages of text that begin with a competition's name, where it isn't empty, and of which just the scrambles of these groups
-- are read, with their nets where these are asked for.
pub record AreTextPages (pictures : Bool) (name : List ℕ) (groups : List Group) (text : List ℕ) : Type 0 where
  pub named : AreNamed name text
  pub slots : slots_of_text (has_bytes name) text ≡ flat_map (slots_of_group pictures) groups
  pub none : groups ≡ [] → text ≡ []

-- Pages of the form that is asked for: HTML, or text; with pictures or without; below a competition's name, which may be
-- empty.
pub record Look : Type 0 where
  pub html : Bool
  pub pictures : Bool
  pub name : List ℕ

abbrev pub AreBegunAs : Bool → Look → List Group → List ℕ → Type 0
AreBegunAs true look groups text = AreHtmlPages look.pictures look.name groups text
AreBegunAs false look groups text = AreTextPages look.pictures look.name groups text

-- the pages of these groups, up to what stands behind the last page of all
abbrev pub AreBegun : Look → List Group → List ℕ → Type 0
AreBegun look groups text = AreBegunAs look.html look groups text

-- and with it
abbrev pub pages_end : Look → List ℕ
pages_end look = if look.html then document_end else []

abbrev pub ArePages : Look → List Group → List ℕ → Type 0
ArePages look groups text = (begun : List ℕ) × AreBegun look groups begun × (text ≡ begun ++ pages_end look)
