-- Documents of HTML as lists of tokens, a line for each. A part of the standard's syntax that has one reading: our choice.
use Rattle.std.specs.Prelude.{ℕ, ◌≡◌, Bool, true, false, not, ◌&&◌, ◌||◌, ◌==◌, nat_eq, if◌then◌else◌, Option, None, option_map, List, [], ◌∷◌, ◌++◌, map, filter, filter_map, flat_map, find, bytes_eq, codes}
use Rattle.std.specs.Char.{is_ascii_alphanumeric}
use Rattle.std.specs.List.{list_all, list_any, starts_with}
use Rattle.scr_text.specs.Lines.{is_line_feed, text_of_lines}

-- ---- tokens

-- an attribute of an element, and its value as a reader gets it
pub record Attribute : Type 0 where
  pub key : List ℕ
  pub value : List ℕ

-- the begin of an element with its name and attributes; a whole element, which holds a text alone; the end of an element
pub data Token : Type 0 where
  Open : (name : List ℕ) (attributes : List Attribute) → Token
  Leaf : (name : List ℕ) (attributes : List Attribute) (text : List ℕ) → Token
  Close : (name : List ℕ) → Token

-- ---- which are written

-- letters, digits and hyphens
abbrev pub is_name_byte : ℕ → Bool
is_name_byte byte = is_ascii_alphanumeric byte || (byte == 45)

abbrev pub is_name : List ℕ → Bool
is_name [] = false
is_name (first ∷ rest) = is_name_byte first && list_all is_name_byte rest

-- a text in one line
abbrev pub HasNoLineFeed : List ℕ → Type 0
HasNoLineFeed text = list_any is_line_feed text ≡ false

pub record IsAttribute (attribute : Attribute) : Type 0 where
  pub key : is_name attribute.key ≡ true
  pub value : HasNoLineFeed attribute.value

abbrev pub AreAttributes : List Attribute → Type 0
AreAttributes [] = Unit {0}
AreAttributes (attribute ∷ attributes) = IsAttribute attribute × AreAttributes attributes

pub record IsHead (name : List ℕ) (attributes : List Attribute) : Type 0 where
  pub named : is_name name ≡ true
  pub valid : AreAttributes attributes

-- A token that can be written: names and keys are of letters, digits and hyphens, and have at least one; values and
-- texts have no line feed.
abbrev pub IsToken : Token → Type 0
IsToken (Open name attributes) = IsHead name attributes
IsToken (Leaf name attributes text) = IsHead name attributes × HasNoLineFeed text
IsToken (Close name) = is_name name ≡ true

abbrev pub AreTokens : List Token → Type 0
AreTokens [] = Unit {0}
AreTokens (token ∷ tokens) = IsToken token × AreTokens tokens

-- ---- as text

-- a byte that stands for itself in values and texts: none that the syntax needs
abbrev pub is_plain : ℕ → Bool
is_plain byte = not (byte == 38 || byte == 60 || byte == 62 || byte == 34)

-- a byte of a value or a text: those that the syntax needs have names
abbrev pub escaped_byte : ℕ → List ℕ
escaped_byte byte =
    if byte == 38 then codes "&amp;"
    else if byte == 60 then codes "&lt;"
    else if byte == 62 then codes "&gt;"
    else if byte == 34 then codes "&quot;"
    else byte ∷ []

abbrev pub escaped : List ℕ → List ℕ
escaped text = flat_map escaped_byte text

abbrev pub attribute_text : Attribute → List ℕ
attribute_text attribute = codes " " ++ attribute.key ++ codes "=\"" ++ escaped attribute.value ++ codes "\""

abbrev pub attributes_text : List Attribute → List ℕ
attributes_text attributes = flat_map attribute_text attributes

abbrev pub head_text : List ℕ → List Attribute → List ℕ
head_text name attributes = codes "<" ++ name ++ attributes_text attributes ++ codes ">"

abbrev pub end_text : List ℕ → List ℕ
end_text name = codes "</" ++ name ++ codes ">"

-- the line of a token
abbrev pub token_line : Token → List ℕ
token_line (Open name attributes) = head_text name attributes
token_line (Leaf name attributes text) = head_text name attributes ++ escaped text ++ end_text name
token_line (Close name) = end_text name

-- the lines of tokens, each with its line feed
abbrev pub text_of_tokens : List Token → List ℕ
text_of_tokens tokens = text_of_lines (map token_line tokens)

-- ---- what they promise

-- What a token of some class tells: the class, the values of its attributes whose keys begin with `data-`, in order,
-- and the text that it holds alone.
pub record Mark : Type 0 where
  pub class : List ℕ
  pub values : List (List ℕ)
  pub text : List ℕ

abbrev pub is_class : Attribute → Bool
is_class attribute = bytes_eq attribute.key (codes "class")

abbrev pub is_data : Attribute → Bool
is_data attribute = starts_with nat_eq attribute.key (codes "data-")

-- what an element with these attributes and this text tells, if it has a class
abbrev pub mark_with : List Attribute → List ℕ → Option Mark
mark_with attributes text =
    option_map (λ class. record { class = class.value; values = map (λ a. a.value) (filter is_data attributes); text = text })
    (find is_class attributes)

abbrev pub mark_of : Token → Option Mark
mark_of (Open name attributes) = mark_with attributes []
mark_of (Leaf name attributes text) = mark_with attributes text
mark_of (Close name) = None

abbrev pub marks : List Token → List Mark
marks tokens = filter_map mark_of tokens

-- A page goes on: by some tokens, which tell just these marks.
pub record Adds (before after : List ℕ) (promised : List Mark) : Type 0 where
  pub tokens : List Token
  pub valid : AreTokens tokens
  pub text : after ≡ before ++ text_of_tokens tokens
  pub tells : marks tokens ≡ promised
