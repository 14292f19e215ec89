-- The names of rounds, which follow a colon. What a name may hold is our own choice.
use Rattle.std.specs.Prelude.{ℕ, ◌≡◌, ◌+◌, ◌-◌, Bool, true, false, ◌&&◌, ◌==◌, nat_le, if◌then◌else◌, Option, Some, None, option_map, List, length, take, drop, position, slice_index}
use Rattle.std.specs.List.{list_all, before_first, prefix_len, suffix_len}
use Rattle.scr_text.specs.Lines.{is_blank}

-- ---- a line in two parts

abbrev pub is_colon : ℕ → Bool
is_colon byte = byte == 58

-- what a line tells of its round: where names are taken, what stands before its first colon, and all of it where it has
-- none
unfoldable pub told_part : Bool → List ℕ → List ℕ
told_part takes_names line = if takes_names then before_first is_colon line else line

-- what follows that colon, where the line has one
unfoldable pub name_part : Bool → List ℕ → Option (List ℕ)
name_part takes_names line = if takes_names then option_map (λ k. drop (k + 1) line) (position is_colon line) else None

-- ---- names

-- a text without the blanks that it ends with, and then without those that it begins with
unfoldable pub trimmed : List ℕ → List ℕ
trimmed text = let ended = take (length text - suffix_len is_blank text) text in drop (prefix_len is_blank ended) ended

-- a byte of a name: from the space to the tilde
abbrev pub is_name_byte : ℕ → Bool
is_name_byte byte = nat_le 32 byte && nat_le byte 126

-- a text has 1 to 40 such bytes
abbrev pub is_name : List ℕ → Bool
is_name text = nat_le 1 (length text) && nat_le (length text) 40 && list_all is_name_byte text

-- the name that a text is, without the blanks at its ends
unfoldable pub name_in : List ℕ → Option (List ℕ)
name_in text = if is_name (trimmed text) then Some (trimmed text) else None

-- a name that a list can give: no blank stands at its ends
pub record IsName (name : List ℕ) : Type 0 where
  pub test : is_name name ≡ true
  pub first : is_blank (slice_index name 0) ≡ false
  pub last : is_blank (slice_index name (length name - 1)) ≡ false
