-- Texts that drawings are made of: what the code has in tables, and tests by computing.
use Rattle.std.specs.Prelude.{ℕ, Bool, ◌&&◌, nat_lt, not, List, length}
use Rattle.std.specs.List.{list_any}
use Rattle.scr_text.specs.Lines.{is_line_feed}

-- a text in one line
abbrev pub is_line : List ℕ → Bool
is_line text = not (list_any is_line_feed text)

-- how an outline goes on: in at most 22 bytes
abbrev pub is_steps : List ℕ → Bool
is_steps text = nat_lt (length text) 23 && is_line text
