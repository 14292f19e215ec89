-- The rules of a style.
use Rattle.std.specs.Prelude.{ℕ, Bool, not, List}
use Rattle.std.specs.Borrow.{Bor}
use Rattle.std.specs.List.{list_all, list_any}
use Rattle.scr_text.specs.Lines.{is_line_feed}

-- a rule in one line
abbrev pub is_rule : Bor (List ℕ) → Bool
is_rule rule = not (list_any is_line_feed rule.now)

abbrev pub are_rules : List (Bor (List ℕ)) → Bool
are_rules rules = list_all is_rule rules
