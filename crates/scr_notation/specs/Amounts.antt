-- Amounts of a turn: so many steps clockwise, of which `order` make a whole turn (WCA Regulations, article 12).
use Rattle.std.specs.Prelude.{ℕ, Bool, ◌&&◌, nat_lt}

-- one step at least, and less than a whole turn
abbrev pub is_amount : ℕ → ℕ → Bool
is_amount order amount = nat_lt 0 amount && nat_lt amount order
