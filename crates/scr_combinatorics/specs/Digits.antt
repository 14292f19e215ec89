-- Digits, each below a base of its own, and the numbers that they write. The first digit is the least. Digits in one
-- base are those whose bases are n times that base.
use Rattle.std.specs.Prelude.{ℕ, ◌+◌, ◌*◌, ◌/◌, ◌%◌, ◌<◌, List, [], ◌∷◌}

-- the product of the bases, how many lists of digits there are
abbrev pub product : List ℕ → ℕ
product [] = 1
product (b ∷ bs) = b * product bs

-- a list of as many digits as bases, each below its own base
abbrev pub AreDigits : List ℕ → List ℕ → Type 0
AreDigits [] [] = Unit {0}
AreDigits [] (d ∷ ds) = ⊥
AreDigits (b ∷ bs) [] = ⊥
AreDigits (b ∷ bs) (d ∷ ds) = (d < b) × AreDigits bs ds

-- the number that digits write
abbrev pub mixed_number : List ℕ → List ℕ → ℕ
mixed_number [] ds = 0
mixed_number (b ∷ bs) [] = 0
mixed_number (b ∷ bs) (d ∷ ds) = d + b * mixed_number bs ds

-- the digits that write a number
abbrev pub mixed_digits : List ℕ → ℕ → List ℕ
mixed_digits [] r = []
mixed_digits (b ∷ bs) r = r % b ∷ mixed_digits bs (r / b)
