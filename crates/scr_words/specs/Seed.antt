-- The seed that a text of 64 hexadecimal digits spells, and what is wrong with any other text.
use Rattle.std.specs.Prelude.{ℕ, ◌+◌, ◌-◌, ◌*◌, ◌^◌, ◌==◌, not, min, if◌then◌else◌, List, [], ◌∷◌, length, unwrap_or, Result, Ok, Err}
use Rattle.std.specs.List.{prefix_len}
use Rattle.hex.specs.Hex.{hex_digit_value, is_hex_digit}
use Rattle.scr_words.specs.declared.seed.Seed.{Seed}
use Rattle.scr_words.specs.declared.seed.SeedFault.{SeedFault}
use Rattle.scr_words.specs.declared.seed.SeedFault.TheVariants.{Length, Digit}

-- the value of a digit, from 0 to 15, in either case
abbrev pub digit : ℕ → ℕ
digit c = unwrap_or (hex_digit_value c) 0

-- the bytes that pairs of digits spell, the high four bits first
unfoldable pub spelled : List ℕ → List ℕ
spelled [] = []
spelled (high ∷ []) = []
spelled (high ∷ low ∷ rest) = (16 * digit high + digit low) ∷ spelled rest

-- What a text gives. One of another length than 64 is refused with its length, or with the greatest number of 32 bits
-- where the length is past that; one of length 64 at its first byte that is no digit, whose place is how many digits it
-- begins with.
abbrev pub seed_of : List ℕ → Result Seed SeedFault
seed_of text =
    let digits = prefix_len is_hex_digit text in
    if not (length text == 64) then Err (Length (min (length text) (2 ^ 32 - 1)))
    else if digits == 64 then Ok (record { 0 = spelled text }) else Err (Digit digits)
