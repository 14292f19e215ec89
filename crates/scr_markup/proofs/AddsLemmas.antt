-- A page goes on by nothing, by one token, by some and then more.
use Rattle.std.proofs.Common.{◌≡◌, ℕ, List, [], ◌∷◌, ◌++◌, ◌∙◌, append_assoc, arith, rules}
use Rattle.std.specs.Prelude.{Option, option_to_list}
use Rattle.std.specs.List.{cons_option}
use Rattle.std.proofs.lemmas.List.{map-append, append-nil}
use Rattle.std.proofs.lemmas.List.Elements.{filter_map-append}
use Rattle.scr_text.proofs.WrittenLines.{text_of_lines-append}
use Rattle.scr_markup.specs.Tokens.{Token, IsToken, AreTokens, text_of_tokens, Mark, mark_of, marks, Adds}

AreTokens-append : (xs ys : List Token) → AreTokens xs → AreTokens ys → AreTokens (xs ++ ys)
AreTokens-append [] ys hx hy = hy
AreTokens-append (x ∷ xs) ys hx hy = (hx.0, AreTokens-append xs ys hx.1 hy)

text_of_tokens-append : (xs ys : List Token) → text_of_tokens (xs ++ ys) ≡ text_of_tokens xs ++ text_of_tokens ys
text_of_tokens-append xs ys = grind (arith, map-append, text_of_lines-append)

marks-append : (xs ys : List Token) → marks (xs ++ ys) ≡ marks xs ++ marks ys
marks-append xs ys = filter_map-append mark_of xs ys

one_mark : (mark : Option Mark) → cons_option mark [] ≡ option_to_list mark
one_mark mark = grind arith

marks-one : (token : Token) → marks (token ∷ []) ≡ option_to_list (mark_of token)
marks-one token = one_mark (mark_of token)

-- one token
pub adds_token : (before after : List ℕ) (token : Token) → IsToken token → after ≡ before ++ text_of_tokens (token ∷ [])
    → Adds before after (option_to_list (mark_of token))
adds_token before after token valid text = search (rules, marks-one)

-- some, and then more
pub adds_then : (a b c : List ℕ) (first more : List Mark) → Adds a b first → Adds b c more → Adds a c (first ++ more)
adds_then a b c first more h k = grind (arith, AreTokens-append, append_assoc, text_of_tokens-append, marks-append)

-- the marks, told otherwise
pub adds_as : (before after : List ℕ) (told promised : List Mark) → told ≡ promised → Adds before after told → Adds before after promised
adds_as before after told promised same h = record { tokens = h.tokens; valid = h.valid; text = h.text; tells = h.tells ∙ same }

-- more that tells nothing
pub adds_more : (a b c : List ℕ) (told : List Mark) → Adds a b told → Adds b c [] → Adds a c told
adds_more a b c told h k = adds_as a c (told ++ []) told (append-nil told) (adds_then a b c told [] h k)
