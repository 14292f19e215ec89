-- Values and texts, escaped piece by piece.
use Rattle.std.proofs.Common.{◌≡◌, ℕ, suc, zero, ◌+◌, ◌<◌, ◌≤◌, true, false, List, [], ◌∷◌, ◌++◌, take, drop, length, refl, ap, ◌∙◌, arith, append_assoc, add-one, take_all}
use Rattle.std.specs.Prelude.{slice_index}
use Rattle.std.proofs.lemmas.Bool.Decides.{nat_tests}
use Rattle.std.proofs.lemmas.List.{append-nil}
use Rattle.std.proofs.Math.Seq.{drop-cons, take-length, drop-length}
use Rattle.scr_markup.specs.Tokens.{is_plain, escaped_byte, escaped}

escaped_byte-plain : (b : ℕ) → is_plain b ≡ true → escaped_byte b ≡ b ∷ []
escaped_byte-plain b plain = grind (arith, nat_tests)

-- what stands before the first byte that has a name stays
pub escaped-plain_first : (n : ℕ) (text : List ℕ) → n ≤ length text → ((k : ℕ) → k < n → is_plain (slice_index text k) ≡ true)
    → escaped text ≡ take n text ++ escaped (drop n text)
escaped-plain_first zero text low plain = refl
escaped-plain_first (suc n) [] low plain = absurd (omega arith)
escaped-plain_first (suc n) (b ∷ text) low plain =
    let here : escaped_byte b ≡ b ∷ [] = escaped_byte-plain b (plain 0 (omega arith)) in
    let rest : escaped text ≡ take n text ++ escaped (drop n text) =
    escaped-plain_first n text (omega arith) (λ k below. plain (suc k) (omega arith)) in
    ap (λ x. x ++ escaped text) here ∙ ap (λ x. b ∷ x) rest

-- bytes that have names are ASCII
pub ascii_if_named : (b : ℕ) → is_plain b ≡ false → b < 128
ascii_if_named b named = grind (arith, nat_tests)

-- and so does the whole text, if it has none
pub escaped-plain : (n : ℕ) (text : List ℕ) → n ≡ length text → ((k : ℕ) → k < n → is_plain (slice_index text k) ≡ true)
    → escaped text ≡ text
escaped-plain n text all plain =
    cc (escaped-plain_first n text (omega arith) plain, take-length text, drop-length text, append-nil text)

-- then comes the name of that byte
pub escaped-step : (n : ℕ) (text : List ℕ) → n < length text → ((k : ℕ) → k < n → is_plain (slice_index text k) ≡ true)
    → escaped text ≡ (take n text ++ escaped_byte (slice_index text n)) ++ escaped (drop (n + 1) text)
escaped-step n text low plain =
    grind (arith, escaped-plain_first n text (omega arith) plain, drop-cons text n 0 low, add-one n, append_assoc)

-- ---- a page that goes on so

-- with the last piece
pub page_ends : (n : ℕ) (text page piece new whole : List ℕ) → n ≡ length text
    → ((k : ℕ) → k < n → is_plain (slice_index text k) ≡ true)
    → new ≡ page ++ piece → piece ≡ take n text → page ++ escaped text ≡ whole → new ≡ whole
page_ends n text page piece new whole all plain e p h = grind (arith, take_all, escaped-plain)

-- with a piece and the name of the byte behind it
pub page_goes_on : (n : ℕ) (text page piece new name newer rest whole : List ℕ) → n < length text
    → ((k : ℕ) → k < n → is_plain (slice_index text k) ≡ true)
    → new ≡ page ++ piece → piece ≡ take n text → newer ≡ new ++ name → name ≡ escaped_byte (slice_index text n)
    → rest ≡ drop (n + 1) text → page ++ escaped text ≡ whole → newer ++ escaped rest ≡ whole
page_goes_on n text page piece new name newer rest whole low plain e p f m r h =
    grind (arith, escaped-step, append_assoc)
