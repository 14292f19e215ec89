-- Names of rounds, and the line that one follows.
use Rattle.std.proofs.Common.{◌≡◌, ℕ, suc, ◌+◌, ◌-◌, ◌<◌, ◌≤◌, Bool, true, false, cond, List, [], ◌∷◌, ◌++◌, take, drop, length, get_or, reverse, Option, Some, None, refl, sym, ap, ◌∙◌, subst, arith, length-append, length-drop, length-take-le}
use Rattle.std.specs.Prelude.{◌&&◌, nat_lt, All, position, option_map}
use Rattle.std.specs.List.{list_all, prefix_len, suffix_len, position_or_len}
use Rattle.std.specs.Str.{IsUtf8}
use Rattle.std.proofs.lemmas.List.{get_or-drop, get_or-take, get_or-reverse, length-reverse, take_all, take-append-le}
use Rattle.std.proofs.lemmas.List.Elements.{All-head, All-tail}
use Rattle.std.proofs.lemmas.List.Quantifiers.{position-Some}
use Rattle.std.proofs.lemmas.List.Sums.{prefix_len_is, prefix_len_stops, suffix_len_is, position_or_len_is, AllPass-from_list_all}
use Rattle.std.proofs.lemmas.Str.{IsUtf8-from_ascii}
use Rattle.std.proofs.lemmas.Str.Ascii.{IsAscii-from_all}
use borrow.Author.Tests.{lt-ltb, le-ltb, ltb-false}
use Rattle.scr_text.specs.Lines.{has_bytes, is_blank}
use Rattle.scr_list.specs.Names.{is_colon, told_part, name_part, trimmed, is_name_byte, is_name, name_in, IsName}

-- ---- what a name holds

both : (a b : Bool) → (a && b) ≡ true → (a ≡ true) × (b ≡ true)
both true b is = (refl, is)
both false b is = cc

-- what the test of a name says
pub record HasNameBytes (text : List ℕ) : Type 0 where
  pub some : 1 ≤ length text
  pub few : length text ≤ 40
  pub low : All (λ b. 32 ≤ b) text
  pub high : All (λ b. b ≤ 126) text

pub is_name-HasNameBytes : (text : List ℕ) → is_name text ≡ true → HasNameBytes text
is_name-HasNameBytes text is = grind (arith, both, AllPass-from_list_all)

-- a round's name has such bytes alone, if it has one
pub name-bytes : (name : List ℕ) → (has_bytes name ≡ true → IsName name) → list_all is_name_byte name ≡ true
name-bytes [] named = refl
name-bytes (byte ∷ name) named = (both _ _ (named refl).test).1

-- such bytes are text
pub is_name-IsUtf8 : (text : List ℕ) → is_name text ≡ true → IsUtf8 text
is_name-IsUtf8 text is = grind (arith, is_name-HasNameBytes, IsUtf8-from_ascii, IsAscii-from_all)

-- ---- blanks at the ends

-- a text without the blanks that it begins with
abbrev pub without_blanks_before : List ℕ → List ℕ
without_blanks_before text = drop (prefix_len is_blank text) text

-- a text without the blanks that it ends with
abbrev pub without_blanks_behind : List ℕ → List ℕ
without_blanks_behind text = take (length text - suffix_len is_blank text) text

first_plain : (text : List ℕ) → 1 ≤ length (without_blanks_before text)
    → is_blank (get_or (without_blanks_before text) 0 0) ≡ false
first_plain text some =
    let n = prefix_len is_blank text in
    let size = length-drop n text in
    let same : n + 0 ≡ n = omega arith in
    ap is_blank (get_or-drop n text 0 0 ∙ ap (λ k. get_or text k 0) same)
    ∙ prefix_len_stops is_blank text 0 (omega (arith, size))

last_plain : (text : List ℕ) → 1 ≤ length (without_blanks_behind text) →
    is_blank (get_or (without_blanks_behind text) (length (without_blanks_behind text) - 1) 0) ≡ false
last_plain text some =
    let s = suffix_len is_blank text in
    let m = length text - s in
    let size : length (take m text) ≡ m = length-take-le m text (omega arith) in
    let low : s < length text = omega (arith, size, some) in
    let stop = prefix_len_stops is_blank (reverse text) 0 (omega (arith, length-reverse text, low)) in
    let place : m - 1 ≡ length text - 1 - s = omega arith in
    ap (λ k. is_blank (get_or (take m text) (k - 1) 0)) size
    ∙ ap is_blank (get_or-take m text (m - 1) 0 (omega (arith, low)))
    ∙ ap (λ k. is_blank (get_or text k 0)) place
    ∙ ap is_blank (sym (get_or-reverse text s 0 low))
    ∙ stop

trimmed-ends : (text : List ℕ) → 1 ≤ length (trimmed text) →
    (is_blank (get_or (trimmed text) 0 0) ≡ false) × (is_blank (get_or (trimmed text) (length (trimmed text) - 1) 0) ≡ false)
unfolding trimmed
trimmed-ends text some =
    let u = without_blanks_behind text in
    let p = prefix_len is_blank u in
    let size = length-drop p u in
    let place : p + (length (drop p u) - 1) ≡ length u - 1 = omega (arith, size, some) in (
      first_plain u some,
      ap is_blank (get_or-drop p u (length (drop p u) - 1) 0 ∙ ap (λ k. get_or u k 0) place)
          ∙ last_plain text (omega (arith, size, some)),
    )

-- what has no blank at an end loses nothing there
behind-plain : (text : List ℕ) → is_blank (get_or text (length text - 1) 0) ≡ false → without_blanks_behind text ≡ text
behind-plain text last = grind (arith, suffix_len_is, take_all)

before-plain : (text : List ℕ) → is_blank (get_or text 0 0) ≡ false → prefix_len is_blank text ≡ 0
before-plain text first = prefix_len_is is_blank text 0 0 (omega arith) (λ k h. absurd (omega arith)) (λ h. first)

-- what stands behind a space, and has no blank at its ends
trimmed-space : (text : List ℕ) → 1 ≤ length text → is_blank (get_or text 0 0) ≡ false → is_blank (get_or text (length text - 1) 0) ≡ false →
    trimmed (32 ∷ text) ≡ text
unfolding trimmed
trimmed-space text some first last =
    let place : length (32 ∷ text) - 1 ≡ suc (length text - 1) = omega arith in
    let end : is_blank (get_or (32 ∷ text) (length (32 ∷ text) - 1) 0) ≡ false = ap (λ k. is_blank (get_or (32 ∷ text) k 0)) place ∙ last in
    ap without_blanks_before (behind-plain (32 ∷ text) end) ∙ ap (λ k. drop (1 + k) (32 ∷ text)) (before-plain text first)

-- ---- names

pub name_in-IsName : (text name : List ℕ) → name_in text ≡ Some name → IsName name
unfolding name_in
name_in-IsName text name is = at (is_name (trimmed text)) refl is
  where
    at : (b : Bool) → is_name (trimmed text) ≡ b → cond b (Some (trimmed text)) None ≡ Some name → IsName name
    at true test is =
        let same : trimmed text ≡ name = cc in
        let ends = trimmed-ends text (is_name-HasNameBytes (trimmed text) test).some in
        subst IsName same (record { test = test; first = ends.0; last = ends.1 })
    at false test is = cc

-- a name behind a space is read as that name
pub name_in-name : (name : List ℕ) → IsName name → name_in (32 ∷ name) ≡ Some name
unfolding name_in
name_in-name name it = grind (arith, trimmed-space, is_name-HasNameBytes)

-- ---- the first colon

-- where it is
pub told_part-some : (line : List ℕ) (colon : ℕ) → position is_colon line ≡ Some colon
    → told_part true line ≡ take colon line
unfolding told_part
told_part-some line colon found = grind (arith, position-Some, position_or_len_is)

past_all : (size place : ℕ) (b : Bool) → nat_lt place size ≡ b → cond b (Some place) None ≡ None → size ≤ place
past_all size place true is none = cc
past_all size place false is none = ltb-false place size is

pub told_part-none : (line : List ℕ) → position is_colon line ≡ None → told_part true line ≡ line
unfolding told_part
told_part-none line none = grind (arith, take_all, past_all)

pub name_part-at : (line : List ℕ) (place : Option ℕ) → position is_colon line ≡ place →
    name_part true line ≡ option_map (λ colon. drop (colon + 1) line) place
unfolding name_part
name_part-at line place is = ap (option_map (λ colon. drop (colon + 1) line)) is

-- where names aren't taken, a colon is a byte as any other
pub parts-whole : (line : List ℕ) → (told_part false line ≡ line) × (name_part false line ≡ None)
unfolding told_part name_part
parts-whole line = (refl, refl)

-- a line with a colon
colon_place : (front back : List ℕ) → All (λ b. is_colon b ≡ false) front
    → position_or_len is_colon (front ++ 58 ∷ back) ≡ length front
colon_place [] back plain = refl
colon_place (b ∷ front) back plain =
    grind (arith, All-head, All-tail, colon_place front back (All-tail (λ x. is_colon x ≡ false) b front plain))

past_colon : (front back : List ℕ) → drop (length front + 1) (front ++ 58 ∷ back) ≡ back
past_colon [] back = refl
past_colon (b ∷ front) back = grind (arith, past_colon front back)

pub parts-colon : (front back : List ℕ) → All (λ b. is_colon b ≡ false) front →
    (told_part true (front ++ 58 ∷ back) ≡ front) × (name_part true (front ++ 58 ∷ back) ≡ Some back)
parts-colon front back plain =
    let line = front ++ 58 ∷ back in
    let n = length front in
    let low : nat_lt n (length line) ≡ true = lt-ltb n (length line) (omega (arith, length-append front (58 ∷ back))) in
    let found : position is_colon line ≡ Some n =
    ap (λ k. cond (nat_lt k (length line)) (Some k) None) (colon_place front back plain) ∙ ap (λ b. cond b (Some n) None) low
    in (
      told_part-some line n found ∙ take-append-le n front (58 ∷ back) (omega arith) ∙ take_all n front (omega arith),
      name_part-at line (Some n) found ∙ ap Some (past_colon front back),
    )

-- a line without a colon
pub parts-plain : (line : List ℕ) → All (λ b. is_colon b ≡ false) line
    → (told_part true line ≡ line) × (name_part true line ≡ None)
parts-plain line plain =
    let n = length line in
    let place = position_or_len_is is_colon line n 0 (omega arith) (λ k h. plain k 0 h) (λ h. absurd (omega arith)) in
    let past : nat_lt n n ≡ false = le-ltb n n (omega arith) in
    let none : position is_colon line ≡ None = ap (λ k. cond (nat_lt k n) (Some k) None) place ∙ ap (λ b. cond b (Some n) None) past in
    (told_part-none line none, name_part-at line None none)
