-- The texts of a page have no line feed.
use Rattle.std.proofs.Common.{◌≡◌, ℕ, suc, zero, ◌+◌, ◌-◌, ◌<◌, ◌≤◌, true, false, pos, negsuc, List, [], ◌∷◌, ◌++◌, Some, refl, arith, get_or, subst, length}
use Rattle.std.specs.Prelude.{codes, decimal, slice_get, if◌then◌else◌, ◌==◌, nat_le, Bool, not}
use Rattle.std.specs.Fmt.{digits}
use Rattle.std.specs.List.{list_any, list_all, slice_index_or, position_or_len, prefix_len, before_first}
use Rattle.std.proofs.lemmas.Bool.Decides.{nat_tests}
use Rattle.std.proofs.lemmas.Bool.{or_parts, and_parts, not-true}
use Rattle.std.proofs.lemmas.List.Elements.{All-weaker}
use Rattle.std.proofs.lemmas.List.Folds.{list_any_none}
use Rattle.std.proofs.lemmas.List.Sums.{fails_before_first}
use Rattle.scr_notation.specs.declared.event.Event.{Event}
use Rattle.scr_notation.specs.declared.event.Event.TheVariants.{C222}
use Rattle.scr_notation.specs.declared.turn.Turn.{Turn}
use Rattle.scr_notation.specs.declared.turn.Turn.TheVariants.{Face, Axis, Tip, Layers, Twist, Pins, Over, Wide}
use Rattle.scr_notation.specs.Event.{name_of}
use Rattle.scr_notation.specs.Spelling.{letter_text, layers_before, layers_behind, amount_text, way_text, signed_text, name_of_set, pin_names, hours_text, spelling}
use Rattle.scr_notation.specs.Pins.{pin_sets}
use Rattle.scr_layout.specs.Shown.{IsNoControl, HasNoControl}
use Rattle.scr_layout.specs.Group.{Group, IsGroup}
use Rattle.scr_layout.specs.Texts.{group_letter, title_of, place_of, own_name, round_line_of, tag_of, labels_of}
use Rattle.scr_text.specs.Lines.{is_line_feed}
use Rattle.scr_markup.specs.Tokens.{HasNoLineFeed}
use Rattle.scr_markup.proofs.PlainLemmas.{HasNoLineFeed-append, HasNoLineFeed-printed, HasNoLineFeed-decimal}

pub above_controls : (text : List ℕ) → HasNoControl text → HasNoLineFeed text
above_controls text h =
    HasNoLineFeed-printed text (All-weaker IsNoControl (λ b. 31 < b) (λ b k. let low = k.0 in omega arith) text h)

-- ---- spellings

one_byte : (b : ℕ) → is_line_feed b ≡ false → HasNoLineFeed (b ∷ [])
one_byte b h = rw h refl

high : (b : ℕ) → 11 ≤ b → is_line_feed b ≡ false
high b h = grind (arith, nat_tests)

-- a byte of a text that has none, or 0 past its end
byte_of : (text : List ℕ) (n : ℕ) → HasNoLineFeed text → is_line_feed (get_or text n 0) ≡ false
byte_of [] n h = refl
byte_of (b ∷ text) zero h = (or_parts (is_line_feed b) (list_any is_line_feed text) h).0
byte_of (b ∷ text) (suc n) h = byte_of text n (or_parts (is_line_feed b) (list_any is_line_feed text) h).1

either : (b : Bool) (x y : List ℕ) → HasNoLineFeed x → HasNoLineFeed y → HasNoLineFeed (if b then x else y)
either true x y hx hy = hx
either false x y hx hy = hy

amounts : (order amount : ℕ) → HasNoLineFeed (amount_text order amount)
amounts order amount =
    either (amount == 1) [] (if amount + 1 == order then codes "'" else codes "2") refl (either (amount + 1 == order) (codes "'") (codes "2") refl refl)

letters : (text : List ℕ) (n : ℕ) → HasNoLineFeed text → HasNoLineFeed (letter_text text n)
letters text n h = one_byte (get_or text n 0) (byte_of text n h)

ways : (letter : ℕ) (plus : Bool) → HasNoLineFeed (way_text letter plus)
ways letter plus =
    either (letter == 2) (if plus then [] else codes "'") (if plus then codes "++" else codes "--")
    (either plus [] (codes "'") refl refl) (either plus (codes "++") (codes "--") refl refl)

digits_signed : (n : _) → HasNoLineFeed (signed_text n)
digits_signed (pos n) = one_byte (48 + n) (high (48 + n) (omega arith))
digits_signed (negsuc n) = one_byte (48 + (n + 1)) (high (48 + (n + 1)) (omega arith))

hours_one_line : (amount : ℕ) → HasNoLineFeed (hours_text amount)
unfolding hours_text
hours_one_line amount =
    either (nat_le amount 6) ((48 + amount) ∷ codes "+") ((48 + (12 - amount)) ∷ codes "-")
    (rw (high (48 + amount) (omega arith)) refl) (rw (high (48 + (12 - amount)) (omega arith)) refl)

names_one_line : (n : ℕ) → HasNoLineFeed (slice_index_or pin_names n [])
names_one_line zero = refl
names_one_line (suc zero) = refl
names_one_line (suc (suc zero)) = refl
names_one_line (suc (suc (suc zero))) = refl
names_one_line (suc (suc (suc (suc zero)))) = refl
names_one_line (suc (suc (suc (suc (suc zero))))) = refl
names_one_line (suc (suc (suc (suc (suc (suc zero)))))) = refl
names_one_line (suc (suc (suc (suc (suc (suc (suc zero))))))) = refl
names_one_line (suc (suc (suc (suc (suc (suc (suc (suc zero)))))))) = refl
names_one_line (suc (suc (suc (suc (suc (suc (suc (suc (suc n))))))))) = refl

pub spelling_one_line : (turn : Turn) → HasNoLineFeed (spelling turn)
unfolding spelling
spelling_one_line (Face face depth amount) =
    let first = layers_before depth in
    let letter = letter_text (codes "URFDLB") face in
    let behind = layers_behind depth in
    HasNoLineFeed-append (first ++ letter ++ behind) (amount_text 4 amount)
    (HasNoLineFeed-append (first ++ letter) behind
    (HasNoLineFeed-append first letter (either (depth == 3) (codes "3") [] refl refl) (letters (codes "URFDLB") face refl))
    (either (depth == 1) [] (codes "w") refl refl)) (amounts 4 amount)
spelling_one_line (Axis axis amount) =
    HasNoLineFeed-append (letter_text (codes "ULRB") axis) (amount_text 3 amount) (letters (codes "ULRB") axis refl) (amounts 3 amount)
spelling_one_line (Tip tip amount) =
    HasNoLineFeed-append (letter_text (codes "ulrb") tip) (amount_text 3 amount) (letters (codes "ulrb") tip refl) (amounts 3 amount)
spelling_one_line (Layers top bottom) =
    HasNoLineFeed-append (codes "(" ++ signed_text top ++ codes "," ++ signed_text bottom) (codes ")")
    (HasNoLineFeed-append (codes "(" ++ signed_text top ++ codes ",") (signed_text bottom)
    (HasNoLineFeed-append (codes "(" ++ signed_text top) (codes ",") (digits_signed top) refl) (digits_signed bottom)) refl
spelling_one_line Twist = refl
spelling_one_line (Pins pins amount) =
    HasNoLineFeed-append (name_of_set pins) (hours_text amount) (names_one_line (position_or_len (λ set. set == pins) pin_sets)) (hours_one_line amount)
spelling_one_line Over = refl
spelling_one_line (Wide letter plus) =
    HasNoLineFeed-append (letter_text (codes "RDU") letter) (way_text letter plus) (letters (codes "RDU") letter refl) (ways letter plus)

-- ---- what is said of a group

name_one_line : (event : Event) → HasNoLineFeed (name_of event)
name_one_line C222 = refl
name_one_line _ = refl

letter_one_line : (g : Group) → HasNoLineFeed (group_letter g)
letter_one_line g = HasNoLineFeed-append (codes "group ") ((65 + g.number) ∷ []) refl (one_byte (65 + g.number) (high (65 + g.number) (omega arith)))

place_one_line : (g : Group) → IsGroup g → HasNoLineFeed (place_of g)
place_one_line g h =
    let one = h.event_round in
    let all = h.event_rounds in
    HasNoLineFeed-append (decimal g.event_round ++ codes " of ") (decimal g.event_rounds)
    (HasNoLineFeed-append (decimal g.event_round) (codes " of ") (HasNoLineFeed-decimal g.event_round (omega arith)) refl)
    (HasNoLineFeed-decimal g.event_rounds (omega arith))

own_name_one_line : (name : List ℕ) → HasNoLineFeed name → HasNoLineFeed (own_name name)
own_name_one_line [] h = refl
own_name_one_line (b ∷ name) h = h

pub title_one_line : (g : Group) → IsGroup g → HasNoLineFeed (title_of g)
title_one_line g h =
    let all = h.groups in
    HasNoLineFeed-append (name_of g.event ++ codes ", " ++ group_letter g ++ codes " of ") (decimal g.groups)
    (HasNoLineFeed-append (name_of g.event ++ codes ", " ++ group_letter g) (codes " of ")
    (HasNoLineFeed-append (name_of g.event ++ codes ", ") (group_letter g)
    (HasNoLineFeed-append (name_of g.event) (codes ", ") (name_one_line g.event) refl) (letter_one_line g)) refl)
    (HasNoLineFeed-decimal g.groups (omega arith))

pub round_line_one_line : (g : Group) → IsGroup g → HasNoLineFeed (round_line_of g)
round_line_one_line g h =
    HasNoLineFeed-append (codes "Round " ++ place_of g) (own_name g.name)
    (HasNoLineFeed-append (codes "Round ") (place_of g) refl (place_one_line g h)) (own_name_one_line g.name (above_controls g.name h.name))

pub tag_one_line : (g : Group) → IsGroup g → HasNoLineFeed (tag_of g)
tag_one_line g h =
    HasNoLineFeed-append (codes "round " ++ place_of g ++ codes ", ") (group_letter g)
    (HasNoLineFeed-append (codes "round " ++ place_of g) (codes ", ")
    (HasNoLineFeed-append (codes "round ") (place_of g) refl (place_one_line g h)) refl) (letter_one_line g)

-- ---- labels

is_plain_line : List ℕ → Bool
is_plain_line text = not (list_any is_line_feed text)

labels_plain : (event : Event) → list_all is_plain_line (labels_of event) ≡ true
unfolding is_plain_line digits
labels_plain C222 = refl
labels_plain _ = refl

passes_at : (p : List ℕ → Bool) (xs : List (List ℕ)) (n : ℕ) (x : List ℕ) → list_all p xs ≡ true → slice_get xs n ≡ Some x → p x ≡ true
passes_at p [] n x all at = cc
passes_at p (y ∷ xs) zero x all at = let same : y ≡ x = cc in subst (λ z. p z ≡ true) same (and_parts (p y) (list_all p xs) all).0
passes_at p (y ∷ xs) (suc n) x all at = passes_at p xs n x (and_parts (p y) (list_all p xs) all).1 at

pub label_one_line : (event : Event) (n : ℕ) (x : List ℕ) → slice_get (labels_of event) n ≡ Some x → HasNoLineFeed x
unfolding is_plain_line
label_one_line event n x at = not-true (list_any is_line_feed x) (passes_at is_plain_line (labels_of event) n x (labels_plain event) at)

-- ---- the first line of a text

one_more : (n : ℕ) → 1 + n ≡ suc n
one_more n = omega arith

before_cases : (b : ℕ) (is : Bool) (text : List ℕ) → (b == 10) ≡ is → HasNoLineFeed (before_first (λ c. c == 10) text) → HasNoLineFeed (before_first (λ c. c == 10) (b ∷ text))
before_cases b true text h rest = rw h refl
before_cases b false text h rest = rw (h, one_more (prefix_len (λ c. not (c == 10)) text), h) rest

pub before_line_feed : (text : List ℕ) → HasNoLineFeed (before_first (λ b. b == 10) text)
before_line_feed [] = refl
before_line_feed (b ∷ text) = before_cases b (b == 10) text refl (before_line_feed text)

pub no_line_feed : (text : List ℕ) → position_or_len (λ b. b == 10) text ≡ length text → HasNoLineFeed text
no_line_feed text none = list_any_none is_line_feed text (λ k d h. fails_before_first is_line_feed text k d (omega arith))

-- ---- styles

pub left_one_line : (n : ℕ) → n < 256 → HasNoLineFeed ((codes "left:" ++ decimal n) ++ codes "ch")
left_one_line n low =
    HasNoLineFeed-append (codes "left:" ++ decimal n) (codes "ch")
    (HasNoLineFeed-append (codes "left:") (decimal n) refl (HasNoLineFeed-decimal n (omega arith))) refl
