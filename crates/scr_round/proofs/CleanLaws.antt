-- No line of a sheet has a line feed in it, and where a byte parts two texts that lack it, they are parted alike.
use Rattle.std.proofs.Common.{◌≡◌, ℕ, zero, suc, ◌+◌, ◌-◌, ◌^◌, ◌<◌, ◌==◌, ◌||◌, Bool, true, false, if◌then◌else◌, ℤ, pos, negsuc, List, [], ◌∷◌, ◌++◌, refl, ap, subst, ◌∙◌, arith, get_or, leb-true}
use Rattle.std.specs.Prelude.{All, Option, Some, None, ◌&&◌, codes, nat_le, nat_lt}
use Rattle.std.specs.Char.{is_ascii_digit}
use Rattle.std.specs.Fmt.{decimal}
use Rattle.std.specs.List.{list_all, list_any, position_or_len}
use Rattle.std.proofs.lemmas.Bool.{ne_eqb, ltb-true}
use Rattle.std.proofs.lemmas.Bool.Decides.{nat_tests}
use Rattle.std.proofs.lemmas.Fmt.{digits_decimal}
use Rattle.std.proofs.lemmas.List.Elements.{All-nil, All-cons}
use Rattle.std.proofs.lemmas.List.Folds.{list_any-append}
use Rattle.scr_notation.specs.declared.event.Minima.{Minima}
use Rattle.scr_notation.specs.declared.turn.Turn.{Turn}
use Rattle.scr_notation.specs.declared.turn.Turn.TheVariants.{Face, Axis, Tip, Layers, Twist, Pins, Over, Wide}
use Rattle.scr_notation.specs.Event.{name_of, minima_of, greatest_of}
use Rattle.scr_notation.specs.Pins.{pin_sets}
use Rattle.scr_notation.specs.Spelling.{text_of, spelling, letter_text, amount_text, layers_before, layers_behind, way_text, signed_text, name_of_set, pin_names, hours_text}
use Rattle.scr_notation.proofs.EachEvent.{each_passes}
use Rattle.scr_text.proofs.NumberLaws.{digits_model}
use Rattle.scr_list.specs.declared.round.Round.{Round}
use Rattle.scr_list.specs.Names.{is_name_byte}
use Rattle.scr_list.specs.Rounds.{IsRound}
use Rattle.scr_list.proofs.NameLemmas.{name-bytes}
use Rattle.scr_round.specs.Round.{labels_from, minimum_text, own_name_text, heading}

-- this byte isn't in a text
abbrev pub Lacks : ℕ → List ℕ → Type 0
Lacks c text = list_any (λ byte. byte == c) text ≡ false

-- two texts are parted at the same place
pub apart : (c : ℕ) (xs ys other others : List ℕ) → (c == c) ≡ true → Lacks c xs → Lacks c other
    → xs ++ c ∷ ys ≡ other ++ c ∷ others → (xs ≡ other) × (ys ≡ others)
apart c [] ys [] others is bare bare' same = (refl, cc)
apart c [] ys (x ∷ other) others is bare bare' same =
    let first : c ≡ x = cc in
    let here : (x == c) ≡ true = subst (λ y. (y == c) ≡ true) first is in
    let none : ⊥ = cc in absurd none
apart c (x ∷ xs) ys [] others is bare bare' same =
    let first : c ≡ x = cc in
    let here : (x == c) ≡ true = subst (λ y. (y == c) ≡ true) first is in
    let none : ⊥ = cc in absurd none
apart c (x ∷ xs) ys (y ∷ other) others is bare bare' same =
    let first : x ≡ y = cc in
    let rest : xs ++ c ∷ ys ≡ other ++ c ∷ others = cc in
    let left = behind (x == c) (list_any (λ byte. byte == c) xs) bare in
    let right = behind (y == c) (list_any (λ byte. byte == c) other) bare' in
    let more = apart c xs ys other others is left right rest in
    let both = more.0 in
    (cc, more.1)
  where
    behind : (a b : Bool) → (a || b) ≡ false → b ≡ false
    behind true b h = cc
    behind false b h = h

-- ---- no spelling has a line feed

abbrev pub IsClean : List ℕ → Type 0
IsClean text = Lacks 10 text

pub either : (a b : Bool) → (a || b) ≡ false → (a ≡ false) × (b ≡ false)
either true b h = cc
either false b h = (refl, h)

pub joined : (x y : List ℕ) → IsClean x → IsClean y → IsClean (x ++ y)
joined x y first second = list_any-append (λ byte. byte == 10) x y ∙ ap (λ b. b || list_any (λ byte. byte == 10) y) first ∙ second

chosen : (test : Bool) (x y : List ℕ) → IsClean x → IsClean y → IsClean (if test then x else y)
chosen true x y first second = first
chosen false x y first second = second

digit : (n : ℕ) → IsClean ((48 + n) ∷ [])
digit n = ap (λ b. b || false) (ne_eqb (48 + n) 10 (λ is. omega (arith, is)))

letter : (letters : List ℕ) (n : ℕ) → IsClean letters → IsClean (letter_text letters n)
letter [] n clean = refl
letter (x ∷ xs) zero clean = ap (λ b. b || false) (either (x == 10) (list_any (λ byte. byte == 10) xs) clean).0
letter (x ∷ xs) (suc n) clean = letter xs n (either (x == 10) (list_any (λ byte. byte == 10) xs) clean).1

amount : (order n : ℕ) → IsClean (amount_text order n)
amount order n = chosen (n == 1) [] (if n + 1 == order then codes "'" else codes "2") refl (chosen (n + 1 == order) (codes "'") (codes "2") refl refl)

signed : (n : ℤ) → IsClean (signed_text n)
signed (pos n) = digit n
signed (negsuc n) = joined (codes "-") ((48 + (n + 1)) ∷ []) refl (digit (n + 1))

abbrev AreClean : List (List ℕ) → Type 0
AreClean [] = Unit {0}
AreClean (text ∷ texts) = IsClean text × AreClean texts

name : (names : List (List ℕ)) (place : ℕ) → AreClean names → IsClean (get_or names place [])
name [] place clean = refl
name (n ∷ names) zero clean = clean.0
name (n ∷ names) (suc place) clean = name names place clean.1

hours : (n : ℕ) → IsClean (hours_text n)
unfolding hours_text
hours n =
    chosen (nat_le n 6) ((48 + n) ∷ codes "+") ((48 + (12 - n)) ∷ codes "-")
    (joined ((48 + n) ∷ []) (codes "+") (digit n) refl) (joined ((48 + (12 - n)) ∷ []) (codes "-") (digit (12 - n)) refl)

spelled : (t : Turn) → IsClean (spelling t)
unfolding spelling
spelled (Face face depth n) =
    let before = chosen (depth == 3) (codes "3") [] refl refl in
    let behind = chosen (depth == 1) [] (codes "w") refl refl in
    let front = joined (layers_before depth) (letter_text (codes "URFDLB") face) before (letter (codes "URFDLB") face refl) in
    let layers = joined (layers_before depth ++ letter_text (codes "URFDLB") face) (layers_behind depth) front behind in
    joined (layers_before depth ++ letter_text (codes "URFDLB") face ++ layers_behind depth) (amount_text 4 n) layers (amount 4 n)
spelled (Axis axis n) = joined (letter_text (codes "ULRB") axis) (amount_text 3 n) (letter (codes "ULRB") axis refl) (amount 3 n)
spelled (Tip tip n) = joined (letter_text (codes "ulrb") tip) (amount_text 3 n) (letter (codes "ulrb") tip refl) (amount 3 n)
spelled (Layers top bottom) =
    let first = joined (codes "(") (signed_text top) refl (signed top) in
    let comma = joined (codes "(" ++ signed_text top) (codes ",") first refl in
    let second = joined (codes "(" ++ signed_text top ++ codes ",") (signed_text bottom) comma (signed bottom) in
    joined (codes "(" ++ signed_text top ++ codes "," ++ signed_text bottom) (codes ")") second refl
spelled Twist = refl
spelled (Pins pins n) =
    let names : AreClean pin_names = (refl, (refl, (refl, (refl, (refl, (refl, (refl, (refl, (refl, tt))))))))) in
    joined (name_of_set pins) (hours_text n) (name pin_names (position_or_len (λ set. set == pins) pin_sets) names) (hours n)
spelled Over = refl
spelled (Wide n plus) =
    let plain = chosen plus [] (codes "'") refl refl in
    let doubled = chosen plus (codes "++") (codes "--") refl refl in
    let way = chosen (n == 2) (if plus then [] else codes "'") (if plus then codes "++" else codes "--") plain doubled in
    joined (letter_text (codes "RDU") n) (way_text n plus) (letter (codes "RDU") n refl) way

pub text-clean : (turns : List Turn) → IsClean (text_of turns)
text-clean [] = refl
text-clean (t ∷ []) = spelled t
text-clean (t ∷ u ∷ turns) = joined (spelling t) (32 ∷ text_of (u ∷ turns)) (spelled t) (text-clean (u ∷ turns))

-- ---- texts without a line feed

pub both : (a b : Bool) → (a && b) ≡ true → (a ≡ true) × (b ≡ true)
both true b is = (refl, is)
both false b is = cc

-- each byte passes a test that this byte doesn't pass
pub lacks_by : (c : ℕ) (test : ℕ → Bool) → ((byte : ℕ) → test byte ≡ true → (byte == c) ≡ false) → (text : List ℕ)
    → list_all test text ≡ true → Lacks c text
lacks_by c test other [] all = refl
lacks_by c test other (byte ∷ text) all =
    let parts = both (test byte) (list_all test text) all in
    ap (λ b. b || list_any (λ x. x == c) text) (other byte parts.0) ∙ lacks_by c test other text parts.1

above-clean : (byte : ℕ) → 10 < byte → (byte == 10) ≡ false
above-clean byte above = ne_eqb byte 10 (λ is. omega (arith, is, above))

pub decimal-clean : (n : ℕ) → n < 2 ^ 64 → IsClean (decimal n)
decimal-clean n low = lacks_by 10 is_ascii_digit digit (decimal n) (digits_decimal digits_model n low)
  where
    digit : (byte : ℕ) → is_ascii_digit byte ≡ true → (byte == 10) ≡ false
    digit byte is = grind (arith, nat_tests)

pub one-clean : (byte : ℕ) → 10 < byte → IsClean (byte ∷ [])
one-clean byte above = ap (λ b. b || false) (above-clean byte above)

-- ---- the lines of a round

pub labels-clean : (number own : ℕ) → number + own < 100 → All IsClean (labels_from number own)
labels-clean number zero few =
    All-cons IsClean (codes "E1. ") (codes "E2. " ∷ []) refl (All-cons IsClean (codes "E2. ") [] refl (All-nil IsClean))
labels-clean number (suc own) few =
    All-cons IsClean (decimal number ++ codes ". ") (labels_from (number + 1) own)
    (joined (decimal number) (codes ". ") (decimal-clean number (omega (arith, few))) refl)
    (labels-clean (number + 1) own (omega (arith, few)))

minimum-clean : (minima : Option Minima) (least : ℕ) → least < 100 → IsClean (minimum_text minima least)
minimum-clean None least few = refl
minimum-clean (Some minima) least few =
    joined (codes ", at least ") (decimal least) refl (decimal-clean least (omega (arith, few)))

name_byte-clean : (byte : ℕ) → is_name_byte byte ≡ true → (byte == 10) ≡ false
name_byte-clean byte is =
    let low = leb-true 32 byte (both (nat_le 32 byte) (nat_le byte 126) is).0 in
    above-clean byte (omega (arith, low))

pub own_name-clean : (name : List ℕ) → IsClean name → IsClean (own_name_text name)
own_name-clean [] clean = refl
own_name-clean (byte ∷ name) clean = joined (codes ", ") (byte ∷ name) refl clean

event-clean : (round : Round) → IsClean (name_of round.event)
event-clean round =
    lacks_by 10 (nat_lt 10) (λ byte is. above-clean byte (ltb-true 10 byte is)) (name_of round.event)
    (each_passes (λ e. list_all (nat_lt 10) (name_of e)) refl round.event)

pub heading-clean : (k : ℕ) (round : Round) → k < 256 → IsRound round → IsClean (heading k round)
heading-clean k round below is =
    let number = decimal (k + 1) in
    let minimum = minimum_text (minima_of round.event) round.least in
    let greatest = leb-true (greatest_of round.event) 15 (each_passes (λ e. nat_le (greatest_of e) 15) refl round.event) in
    let own = own_name-clean round.name (lacks_by 10 is_name_byte name_byte-clean round.name (name-bytes round.name is.name)) in
    let first = joined (codes "Round ") number refl (decimal-clean (k + 1) (omega (arith, below))) in
    let second = joined (codes "Round " ++ number) (codes ": ") first refl in
    let third = joined (codes "Round " ++ number ++ codes ": ") (name_of round.event) second (event-clean round) in
    let fourth = joined (codes "Round " ++ number ++ codes ": " ++ name_of round.event) minimum third
    (minimum-clean (minima_of round.event) round.least (omega (arith, greatest, is.least))) in
    joined (codes "Round " ++ number ++ codes ": " ++ name_of round.event ++ minimum) (own_name_text round.name) fourth own
