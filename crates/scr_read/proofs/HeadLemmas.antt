-- A line is the head of at most one round.
use Rattle.std.proofs.Common.{◌≡◌, ℕ, ◌+◌, ◌^◌, ◌<◌, ◌≤◌, ◌==◌, true, false, List, [], ◌∷◌, ◌++◌, Some, refl, sym, ap, ◌∙◌, arith, append_assoc, leb-true}
use Rattle.std.specs.Prelude.{Option, None, codes, find}
use Rattle.std.specs.Char.{is_ascii_digit}
use Rattle.std.specs.Fmt.{decimal}
use Rattle.std.specs.List.{list_any}
use Rattle.std.specs.Str.{bytes_eq}
use Rattle.std.proofs.lemmas.Bool.Decides.{nat_tests}
use Rattle.std.proofs.lemmas.Fmt.{digits_decimal}
use Rattle.std.proofs.lemmas.List.{append-nil, append_cancel_left}
use Rattle.std.proofs.lemmas.Option.{same_Some}
use Rattle.scr_text.specs.Numbers.{number_of_text}
use Rattle.scr_text.proofs.NumberLaws.{digits_model, number_of_text-decimal}
use Rattle.scr_notation.specs.declared.event.Event.{Event}
use Rattle.scr_notation.specs.declared.event.Minima.{Minima}
use Rattle.scr_notation.specs.Event.{events, name_of, minima_of, greatest_in}
use Rattle.scr_notation.proofs.EachEvent.{each_alike, each_passes}
use Rattle.scr_round.specs.Round.{minimum_text, own_name_text, heading}
use Rattle.scr_round.proofs.CleanLaws.{Lacks, apart, lacks_by}
use Rattle.scr_read.specs.Heads.{HeadOf}
use Rattle.scr_read.specs.Reading.{as_round, IsHeading}

-- a head is what it is without a name, and then its name
pub with_name : (k : ℕ) (event : Event) (least : ℕ) (name : List ℕ)
    → heading k (record { event = event; groups = 1; least = least; name = name })
    ≡ heading k (record { event = event; groups = 1; least = least; name = [] }) ++ own_name_text name
with_name k event least name = grind (arith, append-nil)

-- ---- events by their names

named : List ℕ → Option Event
named name = find (λ event. bytes_eq (name_of event) name) events

named-own : (event : Event) → named (name_of event) ≡ Some event
unfolding named
named-own event = each_alike (λ e. named (name_of e)) (λ e. Some e) refl event

one_event : (a b : Event) → name_of a ≡ name_of b → a ≡ b
one_event a b same = same_Some a b (sym (named-own a) ∙ ap named same ∙ named-own b)

no_comma : (event : Event) → Lacks 44 (name_of event)
no_comma event = each_alike (λ e. list_any (λ b. b == 44) (name_of e)) (λ e. false) refl event

-- ---- minima and names

-- what follows the comma behind an event's name
minimum_rest : Option Minima → ℕ → List ℕ
minimum_rest (Some minima) least = codes " at least " ++ decimal least
minimum_rest None least = codes " random moves"

minimum_comma : (minima : Option Minima) (least : ℕ) → minimum_text minima least ≡ 44 ∷ minimum_rest minima least
unfolding minimum_rest
minimum_comma minima least = grind arith

digits_no_comma : (n : ℕ) → n < 2 ^ 64 → Lacks 44 (decimal n)
digits_no_comma n low = lacks_by 44 is_ascii_digit digit (decimal n) (digits_decimal digits_model n low)
  where
    digit : (byte : ℕ) → is_ascii_digit byte ≡ true → (byte == 44) ≡ false
    digit byte is = grind (arith, nat_tests)

one_decimal : (n m : ℕ) → n < 2 ^ 64 → m < 2 ^ 64 → decimal n ≡ decimal m → n ≡ m
one_decimal n m low low' same =
    same_Some n m (sym (number_of_text-decimal n low) ∙ ap number_of_text same ∙ number_of_text-decimal m low')

-- a name with a comma behind it begins with a comma
name_rest : List ℕ → List ℕ
name_rest [] = []
name_rest (byte ∷ name) = codes " " ++ byte ∷ name ++ 44 ∷ []

name_comma : (name : List ℕ) → own_name_text name ++ 44 ∷ [] ≡ 44 ∷ name_rest name
unfolding name_rest
name_comma name = grind arith

one_name : (a b : List ℕ) → own_name_text a ≡ own_name_text b → a ≡ b
one_name a b h0 = grind arith

one_minimum : (minima : Option Minima) (n m : ℕ) (a b : List ℕ) → n ≤ greatest_in minima → m ≤ greatest_in minima → greatest_in minima ≤ 15
    → minimum_rest minima n ++ own_name_text a ≡ minimum_rest minima m ++ own_name_text b → (n ≡ m) × (a ≡ b)
unfolding minimum_rest
one_minimum None n m a b few few' range same = grind (arith, one_name, append_cancel_left)
one_minimum (Some minima) n m a b few few' range same =
    let low : n < 2 ^ 64 = omega (arith, few, range) in
    let low' : m < 2 ^ 64 = omega (arith, few', range) in
    let behind : decimal n ++ own_name_text a ≡ decimal m ++ own_name_text b =
    append_cancel_left (codes " at least ") (decimal n ++ own_name_text a) (decimal m ++ own_name_text b) same in
    let ended : decimal n ++ 44 ∷ name_rest a ≡ decimal m ++ 44 ∷ name_rest b =
    ap (λ x. decimal n ++ x) (sym (name_comma a)) ∙ sym (append_assoc (decimal n) (own_name_text a) (44 ∷ []))
    ∙ ap (λ x. x ++ 44 ∷ []) behind ∙ append_assoc (decimal m) (own_name_text b) (44 ∷ []) ∙ ap (λ x. decimal m ++ x) (name_comma b) in
    let digits = (apart 44 (decimal n) (name_rest a) (decimal m) (name_rest b) refl (digits_no_comma n low) (digits_no_comma m low') ended).0 in
    grind (arith, behind, digits, one_decimal, low, low', one_name, append_cancel_left)

-- ---- heads

tail_of : HeadOf → List ℕ
tail_of head = minimum_rest (minima_of head.event) head.least ++ own_name_text head.name

parts : (k : ℕ) (head : HeadOf) → heading k (as_round head)
    ≡ (codes "Round " ++ decimal (k + 1) ++ codes ": ") ++ (name_of head.event ++ 44 ∷ tail_of head)
unfolding tail_of
parts k head = grind (arith, append_assoc, minimum_comma)

same_heads : (a b : HeadOf) → a.event ≡ b.event → a.least ≡ b.least → a.name ≡ b.name → a ≡ b
same_heads a b event least name = grind arith

ruleset of_heads = (parts, apart, no_comma, one_event, one_minimum, same_heads)

pub one_head : (k : ℕ) (line : List ℕ) (a b : HeadOf) → IsHeading k line a → IsHeading k line b → a ≡ b
unfolding tail_of
one_head k line a b one other =
    grind (arith, of_heads, append_cancel_left, tail_of, leb-true, each_passes, minimum_rest)
