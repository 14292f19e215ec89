-- The lines of a list's sheet are short, whatever stands in them.
use Rattle.std.proofs.Common.{◌≡◌, ℕ, zero, suc, ◌+◌, ◌<◌, ◌≤◌, List, [], ◌∷◌, ◌++◌, length, Some, true, refl, subst, arith, lit≤, length-append, leb-true, rules}
use Rattle.std.specs.Prelude.{All, Option, None, map, codes, nat_le, slice_get}
use Rattle.std.specs.Fmt.{decimal}
use Rattle.std.proofs.lemmas.Fmt.{length-decimal-le}
use Rattle.std.proofs.lemmas.List.Elements.{All-nil, All-cons, All-head, All-tail, All-append, All-map, All-get_or}
use Rattle.std.proofs.lemmas.Option.{get_or_from_slice_get, slice_get_within}
use Rattle.scr_notation.specs.declared.event.Minima.{Minima}
use Rattle.scr_notation.specs.Event.{name_of, minima_of, greatest_of}
use Rattle.scr_notation.proofs.EachEvent.{each_passes}
use Rattle.scr_notation.proofs.TextLaws.{length-text_of}
use Rattle.scr_text.specs.Lines.{has_bytes}
use Rattle.scr_list.specs.declared.round.Round.{Round}
use Rattle.scr_list.specs.Names.{IsName}
use Rattle.scr_list.specs.Rounds.{IsRound}
use Rattle.scr_list.proofs.NameLemmas.{is_name-HasNameBytes}
use Rattle.scr_round.specs.Round.{Line, Fixed, Slot, labels_from, slot_lines, group_lines, groups_lines, minimum_text, own_name_text, heading, round_lines}
use Rattle.scr_slots.specs.declared.settings.Settings.{Settings}
use Rattle.scr_slots.specs.Promised.{Promised}
use Rattle.scr_slots.specs.Slots.{Scrambling}
use Rattle.scr_slots.specs.Agreement.{TextAgrees}
use Rattle.scr_sheet.specs.Check.{ListLine, list_lines}

-- an element of a list of which each has a property
pub all-at : {X : Type 0} (P : X → Type 0) (xs : List X) (k : ℕ) (x : X) → All P xs → slice_get xs k ≡ Some x → P x
all-at P xs k x all is = subst P (get_or_from_slice_get xs k x x is) (All-get_or P xs k x (slice_get_within xs k x is) all)

-- a fixed text, or a label, has few bytes
abbrev pub IsShort : Line → Type 0
IsShort (Fixed own) = length own ≤ 1300
IsShort (Slot label slot) = length label ≤ 20

-- ---- a round

labels-short : (number own : ℕ) → number + own < 100 → All (λ label. length label ≤ 20) (labels_from number own)
labels-short number zero few = grind (arith, All-cons, All-nil)
labels-short number (suc own) few =
    let digits = length-decimal-le 2 number (omega arith) (omega arith) (omega arith) in
    let size = length-append (decimal number) (codes ". ") in
    All-cons (λ label. length label ≤ 20) (decimal number ++ codes ". ") (labels_from (number + 1) own) (omega (arith, digits, size))
    (labels-short (number + 1) own (omega arith))

slot_lines-short : (labels : List (List ℕ)) (slot : ℕ) → All (λ label. length label ≤ 20) labels
    → All IsShort (slot_lines labels slot)
slot_lines-short [] slot all = All-nil IsShort
slot_lines-short (label ∷ labels) slot all =
    let P : List ℕ → Type 0 = λ l. length l ≤ 20 in
    All-cons IsShort (Slot label slot) (slot_lines labels (slot + 1)) (All-head P label labels all)
    (slot_lines-short labels (slot + 1) (All-tail P label labels all))

group_lines-short : (own letter slot : ℕ) → own < 90 → All IsShort (group_lines own letter slot)
group_lines-short own letter slot few =
    let slots = slot_lines-short (labels_from 1 own) slot (labels-short 1 own (omega arith)) in
    All-cons IsShort (Fixed (codes "Group " ++ letter ∷ [])) (slot_lines (labels_from 1 own) slot ++ Fixed [] ∷ []) (lit≤ tt)
    (All-append IsShort (slot_lines (labels_from 1 own) slot) (Fixed [] ∷ []) slots (All-cons IsShort (Fixed []) [] (lit≤ tt) (All-nil IsShort)))

groups_lines-short : (own groups letter slot : ℕ) → own < 90 → All IsShort (groups_lines own groups letter slot)
groups_lines-short own zero letter slot few = All-nil IsShort
groups_lines-short own (suc more) letter slot few =
    let more = groups_lines-short own more (letter + 1) (slot + (own + 2)) few in
    search (arith, rules, All-append, group_lines-short)

minimum-short : (minima : Option Minima) (least : ℕ) → least < 100 → length (minimum_text minima least) ≤ 20
minimum-short None least few = lit≤ tt
minimum-short (Some minima) least few = grind (arith, length-decimal-le, length-append)

own_name-short : (name : List ℕ) → (has_bytes name ≡ true → IsName name) → length (own_name_text name) ≤ 100
own_name-short [] named = lit≤ tt
own_name-short (byte ∷ name) named = grind (arith, is_name-HasNameBytes)

joined-short : (number name minimum own : List ℕ) → length number + length name + length minimum + length own ≤ 1290
    → length (codes "Round " ++ number ++ codes ": " ++ name ++ minimum ++ own) ≤ 1300
joined-short number name minimum own few = grind (arith, length-append)

heading-short : (k : ℕ) (round : Round) → k < 256 → IsRound round → length (heading k round) ≤ 1300
heading-short k round below is =
    let digits = length-decimal-le 3 (k + 1) (omega arith) (omega arith) (omega arith) in
    let name = leb-true (length (name_of round.event)) 40 (each_passes (λ e. nat_le (length (name_of e)) 40) refl round.event) in
    let greatest = leb-true (greatest_of round.event) 15 (each_passes (λ e. nat_le (greatest_of e) 15) refl round.event) in
    let minimum = minimum-short (minima_of round.event) round.least (omega (arith, greatest, is.least)) in
    let own = own_name-short round.name is.name in
    joined-short (decimal (k + 1)) (name_of round.event) (minimum_text (minima_of round.event) round.least) (own_name_text round.name)
    (omega (arith, digits, name, minimum, own))

round_lines-short : (k : ℕ) (round : Round) → k < 256 → IsRound round → All IsShort (round_lines k round)
round_lines-short k round below is = grind (arith, leb-true, each_passes, All-cons, heading-short, groups_lines-short)

-- ---- a list

pub list_lines-short : (k : ℕ) (rounds : List Round) → k + length rounds ≤ 256 → All IsRound rounds
    → All (λ (line : ListLine). IsShort line.line) (list_lines k rounds)
list_lines-short k [] few each = All-nil (λ (line : ListLine). IsShort line.line)
list_lines-short k (round ∷ rounds) few each =
    let P : ListLine → Type 0 = λ line. IsShort line.line in
    let own = round_lines-short k round (omega arith) (All-head IsRound round rounds each) in
    let at : Line → ListLine = λ line. record { k = k; round = round; line = line } in
    All-append P (map at (round_lines k round)) (list_lines (k + 1) rounds) (All-map P at (round_lines k round) own)
    (list_lines-short (k + 1) rounds (omega arith) (All-tail IsRound round rounds each))

-- ---- texts that agree

-- a scramble's text has at most 1,280 bytes
pub agreed-short : {promised : Promised} (scrambling : Scrambling promised) (settings : Settings) (least stream : ℕ) (text : List ℕ)
    → TextAgrees scrambling settings least stream text → length text ≤ 1280
agreed-short scrambling settings least stream text it =
    let size = length-text_of it.scramble.event it.scramble.turns it.written.permitted in
    let room = it.written.room in
    subst (λ t. length t ≤ 1280) it.is (omega (arith, size, room))
