-- Texts without controls.
use Rattle.std.proofs.Common.{◌≡◌, ℕ, ◌+◌, ◌<◌, ◌^◌, true, List, [], ◌∷◌, ◌++◌, refl, arith, ltb-true}
use Rattle.std.specs.Prelude.{codes, nat_lt}
use Rattle.std.specs.Fmt.{decimal}
use Rattle.std.specs.List.{list_all}
use Rattle.std.proofs.lemmas.List.Sums.{AllPass-from_list_all}
use Rattle.std.proofs.lemmas.List.Elements.{All-nil, All-cons, All-append}
use Rattle.scr_notation.specs.declared.event.Event.{Event}
use Rattle.scr_notation.specs.declared.event.Event.TheVariants.{C222}
use Rattle.scr_notation.specs.Event.{name_of}
use Rattle.scr_text.proofs.LineLaws.{decimal-plain}
use Rattle.scr_layout.specs.Group.{Group, IsGroup}
use Rattle.scr_layout.specs.Shown.{HasNoControl}
use Rattle.scr_layout.specs.Texts.{group_letter, title_of, place_of, own_name, round_line_of, tag_of}
use Rattle.scr_text_pages.specs.Slots.{cut_text_of}
use Rattle.scr_text_pages.specs.Adding.{IsPlainLine}

-- a text that is known
pub plain-known : (text : List ℕ) → list_all (λ byte. nat_lt 31 byte) text ≡ true → IsPlainLine text
plain-known text pass =
    let each = AllPass-from_list_all (λ byte. nat_lt 31 byte) text pass in
    λ k d below. ltb-true 31 _ (each k d below)

pub plain-append : (xs ys : List ℕ) → IsPlainLine xs → IsPlainLine ys → IsPlainLine (xs ++ ys)
plain-append xs ys first second = All-append (λ byte. 31 < byte) xs ys first second

pub plain-decimal : (n : ℕ) → n < 2 ^ 64 → IsPlainLine (decimal n)
plain-decimal n low = let each = decimal-plain n low in λ k d below. let above = each k d below in omega (arith, above)

pub plain-shown : (text : List ℕ) → HasNoControl text → IsPlainLine text
plain-shown text none = λ k d below. let above = none k d below in omega (arith, above)

pub plain-one : (byte : ℕ) → 31 < byte → IsPlainLine (byte ∷ [])
plain-one byte above = All-cons (λ b. 31 < b) byte [] above (All-nil (λ b. 31 < b))

pub plain-name : (event : Event) → IsPlainLine (name_of event)
plain-name C222 = plain-known (name_of C222) refl
plain-name event = plain-known (name_of event) refl

plain-group_letter : (group : Group) → IsPlainLine (group_letter group)
plain-group_letter group =
    plain-append (codes "group ") ((65 + group.number) ∷ []) (plain-known (codes "group ") refl) (plain-one (65 + group.number) (omega arith))

plain-place : (group : Group) → IsGroup group → IsPlainLine (place_of group)
plain-place group is =
    plain-append (decimal group.event_round ++ codes " of ") (decimal group.event_rounds)
    (plain-append (decimal group.event_round) (codes " of ") (plain-decimal group.event_round (omega (arith, is.event_round, is.event_rounds))) (plain-known (codes " of ") refl))
    (plain-decimal group.event_rounds (omega (arith, is.event_rounds)))

pub plain-title : (group : Group) → IsGroup group → IsPlainLine (title_of group)
plain-title group is =
    plain-append (name_of group.event ++ codes ", " ++ group_letter group ++ codes " of ") (decimal group.groups)
    (plain-append (name_of group.event ++ codes ", " ++ group_letter group) (codes " of ")
    (plain-append (name_of group.event ++ codes ", ") (group_letter group)
    (plain-append (name_of group.event) (codes ", ") (plain-name group.event) (plain-known (codes ", ") refl)) (plain-group_letter group))
    (plain-known (codes " of ") refl))
    (plain-decimal group.groups (omega (arith, is.groups)))

plain-own_name : (name : List ℕ) → IsPlainLine name → IsPlainLine (own_name name)
plain-own_name [] plain = plain
plain-own_name (byte ∷ name) plain = plain-append (codes ": ") (byte ∷ name) (plain-known (codes ": ") refl) plain

pub plain-round_line : (group : Group) → IsGroup group → IsPlainLine (round_line_of group)
plain-round_line group is =
    plain-append (codes "Round " ++ place_of group) (own_name group.name)
    (plain-append (codes "Round ") (place_of group) (plain-known (codes "Round ") refl) (plain-place group is))
    (plain-own_name group.name (plain-shown group.name is.name))

plain-tag : (group : Group) → IsGroup group → IsPlainLine (tag_of group)
plain-tag group is =
    plain-append (codes "round " ++ place_of group ++ codes ", ") (group_letter group)
    (plain-append (codes "round " ++ place_of group) (codes ", ")
    (plain-append (codes "round ") (place_of group) (plain-known (codes "round ") refl) (plain-place group is))
    (plain-known (codes ", ") refl))
    (plain-group_letter group)

pub plain-cut_text : (group : Group) → IsGroup group → IsPlainLine (cut_text_of group)
plain-cut_text group is =
    plain-append (name_of group.event ++ codes ", ") (tag_of group)
    (plain-append (name_of group.event) (codes ", ") (plain-name group.event) (plain-known (codes ", ") refl)) (plain-tag group is)
