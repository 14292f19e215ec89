-- A line that may stand at a place is read in one way, and a text in one way.
use Rattle.std.proofs.Common.{◌≡◌, ℕ, ◌+◌, ◌<◌, ◌≤◌, List, [], ◌∷◌, ◌++◌, refl, sym, ap, subst, ◌∙◌, arith, leb-true}
use Rattle.std.specs.Prelude.{All, codes, nat_le}
use Rattle.std.proofs.lemmas.List.{append_cancel_left}
use Rattle.std.proofs.lemmas.List.Elements.{All-head, All-tail}
use Rattle.std.proofs.lemmas.List.Folds.{list_any-append}
use Rattle.scr_notation.specs.declared.event.Event.{Event}
use Rattle.scr_notation.specs.Event.{per_group_of}
use Rattle.scr_notation.specs.Spelling.{text_of}
use Rattle.scr_notation.proofs.EachEvent.{each_passes}
use Rattle.scr_notation.proofs.ReadLaws.{one-scramble}
use Rattle.scr_round.specs.Round.{labels_from, heading}
use Rattle.scr_round.proofs.CleanLaws.{apart, either, joined, text-clean, one-clean, labels-clean, heading-clean}
use Rattle.scr_read.specs.declared.piece.Piece.{Piece}
use Rattle.scr_read.specs.declared.piece.Piece.TheVariants as piece
use Rattle.scr_read.specs.Heads.{HeadOf}
use Rattle.scr_read.specs.Reading.{Place, Start, Between, InGroup, rounds_begun, IsWhole, as_round, IsHeadLine, IsLine, IsRead, IsAtFault}
use Rattle.scr_read.specs.Faults.{IsOneLine}
use Rattle.scr_read.proofs.HeadLemmas.{one_head}

-- ---- one reading of a line

same_head : (place : Place) (line : List ℕ) (a b : HeadOf) (next other : Place) → IsHeadLine place line a next → IsHeadLine place line b other
    → (piece.Head a ≡ piece.Head b) × (next ≡ other)
same_head place line a b next other one two =
    let same = one_head (rounds_begun place) line a b one.is_head two.is_head in
    (ap piece.Head same, one.next_is ∙ ap (λ (h : HeadOf). Between (rounds_begun place + 1) h.event 0) same ∙ sym two.next_is)

no_head : (k : ℕ) (head : HeadOf) (line letters : List ℕ) → line ≡ heading k (as_round head) → line ≡ codes "Group " ++ letters → ⊥
no_head k head line letters one two = grind arith

pub one_line : (place : Place) (line : List ℕ) (x y : Piece) (next other : Place) → IsLine place line x next → IsLine place line y other
    → (x ≡ y) × (next ≡ other)
one_line Start line (piece.Head a) (piece.Head b) next other one two = same_head Start line a b next other one two
one_line (Between rounds event groups) line (piece.Head a) (piece.Head b) next other one two =
    same_head (Between rounds event groups) line a b next other one two
one_line (Between rounds event groups) line (piece.Head a) (piece.Group m) next other one two =
    absurd (no_head rounds a line ((65 + groups) ∷ []) one.is_head.is two.2)
one_line (Between rounds event groups) line (piece.Group n) (piece.Head b) next other one two =
    absurd (no_head rounds b line ((65 + groups) ∷ []) two.is_head.is one.2)
one_line (Between rounds event groups) line (piece.Group n) (piece.Group m) next other one two = grind arith
one_line (InGroup rounds event groups []) line piece.GroupEnd piece.GroupEnd next other one two = (refl, one.1 ∙ sym two.1)
one_line (InGroup rounds event groups (label ∷ labels)) line (piece.Slot s) (piece.Slot t) next other one two =
    let same = append_cancel_left label (text_of t.turns) (text_of s.turns) (sym two.2 ∙ one.2) in
    (ap piece.Slot (one-scramble s t one.0 two.0 (two.1 ∙ sym one.1) same), one.3 ∙ sym two.3)
one_line place line x y next other one two = search

-- ---- lines have no line feed in them

-- the numbers of a place are those of a sheet, and its labels have no line feed
abbrev pub IsFit : Place → Type 0
IsFit Start = Unit {0}
IsFit (Between rounds event groups) = groups ≤ 26
IsFit (InGroup rounds event groups labels) = (groups < 26) × All IsOneLine labels

pub labels-fit : (event : Event) → All IsOneLine (labels_from 1 (per_group_of event))
labels-fit event =
    let few = leb-true (per_group_of event) 5 (each_passes (λ e. nat_le (per_group_of e) 5) refl event) in
    labels-clean 1 (per_group_of event) (omega (arith, few))

head-clean : (place : Place) (line : List ℕ) (head : HeadOf) (next : Place) → IsHeadLine place line head next → IsOneLine line
head-clean place line head next is =
    subst IsOneLine (sym is.is_head.is) (heading-clean (rounds_begun place) (as_round head) is.few is.is_head.round)

pub clean : (place : Place) (line : List ℕ) (x : Piece) (next : Place) → IsFit place → IsLine place line x next → IsOneLine line
clean Start line (piece.Head a) next fit is = head-clean Start line a next is
clean (Between rounds event groups) line (piece.Head a) next fit is = head-clean (Between rounds event groups) line a next is
clean (Between rounds event groups) line (piece.Group n) next fit is = grind (arith, joined, one-clean)
clean (InGroup rounds event groups []) line piece.GroupEnd next fit is = subst IsOneLine (sym is.0) refl
clean (InGroup rounds event groups (label ∷ labels)) line (piece.Slot s) next fit is =
    subst IsOneLine (sym is.2) (joined label (text_of s.turns) (All-head IsOneLine label labels fit.1) (text-clean s.turns))
clean place line x next fit is = search

pub fit_next : (place : Place) (line : List ℕ) (x : Piece) (next : Place) → IsFit place → IsLine place line x next → IsFit next
fit_next Start line (piece.Head a) next fit is = subst IsFit (sym is.next_is) (omega arith)
fit_next (Between rounds event groups) line (piece.Head a) next fit is = subst IsFit (sym is.next_is) (omega arith)
fit_next (Between rounds event groups) line (piece.Group n) next fit is = subst IsFit (sym is.3) (is.1, labels-fit event)
fit_next (InGroup rounds event groups []) line piece.GroupEnd next fit is = grind arith
fit_next (InGroup rounds event groups (label ∷ labels)) line (piece.Slot s) next fit is =
    subst IsFit (sym is.3) (fit.0, All-tail IsOneLine label labels fit.1)
fit_next place line x next fit is = search

-- ---- a text

pub no_end : (line behind : List ℕ) → [] ≡ line ++ 10 ∷ behind → ⊥
no_end [] behind is = cc
no_end (byte ∷ line) behind is = cc

-- a text without a line feed isn't cut
pub not_cut : (text line behind : List ℕ) → IsOneLine text → text ≡ line ++ 10 ∷ behind → ⊥
not_cut text line behind one is = grind (arith, list_any-append, either)

-- what is left after a line that was read: the pieces behind the one that it was read as
pub record GoesOn (piece : Piece) (next : Place) (behind : List ℕ) (pieces : List Piece) : Type 0 where
  pub others : List Piece
  pub are : pieces ≡ piece ∷ others
  pub read : IsRead next behind others

pub goes_on : (place : Place) (rest line behind : List ℕ) (x : Piece) (next : Place) → IsFit place → rest ≡ line ++ 10 ∷ behind
    → IsLine place line x next → (pieces : List Piece) → IsRead place rest pieces → GoesOn x next behind pieces
goes_on place rest line behind x next fit cut is [] read = absurd (no_end line behind (sym read.1 ∙ cut))
goes_on place rest line behind x next fit cut is (y ∷ pieces) read =
    let one = clean place line x next fit is in
    let two = clean place read.0 y read.2 fit read.4 in
    let both = apart 10 line behind read.0 read.1 refl one two (sym cut ∙ read.3) in
    let same = one_line place line x y next read.2 is (subst (λ l. IsLine place l y read.2) (sym both.0) read.4) in
    record {
      others = pieces;
      are = ap (λ z. z ∷ pieces) (sym same.0);
      read = subst (λ n. IsRead n behind pieces) (sym same.1) (subst (λ r. IsRead read.2 r pieces) (sym both.1) read.5);
    }

-- ---- faults

pub bad_line : (place : Place) (rest line behind : List ℕ) → IsFit place → IsOneLine line → rest ≡ line ++ 10 ∷ behind
    → ((x : Piece) (next : Place) → IsLine place line x next → ⊥) → IsAtFault place rest
bad_line place rest line behind fit one cut none = record {
  no_end = λ whole is. no_end line behind (sym is ∙ cut);
  no_line = λ other more x next is of_place.
      let both = apart 10 line behind other more refl one (clean place other x next fit of_place) (sym cut ∙ is) in
      none x next (subst (λ l. IsLine place l x next) (sym both.0) of_place);
}

pub no_more : (place : Place) (rest : List ℕ) → IsOneLine rest → (IsWhole place → rest ≡ [] → ⊥) → IsAtFault place rest
no_more place rest one none = grind (arith, no_end, not_cut)

pub fault_unread : (place : Place) (rest : List ℕ) → IsAtFault place rest → (pieces : List Piece) → IsRead place rest pieces → ⊥
fault_unread place rest fault [] read = fault.no_end read.0 read.1
fault_unread place rest fault (x ∷ pieces) read = fault.no_line read.0 read.1 x read.2 read.3 read.4
