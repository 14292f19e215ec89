-- Lines that were read, and what may follow them.
use Rattle.std.proofs.Common.{◌≡◌, inl, inr, ℕ, zero, suc, ◌+◌, ◌<◌, List, [], ◌∷◌, ◌++◌, length, map, refl, sym, ap, subst, ◌∙◌, arith, append_assoc, length-append, lit<, lit≤}
use Rattle.std.specs.Prelude.{All, Option, Some, None, Ok, Err}
use Rattle.std.proofs.lemmas.List.Elements.{All-nil, All-cons}
use Rattle.scr_notation.specs.declared.event.Event.{Event}
use Rattle.scr_notation.specs.declared.turn.Turn.{Turn}
use Rattle.scr_notation.specs.Event.{per_group_of}
use Rattle.scr_text.specs.Lines.{text_of_lines}
use Rattle.scr_text.proofs.WrittenLines.{text_of_lines-append}
use Rattle.scr_round.specs.Round.{labels_from}
use Rattle.scr_round.proofs.CleanLaws.{apart}
use Rattle.scr_round.proofs.LineLaws.{length-labels_from}
use Rattle.scr_read.specs.declared.piece.Piece.{Piece}
use Rattle.scr_read.specs.declared.piece.Piece.TheVariants as piece
use Rattle.scr_read.specs.Sheets.{SheetRound, AreGroup, IsSheet}
use Rattle.scr_read.specs.Reading.{Place, Start, Between, InGroup, Reading, slot_pieces, IsLine, IsRead, Walks, IsAtFault, ReadsPiece, fresh}
use Rattle.scr_read.specs.declared.fault.SheetFault.{SheetFault}
use Rattle.scr_read.specs.Steps.{Reads}
use Rattle.scr_read.specs.Faults.{IsOneLine, ShareFirstLine, IsFirstAtFault, IsFirstFault}
use Rattle.scr_read.proofs.StepLemmas.{IsFit, clean, fit_next, goes_on, no_end, fault_unread}
use Rattle.scr_read.proofs.TextLemmas.{slots_text, group_text}
use Rattle.scr_read.proofs.SheetLemmas.{IsOf, slots_read, group_read, sheet_read}
use Rattle.scr_read.proofs.OnlyLemmas.{sheet_of}

walk_more : (place : Place) (lines : List (List ℕ)) (end : Place) (line : List ℕ) (x : Piece) (next : Place) → Walks place lines end
    → IsLine end line x next → Walks place (lines ++ line ∷ []) next
walk_more place [] end line x next walks is = (x, next, subst (λ p. IsLine p line x next) (sym walks) is, refl)
walk_more place (first ∷ lines) end line x next walks is =
    (walks.0, walks.1, walks.2, walk_more walks.1 lines end line x next walks.3 is)

walk_fit : (place : Place) (lines : List (List ℕ)) (end : Place) → IsFit place → Walks place lines end → IsFit end
walk_fit place [] end fit walks = subst IsFit walks fit
walk_fit place (line ∷ lines) end fit walks =
    walk_fit walks.1 lines end (fit_next place line walks.0 walks.1 fit walks.2) walks.3

walk_clean : (place : Place) (lines : List (List ℕ)) (end : Place) → IsFit place → Walks place lines end → All IsOneLine lines
walk_clean place [] end fit walks = All-nil IsOneLine
walk_clean place (line ∷ lines) end fit walks =
    let more = walk_clean walks.1 lines end (fit_next place line walks.0 walks.1 fit walks.2) walks.3 in
    grind (arith, All-cons, clean, fit_next)

walk_read : (place : Place) (lines : List (List ℕ)) (end : Place) (rest : List ℕ) (pieces : List Piece) → Walks place lines end
    → IsRead end rest pieces → (all : List Piece) × IsRead place (text_of_lines lines ++ rest) all
walk_read place [] end rest pieces walks read = (pieces, subst (λ p. IsRead p rest pieces) (sym walks) read)
walk_read place (line ∷ lines) end rest pieces walks read =
    let behind = walk_read walks.1 lines end rest pieces walks.3 read in (
      walks.0 ∷ behind.0,
      (line, text_of_lines lines ++ rest, walks.1, append_assoc line (10 ∷ text_of_lines lines) rest, walks.2, behind.1),
    )

walk_back : (place : Place) (lines : List (List ℕ)) (end : Place) (rest : List ℕ) (pieces : List Piece) → IsFit place
    → Walks place lines end → IsRead place (text_of_lines lines ++ rest) pieces → (others : List Piece) × IsRead end rest others
walk_back place [] end rest pieces fit walks read = (pieces, subst (λ p. IsRead p rest pieces) walks read)
walk_back place (line ∷ lines) end rest pieces fit walks read =
    let it = goes_on place (text_of_lines (line ∷ lines) ++ rest) line (text_of_lines lines ++ rest) walks.0 walks.1 fit
    (append_assoc line (10 ∷ text_of_lines lines) rest) walks.2 pieces read in
    walk_back walks.1 lines end rest it.others (fit_next place line walks.0 walks.1 fit walks.2) walks.3 it.read

-- ---- every place has some end

empties : List (List ℕ) → List (List Turn)
empties labels = map (λ label. []) labels

empties_of : (event : Event) (labels : List (List ℕ)) → All (IsOf event) (empties labels)
unfolding empties
empties_of event [] = All-nil (IsOf event)
empties_of event (label ∷ labels) = grind (arith, All-cons, empties, All-nil, empties_of event labels)

empties_size : (labels : List (List ℕ)) → length (empties labels) ≡ length labels
unfolding empties
empties_size [] = refl
empties_size (label ∷ labels) = ap suc (empties_size labels)

some_end : (place : Place) → IsFit place → (rest : List ℕ) × (pieces : List Piece) × IsRead place rest pieces
some_end Start fit = ([], [], (tt, refl))
some_end (Between rounds event (suc done)) fit = ([], [], (omega arith, refl))
some_end (Between rounds event zero) fit =
    let labels = labels_from 1 (per_group_of event) in
    let are : AreGroup event (empties labels) =
    record { each_slot = empties_size labels ∙ length-labels_from 1 (per_group_of event); each = empties_of event labels } in (
      group_text (per_group_of event) 65 (empties labels) [],
      piece.Group 0 ∷ slot_pieces event (empties labels) ++ piece.GroupEnd ∷ [],
      group_read rounds event 0 65 (empties labels) [] [] refl (lit< tt) are (lit≤ tt, refl),
    )
some_end (InGroup rounds event done labels) fit =
    let here : IsRead (InGroup rounds event done []) ([] ++ 10 ∷ []) (piece.GroupEnd ∷ []) =
    ([], [], Between rounds event (done + 1), refl, (refl, refl), (omega arith, refl)) in (
      slots_text labels (empties labels) ([] ++ 10 ∷ []),
      slot_pieces event (empties labels) ++ piece.GroupEnd ∷ [],
      slots_read rounds event done labels (empties labels) ([] ++ 10 ∷ []) (piece.GroupEnd ∷ []) (empties_size labels) (empties_of event labels) here,
    )

-- ---- a reader that read lines of a text

pub record HasRead (text : List ℕ) (reader : Reading) : Type 0 where
  pub before : List (List ℕ)
  pub is : text ≡ text_of_lines before ++ reader.rest
  pub count : reader.lines ≡ length before
  pub walks : Walks Start before reader.place

pub read_nothing : (text : List ℕ) (reader : Reading) → reader ≡ fresh text → HasRead text reader
read_nothing text reader is = grind arith

read_more : (text : List ℕ) (reader after : Reading) (x : Piece) → HasRead text reader → ReadsPiece reader after x → HasRead text after
read_more text reader after x has it = grind (arith, length-append, append_assoc, text_of_lines-append, walk_more)

read_all : (text : List ℕ) (reader : Reading) → HasRead text reader → IsRead reader.place reader.rest []
    → (rounds : List SheetRound) × IsSheet text rounds
read_all text reader has read =
    let all = walk_read Start has.before reader.place reader.rest [] has.walks read in
    let it = sheet_of (text_of_lines has.before ++ reader.rest) all.0 all.1 in
    (it.0, subst (λ t. IsSheet t it.0) (sym has.is) it.1)

shared_unread : (place : Place) (rest other : List ℕ) → IsFit place → IsAtFault place rest → ShareFirstLine rest other
    → (pieces : List Piece) → IsRead place other pieces → ⊥
shared_unread place rest other fit fault (inr same) pieces read = grind (arith, fault_unread)
shared_unread place rest other fit fault (inl share) [] read = no_end share.0 share.2 (sym read.1 ∙ share.5)
shared_unread place rest other fit fault (inl share) (x ∷ pieces) read =
    let both = apart 10 share.0 share.2 read.0 read.1 refl share.3 (clean place read.0 x read.2 fit read.4) (sym share.5 ∙ read.3) in
    fault.no_line share.0 share.1 x read.2 share.4 (subst (λ l. IsLine place l x read.2) (sym both.0) read.4)

first_at_fault : (text : List ℕ) (reader : Reading) (number : ℕ) → HasRead text reader → IsAtFault reader.place reader.rest
    → number ≡ reader.lines + 1 → IsFirstAtFault text number
first_at_fault text reader number has fault is =
    let fit = walk_fit Start has.before reader.place tt has.walks in
    let end = some_end reader.place fit in
    let all = walk_read Start has.before reader.place end.0 end.1 has.walks end.2 in
    let sheet = sheet_of (text_of_lines has.before ++ end.0) all.0 all.1 in
    record {
      lines = has.before;
      rest = reader.rest;
      text_is = has.is;
      are_lines = walk_clean Start has.before reader.place tt has.walks;
      number_is = is ∙ ap (λ n. n + 1) has.count;
      begins = (end.0, sheet.0, sheet.1);
      at_fault = λ other rounds share of_sheet.
          let read = sheet_read (text_of_lines has.before ++ other) rounds of_sheet in
          let left = walk_back Start has.before reader.place other _ tt has.walks read in
          shared_unread reader.place reader.rest other fit fault share left.0 left.1;
    }

-- ---- what an answer of the reader tells

pub after_some : (text : List ℕ) (reader after : Reading) (found : Option Piece) (x : Piece) → HasRead text reader
    → Reads reader after (Ok found) → found ≡ Some x → HasRead text after
after_some text reader after (Some y) x has reads is = read_more text reader after y has reads
after_some text reader after None x has reads is = absurd (cc)

pub after_none : (text : List ℕ) (reader after : Reading) (found : Option Piece) → HasRead text reader → Reads reader after (Ok found)
    → found ≡ None → (rounds : List SheetRound) × IsSheet text rounds
after_none text reader after (Some y) has reads is = absurd (cc)
after_none text reader after None has reads is = read_all text reader has (reads.0, reads.1)

pub after_fault : (text : List ℕ) (reader after : Reading) (fault : SheetFault) → HasRead text reader → Reads reader after (Err fault)
    → IsFirstFault text fault
after_fault text reader after fault has reads = record {
  line = first_at_fault text reader fault.line has reads.0 reads.1;
  before = has.before;
  place = reader.place;
  rest = reader.rest;
  text_is = has.is;
  number_is = reads.1 ∙ ap (λ n. n + 1) has.count;
  leads = has.walks;
  cause = reads.2;
}
