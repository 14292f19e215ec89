-- A text that is read to its end is a sheet, of one list of rounds.
use Rattle.std.proofs.Common.{◌≡◌, ℕ, suc, ◌+◌, ◌≤◌, List, [], ◌∷◌, ◌++◌, length, refl, sym, ap, subst, ◌∙◌, arith, append_assoc}
use Rattle.std.specs.Prelude.{All, codes}
use Rattle.std.proofs.lemmas.List.{append-nil}
use Rattle.std.proofs.lemmas.List.Elements.{All-tail, All-nil, All-cons}
use Rattle.scr_notation.specs.declared.event.Event.{Event}
use Rattle.scr_notation.specs.declared.turn.Turn.{Turn}
use Rattle.scr_notation.specs.Event.{per_group_of}
use Rattle.scr_notation.specs.Spelling.{text_of}
use Rattle.scr_notation.specs.Written.{Written, IsWritten}
use Rattle.scr_round.specs.Round.{labels_from, heading}
use Rattle.scr_round.proofs.LineLaws.{length-labels_from}
use Rattle.scr_read.specs.declared.piece.Piece.{Piece}
use Rattle.scr_read.specs.declared.piece.Piece.TheVariants as piece
use Rattle.scr_read.specs.Heads.{HeadOf}
use Rattle.scr_read.specs.Sheets.{SheetRound, listed, AreGroup, IsSheetRound, text_from, IsSheet}
use Rattle.scr_read.specs.Reading.{Place, Start, Between, InGroup, rounds_begun, head_of, slot_pieces, group_pieces, pieces_of, IsHeading, IsRead}
use Rattle.scr_read.proofs.StepLemmas.{IsFit, no_end, goes_on, labels-fit}
use Rattle.scr_read.proofs.TextLemmas.{slots_text, groups_text, round_text-is}
use Rattle.scr_read.proofs.SheetLemmas.{IsOf, sheet_read}

-- ---- the rounds of a text

-- rounds from round k on
record AreRounds (k : ℕ) (text : List ℕ) (pieces : List Piece) : Type 0 where
  rounds : List SheetRound
  text_is : text ≡ text_from k rounds
  pieces_are : pieces ≡ pieces_of rounds
  each : All IsSheetRound rounds
  few : k + length rounds ≤ 256

-- the groups that are left of a round, before which so many were read, and then rounds
record AreGroups (k : ℕ) (event : Event) (done : ℕ) (text : List ℕ) (pieces : List Piece) : Type 0 where
  groups : List (List (List Turn))
  rounds : List SheetRound
  text_is : text ≡ groups_text (per_group_of event) (65 + done) groups (text_from k rounds)
  pieces_are : pieces ≡ group_pieces event done groups ++ pieces_of rounds
  are : All (AreGroup event) groups
  some_groups : 1 ≤ done + length groups
  few_groups : done + length groups ≤ 26
  each : All IsSheetRound rounds
  few : k + length rounds ≤ 256

-- the slots that are left of a group, and then groups and rounds
record AreSlots (k : ℕ) (event : Event) (done : ℕ) (labels : List (List ℕ)) (text : List ℕ) (pieces : List Piece) : Type 0 where
  group : List (List Turn)
  groups : List (List (List Turn))
  rounds : List SheetRound
  text_is : text ≡ slots_text labels group ([] ++ 10 ∷ groups_text (per_group_of event) (65 + done + 1) groups (text_from k rounds))
  pieces_are : pieces ≡ slot_pieces event group ++ piece.GroupEnd ∷ (group_pieces event (done + 1) groups ++ pieces_of rounds)
  size : length group ≡ length labels
  of_event : All (IsOf event) group
  are : All (AreGroup event) groups
  few_groups : done + 1 + length groups ≤ 26
  each : All IsSheetRound rounds
  few : k + length rounds ≤ 256

abbrev Parsed : Place → List ℕ → List Piece → Type 0
Parsed Start text pieces = AreRounds 0 text pieces
Parsed (Between rounds event groups) text pieces = AreGroups rounds event groups text pieces
Parsed (InGroup rounds event groups labels) text pieces = AreSlots rounds event groups labels text pieces

-- a head before the groups of its round
headed : (k : ℕ) (text line rest : List ℕ) (head : HeadOf) (pieces : List Piece) → text ≡ line ++ 10 ∷ rest → IsHeading k line head
    → AreGroups (k + 1) head.event 0 rest pieces → AreRounds k text (piece.Head head ∷ pieces)
headed k text line rest head pieces cut is it =
    let round : SheetRound = record { event = head.event; least = head.least; name = head.name; groups = it.groups } in
    let some = it.some_groups in
    let most = it.few_groups in
    let few = it.few in
    record {
      rounds = round ∷ it.rounds;
      text_is =
          cut ∙ ap (λ l. l ++ 10 ∷ rest) is.is ∙ ap (λ t. heading k (listed round) ++ 10 ∷ t) it.text_is
          ∙ sym (round_text-is k round (text_from (k + 1) it.rounds) it.are);
      pieces_are = ap (λ p. piece.Head head ∷ p) it.pieces_are;
      each = All-cons IsSheetRound round it.rounds (record {
        listed = record { some_groups = omega (arith, some); few_groups = omega (arith, most); least = is.round.least; name = is.round.name };
        groups = it.are;
      }) it.each;
      few = omega (arith, few);
    }

pub own_scramble : (s : Written) (event : Event) → s.event ≡ event → s ≡ record { event = event; turns = s.turns }
own_scramble s event is = ap (λ e. record { event = e; turns = s.turns }) is

parse : (place : Place) (pieces : List Piece) (text : List ℕ) → IsFit place → rounds_begun place ≤ 256 → IsRead place text pieces
    → Parsed place text pieces
parse Start [] text fit begun read = grind (arith, All-nil)
parse Start (piece.Head head ∷ pieces) text fit begun read =
    let is = read.4 in
    let more = subst (λ n. IsRead n read.1 pieces) is.next_is read.5 in
    headed 0 text read.0 read.1 head pieces read.3 is.is_head (parse (Between 1 head.event 0) pieces read.1 (omega arith) (omega arith) more)
parse (Between rounds event done) [] text fit begun read =
    let whole = read.0 in
    record {
      groups = [];
      rounds = [];
      text_is = read.1;
      pieces_are = refl;
      are = All-nil (AreGroup event);
      some_groups = omega (arith, whole);
      few_groups = omega (arith, fit);
      each = All-nil IsSheetRound;
      few = omega (arith, begun);
    }
parse (Between rounds event done) (piece.Head head ∷ pieces) text fit begun read =
    let is = read.4 in
    let more = subst (λ n. IsRead n read.1 pieces) is.next_is read.5 in
    let below = is.few in
    let whole = is.whole in
    let behind = parse (Between (rounds + 1) head.event 0) pieces read.1 (omega arith) (omega (arith, below)) more in
    let it = headed rounds text read.0 read.1 head pieces read.3 is.is_head behind in
    record {
      groups = [];
      rounds = it.rounds;
      text_is = it.text_is;
      pieces_are = it.pieces_are;
      are = All-nil (AreGroup event);
      some_groups = omega (arith, whole);
      few_groups = omega (arith, fit);
      each = it.each;
      few = it.few;
    }
parse (Between rounds event done) (piece.Group n ∷ pieces) text fit begun read =
    let is = read.4 in
    let labels = labels_from 1 (per_group_of event) in
    let name = codes "Group " ++ (65 + done) ∷ [] in
    let below = is.1 in
    let more = subst (λ p. IsRead p read.1 pieces) is.3 read.5 in
    let it = parse (InGroup rounds event done labels) pieces read.1 (below, labels-fit event) begun more in
    let most = it.few_groups in
    let group_is : AreGroup event it.group = record { each_slot = it.size ∙ length-labels_from 1 (per_group_of event); each = it.of_event } in
    record {
      groups = it.group ∷ it.groups;
      rounds = it.rounds;
      text_is = read.3 ∙ ap (λ l. l ++ 10 ∷ read.1) is.2 ∙ ap (λ t. name ++ 10 ∷ t) it.text_is;
      pieces_are =
          ap (λ k. piece.Group k ∷ pieces) is.0 ∙ ap (λ p. piece.Group done ∷ p) it.pieces_are
          ∙ ap (λ p. piece.Group done ∷ p)
          (sym (append_assoc (slot_pieces event it.group) (piece.GroupEnd ∷ group_pieces event (done + 1) it.groups) (pieces_of it.rounds)));
      are = All-cons (AreGroup event) it.group it.groups group_is it.are;
      some_groups = omega arith;
      few_groups = omega (arith, most);
      each = it.each;
      few = it.few;
    }
parse (InGroup rounds event done []) (piece.GroupEnd ∷ pieces) text fit begun read =
    let is = read.4 in
    let below = fit.0 in
    let more = subst (λ p. IsRead p read.1 pieces) is.1 read.5 in
    let it = parse (Between rounds event (done + 1)) pieces read.1 (omega (arith, below)) begun more in
    let letter : 65 + (done + 1) ≡ 65 + done + 1 = omega arith in
    record {
      group = [];
      groups = it.groups;
      rounds = it.rounds;
      text_is =
          read.3 ∙ ap (λ l. l ++ 10 ∷ read.1) is.0 ∙ ap (λ t. [] ++ 10 ∷ t) it.text_is
          ∙ ap (λ k. [] ++ 10 ∷ groups_text (per_group_of event) k it.groups (text_from rounds it.rounds)) letter;
      pieces_are = ap (λ p. piece.GroupEnd ∷ p) it.pieces_are;
      size = refl;
      of_event = All-nil (IsOf event);
      are = it.are;
      few_groups = it.few_groups;
      each = it.each;
      few = it.few;
    }
parse (InGroup rounds event done (label ∷ labels)) (piece.Slot s ∷ pieces) text fit begun read =
    let is = read.4 in
    let more = subst (λ p. IsRead p read.1 pieces) is.3 read.5 in
    let it = parse (InGroup rounds event done labels) pieces read.1 (fit.0, All-tail Rattle.scr_read.specs.Faults.IsOneLine label labels fit.1) begun more in
    let own = own_scramble s event is.1 in
    let size = it.size in
    record {
      group = s.turns ∷ it.group;
      groups = it.groups;
      rounds = it.rounds;
      text_is = read.3 ∙ ap (λ l. l ++ 10 ∷ read.1) is.2 ∙ ap (λ t. (label ++ text_of s.turns) ++ 10 ∷ t) it.text_is;
      pieces_are = ap (λ x. piece.Slot x ∷ pieces) own ∙ ap (λ p. piece.Slot (record { event = event; turns = s.turns }) ∷ p) it.pieces_are;
      size = ap suc size;
      of_event = All-cons (IsOf event) s.turns it.group (subst IsWritten own is.0) it.of_event;
      are = it.are;
      few_groups = it.few_groups;
      each = it.each;
      few = it.few;
    }
parse place pieces text fit begun read = search

pub sheet_of : (text : List ℕ) (pieces : List Piece) → IsRead Start text pieces
    → (rounds : List SheetRound) × IsSheet text rounds × (pieces ≡ pieces_of rounds)
sheet_of text pieces read =
    let it = parse Start pieces text tt (omega arith) read in
    let few = it.few in
    (it.rounds, record { is = it.text_is; each = it.each; few = omega (arith, few) }, it.pieces_are)

-- ---- one reading

pub one_reading : (place : Place) (text : List ℕ) (xs ys : List Piece) → IsFit place → IsRead place text xs → IsRead place text ys → xs ≡ ys
one_reading place text [] [] fit one two = refl
one_reading place text [] (y ∷ ys) fit one two = absurd (no_end two.0 two.1 (sym one.1 ∙ two.3))
one_reading place text (x ∷ xs) ys fit one two =
    let it = goes_on place text one.0 one.1 x one.2 fit one.3 one.4 ys two in
    let next = Rattle.scr_read.proofs.StepLemmas.fit_next place one.0 x one.2 fit one.4 in
    ap (λ zs. x ∷ zs) (one_reading one.2 one.1 xs it.others next one.5 it.read) ∙ sym it.are

-- what pieces leave, read from behind: slots of a group, groups of a round, rounds
record Left : Type 0 where
  slots : List (List Turn)
  groups : List (List (List Turn))
  rounds : List SheetRound

left_with : Piece → Left → Left
left_with (piece.Head head) left = record {
  slots = [];
  groups = [];
  rounds = record { event = head.event; least = head.least; name = head.name; groups = left.groups } ∷ left.rounds;
}
left_with (piece.Group n) left = record { slots = []; groups = left.slots ∷ left.groups; rounds = left.rounds }
left_with (piece.Slot s) left = record { slots = s.turns ∷ left.slots; groups = left.groups; rounds = left.rounds }
left_with piece.GroupEnd left = record { slots = []; groups = left.groups; rounds = left.rounds }

left_of : List Piece → Left
left_of [] = record { slots = []; groups = []; rounds = [] }
left_of (x ∷ pieces) = left_with x (left_of pieces)

slots_left : (event : Event) (group : List (List Turn)) (pieces : List Piece)
    → left_of (slot_pieces event group ++ pieces)
    ≡ record { slots = group ++ (left_of pieces).slots; groups = (left_of pieces).groups; rounds = (left_of pieces).rounds }
unfolding left_of left_with
slots_left event [] pieces = refl
slots_left event (turns ∷ group) pieces = grind (arith, left_with, slots_left event group pieces)

groups_left : (event : Event) (n : ℕ) (groups : List (List (List Turn))) (pieces : List Piece) (rounds : List SheetRound)
    → left_of pieces ≡ record { slots = []; groups = []; rounds = rounds }
    → left_of (group_pieces event n groups ++ pieces) ≡ record { slots = []; groups = groups; rounds = rounds }
unfolding left_of left_with
groups_left event n [] pieces rounds is = is
groups_left event n (group ∷ groups) pieces rounds is =
    let more = groups_left event (n + 1) groups pieces rounds is in
    grind (arith, left_of, append_assoc, left_with, slots_left, append-nil)

rounds_left : (rounds : List SheetRound) → left_of (pieces_of rounds) ≡ record { slots = []; groups = []; rounds = rounds }
unfolding left_of left_with
rounds_left [] = refl
rounds_left (round ∷ rounds) =
    ap (left_with (piece.Head (head_of round))) (groups_left round.event 0 round.groups (pieces_of rounds) rounds (rounds_left rounds))

pub one_sheet : (text : List ℕ) (rounds others : List SheetRound) → IsSheet text rounds → IsSheet text others → rounds ≡ others
one_sheet text rounds others one two =
    let same = one_reading Start text (pieces_of rounds) (pieces_of others) tt (sheet_read text rounds one) (sheet_read text others two) in
    ap (λ (l : Left). l.rounds) (sym (rounds_left rounds) ∙ ap left_of same ∙ rounds_left others)
