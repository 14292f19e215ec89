-- A sheet is read as the pieces of its rounds.
use Rattle.std.proofs.Common.{◌≡◌, ℕ, suc, ◌+◌, ◌<◌, ◌≤◌, List, [], ◌∷◌, ◌++◌, length, refl, sym, ap, subst, arith, append_assoc}
use Rattle.std.specs.Prelude.{All}
use Rattle.std.proofs.lemmas.List.Elements.{All-head, All-tail}
use Rattle.scr_notation.specs.declared.event.Event.{Event}
use Rattle.scr_notation.specs.declared.turn.Turn.{Turn}
use Rattle.scr_notation.specs.Event.{per_group_of}
use Rattle.scr_notation.specs.Written.{IsWritten}
use Rattle.scr_list.specs.Rounds.{IsRound}
use Rattle.scr_round.specs.Round.{heading}
use Rattle.scr_round.proofs.LineLaws.{length-labels_from}
use Rattle.scr_read.specs.declared.piece.Piece.{Piece}
use Rattle.scr_read.specs.declared.piece.Piece.TheVariants as piece
use Rattle.scr_read.specs.Sheets.{SheetRound, listed, AreGroup, IsSheetRound, text_from, IsSheet}
use Rattle.scr_read.specs.Reading.{Place, Start, Between, InGroup, rounds_begun, IsWhole, as_round, head_of, slot_pieces, group_pieces, pieces_of, IsRead}
use Rattle.scr_read.proofs.TextLemmas.{slots_text, group_text, groups_text, round_text-is}

abbrev pub IsOf : Event → List Turn → Type 0
IsOf event turns = IsWritten (record { event = event; turns = turns })

pub slots_read : (rounds : ℕ) (event : Event) (groups : ℕ) (labels : List (List ℕ)) (group : List (List Turn)) (rest : List ℕ)
    (pieces : List Piece) → length group ≡ length labels → All (IsOf event) group
    → IsRead (InGroup rounds event groups []) rest pieces
    → IsRead (InGroup rounds event groups labels) (slots_text labels group rest) (slot_pieces event group ++ pieces)
slots_read rounds event groups [] [] rest pieces size all read = read
slots_read rounds event groups (label ∷ labels) (turns ∷ group) rest pieces size all read =
    let others = All-tail (IsOf event) turns group all in
    let more = slots_read rounds event groups labels group rest pieces (omega (arith, size)) others read in
    grind (arith, slots_text, All-head, All-tail)
slots_read rounds event groups labels group rest pieces size all read = absurd (omega (arith, size))

pub group_read : (rounds : ℕ) (event : Event) (groups letter : ℕ) (group : List (List Turn)) (rest : List ℕ) (pieces : List Piece)
    → letter ≡ 65 + groups → groups < 26 → AreGroup event group → IsRead (Between rounds event (groups + 1)) rest pieces
    → IsRead (Between rounds event groups) (group_text (per_group_of event) letter group rest)
    (piece.Group groups ∷ slot_pieces event group ++ piece.GroupEnd ∷ pieces)
group_read rounds event groups letter group rest pieces is few are read =
    grind (arith, slots_text, slots_read, length-labels_from)

pub groups_read : (rounds : ℕ) (event : Event) (done letter : ℕ) (groups : List (List (List Turn))) (rest : List ℕ) (pieces : List Piece)
    → letter ≡ 65 + done → done + length groups ≤ 26 → All (AreGroup event) groups
    → IsRead (Between rounds event (done + length groups)) rest pieces
    → IsRead (Between rounds event done) (groups_text (per_group_of event) letter groups rest) (group_pieces event done groups ++ pieces)
groups_read rounds event done letter [] rest pieces is few all read = grind arith
groups_read rounds event done letter (group ∷ groups) rest pieces is few all read =
    let next : done + suc (length groups) ≡ done + 1 + length groups = omega arith in
    let more = group_pieces event (done + 1) groups in
    let behind = groups_read rounds event (done + 1) (letter + 1) groups rest pieces (omega (arith, is)) (omega (arith, few))
    (All-tail (AreGroup event) group groups all) (subst (λ n. IsRead (Between rounds event n) rest pieces) next read) in
    let here = group_read rounds event done letter group (groups_text (per_group_of event) (letter + 1) groups rest) (more ++ pieces) is
    (omega (arith, few)) (All-head (AreGroup event) group groups all) behind in
    let text = group_text (per_group_of event) letter group (groups_text (per_group_of event) (letter + 1) groups rest) in
    subst (λ p. IsRead (Between rounds event done) text (piece.Group done ∷ p))
    (sym (append_assoc (slot_pieces event group) (piece.GroupEnd ∷ more) pieces)) here

-- the head of a round is that of one with one group
pub one_round : (round : SheetRound) → IsRound (listed round) → IsRound (as_round (head_of round))
one_round round is = record { some_groups = omega arith; few_groups = omega arith; least = is.least; name = is.name }

pub rounds_read : (place : Place) (k : ℕ) (rounds : List SheetRound) → IsWhole place → rounds_begun place ≡ k → k + length rounds ≤ 256
    → All IsSheetRound rounds → IsRead place (text_from k rounds) (pieces_of rounds)
rounds_read place k [] whole begun few all = (whole, refl)
rounds_read place k (round ∷ rounds) whole begun few all =
    let is = All-head IsSheetRound round rounds all in
    let own = per_group_of round.event in
    let some = is.listed.some_groups in
    let most = is.listed.few_groups in
    let behind = rounds_read (Between (k + 1) round.event (0 + length round.groups)) (k + 1) rounds (omega (arith, some)) refl (omega (arith, few))
    (All-tail IsSheetRound round rounds all) in
    let below = groups_read (k + 1) round.event 0 65 round.groups (text_from (k + 1) rounds) (pieces_of rounds) refl (omega (arith, most)) is.groups behind in
    let number : k + 1 ≡ rounds_begun place + 1 = ap (λ n. n + 1) (sym begun) in
    subst (λ t. IsRead place t (pieces_of (round ∷ rounds))) (sym (round_text-is k round (text_from (k + 1) rounds) is.groups)) (
      heading k (listed round),
      groups_text own 65 round.groups (text_from (k + 1) rounds),
      Between (k + 1) round.event 0,
      refl,
      record {
        whole = whole;
        few = omega (arith, few, begun);
        is_head = record { round = one_round round is.listed; is = ap (λ n. heading n (listed round)) (sym begun) };
        next_is = ap (λ n. Between n round.event 0) number;
      },
      below,
    )

pub sheet_read : (text : List ℕ) (rounds : List SheetRound) → IsSheet text rounds → IsRead Start text (pieces_of rounds)
sheet_read text rounds is = grind (arith, rounds_read)
