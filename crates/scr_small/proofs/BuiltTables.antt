-- What the built table of a puzzle is.
use Rattle.std.proofs.Common.{get_or, ◌≡◌, ℕ, sym, ap, ◌∙◌, subst}
use Rattle.std.specs.Prelude.{All}
use Rattle.std.specs.Option.{option_to_list}
use Rattle.std.proofs.lemmas.Option.{same_Some}
use Rattle.scr_notation.specs.declared.turn.Turn.{Turn}
use Rattle.scr_table.specs.Distances.{Distances}
use Rattle.scr_table.specs.Lines.{TableLine, HasNoGap, IsTableOf}
use Rattle.scr_table.proofs.LineLaws.{no_gap, no_gaps-line}
use Rattle.scr_small.specs.declared.state_table.StateTable.{StateTable}
use Rattle.scr_small.specs.NumberedPuzzles.{NumberedPuzzle}
use Rattle.scr_small.specs.SolvedByTable.{IsSolvedByTable}
use Rattle.scr_small.specs.Tables.{small_line, small_lines, table_line, BuiltTable, IsBuilt}

-- the built table of an event is of the event's line, of which there is one
pub IsTableOf-built : {S : Type 0} (p : NumberedPuzzle S Turn) (table : StateTable) → IsSolvedByTable p table
    → (built : BuiltTable) → built.event ≡ table.event → IsBuilt built → IsTableOf (table_line p table) built.distances
IsTableOf-built p table l built same b =
    let P : TableLine → Type 0 = λ line. IsTableOf line built.distances in
    subst P (same_Some b.line (table_line p table) (sym b.of_event ∙ ap small_line same ∙ l.of_event)) b.table

-- and has no gap
pub no_gaps-built : (built : BuiltTable) → IsBuilt built → All HasNoGap (small_lines built.event)
no_gaps-built built b =
    subst (λ line. All HasNoGap (option_to_list line)) (sym b.of_event)
    (no_gaps-line b.line (no_gap b.line built.distances b.table))

-- what stands in a table at a position
pub same_entry : (some table : Distances) (i j entry : ℕ) → entry ≡ get_or some.distances i 0 → some ≡ table → i ≡ j
    → entry ≡ get_or table.distances j 0
same_entry some table i j entry e same here =
    e ∙ ap (λ t. get_or t.distances i 0) same ∙ ap (λ k. get_or table.distances k 0) here
