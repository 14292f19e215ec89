-- What is so of a table that is built over moves, is so of the coordinate that these show.
use Rattle.std.proofs.Common.{◌≡◌, ℕ, ◌*◌, ◌^◌, ◌<◌, Bool, List, [], ◌∷◌, Result, Some, sym, ap, ◌∙◌, subst, arith}
use Rattle.std.specs.Prelude.{IfOk, slice_get}
use Rattle.std.specs.Option.{option_map}
use Rattle.std.proofs.lemmas.Result.{IfOk-weaker}
use Rattle.scr_positions.specs.Coordinates.{Coordinate, StaysBelow}
use Rattle.scr_positions.specs.SearchSpaces.{ShowsSame}
use Rattle.scr_positions.proofs.ProductLaws.{ShowsSame-product}
use Rattle.scr_positions.proofs.SearchLaws.{Follows-same}
use Rattle.scr_table.specs.Lines.{TableLine}
use Rattle.scr_search.specs.declared.outlook.Outlook.{Outlook}
use Rattle.scr_search.specs.declared.position.Extent.{Extent}
use Rattle.scr_search.specs.declared.pruning.PruningTable.{PruningTable}
use Rattle.scr_search.specs.Outlooks.{AreOutlooks, AreOutlooksOf, HasNearer}
use Rattle.scr_search.specs.Views.{beside}

-- ---- two coordinates side by side, in either order

pub ShowsSame-beside : (b : Bool) (l h low high : Coordinate) → h.turns ≡ l.turns → ShowsSame l low → ShowsSame h high
    → ShowsSame (beside b l h) (beside b low high)
ShowsSame-beside b l h low high h0 h1 h2 = grind (arith, ShowsSame-product)

-- what is asked of the moves that stand side by side
pub fits-beside : (l h low high : Coordinate) (n m turns : ℕ) → l.turns ≡ turns → h.turns ≡ turns → l.count ≡ n
    → h.count ≡ m → ShowsSame l low → ShowsSame h high → n * m < 2 ^ 32
    → (high.turns ≡ low.turns) × (low.count * high.count < 2 ^ 32)
fits-beside l h low high n m turns a b e f s t lt = (
  t.turns ∙ b ∙ sym (s.turns ∙ a),
  omega (arith, lt, ap (λ k. k * high.count) (s.count ∙ e), ap (λ k. n * k) (t.count ∙ f)),
)

-- ---- outlooks

-- there may be none
pub AreOutlooks-none : (c : Coordinate) (distances : List ℕ) (all : List Outlook) → all ≡ []
    → AreOutlooks c distances all
AreOutlooks-none c distances all none = record { each = λ p o at there. absurd (no_outlook all p o none there) }
  where
    no_outlook : (os : List Outlook) (p : ℕ) (o : Outlook) → os ≡ [] → slice_get os p ≡ Some o → ⊥
    no_outlook [] p o none there = cc
    no_outlook (u ∷ us) p o none there = cc

-- those over what shows a coordinate are those over the coordinate
AreOutlooks-same : (c shown : Coordinate) → StaysBelow c → ShowsSame c shown
    → (distances : List ℕ) (all : List Outlook) → AreOutlooks shown distances all → AreOutlooks c distances all
AreOutlooks-same c shown below same distances all o = record {
  each = λ p outlook at there.
      let is = o.each p outlook (subst (λ n. p < n) (sym same.count) at) there in
      let of : (left bits : ℕ) → HasNearer shown distances p left bits → HasNearer c distances p left bits =
      λ left bits h. record {
        kept = λ t q few to here lt. h.kept t q few ((Follows-same c shown below same).turned p t at ∙ ap (option_map (λ n. n)) to) here lt;
      } in
      record { far = is.far; near = of _ _ is.near; level = of _ _ is.level };
}

-- Those that are found over what shows a line's coordinate are those of its table, by either name of what the line is
-- made of.
pub IfOk-outlooks : {X E : Type 0} (items : X → List Outlook) (line : Extent → TableLine) (e f : Extent) → e ≡ f
    → (table : PruningTable) (shown : Coordinate) → StaysBelow (line f).coordinate → ShowsSame (line e).coordinate shown
    → (r : Result X E) → IfOk r (λ all. AreOutlooks shown table.distances.distances (items all))
    → IfOk r (λ all. AreOutlooksOf (line f) table (items all))
IfOk-outlooks items line e f same table shown below shows r found = grind (arith, IfOk-weaker, AreOutlooks-same)
