use Rattle.std.proofs.Common.{◌≡◌, ◌≢◌, ◌∷◌, ◌++◌, suc, map, take, drop, get_or, rules, sym, ap, ◌∙◌, subst, arith}
use Rattle.std.proofs.Math.Seq.{split_at, take-length}
use Rattle.std.proofs.lemmas.List.{map-append}
use Rattle.std.proofs.lemmas.List.Elements.{All-more, All-map}
use Rattle.std.specs.Prelude.{All}
use denote.Enum.Bare.{same_false, same_true}
use Rattle.scr_table.specs.contracts.name.TableName.{the_type}
use Rattle.scr_table.specs.declared.table.DistanceTable.{DistanceTable}
use Rattle.scr_table.proofs.named.table_named.Goals as goal

pub loop-table-preserved : goal.loop-table-preserved
loop-table-preserved c =
    All-more (λ table. table.now.name ≢ c.args.name) c.args.tables.now c.loop-table.table-index c.table-item.result c.loop-table-test.true
    c.loop-table.invariant
    (λ same. same_false the_type c.name.result c.args.name (sym c.if-eq.ensures) (c.name.ensures ∙ ap (λ table. table.now.name) c.table-item.is ∙ same))

pub returns-clause-found : goal.returns-clause-found
returns-clause-found c =
    let whole : take c.loop-table.table-index c.args.tables.now ≡ c.args.tables.now =
    ap (λ n. take n c.args.tables.now) (omega (arith, c.loop-table-test.false, c.loop-table.auto.table-index-end)) ∙ take-length c.args.tables.now in
    let none = subst (All (λ table. table.now.name ≢ c.args.name)) whole c.loop-table.invariant in
    let each = All-map (λ (table : DistanceTable). table.name ≢ c.args.name) (λ table. table.now) c.args.tables.now none in
    (λ h. cc h, λ found. absurd (each found.0 found.1 found.2 (ap (λ (table : DistanceTable). table.name) found.3 ∙ found.4)))

pub returns-then-eq-clause-first : goal.returns-then-eq-clause-first
returns-then-eq-clause-first c =
    let tables = c.args.tables.now in
    let place = c.loop-table.table-index in
    let found = c.table-item.result in
    let before = take place tables in
    let behind = drop (suc place) tables in
    let here : get_or tables place found ≡ found = sym c.table-item.is in
    let split : tables ≡ before ++ found ∷ behind =
    split_at tables place found c.loop-table-test.true ∙ ap (λ table. before ++ table ∷ behind) here in
    record {
      before = map (λ table. table.now) before;
      behind = map (λ table. table.now) behind;
      in_order = ap (map (λ table. table.now)) split ∙ map-append (λ table. table.now) before (found ∷ behind);
      named = sym c.name.ensures ∙ same_true the_type (search rules) c.name.result c.args.name (sym c.if-eq.ensures);
      none_before = All-map (λ (table : DistanceTable). table.name ≢ c.args.name) (λ table. table.now) before
          c.loop-table.invariant;
    }
