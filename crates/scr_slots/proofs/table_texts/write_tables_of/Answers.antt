use Rattle.std.proofs.Common.{◌≡◌, [], None, rules, sym, subst}
use Rattle.scr_outside.specs.Change.{change_of}
use Rattle.scr_table_text.specs.Counted.{WritesTables}
use Rattle.scr_notation.specs.declared.event.Family.TheVariants as family
use Rattle.scr_notation.specs.Event.{family_of}
use Rattle.scr_notation.specs.EventSets.{Has}
use Rattle.scr_slots.specs.Families.{HasFamily}
use Rattle.scr_slots.specs.TableLines.{family_lines}
use Rattle.scr_slots.proofs.BuildCauses.{small-are, tables_for-none, texts-one}
use Rattle.scr_slots.proofs.table_texts.write_tables_of.Goals as goal

pub unwrap-requires-in-Some-Cube333 : goal.unwrap-requires-in-Some-Cube333
unwrap-requires-in-Some-Cube333 g c =
    let has : Has c.tables.inside.events c.args.event = search rules in
    let of_family : HasFamily c.tables.inside.events family.Cube333 = record { event = c.args.event; has = has; of_family = cc } in
    let there = c.tables.invariant.1 of_family in
    search rules

pub returns-in-Some-Cube222 : goal.returns-in-Some-Cube222
returns-in-Some-Cube222 g c =
    texts-one c.args.event family.Cube222 _ _ (cc)
    (c.write_tables.ensures (family_lines family.Cube222)
    (small-are family.Cube222 c.unwrap.result.now _ c.only.ensures.same c.only.ensures.built (search rules)))

pub returns-in-Some-Cube333 : goal.returns-in-Some-Cube333
returns-in-Some-Cube333 g c =
    texts-one c.args.event family.Cube333 _ _ (cc) (c.write_tables-in-Some-Cube333.ensures (family_lines family.Cube333) c.all.ensures)

pub returns-in-Some-Pyraminx : goal.returns-in-Some-Pyraminx
returns-in-Some-Pyraminx g c =
    texts-one c.args.event family.Pyraminx _ _ (cc)
    (c.write_tables-in-Some-Pyraminx.ensures (family_lines family.Pyraminx)
    (small-are family.Pyraminx c.unwrap-in-Some-Pyraminx.result.now _ c.only-in-Some-Pyraminx.ensures.same c.only-in-Some-Pyraminx.ensures.built (search rules)))

pub returns-in-Some-Skewb : goal.returns-in-Some-Skewb
returns-in-Some-Skewb g c =
    texts-one c.args.event family.Skewb _ _ (cc)
    (c.write_tables-in-Some-Skewb.ensures (family_lines family.Skewb)
    (small-are family.Skewb c.unwrap-in-Some-Skewb.result.now _ c.only-in-Some-Skewb.ensures.same c.only-in-Some-Skewb.ensures.built (search rules)))

pub returns-in-Some-Square1 : goal.returns-in-Some-Square1
unfolding family_lines
returns-in-Some-Square1 g c =
    texts-one c.args.event family.Square1 _ _ (cc) (c.write_tables-in-Some-Square1.ensures (family_lines family.Square1) c.all-in-Some-Square1.ensures.built)

pub returns-in-None : goal.returns-in-None
returns-in-None g c =
    let none : family_of c.args.event ≡ None = cc in
    subst (λ tables. WritesTables tables (change_of g.O.Sink.held g.O.Sink.faults c.args.out.now c.write_tables-in-None.new.out) c.write_tables-in-None.result)
    (sym (tables_for-none c.args.event none)) (c.write_tables-in-None.ensures [] tt)
