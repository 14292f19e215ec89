use Rattle.std.proofs.Common.{subst}
use Rattle.std.specs.Prelude.{Option, OnOk, option_to_list, string_bytes}
use Rattle.scr_markup.specs.Tokens.{Mark, Adds}
use Rattle.scr_drawing.proofs.Free.{free_token}
use Rattle.scr_drawing.proofs.drawing.add_element.Goals as goal

pub leaf-requires : goal.leaf-requires
leaf-requires c = (free_token c.args.element.now c.requires).0

pub returns : goal.returns
returns c =
    let told : Option Mark → Type 0 =
    λ mark. OnOk c.leaf.result (Adds (string_bytes c.args.page.now) (string_bytes c.leaf.new.page) (option_to_list mark)) in
    subst told (free_token c.args.element.now c.requires).1 c.leaf.ensures.adds
