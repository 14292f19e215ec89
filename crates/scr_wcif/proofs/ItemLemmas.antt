-- Lists of JSON values, as code holds them and as definitions do.
use Rattle.std.proofs.Common.{◌≡◌, ◌+◌, List, [], ◌∷◌, length, refl, ap, ◌∙◌, add-one}
use Rattle.json.specs.declared.value.Value.{Value}
use Rattle.json.specs.Value.{items_view}
use Rattle.scr_wcif.specs.FileRounds.{count_of}

pub count_of_items : {A : Type 0} (values : List (Value A)) → count_of (items_view values) ≡ length values
count_of_items [] = refl
count_of_items (value ∷ values) = ap (λ n. n + 1) (count_of_items values) ∙ add-one (length values)
