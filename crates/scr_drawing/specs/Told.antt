-- What a drawing tells a reader of the page.
use Rattle.std.specs.Prelude.{ℕ, List, [], ◌∷◌, codes}
use Rattle.scr_notation.specs.declared.event.Event.{Event}
use Rattle.scr_notation.specs.Event.{id_of}
use Rattle.scr_markup.specs.Tokens.{Mark}

-- An element of class `picture`, with the id of the event and the letters of the picture.
abbrev pub picture_mark : Event → List ℕ → Mark
picture_mark event letters = record { class = codes "picture"; values = id_of event ∷ letters ∷ []; text = [] }
