-- What calls add to pages, and what becomes of them where one fails.
use Rattle.std.specs.Prelude.{ℕ, ◌≡◌, Bool, IsTrue, List, [], ◌∷◌, ◌++◌, take, Result, Ok, Err}
use Rattle.scr_outside.specs.Bytes.{IsFirstPart}
use Rattle.scr_outside.specs.Change.{Change, Gains, Falters}
use Rattle.scr_layout.specs.Group.{Group}
use Rattle.scr_host.specs.declared.fault.Fault.TheVariants as fault
use Rattle.scr_pages.specs.Faults.{RunFault as Fault}
use Rattle.scr_pages.specs.declared.look.Look.{Look as Held}
use Rattle.scr_pages.specs.Pages.{Look, AreBegun, ArePages}

-- what pages look like, as code holds it
abbrev pub look_of : Held → Look
look_of look = record { html = look.html; pictures = look.pictures; name = look.name.now }

-- a piece that goes on with pages by those of a group; the first group of all has no pages before
abbrev pub GoesOn : Look → Bool → Group → List ℕ → Type 0
GoesOn look first group piece =
    (before : List Group) (text : List ℕ) → (IsTrue first → before ≡ []) → AreBegun look before text
    → AreBegun look (before ++ group ∷ []) (text ++ piece)

-- The pages of these groups were written; or a first part of those of the first so many, since the output failed, or
-- since memory was wanting.
abbrev pub WritesPages : Look → List Group → Change → Result (Unit {0}) Fault → Type 0
WritesPages look groups out (Ok _) = (text : List ℕ) × ArePages look groups text × Gains out text
WritesPages look groups out (Err fault.Write) =
    (count : ℕ) × (text : List ℕ) × ArePages look (take count groups) text × Falters out text
WritesPages look groups out (Err fault.NoMemory) =
    (count : ℕ) × (text : List ℕ) × ArePages look (take count groups) text
    × ((part : List ℕ) × IsFirstPart part text × Gains out part)
WritesPages look groups out (Err other) = ⊥
