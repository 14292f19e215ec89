-- Rounds that are made one after another and counted.
use Rattle.std.proofs.Common.{◌≡◌, ℕ, ◌+◌, ◌<◌, List, [], ◌∷◌, ◌++◌, length, drop, get_or, Err, refl, sym, ap, ◌∙◌, append_assoc, append-nil, length-append, arith}
use Rattle.std.proofs.lemmas.List.Sums.{sum_by-append}
use Rattle.std.specs.Prelude.{Some}
use Rattle.scr_outside.proofs.ChangeLemmas.{from_to, Gains-nothing}
use Rattle.scr_check.specs.declared.fault.Missing.{Missing}
use Rattle.scr_list.specs.declared.round.Round.{Round}
use Rattle.scr_slots.specs.declared.settings.Settings.{Settings}
use Rattle.scr_fault.specs.declared.fault.Fault.TheVariants as fault
use Rattle.scr_sheet.specs.declared.load.Size.{Size}
use Rattle.scr_sheet.specs.Sheet.{Part, IsPartText, round_part, round_parts}
use Rattle.scr_sheet.specs.Outcome.{IsStopped, gaining}
use Rattle.scr_sheet.specs.Sizes.{IsSizeOf, IsPartSize, SizesParts}
use Rattle.scr_sheet.proofs.PartLaws.{IsDone, done-whole, IsMadeUpTo, IsText-one, made-none, round-more, round-fault, first-stopped}

-- two sizes together
abbrev pub with_more : Size → Size → Size
with_more size more = record { bytes = size.bytes + more.bytes; sum = size.sum + more.sum }

-- all parts are counted but the rest, of which the first is part k
pub record IsSizedUpTo (settings : Settings) (parts rest : List Part) (k : ℕ) (size : Size) : Type 0 where
  pub sheet : List ℕ
  pub made : IsMadeUpTo settings parts rest k (gaining sheet)
  pub amounts : IsSizeOf sheet size

-- none is counted yet
pub sized-none : (settings : Settings) (parts : List Part)
    → IsSizedUpTo settings parts parts 0 (record { bytes = 0; sum = 0 })
sized-none settings parts = record { sheet = []; made = made-none; amounts = record { counted = refl; added = refl } }

IsSizeOf-append : (text more : List ℕ) (size added : Size) → IsSizeOf text size → IsSizeOf more added
    → IsSizeOf (text ++ more) (with_more size added)
IsSizeOf-append text more size added first second = grind (arith, length-append, sum_by-append)

-- one more round
pub sized-more : {settings : Settings} {size more : Size} (rounds : List Round) (i : ℕ) (round : Round)
    → round ≡ get_or rounds i round → i < length rounds
    → IsSizedUpTo settings (round_parts 0 rounds) (round_parts i (drop i rounds)) i size
    → IsPartSize settings (round_part i round) more
    → IsSizedUpTo settings (round_parts 0 rounds) (round_parts (i + 1) (drop (i + 1) rounds)) (i + 1) (with_more size more)
sized-more {settings} {size} {more} rounds i round is there sized part =
    let text = part.text in
    let done : IsDone settings (round_part i round ∷ []) (from_to (Some sized.sheet) 0 (Some (sized.sheet ++ text)) 0) = record {
      text = text;
      all = IsText-one (IsPartText settings) (round_part i round) text part.is;
      gained = record { gained = refl; no_fault = refl };
    } in
    record {
      sheet = sized.sheet ++ text;
      made = round-more rounds i round is (Some (sized.sheet ++ text)) 0 there sized.made (done-whole done);
      amounts = IsSizeOf-append sized.sheet text size more sized.amounts part.amounts;
    }

-- a round that was not made
pub sized-fault : {settings : Settings} {size : Size} (rounds : List Round) (i : ℕ) (round : Round)
    → round ≡ get_or rounds i round → (missing : Missing) → i < length rounds
    → IsSizedUpTo settings (round_parts 0 rounds) (round_parts i (drop i rounds)) i size
    → IsStopped settings missing i (round_part i round ∷ []) → SizesParts settings (round_parts 0 rounds) (Err missing)
sized-fault rounds i round is missing there sized stopped = record {
  sheet = sized.sheet;
  ends =
      round-fault rounds i round is (Some sized.sheet) 0 (fault.DrawLimit missing) there sized.made
      (first-stopped i missing stopped Gains-nothing);
  amounts = tt;
}

-- ---- lines that are counted one after another

-- of a text all is counted but what is left
pub record IsCountedUpTo (whole left : List ℕ) (size : Size) : Type 0 where
  pub text : List ℕ
  pub amounts : IsSizeOf text size
  pub parts : text ++ left ≡ whole

pub counted-none : (whole : List ℕ) → IsCountedUpTo whole whole (record { bytes = 0; sum = 0 })
counted-none whole = record { text = []; amounts = record { counted = refl; added = refl }; parts = refl }

pub counted-more : {whole rest : List ℕ} {size more : Size} (left line : List ℕ) → left ≡ line ++ rest
    → IsCountedUpTo whole left size → IsSizeOf line more → IsCountedUpTo whole rest (with_more size more)
counted-more {rest = rest} {size = size} {more = more} left line is counted own = record {
  text = counted.text ++ line;
  amounts = IsSizeOf-append counted.text line size more counted.amounts own;
  parts = append_assoc counted.text line rest ∙ ap (λ x. counted.text ++ x) (sym is) ∙ counted.parts;
}

pub counted-all : {whole : List ℕ} {size : Size} (left : List ℕ) → left ≡ [] → IsCountedUpTo whole left size → IsSizeOf whole size
counted-all {size = size} left none counted = grind (arith, append-nil)
