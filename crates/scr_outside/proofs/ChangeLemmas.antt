-- One change of a source or sink after another.
use Rattle.std.proofs.Common.{◌≡◌, ℕ, zero, suc, ◌<◌, ◌≤◌, Option, List, [], ◌++◌, Result, Ok, Err, refl, sym, ap, subst, ◌∙◌, append_assoc, append-nil, arith}
use Rattle.scr_outside.specs.Bytes.{appended, put_back, IsFirstPart}
use Rattle.scr_outside.specs.Change.{Change, Gains, Falters, Gives, Fails, Writes}
use Rattle.scr_outside.specs.Faults.{Rose, raised, ends_told}
use Rattle.scr_outside.proofs.BytesLemmas.{appended-nil, appended-append, put_back-nil, put_back-append}

-- the change of a source, which also tells how often it told its end
abbrev pub read_from_to : Option (List ℕ) → ℕ → ℕ → Option (List ℕ) → ℕ → ℕ → Change
read_from_to bytes faults ends bytes' faults' ends' = record {
  bytes_before = bytes;
  bytes_after = bytes';
  faults_before = faults;
  faults_after = faults';
  ends_before = ends;
  ends_after = ends';
}

-- the change of a sink from these bytes and faults to those
abbrev pub from_to : Option (List ℕ) → ℕ → Option (List ℕ) → ℕ → Change
from_to bytes faults bytes' faults' = read_from_to bytes faults 0 bytes' faults' 0

-- a count of ends after a read that gave bytes, and after one that gave none
pub ends_told-some : (n ends : ℕ) → 0 < n → ends_told n ends ≡ ends
ends_told-some zero ends some = absurd (omega arith)
ends_told-some (suc n) ends some = refl

-- ---- what a source gives

pub Gives-nothing : {left : Option (List ℕ)} {faults ends : ℕ}
    → Gives (read_from_to left faults ends left faults ends) []
Gives-nothing {left} = record { given = sym (put_back-nil left); no_fault = refl }

pub Gives-append : {left left' left'' : Option (List ℕ)} {faults faults' faults'' ends ends' ends'' : ℕ} {bytes more : List ℕ} →
    Gives (read_from_to left faults ends left' faults' ends') bytes → Gives (read_from_to left' faults' ends' left'' faults'' ends'') more →
    Gives (read_from_to left faults ends left'' faults'' ends'') (bytes ++ more)
Gives-append {left'' = left''} {bytes = bytes} {more = more} first second = record {
  given = first.given ∙ ap (put_back bytes) second.given ∙ put_back-append left'' bytes more;
  no_fault = second.no_fault ∙ first.no_fault;
}

-- ---- what a sink gains

pub Gains-nothing : {held : Option (List ℕ)} {faults : ℕ} → Gains (from_to held faults held faults) []
Gains-nothing {held} = record { gained = sym (appended-nil held); no_fault = refl }

gained-append : (held : Option (List ℕ)) {held' held'' : Option (List ℕ)} (bytes more : List ℕ) → held' ≡ appended held bytes → held'' ≡ appended held' more →
    held'' ≡ appended held (bytes ++ more)
gained-append held bytes more first second = second ∙ ap (λ h. appended h more) first ∙ appended-append held bytes more

pub Gains-append : {held held' held'' : Option (List ℕ)} {faults faults' faults'' : ℕ} {bytes more : List ℕ} →
    Gains (from_to held faults held' faults') bytes → Gains (from_to held' faults' held'' faults'') more →
    Gains (from_to held faults held'' faults'') (bytes ++ more)
Gains-append {held} {bytes = bytes} {more = more} first second = record {
  gained = gained-append held bytes more first.gained second.gained;
  no_fault = second.no_fault ∙ first.no_fault;
}

-- a first part was written, and then the sink failed
pub Falters-failed : {held held' held'' : Option (List ℕ)} {faults faults' faults'' : ℕ} {part whole : List ℕ} →
    Gains (from_to held faults held' faults') part → IsFirstPart part whole →
    Fails (from_to held' faults' held'' faults'') → Falters (from_to held faults held'' faults'') whole
Falters-failed {faults'' = faults''} {part = part} gains first fails = record {
  part = part;
  first = first;
  gained = fails.bytes ∙ gains.gained;
  rose = subst (λ n. Rose n faults'') gains.no_fault fails.rose;
  never_falls = subst (λ n. n ≤ faults'') gains.no_fault fails.never_falls;
}

-- these bytes were written, and then a first part of more
pub Falters-after : {held held' held'' : Option (List ℕ)} {faults faults' faults'' : ℕ} {bytes more : List ℕ} →
    Gains (from_to held faults held' faults') bytes → Falters (from_to held' faults' held'' faults'') more →
    Falters (from_to held faults held'' faults'') (bytes ++ more)
Falters-after {held} {faults'' = faults''} {bytes = bytes} gains falters = record {
  part = bytes ++ falters.part;
  first = record {
    rest = falters.first.rest;
    parts = ap (λ x. bytes ++ x) falters.first.parts ∙ sym (append_assoc bytes falters.part falters.first.rest);
  };
  gained = gained-append held bytes falters.part gains.gained falters.gained;
  rose = subst (λ n. Rose n faults'') gains.no_fault falters.rose;
  never_falls = subst (λ n. n ≤ faults'') gains.no_fault falters.never_falls;
}

-- a first part of these bytes is one of more
pub Falters-longer : {change : Change} {bytes : List ℕ} (more : List ℕ) → Falters change bytes
    → Falters change (bytes ++ more)
Falters-longer more falters = record {
  part = falters.part;
  first = record {
    rest = falters.first.rest ++ more;
    parts = ap (λ x. x ++ more) falters.first.parts ∙ append_assoc falters.part falters.first.rest more;
  };
  gained = falters.gained;
  rose = falters.rose;
  never_falls = falters.never_falls;
}

-- ---- a text that is written piece by piece

-- a whole text was written but for what is left of it
pub record IsWrittenUpTo (change : Change) (whole left : List ℕ) : Type 0 where
  pub text : List ℕ
  pub gains : Gains change text
  pub parts : whole ≡ text ++ left

-- nothing was written yet
pub written-none : {held : Option (List ℕ)} {faults : ℕ} {whole : List ℕ}
    → IsWrittenUpTo (from_to held faults held faults) whole whole
written-none = record { text = []; gains = Gains-nothing; parts = refl }

-- one more piece
pub written-more : {held held' held'' : Option (List ℕ)} {faults faults' faults'' : ℕ} {whole piece left : List ℕ} →
    IsWrittenUpTo (from_to held faults held' faults') whole (piece ++ left) →
    Gains (from_to held' faults' held'' faults'') piece → IsWrittenUpTo (from_to held faults held'' faults'') whole left
written-more {piece = piece} {left = left} before gains = record {
  text = before.text ++ piece;
  gains = Gains-append before.gains gains;
  parts = before.parts ∙ sym (append_assoc before.text piece left);
}

-- what is left, said in another way
pub written-at : {change : Change} {whole left left' : List ℕ} → left ≡ left' →
    IsWrittenUpTo change whole left → IsWrittenUpTo change whole left'
written-at same before = record {
  text = before.text;
  gains = before.gains;
  parts = before.parts ∙ ap (λ l. before.text ++ l) same;
}

-- nothing is left
pub written-all : {change : Change} {whole : List ℕ} → IsWrittenUpTo change whole [] → Gains change whole
written-all all = rw (all.parts ∙ append-nil all.text) all.gains

-- a piece that could not be written
pub written-part : {held held' held'' : Option (List ℕ)} {faults faults' faults'' : ℕ} {whole piece : List ℕ} (left : List ℕ) →
    IsWrittenUpTo (from_to held faults held' faults') whole (piece ++ left) →
    Falters (from_to held' faults' held'' faults'') piece → Falters (from_to held faults held'' faults'') whole
written-part left before falters = rw before.parts (Falters-after before.gains (Falters-longer left falters))

-- the last piece
pub written-last : {E : Type 0} {held held' : Option (List ℕ)} {faults faults' : ℕ} {whole piece : List ℕ}
    (held'' : Option (List ℕ)) (faults'' : ℕ) (r : Result (Unit {0}) E) → IsWrittenUpTo (from_to held faults held' faults') whole piece →
    Writes (from_to held' faults' held'' faults'') piece r → Writes (from_to held faults held'' faults'') whole r
written-last held'' faults'' (Ok x) before gains = rw before.parts (Gains-append before.gains gains)
written-last held'' faults'' (Err e) before falters = rw before.parts (Falters-after before.gains falters)
