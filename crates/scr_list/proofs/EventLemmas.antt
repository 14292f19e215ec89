-- What the ids of the events are.
use Rattle.std.proofs.Common.{◌≡◌, ℕ, ◌<◌, ◌≤◌, Bool, true, false, cond, List, [], ◌∷◌, length, Option, Some, None, refl, ap, ◌∙◌, subst, arith}
use Rattle.std.specs.Prelude.{◌&&◌, not, nat_lt, nat_le, codes, All}
use Rattle.std.specs.List.{find, list_all}
use Rattle.std.specs.Str.{IsUtf8, bytes_eq}
use Rattle.std.proofs.lemmas.Str.{IsUtf8-from_ascii}
use Rattle.std.proofs.lemmas.Str.Ascii.{IsAscii-from_all}
use Rattle.std.proofs.lemmas.List.Sums.{AllPass-from_list_all}
use Rattle.std.proofs.lemmas.Slice.Eq.{bytes_eq-Decides}
use Rattle.scr_notation.specs.declared.event.Event.{Event}
use Rattle.scr_text.specs.Lines.{has_bytes}
use Rattle.scr_notation.specs.Event.{id_of, events, event_of, greatest_of, usual_of}
use Rattle.scr_notation.proofs.EachEvent.{each_alike, each_passes}
use Rattle.scr_list.specs.Events.{event_named}
use Rattle.scr_list.specs.Names.{is_colon}

-- what an event's id is, and its minima
pub record IsId (e : Event) : Type 0 where
  pub plain : All (λ b. 32 < b) (id_of e)
  pub ascii : All (λ b. b < 128) (id_of e)
  pub some : has_bytes (id_of e) ≡ true
  pub short : length (id_of e) ≤ 5
  pub finds : event_of (id_of e) ≡ Some e
  pub not_444 : bytes_eq (id_of e) (codes "444") ≡ false
  pub range : greatest_of e ≤ 15
  pub usual : usual_of e ≤ greatest_of e

-- each row is computed
is_id : Event → Bool
is_id e =
    list_all (λ b. nat_lt 32 b && nat_lt b 128) (id_of e) && has_bytes (id_of e) && nat_le (length (id_of e)) 5
    && nat_le (greatest_of e) 15 && nat_le (usual_of e) (greatest_of e)

parts : (a b : Bool) → (a && b) ≡ true → (a ≡ true) × (b ≡ true)
parts true b is = (refl, is)
parts false b is = cc

id-facts : (e : Event) → is_id e ≡ true → event_of (id_of e) ≡ Some e → bytes_eq (id_of e) (codes "444") ≡ false
    → IsId e
unfolding is_id
id-facts e test finds not_444 = grind (arith, parts, AllPass-from_list_all)

pub id-IsId : (e : Event) → IsId e
unfolding is_id
id-IsId e = grind (arith, id-facts, each_passes, is_id, each_alike)

-- no id has a colon
fails : (b : Bool) → not b ≡ true → b ≡ false
fails true is = cc
fails false is = refl

pub id-no_colon : (e : Event) → All (λ b. is_colon b ≡ false) (id_of e)
id-no_colon e = grind (arith, fails, AllPass-from_list_all, each_passes)

-- what a search finds passes its test
passes-at : {X : Type 0} (p : X → Bool) (ys : List X) (x y : X) (b : Bool) → p y ≡ b →
    cond b (Some y) (find p ys) ≡ Some x → (find p ys ≡ Some x → p x ≡ true) → p x ≡ true
passes-at p ys x y true here found rest = cc
passes-at p ys x y false here found rest = rest found

find-passes : {X : Type 0} (p : X → Bool) (xs : List X) (x : X) → find p xs ≡ Some x → p x ≡ true
find-passes p [] x found = cc
find-passes p (y ∷ ys) x found = passes-at p ys x y (p y) refl found (find-passes p ys x)

-- bytes that are no text name no event
no_event-at : (id : List ℕ) → ¬ (IsUtf8 id) → (o : Option Event) → event_of id ≡ o → event_of id ≡ None
no_event-at id no_text None is = is
no_event-at id no_text (Some e) is =
    let same = (bytes_eq-Decides (id_of e) id).0 (find-passes (λ x. bytes_eq (id_of x) id) events e is) in
    absurd (no_text (subst IsUtf8 same (IsUtf8-from_ascii (id_of e) (IsAscii-from_all (id_of e) (id-IsId e).ascii))))

pub event_named-no_text : (word : List ℕ) → ¬ (IsUtf8 word) → event_named word ≡ None
unfolding event_named
event_named-no_text word no_text = no_event-at word no_text (event_of word) refl

-- an event is found by its id
pub event_named-id : (e : Event) → event_named (id_of e) ≡ Some e
unfolding event_named
event_named-id e = (id-IsId e).finds

-- what a word names has it as its id
pub event_named-is : (word : List ℕ) (e : Event) → event_named word ≡ Some e → id_of e ≡ word
unfolding event_named
event_named-is word e found =
    (bytes_eq-Decides (id_of e) word).0 (find-passes (λ x. bytes_eq (id_of x) word) events e found)

-- a word, read as text
pub event_named-text : (word text : List ℕ) (found : Option Event) → text ≡ word → found ≡ event_of text
    → found ≡ event_named word
unfolding event_named
event_named-text word text found same is = is ∙ ap event_of same
