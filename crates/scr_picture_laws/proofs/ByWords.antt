-- Pictures of an event show its states, where words of its turns lead to the pictures of the states to which they lead.
use Rattle.std.proofs.Common.{◌≡◌, ◌↔◌, ℕ, Bool, true, false, IsTrue, IsSome, List, [], ◌∷◌, Option, Some, None, refl, sym, ap, ◌∙◌, subst}
use Rattle.std.specs.Prelude.{if◌then◌else◌}
use Rattle.std.specs.List.{AllPass}
use Rattle.std.specs.Str.{bytes_eq}
use Rattle.std.proofs.lemmas.Slice.Eq.{bytes_eq-Decides}
use Rattle.std.proofs.lemmas.Bool.{false≢true}
use Rattle.std.proofs.lemmas.List.Elements.{All-nil, All-cons, All-head, All-tail}
use Rattle.scr_combinatorics.specs.Play.{play}
use Rattle.scr_combinatorics.proofs.PlayLaws.{play-empty, play-first, play-parts}
use Rattle.scr_notation.specs.declared.event.Event.{Event}
use Rattle.scr_notation.specs.declared.turn.Turn.{Turn}
use Rattle.scr_notation.specs.Turns.{permits}
use Rattle.scr_picture_laws.specs.Pictured.{turn_of}
use Rattle.scr_picture_laws.proofs.TwoModels.{TwoModels}

there : {A : Type 0} (o : Option A) → IsSome o → (a : A) × (o ≡ Some a)
there None h = absurd (false≢true h)
there (Some a) h = (a, refl)

-- a choice that gives something was made, and gives what was chosen
chosen : {A : Type 0} (b : Bool) (o : Option A) (a : A) → (if b then o else None) ≡ Some a → IsTrue b × (o ≡ Some a)
chosen true o a e = (refl, e)
chosen false o a e = absurd (cc)

module _ {Q : Type 0} (event : Event) (turned : Q → Turn → Option Q) where
  -- where all turns are of the event they lead on as they do
  pub played-of : (q : Q) (w : List Turn) → AllPass (permits event) w → (r : Q) → play turned q w ≡ Some r
      → play (turn_of event turned) q w ≡ Some r
  played-of q [] all r e = play-empty (turn_of event turned) q ∙ sym (play-empty turned q) ∙ e
  played-of q (t ∷ w) all r e =
      let parts = play-parts turned q r t w e in
      let own : permits event t ≡ true = All-head (λ u. IsTrue (permits event u)) t w all in
      play-first (turn_of event turned) q parts.0 t w (ap (λ b. if b then turned q t else None) own ∙ parts.1)
      ∙ played-of parts.0 w (All-tail (λ u. IsTrue (permits event u)) t w all) r parts.2

  -- and only there do they lead on
  pub all-of : (q r : Q) (w : List Turn) → play (turn_of event turned) q w ≡ Some r → AllPass (permits event) w
  all-of q r [] e = All-nil (λ u. IsTrue (permits event u))
  all-of q r (t ∷ w) e =
      let parts = play-parts (turn_of event turned) q r t w e in
      All-cons (λ u. IsTrue (permits event u)) t w (chosen (permits event t) (turned q t) parts.0 parts.1).0 (all-of parts.0 r w parts.2)

-- The states of an event and its pictures: the turns of the event lead from solved to a state, and no others do; they
-- lead to its picture; and only one state has each text of a picture.
pub record EventModels (S Q : Type 0) : Type 1 where
  pub event : Event
  pub after : S → Turn → Option S
  pub solved : S
  pub turned : Q → Turn → Option Q
  pub solved_picture : Q
  pub show : S → Q
  pub text : Q → List ℕ
  pub plays : (w : List Turn) → IsSome (play after solved w) ↔ AllPass (permits event) w
  pub followed : (w : List Turn) (s : S) → play after solved w ≡ Some s → play turned solved_picture w ≡ Some (show s)
  pub one : (w v : List Turn) (s r : S) → play after solved w ≡ Some s → play after solved v ≡ Some r
      → text (show s) ≡ text (show r) → s ≡ r

module _ {S Q : Type 0} (e : EventModels S Q) where
  -- what turns of the event make of pictures
  abbrev pub moved : Q → Turn → Option Q
  moved = turn_of e.event e.turned

  pub follows : (w : List Turn) (s : S) → play e.after e.solved w ≡ Some s → play moved e.solved_picture w ≡ Some (e.show s)
  follows w s is =
      played-of e.event e.turned e.solved_picture w ((e.plays w).0 (subst IsSome (sym is) refl)) (e.show s) (e.followed w s is)

  pub only : (w : List Turn) (r : Q) → play moved e.solved_picture w ≡ Some r → (s : S) × (play e.after e.solved w ≡ Some s)
  only w r is = there (play e.after e.solved w) ((e.plays w).1 (all-of e.event e.turned e.solved_picture r w is))

  pub one_shown : (w v : List Turn) (s r : S) → play e.after e.solved w ≡ Some s → play e.after e.solved v ≡ Some r
      → e.show s ≡ e.show r → s ≡ r
  one_shown w v s r is other same = e.one w v s r is other (ap e.text same)

  pub solved_shown : e.show e.solved ≡ e.solved_picture
  solved_shown =
      let shown = follows [] e.solved (play-empty e.after e.solved) in
      let none = play-empty moved e.solved_picture in
      cc

  -- a picture has the text of the solved one
  pub is_text : Q → Bool
  is_text r = bytes_eq (e.text r) (e.text (e.show e.solved))

  pub is_text-solved : is_text (e.show e.solved) ≡ true
  unfolding is_text
  is_text-solved = (bytes_eq-Decides (e.text (e.show e.solved)) (e.text (e.show e.solved))).1 refl

  pub is_text-alone : (w : List Turn) (s : S) → play e.after e.solved w ≡ Some s → is_text (e.show s) ≡ true → s ≡ e.solved
  unfolding is_text
  is_text-alone w s is h =
      e.one w [] s e.solved is (play-empty e.after e.solved) ((bytes_eq-Decides (e.text (e.show s)) (e.text (e.show e.solved))).0 h)

  -- the two models, where one state is solved
  abbrev pub one_solved : TwoModels S Q Turn
  one_solved = record {
    counted = λ t. 1;
    after = e.after;
    IsSolved = λ s. s ≡ e.solved;
    solved = e.solved;
    turned = moved;
    IsSolvedPicture = λ r. r ≡ e.solved_picture;
    solved_picture = e.solved_picture;
    show = e.show;
    test = is_text;
    is_solved = refl;
    from_solved = λ s h. (h.0, subst (λ x. play e.after x h.0 ≡ Some s) h.2 h.3);
    follows = follows;
    only = only;
    one = one_shown;
    shows_solved = λ s is. ap e.show is ∙ solved_shown;
    solved_shown = λ r is. (e.solved, refl, solved_shown ∙ sym is);
    told = is_text-solved;
    told_alone = is_text-alone;
  }
