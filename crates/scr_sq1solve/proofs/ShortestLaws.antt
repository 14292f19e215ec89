-- The shortest of some totals: how it stays or gives way when a word more is looked at, and that there is but one.
use Rattle.std.proofs.Common.{◌≡◌, ℕ, ◌+◌, ◌-◌, ◌<◌, ◌≤◌, inl, inr, List, [], ◌∷◌, ◌++◌, length, take, get_or, Some, refl, sym, ap, ◌∙◌, subst, append_assoc, length-append, arith}
use Rattle.std.specs.Prelude.{◌↔◌, All, Contains, slice_get}
use Rattle.std.proofs.lemmas.Bool.{cases_order}
use Rattle.std.proofs.lemmas.List.{take_more, get_or-take, length-take, get_or-append_right, get_or_append_left}
use Rattle.std.proofs.lemmas.List.Elements.{All-nil, All-cons, All-append, All-weaker, All-contains}
use Rattle.scr_combinatorics.specs.Back.{back}
use Rattle.scr_combinatorics.specs.Stages.{IsStageWord}
use Rattle.scr_combinatorics.proofs.StageLaws.{one_stage_word}
use Rattle.scr_notation.specs.declared.event.Event.TheVariants.{Sq1 as EventSq1}
use Rattle.scr_notation.specs.declared.turn.Turn.{Turn}
use Rattle.scr_notation.specs.Turning.{opposite}
use Rattle.scr_notation.specs.Written.{Written}
use Rattle.scr_sq1.specs.Units.{Sq1State, IsSq1, sq1_after}
use Rattle.scr_sq1solve.specs.Counts.{twists_in, IsWithinBounds}
use Rattle.scr_sq1tables.specs.Stages.{shape_stage, IsScrambleSq1}
use Rattle.scr_sq1solve.specs.Totals.{IsTotal}
use Rattle.scr_sq1tables.specs.ShapeWords.{shape_words}
use Rattle.scr_sq1solve.proofs.Lengths.{twists-back}
use Rattle.scr_sq1solve.proofs.TotalLaws.{IsTotal-unique, IsScrambleSq1-total, IsFirstTotal-scramble}
use Rattle.scr_sq1tables.proofs.ShapeWordLaws.{IsStageWord-listed}
use Rattle.scr_sq1solve.specs.ShortScrambles.{IsShortest, IsShortScramble}

-- each total of a word has more twists than this one,
abbrev More : Sq1State → List Turn → List ℕ → Type 0
More s total v = (other : List Turn) → IsTotal s v other → twists_in total < twists_in other

-- or no fewer
abbrev NoFewer : Sq1State → List Turn → List ℕ → Type 0
NoFewer s total v = (other : List Turn) → IsTotal s v other → twists_in total ≤ twists_in other

-- ---- one word after another

pub IsShortest-one : (s : Sq1State) (word : List ℕ) (total : List Turn) → IsTotal s word total
    → IsShortest s (word ∷ []) total
IsShortest-one s word total is = record {
  before = [];
  word = word;
  behind = [];
  in_order = refl;
  is = is;
  more_before = All-nil (More s total);
  no_fewer_behind = All-nil (NoFewer s total);
}

-- the word of a total has no other with fewer
own : (s : Sq1State) (word : List ℕ) (total least : List Turn) → IsTotal s word total → twists_in least ≤ twists_in total
    → NoFewer s least word
own s word total least is le = λ other same. omega (arith, le, ap twists_in (IsTotal-unique s word total other is same))

-- no total of these words has fewer twists
NoFewer-words : (s : Sq1State) (words : List (List ℕ)) (least : List Turn) → IsShortest s words least
    → All (λ v. (other : List Turn) → IsTotal s v other → twists_in least ≤ twists_in other) words
NoFewer-words s words least h =
    subst (All (NoFewer s least)) (sym h.in_order)
    (All-append (NoFewer s least) h.before (h.word ∷ h.behind)
    (All-weaker (More s least) (NoFewer s least) (λ v more other is. omega (arith, more other is)) h.before h.more_before)
    (All-cons (NoFewer s least) h.word h.behind (own s h.word least least h.is (omega arith)) h.no_fewer_behind))

-- the total that is the shortest of the words that were looked at, as it is written
pub record IsLeast (s : Sq1State) (words : List (List ℕ)) (least : Written) : Type 0 where
  pub shortest : IsShortest s words least.turns
  pub event : least.event ≡ EventSq1
  pub within : IsWithinBounds least.turns

-- the words as they are looked at, one place after another
module _ (s : Sq1State) (words : List (List ℕ)) (place : ℕ) (word : List ℕ) (inside : place < length words)
    (at : word ≡ get_or words place []) (total : Written) (is : IsTotal s word total.turns)
    (event : total.event ≡ EventSq1) (within : IsWithinBounds total.turns) where
  one_more : take (place + 1) words ≡ take place words ++ word ∷ []
  one_more = take_more words place [] inside ∙ ap (λ w. take place words ++ w ∷ []) (sym at)

  pub IsLeast-begun : take place words ≡ [] → IsLeast s (take (place + 1) words) total
  IsLeast-begun none = record {
    shortest = subst (λ ws. IsShortest s ws total.turns) (sym (one_more ∙ ap (λ ws. ws ++ word ∷ []) none)) (IsShortest-one s word total.turns is);
    event = event;
    within = within;
  }

  module _ (least : Written) (h : IsLeast s (take place words) least) where
    -- a word more whose total has no fewer leaves the shortest,
    pub IsLeast-kept : twists_in least.turns ≤ twists_in total.turns → IsLeast s (take (place + 1) words) least
    IsLeast-kept no_fewer =
        let k = h.shortest in
        record {
          shortest = record {
            before = k.before;
            word = k.word;
            behind = k.behind ++ word ∷ [];
            in_order = one_more ∙ ap (λ ws. ws ++ word ∷ []) k.in_order ∙ append_assoc k.before (k.word ∷ k.behind) (word ∷ []);
            is = k.is;
            more_before = k.more_before;
            no_fewer_behind =
                All-append (NoFewer s least.turns) k.behind (word ∷ []) k.no_fewer_behind
                (All-cons (NoFewer s least.turns) word [] (own s word total.turns least.turns is no_fewer) (All-nil (NoFewer s least.turns)));
          };
          event = h.event;
          within = h.within;
        }

    -- and one whose total has fewer takes its place
    pub IsLeast-new : twists_in total.turns < twists_in least.turns → IsLeast s (take (place + 1) words) total
    IsLeast-new fewer = record {
      shortest = record {
        before = take place words;
        word = word;
        behind = [];
        in_order = one_more;
        is = is;
        more_before =
            All-weaker (NoFewer s least.turns) (More s total.turns) (λ v no_fewer other there. omega (arith, fewer, no_fewer other there)) (take place words)
            (NoFewer-words s (take place words) least.turns h.shortest);
        no_fewer_behind = All-nil (NoFewer s total.turns);
      };
      event = event;
      within = within;
    }

-- ---- there is but one

module _ (s : Sq1State) (words : List (List ℕ)) where
  -- what stands at the place of a shortest total's word
  word-at : (t : List Turn) (a : IsShortest s words t) (d : List ℕ) → get_or words (length a.before) d ≡ a.word
  word-at t a d =
      ap (λ ws. get_or ws (length a.before) d) a.in_order
      ∙ get_or-append_right a.before (a.word ∷ a.behind) (length a.before) (length a.before) d refl (omega arith)
      ∙ ap (λ k. get_or (a.word ∷ a.behind) k d) {x = length a.before - length a.before} {y = 0} (omega arith)

  word-there : (t : List Turn) (a : IsShortest s words t) → Contains words a.word
  word-there t a =
      (length a.before, omega (arith, ap length a.in_order, length-append a.before (a.word ∷ a.behind)), word-at t a a.word)

  -- none is no shorter than the other and stands before it
  not_before : (t u : List Turn) (a : IsShortest s words t) (b : IsShortest s words u) → length a.before < length b.before → ⊥
  not_before t u a b lt =
      let at : get_or b.before (length a.before) [] ≡ a.word =
      sym (ap (λ ws. get_or ws (length a.before) []) b.in_order ∙ get_or_append_left b.before (b.word ∷ b.behind) [] (length a.before) lt) ∙ word-at t a [] in
      let no_fewer = All-contains (NoFewer s t) words b.word (NoFewer-words s words t a) (word-there u b) u b.is in
      omega (arith, no_fewer, subst (More s u) at (b.more_before (length a.before) [] lt) t a.is)

  IsShortest-unique : (t u : List Turn) → IsShortest s words t → IsShortest s words u → t ≡ u
  IsShortest-unique t u a b =
      elim (cases_order (length a.before) (length b.before)) [
        | inl same ↦
            let one : a.word ≡ b.word = sym (word-at t a []) ∙ ap (λ k. get_or words k []) same ∙ word-at u b [] in
            IsTotal-unique s b.word t u (subst (λ w. IsTotal s w t) one a.is) b.is
        | inr (inl less) ↦ absurd (not_before t u a b less)
        | inr (inr more) ↦ absurd (not_before u t b a more)
      ]

pub IsShortScramble-unique : (short : ℕ) (s : Sq1State) (turns other : List Turn) → IsShortScramble short s turns
    → IsShortScramble short s other → turns ≡ other
IsShortScramble-unique short s turns other a b =
    a.taken_back ∙ ap (back opposite) (IsShortest-unique s (take short (shape_words s)) a.total b.total a.shortest b.shortest)
    ∙ sym b.taken_back

-- ---- beside the scramble by stages

-- where the first of the words is that of the first stage, the shortest has no more twists
pub no_more_twists : (s : Sq1State) (words : List (List ℕ)) (least turns : List Turn) (word : List ℕ) → IsSq1 s
    → IsShortest s words least → Contains words word → IsStageWord sq1_after shape_stage s word → IsScrambleSq1 s turns
    → twists_in (back opposite least) ≤ twists_in turns
no_more_twists s words least turns word valid h there is scramble =
    let first = IsFirstTotal-scramble s turns valid scramble in
    let same : first.word ≡ word = one_stage_word sq1_after shape_stage s first.word word first.is is in
    let no_fewer =
    All-contains (NoFewer s least) words word (NoFewer-words s words least h) there first.total
    (subst (λ w. IsTotal s w first.total) same first.of_word) in
    omega (arith, no_fewer, twists-back least, twists-back first.total, ap twists_in first.taken_back)

-- ---- with one word, and with more

one_taken : (words : List (List ℕ)) (word : List ℕ) → slice_get words 0 ≡ Some word → take 1 words ≡ word ∷ []
one_taken [] word e = absurd (cc)
one_taken (w ∷ words) word e = let same : w ≡ word = cc in ap (λ v. v ∷ []) same

taken_one : (words before : List (List ℕ)) (word : List ℕ) (behind : List (List ℕ))
    → take 1 words ≡ before ++ word ∷ behind → slice_get words 0 ≡ Some word
taken_one [] before word behind e = absurd (omega (arith, ap length e, length-append before (word ∷ behind)))
taken_one (w ∷ words) [] word behind e = let same : w ≡ word = cc in ap Some same
taken_one (w ∷ words) (b ∷ before) word behind e = absurd (omega (arith, ap length e, length-append before (word ∷ behind)))

pub IsShortScramble-one : (s : Sq1State) (turns : List Turn) → IsSq1 s
    → IsShortScramble 1 s turns ↔ IsScrambleSq1 s turns
IsShortScramble-one s turns valid = (
  λ h.
      let least = h.shortest in
      let first = taken_one (shape_words s) least.before least.word least.behind least.in_order in
      subst (IsScrambleSq1 s) (sym h.taken_back)
      (IsScrambleSq1-total s least.word h.total valid least.is ((IsStageWord-listed s least.word).0 first)),
  λ h.
      let first = IsFirstTotal-scramble s turns valid h in
      record {
        total = first.total;
        shortest = subst (λ ws. IsShortest s ws first.total)
            (sym (one_taken (shape_words s) first.word ((IsStageWord-listed s first.word).1 first.is)))
            (IsShortest-one s first.word first.total first.of_word);
        taken_back = first.taken_back;
      },
)

more_taken : (fewer more : ℕ) (words : List (List ℕ)) (word : List ℕ) → fewer ≤ more → Contains (take fewer words) word
    → Contains (take more words) word
more_taken fewer more words word le (k, lt, e) =
    let sizes = length-take fewer words in
    let below : k < fewer = omega (arith, lt, sizes) in
    (k, omega (arith, lt, sizes, length-take more words, le), get_or-take more words k word (omega (arith, below, le)) ∙ sym (get_or-take fewer words k word below) ∙ e)

pub fewer_by_more : (s : Sq1State) (fewer more : ℕ) (turns other : List Turn) → fewer ≤ more
    → IsShortScramble fewer s turns → IsShortScramble more s other → twists_in other ≤ twists_in turns
fewer_by_more s fewer more turns other le a b =
    let words = shape_words s in
    let there = more_taken fewer more words a.shortest.word le (word-there s (take fewer words) a.total a.shortest) in
    let no_fewer =
    All-contains (NoFewer s b.total) (take more words) a.shortest.word (NoFewer-words s (take more words) b.total b.shortest) there a.total
    a.shortest.is in
    omega (arith, no_fewer, ap twists_in a.taken_back, ap twists_in b.taken_back, twists-back a.total, twists-back b.total)
