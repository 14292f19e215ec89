-- Random moves turn by turn.
use Rattle.std.proofs.Common.{◌≡◌, ℕ, suc, ◌+◌, ◌-◌, ◌*◌, ◌<◌, ◌≤◌, Option, Some, None, Result, Ok, Err, List, [], ◌∷◌, ◌++◌, length, refl, sym, ap, ◌∙◌, arith}
use Rattle.std.specs.Prelude.{slice_get, option_map, option_and_then, OnErr}
use Rattle.scr_draw.specs.Attempt.{answer, attempt_values}
use Rattle.scr_draw.specs.Drawn.{drawn}
use Rattle.scr_draw.specs.FirstHit.{numbers_read}
use Rattle.scr_notation.specs.declared.turn.Turn.{Turn}
use Rattle.scr_bigs.specs.Choices.{choice_of}
use Rattle.scr_bigs.specs.BigCubes.{IsSide, cube_turns, turns_after, turns_made}
use Rattle.scr_bigs.specs.CubeMoves.{moves_from, attempts_read}
use Rattle.scr_bigs.specs.LeftOut.{AreLeft, number_of_choice}
use Rattle.scr_bigs.proofs.ChoiceLaws.{drawn-choice}
use Rattle.scr_bigs.proofs.TurnOrder.{all-left}

-- what holds anyway holds at an error
pub OnErr-always : {X E P : Type 0} (r : Result X E) → P → OnErr r P
OnErr-always (Ok x) p = tt
OnErr-always (Err e) p = p

-- turns behind others
abbrev behind : List Turn → Option (List Turn) → Option (List Turn)
behind [] rest = rest
behind (turn ∷ turns) rest = option_map (λ more. turn ∷ more) (behind turns rest)

behind-all : (turns : List Turn) → behind turns (Some []) ≡ Some turns
behind-all [] = refl
behind-all (turn ∷ turns) = ap (option_map (λ more. turn ∷ more)) (behind-all turns)

behind-refused : (turns : List Turn) → behind turns None ≡ None
behind-refused [] = refl
behind-refused (turn ∷ turns) = ap (option_map (λ more. turn ∷ more)) (behind-refused turns)

behind-more : (turns : List Turn) (turn : Turn) (rest : Option (List Turn))
    → behind turns (option_map (λ more. turn ∷ more) rest) ≡ behind (turns ++ turn ∷ []) rest
behind-more [] turn rest = refl
behind-more (first ∷ turns) turn rest = ap (option_map (λ more. first ∷ more)) (behind-more turns turn rest)

-- what words come to: turns or none, and the place behind those that are read
pub record Outcome : Type 0 where
  pub turns : Option (List Turn)
  pub place : ℕ

module _ (side attempts : ℕ) (word : ℕ → ℕ) (turns choices : List Turn) (place : ℕ) where
  -- that of so many turns more behind some turns
  abbrev pub outcome : ℕ → Outcome
  outcome more = record {
    turns = behind turns (moves_from side attempts word choices place more);
    place = place + 3 * attempts_read side attempts word choices place more;
  }

  outcome-end : outcome 0 ≡ record { turns = Some turns; place = place }
  unfolding moves_from attempts_read
  outcome-end =
      let there : place + 3 * 0 ≡ place = omega arith in
      λ i. record { turns = behind-all turns i; place = there i }

  outcome-refused : (more : ℕ) → drawn (choice_of choices) (attempt_values word place attempts) ≡ None
      → outcome (suc more)
      ≡ record { turns = None; place = place + 3 * numbers_read (choice_of choices) (attempt_values word place attempts) }
  unfolding moves_from attempts_read
  outcome-refused more refused =
      let read : ℕ = numbers_read (choice_of choices) (attempt_values word place attempts) in
      let there : place + 3 * (read + 0) ≡ place + 3 * read = omega arith in
      rw refused (λ i. record { turns = behind-refused turns i; place = there i })

outcome-next : (side attempts : ℕ) (word : ℕ → ℕ) (turns choices : List Turn) (place more : ℕ) (turn : Turn)
    → drawn (choice_of choices) (attempt_values word place attempts) ≡ Some turn
    → outcome side attempts word turns choices place (suc more)
    ≡ outcome side attempts word (turns ++ turn ∷ []) (turns_after side turn)
    (place + 3 * numbers_read (choice_of choices) (attempt_values word place attempts)) more
unfolding moves_from attempts_read
outcome-next side attempts word turns choices place more turn drawn_is =
    let read : ℕ = numbers_read (choice_of choices) (attempt_values word place attempts) in
    let rest : ℕ = attempts_read side attempts word (turns_after side turn) (place + 3 * read) more in
    let there : place + 3 * (read + rest) ≡ place + 3 * read + 3 * rest = omega arith in
    let moves = moves_from side attempts word (turns_after side turn) (place + 3 * read) more in
    rw drawn_is (λ i. record { turns = behind-more turns turn moves i; place = there i })

-- what words come to for a scramble
abbrev pub scramble_outcome : ℕ → ℕ → (ℕ → ℕ) → ℕ → Outcome
scramble_outcome side attempts word place = outcome side attempts word [] (cube_turns side) place (turns_made side)

-- So many turns are made, and so many from the first on are left out as the next one: the outcome is that of the turns so
-- far and those that the next words give.
pub record AreMade (side attempts : ℕ) (word : ℕ → ℕ) (place : ℕ) (word_now : ℕ → ℕ) (first count place_now made : ℕ)
    (turns : List Turn) : Type 0 where
  pub same_words : word_now ≡ word
  pub choices : List Turn
  pub left : AreLeft side first count choices
  pub so_far : scramble_outcome side attempts word place
      ≡ outcome side attempts word turns choices place_now (turns_made side - made)

pub none-made : (side attempts : ℕ) (word : ℕ → ℕ) (place : ℕ) → IsSide side
    → AreMade side attempts word place word 0 0 place 0 []
none-made side attempts word place is = record {
  same_words = refl;
  choices = cube_turns side;
  left = all-left side is;
  so_far = ap (outcome side attempts word [] (cube_turns side) place) (omega arith);
}

module _ {side attempts place : ℕ} {word word_now : ℕ → ℕ} {first count place_now made : ℕ} {turns : List Turn}
    (made_so : AreMade side attempts word place word_now first count place_now made turns) where
  -- what comes of so many turns more
  abbrev now : ℕ → Outcome
  now = outcome side attempts word turns made_so.choices place_now

  -- all turns are made
  pub all-made : (end : ℕ) → end ≤ made → end ≡ turns_made side
      → scramble_outcome side attempts word place ≡ record { turns = Some turns; place = place_now }
  all-made end last whole =
      let none : turns_made side - made ≡ 0 = omega arith in
      made_so.so_far ∙ ap now none
      ∙ outcome-end side attempts word turns made_so.choices place_now

  -- what the next attempts draw, and behind which place they are
  module _ (choice : Option ℕ) (place_next : ℕ)
      (draws : drawn (answer (9 * (side - 1) - count)) (attempt_values word_now place_now attempts) ≡ choice)
      (reads : place_next
      ≡ place_now + 3 * numbers_read (answer (9 * (side - 1) - count)) (attempt_values word_now place_now attempts)) where
    some_left : 1 ≤ length made_so.choices
    some_left = let some = made_so.left.some in let size = made_so.left.size in omega arith

    draws_now : drawn (choice_of made_so.choices) (attempt_values word place_now attempts)
        ≡ option_and_then (slice_get made_so.choices) choice
    draws_now =
        (drawn-choice made_so.choices some_left (attempt_values word place_now attempts)).0
        ∙ ap (option_and_then (slice_get made_so.choices)) (rw (made_so.left.size, ← made_so.same_words) draws)

    reads_now : place_next
        ≡ place_now + 3 * numbers_read (choice_of made_so.choices) (attempt_values word place_now attempts)
    reads_now =
        rw ((drawn-choice made_so.choices some_left (attempt_values word place_now attempts)).1, made_so.left.size, ← made_so.same_words) reads

    module _ (end : ℕ) (more : made < end) (whole : end ≡ turns_made side) where
      left : turns_made side - made ≡ suc (turns_made side - (made + 1))
      left = omega arith

      -- all of them are refused
      pub none-more : choice ≡ None → scramble_outcome side attempts word place ≡ record { turns = None; place = place_next }
      none-more refused =
          made_so.so_far ∙ ap now left
          ∙ outcome-refused side attempts word turns made_so.choices place_now (turns_made side - (made + 1))
          (draws_now ∙ ap (option_and_then (slice_get made_so.choices)) refused)
          ∙ ap (λ p. record { turns = None; place = p }) (sym reads_now)

      -- one more turn is made
      pub one-more : (number : ℕ) (turn : Turn) (word_next : ℕ → ℕ) (first_next count_next : ℕ) → choice ≡ Some number
          → number < 9 * (side - 1) - count
          → slice_get (cube_turns side) (number_of_choice first count number) ≡ Some turn
          → AreLeft side first_next count_next (turns_after side turn) → word_next ≡ word_now
          → AreMade side attempts word place word_next first_next count_next place_next (made + 1) (turns ++ turn ∷ [])
      one-more number turn word_next first_next count_next chosen below there after same = record {
        same_words = same ∙ made_so.same_words;
        choices = turns_after side turn;
        left = after;
        so_far =
            made_so.so_far ∙ ap now left
            ∙ outcome-next side attempts word turns made_so.choices place_now (turns_made side - (made + 1)) turn
            (draws_now ∙ ap (option_and_then (slice_get made_so.choices)) chosen ∙ made_so.left.each number below ∙ there)
            ∙ ap (λ p. outcome side attempts word (turns ++ turn ∷ []) (turns_after side turn) p (turns_made side - (made + 1))) (sym reads_now);
      }
