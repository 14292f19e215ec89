-- Counting the entries of a table.
use Rattle.std.proofs.Common.{◌≡◌, ◌≢◌, ℕ, ◌+◌, ◌<◌, eqb, List, length, get_or, take, inl, inr, refl, sym, ap, ◌∙◌, get_or-set_other, get_or-set_same}
use Rattle.std.specs.Prelude.{count_by}
use Rattle.std.proofs.Math.ListN.{set}
use Rattle.std.proofs.lemmas.Bool.Decides.{eqb_tells}
use Rattle.std.proofs.lemmas.List.Sums.{count_by_more_no, count_by_more_yes}
use Rattle.scr_table.specs.declared.table.TheConstants.{GREATEST_BOUND}

-- how many entries equal each number, after one entry more
pub counted_more : (counts entries : List ℕ) (p e : ℕ) → p < length entries → get_or entries p 0 ≡ e → e < length counts
    → ((d : ℕ) → d < GREATEST_BOUND + 1 → get_or counts d 0 ≡ count_by (λ x. eqb x d) (take p entries)) → (d : ℕ) → d < GREATEST_BOUND + 1
    → get_or (set counts e (get_or counts e 0 + 1)) d 0 ≡ count_by (λ x. eqb x d) (take (p + 1) entries)
counted_more counts entries p e inside is room before d lt =
    elim (eqb_tells e d) [
      | inl (equal, same) ↦
          let here : get_or (set counts e (get_or counts e 0 + 1)) d 0 ≡ get_or counts e 0 + 1 =
          ap (λ i. get_or (set counts e (get_or counts e 0 + 1)) i 0) (sym same) ∙ get_or-set_same counts e (get_or counts e 0 + 1) 0 room in
          here ∙ ap (λ n. n + 1) (ap (λ i. get_or counts i 0) same ∙ before d lt)
          ∙ sym (count_by_more_yes (λ x. eqb x d) entries p 0 inside (ap (λ x. eqb x d) is ∙ equal))
      | inr (unequal, other) ↦
          let ne : d ≢ e = λ s. other (sym s) in
          (rw get_or-set_other refl) ∙ before d lt
          ∙ sym (count_by_more_no (λ x. eqb x d) entries p 0 inside (ap (λ x. eqb x d) is ∙ unequal))
    ]
