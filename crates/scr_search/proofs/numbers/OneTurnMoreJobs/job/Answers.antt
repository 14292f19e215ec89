use Rattle.std.proofs.Common.{◌≡◌, false, sym, subst}
use Rattle.std.specs.Prelude.{◌==◌, Contains}
use Rattle.std.specs.List.{dedup}
use Rattle.std.proofs.lemmas.List.Filters.{dedup_is}
use Rattle.std.proofs.lemmas.List.Kept.{Contains-dedup_nat}
use Rattle.std.proofs.lemmas.List.Sorted.{Contains-permutation}
use Rattle.scr_search.proofs.NearLaws.{IsSpread-wider}
use Rattle.scr_search.proofs.numbers.OneTurnMoreJobs.job.Goals as goal

pub returns : goal.returns
returns g c =
    let into = c.spread.new.into in
    let made = into.numbers.items in
    let sorted = c.sort_unstable.new.self.items in
    let kept : c.dedup.new.self.items ≡ dedup (λ x y. x == y) sorted = dedup_is (λ x y. x == y) sorted _ c.dedup.ensures.filtered in
    IsSpread-wider g.P.Part.views c.args.self.now.lists.now c.args.slot (λ n. into.is_cut ≡ false → Contains made n)
    (Contains c.dedup.new.self.items) (λ number there.
    subst (λ xs. Contains xs number) (sym kept)
    (Contains-dedup_nat sorted number (Contains-permutation made sorted number c.sort_unstable.ensures.permutation (there c.if-into.false))))
    c.spread.ensures
