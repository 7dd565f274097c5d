use Rattle.std.proofs.Common.{◌≡◌, ◌++◌, ◌∙◌, ap, subst, sym, ℕ, List}
use Rattle.std.specs.Prelude.{Contains}
use Rattle.std.proofs.lemmas.List.Filters.{dedup_is}
use Rattle.std.proofs.lemmas.List.Kept.{Contains-dedup_nat}
use Rattle.std.proofs.lemmas.List.Sorted.{Contains-permutation}
use Rattle.std.proofs.lemmas.Map.Keys.{IsStrictlyIncreasing-dedup}
use Rattle.scan_ssa.specs.Merging.{places_in}
use Rattle.scan_ssa.proofs.merging.touched_places.Goals as goal

pub returns-clause-rising : goal.returns-clause-rising
returns-clause-rising c = let is = dedup_is _ _ _ c.dedup.ensures.filtered in rw is (IsStrictlyIncreasing-dedup _ c.sort_unstable.ensures.sorted)

pub returns-clause-all : goal.returns-clause-all
returns-clause-all c =
    let is = dedup_is _ _ _ c.dedup.ensures.filtered in
    let listed : c.append_places-2.new.places.items ≡ places_in c.args.one.now ++ places_in c.args.other.now =
    c.in_ok-append_places-2.ensures ∙ ap (λ l. l ++ places_in c.args.other.now) (c.in_ok-append_places.ensures ∙ ap (λ l. l ++ places_in c.args.one.now) c.new-places.ensures.items) in
    λ p h. rw is (Contains-dedup_nat _ p (Contains-permutation _ _ p c.sort_unstable.ensures.permutation (subst (λ (l : List ℕ). Contains l p) (sym listed) h)))
