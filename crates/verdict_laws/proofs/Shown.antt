-- What evidence shows.
use Rattle.std.proofs.Common.{◌≡◌, true, List, [], ◌∷◌, length, refl, sym, ◌∙◌, arith, inl, inr}
use Rattle.std.proofs.lemmas.Bool.{false≢true, cases_lt}
use Rattle.program_tree.specs.Tree.{ProgramData}
use Rattle.scan_model.specs.InRange.{Row}
use Rattle.scan_model.specs.Pairs.{RelationData, Pair, start, is_related, after_row}
use Rattle.scan_model.specs.Verdicts.{IsBreakFrom}
use Rattle.verdict_laws.specs.Laws.{UnleftIsProved, LeftIsNotProved, NoneBelow, RelatedIsShown, DifferentIsShown, OpenIsShown}
use Rattle.verdict_laws.proofs.Covering.{by_test}

pub unleft_is_proved : UnleftIsProved
unleft_is_proved old new rel set greatest unleft = (
  set,
  greatest,
  λ pair row range meets ok.
      by_test (is_related rel (after_row old new rel row pair)) (λ held. held)
      (λ ends. absurd (unleft pair row (record { in_range = range; meets = meets; allowed = ok; unrelated = ends }))),
)

pub left_is_not_proved : LeftIsNotProved
left_is_not_proved old new rel set pair row greatest leaves proved =
    let related : is_related rel (after_row old new rel row pair) ≡ true =
    proved.2 pair row leaves.in_range (λ n lt inside. leaves.meets n lt ((greatest n lt).1 ((proved.1 n lt).0 inside))) leaves.allowed
    in
    false≢true (sym leaves.unrelated ∙ related)

no_row : (old new : ProgramData) (rel : RelationData) (pair : Pair) (rows : List Row) → length rows ≡ 0 → ¬ IsBreakFrom old new rel pair rows
no_row old new rel pair [] e b = b
no_row old new rel pair (row ∷ rows) e b = absurd (omega (arith, e))

pub none_below : NoneBelow
none_below old new rel d none e lt b =
    elim (cases_lt 0 e) [
      | inl some ↦ none e (omega arith) lt b
      | inr no_more ↦ no_row old new rel (start old new) b.0 (b.1 ∙ (omega arith)) b.2
    ]

pub related_is_shown : RelatedIsShown
related_is_shown old new rel set first greatest unleft = (first, unleft_is_proved old new rel set greatest unleft, (set, greatest, refl), refl)

pub different_is_shown : DifferentIsShown
different_is_shown old new rel rows first unproved shorter breaks deep = (first, unproved, (rows, refl, breaks), shorter, deep)

pub open_is_shown : OpenIsShown
open_is_shown old new rel set first greatest unproved none = (first, unproved, none, (set, greatest, refl), refl, refl)
