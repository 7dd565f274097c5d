-- Sets with every candidate that is kept.
use Rattle.std.proofs.Common.{◌≡◌, ℕ, zero, suc, ◌<◌, Bool, true, false, refl, arith}
use Rattle.std.specs.Prelude.{nat_lt}
use Rattle.std.proofs.lemmas.Bool.{lt-ltb, and_from, and_parts}
use Rattle.std.proofs.lemmas.Bool.Decides.{same_from_decides}
use Rattle.scan_model.specs.Pairs.{start, after_row}
use Rattle.scan_model.specs.Verdicts.{CandidateSet, count_of, size_below}
use Rattle.verdict_laws.specs.Evidence.{candidate_on}
use Rattle.verdict_laws.specs.Laws.{StartCovers, StartMeets, LeftCovers, UnleftIsInductive, CoveringIsGreatest, OneSize}

-- by cases on a test
pub by_test : {P : Type 0} → (b : Bool) → (b ≡ true → P) → (b ≡ false → P) → P
by_test true if_true if_false = if_true refl
by_test false if_true if_false = if_false refl

pub start_covers_is : StartCovers
start_covers_is old new rel n lt kept =
    and_from (nat_lt n (count_of old new rel)) (candidate_on old new rel n (start old new)) (lt-ltb n (count_of old new rel) lt) (kept.1.starts n lt kept.2)

pub start_meets_is : StartMeets
start_meets_is old new rel n lt inside = (and_parts (nat_lt n (count_of old new rel)) (candidate_on old new rel n (start old new)) inside).1

pub left_covers_is : LeftCovers
left_covers_is old new rel set pair row covers range meets ok n lt kept =
    and_from (set n) (candidate_on old new rel n (after_row old new rel row pair)) (covers n lt kept)
    (kept.1.steps pair row range (λ m below within. meets m below (covers m below (kept.0, kept.1, within))) ok n lt kept.2)

pub unleft_is_inductive : UnleftIsInductive
unleft_is_inductive old new rel set starts unleft = record {
  starts = starts;
  steps = λ pair row range meets ok n lt inside.
      by_test (candidate_on old new rel n (after_row old new rel row pair)) (λ held. held)
      (λ fails. absurd (unleft pair row (record { in_range = range; meets = meets; allowed = ok; fails = (n, lt, inside, fails) })));
}

pub covering_is_greatest : CoveringIsGreatest
covering_is_greatest old new rel set covers inductive n lt = (λ inside. (set, inductive, inside), λ kept. covers n lt kept)

same_size : (c : ℕ) (a b : CandidateSet) → ((n : ℕ) → n < c → a n ≡ b n) → size_below c a ≡ size_below c b
same_size zero a b h = refl
same_size (suc n) a b h =
    let here : a n ≡ b n = h n (omega arith) in
    let rest : size_below n a ≡ size_below n b = same_size n a b (λ k lt. h k (omega arith)) in
    cc

pub one_size_is : OneSize
one_size_is old new rel a b ga gb = same_size (count_of old new rel) a b (λ n lt. same_from_decides (a n) (b n) (ga n lt) (gb n lt))
