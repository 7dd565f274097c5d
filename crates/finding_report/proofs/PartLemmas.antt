-- The names of candidates, one by one.
use Rattle.std.proofs.Common.{◌≡◌, ℕ, ◌+◌, ◌<◌, Bool, true, false, List, ◌∷◌, ◌++◌, length, drop, get_or, map, refl, sym, ap, ◌∙◌, arith}
use Rattle.std.specs.Prelude.{if◌then◌else◌}
use Rattle.std.proofs.lemmas.Grind.{common_steps}
use Rattle.serde_json.specs.Data.{Data, string}
use Rattle.scan_model.specs.declared.relation.Candidate.{Candidate}
use Rattle.scan_model.specs.Pairs.{candidate_view, candidates_view}
use Rattle.scan_model.specs.Verdicts.{CandidateSet}
use Rattle.finding_report.specs.Reports.{names_among}

left_first : (cs : List Candidate) (i : ℕ) (c : Candidate) → i < length cs → c ≡ get_or cs i c → candidates_view (drop i cs) ≡ candidate_view c ∷ candidates_view (drop (i + 1) cs)
left_first cs i c below at = grind (arith, common_steps)

strings_either : (b : Bool) (name : List ℕ) (rest : List (List ℕ)) → (if b then string name ∷ map string rest else map string rest) ≡ map string (if b then name ∷ rest else rest)
strings_either true name rest = refl
strings_either false name rest = refl

module _ (set : CandidateSet) (cs : List Candidate) (i : ℕ) (c : Candidate) (b : Bool) (name : List ℕ) (old new : List Data) where
  -- one more candidate, in the set or not
  pub names_next : i < length cs → c ≡ get_or cs i c → b ≡ set i → name ≡ (candidate_view c).name
      → ((rest : List Data) → new ++ rest ≡ old ++ (if b then string name ∷ rest else rest))
      → new ++ map string (names_among set (i + 1) (candidates_view (drop (i + 1) cs))) ≡ old ++ map string (names_among set i (candidates_view (drop i cs)))
  names_next below at is named more =
      let rest = names_among set (i + 1) (candidates_view (drop (i + 1) cs)) in
      more (map string rest) ∙ ap (λ n. old ++ (if b then string n ∷ map string rest else map string rest)) named ∙ ap (λ ds. old ++ ds) (strings_either b (candidate_view c).name rest)
      ∙ ap (λ t. old ++ map string (if t then (candidate_view c).name ∷ rest else rest)) is
      ∙ ap (λ ds. old ++ map string (names_among set i ds)) (sym (left_first cs i c below at))
