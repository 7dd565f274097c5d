-- Steps, one after the other.
use Rattle.std.proofs.Common.{◌≡◌, ℕ, ◌+◌, ◌<◌, Bool, refl, sym, ◌∙◌, ap, List, [], ◌∷◌, ◌++◌, length, drop, get_or}
use Rattle.std.specs.Prelude.{slice_set}
use Rattle.std.proofs.lemmas.List.{drop_more}
use Rattle.gates.specs.Models.{put}
use Rattle.lane_sim.specs.declared.step.Step.{Step}
use Rattle.lane_sim.specs.Lanes.{lane, assignment_of}
use Rattle.lane_sim.specs.Steps.{target_of, step_true, stepped}
use Rattle.lane_sim.proofs.RunLaws.{assignment_of-set}

-- the last of several steps
pub stepped-push : (ss : List Step) (s : Step) (w : ℕ → Bool) → stepped (ss ++ s ∷ []) w ≡ put (stepped ss w) (target_of s) (step_true (stepped ss w) s)
stepped-push [] s w = refl
stepped-push (r ∷ ss) s w = stepped-push ss s (put w (target_of r) (step_true w r))

-- the steps from place i on: the first, and those after it
pub stepped-drop : (j : ℕ) (words : List (List ℕ)) (i x : ℕ) (w : List ℕ) (ss : List Step) (d : Step) → i < length ss → x ≡ target_of (get_or ss i d) → x < length words → lane w j ≡ step_true (assignment_of j words) (get_or ss i d)
    → stepped (drop (i + 1) ss) (assignment_of j (slice_set words x w)) ≡ stepped (drop i ss) (assignment_of j words)
stepped-drop j words i x w ss d lt at inside e =
    let s : Step = get_or ss i d in
    let v : ℕ → Bool = assignment_of j words in
    ap (stepped (drop (i + 1) ss)) (assignment_of-set j words x w (step_true v s) inside e)
    ∙ ap (λ y. stepped (drop (i + 1) ss) (put v y (step_true v s))) at
    ∙ sym (ap (λ rest. stepped rest v) (drop_more ss i d lt))
