-- What a finding that was written from its start shows.
use Rattle.std.proofs.Common.{◌≡◌, ◌≤◌, [], length, refl, sym, ap, ◌∙◌, subst, arith, inl, append-nil}
use Rattle.std.specs.Prelude.{Option, Some, None, Result, Ok, Err, IfSome, IfOk, OnErr}
use Rattle.clause_core.specs.Formula.{Formula}
use Rattle.finding_file.specs.Writing.{all_written}
use Rattle.finding_file.specs.declared.errors.WriteErr.{WriteErr}
use Rattle.finding_file.specs.declared.errors.WriteErr.TheVariants.{M8}
use Rattle.queries.specs.Comparisons.{Comparison, IsComparison}
use Rattle.queries.specs.Settings.{Setting, setting_of}
use Rattle.queries.specs.Questions.{QueryData, IsQueryOf}
use Rattle.queries.specs.Meaning.{Means}
use Rattle.queries.specs.Sets.{members}
use Rattle.judgement.specs.Places.{Place, at_top, at_kept, finished, finished_by}
use Rattle.judgement.specs.Findings.{nowhere, IsJudged, Leads}
use Rattle.judgement.specs.Shown.{IsShown, IsReachShown}
use Rattle.judgement.specs.declared.answers.Concluded.{Concluded}
use Rattle.judgement.specs.declared.answers.Reach.{Reach}
use Rattle.judgement.specs.declared.answers.Judged.TheVariants.{Valid}
use Rattle.judgement.proofs.Soundness.{known_leads}
use Rattle.finding_search.specs.Desks.{Desk, finding}
use Rattle.finding_search.specs.Passing.{IsPartOfFinding, IsFull}
use Rattle.finding_search.specs.Places.{IsPruned, place_of}
use Rattle.finding_search.specs.Writes.{StandsAt, Writes}
use Rattle.finding_search.specs.declared.dropping.Pruned.{Pruned}
use Rattle.finding_search.specs.declared.dropping.Pruned.TheVariants.{Kept, Spent}
use Rattle.finding_search.proofs.Alike.{kept_alike, finished_alike}

IfSome-map : {A : Type 0} {P Q : A → Type 0} → (o : Option A) → ((x : A) → P x → Q x) → IfSome o P → IfSome o Q
IfSome-map None h p = tt
IfSome-map (Some x) h p = h x p

module _ (s : Setting) (formula : QueryData → Formula) (old new : Desk) (empty : IfSome (finding old) (λ bytes. bytes ≡ [])) (unwritten : old.writer.size ≡ 0) where
  starts : StandsAt s formula old at_top
  starts = record { all = []; there = at_top; leads = nowhere; alike = inl refl; told = empty; counted = unwritten; within = omega arith }

  same_file : {T : Type 0} (to : T → Place) (result : Result T WriteErr) → Writes s formula old at_top new to result → finding new ≡ new.shelf.file old.writer.name
  same_file to result w = ap (λ name. new.shelf.file name) w.name

  -- lines that lead behind an END line lead to no other place
  pub leads_there : (a : Concluded) (st : StandsAt s formula new (finished_by a)) → Leads s formula st.all (finished_by a)
  leads_there a st = subst (λ (place : Place). Leads s formula st.all place) (finished_alike s st.there a.reach a.verdict st.alike) st.leads

  pub is_valid : (result : Result Concluded WriteErr) → Writes s formula old at_top new finished_by result
      → IfOk result (λ a. IfSome (new.shelf.file old.writer.name) (λ file. IsJudged s formula old.writer.limit file (Ok (Valid a.verdict a.reach))))
  is_valid (Ok a) w =
      let st : StandsAt s formula new (finished_by a) = w.stands starts in
      let within : length (all_written st.all) ≤ old.writer.limit = let more = st.within in let same = w.limit in omega (arith, more, same) in
      subst (λ o. IfSome o (λ file. IsJudged s formula old.writer.limit file (Ok (Valid a.verdict a.reach)))) (same_file finished_by (Ok a) w)
      (IfSome-map (finding new) (λ file e. (st.all, record { leads = leads_there a st; whole = e ∙ sym (append-nil (all_written st.all)); within = within })) st.told)
  is_valid (Err e) w = tt

  pub is_part : (result : Result Concluded WriteErr) → Writes s formula old at_top new finished_by result → OnErr result (IfSome (new.shelf.file old.writer.name) (IsPartOfFinding s formula))
  is_part (Ok a) w = tt
  is_part (Err e) w = subst (λ o. IfSome o (IsPartOfFinding s formula)) (same_file finished_by (Err e) w) ((w.stands starts).part)

  pub is_full : (result : Result Concluded WriteErr) → Writes s formula old at_top new finished_by result → result ≡ Err M8 → IsFull s formula (new.shelf.file old.writer.name) old.writer.limit
  is_full (Ok a) w e = absurd cc
  is_full (Err error) w e =
      let same : error ≡ M8 = cc in
      subst (λ o. IsFull s formula o old.writer.limit) (same_file finished_by (Err error) w)
      (subst (λ n. IsFull s formula (finding new) n) w.limit ((w.stands starts).past same))

module _ (c : Comparison) (formula : QueryData → Formula) (is : IsComparison c) (means : (query : QueryData) → IsQueryOf c query → Means c query (formula query)) where
  module _ (old new : Desk) (empty : IfSome (finding old) (λ bytes. bytes ≡ [])) (unwritten : old.writer.size ≡ 0) where
    stands_there : (a : Concluded) → Writes (setting_of c) formula old at_top new finished_by (let r : Result Concluded WriteErr = Ok a in r)
        → StandsAt (setting_of c) formula new (finished_by a)
    stands_there a w = w.stands (starts (setting_of c) formula old new empty unwritten)

    all_shown : (a : Concluded) → Writes (setting_of c) formula old at_top new finished_by (let r : Result Concluded WriteErr = Ok a in r)
        → IsShown c formula a.verdict × IsReachShown c formula a.reach
    all_shown a w =
        known_leads c formula is means (stands_there a w).all (finished_by a) (leads_there (setting_of c) formula old new empty unwritten a (stands_there a w))

    pub is_shown : (result : Result Concluded WriteErr) → Writes (setting_of c) formula old at_top new finished_by result
        → IfOk result (λ a. IsShown c formula a.verdict)
    is_shown (Ok a) w = (all_shown a w).0
    is_shown (Err e) w = tt

    -- and of reach
    pub is_reached : (result : Result Concluded WriteErr) → Writes (setting_of c) formula old at_top new finished_by result
        → IfOk result (λ a. IsReachShown c formula a.reach)
    is_reached (Ok a) w = (all_shown a w).1
    is_reached (Err e) w = tt

  -- and what stands behind the dropping of candidates
  pub is_pruned : (new : Desk) (reach : Reach) (pruned : Pruned) → StandsAt (setting_of c) formula new (place_of reach pruned) → IsPruned c formula pruned
  is_pruned new reach (Kept set) st =
      (known_leads c formula is means st.all (at_kept reach (members set))
      (subst (λ (place : Place). Leads (setting_of c) formula st.all place) (kept_alike (setting_of c) st.there reach (members set) st.alike) st.leads)).0.greatest
  is_pruned new reach (Spent verdict) st =
      (known_leads c formula is means st.all (finished reach verdict)
      (subst (λ (place : Place). Leads (setting_of c) formula st.all place) (finished_alike (setting_of c) st.there reach verdict st.alike) st.leads)).0
