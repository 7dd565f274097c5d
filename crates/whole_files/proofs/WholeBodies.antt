-- Where a file breaks no rule, the variables and the body of each of its POUs are whole.
use Rattle.std.proofs.Common.{◌≡◌, ℕ, zero, suc, ◌+◌, List, [], ◌∷◌, true, Some, ap, subst, inl, arith, zero-add}
use Rattle.std.specs.List.{slice_get}
use Rattle.rules.specs.declared.rule.Refusal.{Refusal}
use Rattle.rules.specs.Judgements.{and}
use Rattle.source_tree.specs.Syntax.{PouData, FileData}
use Rattle.source_tree.specs.Levels.{IsBodyLevelled, IsFileLevelled}
use Rattle.naming.specs.FileScope.{types_of, pous_of, pou_at}
use Rattle.naming.specs.Scopes.{variables_in_pou, scope_of as names_of}
use Rattle.naming.specs.Broken.{variables_twice, in_declarations, in_body, in_pou_scope, in_pou, broken_names}
use Rattle.naming.specs.Circles.{IsBroken}
use Rattle.naming.proofs.CircleLemmas.{nothing_left}
use Rattle.alike_scopes.proofs.st_names.Clean.{parts, no_doubles}
use Rattle.typing.specs.Domains.{judged_types}
use Rattle.typing.specs.Variables.{judged_variables}
use Rattle.typing.specs.Members.{scope_of}
use Rattle.typing.specs.Pous.{judged_body, judged_pou, judged_pous, broken_types}
use Rattle.alike_scopes.proofs.typed_scopes.Wholes.{whole_and}
use Rattle.whole_files.specs.WholeScopes.{IsWholeScope}
use Rattle.alike_scopes.specs.bound_names.BoundNames.{is_function_called, bound_uses, IsBodyWithin}
use Rattle.whole_files.proofs.Told.{nil_front, nil_behind}
use Rattle.whole_files.proofs.ToldStatements.{body_told}
use Rattle.alike_scopes.proofs.bound_names.Within.{body_within}
use Rattle.alike_scopes.proofs.st_names.WholeNames.{pou_typed, pou_whole}
use Rattle.whole_files.proofs.Formed.{pou_levelled, variables_formed}
use Rattle.whole_files.proofs.WholeDomains.{value_whole}
use Rattle.whole_files.proofs.WholeVariables.{AreWholeVariables, variables_whole}
use Rattle.whole_files.proofs.WholeMembers.{scope_whole}

pub no_names : (f : FileData) → ((r : Refusal) → IsBroken f r → ⊥) → broken_names f ≡ []
no_names f names = nothing_left (broken_names f) (λ r among. names r (inl among))

pou_judged : (f : FileData) (number : ℕ) (ps : List PouData) (i : ℕ) (p : PouData) → (judged_pous f number ps).broken ≡ [] → slice_get ps i ≡ Some p → (judged_pou f (number + i) p).broken ≡ []
pou_judged f number [] i p h at = absurd (let e : ⊥ = cc in e)
pou_judged f number (x ∷ ps) zero p h at =
    let same : x ≡ p = cc in
    let here = nil_front (judged_pou f number x).broken (judged_pous f (number + 1) ps).broken h in
    subst (λ (n : ℕ). (judged_pou f n p).broken ≡ []) (let e : number ≡ number + 0 = omega arith in e) (subst (λ (y : PouData). (judged_pou f number y).broken ≡ []) same here)
pou_judged f number (x ∷ ps) (suc i) p h at =
    let more : number + 1 + i ≡ number + suc i = omega arith in
    subst (λ (n : ℕ). (judged_pou f n p).broken ≡ []) more (pou_judged f (number + 1) ps i p (nil_behind (judged_pou f number x).broken (judged_pous f (number + 1) ps).broken h) at)

-- what is whole of the names of a POU
names_declared : (f : FileData) (d : PouData) → (in_pou f d).whole ≡ true → (in_declarations f (names_of d) 0 (variables_in_pou d)).whole ≡ true
unfolding in_pou_scope
names_declared f d h =
    let p = names_of d in
    let twice = variables_twice p.has_fault [] p.variables in
    let declared = in_declarations f p 0 p.variables in
    (whole_and twice declared (whole_and (and twice declared) (in_body f p d.body) h).0).1

pub names_of_body : (f : FileData) (d : PouData) → (in_pou f d).whole ≡ true → (in_body f (names_of d) d.body).whole ≡ true
unfolding in_pou_scope
names_of_body f d h =
    let p = names_of d in
    let twice = variables_twice p.has_fault [] p.variables in
    let declared = in_declarations f p 0 p.variables in
    (whole_and (and twice declared) (in_body f p d.body) h).1

module _ (f : FileData) (none : broken_names f ≡ []) (levels : IsFileLevelled f) where
  body_levelled : (k : ℕ) (d : PouData) → pou_at f k ≡ Some d → IsBodyLevelled d.body
  body_levelled k d at = (pou_levelled f k d levels at).4

  -- the body uses nothing but what names let it use
  pub body_bound : (k : ℕ) (d : PouData) → pou_at f k ≡ Some d → IsBodyWithin (bound_uses f (names_of d)) d.body
  body_bound k d at =
      body_within f (no_doubles f (parts f none).1) (names_of d) (bound_uses f (names_of d)) (λ u. Unit {0}) (λ r h. h) (λ text number standard is called. ap is_function_called is)
      d.body (body_levelled k d at) (names_of_body f d (pou_whole f none k d at)) (λ u m. tt)

  module _ (types : broken_types f ≡ []) where
    judged_each : (judged_types f (types_of f)).broken ≡ []
    judged_each = nil_front (judged_types f (types_of f)).broken (judged_pous f 0 (pous_of f)).broken types

    judged_at : (k : ℕ) (d : PouData) → pou_at f k ≡ Some d → (judged_pou f k d).broken ≡ []
    judged_at k d at =
        subst (λ (n : ℕ). (judged_pou f n d).broken ≡ []) (zero-add k) (pou_judged f 0 (pous_of f) k d (nil_behind (judged_types f (types_of f)).broken (judged_pous f 0 (pous_of f)).broken types) at)

    pub pou_variables : (k : ℕ) (d : PouData) → pou_at f k ≡ Some d → AreWholeVariables f (variables_in_pou d)
    pou_variables k d at =
        variables_whole f none levels judged_each (names_of d) 0 (variables_in_pou d) (variables_formed d (pou_levelled f k d levels at)) (names_declared f d (pou_whole f none k d at)) (pou_typed f none k d at)
        (nil_front (judged_variables f (variables_in_pou d)).broken (judged_body (scope_of f [] k) d.body).broken (judged_at k d at))

    pub scope_of_pou : (sizes : List ℕ) (k : ℕ) (d : PouData) → pou_at f k ≡ Some d → IsWholeScope (scope_of f sizes k) (bound_uses f (names_of d))
    scope_of_pou sizes k d at = scope_whole f pou_variables (value_whole f none levels judged_each) sizes k d at

    -- over a scope that knows no sizes
    pub body_unplaced : (k : ℕ) (d : PouData) → pou_at f k ≡ Some d → (judged_body (scope_of f [] k) d.body).whole ≡ true
    body_unplaced k d at =
        body_told (scope_of f [] k) (bound_uses f (names_of d)) (scope_of_pou [] k d at) d.body (body_bound k d at)
        (nil_behind (judged_variables f (variables_in_pou d)).broken (judged_body (scope_of f [] k) d.body).broken (judged_at k d at))
