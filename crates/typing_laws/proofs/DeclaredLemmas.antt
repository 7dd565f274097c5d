-- What declarations break, from what each of them breaks.
use Rattle.std.proofs.Common.{◌≡◌, ℕ, ◌+◌, Bool, List, [], ◌∷◌, sym, ap, ◌∙◌}
use Rattle.rules.specs.declared.rule.Rule.{Rule}
use Rattle.rules.specs.Rules.{first_in}
use Rattle.source_tree.specs.Syntax.{TypeDeclarationData, FileData, PouData}
use Rattle.naming.specs.FileScope.{types_of, pous_of}
use Rattle.naming.specs.Scopes.{Variable, variables_in_pou}
use Rattle.rules.specs.declared.outcome.Outcome.{Outcome}
use Rattle.rules.specs.Judgements.{Judgement, ok, and, require}
use Rattle.typing.specs.Domains.{judged_specification, judged_types}
use Rattle.typing.specs.Variables.{judged_variable, judged_variables}
use Rattle.typing.specs.Members.{scope_of}
use Rattle.typing.specs.Pous.{judged_body, judged_pou, judged_pous, broken_types}
use Rattle.rules.specs.Outcomes.{outcome_of, both, tried}
use Rattle.typing.specs.Outcomes.{types_outcome, variables_outcome, pous_outcome}
use Rattle.rules.proofs.Outcomes.{outcome_and, both_ok, ok_both}
use Rattle.typing_laws.proofs.Judging.{outcome_of-require, both-assoc}

-- two parts, and two tests of them
pub outcome_of-limits : (j k : Judgement) (o p q r s : Outcome) (b c : Bool) (one two : Rule) (at place : ℕ) → o ≡ outcome_of j → p ≡ outcome_of k → q ≡ both o p → r ≡ tried q b one at → s ≡ tried r c two place
    → s ≡ outcome_of (require (require (and j k) b one at) c two place)
outcome_of-limits j k o p q r s b c one two at place of_j of_k parts first second =
    let whole : q ≡ outcome_of (and j k) = parts ∙ ap (λ (x : Outcome). both x p) of_j ∙ ap (both (outcome_of j)) of_k ∙ outcome_and j k in
    let tested_once : r ≡ outcome_of (require (and j k) b one at) = first ∙ ap (λ (x : Outcome). tried x b one at) whole ∙ sym (outcome_of-require (and j k) b one at) in
    second ∙ ap (λ (x : Outcome). tried x c two place) tested_once ∙ sym (outcome_of-require (require (and j k) b one at) c two place)

pub types_outcome-is : (f : FileData) (o : Outcome) (ds : List TypeDeclarationData) → types_outcome f o ds ≡ both o (outcome_of (judged_types f ds))
types_outcome-is f o [] = sym (both_ok o)
types_outcome-is f o (d ∷ ds) =
    let j = judged_specification f d.name d.specification in
    types_outcome-is f (both o (outcome_of j)) ds ∙ both-assoc o (outcome_of j) (outcome_of (judged_types f ds)) ∙ ap (both o) (outcome_and j (judged_types f ds))

pub variables_outcome-is : (f : FileData) (o : Outcome) (vs : List Variable) → variables_outcome f o vs ≡ both o (outcome_of (judged_variables f vs))
variables_outcome-is f o [] = sym (both_ok o)
variables_outcome-is f o (v ∷ vs) =
    let j = judged_variable f v in
    variables_outcome-is f (both o (outcome_of j)) vs ∙ both-assoc o (outcome_of j) (outcome_of (judged_variables f vs)) ∙ ap (both o) (outcome_and j (judged_variables f vs))

pub pous_outcome-is : (f : FileData) (number : ℕ) (o : Outcome) (ps : List PouData) → pous_outcome f number o ps ≡ both o (outcome_of (judged_pous f number ps))
pous_outcome-is f number o [] = sym (both_ok o)
pous_outcome-is f number o (p ∷ ps) =
    let j = judged_pou f number p in
    let k = judged_pous f (number + 1) ps in
    pous_outcome-is f (number + 1) (both o (outcome_of j)) ps ∙ both-assoc o (outcome_of j) (outcome_of k) ∙ ap (both o) (outcome_and j k)

-- the declarations and the body of a POU
pub outcome_of-pou : (f : FileData) (number : ℕ) (p : PouData) (vs : List Variable) (s d b r : Outcome) → vs ≡ variables_in_pou p → s ≡ outcome_of ok → d ≡ variables_outcome f s vs
    → b ≡ outcome_of (judged_body (scope_of f [] number) p.body) → r ≡ both d b → r ≡ outcome_of (judged_pou f number p)
outcome_of-pou f number p vs s d b r same start declared body whole =
    let jv = judged_variables f (variables_in_pou p) in
    let jb = judged_body (scope_of f [] number) p.body in
    let of_declared : d ≡ outcome_of jv =
    declared ∙ ap (variables_outcome f s) same ∙ ap (λ (x : Outcome). variables_outcome f x (variables_in_pou p)) start ∙ variables_outcome-is f (outcome_of ok) (variables_in_pou p) ∙ ok_both (outcome_of jv) in
    whole ∙ ap (λ (x : Outcome). both x b) of_declared ∙ ap (both (outcome_of jv)) body ∙ outcome_and jv jb

-- a file breaks what its types and its POUs break
pub first_of_file : (f : FileData) (t r : Outcome) → t ≡ types_outcome f (outcome_of ok) (types_of f) → r ≡ pous_outcome f 0 t (pous_of f) → r.first ≡ first_in (broken_types f)
unfolding outcome_of
first_of_file f t r types pous =
    let jt = judged_types f (types_of f) in
    let jp = judged_pous f 0 (pous_of f) in
    let of_types : t ≡ outcome_of jt = types ∙ types_outcome-is f (outcome_of ok) (types_of f) ∙ ok_both (outcome_of jt) in
    let all : r ≡ outcome_of (and jt jp) = pous ∙ pous_outcome-is f 0 t (pous_of f) ∙ ap (λ (x : Outcome). both x (outcome_of jp)) of_types ∙ outcome_and jt jp in
    ap (λ (x : Outcome). x.first) all
