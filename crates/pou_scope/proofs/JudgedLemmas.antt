-- What is judged of a POU, and of all POUs by the list of their names.
use Rattle.std.proofs.Common.{◌≡◌, ◌<◌, ℕ, List, [], ◌++◌, length, map, get_or, Bool, Some, None, Option, option_map, refl, sym, ap, ◌∙◌}
use Rattle.std.specs.List.{slice_get}
use Rattle.std.proofs.lemmas.Option.{slice_get-map, slice_get_read}
use Rattle.source_tree.specs.Syntax.{BodyData, PouData, FileData}
use Rattle.source_tree.specs.SyntaxView.{pou_view}
use Rattle.pou_scope.specs.declared.pou_names.NamesOfPou.{NamesOfPou}
use Rattle.rules.specs.declared.outcome.Outcome.{Outcome}
use Rattle.naming.specs.Broken.{variables_twice, in_declarations, in_body, in_pou_scope}
use Rattle.naming.specs.Circles.{blocks_used, calls_in_body, uses_in}
use Rattle.naming.specs.FileScope.{pous_of, pou_at, is_program}
use Rattle.rules.specs.Judgements.{and}
use Rattle.pou_scope.specs.NamesView.{scope_named, pous_named, scopes_named, known_in, seens_named, seen_by, AreNamesOf}
use Rattle.pou_scope.specs.AllSeen.{all_seen, seen_in}
use Rattle.pou_scope.proofs.SeenLemmas.{seen_by_is}
use Rattle.rules.specs.Outcomes.{outcome_of, both}
use Rattle.naming.specs.Scopes.{Variable, PouScope, scope_of, variables_in_pou, seen_named}
use Rattle.naming.specs.ScopeView.{variables_view}
use Rattle.rules.proofs.Outcomes.{outcome_and}

pub pou_judged : (f : FileData) (p : PouScope) (body : BodyData) (a b d : Outcome) → a ≡ outcome_of (variables_twice p.has_fault [] p.variables) → b ≡ both a (outcome_of (in_declarations f p 0 p.variables))
    → d ≡ both b (outcome_of (in_body f p body)) → d ≡ outcome_of (in_pou_scope f p body)
unfolding in_pou_scope
pou_judged f p body a b d once declared inner =
    let front = variables_twice p.has_fault [] p.variables in
    let middle = in_declarations f p 0 p.variables in
    let two : b ≡ outcome_of (and front middle) = declared ∙ ap (λ o. both o (outcome_of middle)) once ∙ outcome_and front middle in
    inner ∙ ap (λ o. both o (outcome_of (in_body f p body))) two ∙ outcome_and (and front middle) (in_body f p body)

pub scope_is : (n : NamesOfPou) (p : PouData) → n.has_fault ≡ is_program p.pou_type → variables_view n.variables.items ≡ variables_in_pou p → scope_named n ≡ scope_of p
scope_is n p fault variables =
    ap (λ (b : Bool). record { has_fault = b; variables = variables_view n.variables.items }) fault
    ∙ ap (λ (vs : List Variable). record { has_fault = is_program p.pou_type; variables = vs }) variables

some_same : {A : Type 0} (a b : A) → Some a ≡ Some b → a ≡ b
some_same a b h = cc

pub are_names : (f : FileData) (ns : List NamesOfPou) → scopes_named ns ≡ map scope_of (pous_of f) → seens_named ns ≡ map (seen_in f) (pous_of f) → AreNamesOf f ns
are_names f ns scopes seens number text =
    by (slice_get ns number) (pou_at f number)
    (sym (slice_get-map scope_named ns number) ∙ ap (λ ss. slice_get ss number) scopes ∙ slice_get-map scope_of (pous_of f) number)
    (sym (slice_get-map known_in ns number) ∙ ap (λ ss. slice_get ss number) seens ∙ slice_get-map (seen_in f) (pous_of f) number)
  where
    by : (o : Option NamesOfPou) (q : Option PouData) → option_map scope_named o ≡ option_map scope_of q → option_map known_in o ≡ option_map (seen_in f) q
        → option_map (λ n. seen_by n text) o ≡ option_map (λ p. seen_named f (scope_of p) text) q
    by None None h k = refl
    by None (Some p) h k = absurd (let e : ⊥ = cc in e)
    by (Some n) None h k = absurd (let e : ⊥ = cc in e)
    by (Some n) (Some p) h k =
        let same = some_same (scope_named n) (scope_of p) h in
        let is = some_same (known_in n) (seen_in f p) k ∙ ap (all_seen f) (sym same) in
        ap Some (seen_by_is f n is text) ∙ ap (λ s. Some (seen_named f s text)) same

-- the scope of each by the POU's
pub scope_at : (ns : List NamesOfPou) (ps : List PouData) (i : ℕ) (x : NamesOfPou) → pous_named ns ≡ ps → scopes_named ns ≡ map scope_of ps → i < length ns → x ≡ get_or ns i x → scope_named x ≡ scope_of (pou_view x.pou.now)
scope_at ns ps i x pous scopes below at =
    let there : slice_get ns i ≡ Some x = slice_get_read ns (length ns) i x refl below at in
    let own : slice_get (scopes_named ns) i ≡ Some (scope_named x) = slice_get-map scope_named ns i ∙ ap (option_map scope_named) there in
    let pou : slice_get ps i ≡ Some (pou_view x.pou.now) = ap (λ qs. slice_get qs i) (sym pous) ∙ slice_get-map (λ n. pou_view n.pou.now) ns i ∙ ap (option_map (λ n. pou_view n.pou.now)) there in
    let other : slice_get (map scope_of ps) i ≡ Some (scope_of (pou_view x.pou.now)) = slice_get-map scope_of ps i ∙ ap (option_map scope_of) pou in
    some_same (scope_named x) (scope_of (pou_view x.pou.now)) (sym own ∙ ap (λ ss. slice_get ss i) scopes ∙ other)

-- and what is known of its variables
pub seen_at : (f : FileData) (ns : List NamesOfPou) (ps : List PouData) (i : ℕ) (x : NamesOfPou) → pous_named ns ≡ ps → scopes_named ns ≡ map scope_of ps → seens_named ns ≡ map (seen_in f) ps
    → i < length ns → x ≡ get_or ns i x → known_in x ≡ all_seen f (scope_named x)
seen_at f ns ps i x pous scopes seens below at =
    let there : slice_get ns i ≡ Some x = slice_get_read ns (length ns) i x refl below at in
    let own : slice_get (seens_named ns) i ≡ Some (known_in x) = slice_get-map known_in ns i ∙ ap (option_map known_in) there in
    let pou : slice_get ps i ≡ Some (pou_view x.pou.now) = ap (λ qs. slice_get qs i) (sym pous) ∙ slice_get-map (λ n. pou_view n.pou.now) ns i ∙ ap (option_map (λ n. pou_view n.pou.now)) there in
    let other : slice_get (map (seen_in f) ps) i ≡ Some (seen_in f (pou_view x.pou.now)) = slice_get-map (seen_in f) ps i ∙ ap (option_map (seen_in f)) pou in
    let is = some_same (known_in x) (seen_in f (pou_view x.pou.now)) (sym own ∙ ap (λ ss. slice_get ss i) seens ∙ other) in
    is ∙ ap (all_seen f) (sym (scope_at ns ps i x pous scopes below at))

pub uses_is : (f : FileData) (p : PouData) (s : PouScope) (us : List ℕ) → s ≡ scope_of p → us ≡ blocks_used f s s.variables ++ calls_in_body f p.body → us ≡ uses_in f p
unfolding uses_in
uses_is f p s us same is = is ∙ ap (λ (q : PouScope). blocks_used f q q.variables ++ calls_in_body f p.body) same
