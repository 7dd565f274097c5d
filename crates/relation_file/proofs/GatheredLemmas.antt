-- What lines state, line by line.
use Rattle.std.proofs.Common.{◌≡◌, ℕ, ◌+◌, List, [], ◌∷◌, ◌++◌, length, Bool, true, false, ◌||◌, Option, Some, None, refl, sym, ap, ◌∙◌, append_assoc, append-nil, length-append}
use Rattle.std.specs.Prelude.{codes, decimal, unwrap_or}
use Rattle.std.specs.Option.{option_or}
use Rattle.program_tree.specs.Tree.{Expression, ProgramData}
use Rattle.program_tree.specs.View.{exprs_view}
use Rattle.scan_model.specs.declared.relation.Candidate.{Candidate}
use Rattle.scan_model.specs.declared.relation.InputLine.{InputLine}
use Rattle.scan_model.specs.Pairs.{CandidateData, candidate_view, candidates_view}
use Rattle.scan_model.specs.Candidates.{numbered}
use Rattle.candidates.specs.Candidates.{before}
use Rattle.candidates.proofs.CandidateLemmas.{pushed}
use Rattle.relation_lines.specs.declared.line.Setting.TheVariants as settings
use Rattle.relation_lines.specs.declared.line.Condition.TheVariants as conditions
use Rattle.relation_lines.specs.Lines.{LineData}
use Rattle.relation_file.specs.declared.gathered.Gathered.{Gathered}
use Rattle.relation_file.specs.Relations.{number_of, setting_in, asks_equal_faults, faults_are_equal, input_of, inputs_in, clause_of, clauses_in}
use Rattle.relation_file.specs.Gathered.{IsGathered}

or_number : (a b : Option ℕ) (other : ℕ) → unwrap_or (option_or a b) other ≡ unwrap_or a (unwrap_or b other)
or_number None b other = refl
or_number (Some x) b other = refl

or_on : (a b c : Bool) → ((a || b) || c) ≡ (a || (b || c))
or_on true b c = refl
or_on false b c = refl

or_nothing : (a : Bool) → (a || false) ≡ a
or_nothing true = refl
or_nothing false = refl

-- one more clause behind its word, before those that are left
pub one_more_numbered : (word : List ℕ) (found more : List Candidate) (c : Candidate) (e : Expression) (n : ℕ) (rest : List Expression)
    → more ≡ found ++ c ∷ [] → candidate_view c ≡ record { name = word ++ decimal n; clause = e } → n ≡ length found + 1
    → candidates_view more ++ numbered word (length more + 1) rest ≡ candidates_view found ++ numbered word (length found + 1) (e ∷ rest)
one_more_numbered word found more c e n rest is seen next =
    let long : length more ≡ length found + 1 = ap length is ∙ length-append found (c ∷ []) in
    let behind : List CandidateData = numbered word (length more + 1) rest in
    pushed found more c (record { name = word ++ decimal n; clause = e }) behind _ is seen
    (ap (λ (k : ℕ). candidates_view found ++ record { name = word ++ decimal k; clause = e } ∷ behind) next
    ∙ ap (λ (k : ℕ). candidates_view found ++ record { name = word ++ decimal (length found + 1); clause = e } ∷ numbered word (k + 1) rest) long)

module _ (old new : ProgramData) (ls : List LineData) where
  -- what all lines state, of which one more is gathered
  at_more : {A : Type 0} (f : List LineData → A) (l : LineData) (x : A) (rest : List LineData) → x ≡ f (ls ++ l ∷ rest) → x ≡ f ((ls ++ l ∷ []) ++ rest)
  at_more f l x rest e = e ∙ ap f (sym (append_assoc ls (l ∷ []) rest))

  -- one more line
  pub one_more_gathered : (l : LineData) (k m : Gathered) → IsGathered old new ls k
      → m.depth ≡ option_or k.depth (number_of settings.Depth l.content)
      → m.conflicts ≡ option_or k.conflicts (number_of settings.Conflicts l.content)
      → m.equal_faults ≡ (k.equal_faults || asks_equal_faults l.content)
      → ((rest : List InputLine) → m.inputs.items ++ rest ≡ k.inputs.items ++ before (input_of old new l.content) rest)
      → ((rest : List Expression) → exprs_view m.environment.items ++ rest ≡ exprs_view k.environment.items ++ before (clause_of old new conditions.Environment l.content) rest)
      → ((rest : List Expression) → candidates_view m.invariants.items ++ numbered (codes "INVARIANT ") (length m.invariants.items + 1) rest
      ≡ candidates_view k.invariants.items ++ numbered (codes "INVARIANT ") (length k.invariants.items + 1) (before (clause_of old new conditions.Invariant l.content) rest))
      → ((rest : List Expression) → candidates_view m.relates.items ++ numbered (codes "RELATE ") (length m.relates.items + 1) rest
      ≡ candidates_view k.relates.items ++ numbered (codes "RELATE ") (length k.relates.items + 1) (before (clause_of old new conditions.Relate l.content) rest))
      → IsGathered old new (ls ++ l ∷ []) m
  one_more_gathered l k m w depth conflicts agree inputs environment invariants relates = record {
    depth = λ rest.
        at_more (setting_in settings.Depth) l _ rest
        (ap (λ (o : Option ℕ). unwrap_or o (setting_in settings.Depth rest)) depth ∙ or_number k.depth (number_of settings.Depth l.content) (setting_in settings.Depth rest) ∙ w.depth (l ∷ rest));
    conflicts = λ rest.
        at_more (setting_in settings.Conflicts) l _ rest
        (ap (λ (o : Option ℕ). unwrap_or o (setting_in settings.Conflicts rest)) conflicts ∙ or_number k.conflicts (number_of settings.Conflicts l.content) (setting_in settings.Conflicts rest)
        ∙ w.conflicts (l ∷ rest));
    equal_faults = λ rest.
        at_more faults_are_equal l _ rest
        (ap (λ (b : Bool). b || faults_are_equal rest) agree ∙ or_on k.equal_faults (asks_equal_faults l.content) (faults_are_equal rest) ∙ w.equal_faults (l ∷ rest));
    inputs = λ rest. at_more (inputs_in old new) l _ rest (inputs (inputs_in old new rest) ∙ w.inputs (l ∷ rest));
    environment = λ rest.
        at_more (clauses_in old new conditions.Environment) l _ rest (environment (clauses_in old new conditions.Environment rest) ∙ w.environment (l ∷ rest));
    invariants = λ rest.
        at_more (λ (all : List LineData). numbered (codes "INVARIANT ") 1 (clauses_in old new conditions.Invariant all)) l _ rest
        (invariants (clauses_in old new conditions.Invariant rest) ∙ w.invariants (l ∷ rest));
    relates = λ rest.
        at_more (λ (all : List LineData). numbered (codes "RELATE ") 1 (clauses_in old new conditions.Relate all)) l _ rest
        (relates (clauses_in old new conditions.Relate rest) ∙ w.relates (l ∷ rest));
  }

  -- ---- all lines

  module _ (k : Gathered) (w : IsGathered old new ls k) where
    pub all_depth : unwrap_or k.depth 0 ≡ setting_in settings.Depth ls
    all_depth = w.depth [] ∙ ap (setting_in settings.Depth) (append-nil ls)

    pub all_conflicts : unwrap_or k.conflicts 0 ≡ setting_in settings.Conflicts ls
    all_conflicts = w.conflicts [] ∙ ap (setting_in settings.Conflicts) (append-nil ls)

    pub all_faults : k.equal_faults ≡ faults_are_equal ls
    all_faults = sym (or_nothing k.equal_faults) ∙ w.equal_faults [] ∙ ap faults_are_equal (append-nil ls)

    pub all_inputs : k.inputs.items ≡ inputs_in old new ls
    all_inputs = sym (append-nil k.inputs.items) ∙ w.inputs [] ∙ ap (inputs_in old new) (append-nil ls)

    pub all_environment : exprs_view k.environment.items ≡ clauses_in old new conditions.Environment ls
    all_environment = sym (append-nil (exprs_view k.environment.items)) ∙ w.environment [] ∙ ap (clauses_in old new conditions.Environment) (append-nil ls)

    pub all_invariants : candidates_view k.invariants.items ≡ numbered (codes "INVARIANT ") 1 (clauses_in old new conditions.Invariant ls)
    all_invariants =
        sym (append-nil (candidates_view k.invariants.items)) ∙ w.invariants []
        ∙ ap (λ (all : List LineData). numbered (codes "INVARIANT ") 1 (clauses_in old new conditions.Invariant all)) (append-nil ls)

    pub all_relates : candidates_view k.relates.items ≡ numbered (codes "RELATE ") 1 (clauses_in old new conditions.Relate ls)
    all_relates =
        sym (append-nil (candidates_view k.relates.items)) ∙ w.relates []
        ∙ ap (λ (all : List LineData). numbered (codes "RELATE ") 1 (clauses_in old new conditions.Relate all)) (append-nil ls)
