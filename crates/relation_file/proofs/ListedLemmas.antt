-- The clauses of a relation among its candidates.
use Rattle.std.proofs.Common.{◌≡◌, ◌+◌, ℕ, Bool, true, false, List, [], ◌∷◌, ◌++◌, length, take, drop, map, refl, sym, ap, ◌∙◌, append_assoc, append-nil, length-append, arith}
use Rattle.std.specs.Prelude.{codes}
use Rattle.std.proofs.Math.Seq.{drop-append_seam, take-append_seam}
use Rattle.std.proofs.lemmas.List.{drop-map, take-map, length-map}
use Rattle.plc_types.specs.Enumerations.{paired_type}
use Rattle.program_tree.specs.Tree.{Expression, ProgramData}
use Rattle.program_tree.specs.View.{expr_view}
use Rattle.scan_model.specs.declared.relation.Candidate.{Candidate}
use Rattle.scan_model.specs.declared.relation.InputLine.{InputLine}
use Rattle.scan_model.specs.Among.{among}
use Rattle.scan_model.specs.Pairs.{CandidateData, RelationData, candidate_view, candidates_view, clauses_among}
use Rattle.scan_model.specs.Candidates.{numbered, relate_clauses, same_cells, initial_values, exclusive_steps, paths_of, candidates_of}
use Rattle.relation_lines.specs.declared.line.Setting.TheVariants as settings
use Rattle.relation_lines.specs.declared.line.Condition.TheVariants as conditions
use Rattle.relation_lines.specs.Lines.{LineData}
use Rattle.relation_file.specs.declared.listed.Listed.{Listed}
use Rattle.relation_file.specs.Relations.{setting_in, equal_faults, faults_are_equal, faults_clause, inputs_in, clauses_in, clauses_of, relation_of}
use Rattle.relation_file.specs.Listed.{on_faults, IsListed}

-- ---- candidates as data

abbrev pub clauses : List CandidateData → List Expression
clauses cs = map (λ c. c.clause) cs

clauses_among-view : (cs : List Candidate) → clauses_among cs ≡ clauses (candidates_view cs)
clauses_among-view [] = refl
clauses_among-view (c ∷ cs) = ap (λ es. expr_view c.clause ∷ es) (clauses_among-view cs)

view-among : (first count : ℕ) (cs : List Candidate) → candidates_view (among first count cs) ≡ take count (drop first (candidates_view cs))
view-among first count cs = sym (ap (take count) (drop-map candidate_view first cs) ∙ take-map candidate_view count (drop first cs))

length-candidates : (cs : List Candidate) → length (candidates_view cs) ≡ length cs
length-candidates cs = length-map cs candidate_view

between : (xs ys zs : List CandidateData) → take (length ys) (drop (length xs) (xs ++ ys ++ zs)) ≡ ys
between xs ys zs =
    ap (λ l. take (length ys) (drop (length xs) l)) (append_assoc xs ys zs) ∙ ap (take (length ys)) (drop-append_seam xs (ys ++ zs)) ∙ take-append_seam ys zs

-- the clauses of candidates that stand between others
stand_between : (cs : List Candidate) (first count : ℕ) (xs ys zs : List CandidateData) → candidates_view cs ≡ xs ++ ys ++ zs → first ≡ length xs → count ≡ length ys
    → clauses_among (among first count cs) ≡ clauses ys
stand_between cs first count xs ys zs all at so_many =
    clauses_among-view (among first count cs)
    ∙ ap clauses
    (view-among first count cs ∙ ap (λ l. take count (drop first l)) all ∙ ap (λ n. take count (drop n (xs ++ ys ++ zs))) at
    ∙ ap (λ n. take n (drop (length xs) (xs ++ ys ++ zs))) so_many ∙ between xs ys zs)

-- ---- names

clauses-numbered : (word : List ℕ) (n : ℕ) (es : List Expression) → clauses (numbered word n es) ≡ es
clauses-numbered word n [] = refl
clauses-numbered word n (e ∷ es) = ap (λ l. e ∷ l) (clauses-numbered word (n + 1) es)

clauses-relate : (agree : Bool) (n : ℕ) (es : List Expression) → clauses (relate_clauses agree n es) ≡ es
clauses-relate agree n [] = refl
clauses-relate agree n (e ∷ []) = refl
clauses-relate agree n (e ∷ f ∷ es) = ap (λ l. e ∷ l) (clauses-relate agree (n + 1) (f ∷ es))

relate-numbered : (n : ℕ) (es : List Expression) → relate_clauses false n es ≡ numbered (codes "RELATE ") n es
relate-numbered n [] = refl
relate-numbered n (e ∷ []) = refl
relate-numbered n (e ∷ f ∷ es) = ap (λ (cs : List CandidateData). numbered (codes "RELATE ") n (e ∷ []) ++ cs) (relate-numbered (n + 1) (f ∷ es))

relate-faults : (n : ℕ) (es : List Expression) (f : Expression) → relate_clauses true n (es ++ f ∷ []) ≡ numbered (codes "RELATE ") n es ++ record { name = codes "RELATE FAULTS"; clause = f } ∷ []
relate-faults n [] f = refl
relate-faults n (e ∷ []) f = refl
relate-faults n (e ∷ g ∷ es) f = ap (λ (cs : List CandidateData). numbered (codes "RELATE ") n (e ∷ []) ++ cs) (relate-faults (n + 1) (g ∷ es) f)

-- the RELATE clauses, and then that on FAULT
pub relates_added : (agree : Bool) (old_cells : ℕ) (es : List Expression) (before between after : List CandidateData) → between ≡ before ++ numbered (codes "RELATE ") 1 es
    → after ≡ between ++ on_faults agree old_cells → after ≡ before ++ relate_clauses agree 1 (es ++ faults_clause agree old_cells)
relates_added false old_cells es before between after e f =
    f ∙ append-nil between ∙ e ∙ ap (λ cs. before ++ cs) (sym (relate-numbered 1 es) ∙ ap (relate_clauses false 1) (sym (append-nil es)))
relates_added true old_cells es before between after e f =
    f ∙ ap (λ cs. cs ++ on_faults true old_cells) e ∙ append_assoc before (numbered (codes "RELATE ") 1 es) (on_faults true old_cells)
    ∙ ap (λ cs. before ++ cs) (sym (relate-faults 1 es (equal_faults old_cells)))

-- how many they are
pub counted : (before after : List Candidate) (xs : List CandidateData) → candidates_view after ≡ candidates_view before ++ xs → length after ≡ length before + length xs
counted before after xs e =
    sym (length-candidates after) ∙ ap length e ∙ length-append (candidates_view before) xs ∙ ap (λ n. n + length xs) (length-candidates before)

-- ---- all candidates

regroup_first : (i s r a b c d : List CandidateData) → i ++ s ++ r ++ a ++ b ++ c ++ d ≡ [] ++ i ++ (s ++ r ++ a ++ b ++ c ++ d)
regroup_first i s r a b c d = simp append_assoc

regroup_middle : (i s r a b c d : List CandidateData) → i ++ s ++ r ++ a ++ b ++ c ++ d ≡ (i ++ s) ++ r ++ (a ++ b ++ c ++ d)
regroup_middle i s r a b c d = simp append_assoc

module _ (old new : ProgramData) (lines : List LineData) where
  abbrev pub of_invariants : List CandidateData
  of_invariants = numbered (codes "INVARIANT ") 1 (clauses_in old new conditions.Invariant lines)

  abbrev pub of_same : List CandidateData
  of_same = same_cells (paired_type old.types new.types) 0 (length old.cells) new.cells old.cells

  abbrev pub of_relates : Bool → List CandidateData
  of_relates agree = relate_clauses agree 1 (clauses_in old new conditions.Relate lines ++ faults_clause agree (length old.cells))

  pub is_listed : (agree : Bool) (l : Listed) (is fs rs vs : List Candidate) → agree ≡ faults_are_equal lines
      → candidates_view is ≡ of_invariants → candidates_view fs ≡ candidates_view is ++ of_same → candidates_view rs ≡ candidates_view fs ++ of_relates agree
      → candidates_view vs ≡ candidates_view rs ++ initial_values (codes "OLD") 0 old.cells ++ initial_values (codes "NEW") (length old.cells) new.cells
      → candidates_view l.candidates.items ≡ candidates_view vs ++ exclusive_steps (codes "OLD") 0 (paths_of old.cells) old.charts ++ exclusive_steps (codes "NEW") (length old.cells) (paths_of new.cells) new.charts
      → l.invariants ≡ length is → l.first_relate ≡ length fs → l.relates + length fs ≡ length rs → IsListed old new lines l
  is_listed agree l is fs rs vs equal e1 e2 e3 e4 e5 k1 k2 k3 =
      let relates = of_relates (faults_are_equal lines) in
      let a = initial_values (codes "OLD") 0 old.cells in
      let b = initial_values (codes "NEW") (length old.cells) new.cells in
      let c = exclusive_steps (codes "OLD") 0 (paths_of old.cells) old.charts in
      let d = exclusive_steps (codes "NEW") (length old.cells) (paths_of new.cells) new.charts in
      let two : candidates_view fs ≡ of_invariants ++ of_same = e2 ∙ ap (λ cs. cs ++ of_same) e1 in
      let related : candidates_view rs ≡ candidates_view fs ++ relates = e3 ∙ ap (λ g. candidates_view fs ++ of_relates g) equal in
      let three : candidates_view rs ≡ of_invariants ++ of_same ++ relates = related ∙ ap (λ cs. cs ++ relates) two in
      let all : candidates_view l.candidates.items ≡ of_invariants ++ of_same ++ relates ++ a ++ b ++ c ++ d =
      e5 ∙ ap (λ cs. cs ++ c ++ d) (e4 ∙ ap (λ cs. cs ++ a ++ b) three)
      in
      let first : l.invariants ≡ length of_invariants = k1 ∙ sym (length-candidates is) ∙ ap length e1 in
      let behind : l.first_relate ≡ length (of_invariants ++ of_same) = k2 ∙ sym (length-candidates fs) ∙ ap length two in
      let long = counted fs rs relates related in
      let so_many : l.relates ≡ length relates = omega (arith, k3, long) in
      record {
        candidates = all;
        invariants =
            stand_between l.candidates.items 0 l.invariants [] of_invariants (of_same ++ relates ++ a ++ b ++ c ++ d) (all ∙ regroup_first of_invariants of_same relates a b c d) refl first
            ∙ clauses-numbered (codes "INVARIANT ") 1 (clauses_in old new conditions.Invariant lines);
        relates =
            stand_between l.candidates.items l.first_relate l.relates (of_invariants ++ of_same) relates (a ++ b ++ c ++ d) (all ∙ regroup_middle of_invariants of_same relates a b c d) behind so_many
            ∙ clauses-relate (faults_are_equal lines) 1 (clauses_in old new conditions.Relate lines ++ faults_clause (faults_are_equal lines) (length old.cells));
      }

  -- the relation that has all parts of that of lines is theirs
  pub relation_is : {depth conflicts : ℕ} {inputs : List InputLine} {environment relates invariants : List Expression} {faults : Bool} {candidates : List CandidateData}
      → depth ≡ setting_in settings.Depth lines → conflicts ≡ setting_in settings.Conflicts lines → inputs ≡ inputs_in old new lines
      → environment ≡ clauses_in old new conditions.Environment lines → faults ≡ faults_are_equal lines
      → relates ≡ clauses_in old new conditions.Relate lines ++ faults_clause (faults_are_equal lines) (length old.cells)
      → invariants ≡ clauses_in old new conditions.Invariant lines → candidates ≡ candidates_of old new (clauses_of old new lines)
      → (let r : RelationData = record {
        depth = depth;
        conflicts = conflicts;
        inputs = inputs;
        environment = environment;
        equal_faults = faults;
        relates = relates;
        invariants = invariants;
        candidates = candidates;
      } in r) ≡ relation_of old new lines
  relation_is d k i e f r v c = λ j. record {
    depth = d j;
    conflicts = k j;
    inputs = i j;
    environment = e j;
    equal_faults = f j;
    relates = r j;
    invariants = v j;
    candidates = c j;
  }
