-- The clauses that lines state are typed where the lines break no rule.
use Rattle.std.proofs.Common.{◌≡◌, ℕ, Bool, true, false, List, [], ◌∷◌, Option, Some, None, refl, subst, if◌then◌else◌}
use Rattle.std.specs.Prelude.{All, not}
use Rattle.std.proofs.lemmas.List.Elements.{All-nil, All-cons}
use Rattle.rules.specs.declared.rule.Rule.TheVariants.{LineOrder}
use Rattle.rules.specs.declared.rule.Refusal.{Refusal}
use Rattle.program_tree.specs.Tree.{Expression}
use Rattle.queries.specs.Comparisons.{Comparison}
use Rattle.typing.specs.Typed.{typed}
use Rattle.typing.specs.Programs.{pair_scope}
use Rattle.stated_cells.proofs.whole_files.Told.{nil_front, nil_behind}
use Rattle.query_formula_laws.specs.TypedComparisons.{IsClauseOf}
use Rattle.stated_cells.specs.StatedCells.{HasStatedCells}
use Rattle.candidates.specs.Candidates.{before}
use Rattle.relation_lines.specs.declared.line.Condition.{Condition}
use Rattle.relation_lines.specs.Lines.{ContentData, setting, faults, paired, single, clause, LineData}
use Rattle.relation_lines.specs.Levels.{IsContentLevelled, AreLinesLevelled}
use Rattle.relation_file.specs.Refusals.{unless, or_own}
use Rattle.relation_file.specs.Order.{is_out_of_order}
use Rattle.relation_file.specs.Broken.{broken_parts, broken_line, broken_behind, broken_content, broken_clauses}
use Rattle.relation_file.specs.Relations.{is_condition, clause_of, clauses_in}
use Rattle.typed_relations.proofs.OwnClauses.{clause_typed}

parts_front : (parts own : List Refusal) → or_own parts own ≡ [] → parts ≡ []
parts_front [] own none = refl
parts_front (r ∷ rs) own none = absurd (let e : ⊥ = cc in e)

module _ (c : Comparison) (of_old : HasStatedCells c.old) (of_new : HasStatedCells c.new) where
  abbrev AreTyped : List Expression → Type 0
  AreTyped es = All (IsClauseOf c) es

  before_typed : (o : Option Expression) (es : List Expression) → ((e : Expression) → o ≡ Some e → IsClauseOf c e) → AreTyped es → AreTyped (before o es)
  before_typed None es one rest = rest
  before_typed (Some e) es one rest = All-cons (IsClauseOf c) e es (one e refl) rest

  kept_typed : (b : Bool) (x : Expression) → IsClauseOf c x → (e : Expression) → (if b then Some x else None) ≡ Some e → IsClauseOf c e
  kept_typed true x h e is = let same : x ≡ e = cc in subst (IsClauseOf c) same h
  kept_typed false x h e is = absurd (let n : ⊥ = cc in n)

  content_typed : (wanted : Condition) (above : List LineData) (l : ContentData) → broken_parts c.old c.new above l ≡ [] → broken_content c.old c.new l ≡ [] → IsContentLevelled l
      → (e : Expression) → clause_of c.old c.new wanted l ≡ Some e → IsClauseOf c e
  content_typed wanted above (setting s value at) names none levels e is = absurd (let n : ⊥ = cc in n)
  content_typed wanted above (faults equal at) names none levels e is = absurd (let n : ⊥ = cc in n)
  content_typed wanted above (paired a at b) names none levels e is = absurd (let n : ⊥ = cc in n)
  content_typed wanted above (single s at a) names none levels e is = absurd (let n : ⊥ = cc in n)
  content_typed wanted above (clause k t) names none levels e is =
      kept_typed (is_condition wanted k) (typed (pair_scope c.old c.new) None t) (clause_typed c of_old of_new t levels names none) e is

  pub lines_typed : (wanted : Condition) (end : ℕ) (above ls : List LineData) → broken_behind c.old c.new end above ls ≡ [] → broken_clauses c.old c.new ls ≡ [] → AreLinesLevelled ls
      → AreTyped (clauses_in c.old c.new wanted ls)
  lines_typed wanted end above [] sound none levels = All-nil (IsClauseOf c)
  lines_typed wanted end above (l ∷ ls) sound none levels =
      let line = broken_line c.old c.new above l in
      let parts = broken_parts c.old c.new above l.content in
      let own = unless (not (is_out_of_order l.content above)) LineOrder l.at in
      let rest = broken_behind c.old c.new end (l ∷ above) ls in
      let content = broken_content c.old c.new l.content in
      let others = broken_clauses c.old c.new ls in
      before_typed (clause_of c.old c.new wanted l.content) (clauses_in c.old c.new wanted ls)
      (content_typed wanted above l.content (parts_front parts own (nil_front line rest sound)) (nil_front content others none) levels.0)
      (lines_typed wanted end (l ∷ above) ls (nil_behind line rest sound) (nil_behind content others none) levels.1)
