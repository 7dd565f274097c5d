-- What the lines of tokens break, the tokens do.
use Rattle.std.proofs.Common.{List, ℕ, inl, inr}
use Rattle.source_tree.specs.declared.token.Tok.{Tok}
use Rattle.program_tree.specs.Tree.{ProgramData}
use Rattle.relation_lines.specs.Lines.{LineData}
use Rattle.relation_lines.specs.Whole.{AreLines, IsLinesFault}
use Rattle.rules.specs.declared.fault.Fault.{Fault}
use Rattle.rules.specs.declared.fault.Fault.TheVariants as faults
use Rattle.rules.specs.Faults.{IfRefused}
use Rattle.relation_file.specs.Stated.{IsFirstOf, IsNoRelation, by_grammar, by_lines, by_types, IsNoSmallRelation, by_relation}

module _ (old new : ProgramData) (end : ℕ) (toks : List Tok) where
  pub grammar_refused : (e : Fault) → IsLinesFault toks e → IfRefused (IsNoRelation old new end toks) e
  grammar_refused (faults.Refused r) h = by_grammar h
  grammar_refused faults.Memory h = tt

  pub rules_refused : (lines : List LineData) (e : Fault) → AreLines toks lines → IfRefused (IsFirstOf old new end lines) e → IfRefused (IsNoRelation old new end toks) e
  rules_refused lines (faults.Refused r) h (inl k) = by_lines lines h k
  rules_refused lines (faults.Refused r) h (inr k) = by_types lines h k.0 k.1
  rules_refused lines faults.Memory h k = tt

  pub small_refused : (e : Fault) → IfRefused (IsNoRelation old new end toks) e → IfRefused (IsNoSmallRelation old new end toks) e
  small_refused (faults.Refused r) h = by_relation h
  small_refused faults.Memory h = tt
