-- The rule that the text of a relation breaks first.
use Rattle.std.proofs.Common.{ℕ, List, length}
use Rattle.source_tree.specs.declared.token.Tok.{Tok}
use Rattle.rules.specs.declared.fault.Fault.{Fault}
use Rattle.rules.specs.declared.fault.Fault.TheVariants.{Refused, Memory}
use Rattle.rules.specs.Faults.{IfRefused}
use Rattle.program_tree.specs.Tree.{ProgramData}
use Rattle.command_files.specs.front_end.Texts.{HasTokens}
use Rattle.relation_file.specs.Stated.{IsNoRelation}
use Rattle.command_files.specs.Stating.{StatesNoRelation, by_lines}

pub refused_lines : (old new : ProgramData) (text : List ℕ) (toks : List Tok) (e : Fault) → HasTokens text toks → IfRefused (IsNoRelation old new (length text) toks) e → IfRefused (StatesNoRelation old new text) e
refused_lines old new text toks (Refused r) has none = by_lines toks has none
refused_lines old new text toks Memory has none = tt
