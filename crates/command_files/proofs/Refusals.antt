-- The rule that one file breaks first.
use Rattle.std.proofs.Common.{ℕ, List, length, refl}
use Rattle.source_tree.specs.declared.token.Tok.{Tok}
use Rattle.program_tree.specs.Tree.{ProgramData}
use Rattle.rules.specs.declared.fault.Fault.{Fault}
use Rattle.rules.specs.declared.fault.Fault.TheVariants as faults
use Rattle.rules.specs.Faults as of_rules
use Rattle.front_end.specs.Texts.{StatesNoProgram, HasTokens}
use Rattle.relation_file.specs.Stated.{IsNoRelation}
use Rattle.command_answers.specs.declared.source.Source.{Source}
use Rattle.command_answers.specs.declared.source.Source.TheVariants.{Relation as RelationFile}
use Rattle.command_files.specs.Stating.{StatesNoRelation, by_lines}
use Rattle.command_files.specs.Refused.{IfRefusedOf, fault_of}

pub program_refused : (source : Source) (text : List ℕ) (fault : Fault) → of_rules.IfRefused (StatesNoProgram text) fault
    → IfRefusedOf source (StatesNoProgram text) (fault_of source fault)
program_refused source text (faults.Refused r) h = (refl, h)
program_refused source text faults.Memory h = tt

pub lines_refused : (old new : ProgramData) (text : List ℕ) (toks : List Tok) (fault : Fault) → HasTokens text toks
    → of_rules.IfRefused (IsNoRelation old new (length text) toks) fault → IfRefusedOf RelationFile (StatesNoRelation old new text) (fault_of RelationFile fault)
lines_refused old new text toks (faults.Refused r) h k = (refl, by_lines toks h k)
lines_refused old new text toks faults.Memory h k = tt
