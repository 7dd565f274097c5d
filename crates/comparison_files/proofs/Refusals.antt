-- Which of three files is the first that is refused, and by what.
use Rattle.std.proofs.Common.{◌≡◌, ℕ, List, length, refl}
use Rattle.source_tree.specs.declared.token.Tok.{Tok}
use Rattle.rules.specs.declared.fault.Fault.{Fault}
use Rattle.rules.specs.declared.fault.Fault.TheVariants as faults
use Rattle.rules.specs.Faults as of_rules
use Rattle.program_tree.specs.Tree.{ProgramData}
use Rattle.command_files.specs.front_end.Texts.{HasTokens, HasNoTokens}
use Rattle.node_end.specs.FlatTexts.{HasNoFlatForm}
use Rattle.node_end.specs.NodeTexts.{HasNoNodes, HasManyNodes}
use Rattle.node_end.specs.declared.fault.AcceptFault.{AcceptFault}
use Rattle.node_end.specs.declared.fault.AcceptFault.TheVariants as nodes
use Rattle.relation_file.specs.Stated.{IsNoSmallRelation}
use Rattle.command_answers.specs.declared.source.Source.{Source}
use Rattle.command_answers.specs.declared.source.Source.TheVariants.{Old, New, Relation}
use Rattle.rules.specs.declared.rule.Rule.{Rule}
use Rattle.rules.specs.declared.rule.Rule.TheVariants.{TooManyNodes}
use Rattle.command_files.specs.Texts.{Texts}
use Rattle.comparison_files.specs.declared.fault.CompareFault.{CompareFault}
use Rattle.comparison_files.specs.declared.fault.CompareFault.TheVariants.{Refused, TooLarge, Memory}
use Rattle.comparison_files.specs.Faults.{IfFault, IfFaultOf, program_fault, relation_fault}
use Rattle.comparison_files.specs.Accepting.{StatesSmallProgram, StatesNoSmallRelation, by_tokens, by_lines, IsRefused, old_refused, new_refused, rel_refused, IsTooLarge, old_nodes, new_nodes}

-- ---- one file

-- the limit on nodes is passed
abbrev pub ManyNodes : List ℕ → Rule → Type 0
ManyNodes text l = (l ≡ TooManyNodes) × HasManyNodes text

pub program_refused : (source : Source) (text : List ℕ) (fault : AcceptFault) → HasNoNodes text fault
    → IfFaultOf source (HasNoFlatForm text) (ManyNodes text) (program_fault source fault)
program_refused source text (nodes.Refused r) h = (refl, h)
program_refused source text nodes.TooManyNodes h = (refl, (refl, h))
program_refused source text nodes.Memory h = tt

abbrev pub NoLimit : Rule → Type 0
NoLimit l = ⊥

pub tokens_refused : (old new : ProgramData) (text : List ℕ) (fault : Fault) → of_rules.IfRefused (HasNoTokens text) fault
    → IfFaultOf Relation (StatesNoSmallRelation old new text) NoLimit (relation_fault fault)
tokens_refused old new text (faults.Refused r) h = (refl, by_tokens h)
tokens_refused old new text faults.Memory h = tt

pub lines_refused : (old new : ProgramData) (text : List ℕ) (toks : List Tok) (fault : Fault) → HasTokens text toks
    → of_rules.IfRefused (IsNoSmallRelation old new (length text) toks) fault → IfFaultOf Relation (StatesNoSmallRelation old new text) NoLimit (relation_fault fault)
lines_refused old new text toks (faults.Refused r) h k = (refl, by_lines toks h k)
lines_refused old new text toks faults.Memory h k = tt

-- ---- the first of three

pub at_old : (t : Texts) (e : CompareFault) → IfFaultOf Old (HasNoFlatForm t.old) (ManyNodes t.old) e → IfFault (IsRefused t) (IsTooLarge t) e
at_old t (Refused file r) h = old_refused h.1 h.0
at_old t (TooLarge file l) h = old_nodes h.1.1 h.0 h.1.0
at_old t Memory h = tt

pub at_new : (t : Texts) (old : ProgramData) (e : CompareFault) → StatesSmallProgram t.old old → IfFaultOf New (HasNoFlatForm t.new) (ManyNodes t.new) e → IfFault (IsRefused t) (IsTooLarge t) e
at_new t old (Refused file r) a h = new_refused old a h.1 h.0
at_new t old (TooLarge file l) a h = new_nodes old a h.1.1 h.0 h.1.0
at_new t old Memory a h = tt

pub at_relation : (t : Texts) (old new : ProgramData) (e : CompareFault) → StatesSmallProgram t.old old → StatesSmallProgram t.new new
    → IfFaultOf Relation (StatesNoSmallRelation old new t.rel) NoLimit e → IfFault (IsRefused t) (IsTooLarge t) e
at_relation t old new (Refused file r) a b h = rel_refused old new a b h.1 h.0
at_relation t old new (TooLarge file l) a b h = absurd h.1
at_relation t old new Memory a b h = tt
