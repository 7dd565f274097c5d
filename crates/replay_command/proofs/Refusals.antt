-- Which of four files is refused first, and by which rule.
use Rattle.std.proofs.Common.{length}
use Rattle.program_tree.specs.Tree.{ProgramData}
use Rattle.scan_model.specs.Pairs.{RelationData}
use Rattle.command_files.specs.front_end.Texts.{StatesProgram, StatesNoProgram}
use Rattle.command_answers.specs.declared.source.Source.TheVariants.{Old, New, Relation as RelationFile, Trace}
use Rattle.command_files.specs.declared.refusal.AcceptError.{AcceptError}
use Rattle.command_files.specs.declared.refusal.AcceptError.TheVariants.{Refused, Memory}
use Rattle.command_files.specs.Refused.{IfRefused, IfRefusedOf}
use Rattle.command_files.specs.Stating.{StatesRelation, StatesNoRelation}
use Rattle.command_files.specs.Texts.{Texts}
use Rattle.replay_command.specs.Accepting.{IsNoTrace, IsRefused, old_refused, new_refused, rel_refused, trace_refused}

pub at_old : (t : Texts) (e : AcceptError) → IfRefusedOf Old (StatesNoProgram t.old) e → IfRefused (IsRefused t) e
at_old t (Refused file r) h = old_refused h.1 h.0
at_old t Memory h = tt

pub at_new : (t : Texts) (old : ProgramData) (e : AcceptError) → StatesProgram t.old old → IfRefusedOf New (StatesNoProgram t.new) e → IfRefused (IsRefused t) e
at_new t old (Refused file r) a h = new_refused old a h.1 h.0
at_new t old Memory a h = tt

pub at_relation : (t : Texts) (old new : ProgramData) (e : AcceptError) → StatesProgram t.old old → StatesProgram t.new new
    → IfRefusedOf RelationFile (StatesNoRelation old new t.rel) e → IfRefused (IsRefused t) e
at_relation t old new (Refused file r) a b h = rel_refused old new a b h.1 h.0
at_relation t old new Memory a b h = tt

pub at_trace : (t : Texts) (old new : ProgramData) (rel : RelationData) (e : AcceptError) → StatesProgram t.old old → StatesProgram t.new new → StatesRelation old new t.rel rel
    → IfRefusedOf Trace (IsNoTrace (length rel.inputs) t.trace) e → IfRefused (IsRefused t) e
at_trace t old new rel (Refused file r) a b c h = trace_refused old new rel a b c h.1 h.0
at_trace t old new rel Memory a b c h = tt
