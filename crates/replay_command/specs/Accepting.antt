-- The four texts of a replay: which are accepted, and which rule is broken first.
use Rattle.std.specs.Prelude.{◌≡◌, ◌<◌, ◌≤◌, ◌⊎◌, ℕ, List, length}
use Rattle.rules.specs.declared.rule.Rule.TheVariants.{TooLong, NoTrace}
use Rattle.rules.specs.declared.rule.Refusal.{Refusal}
use Rattle.program_tree.specs.Tree.{ProgramData}
use Rattle.command_files.specs.front_end.Texts.{limit, StatesProgram, StatesNoProgram}
use Rattle.scan_model.specs.InRange.{Row}
use Rattle.scan_model.specs.Pairs.{RelationData}
use Rattle.command_answers.specs.declared.source.Source.{Source}
use Rattle.command_answers.specs.declared.source.Source.TheVariants.{Old, New, Relation as RelationFile, Trace}
use Rattle.command_files.specs.Stating.{StatesRelation, StatesNoRelation}
use Rattle.command_files.specs.Texts.{Texts}
use Rattle.trace_rows.specs.Traces.{IsTrace}

-- a text is not too long, and is this
pub record Accepts {A : Type 0} (Is : A → Type 0) (text : List ℕ) (a : A) : Type 0 where
  pub short : length text ≤ limit
  pub is : Is a

-- the first rule that the text of a trace breaks: M1 by its size, and then J1 by its form; the place is 0
abbrev pub IsNoTrace : ℕ → List ℕ → Refusal → Type 0
IsNoTrace width text r =
    ((limit < length text) × (r ≡ record { rule = TooLong; at = 0 }))
    ⊎ ((length text ≤ limit) × ((rows : List Row) → ¬ IsTrace width text rows) × (r ≡ record { rule = NoTrace; at = 0 }))

-- the texts are these programs, this relation of them and these rows
pub record IsAccepted (t : Texts) (old new : ProgramData) (rel : RelationData) (rows : List Row) : Type 0 where
  pub old_is : StatesProgram t.old old
  pub new_is : StatesProgram t.new new
  pub rel_is : StatesRelation old new t.rel rel
  pub trace_is : Accepts (IsTrace (length rel.inputs) t.trace) t.trace rows

-- a file is the first that breaks a rule, and this is the first rule that it breaks
pub data IsRefused (t : Texts) (file : Source) (r : Refusal) : Type 0 where
  old_refused : StatesNoProgram t.old r → file ≡ Old → IsRefused t file r
  new_refused : (old : ProgramData) → StatesProgram t.old old → StatesNoProgram t.new r → file ≡ New → IsRefused t file r
  rel_refused : (old new : ProgramData) → StatesProgram t.old old → StatesProgram t.new new → StatesNoRelation old new t.rel r → file ≡ RelationFile → IsRefused t file r
  trace_refused : (old new : ProgramData) (rel : RelationData) → StatesProgram t.old old → StatesProgram t.new new → StatesRelation old new t.rel rel
      → IsNoTrace (length rel.inputs) t.trace r → file ≡ Trace → IsRefused t file r
