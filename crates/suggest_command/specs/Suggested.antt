-- What is suggested for three texts.
use Rattle.std.specs.Prelude.{◌≡◌, ℕ, List}
use Rattle.rules.specs.declared.rule.Refusal.{Refusal}
use Rattle.program_tree.specs.Tree.{ProgramData}
use Rattle.command_files.specs.front_end.Texts.{StatesProgram, StatesNoProgram}
use Rattle.command_answers.specs.declared.source.Source.{Source}
use Rattle.command_answers.specs.declared.source.Source.TheVariants as sources
use Rattle.command_files.specs.Stating.{StatesNoRelation}
use Rattle.suggestion.specs.declared.making.Suggestion.{Suggestion}
use Rattle.suggestion.specs.line_trials.Lines.{lines_view, with_lines}
use Rattle.suggestion.specs.line_trials.Held.{runs_of}
use Rattle.suggestion.specs.line_trials.Suggested.{IsSuggestion}

-- the text of REL with INVARIANT lines behind it, which held on all pairs of runs of the programs that OLD and NEW state
pub record IsSuggestedFor (old_text new_text text : List ℕ) (s : Suggestion) : Type 0 where
  pub old : ProgramData
  pub new : ProgramData
  pub old_is : StatesProgram old_text old
  pub new_is : StatesProgram new_text new
  pub made : s.text.items ≡ with_lines text (lines_view s.lines.items)
  pub held : IsSuggestion old new text s.text.items (runs_of s.runs.items)

-- the first rule that the first of the texts breaks that breaks one
pub data IsRefusedFor (old_text new_text text : List ℕ) (file : Source) (r : Refusal) : Type 0 where
  by_old : file ≡ sources.Old → StatesNoProgram old_text r → IsRefusedFor old_text new_text text file r
  by_new : (old : ProgramData) → StatesProgram old_text old → file ≡ sources.New → StatesNoProgram new_text r → IsRefusedFor old_text new_text text file r
  by_relation : (old new : ProgramData) → StatesProgram old_text old → StatesProgram new_text new → file ≡ sources.Relation → StatesNoRelation old new text r
      → IsRefusedFor old_text new_text text file r
