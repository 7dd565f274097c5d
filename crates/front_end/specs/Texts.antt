-- The texts of programs: which program a text states, once the blocks of the prelude stand before it, and which rule each other text breaks first. The passes
-- come one after the other: size, tokens, left-out words and nesting, grammar, names, types, the count of cells, and that of the cells of each POU that may run.
use Rattle.std.specs.Prelude.{◌≡◌, ◌<◌, ◌≤◌, ℕ, List, [], ◌++◌, length, All, true, false, Some}
use Rattle.source_tree.specs.declared.token.Tok.{Tok}
use Rattle.rules.specs.declared.rule.Rule.TheVariants.{TooLong, NoTree, TooManyCells, TooManyStatements}
use Rattle.rules.specs.declared.rule.Refusal.{Refusal}
use Rattle.rules.specs.Rules.{IsAmong, IsFirst}
use Rattle.source_tree.specs.Tokens.{Spells}
use Rattle.source_tree.specs.Terminals.{IsClassified}
use Rattle.source_tree.specs.Syntax.{PouData, FileData}
use Rattle.source_tree.specs.SyntaxView.{symbols}
use Rattle.source_tree.specs.Prints.{print_file}
use Rattle.source_tree.specs.Levels.{IsFileLevelled}
use Rattle.program_tree.specs.Tree.{ProgramData}
use Rattle.st_lexer.specs.Parts as lexer
use Rattle.st_lexer.specs.Lexing.{lexemes_of}
use Rattle.grammar.specs.FirstFault as nesting
use Rattle.naming.specs.Circles.{IsBroken}
use Rattle.st_names.specs.Bound.{program_number}
use Rattle.naming.specs.FileScope.{pou_at}
use Rattle.typing.specs.Pous.{broken_types, has_room}
use Rattle.running_pous.specs.Stated.{stated_program}
use Rattle.st_types.specs.LargePous.{runs_large}
use Rattle.front_end.specs.StandardBlocks.{prelude_text}

-- how many bytes a text may have
abbrev pub limit : ℕ
limit = 1048576

-- A text has these tokens: it is short enough, breaks no rule on tokens, and spells them, each with what it is for the grammar.
pub record HasTokens (text : List ℕ) (toks : List Tok) : Type 0 where
  pub short : length text ≤ limit
  pub sound : lexer.IsSoundText text
  pub spelled : Spells text (lexemes_of toks)
  pub classified : All IsClassified toks

-- A text has no tokens: it is too long (M1), or breaks a rule on tokens, this one first.
pub data HasNoTokens (text : List ℕ) (r : Refusal) : Type 0 where
  too_long : limit < length text → r ≡ record { rule = TooLong; at = 0 } → HasNoTokens text r
  by_token : length text ≤ limit → lexer.IsFirstInText text r.rule r.at → HasNoTokens text r

-- no levelled tree prints tokens
abbrev pub IsUnprinted : List Tok → Type 0
IsUnprinted toks = (f : FileData) → symbols toks ≡ print_file f → IsFileLevelled f → ⊥

-- A text states a file: a levelled tree that prints its tokens.
pub record HasTree (text : List ℕ) (f : FileData) : Type 0 where
  pub toks : List Tok
  pub tokens : HasTokens text toks
  pub sound : nesting.AreSoundTokens toks
  pub printed : symbols toks ≡ print_file f
  pub levelled : IsFileLevelled f

-- A text states no file: it has no tokens, a token breaks X1 or G2, this one first, or no tree prints the tokens (G1).
pub data HasNoTree (text : List ℕ) (r : Refusal) : Type 0 where
  by_tokens : HasNoTokens text r → HasNoTree text r
  by_nesting : (toks : List Tok) → HasTokens text toks → nesting.IsFirstFault toks r → HasNoTree text r
  by_grammar : (toks : List Tok) → HasTokens text toks → nesting.AreSoundTokens toks → IsUnprinted toks → r.rule ≡ NoTree → HasNoTree text r

-- A text's file, once the blocks of the prelude stand before its own items.
pub record HasFile (text : List ℕ) (f : FileData) : Type 0 where
  pub blocks : FileData
  pub own : FileData
  pub prelude : HasTree prelude_text blocks
  pub tree : HasTree text own
  pub joined : f ≡ blocks ++ own

-- A text has no file: it has no tree, or it has one and the prelude has none.
pub data HasNoFile (text : List ℕ) (r : Refusal) : Type 0 where
  by_text : HasNoTree text r → HasNoFile text r
  by_prelude : (own : FileData) → HasTree text own → HasNoTree prelude_text r → HasNoFile text r

-- Nothing is broken of the rules on names.
abbrev pub AreNamesSound : FileData → Type 0
AreNamesSound f = (r : Refusal) → IsBroken f r → ⊥

-- A file's PROGRAM: its number among the POUs, and the POU.
pub record HasProgram (f : FileData) (number : ℕ) (p : PouData) : Type 0 where
  pub is : program_number f ≡ Some number
  pub there : pou_at f number ≡ Some p

-- A text states a program: its file breaks no rule on names, has one PROGRAM, breaks no rule on types, and has room for its cells, and no POU that may run is
-- large: none has more than 2^24 cells. The program is the typed program of the file, in which a POU that never runs has no statements, and a FUNCTION that never runs keeps only the cells that its callers name.
pub record StatesProgram (text : List ℕ) (p : ProgramData) : Type 0 where
  pub file : FileData
  pub number : ℕ
  pub pou : PouData
  pub states : HasFile text file
  pub names : AreNamesSound file
  pub one : HasProgram file number pou
  pub typing : broken_types file ≡ []
  pub room : has_room file number ≡ true
  pub few : runs_large file number pou ≡ false
  pub program : p ≡ stated_program file number pou

-- a text states no program, and this is the first rule that it breaks
pub data StatesNoProgram (text : List ℕ) (r : Refusal) : Type 0 where
  by_file : HasNoFile text r → StatesNoProgram text r
  by_names : (f : FileData) → HasFile text f → IsFirst (IsBroken f) r → StatesNoProgram text r
  by_types : (f : FileData) → HasFile text f → AreNamesSound f → IsFirst (λ x. IsAmong x (broken_types f)) r → StatesNoProgram text r
  by_room : (f : FileData) → (number : ℕ) → HasFile text f → AreNamesSound f → program_number f ≡ Some number → broken_types f ≡ [] → has_room f number ≡ false
      → r ≡ record { rule = TooManyCells; at = 0 } → StatesNoProgram text r
  by_large : (f : FileData) → (number : ℕ) → (p : PouData) → HasFile text f → AreNamesSound f → HasProgram f number p → broken_types f ≡ [] → has_room f number ≡ true → runs_large f number p ≡ true
      → r ≡ record { rule = TooManyStatements; at = 0 } → StatesNoProgram text r
