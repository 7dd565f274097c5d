-- The texts whose program has no nodes, and why.
use Rattle.std.specs.Prelude.{◌≡◌, ℕ, List, false, IsTrue}
use Rattle.program_tree.specs.Tree.{ProgramData}
use Rattle.flat_form.specs.FlatPrograms.{flat_program, is_short}
use Rattle.flat_end.specs.Texts.{StatesProgram}
use Rattle.flat_end.specs.FlatTexts.{HasNoFlatForm}
use Rattle.node_core.specs.Scans.{is_small}
use Rattle.node_end.specs.declared.fault.AcceptFault.{AcceptFault}
use Rattle.node_end.specs.declared.fault.AcceptFault.TheVariants.{Refused, TooManyNodes, Memory}

-- A text states a program with few flat statements, whose scan has more than 1,000,000 nodes (M6).
pub record HasManyNodes (text : List ℕ) : Type 0 where
  pub program : ProgramData
  pub is : StatesProgram text program
  pub short : IsTrue (is_short program)
  pub many : is_small (flat_program program) ≡ false

-- A text breaks a rule up to that on the number of flat statements, or has many nodes. Nothing is said where memory was wanting.
abbrev pub HasNoNodes : List ℕ → AcceptFault → Type 0
HasNoNodes text (Refused r) = HasNoFlatForm text r
HasNoNodes text TooManyNodes = HasManyNodes text
HasNoNodes text Memory = Unit {0}
