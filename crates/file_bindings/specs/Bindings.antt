-- What is kept of a file whose names are bound.
use Rattle.std.specs.Prelude.{◌≡◌, ℕ, List, [], map, option_map, option_and_then, unwrap_or}
use Rattle.std.specs.HashMap.{get_by_text}
use Rattle.std.specs.List.{slice_get}
use Rattle.call_order.specs.Uses.{graph_of, order_of}
use Rattle.source_tree.specs.Syntax.{FileData}
use Rattle.file_bindings.specs.declared.bound.Bindings.{Bindings}
use Rattle.file_bindings.specs.Bound.{program_number, places_from, variables_at}
use Rattle.naming.specs.declared.variable.Declared.{Declared}
use Rattle.naming.specs.Circles.{uses_of}
use Rattle.naming.specs.Ends.{Leads}
use Rattle.naming.specs.FileScope.{types_of, pou_at, names_of}
use Rattle.naming.specs.Scopes.{scope_of, block_of}
use Rattle.naming.specs.ScopeView.{types_view, variables_view}
use Rattle.naming.specs.Slots.{slot_named}
use Rattle.naming.specs.Table.{entry_named, Holds}
use Rattle.naming.specs.Types.{end_of}
use Rattle.pou_scope.specs.declared.pou_names.NamesOfPou.{NamesOfPou}

-- the variables of the names of a number; none where there are no such names
abbrev pub variables_kept : List NamesOfPou → ℕ → List Declared
variables_kept ns number = unwrap_or (option_map (λ n. n.variables.items) (slice_get ns number)) []

-- of those declarations that are instances the blocks are known
abbrev pub HaveBlocks : FileData → List Declared → Type 0
HaveBlocks f ds = map (λ d. d.block) ds ≡ map (block_of f) (variables_view ds)

-- The slots of each POU's variables, and the variables, of instances the blocks, the types, the places of POUs, which POUs each uses, their order, the number of the one PROGRAM, the table
-- of all names, and where each type leads to.
pub record AreBindings (f : FileData) (b : Bindings) : Type 0 where
  pub slots : (number : ℕ) → (text : List ℕ) → option_and_then (λ n. get_by_text n.slots text) (slice_get b.names.items number) ≡ option_and_then (λ p. slot_named (scope_of p) text) (pou_at f number)
  pub variables : (number : ℕ) → ∥ variables_view (variables_kept b.names.items number) ≡ variables_at f number ∥₁
  pub blocks : (number : ℕ) → HaveBlocks f (variables_kept b.names.items number)
  pub types : ∥ types_view b.types.items ≡ types_of f ∥₁
  pub places : b.places.items ≡ places_from 0 f
  pub uses : graph_of b.uses.items ≡ uses_of f
  pub order : b.order.items ≡ order_of (uses_of f)
  pub program : b.program ≡ program_number f
  pub table : Holds b.table (entry_named (names_of f))
  pub ends : Leads b.ends.items (end_of f)
