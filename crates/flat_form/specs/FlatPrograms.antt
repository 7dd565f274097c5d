-- The flat form of a program, and whether it is short enough.
use Rattle.std.specs.Prelude.{◌∷◌, List, length, Bool, pos, nat_le}
use Rattle.program_tree.specs.Tree.{number, ProgramData}
use Rattle.flat_core.specs.FlatTree.{FlatStatement, set, FlatData, size_of_all}
use Rattle.flat_core.specs.FlatView.{flats_of}
use Rattle.flat_form.specs.Owners.{program_owner}
use Rattle.flat_form.specs.Bodies.{Bodies}
use Rattle.flat_form.specs.Unless.{without_flags}
use Rattle.flat_form.specs.FlatLists.{scratch_of_all, flat_of_all}
use Rattle.flat_form.specs.Pous.{bodies_of}

-- what the POUs become that a program may run and call
abbrev pub bodies_in : ProgramData → Bodies
bodies_in p = bodies_of p.called (length p.called)

-- FAULT becomes FALSE, then the body runs
abbrev pub flat_scan : ProgramData → List FlatStatement
flat_scan p = set 0 (number (pos 0)) ∷ flat_of_all (bodies_in p) program_owner 0 without_flags p.body (length p.cells)

-- the scratch cells stand behind the cells
abbrev pub flat_program : ProgramData → FlatData
flat_program p = record { cells = p.cells; scratch = scratch_of_all (bodies_in p) p.body; body = flats_of (flat_scan p) }

-- at most 200,000 statements, nested ones too
abbrev pub is_short : ProgramData → Bool
is_short p = nat_le (size_of_all (flat_program p).body) 200000
