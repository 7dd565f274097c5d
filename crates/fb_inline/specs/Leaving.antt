-- Flat lists of statements that may leave: the flags in memory, the parts of a list behind which something may have left, and lists without statements.
use Rattle.std.specs.Prelude.{Bool, true, false, List, [], ◌∷◌, ◌++◌}
use Rattle.flat_core.specs.FlatTree.{FlatStatement}
use Rattle.flat_core.specs.FlatView.{flats_view}
use Rattle.flat_form.specs.Unless.{Flags as FlagData, was_left, guarded}
use Rattle.fb_inline.specs.declared.leaving.Flags.{Flags}
use Rattle.fb_inline.specs.declared.leaving.Part.{Part}

abbrev pub flags_view : Flags → FlagData
flags_view flags = record { exit = flags.exit; returning = flags.returning }

-- parts one behind the other, and a rest; what stands behind a part runs where the part did not leave
abbrev pub within : FlagData → List Part → List FlatStatement → List FlatStatement
within flags [] rest = rest
within flags (p ∷ parts) rest = flats_view p.list.items ++ guarded (was_left p.left.exits p.left.returns flags) (within flags parts rest)

-- whether there are no statements
abbrev pub are_none : List FlatStatement → Bool
are_none [] = true
are_none (t ∷ ts) = false
