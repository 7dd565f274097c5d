-- A set of candidates as it is kept: for each candidate, by its number from 0, whether it is in the set.
use Rattle.std.specs.Prelude.{Bool, false, List, slice_index_or}
use Rattle.scan_model.specs.Verdicts.{CandidateSet}

-- the set that the marks stand for; a number without a mark is not in it
abbrev pub members : List Bool → CandidateSet
members marks n = slice_index_or marks n false
