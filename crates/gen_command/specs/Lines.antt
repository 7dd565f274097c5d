-- GEN's line, and a report behind it.
use Rattle.std.specs.Prelude.{ℕ, List, length, ◌++◌, codes, decimal}
use Rattle.scan_model.specs.Candidates.{candidates_of}
use Rattle.queries.specs.Comparisons.{Comparison}
use Rattle.command_answers.specs.declared.status.Status.TheVariants.{Memory}
use Rattle.command_answers.specs.Answers.{memory_line}
use Rattle.command_answers.specs.Reports.{Report}

-- the number of inputs, and how many cells the programs and how many candidates the relation has
abbrev pub made_line : ℕ → Comparison → List ℕ
made_line count c =
    codes "GEN " ++ decimal count ++ codes " cells " ++ decimal (length c.old.cells) ++ codes " " ++ decimal (length c.new.cells)
    ++ codes " candidates " ++ decimal (length (candidates_of c.old c.new c.relation)) ++ codes "\n"

abbrev pub behind : List ℕ → Report → Report
behind line last = record { text = line ++ last.text; status = last.status }

-- memory was wanting
abbrev pub memory_report : Report
memory_report = record { text = memory_line; status = Memory }
