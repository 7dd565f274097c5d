use Rattle.std.proofs.Common.{rules, ◌∙◌, sym, codes}
use Rattle.clap.specs.Words.{found_of}
use Rattle.clap.proofs.WalkLemmas.{first_value-rows}
use Rattle.command_line.proofs.Rows.{no_count, count_given}
use Rattle.command_line.proofs.read.count_of.Goals as goal

pub returns-in-None : goal.returns-in-None
returns-in-None c = let row = first_value-rows (found_of c.args.matches.now) in no_count _ (sym (c.get_str.ensures ∙ row (codes "N")) ∙ search rules)

pub returns-in_ok-from_str-in-Some : goal.returns-in_ok-from_str-in-Some
returns-in_ok-from_str-in-Some c = let row = first_value-rows (found_of c.args.matches.now) in count_given _ _ (sym (c.get_str.ensures ∙ row (codes "N")) ∙ search rules)
