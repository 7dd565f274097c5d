use Rattle.std.proofs.Common.{rules, ◌∙◌, sym, codes}
use Rattle.clap.specs.Words.{found_of}
use Rattle.clap.proofs.WalkLemmas.{first_value-rows}
use Rattle.command_line.proofs.Rows.{no_old, no_new, no_relation, no_last, all_given}
use Rattle.command_line.proofs.read.words_of.Goals as goal

pub returns-in_default : goal.returns-in_default
returns-in_default c =
    let row = first_value-rows (found_of c.args.matches.now) in
    no_old _ _ _ _ (sym (c.get_str.ensures ∙ row (codes "OLD")) ∙ search rules)

pub returns-in_default-get_str : goal.returns-in_default-get_str
returns-in_default-get_str c =
    let row = first_value-rows (found_of c.args.matches.now) in
    no_new _ _ _ _ c.in-Some.old.now (sym (c.get_str.ensures ∙ row (codes "OLD")) ∙ search rules) (sym (c.get_str-2.ensures ∙ row (codes "NEW")) ∙ search rules)

pub returns-in_default-get_str-2 : goal.returns-in_default-get_str-2
returns-in_default-get_str-2 c =
    let row = first_value-rows (found_of c.args.matches.now) in
    no_relation _ _ _ _ c.in-Some.old.now c.in-Some-get_str.new.now (sym (c.get_str.ensures ∙ row (codes "OLD")) ∙ search rules)
    (sym (c.get_str-2.ensures ∙ row (codes "NEW")) ∙ search rules) (sym (c.get_str-3.ensures ∙ row (codes "REL")) ∙ search rules)

pub returns-in_default-get_str-3 : goal.returns-in_default-get_str-3
returns-in_default-get_str-3 c =
    let row = first_value-rows (found_of c.args.matches.now) in
    no_last _ _ _ _ c.in-Some.old.now c.in-Some-get_str.new.now c.in-Some-get_str-2.relation.now (sym (c.get_str.ensures ∙ row (codes "OLD")) ∙ search rules)
    (sym (c.get_str-2.ensures ∙ row (codes "NEW")) ∙ search rules) (sym (c.get_str-3.ensures ∙ row (codes "REL")) ∙ search rules)
    (sym (c.get_str-4.ensures ∙ row (codes "LAST")) ∙ search rules)

pub returns : goal.returns
returns c =
    let row = first_value-rows (found_of c.args.matches.now) in
    all_given _ _ _ _ _ _ _ _ (sym (c.get_str.ensures ∙ row (codes "OLD")) ∙ search rules)
    (sym (c.get_str-2.ensures ∙ row (codes "NEW")) ∙ search rules) (sym (c.get_str-3.ensures ∙ row (codes "REL")) ∙ search rules)
    (sym (c.get_str-4.ensures ∙ row (codes "LAST")) ∙ search rules)
