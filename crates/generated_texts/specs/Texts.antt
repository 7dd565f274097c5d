-- The three texts with so many inputs. In both programs an output is true in each scan in which its input becomes true. OLD holds the input
-- of the scan before in a variable, NEW calls a block.
use Rattle.std.specs.Prelude.{◌≡◌, ℕ, List, ◌++◌, codes}
use Rattle.generated_texts.specs.declared.texts.GeneratedTexts.{GeneratedTexts}
use Rattle.generated_texts.specs.Patterns.{lines}

abbrev pub old_text : ℕ → List ℕ
old_text count = codes "PROGRAM M\n"
    ++ lines (codes "VAR_INPUT a# : BOOL; END_VAR VAR_OUTPUT q# : BOOL; END_VAR VAR m# : BOOL; END_VAR\n") count
    ++ lines (codes "q# := a# AND NOT m#; m# := a#;\n") count
    ++ codes "END_PROGRAM\n"

abbrev pub new_text : ℕ → List ℕ
new_text count = codes "PROGRAM M\n"
    ++ lines (codes "VAR_INPUT a# : BOOL; END_VAR VAR_OUTPUT q# : BOOL; END_VAR VAR t# : R_TRIG; END_VAR\n") count
    ++ lines (codes "t#(CLK := a#, Q => q#);\n") count
    ++ codes "END_PROGRAM\n"

-- that the variables of both hold the same is offered as an invariant
abbrev pub relation_text : ℕ → List ℕ
relation_text count = codes "RELATION 1;\nFAULTS EQUAL;\nDEPTH 1;\nCONFLICTS 10000;\n"
    ++ lines (codes "INPUT a# = a#;\n") count
    ++ lines (codes "RELATE old.q# = new.q#;\n") count
    ++ lines (codes "INVARIANT old.m# = new.t#.M;\n") count

pub record AreGenerated (count : ℕ) (texts : GeneratedTexts) : Type 0 where
  pub old : texts.old.items ≡ old_text count
  pub new : texts.new.items ≡ new_text count
  pub relation : texts.relation.items ≡ relation_text count
