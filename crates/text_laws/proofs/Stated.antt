-- What texts state can be run, its INPUT lines name cells, it is typed, and the formula of each query means it.
use Rattle.std.proofs.Common.{ℕ, List, length, refl, sym, subst}
use Rattle.program_tree.specs.Tree.{ProgramData}
use Rattle.scan_model.specs.InRange.{IsFitToRun}
use Rattle.typing_laws.proofs.FitLemmas.{typed_program-fit}
use Rattle.flat_form.specs.FlatPrograms.{flat_program}
use Rattle.fb_inline.proofs.TypedForms.{form-typed, form-leaves}
use Rattle.front_end.specs.Texts.{StatesProgram}
use Rattle.front_end.proofs.TypedTexts.{text_typed}
use Rattle.node_end.proofs.TypedScans.{scan_typed}
use Rattle.queries.specs.Comparisons.{Comparison}
use Rattle.query_formula_laws.specs.TypedComparisons.{IsTypedComparison, IsScanOf}
use Rattle.query_formula_laws.proofs.Meanings.{query_means}
use Rattle.product_build.specs.Limits.{most_gates}
use Rattle.relation_file.proofs.BelongsLemmas.{relation_belongs}
use Rattle.relation_file.proofs.WellFormedLemmas.{relation_well_formed}
use Rattle.typed_relations.specs.Readings.{by_tokens, AreRead}
use Rattle.typed_relations.proofs.Readings.{read_typed}
use Rattle.comparison_files.specs.Texts.{Texts}
use Rattle.comparison_files.specs.Accepting.{nodes_of, AreStated}
use Rattle.comparison_files.proofs.ReadTexts.{program_read}
use Rattle.text_laws.specs.Laws.{StatedIsRelatable, StatedIsComparison, FormulasMean}

-- ---- one program

-- its cells are those of the whole typed program
text_fit : (text : List ℕ) (p : ProgramData) → StatesProgram text p → IsFitToRun p
text_fit text p h =
    let whole = typed_program-fit h.file h.number h.pou in
    subst IsFitToRun (sym h.program) (record { begins_with_fault = whole.begins_with_fault; start_in_range = whole.start_in_range })

text_scan : (text : List ℕ) (p : ProgramData) → StatesProgram text p → IsScanOf p (nodes_of p)
text_scan text p h =
    let fit = text_fit text p h in
    let typed = text_typed text p h in
    scan_typed p (flat_program p) (nodes_of p) refl (form-typed p fit typed) (form-leaves p fit typed) refl

-- ---- what is compared

stated_read : (t : Texts) (c : Comparison) → AreStated t c → AreRead c
stated_read t c h =
    let is = h.rel_is.is in
    record {
      old = program_read t.old c.old h.old_is.is (text_fit t.old c.old h.old_is.is);
      new = program_read t.new c.new h.new_is.is (text_fit t.new c.new h.new_is.is);
      stated = by_tokens (length t.rel) h.rel_is.toks is;
      belongs = relation_belongs c.old c.new (length t.rel) is.lines c.relation is.sound is.stated;
      well_formed = relation_well_formed c.old c.new (length t.rel) is.lines c.relation is.sound is.stated;
      few = h.rel_is.few;
    }

stated_typed : (t : Texts) (c : Comparison) → AreStated t c → IsTypedComparison c
stated_typed t c h = read_typed c (stated_read t c h)

pub stated_comparison : StatedIsComparison
stated_comparison t c h = (stated_typed t c h).comparison

pub stated_relatable : StatedIsRelatable
stated_relatable t c h = (stated_comparison t c h).relatable

pub formulas_mean : FormulasMean
formulas_mean t c h q is =
    query_means c (stated_typed t c h) (nodes_of c.old) (nodes_of c.new) (text_scan t.old c.old h.old_is.is) (text_scan t.new c.new h.new_is.is) most_gates q is
