use Rattle.std.proofs.Common.{ap, refl, arith, List, length}
use Rattle.scan_model.specs.InRange.{Row}
use Rattle.queries.specs.Sets.{members}
use Rattle.pair_trial.specs.Trials.{comparison_of, setting_in}
use Rattle.judgement.specs.Places.{at_drops}
use Rattle.finding_search.proofs.Going.{Writes-exit, Writes-answer}
use Rattle.finding_search.proofs.RowNumbers.{step-numbers, row_at}
use Rattle.finding_search.proofs.DropLemmas.{left_by, passes_read, fewer_read, in_range_read, allowed_read, kept_read}
use Rattle.finding_search.proofs.dropping.drop_by.Goals as goal

pub pair_numbers-requires-clause-found : goal.pair_numbers-requires-clause-found
pair_numbers-requires-clause-found g c = step-numbers (comparison_of c.args.trial.now) c.requires.comparison (members c.args.set.now) c.args.found.now c.requires.found

pub pair_numbers-requires-clause-row : goal.pair_numbers-requires-clause-row
pair_numbers-requires-clause-row g c =
    let numbers = step-numbers (comparison_of c.args.trial.now) c.requires.comparison (members c.args.set.now) c.args.found.now c.requires.found in
    let one = ap (λ (rows : List Row). length rows) c.requires.found.1 in
    row_at c.args.found.now.rows.items 0 c.index-row.result.now (omega (arith, one)) c.index-row.ensures numbers.rows

pub returns-in_err-write_line-clause-writes : goal.returns-in_err-write_line-clause-writes
returns-in_err-write_line-clause-writes g c reach formula =
    Writes-exit (setting_in c.args.trial.now) formula _ _ _ _ _ _ _ c.from_residual-in_err-write_line.ensures.1
    (c.in_err-write_line.ensures (setting_in c.args.trial.now) formula _ _
    (passes_read c.args.trial.now c.requires.comparison (members c.args.set.now) c.args.found.now c.index-row.result.now c.requires.found c.index-row.ensures reach formula
    c.in_ok-numbers.numbers c.in_ok-numbers.ensures.same))

pub set_pair-requires : goal.set_pair-requires
set_pair-requires g c =
    in_range_read c.args.trial.now c.requires.comparison (members c.args.set.now) c.args.found.now c.index-row.result.now c.requires.found c.index-row.ensures
    (record { old = c.deref.result.now; new = c.deref-2.result.now }) c.index-row.result.now c.deref.ensures.value c.deref-2.ensures.value refl

pub step-requires : goal.step-requires
step-requires g c =
    allowed_read c.args.trial.now c.requires.comparison (members c.args.set.now) c.args.found.now c.index-row.result.now c.requires.found c.index-row.ensures
    (record { old = c.deref.result.now; new = c.deref-2.result.now }) c.as_slice.result.now c.deref.ensures.value c.deref-2.ensures.value c.as_slice.ensures
    c.set_pair.new.self c.set_pair.ensures

pub returns-clause-writes : goal.returns-clause-writes
returns-clause-writes g c reach formula =
    let kept = kept_read c.args.trial.now c.requires.comparison (members c.args.set.now) c.args.found.now c.index-row.result.now c.requires.found c.index-row.ensures
    (record { old = c.deref.result.now; new = c.deref-2.result.now }) c.as_slice.result.now c.deref.ensures.value c.deref-2.ensures.value c.as_slice.ensures
    c.set_pair.new.self c.step.new.self (members c.keep.new.set) c.set_pair.ensures c.step.ensures c.keep.ensures in
    Writes-answer (setting_in c.args.trial.now) formula _ _ _ (λ (x : Unit {0}). at_drops reach (left_by c.args.trial.now (members c.args.set.now) c.args.found.now c.index-row.result.now)) _
    (λ (x : Unit {0}). at_drops reach (members c.keep.new.set)) tt (ap (at_drops reach) kept)
    (c.in_ok-write_line.ensures (setting_in c.args.trial.now) formula _ _
    (passes_read c.args.trial.now c.requires.comparison (members c.args.set.now) c.args.found.now c.index-row.result.now c.requires.found c.index-row.ensures reach formula
    c.in_ok-numbers.numbers c.in_ok-numbers.ensures.same))

pub returns-clause-fewer : goal.returns-clause-fewer
returns-clause-fewer g c =
    let kept = kept_read c.args.trial.now c.requires.comparison (members c.args.set.now) c.args.found.now c.index-row.result.now c.requires.found c.index-row.ensures
    (record { old = c.deref.result.now; new = c.deref-2.result.now }) c.as_slice.result.now c.deref.ensures.value c.deref-2.ensures.value c.as_slice.ensures
    c.set_pair.new.self c.step.new.self (members c.keep.new.set) c.set_pair.ensures c.step.ensures c.keep.ensures in
    fewer_read c.args.trial.now c.requires.comparison (members c.args.set.now) c.args.found.now c.index-row.result.now c.requires.found c.index-row.ensures (members c.keep.new.set) kept
