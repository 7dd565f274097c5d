use Rattle.std.proofs.Common.{sym, subst}
use Rattle.queries.specs.Comparisons.{Comparison}
use Rattle.queries.specs.Questions.{QueryData, IsQueryOf}
use Rattle.queries.specs.Meaning.{Means}
use Rattle.pair_trial.specs.Trials.{comparison_of, setting_in}
use Rattle.finding_search.specs.Desks.{desk}
use Rattle.finding_search.proofs.Whole.{is_valid, is_part, is_full, is_shown, is_reached}
use Rattle.finding_search.proofs.saving.save_finding.Goals as goal

pub returns-clause-valid : goal.returns-clause-valid
returns-clause-valid g c =
    let s = setting_in c.args.trial.now in
    let f = g.Q.Queries.formula c.args.queries.now in
    let old = desk (g.S.Shelf.state c.args.shelf.now) c.args.writer.now in
    let new = desk (g.S.Shelf.state c.save_from_top.new.shelf) c.save_from_top.new.writer in
    is_valid s f old new c.requires.empty c.requires.unwritten c.save_from_top.result c.save_from_top.ensures.writes

pub returns-clause-shown : goal.returns-clause-shown
returns-clause-shown g c =
    let s = setting_in c.args.trial.now in
    let f = g.Q.Queries.formula c.args.queries.now in
    let old = desk (g.S.Shelf.state c.args.shelf.now) c.args.writer.now in
    let new = desk (g.S.Shelf.state c.save_from_top.new.shelf) c.save_from_top.new.writer in
    let k = comparison_of c.args.trial.now in
    let means : (query : QueryData) → IsQueryOf k query → Means k query (f query) = λ query is_query.
    subst (λ (x : Comparison). Means x query (f query)) c.requires.compared (c.laws.ensures.means query (subst (λ (x : Comparison). IsQueryOf x query) (sym c.requires.compared) is_query))
    in
    is_shown k f c.requires.comparison means old new c.requires.empty c.requires.unwritten c.save_from_top.result c.save_from_top.ensures.writes

pub returns-clause-reached : goal.returns-clause-reached
returns-clause-reached g c =
    let s = setting_in c.args.trial.now in
    let f = g.Q.Queries.formula c.args.queries.now in
    let old = desk (g.S.Shelf.state c.args.shelf.now) c.args.writer.now in
    let new = desk (g.S.Shelf.state c.save_from_top.new.shelf) c.save_from_top.new.writer in
    let k = comparison_of c.args.trial.now in
    let means : (query : QueryData) → IsQueryOf k query → Means k query (f query) = λ query is_query.
    subst (λ (x : Comparison). Means x query (f query)) c.requires.compared (c.laws.ensures.means query (subst (λ (x : Comparison). IsQueryOf x query) (sym c.requires.compared) is_query))
    in
    is_reached k f c.requires.comparison means old new c.requires.empty c.requires.unwritten c.save_from_top.result c.save_from_top.ensures.writes

pub returns-clause-part : goal.returns-clause-part
returns-clause-part g c =
    let s = setting_in c.args.trial.now in
    let f = g.Q.Queries.formula c.args.queries.now in
    let old = desk (g.S.Shelf.state c.args.shelf.now) c.args.writer.now in
    let new = desk (g.S.Shelf.state c.save_from_top.new.shelf) c.save_from_top.new.writer in
    is_part s f old new c.requires.empty c.requires.unwritten c.save_from_top.result c.save_from_top.ensures.writes

pub returns-clause-past : goal.returns-clause-past
returns-clause-past g c =
    let s = setting_in c.args.trial.now in
    let f = g.Q.Queries.formula c.args.queries.now in
    let old = desk (g.S.Shelf.state c.args.shelf.now) c.args.writer.now in
    let new = desk (g.S.Shelf.state c.save_from_top.new.shelf) c.save_from_top.new.writer in
    is_full s f old new c.requires.empty c.requires.unwritten c.save_from_top.result c.save_from_top.ensures.writes
