use Rattle.std.proofs.Common.{◌≡◌, sym, subst}
use Rattle.std.proofs.lemmas.Result.{IfOk-weaker}
use Rattle.clause_core.specs.Satisfaction.{assigned, Satisfies}
use Rattle.queries.specs.declared.decoded.Decoded.{Decoded}
use Rattle.queries.specs.Questions.{query_view, IsQueryOf}
use Rattle.query_formulas.specs.Decoded.{DecodedData, decoded_view, IsAnswer, decoded}
use Rattle.pair_circuits.specs.Views.{parts_view, product_view, breaks_view}
use Rattle.product_build.specs.MadeCircuits.{MadeCircuits, comparison_between, comparison_of, formula_of}
use Rattle.product_build.proofs.Meanings.{product_wide, rows_wide, query_decoded}
use Rattle.product_build.proofs.asking.CircuitsQueries.decode.Goals as goal

pub decode-requires-clause-product : goal.decode-requires-clause-product
decode-requires-clause-product c = product_wide _ _ _ _ c.self.invariant

pub decode-requires-clause-breaks : goal.decode-requires-clause-breaks
decode-requires-clause-breaks c = rows_wide _ _ _ _ c.self.invariant

pub returns : goal.returns
returns c =
    let m = c.self.inside in
    let k = comparison_between m.old_program.now m.new_program.now m.relation.now in
    let q = query_view c.args.query.now in
    let v = assigned c.args.found.now in
    let given = decoded (parts_view m.parts) (product_view m.product) (breaks_view m.breaks) q v in
    let asked = subst (λ (x : MadeCircuits). IsQueryOf (comparison_of x) q) (sym c.self.view_is) c.requires.query in
    let solved = subst (λ (x : MadeCircuits). Satisfies v (formula_of x q).clauses) (sym c.self.view_is) c.requires.found in
    let answer : IsAnswer k q given = query_decoded k _ _ _ c.self.invariant q v asked solved in
    IfOk-weaker c.decode.result (λ (d : Decoded). decoded_view d ≡ given) (λ (d : Decoded). IsAnswer (comparison_of c.args.self.now) q (decoded_view d))
    (λ d e. subst (λ (x : MadeCircuits). IsAnswer (comparison_of x) q (decoded_view d)) c.self.view_is (subst (λ (x : DecodedData). IsAnswer k q x) (sym e) answer)) c.decode.ensures
