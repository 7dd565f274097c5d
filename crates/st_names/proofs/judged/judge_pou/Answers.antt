use Rattle.source_tree.specs.SyntaxView.{body_view}
use Rattle.pou_scope.specs.NamesView.{file_in, pou_in}
use Rattle.pou_scope.proofs.JudgedLemmas.{pou_judged}
use Rattle.st_names.proofs.judged.judge_pou.Goals as goal

pub returns-clause-judged : goal.returns-clause-judged
returns-clause-judged c =
    let names = c.args.scope.now.names in
    pou_judged (file_in names) (pou_in names) (body_view names.own.now.pou.now.body) names.own.now.once c.walk_declarations.new.outcome c.walk_body.new.outcome names.own.now.judged c.walk_declarations.ensures c.in_ok-walk_body.ensures.judged
