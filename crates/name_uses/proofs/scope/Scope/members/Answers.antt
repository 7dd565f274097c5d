use Rattle.std.proofs.Common.{◌≡◌, ◌∷◌, List, ap, sym, ◌∙◌}
use Rattle.source_tree.specs.Syntax.{Named}
use Rattle.source_tree.specs.SyntaxView.{name_view, names_view}
use Rattle.naming.specs.Broken.{in_members}
use Rattle.pou_scope.specs.NamesView.{file_in}
use Rattle.rules.specs.Outcomes.{outcome_of}
use Rattle.naming.proofs.MemberLemmas.{member_whole, member_broken}
use Rattle.name_uses.proofs.scope.Scope.members.Goals as goal

pub returns-then-member : goal.returns-then-member
returns-then-member c =
    let f = file_in c.args.self.now.names in
    let first = name_view c.args.first.now in
    let n = name_view c.in-Some.name.now in
    let ns = names_view c.in-Some.rest.now in
    let parts : names_view c.args.members.now ≡ n ∷ ns = ap names_view c.in-Some.ensures.cases.0 in
    c.too_deep.ensures ∙ ap outcome_of (member_whole f c.args.block first n ns c.member-member.result c.member-member.ensures c.if-member.true)
    ∙ ap (λ (all : List Named). outcome_of (in_members f c.args.block first all)) (sym parts)

pub returns-else-member : goal.returns-else-member
returns-else-member c =
    let f = file_in c.args.self.now.names in
    let first = name_view c.args.first.now in
    let n = name_view c.in-Some.name.now in
    let ns = names_view c.in-Some.rest.now in
    let parts : names_view c.args.members.now ≡ n ∷ ns = ap names_view c.in-Some.ensures.cases.0 in
    c.member-member.ensures ∙ ap outcome_of (member_broken f c.args.block first n ns c.member-member.result c.member-member.ensures c.if-member.false)
    ∙ ap (λ (all : List Named). outcome_of (in_members f c.args.block first all)) (sym parts)
