use Rattle.std.proofs.Common.{◌++◌, List, map, ap, ◌∙◌}
use Rattle.std.proofs.Math.Logic.{∥∥₁_elim}
use Rattle.std.proofs.Props.{props}
use Rattle.naming.specs.ScopeView.{types_view}
use Rattle.decl_types.specs.Bodies.{file_of}
use Rattle.decl_types.specs.Spelled.{spelled_outcome, declared_outcomes}
use Rattle.decl_types.specs.declared.own_domains.Spelled.{Spelled}
use Rattle.typing.specs.declared.domain.Domain.{Domain}
use Rattle.typing.specs.OwnDomains.{own_domains}
use Rattle.decl_types.proofs.own_domains.own_domains.Goals as goal

pub loop-number-init : goal.loop-number-init
loop-number-init c =
    let f = file_of c.args.file.now in
    let ts = types_view c.args.file.now.types.now in (
      ap (λ (l : List Spelled). map (spelled_outcome f) l ++ declared_outcomes f ts) c.new-spelled.ensures.items
          ∙ ∥∥₁_elim c.args.file.now.declared (hlevel props) (λ declared. ap (declared_outcomes f) declared),
      ap (λ (l : List Domain). l ++ own_domains f 0 ts) c.new-domains.ensures.items
          ∙ ∥∥₁_elim c.args.file.now.declared (hlevel props) (λ declared. ap (own_domains f 0) declared),
    )
