use Rattle.std.proofs.Common.{◌≡◌, ◌∙◌, ap, subst, IfOk}
use Rattle.std.specs.String.{string_bytes}
use Rattle.sfc_shape.specs.ShapeView.{listed}
use Rattle.sfc_shape.proofs.shape.Shape.associations.Goals as goal

pub returns : goal.returns
returns c =
    let shape = c.args.self.now in
    subst (λ l. IfOk c.associations_by.result (λ v. v.items ≡ l)) (ap (listed shape.associations) c.as_str.ensures.value ∙ shape.associated (string_bytes c.args.action.now.text)) c.associations_by.ensures
