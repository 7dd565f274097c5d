use Rattle.std.proofs.Common.{◌≡◌, List, [], Some, None, option_map, length, refl, ap, sym, ◌∙◌, subst}
use Rattle.std.specs.List.{slice_get}
use Rattle.std.specs.Option.{unwrap_or}
use Rattle.std.proofs.lemmas.Option.{slice_get_read, slice_get_past}
use Rattle.std.proofs.Math.Logic.{∥∥₁_elim}
use Rattle.std.proofs.Props.{props}
use Rattle.source_tree.specs.SyntaxView.{file_view}
use Rattle.naming.specs.ScopeView.{variables_view}
use Rattle.pou_scope.specs.declared.pou_names.NamesOfPou.{NamesOfPou}
use Rattle.file_bindings.specs.Bindings.{variables_kept, HaveBlocks}
use Rattle.file_bindings.proofs.bound.Resolved.variables.Goals as goal

pub returns : goal.returns
returns c =
    let r = c.args.self.now in
    let all = c.as_slice.result.now in
    let k = c.args.number in
    let lookup = c.in-Some.ensures.lookup in
    let there : slice_get all k ≡ Some c.in-Some.names.now = slice_get_read all (length all) k c.in-Some.names.now refl lookup.3.0 lookup.1 in
    let kept : c.deref.result.now ≡ variables_kept r.bindings.names.items k =
    c.deref.ensures.value ∙ ap (λ o. unwrap_or (option_map (λ (n : NamesOfPou). n.variables.items) o) []) (sym there) ∙ ap (λ (ns : List NamesOfPou). variables_kept ns k) c.as_slice.ensures.value in
    record {
      variables = ∥∥₁_elim (r.bound.variables k) (hlevel props) (λ is. ∣ ap variables_view kept ∙ is ∣₁);
      blocks = subst (HaveBlocks (file_view r.file.now)) (sym kept) (r.bound.blocks k);
    }

pub returns-in_default : goal.returns-in_default
returns-in_default c =
    let r = c.args.self.now in
    let all = c.as_slice.result.now in
    let k = c.args.number in
    let there : slice_get all k ≡ None = slice_get_past all k c.in_default.ensures.lookup.3 in
    let kept : c.no_variables.result.now ≡ variables_kept r.bindings.names.items k =
    c.no_variables.ensures ∙ ap (λ o. unwrap_or (option_map (λ (n : NamesOfPou). n.variables.items) o) []) (sym there) ∙ ap (λ (ns : List NamesOfPou). variables_kept ns k) c.as_slice.ensures.value in
    record {
      variables = ∥∥₁_elim (r.bound.variables k) (hlevel props) (λ is. ∣ ap variables_view kept ∙ is ∣₁);
      blocks = subst (HaveBlocks (file_view r.file.now)) (sym kept) (r.bound.blocks k);
    }
