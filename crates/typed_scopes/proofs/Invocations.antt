-- A call of an instance: its inputs, its run and its outputs.
use Rattle.std.proofs.Common.{◌≡◌, List, [], ◌∷◌, ◌++◌, ℕ, ℤ, true, not, ◌&&◌, Option, Some, None, refl}
use Rattle.std.specs.List.{list_all}
use Rattle.std.proofs.lemmas.Bool.{and_parts}
use Rattle.plc_types.specs.DataTypes.{is_same_type}
use Rattle.source_tree.specs.Syntax.{Named, ConnectionData, input, output}
use Rattle.source_tree.specs.Levels.{AreConnectionsLevelled}
use Rattle.rules.specs.declared.rule.Rule.TheVariants.{ValueType, ArgumentCount, NotAssignable}
use Rattle.rules.specs.Judgements.{and}
use Rattle.typing.specs.declared.scope.Instance.{Instance}
use Rattle.typing.specs.Typing.{Scope, by_path, kind_at, or_dint, type_of}
use Rattle.typing.specs.Judged.{judged, judged_meaning}
use Rattle.typing.specs.JudgedStatements.{is_assignable, judged_target, member, judged_connection, judged_connections, connects_twice, has_right_arrow, judged_invoke}
use Rattle.typing.specs.TypedStatements.{typed_inputs, typed_run, typed_outputs, typed_invoke}
use Rattle.typed_programs.specs.Scopes.{Pous, BodyScope}
use Rattle.typed_scopes.specs.Uses.{Usable, AreConnectionsWithin}
use Rattle.typed_scopes.specs.Fitting.{InstanceFits, ScopeFits}
use Rattle.typed_scopes.proofs.Wholes.{whole_require, whole_and}
use Rattle.typed_scopes.proofs.Expressions.{value_is}
use Rattle.typed_scopes.proofs.Targets.{is_input, assigned, copied}
use Rattle.typed_scopes.proofs.Lists.{AllTyped, typed-append}

module _ (pous : Pous) (b : BodyScope) (last : ℕ → ℤ) (scope : Scope) (uses : Usable) (fits : ScopeFits pous b last scope uses) where
  inputs_are : (controls : List ℕ) (n : Named) (cs : List ConnectionData) → AreConnectionsWithin uses n cs → AreConnectionsLevelled cs → (judged_connections scope controls n cs).whole ≡ true → list_all (has_right_arrow scope n) cs ≡ true
      → AllTyped pous b (typed_inputs scope n cs)
  inputs_are controls n [] within levels whole arrows = tt
  inputs_are controls n (input x e ∷ cs) within levels whole arrows =
      let p = by_path (member n x) in
      let m = scope.means p in
      let wholes = whole_and (judged_connection scope controls n (input x e)) (judged_connections scope controls n cs) whole in
      let tests = and_parts (has_right_arrow scope n (input x e)) (list_all (has_right_arrow scope n) cs) arrows in
      let parts = and (judged_meaning m) (judged scope (kind_at m) e) in
      let fitting = whole_require parts (is_same_type (type_of scope (kind_at m) e) (or_dint (kind_at m))) ValueType x.at wholes.0 in
      let both = whole_and (judged_meaning m) (judged scope (kind_at m) e) fitting.0 in
      ((λ around. assigned pous b last scope m (fits.names p within.0) both.0 tests.0 e (value_is pous b last scope uses fits (kind_at m) e within.1 levels.0 both.1) fitting.1), inputs_are controls n cs within.2 levels.1 wholes.1 tests.1)
  inputs_are controls n (output y p ∷ cs) within levels whole arrows =
      inputs_are controls n cs within.2 levels (whole_and (judged_connection scope controls n (output y p)) (judged_connections scope controls n cs) whole).1
      (and_parts (has_right_arrow scope n (output y p)) (list_all (has_right_arrow scope n) cs) arrows).1

  outputs_are : (controls : List ℕ) (n : Named) (cs : List ConnectionData) → AreConnectionsWithin uses n cs → (judged_connections scope controls n cs).whole ≡ true → AllTyped pous b (typed_outputs scope n cs)
  outputs_are controls n [] within whole = tt
  outputs_are controls n (input x e ∷ cs) within whole = outputs_are controls n cs within.2 (whole_and (judged_connection scope controls n (input x e)) (judged_connections scope controls n cs) whole).1
  outputs_are controls n (output y p ∷ cs) within whole =
      let q = by_path (member n y) in
      let m = scope.means q in
      let target = scope.means (by_path p) in
      let wholes = whole_and (judged_connection scope controls n (output y p)) (judged_connections scope controls n cs) whole in
      let parts = and (judged_meaning m) (judged_target controls target p.first.at) in
      let fitting = whole_require parts (is_same_type (or_dint (kind_at target)) (or_dint (kind_at m))) ValueType p.first.at wholes.0 in
      let both = whole_and (judged_meaning m) (judged_target controls target p.first.at) fitting.0 in
      let settable = whole_require (judged_meaning target) (is_assignable controls target) NotAssignable p.first.at both.1 in
      ((λ around. copied pous b last scope m target (fits.names q within.0) (fits.names (by_path p) within.1) both.0 settable.0 (is_input controls target settable.1) fitting.1), outputs_are controls n cs within.2 wholes.1)

  run_is : (found : Option Instance) → ((i : Instance) → found ≡ Some i → InstanceFits pous b i) → AllTyped pous b (typed_run found)
  run_is None stands = tt
  run_is (Some i) stands = let f = stands i refl in ((λ around. (f.before, f.named, f.within, f.stands)), tt)

  pub invoke_is : (controls : List ℕ) (n : Named) (cs : List ConnectionData) → AreConnectionsWithin uses n cs → AreConnectionsLevelled cs → (judged_invoke scope controls n cs).whole ≡ true → AllTyped pous b (typed_invoke scope n cs)
  invoke_is controls n cs within levels whole =
      let parts = whole_require (judged_connections scope controls n cs) (not (connects_twice [] cs) && list_all (has_right_arrow scope n) cs) ArgumentCount n.at whole in
      let arrows = (and_parts (not (connects_twice [] cs)) (list_all (has_right_arrow scope n) cs) parts.1).1 in
      let run = typed_run (scope.instance n.text) in
      typed-append pous b (typed_inputs scope n cs ++ run) (typed_outputs scope n cs)
      (typed-append pous b (typed_inputs scope n cs) run (inputs_are controls n cs within levels parts.0 arrows) (run_is (scope.instance n.text) (fits.instances n.text)))
      (outputs_are controls n cs within parts.0)
