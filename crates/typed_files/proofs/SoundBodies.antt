-- In a file that breaks no rule each body is sound, and so typed over the cells of its POU.
use Rattle.std.proofs.Common.{◌≡◌, ℕ, Bool, List, [], ◌∷◌, Option, Some, None, true, refl}
use Rattle.call_order.specs.Marks.{is_marked}
use Rattle.rules.specs.Judgements.{and}
use Rattle.source_tree.specs.Syntax.{PartData, BodyData, statements, chart as chart_body, PouData, FileData}
use Rattle.source_tree.specs.Levels.{ArePartsLevelled, IsBodyLevelled, IsFileLevelled}
use Rattle.naming.specs.FileScope.{pou_at, is_program}
use Rattle.naming.specs.Scopes.{variables_in_pou, scope_of as names_of}
use Rattle.naming.specs.Broken.{variables_twice, in_declarations, in_body, in_pou_scope, in_pou, broken_names}
use Rattle.typing.specs.Typing.{Scope}
use Rattle.typing.specs.Places.{variables_in, sizes_of}
use Rattle.typing.specs.Variables.{judged_variables}
use Rattle.typing.specs.Members.{scope_of}
use Rattle.typing.specs.JudgedStatements.{judged_stmts}
use Rattle.typing.specs.JudgedExits.{judged_exits}
use Rattle.typing.specs.Pous.{judged_body, broken_types}
use Rattle.typing.specs.Reached.{reached}
use Rattle.whole_files.specs.typed_scopes.Uses.{Usable}
use Rattle.whole_files.proofs.typed_scopes.Wholes.{whole_and}
use Rattle.whole_files.specs.bound_names.BoundNames.{IsBodyWithin}
use Rattle.whole_files.proofs.st_names.WholeNames.{pou_whole}
use Rattle.whole_files.specs.WholePous.{IsNamedBody}
use Rattle.whole_files.proofs.Formed.{pou_levelled}
use Rattle.whole_files.proofs.WholeLaw.{whole_pou}
use Rattle.whole_files.proofs.WholeBodies.{names_of_body}
use Rattle.whole_files.proofs.ChartNames.{body_named}
use Rattle.typed_files.proofs.SeenNames.{body_used}
use Rattle.typed_cells.specs.Uses.{uses_of_pou}
use Rattle.typed_cells.specs.Premises.{UsesItsBlocks, IsOrdered, AreWhole}
use Rattle.typed_cells.specs.Bodies.{IsBodySound, IsTypedIn}
use Rattle.typed_cells.proofs.Bodies.{body_is_typed}

parts_levelled : (ps : List PartData) → IsBodyLevelled (chart_body ps) → ArePartsLevelled ps
parts_levelled [] h = absurd h
parts_levelled (p ∷ ps) h = h

body_sound : (scope : Scope) (uses : Usable) (b : BodyData) → IsBodyWithin uses b → IsBodyLevelled b → (judged_body scope b).whole ≡ true → IsNamedBody scope b → IsBodySound scope uses b
body_sound scope uses (statements ss) within levels whole named =
    let parts = whole_and (judged_stmts scope [] ss) (judged_exits ss) whole in
    record { within = within; levelled = levels; whole = parts.0; exits = parts.1 }
body_sound scope uses (chart_body ps) within levels whole named =
    record { within = within; levelled = parts_levelled ps levels; whole = whole; transitions = named.transitions; actions = named.actions }

-- each name of a POU is declared once
names_once : (f : FileData) (d : PouData) → (in_pou f d).whole ≡ true → (variables_twice (is_program d.pou_type) [] (variables_in_pou d)).whole ≡ true
unfolding in_pou_scope
names_once f d h =
    let p = names_of d in
    let twice = variables_twice p.has_fault [] p.variables in
    let declared = in_declarations f p 0 p.variables in
    (whole_and twice declared (whole_and (and twice declared) (in_body f p d.body) h).0).0

module _ (f : FileData) (names : broken_names f ≡ []) (levels : IsFileLevelled f) (types : broken_types f ≡ []) where
  pub variables_whole : AreWhole f
  variables_whole k = by (pou_at f k) refl
    where
      by : (o : Option PouData) → pou_at f k ≡ o → (judged_variables f (variables_in o)).whole ≡ true
      by None e = refl
      by (Some d) e = (whole_pou f names levels types k d e).variables

  sound : (k : ℕ) (d : PouData) → pou_at f k ≡ Some d → IsBodySound (scope_of f (sizes_of f) k) (uses_of_pou f k) d.body
  sound k d at =
      body_sound (scope_of f (sizes_of f) k) (uses_of_pou f k) d.body (body_used f names levels k d at) (pou_levelled f k d levels at).4 (whole_pou f names levels types k d at).body
      (body_named f (sizes_of f) k d at (names_of_body f d (pou_whole f names k d at)))

  pub body_typed : (runs : ℕ → Bool) → UsesItsBlocks f → IsOrdered f → (k : ℕ) (d : PouData) → pou_at f k ≡ Some d → is_marked (reached f) k ≡ true → IsTypedIn f runs k d
  body_typed runs used ordered k d at is = body_is_typed f runs used ordered k d at is (names_once f d (pou_whole f names k d at)) (pou_levelled f k d levels at).3 (sound k d at)
