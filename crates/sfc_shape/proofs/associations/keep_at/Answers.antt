use Rattle.std.proofs.Common.{◌≡◌, ◌++◌, ◌∷◌, [], ℕ, List, Some, if◌then◌else◌, sym, subst, ◌∙◌}
use Rattle.std.specs.String.{string_bytes}
use Rattle.std.specs.Str.{bytes_eq}
use Rattle.indexmap.specs.IndexMap.{with_value_at}
use Rattle.sfc_shape.specs.ShapeView.{listed}
use Rattle.use_numbers.proofs.EntryLemmas.{text_of}
use Rattle.sfc_shape.proofs.EntrySteps.{kept_at}
use Rattle.sfc_shape.proofs.associations.keep_at.Goals as goal

pub returns : goal.returns
returns c = λ text.
    let m = c.args.associations.now in
    let i = c.args.number in
    let found = c.pair_mut-found in
    let key = found.result.0.now in
    let entry = found.ensures.value in
    let texts : Some (string_bytes key) ≡ Some c.args.name.now = sym (text_of m i key found.result.1.now entry) ∙ c.requires in
    let named : string_bytes key ≡ c.args.name.now = cc in
    subst (λ (bytes : List ℕ). listed (with_value_at m i c.push.new.self) text ≡ listed m text ++ (if bytes_eq bytes text then c.args.association ∷ [] else [])) named
    (kept_at m i key found.result.1.now found.ensures.unique entry c.push.new.self c.args.association c.in_ok-push.ensures.items text)
