use Rattle.std.proofs.Common.{◌≡◌, ◌<◌, Some, length, get_or, refl, ap, sym, ◌∙◌, arith}
use Rattle.source_tree.specs.Syntax.{PouData, types, pou}
use Rattle.source_tree.specs.SyntaxView.{item_view, type_declarations_view, pou_view, file_view}
use Rattle.file_bindings.proofs.BindingLemmas.{reads_pou}
use Rattle.file_bindings.proofs.bound.Resolved.pou.Goals as goal

pub bounds-places-number : goal.bounds-places-number
bounds-places-number c =
    let r = reads_pou (file_view c.args.self.now.file.now) c.args.self.now.file.now.items.items c.args.self.now.bindings.places.items c.args.number refl c.args.self.now.bound.places c.requires in
    let below = r.listed in
    omega (arith, ap length c.as_slice-places.ensures.value)

pub offset_bounds-places-number : goal.offset_bounds-places-number
offset_bounds-places-number c =
    let r = reads_pou (file_view c.args.self.now.file.now) c.args.self.now.file.now.items.items c.args.self.now.bindings.places.items c.args.number refl c.args.self.now.bound.places c.requires in
    let below = r.listed in
    omega (arith, ap length c.as_slice-places.ensures.value)

pub bounds-items-places : goal.bounds-items-places
bounds-items-places c =
    let r = reads_pou (file_view c.args.self.now.file.now) c.args.self.now.file.now.items.items c.args.self.now.bindings.places.items c.args.number refl c.args.self.now.bound.places c.requires in
    rw (c.as_slice-places.ensures.value, c.as_slice-items.ensures.value) r.within

pub offset_bounds-items-places : goal.offset_bounds-items-places
offset_bounds-items-places c =
    let r = reads_pou (file_view c.args.self.now.file.now) c.args.self.now.file.now.items.items c.args.self.now.bindings.places.items c.args.number refl c.args.self.now.bound.places c.requires in
    let below : get_or c.as_slice-places.result.now c.args.number 0 < length c.as_slice-items.result.now = rw (c.as_slice-places.ensures.value, c.as_slice-items.ensures.value) r.within in
    omega arith

pub unreachable-requires : goal.unreachable-requires
unreachable-requires c =
    let r = reads_pou (file_view c.args.self.now.file.now) c.args.self.now.file.now.items.items c.args.self.now.bindings.places.items c.args.number refl c.args.self.now.bound.places c.requires in
    let at = rw (c.as_slice-places.ensures.value, c.as_slice-items.ensures.value) at c.index-items-places.is in
    let is = r.is c.index-items-places.result at in
    let e : types (type_declarations_view c.in-Types.field-0.items) ≡ pou r.pou = ap item_view (sym c.in-Types.is) ∙ is in
    let n : ⊥ = cc in n

pub returns : goal.returns
returns c =
    let r = reads_pou (file_view c.args.self.now.file.now) c.args.self.now.file.now.items.items c.args.self.now.bindings.places.items c.args.number refl c.args.self.now.bound.places c.requires in
    let at = rw (c.as_slice-places.ensures.value, c.as_slice-items.ensures.value) at c.index-items-places.is in
    let is = r.is c.index-items-places.result at in
    let e : pou (pou_view c.in-Pou.pou) ≡ pou r.pou = ap item_view (sym c.in-Pou.is) ∙ is in
    let same : pou_view c.in-Pou.pou ≡ r.pou = cc in
    r.at ∙ ap (λ (p : PouData). Some p) (sym same)
