-- What is known of a POU's variables, by their names.
use Rattle.std.proofs.Common.{◌≡◌, ◌-◌, ℕ, List, [], ◌∷◌, ◌++◌, map, Option, Some, None, option_map, refl, sym, ap, ◌∙◌}
use Rattle.std.specs.HashMap.{get_by_text}
use Rattle.std.specs.List.{slice_get}
use Rattle.std.specs.Option.{option_and_then}
use Rattle.std.proofs.lemmas.Option.{slice_get-map}
use Rattle.source_tree.specs.Syntax.{FileData}
use Rattle.pou_scope.specs.declared.pou_names.NamesOfPou.{NamesOfPou}
use Rattle.naming.specs.declared.slot.Slot.{Slot}
use Rattle.naming.specs.Circles.{block_used, blocks_used}
use Rattle.naming.specs.DeclarationUses.{numbers_in}
use Rattle.naming.specs.Scopes.{Variable, PouScope, seen, seen_named}
use Rattle.naming.specs.ScopeView.{seen_view}
use Rattle.naming.specs.Slots.{slot_among}
use Rattle.naming.proofs.UseLemmas.{variable_of, variable_named-found, slot_says, no_slot, none_known}
use Rattle.pou_scope.specs.AllSeen.{all_seen, blocks_seen}
use Rattle.pou_scope.specs.NamesView.{scope_named, seen_by}

pub seen_by_is : (f : FileData) (n : NamesOfPou) → map seen_view n.variables.items ≡ all_seen f (scope_named n) → (text : List ℕ) → seen_by n text ≡ seen_named f (scope_named n) text
seen_by_is f n is text =
    read (get_by_text n.slots text)
    ∙ ap (λ ss. option_and_then (λ s. slice_get ss (s.number - 1)) (get_by_text n.slots text)) is
    ∙ ap (option_and_then (λ s. slice_get (all_seen f p) (s.number - 1))) (n.held text)
    ∙ by (slot_among p.has_fault p.variables text) refl
  where
    p : PouScope
    p = scope_named n

    read : (o : Option Slot) → option_and_then (λ s. option_map seen_view (slice_get n.variables.items (s.number - 1))) o ≡ option_and_then (λ s. slice_get (map seen_view n.variables.items) (s.number - 1)) o
    read None = refl
    read (Some s) = sym (slice_get-map seen_view n.variables.items (s.number - 1))

    by : (o : Option Slot) → slot_among p.has_fault p.variables text ≡ o → option_and_then (λ s. slice_get (all_seen f p) (s.number - 1)) o ≡ seen_named f p text
    by None e = none_known (seen f p) text p.variables (sym (no_slot p.has_fault p.variables text e))
    by (Some s) e =
        let r = slot_says p.has_fault p.variables text s e in
        slice_get-map (seen f p) p.variables (s.number - 1) ∙ ap (option_map (seen f p)) r.1.at
        ∙ ap (option_map (seen f p)) (sym (variable_named-found text 1 p.variables ∙ ap (option_map variable_of) r.1.found))

pub same_blocks : (f : FileData) (p : PouScope) (vs : List Variable) → blocks_seen (map (seen f p) vs) ≡ blocks_used f p vs
same_blocks f p [] = refl
same_blocks f p (v ∷ vs) = ap (λ bs. numbers_in (block_used f p v) ++ bs) (same_blocks f p vs)
