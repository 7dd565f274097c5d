-- Names that are whole see of an instance nothing but its inputs and outputs, and call FUNCTIONs that the POU uses.
use Rattle.std.proofs.Common.{◌≡◌, ℕ, List, [], ◌∷◌, Bool, true, false, ◌||◌, Option, Some, None, option_map, if◌then◌else◌, refl, ap, ◌∙◌}
use Rattle.std.specs.Option.{unwrap_or}
use Rattle.call_order.specs.Uses.{uses_at, is_among}
use Rattle.rules.specs.Judgements.{ok, suppressed}
use Rattle.source_tree.specs.Syntax.{Named, PathData, PouData, FileData}
use Rattle.source_tree.specs.Levels.{IsFileLevelled}
use Rattle.naming.specs.declared.callee.Callee.TheVariants as callees
use Rattle.naming.specs.Library.{standard_function}
use Rattle.naming.specs.FileScope.{pou_at, standing}
use Rattle.naming.specs.Scopes.{Variable, variables_in_pou, is_seen, is_step, is_action, is_transition, variable_named, block_of, seen, seen_named, scope_of as names_of}
use Rattle.naming.specs.Broken.{misused, too_deep, member_by, in_member, in_parts, in_flag, in_named, in_path, callee_of, broken_names}
use Rattle.naming.specs.Circles.{calls_in_body, uses_of}
use Rattle.whole_files.proofs.st_names.Clean.{parts, no_doubles}
use Rattle.typing.specs.Typing.{Reference, by_path, by_value}
use Rattle.typing.specs.Places.{variables_in}
use Rattle.typing.specs.Members.{function_number}
use Rattle.whole_files.specs.bound_names.BoundNames.{is_bound, IsBodyWithin}
use Rattle.whole_files.proofs.bound_names.NameParts.{never, holds_by, fails_by}
use Rattle.whole_files.proofs.bound_names.Within.{body_within}
use Rattle.whole_files.proofs.st_names.WholeNames.{pou_whole}
use Rattle.whole_files.proofs.bound_names.UsedBlocks.{uses-pou, call_in}
use Rattle.whole_files.proofs.Formed.{pou_levelled}
use Rattle.whole_files.proofs.bound_names.CalledFunctions.{function_is, function_of}
use Rattle.whole_files.proofs.bound_names.Roles.{step_only, no_block}
use Rattle.whole_files.proofs.WholeBodies.{names_of_body}
use Rattle.typed_cells.specs.Uses.{is_seen_variable, is_seen_member, are_seen_behind, is_seen_by, is_called_by, uses_of_pou}

-- ---- members of instances

seen_by : (f : FileData) (n : Named) (x : PouData) (o : Option Variable) → (member_by (option_map (seen f (names_of x)) o) n).whole ≡ true → is_seen_variable o ≡ true
seen_by f n x None h = refl
seen_by f n x (Some w) h =
    let s = seen f (names_of x) w in
    let two = holds_by s.whole (if is_seen w.role then ok else misused n) suppressed (never false refl) h in
    (holds_by (is_seen w.role) ok (misused n) (never false refl) two.1).0

member_by_pou : (f : FileData) (n : Named) (o : Option PouData) → (unwrap_or (option_map (λ p. member_by (seen_named f (names_of p) n.text) n) o) suppressed).whole ≡ true → is_seen_variable (variable_named n.text (variables_in o)) ≡ true
member_by_pou f n None h = refl
member_by_pou f n (Some x) h = seen_by f n x (variable_named n.text (variables_in_pou x)) h

members_by : (w : Bool) (f : FileData) (b : ℕ) (n : Named) (ns : List Named) → (in_member f b n).whole ≡ w → (if w then too_deep ns else in_member f b n).whole ≡ true → (in_member f b n).whole ≡ true
members_by true f b n ns e h = e
members_by false f b n ns e h = h

parts_by : (f : FileData) (first n : Named) (ns : List Named) (o : Option ℕ) → (in_parts f o (record { first = first; members = n ∷ ns })).whole ≡ true → is_seen_member f n o ≡ true
parts_by f first n ns None h = refl
parts_by f first n ns (Some b) h = member_by_pou f n (pou_at f b) (members_by (in_member f b n).whole f b n ns refl h)

named_by : (f : FileData) (v : Variable) (first n : Named) (ns : List Named) (s : Bool) → is_step v.role ≡ s
    → (if s then in_flag first (n ∷ ns) else (if is_action v.role || is_transition v.role then misused first else in_parts f (block_of f v) (record { first = first; members = n ∷ ns }))).whole ≡ true
    → is_seen_member f n (block_of f v) ≡ true
named_by f v first n ns true e h = ap (is_seen_member f n) (no_block f v (step_only v.role e))
named_by f v first n ns false e h =
    let q : PathData = record { first = first; members = n ∷ ns } in
    parts_by f first n ns (block_of f v) (fails_by (is_action v.role || is_transition v.role) (misused first) (in_parts f (block_of f v) q) (never false refl) h).1

path_by : (f : FileData) (d : PouData) (first : Named) (ns : List Named) (o : Option Variable) → (in_path f (names_of d) (option_map (seen f (names_of d)) o) (record { first = first; members = ns })).whole ≡ true → are_seen_behind f ns o ≡ true
path_by f d first ns None h = refl
path_by f d first [] (Some v) h = refl
path_by f d first (n ∷ ns) (Some v) h =
    let s = seen f (names_of d) v in
    let q : PathData = record { first = first; members = n ∷ ns } in
    named_by f v first n ns (is_step v.role) refl (holds_by s.whole (in_named f s q) suppressed (never false refl) h).1

-- ---- calls

module _ (f : FileData) (k : ℕ) (d : PouData) (at : pou_at f k ≡ Some d) where
  names_seen : (r : Reference) → is_bound f (names_of d) r ≡ true → is_seen_by f k r ≡ true
  names_seen (by_path q) h =
      ap (λ (o : Option PouData). are_seen_behind f q.members (variable_named q.first.text (variables_in o))) at ∙ path_by f d q.first q.members (variable_named q.first.text (variables_in_pou d)) h
  names_seen (by_value n) h = refl

  functions_called : (text : List ℕ) (number : ℕ) → standard_function text ≡ None → callee_of f text ≡ callees.Function number → is_among number (uses_at (uses_of f) k) ≡ true → is_called_by f k (function_number f (standing f text)) ≡ true
  functions_called text number standard is among = ap (is_called_by f k) (function_is f text number (function_of f text number is)) ∙ among

  calls_used : (u : ℕ) → is_among u (calls_in_body f d.body) ≡ true → is_among u (uses_at (uses_of f) k) ≡ true
  calls_used u m = ap (is_among u) (uses-pou f k d at) ∙ call_in f d u m

pub body_used : (f : FileData) → broken_names f ≡ [] → IsFileLevelled f → (k : ℕ) (d : PouData) → pou_at f k ≡ Some d → IsBodyWithin (uses_of_pou f k) d.body
body_used f none levels k d at =
    body_within f (no_doubles f (parts f none).1) (names_of d) (uses_of_pou f k) (λ u. is_among u (uses_at (uses_of f) k) ≡ true) (names_seen f k d at) (functions_called f k d at) d.body (pou_levelled f k d levels at).4
    (names_of_body f d (pou_whole f none k d at)) (calls_used f k d at)
