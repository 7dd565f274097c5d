-- The control variables of a POU have cells of their own, whatever the sizes of blocks.
use Rattle.std.proofs.Common.{◌≡◌, ℕ, ◌==◌, List, [], ◌∷◌, Bool, true, false, ◌||◌, Option, Some, None, option_map, option_and_then, if◌then◌else◌, refl, sym, ap, ◌∙◌}
use Rattle.rules.specs.Judgements.{suppressed}
use Rattle.source_tree.specs.Syntax.{Named, PathData, PouData, FileData}
use Rattle.naming.specs.declared.standing.Standing.{Standing}
use Rattle.naming.specs.declared.standing.Standing.TheVariants as standings
use Rattle.naming.specs.FileScope.{pou_at, standing}
use Rattle.naming.specs.Scopes.{Variable, variables_in_pou, is_step, is_action, is_transition, variable_named, block_of, seen, scope_of as names_of}
use Rattle.naming.specs.Broken.{misused, in_parts, in_flag, in_named, in_variable, in_path}
use Rattle.typing.specs.declared.scope.Place.TheVariants as places
use Rattle.typing.specs.declared.member.Member.{Member}
use Rattle.typing.specs.Typing.{Reference, by_path, by_value}
use Rattle.typing.specs.Domains.{value_at}
use Rattle.typing.specs.Variables.{initial_of}
use Rattle.typing.specs.Places.{has_cell, size_among, cells_taken, first_places}
use Rattle.typing.specs.Members.{may_control, place_at, meaning_of, member_of, member_in, member_at, seen_from, in_instance, variable_or_value, named_in, scope_of}
use Rattle.typing.specs.JudgedStatements.{is_control}
use Rattle.alike_scopes.specs.bound_names.BoundNames.{is_bound, bound_uses}
use Rattle.alike_scopes.specs.AlikeScopes.{is_same_place, is_same_cell}
use Rattle.alike_scopes.proofs.bound_names.Roles.{control_role, step_no_control}
use Rattle.alike_scopes.proofs.bound_names.NameParts.{never, holds_by, fails_by}
use Rattle.alike_scopes.proofs.CellOrder.{position_named, cell_named, member_is, begins_ordered, cells_apart}
use Rattle.alike_scopes.proofs.AlikeControls.{AreApart}

value_no_control : (f : FileData) (s : Option Standing) → is_control (value_at f s) ≡ false
value_no_control f None = refl
value_no_control f (Some (standings.Type t)) = refl
value_no_control f (Some (standings.Value t k)) = refl
value_no_control f (Some (standings.Pou p)) = refl

seen_no_control : (c : ℕ) (o : Option Member) → is_control (option_map (seen_from c) o) ≡ false
seen_no_control c None = refl
seen_no_control c (Some m) = refl

instance_no_control : (f : FileData) (sizes : List ℕ) (c : ℕ) (n : Named) (o : Option ℕ) → is_control (in_instance f sizes c n o) ≡ false
instance_no_control f sizes c n None = refl
instance_no_control f sizes c n (Some b) = seen_no_control c (member_at f sizes b n.text)

module _ (f : FileData) (k : ℕ) (d : PouData) (at : pou_at f k ≡ Some d) where
  cell_at : List ℕ → List ℕ → ℕ
  cell_at sizes text = cell_named f sizes text (first_places f sizes d.pou_type (variables_in_pou d)) (variables_in_pou d)

  -- a variable of the POU that may control a FOR, by its name alone
  record IsOwn (r : Reference) : Type 0 where
    text : List ℕ
    variable : Variable
    named : variable_named text (variables_in_pou d) ≡ Some variable
    celled : has_cell variable.role ≡ true
    taken : (sizes : List ℕ) → cells_taken f sizes variable ≡ 1
    means : (sizes : List ℕ) → named_in f sizes k r ≡ Some (meaning_of f (cell_at sizes text) variable)

  found_by : (sizes text : List ℕ) (members : List Named) → variable_or_value f sizes text members (member_at f sizes k text) ≡ variable_or_value f sizes text members (option_map (member_of f (cell_at sizes text)) (variable_named text (variables_in_pou d)))
  unfolding cell_at
  found_by sizes text members =
      let vs = variables_in_pou d in
      ap (λ (o : Option PouData). variable_or_value f sizes text members (option_and_then (member_in f sizes text) o)) at
      ∙ ap (variable_or_value f sizes text members) (member_is f sizes text (first_places f sizes d.pou_type vs) vs)

  -- an instance alone is no value
  block_by : (v : Variable) (first : Named) (o : Option ℕ) → (in_parts f o (record { first = first; members = [] })).whole ≡ true → o ≡ None
  block_by v first None h = refl
  block_by v first (Some b) h = absurd (never false refl h)

  own_by : (sizes : List ℕ) (first : Named) (v : Variable) → variable_named first.text (variables_in_pou d) ≡ Some v → (in_variable f (seen f (names_of d) v) (record { first = first; members = [] })).whole ≡ true → may_control v.role ≡ true
      → (r : Reference) → ((z : List ℕ) → named_in f z k r ≡ Some (meaning_of f (cell_at z first.text) v)) → IsOwn r
  own_by sizes first v e h control r is =
      let s = seen f (names_of d) v in
      let q : PathData = record { first = first; members = [] } in
      let role = control_role v.role control in
      let named = (holds_by s.whole (in_named f s q) suppressed (never false refl) h).1 in
      let inner = (fails_by (is_step v.role) (in_flag first []) (if is_action v.role || is_transition v.role then misused first else in_parts f (block_of f v) q) (never false refl) named).1 in
      let parts = (fails_by (is_action v.role || is_transition v.role) (misused first) (in_parts f (block_of f v) q) (never false refl) inner).1 in
      let none = block_by v first (block_of f v) parts in
      record {
        text = first.text;
        variable = v;
        named = e;
        celled = role.0;
        taken = λ z. ap (λ (h : Bool). if h then (if is_step v.role then 2 else size_among z (block_of f v)) else 0) role.0
            ∙ ap (λ (h : Bool). if h then 2 else size_among z (block_of f v)) role.1
            ∙ ap (size_among z) none;
        means = is;
      }

  path_own : (sizes : List ℕ) (first : Named) (ns : List Named) (o : Option Variable) → variable_named first.text (variables_in_pou d) ≡ o
      → (in_path f (names_of d) (option_map (seen f (names_of d)) o) (record { first = first; members = ns })).whole ≡ true
      → is_control (variable_or_value f sizes first.text ns (option_map (member_of f (cell_at sizes first.text)) o)) ≡ true → IsOwn (by_path (record { first = first; members = ns }))
  path_own sizes first ns None e h control = absurd (never (is_control (value_at f (standing f first.text))) (value_no_control f (standing f first.text)) control)
  path_own sizes first [] (Some v) e h control =
      own_by sizes first v e h control (by_path (record { first = first; members = [] })) (λ z. found_by z first.text [] ∙ ap (λ (o : Option Variable). variable_or_value f z first.text [] (option_map (member_of f (cell_at z first.text)) o)) e)
  path_own sizes first (n ∷ ns) (Some v) e h control = absurd (by (is_step v.role) refl control)
    where
      by : (s : Bool) → is_step v.role ≡ s → is_control (if s then Some (meaning_of f (cell_at sizes first.text) v) else in_instance f sizes (cell_at sizes first.text) n (block_of f v)) ≡ true → ⊥
      by true step c = never (may_control v.role) (step_no_control v.role step) c
      by false step c = never (is_control (in_instance f sizes (cell_at sizes first.text) n (block_of f v))) (instance_no_control f sizes (cell_at sizes first.text) n (block_of f v)) c

  own : (sizes : List ℕ) (r : Reference) → is_bound f (names_of d) r ≡ true → is_control (named_in f sizes k r) ≡ true → IsOwn r
  own sizes (by_path q) h control =
      path_own sizes q.first q.members (variable_named q.first.text (variables_in_pou d)) refl h (ap is_control (sym (found_by sizes q.first.text q.members)) ∙ control)
  own sizes (by_value n) h control = absurd (never (is_control (value_at f (standing f n.text))) (value_no_control f (standing f n.text)) control)

  placed_by : (v w : Variable) (c e : ℕ) → has_cell v.role ≡ true → has_cell w.role ≡ true → is_same_place (place_at f c v) (place_at f e w) ≡ (c == e)
  placed_by v w c e hv hw =
      ap (λ (h : Bool). is_same_place (if h then places.Cell c else places.Value (initial_of f v)) (place_at f e w)) hv
      ∙ ap (λ (h : Bool). is_same_place (places.Cell c) (if h then places.Cell e else places.Value (initial_of f w))) hw

  same_position : (sizes : List ℕ) (r q : Reference) (x : IsOwn r) (y : IsOwn q) → is_same_cell (named_in f sizes k r) (named_in f sizes k q) ≡ (position_named x.text (variables_in_pou d) == position_named y.text (variables_in_pou d))
  unfolding cell_at
  same_position sizes r q x y =
      let vs = variables_in_pou d in
      let next = first_places f sizes d.pou_type vs in
      (λ i. is_same_cell (x.means sizes i) (y.means sizes i))
      ∙ placed_by x.variable y.variable (cell_named f sizes x.text next vs) (cell_named f sizes y.text next vs) x.celled y.celled
      ∙ cells_apart f sizes x.text y.text next vs x.variable y.variable (begins_ordered f sizes d.pou_type vs) x.named (x.taken sizes) y.named (y.taken sizes)

  pub controls_apart : (a b : List ℕ) → AreApart (bound_uses f (names_of d)) (scope_of f a k) (scope_of f b k)
  controls_apart a b r q bound_r bound_q control_r control_q =
      let x = own a r bound_r control_r in
      let y = own a q bound_q control_q in
      same_position a r q x y ∙ sym (same_position b r q x y)
