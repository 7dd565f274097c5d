-- Lists of statements that may leave, part by part.
use mathlib.Core.Path.{fun_ext}
use Rattle.std.proofs.Common.{◌≡◌, ◌<◌, ℕ, zero, suc, ◌+◌, Bool, true, false, true≢false, List, [], ◌∷◌, ◌++◌, length, drop, get_or, refl, sym, ap, ◌∙◌, arith, append_assoc, length-append, Vec, Global}
use Rattle.std.specs.Prelude.{◌||◌, ◌&&◌}
use Rattle.program_tree.specs.declared.scratch.Scratch.{Scratch}
use Rattle.program_tree.specs.declared.typed.Turns.{Turns}
use Rattle.program_tree.specs.Leaving.{can_exit, can_exit_all, can_return, can_return_all}
use Rattle.program_tree.specs.Tree.{Statement, repeat, own_body, Statements, statement}
use Rattle.flat_core.specs.FlatTree.{FlatStatement, branch, no_flats}
use Rattle.flat_core.specs.declared.flat_tree.FlatArm.{FlatArm}
use Rattle.flat_core.specs.declared.flat_tree.FlatStmt.{FlatStmt, the_lemmas as flat_lemmas}
use Rattle.flat_core.specs.declared.flat_tree.FlatStmt.TheVariants as variants
use Rattle.flat_core.specs.FlatView.{flats_of, nested, flat_view, flat_arm_view, flats_view, flat_arms_view}
use Rattle.flat_form.specs.Bodies.{Bodies}
use Rattle.flat_form.specs.FlatCharts.{negated}
use Rattle.flat_form.specs.FlatLists.{scratch_of, scratch_of_all, repeated, unrolled, flat_of, flat_of_all}
use Rattle.flat_form.specs.Owners.{OwnerData}
use Rattle.flat_form.specs.Unless.{Flags, was_left, guarded, unless_left, flag_scratch, flag_start, turn_flags, body_flags}
use Rattle.fb_inline.specs.declared.leaving.Part.{Part}
use Rattle.fb_inline.specs.Leaving.{within, are_none}

-- what is put into the last part
pub within-last : (flags : Flags) (parts : List Part) (p : Part) (rest : List FlatStatement)
    → within flags (parts ++ p ∷ []) rest ≡ within flags parts (flats_view p.list.items ++ guarded (was_left p.left.exits p.left.returns flags) rest)
within-last flags [] p rest = refl
within-last flags (q ∷ parts) p rest = ap (λ (ts : List FlatStatement). flats_view q.list.items ++ guarded (was_left q.left.exits q.left.returns flags) ts) (within-last flags parts p rest)

-- one part less
pub within-popped : (flags : Flags) (parts left : List Part) (p : Part) (out rest later whole : List FlatStatement) → parts ≡ left ++ p ∷ [] → rest ≡ out
    → later ≡ flats_view p.list.items ++ guarded (was_left p.left.exits p.left.returns flags) rest → within flags parts out ≡ whole → within flags left later ≡ whole
within-popped flags parts left p out rest later whole is_parts is_rest is_later is_whole =
    ap (within flags left) (is_later ∙ ap (λ (ts : List FlatStatement). flats_view p.list.items ++ guarded (was_left p.left.exits p.left.returns flags) ts) is_rest)
    ∙ (sym (within-last flags left p out) ∙ (ap (λ (ps : List Part). within flags ps out) (sym is_parts) ∙ is_whole))

-- statements behind one that may leave, and behind one that may not
pub unless-guarded : (exits returns : Bool) (flags : Flags) (ts : List FlatStatement) → (exits || returns) ≡ true → unless_left exits returns flags ts ≡ guarded (was_left exits returns flags) ts
unless-guarded true returns flags ts h = refl
unless-guarded false true flags ts h = refl
unless-guarded false false flags ts h = absurd (true≢false (sym h))

pub unless-nothing : (exits returns : Bool) (flags : Flags) (ts : List FlatStatement) → (exits || returns) ≡ false → unless_left exits returns flags ts ≡ ts
unless-nothing true returns flags ts h = absurd (true≢false h)
unless-nothing false true flags ts h = absurd (true≢false h)
unless-nothing false false flags ts h = refl

-- no statements
pub none-append : (a b : List FlatStatement) → are_none (a ++ b) ≡ (are_none a && are_none b)
none-append [] b = refl
none-append (t ∷ a) b = refl

left-flats : (list : List FlatStmt) (i : ℕ) (d t : FlatStmt) → i < length list → get_or list i d ≡ t → flats_view (drop i list) ≡ flat_view t ++ flats_view (drop (i + 1) list)
left-flats [] i d t h is = absurd (omega (arith, h))
left-flats (x ∷ list) zero d t h is = ap (λ (y : FlatStmt). flat_view y ++ flats_view list) is
left-flats (x ∷ list) (suc i) d t h is = let more : suc i + 1 ≡ suc (i + 1) = omega arith in rw more (left-flats list i d t (omega (arith, h)) is)

-- one that is something
pub some-found : (list : List FlatStmt) (i : ℕ) (t : FlatStmt) (none : Bool) → i < length list → get_or list i t ≡ t → none ≡ are_none (flat_view t) → none ≡ false
    → are_none (flats_view (drop i list)) ≡ are_none (flats_view list) → false ≡ are_none (flats_view list)
some-found list i t none h is told some same =
    let here : are_none (flat_view t) ≡ false = sym told ∙ some in
    sym (ap (λ (b : Bool). b && are_none (flats_view (drop (i + 1) list))) here) ∙ (sym (none-append (flat_view t) (flats_view (drop (i + 1) list))) ∙ (ap are_none (sym (left-flats list i t t h is)) ∙ same))

-- one that is nothing
pub none-passed : (list : List FlatStmt) (i : ℕ) (t : FlatStmt) (none : Bool) → i < length list → get_or list i t ≡ t → none ≡ are_none (flat_view t) → none ≡ true
    → are_none (flats_view (drop i list)) ≡ are_none (flats_view list) → are_none (flats_view (drop (i + 1) list)) ≡ are_none (flats_view list)
none-passed list i t none h is told all same =
    let here : are_none (flat_view t) ≡ true = sym told ∙ all in
    sym (ap (λ (b : Bool). b && are_none (flats_view (drop (i + 1) list))) here) ∙ (sym (none-append (flat_view t) (flats_view (drop (i + 1) list))) ∙ (ap are_none (sym (left-flats list i t t h is)) ∙ same))

if-view : (arms : Vec FlatArm Global) (rest : Vec FlatStmt Global) → flat_view (variants.If arms rest) ≡ nested (flat_arms_view arms.items) (flats_view rest.items)
if-view arms rest = simp flat_lemmas

none-before : (before more : List FlatStatement) (t : FlatStatement) → are_none (before ++ t ∷ more) ≡ false
none-before [] more t = refl
none-before (x ∷ before) more t = refl

none-nested : (arms : List FlatArm) (rest : List FlatStatement) → 0 < length arms → are_none (nested (flat_arms_view arms) rest) ≡ false
none-nested [] rest h = absurd (omega (arith, h))
none-nested (a ∷ arms) rest h = none-before (flat_arm_view a).0 [] (branch (flat_arm_view a).1 (flats_of (flat_arm_view a).2) (flats_of (nested (flat_arms_view arms) rest)))

-- an `If`, which is nothing only without arms
pub none-without : (arms : Vec FlatArm Global) (rest : Vec FlatStmt Global) → length arms.items ≡ 0 → are_none (flat_view (variants.If arms rest)) ≡ are_none (flats_view rest.items)
none-without arms rest h = by arms.items refl
  where
    by : (list : List FlatArm) → arms.items ≡ list → are_none (flat_view (variants.If arms rest)) ≡ are_none (flats_view rest.items)
    by [] is = ap are_none (if-view arms rest ∙ ap (λ (list : List FlatArm). nested (flat_arms_view list) (flats_view rest.items)) is)
    by (a ∷ list) is = absurd (omega (arith, h, ap length is))

pub some-with : (arms : Vec FlatArm Global) (rest : Vec FlatStmt Global) → 0 < length arms.items → are_none (flat_view (variants.If arms rest)) ≡ false
some-with arms rest h = ap are_none (if-view arms rest) ∙ none-nested arms.items (flats_view rest.items) h

pub none-guarded : (exits returns : Bool) (flags : Flags) (ts : List FlatStatement) → are_none ts ≡ true → guarded (was_left exits returns flags) ts ≡ []
none-guarded exits returns flags [] h = refl
none-guarded exits returns flags (t ∷ ts) h = absurd (true≢false (sym h))

pub some-guarded : (exits returns : Bool) (flags : Flags) (ts : List FlatStatement) → are_none ts ≡ false → guarded (was_left exits returns flags) ts ≡ branch (negated (was_left exits returns flags)) (flats_of ts) no_flats ∷ []
some-guarded exits returns flags [] h = absurd (true≢false h)
some-guarded exits returns flags (t ∷ ts) h = refl

-- ---- one more statement of a list

module _ (bodies : Bodies) (owner : OwnerData) (base cells : ℕ) (flags : Flags) (t : Statement) (ts : Statements) (made made1 : List Scratch) (is_made : made1 ≡ made ++ scratch_of bodies t) where
  later-place : cells + length made1 ≡ cells + length made + length (scratch_of bodies t)
  later-place = omega (arith, ap length is_made, length-append made (scratch_of bodies t))

  -- its scratch cells
  pub scratch-listed : (left whole : List Scratch) → left ≡ scratch_of_all bodies (statement t ts) → made ++ left ≡ whole → made1 ++ scratch_of_all bodies ts ≡ whole
  scratch-listed left whole is_left is_whole =
      ap (λ (l : List Scratch). l ++ scratch_of_all bodies ts) is_made ∙ (append_assoc made (scratch_of bodies t) (scratch_of_all bodies ts) ∙ (ap (λ (l : List Scratch). made ++ l) (sym is_left) ∙ is_whole))

  -- which may not leave
  pub statement-listed : (exits returns : Bool) (parts : List Part) (out out1 : List FlatStatement) (left whole : List FlatStatement) → exits ≡ can_exit t → returns ≡ can_return t → (exits || returns) ≡ false
      → out1 ≡ out ++ flat_of bodies owner base flags t (cells + length made) → left ≡ flat_of_all bodies owner base flags (statement t ts) (cells + length made)
      → within flags parts (out ++ left) ≡ whole
      → within flags parts (out1 ++ flat_of_all bodies owner base flags ts (cells + length made1)) ≡ whole
  statement-listed exits returns parts out out1 left whole is_exits is_returns none is_out1 is_left is_whole =
      let rest = flat_of_all bodies owner base flags ts (cells + length made1) in
      let behind : unless_left (can_exit t) (can_return t) flags rest ≡ rest = rw (sym is_exits, sym is_returns) (unless-nothing exits returns flags rest none) in
      let here = flat_of bodies owner base flags t (cells + length made) in
      let all : out1 ++ rest ≡ out ++ left
      = ap (λ (l : List FlatStatement). l ++ rest) is_out1 ∙ (append_assoc out here rest ∙ (ap (λ (l : List FlatStatement). out ++ (here ++ l)) (sym behind)
      ∙ (ap (λ (j : ℕ). out ++ (here ++ unless_left (can_exit t) (can_return t) flags (flat_of_all bodies owner base flags ts j))) later-place ∙ ap (λ (l : List FlatStatement). out ++ l) (sym is_left)))) in
      ap (within flags parts) all ∙ is_whole

  -- which may leave
  pub part-listed : (parts more : List Part) (p : Part) (out out1 none : List FlatStatement) (left whole : List FlatStatement) → p.left.exits ≡ can_exit t → p.left.returns ≡ can_return t → (p.left.exits || p.left.returns) ≡ true
      → more ≡ parts ++ p ∷ [] → flats_view p.list.items ≡ out1 → none ≡ []
      → out1 ≡ out ++ flat_of bodies owner base flags t (cells + length made) → left ≡ flat_of_all bodies owner base flags (statement t ts) (cells + length made)
      → within flags parts (out ++ left) ≡ whole
      → within flags more (none ++ flat_of_all bodies owner base flags ts (cells + length made1)) ≡ whole
  part-listed parts more p out out1 none left whole is_exits is_returns some is_more is_p is_none is_out1 is_left is_whole =
      let rest = flat_of_all bodies owner base flags ts (cells + length made1) in
      let behind : guarded (was_left p.left.exits p.left.returns flags) rest ≡ unless_left (can_exit t) (can_return t) flags rest
      = rw (sym is_exits, sym is_returns) (sym (unless-guarded p.left.exits p.left.returns flags rest some)) in
      let here = flat_of bodies owner base flags t (cells + length made) in
      let all : flats_view p.list.items ++ guarded (was_left p.left.exits p.left.returns flags) rest ≡ out ++ left
      = ap (λ (l : List FlatStatement). l ++ guarded (was_left p.left.exits p.left.returns flags) rest) (is_p ∙ is_out1) ∙ (append_assoc out here (guarded (was_left p.left.exits p.left.returns flags) rest) ∙ (ap (λ (l : List FlatStatement). out ++ (here ++ l)) behind
      ∙ (ap (λ (j : ℕ). out ++ (here ++ unless_left (can_exit t) (can_return t) flags (flat_of_all bodies owner base flags ts j))) later-place ∙ ap (λ (l : List FlatStatement). out ++ l) (sym is_left)))) in
      ap (λ (l : List FlatStatement). within flags more (l ++ rest)) is_none ∙ (ap (λ (ps : List Part). within flags ps rest) is_more ∙ (within-last flags parts p rest ∙ (ap (within flags parts) all ∙ is_whole)))

-- ---- a FOR, and a body of its own

abbrev pub turning : Bodies → OwnerData → ℕ → Flags → Turns → Statements → ℕ → (List FlatStatement → List FlatStatement) → List FlatStatement
turning bodies owner base inner turns body k unless =
    unrolled unless turns.count (owner (base + turns.control)) turns.first turns.step (length (scratch_of_all bodies body)) (flat_of_all bodies owner base inner body) k

module _ (bodies : Bodies) (owner : OwnerData) (base cells : ℕ) (flags inner : Flags) (turns : Turns) (body : Statements) (exits returns : Bool) (made made1 : List Scratch) (out out1 out2 : List FlatStatement) where
  for-listed : exits ≡ can_exit_all body → returns ≡ can_return_all body → inner ≡ turn_flags exits flags (cells + length made) → made1 ≡ made ++ flag_scratch exits → out1 ≡ out ++ flag_start exits (cells + length made)
      → out2 ≡ out1 ++ turning bodies owner base inner turns body (cells + length made1) (unless_left exits returns inner) → out2 ≡ out ++ flat_of bodies owner base flags (repeat turns body) (cells + length made)
  for-listed is_exits is_returns is_inner is_made1 is_out1 is_out2 =
      let k1 : cells + length made1 ≡ cells + length made + length (flag_scratch exits) = omega (arith, ap length is_made1, length-append made (flag_scratch exits)) in
      rw (is_out2, is_out1, k1, is_inner, is_exits, is_returns) (append_assoc out (flag_start (can_exit_all body) (cells + length made)) _)

  pub for-guarded : exits ≡ can_exit_all body → returns ≡ can_return_all body → inner ≡ turn_flags exits flags (cells + length made) → made1 ≡ made ++ flag_scratch exits → out1 ≡ out ++ flag_start exits (cells + length made)
      → (exits || returns) ≡ true → out2 ≡ out1 ++ turning bodies owner base inner turns body (cells + length made1) (guarded (was_left exits returns inner)) → out2 ≡ out ++ flat_of bodies owner base flags (repeat turns body) (cells + length made)
  for-guarded is_exits is_returns is_inner is_made1 is_out1 some is_out2 =
      let same : guarded (was_left exits returns inner) ≡ unless_left exits returns inner = fun_ext (λ ts. sym (unless-guarded exits returns inner ts some)) in
      for-listed is_exits is_returns is_inner is_made1 is_out1 (is_out2 ∙ ap (λ (u : List FlatStatement → List FlatStatement). out1 ++ turning bodies owner base inner turns body (cells + length made1) u) same)

  pub for-plain : exits ≡ can_exit_all body → returns ≡ can_return_all body → inner ≡ turn_flags exits flags (cells + length made) → made1 ≡ made ++ flag_scratch exits → out1 ≡ out ++ flag_start exits (cells + length made)
      → (exits || returns) ≡ false → out2 ≡ out1 ++ turning bodies owner base inner turns body (cells + length made1) (unless_left false false inner) → out2 ≡ out ++ flat_of bodies owner base flags (repeat turns body) (cells + length made)
  for-plain is_exits is_returns is_inner is_made1 is_out1 none is_out2 =
      let same : unless_left false false inner ≡ unless_left exits returns inner = fun_ext (λ ts. sym (unless-nothing exits returns inner ts none)) in
      for-listed is_exits is_returns is_inner is_made1 is_out1 (is_out2 ∙ ap (λ (u : List FlatStatement → List FlatStatement). out1 ++ turning bodies owner base inner turns body (cells + length made1) u) same)

pub for-made : (bodies : Bodies) (turns : Turns) (body : Statements) (exits : Bool) (made made1 made2 : List Scratch) → exits ≡ can_exit_all body → made1 ≡ made ++ flag_scratch exits
    → made2 ≡ made1 ++ repeated turns.count (scratch_of_all bodies body) → made2 ≡ made ++ scratch_of bodies (repeat turns body)
for-made bodies turns body exits made made1 made2 is_exits is_made1 is_made2 = rw (is_made2, is_made1, is_exits) (append_assoc made (flag_scratch (can_exit_all body)) _)

module _ (bodies : Bodies) (body : Statements) (returns : Bool) (made made1 : List Scratch) (is_returns : returns ≡ can_return_all body) (is_made1 : made1 ≡ made ++ flag_scratch returns) where
  pub body-listed : (owner : OwnerData) (base cells : ℕ) (flags inner : Flags) (out out1 out2 : List FlatStatement) → inner ≡ body_flags returns flags (cells + length made) → out1 ≡ out ++ flag_start returns (cells + length made)
      → out2 ≡ out1 ++ flat_of_all bodies owner base inner body (cells + length made1) → out2 ≡ out ++ flat_of bodies owner base flags (own_body body) (cells + length made)
  body-listed owner base cells flags inner out out1 out2 is_inner is_out1 is_out2 =
      let k1 : cells + length made1 ≡ cells + length made + length (flag_scratch returns) = omega (arith, ap length is_made1, length-append made (flag_scratch returns)) in
      rw (is_out2, is_out1, k1, is_inner, is_returns) (append_assoc out (flag_start (can_return_all body) (cells + length made)) _)

  pub body-made : (made2 : List Scratch) → made2 ≡ made1 ++ scratch_of_all bodies body → made2 ≡ made ++ scratch_of bodies (own_body body)
  body-made made2 is_made2 = rw (is_made2, is_made1, is_returns) (append_assoc made (flag_scratch (can_return_all body)) _)
