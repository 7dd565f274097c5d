-- Lines that are written one after another, and what an error leaves.
use Rattle.std.proofs.Common.{◌≡◌, ℕ, ◌+◌, ◌-◌, ◌^◌, ◌<◌, ◌≤◌, List, [], ◌∷◌, ◌++◌, length, take, drop, map, get_or, suc, refl, sym, ap, ◌∙◌, subst, arith, inl, inr, length-append}
use Rattle.std.specs.Prelude.{Option, Some, None, Result, Ok, Err, IfSome, OnOk, OnErr, min}
use Rattle.std.specs.Result.{IsErrAnd}
use Rattle.std.proofs.Math.Seq.{drop-cons}
use Rattle.outside.specs.Causes.{Rose, NoneFell}
use Rattle.outside.specs.Contents.{extended, OthersStay}
use Rattle.clause_core.specs.Formula.{Formula}
use Rattle.finding_lines.specs.declared.line.Line.{Line}
use Rattle.finding_lines.specs.Form.{Fits, IsLine}
use Rattle.finding_lines.specs.Spelling.{written}
use Rattle.finding_file.specs.Causes.{IsCausedBy}
use Rattle.finding_file.specs.Writing.{Writing, all_written}
use Rattle.finding_file.specs.declared.errors.WriteErr.{WriteErr}
use Rattle.finding_file.specs.declared.errors.WriteErr.TheVariants.{Fault, Memory, M8}
use Rattle.finding_file.proofs.WritingLemmas.{all_written-append}
use Rattle.derivation_check.specs.Checks.{Derivation}
use Rattle.queries.specs.Settings.{Setting, first_set}
use Rattle.queries.specs.Questions.{QueryData}
use Rattle.judgement.specs.Places.{Place, at_drops, in_walk}
use Rattle.judgement.specs.Findings.{Leads, on}
use Rattle.judgement.specs.declared.answers.Reach.TheVariants.{AtLeast}
use Rattle.finding_search.specs.Desks.{Desk, finding}
use Rattle.finding_search.specs.Passing.{Passes, Runs, IsPartOfFinding}
use Rattle.finding_search.specs.Writes.{StandsAt, StopsAt, Writes}
use Rattle.finding_search.proofs.Alike.{passes_alike, in_walk_alike}

length-all_written : (lines : List Line) (line : Line) → length (all_written (lines ++ line ∷ [])) ≡ length (all_written lines) + length (written line)
length-all_written lines line = ap length (all_written-append lines line) ∙ length-append (all_written lines) (written line)

-- a count that rose from a later value rose from an earlier one
Rose-before : (first before after : ℕ) → first ≤ before → Rose before after → Rose first after
Rose-before first before after le rose = capped (2 ^ 64 - 1) rose where
  capped : (most : ℕ) → min (before + 1) most ≤ after → min (first + 1) most ≤ after
  capped most h = omega (arith, le, h)

IfSome-map : {A : Type 0} {P Q : A → Type 0} → (o : Option A) → ((x : A) → P x → Q x) → IfSome o P → IfSome o Q
IfSome-map None h p = tt
IfSome-map (Some x) h p = h x p

-- what is told of a file that was extended
told-extended : (P Q : List ℕ → Type 0) (old new : Option (List ℕ)) (more : List ℕ) → new ≡ extended old more → ((bytes : List ℕ) → P bytes → Q (bytes ++ more))
    → IfSome old P → IfSome new Q
told-extended P Q None new more e h p = subst (λ o. IfSome o Q) (sym e) tt
told-extended P Q (Some bytes) new more e h p = subst (λ o. IfSome o Q) (sym e) (h bytes p)

module _ (s : Setting) (formula : QueryData → Formula) where
  module _ (old new : Desk) (from to : Place) (line : Line) (form : IsLine line) (passes : Passes s formula from line to) (named : new.writer.name ≡ old.writer.name)
      (limited : new.writer.limit ≡ old.writer.limit) where
    same_finding : finding new ≡ new.shelf.file old.writer.name
    same_finding = ap (λ name. new.shelf.file name) named

    line_ok : new.shelf.file old.writer.name ≡ extended (finding old) (written line) → new.writer.size ≡ old.writer.size + length (written line)
        → old.writer.size + length (written line) ≤ old.writer.limit → StandsAt s formula old from → StandsAt s formula new to
    line_ok all sized within st = record {
      all = st.all ++ line ∷ [];
      there = to;
      leads = on st.all line st.there to st.leads form (passes_alike s formula st.there from line to st.alike passes).moves;
      alike = inl refl;
      told = told-extended (λ bytes. bytes ≡ all_written st.all) (λ bytes. bytes ≡ all_written (st.all ++ line ∷ [])) (finding old) (finding new) (written line) (same_finding ∙ all)
          (λ bytes e. ap (λ b. b ++ written line) e ∙ sym (all_written-append st.all line)) st.told;
      counted = omega (arith, sized, st.counted, length-all_written st.all line);
      within = omega (arith, within, st.counted, length-all_written st.all line, limited);
    }

    line_err : (error : WriteErr) → (count : ℕ) → new.shelf.file old.writer.name ≡ extended (finding old) (take count (written line))
        → (error ≡ M8 → (old.writer.limit < old.writer.size + length (written line)) × (new.shelf.file ≡ old.shelf.file)) → StandsAt s formula old from → StopsAt s formula new error
    line_err error count part past st = record {
      part = told-extended (λ bytes. bytes ≡ all_written st.all) (IsPartOfFinding s formula) (finding old) (finding new) (take count (written line)) (same_finding ∙ part)
          (λ bytes e. inr (st.all, st.there, st.leads, line, to, form, (passes_alike s formula st.there from line to st.alike passes).moves, count, ap (λ b. b ++ take count (written line)) e)) st.told;
      past = λ is. (
        st.all,
        st.there,
        st.leads,
        subst (λ o. IfSome o (λ bytes. bytes ≡ all_written st.all)) (sym (same_finding ∙ ap (λ files. files old.writer.name) (past is).1)) st.told,
        line,
        to,
        form,
        passes_alike s formula st.there from line to st.alike passes,
        (let long = (past is).0 in omega (arith, long, st.counted, limited)),
      );
    }

  -- one line
  pub Writes-line : {T : Type 0} (old new : Desk) (from to : Place) (line : Line) (result : Result T WriteErr) → Fits line → Passes s formula from line to
      → OnOk result (new.shelf.file old.writer.name ≡ extended (finding old) (written line))
      → OnErr result ((count : ℕ) × (new.shelf.file old.writer.name ≡ extended (finding old) (take count (written line))))
      → OthersStay old.shelf.file new.shelf.file old.writer.name
      → OnOk result (new.writer ≡ record old.writer { size = old.writer.size + length (written line) }) → OnErr result (new.writer ≡ old.writer)
      → OnOk result (old.writer.size + length (written line) ≤ old.writer.limit) → (result ≡ Err M8 → old.writer.limit < old.writer.size + length (written line))
      → (result ≡ Err M8 → new.shelf.file ≡ old.shelf.file) → IsCausedBy Fault old.shelf.write_faults new.shelf.write_faults old.writer.name result → NoneFell old.shelf.read_faults new.shelf.read_faults
      → Writes s formula old from new (λ (_ : T). to) result
  Writes-line old new from to line (Ok x) fits passes all part others counted stays within past untouched cause reads =
      let named : new.writer.name ≡ old.writer.name = ap (λ (w : Writing). w.name) counted in
      let limited : new.writer.limit ≡ old.writer.limit = ap (λ (w : Writing). w.limit) counted in
      record {
        stands = line_ok old new from to line (record { fits = fits; form = passes.form }) passes named limited all (ap (λ (w : Writing). w.size) counted) within;
        name = named;
        limit = limited;
        others = others;
        cause = cause;
        reads = reads;
      }
  Writes-line old new from to line (Err e) fits passes all part others counted stays within past untouched cause reads =
      let named : new.writer.name ≡ old.writer.name = ap (λ (w : Writing). w.name) stays in
      let limited : new.writer.limit ≡ old.writer.limit = ap (λ (w : Writing). w.limit) stays in
      record {
        stands = line_err old new from to line (record { fits = fits; form = passes.form }) passes named limited e part.0 part.1 (λ is. (past (ap Err is), untouched (ap Err is)));
        name = named;
        limit = limited;
        others = others;
        cause = cause;
        reads = reads;
      }

  -- one call behind another
  pub Writes-then : {A B : Type 0} (old mid new : Desk) (from : Place) (at : A → Place) (to : B → Place) (x : A) (result : Result B WriteErr)
      → Writes s formula old from mid at (Ok x) → Writes s formula mid (at x) new to result → Writes s formula old from new to result
  Writes-then old mid new from at to x result first second = record {
    stands = λ st. second.stands (first.stands st);
    name = second.name ∙ first.name;
    limit = second.limit ∙ first.limit;
    others = λ other ne. second.others other (λ e. ne (e ∙ first.name)) ∙ first.others other ne;
    cause = record {
      later = λ name. let one = first.cause.later name in let two = second.cause.later name in omega (arith, one, two);
      failed = λ e. Rose-before _ _ _ (first.cause.later old.writer.name) (subst (λ name. Rose (mid.shelf.write_faults name) (new.shelf.write_faults name)) first.name (second.cause.failed e));
    };
    reads = λ name. let one = first.reads name in let two = second.reads name in omega (arith, one, two);
  }

  -- an error is handed on
  pub Writes-stop : {A B : Type 0} (old new : Desk) (from : Place) (at : A → Place) (to : B → Place) (error : WriteErr) → Writes s formula old from new at (Err error)
      → Writes s formula old from new to (Err error)
  Writes-stop {A = A} old new from at to error w = record {
    stands = w.stands;
    name = w.name;
    limit = w.limit;
    others = w.others;
    cause = record {
      later = w.cause.later;
      failed = λ e. let same : error ≡ Fault = cc in w.cause.failed (ap (λ (x : WriteErr). let r : Result A WriteErr = Err x in r) same);
    };
    reads = w.reads;
  }

  -- behind the log that spends the query for allowed rows candidates are dropped
  pub Writes-spent : {A B : Type 0} (old new : Desk) (from : Place) (rows : ℕ) (d : Derivation) (x : A) (to : B → Place) (y : B) → to y ≡ at_drops (AtLeast rows) (first_set s)
      → Writes s formula old from new (λ (_ : A). in_walk rows d 0) (Ok x) → Writes s formula old from new to (Ok y)
  Writes-spent old new from rows d x to y same w = record {
    stands = λ st. let now = w.stands st in record {
      all = now.all;
      there = in_walk rows d 0;
      leads = subst (λ (place : Place). Leads s formula now.all place) (in_walk_alike s now.there rows d now.alike) now.leads;
      alike = inr (rows, d, refl, same);
      told = now.told;
      counted = now.counted;
      within = now.within;
    };
    name = w.name;
    limit = w.limit;
    others = w.others;
    cause = record { later = w.cause.later; failed = λ e. absurd cc };
    reads = w.reads;
  }

  -- nothing is written
  pub Writes-nothing : {A : Type 0} (d : Desk) (at : A → Place) (x : A) → Writes s formula d (at x) d at (Ok x)
  Writes-nothing d at x = record {
    stands = λ st. st;
    name = refl;
    limit = refl;
    others = λ other ne. refl;
    cause = record { later = λ name. omega arith; failed = λ e. absurd cc };
    reads = λ name. omega arith;
  }

  -- memory wants before anything is written
  pub Writes-memory : {B : Type 0} (d : Desk) (from : Place) (to : B → Place) → Writes s formula d from d to (Err Memory)
  Writes-memory d from to = record {
    stands = λ st. record { part = IfSome-map (finding d) (λ bytes e. inl (st.all, st.there, st.leads, e)) st.told; past = λ e. absurd cc };
    name = refl;
    limit = refl;
    others = λ other ne. refl;
    cause = record { later = λ name. omega arith; failed = λ e. absurd cc };
    reads = λ name. omega arith;
  }

  -- the exit at an error
  pub Writes-exit : {A B : Type 0} (old new : Desk) (from : Place) (at : A → Place) (to : B → Place) (error : WriteErr) (result : Result B WriteErr) → IsErrAnd result (λ y. y ≡ error)
      → Writes s formula old from new at (Err error) → Writes s formula old from new to result
  Writes-exit old new from at to error (Ok x) e w = absurd e
  Writes-exit {B = B} old new from at to error (Err y) e w =
      subst (λ (z : WriteErr). let r : Result B WriteErr = Err z in Writes s formula old from new to r) (sym e) (Writes-stop old new from at to error w)

  -- the exit where memory wants after some lines
  pub Writes-short : {A B : Type 0} (old new : Desk) (from : Place) (at : A → Place) (x : A) (to : B → Place) (result : Result B WriteErr) → IsErrAnd result (λ y. y ≡ Memory)
      → Writes s formula old from new at (Ok x) → Writes s formula old from new to result
  Writes-short old new from at x to (Ok y) e w = absurd e
  Writes-short {B = B} old new from at x to (Err y) e w =
      subst (λ (z : WriteErr). let r : Result B WriteErr = Err z in Writes s formula old from new to r) (sym e)
      (Writes-then old new new from at to x (Err Memory) w (Writes-memory new (at x) to))

  -- before any line
  pub Writes-wanting : {B : Type 0} (d : Desk) (from : Place) (to : B → Place) (result : Result B WriteErr) → IsErrAnd result (λ y. y ≡ Memory) → Writes s formula d from d to result
  Writes-wanting d from to result e = Writes-short d d from (λ (x : Unit {0}). from) tt to result e (Writes-nothing d (λ (x : Unit {0}). from) tt)

  -- another answer for the same place
  pub Writes-answer : {A B : Type 0} (old new : Desk) (from : Place) (at : A → Place) (x : A) (to : B → Place) (y : B) → to y ≡ at x
      → Writes s formula old from new at (Ok x) → Writes s formula old from new to (Ok y)
  Writes-answer {B = B} old new from at x to y same w =
      Writes-then old new new from at to x (Ok y) w
      (subst (λ (place : Place). let r : Result B WriteErr = Ok y in Writes s formula new place new to r) same (Writes-nothing new to y))

  -- the next of some lines
  pub next_of : {A : Type 0} (f : A → Line) (xs : List A) (i : ℕ) (x : A) (line : Line) (at to : Place) → i < length xs → x ≡ get_or xs i x → line ≡ f x
      → Runs s formula at (map f (drop i xs)) to → (between : Place) × Passes s formula at line between × Runs s formula between (map f (drop (i + 1) xs)) to
  next_of f xs i x line at to lt is same runs =
      let cut : drop i xs ≡ x ∷ drop (suc i) xs = drop-cons xs i x lt ∙ ap (λ y. y ∷ drop (suc i) xs) (sym is) in
      let r = subst (λ ys. Runs s formula at (map f ys) to) cut runs in
      (r.0, subst (λ l. Passes s formula at l r.0) (sym same) r.1, subst (λ n. Runs s formula r.0 (map f (drop n xs)) to) (let e : suc i ≡ i + 1 = omega arith in e) r.2)
