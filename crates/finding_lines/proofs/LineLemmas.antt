-- A line has one spelling.
use Rattle.std.proofs.Common.{◌≡◌, ◌≢◌, ℕ, ℤ, List, [], ◌∷◌, ◌++◌, Option, Some, None, get_or, length, arith, refl, ap, sym, ◌∙◌}
use Rattle.std.specs.Prelude.{codes}
use Rattle.std.proofs.lemmas.List.{append-nil, append_cancel_left}
use Rattle.std.proofs.lemmas.List.Elements.{All-head, All-tail}
use Rattle.finding_lines.specs.declared.line.Asked.{Asked}
use Rattle.finding_lines.specs.declared.line.Conclusion.{Conclusion}
use Rattle.finding_lines.specs.declared.line.Conclusion.TheVariants.{Vacuous, Related, Different, Open, Spent}
use Rattle.finding_lines.specs.declared.line.Version.TheVariants.{One, Two}
use Rattle.finding_lines.specs.declared.line.Version.{Version}
use Rattle.finding_lines.specs.declared.line.Line.{Line}
use Rattle.finding_lines.specs.declared.line.Line.TheVariants.{Header, Seen, Walk, Dropping, Pair, Scan, Log, Query, Derived, Deleted, End}
use Rattle.finding_lines.specs.Numbers.{IsNumber, AreNumbers}
use Rattle.finding_lines.specs.Form.{AskedFits, ConclusionFits, IsLine}
use Rattle.finding_lines.specs.Spelling.{spaced, spaced_all, asked, concluded, ended, derived, spelled}
use Rattle.finding_lines.specs.Reading.{ReadsLine}
use Rattle.finding_lines.proofs.SpellingLemmas.{spaced-split, spaced-alone, Opens-spaced_all, asked-alone, asked-split}
use Rattle.finding_lines.proofs.RowLemmas.{Opens-ended, ended-split, literals-nonzero, hints-nonzero, ids-nonzero}

numbers-one : (ms ns : List ℤ) → AreNumbers ms → AreNumbers ns → spaced_all ms ≡ spaced_all ns → ms ≡ ns
numbers-one [] [] gm gn e = refl
numbers-one [] (n ∷ ns) gm gn e = absurd (omega (arith, ap length e))
numbers-one (m ∷ ms) [] gm gn e = absurd (omega (arith, ap length e))
numbers-one (m ∷ ms) (n ∷ ns) gm gn e =
    let parts = spaced-split m n (spaced_all ms) (spaced_all ns) (All-head IsNumber m ms gm) (All-head IsNumber n ns gn) (Opens-spaced_all ms) (Opens-spaced_all ns) e in
    let first : m ≡ n = parts.0 in
    let others : ms ≡ ns = numbers-one ms ns (All-tail IsNumber m ms gm) (All-tail IsNumber n ns gn) parts.1 in
    cc

asked-one : (p q : Asked) → AskedFits p → AskedFits q → asked p ≡ asked q → p ≡ q
asked-one p q fp fq e = (asked-alone p q [] fp fq tt (append-nil (asked p) ∙ e)).0

number-one : (m n : ℤ) → IsNumber m → IsNumber n → spaced m ≡ spaced n → m ≡ n
number-one m n fm fn e = (spaced-alone m n [] fm fn tt (append-nil (spaced m) ∙ e)).0

pub concluded-one : (v w : Conclusion) → ConclusionFits v → ConclusionFits w → concluded v ≡ concluded w → v ≡ w
concluded-one Vacuous Vacuous fv fw e = refl
concluded-one (Related k c) (Related l d) fv fw e =
    let tails : spaced k ++ (codes " of" ++ spaced c) ≡ spaced l ++ (codes " of" ++ spaced d) = cc in
    let parts = spaced-split k l (codes " of" ++ spaced c) (codes " of" ++ spaced d) fv.0 fw.0 refl refl tails in
    let one : k ≡ l = parts.0 in
    let two : c ≡ d = number-one c d fv.1 fw.1 (append_cancel_left (codes " of") (spaced c) (spaced d) parts.1) in
    cc
concluded-one (Different m) (Different n) fv fw e =
    ap Different (number-one m n fv fw (append_cancel_left (codes " DIFFERENT scans") (spaced m) (spaced n) e))
concluded-one (Open k c n) (Open l d m) fv fw e =
    let tails : spaced k ++ (codes " of" ++ (spaced c ++ (codes " depth" ++ spaced n))) ≡ spaced l ++ (codes " of" ++ (spaced d ++ (codes " depth" ++ spaced m))) = cc in
    let parts = spaced-split k l (codes " of" ++ (spaced c ++ (codes " depth" ++ spaced n))) (codes " of" ++ (spaced d ++ (codes " depth" ++ spaced m))) fv.0 fw.0 refl refl tails in
    let more = spaced-split c d (codes " depth" ++ spaced n) (codes " depth" ++ spaced m) fv.1 fw.1 refl refl (append_cancel_left (codes " of") (spaced c ++ (codes " depth" ++ spaced n)) (spaced d ++ (codes " depth" ++ spaced m)) parts.1) in
    let one : k ≡ l = parts.0 in
    let two : c ≡ d = more.0 in
    let three : n ≡ m = number-one n m fv.2 fw.2 (append_cancel_left (codes " depth") (spaced n) (spaced m) more.1) in
    cc
concluded-one (Spent p m) (Spent q n) fv fw e =
    let tails = append_cancel_left (codes " SPENT query") (asked p ++ (codes " conflicts" ++ spaced m)) (asked q ++ (codes " conflicts" ++ spaced n)) e in
    let parts = asked-split p q (codes " conflicts" ++ spaced m) (codes " conflicts" ++ spaced n) fv.0 fw.0 refl refl tails in
    let one : p ≡ q = parts.0 in
    let two : m ≡ n = number-one m n fv.1 fw.1 (append_cancel_left (codes " conflicts") (spaced m) (spaced n) parts.1) in
    cc
concluded-one v w fv fw e = let letters = ap (λ (s : List ℕ). get_or s 1 0) e in absurd (omega (arith, letters))

derived-first : (ls hs : List ℤ) → (t : List ℕ) × (derived ls hs ≡ 32 ∷ t)
derived-first [] hs = (_, refl)
derived-first (l ∷ ls) hs = (_, refl)

derived-one : (ls ks hs gs : List ℤ) → IsLine (Derived ls hs) → IsLine (Derived ks gs) → derived ls hs ≡ derived ks gs → (ls ≡ ks) × (hs ≡ gs)
derived-one ls ks hs gs good also e =
    let parts = ended-split ls ks (ended hs) (ended gs) (literals-nonzero ls good.fits.0 good.form.0) (literals-nonzero ks also.fits.0 also.form.0) (Opens-ended hs) (Opens-ended gs) e in
    let more = ended-split hs gs [] [] (hints-nonzero hs good.fits.1 good.form.1) (hints-nonzero gs also.fits.1 also.form.1) tt tt (append-nil (ended hs) ∙ parts.1 ∙ sym (append-nil (ended gs))) in
    (parts.0, more.0)

deleted-one : (ns ms : List ℤ) → IsLine (Deleted ns) → IsLine (Deleted ms) → ended ns ≡ ended ms → ns ≡ ms
deleted-one ns ms good also e =
    (ended-split ns ms [] [] (ids-nonzero ns good.fits good.form) (ids-nonzero ms also.fits also.form) tt tt (append-nil (ended ns) ∙ e ∙ sym (append-nil (ended ms)))).0

-- two headers are told apart by their last letter, a header and another line by their first
header-one : (v w : Version) → spelled (Header v) ≡ spelled (Header w) → v ≡ w
header-one One One e = refl
header-one Two Two e = refl
header-one v w e = let letters = ap (λ (s : List ℕ). get_or s 15 0) e in absurd (omega (arith, letters))

header-apart : (v : Version) (l : Line) → get_or (spelled l) 0 0 ≢ 82 → spelled (Header v) ≢ spelled l
header-apart One l apart e = apart (sym (ap (λ (s : List ℕ). get_or s 0 0) e))
header-apart Two l apart e = apart (sym (ap (λ (s : List ℕ). get_or s 0 0) e))

pub one_spelling : (l m : Line) → IsLine l → IsLine m → spelled l ≡ spelled m → l ≡ m
one_spelling (Header v) (Header w) gl gm e = ap Header (header-one v w e)
one_spelling (Header v) m gl gm e = absurd (header-apart v m (λ letter. omega (arith, letter)) e)
one_spelling l (Header w) gl gm e = absurd (header-apart w l (λ letter. omega (arith, letter)) (sym e))
one_spelling (Seen a) (Seen b) gl gm e = ap Seen (numbers-one a b gl.fits gm.fits (append_cancel_left (codes "SEEN") (spaced_all a) (spaced_all b) e))
one_spelling (Walk a) (Walk b) gl gm e = ap Walk (numbers-one a b gl.fits gm.fits (append_cancel_left (codes "WALK") (spaced_all a) (spaced_all b) e))
one_spelling (Dropping a) (Dropping b) gl gm e = ap Dropping (numbers-one a b gl.fits gm.fits (append_cancel_left (codes "DROP") (spaced_all a) (spaced_all b) e))
one_spelling (Pair a) (Pair b) gl gm e = ap Pair (numbers-one a b gl.fits gm.fits (append_cancel_left (codes "PAIR") (spaced_all a) (spaced_all b) e))
one_spelling (Scan a) (Scan b) gl gm e = ap Scan (numbers-one a b gl.fits gm.fits (append_cancel_left (codes "SCAN") (spaced_all a) (spaced_all b) e))
one_spelling (Log p) (Log q) gl gm e = ap Log (asked-one p q gl.fits gm.fits (append_cancel_left (codes "LOG") (asked p) (asked q) e))
one_spelling (Query p) (Query q) gl gm e = ap Query (asked-one p q gl.fits gm.fits (append_cancel_left (codes "QUERY") (asked p) (asked q) e))
one_spelling (Derived ls hs) (Derived ks gs) gl gm e =
    let parts = derived-one ls ks hs gs gl gm (append_cancel_left (codes "D") (derived ls hs) (derived ks gs) e) in
    let one : ls ≡ ks = parts.0 in
    let two : hs ≡ gs = parts.1 in
    cc
one_spelling (Deleted a) (Deleted b) gl gm e = ap Deleted (deleted-one a b gl gm (append_cancel_left (codes "X") (ended a) (ended b) e))
one_spelling (End v) (End w) gl gm e = ap End (concluded-one v w gl.fits gm.fits (append_cancel_left (codes "END") (concluded v) (concluded w) e))
one_spelling (Dropping a) (Derived ks gs) gl gm e =
    let second = ap (λ (s : List ℕ). get_or s 1 0) (e ∙ ap (λ s. codes "D" ++ s) (derived-first ks gs).1) in
    absurd (omega (arith, second))
one_spelling (Derived ls hs) (Dropping b) gl gm e =
    let second = ap (λ (s : List ℕ). get_or s 1 0) (sym (ap (λ s. codes "D" ++ s) (derived-first ls hs).1) ∙ e) in
    absurd (omega (arith, second))
one_spelling l m gl gm e =
    let first = ap (λ (s : List ℕ). get_or s 0 0) e in
    let second = ap (λ (s : List ℕ). get_or s 1 0) e in
    absurd (omega (arith, first, second))

pub read_back : (l : Line) (answer : Option Line) → IsLine l → ReadsLine (spelled l) answer → answer ≡ Some l
read_back l None good h = absurd (h l good refl)
read_back l (Some m) good h = ap Some (one_spelling m l h.0 good (sym h.1))
