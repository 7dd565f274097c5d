-- One thing is said of a file.
use Rattle.std.proofs.Common.{◌≡◌, ℕ, ◌+◌, ◌≤◌, List, [], ◌∷◌, ◌++◌, length, refl, sym, ◌∙◌, subst, arith, append_assoc, append-nil, length-append}
use Rattle.std.specs.Prelude.{Result, Ok, Err}
use Rattle.clause_core.specs.Formula.{Formula}
use Rattle.finding_lines.specs.declared.line.Line.{Line}
use Rattle.finding_lines.specs.Spelling.{written}
use Rattle.finding_file.specs.Writing.{all_written}
use Rattle.finding_file.proofs.WritingLemmas.{first_line}
use Rattle.queries.specs.Settings.{Setting}
use Rattle.queries.specs.Questions.{QueryData}
use Rattle.judgement.specs.Places.{Place, at_top, finished, goes}
use Rattle.judgement.specs.Tests.{Moves}
use Rattle.judgement.specs.Findings.{Stands, IsJudged}
use Rattle.judgement.specs.declared.answers.Judged.{Judged}
use Rattle.judgement.specs.declared.answers.Judged.TheVariants.{Valid, Bad}
use Rattle.judgement.specs.declared.answers.JudgeErr.{JudgeErr}
use Rattle.judgement.specs.declared.answers.JudgeErr.TheVariants.{Fault, Memory, M8}
use Rattle.judgement_laws.specs.Endings.{Ends}
use Rattle.judgement_laws.specs.Laws.{IsSaid, OneJudgement, WrittenIsValid}
use Rattle.judgement_laws.proofs.MoveLemmas.{moves_same}
use Rattle.judgement_laws.proofs.RunLemmas.{Runs, Leads-Runs}
use Rattle.judgement_laws.proofs.EndLemmas.{one_end, no_end}

module _ (s : Setting) (formula : QueryData → Formula) (limit : ℕ) where
  -- behind so many bytes and lines, a file with lines that run from a place to one where a judgement ends
  pub record EndsBehind (p : Place) (at count : ℕ) (file : List ℕ) (some : List Line) (a : Result Judged JudgeErr) : Type 0 where
    pub place : Place
    pub rest : List ℕ
    pub runs : Runs s formula p some place
    pub whole : file ≡ all_written some ++ rest
    pub within : at + length (all_written some) ≤ limit
    pub ends : Ends s formula limit place (at + length (all_written some)) (count + length some) rest a

  ends_here : (p : Place) (at count : ℕ) (file : List ℕ) (a : Result Judged JudgeErr) → EndsBehind p at count file [] a → (at ≤ limit) × Ends s formula limit p at count file a
  ends_here p at count file a h =
      let zero_more : at + length (all_written []) ≡ at = omega arith in
      let none_more : count + length {A = Line} [] ≡ count = omega arith in
      let there : Ends s formula limit h.place at count h.rest a =
      subst (λ n. Ends s formula limit h.place at n h.rest a) none_more (subst (λ n. Ends s formula limit h.place n (count + length {A = Line} []) h.rest a) zero_more h.ends) in (
        (let within = h.within in omega (arith, within)),
        subst (λ q. Ends s formula limit q at count file a) (sym h.runs) (subst (λ bytes. Ends s formula limit h.place at count bytes a) (sym h.whole) there),
      )

  behind_first : (p : Place) (at count : ℕ) (file : List ℕ) (line : Line) (some : List Line) (a : Result Judged JudgeErr) (h : EndsBehind p at count file (line ∷ some) a)
      → (file ≡ written line ++ (all_written some ++ h.rest)) × (at + length (written line) ≤ limit)
      × EndsBehind h.runs.0 (at + length (written line)) (count + 1) (all_written some ++ h.rest) some a
  behind_first p at count file line some a h =
      let long : length (all_written (line ∷ some)) ≡ length (written line) + length (all_written some) = length-append (written line) (all_written some) in
      let bytes : at + length (all_written (line ∷ some)) ≡ (at + length (written line)) + length (all_written some) = omega (arith, long) in
      let number : count + length (line ∷ some) ≡ (count + 1) + length some = omega arith in (
        h.whole ∙ append_assoc (written line) (all_written some) h.rest,
        (let within = h.within in omega (arith, within, long)),
        record {
          place = h.place;
          rest = h.rest;
          runs = h.runs.3;
          whole = refl;
          within = (let within = h.within in omega (arith, within, bytes));
          ends = subst (λ n. Ends s formula limit h.place ((at + length (written line)) + length (all_written some)) n h.rest a) number
              (subst (λ n. Ends s formula limit h.place n (count + length (line ∷ some)) h.rest a) bytes h.ends);
        },
      )

  one_answer : (p : Place) (at count : ℕ) (file : List ℕ) (some others : List Line) (a b : Result Judged JudgeErr)
      → EndsBehind p at count file some a → EndsBehind p at count file others b → a ≡ b
  one_answer p at count file [] [] a b h k =
      let left = ends_here p at count file a h in
      let right = ends_here p at count file b k in
      one_end s formula limit p at count file a b left.0 left.1 right.1
  one_answer p at count file [] (m ∷ ms) a b h k =
      let left = ends_here p at count file a h in
      let right = behind_first p at count file m ms b k in
      absurd (no_end s formula limit p k.runs.0 at count file (all_written ms ++ k.rest) m a k.runs.1 k.runs.2 right.0 right.1 left.1)
  one_answer p at count file (l ∷ ls) [] a b h k =
      let left = behind_first p at count file l ls a h in
      let right = ends_here p at count file b k in
      absurd (no_end s formula limit p h.runs.0 at count file (all_written ls ++ h.rest) l b h.runs.1 h.runs.2 left.0 left.1 right.1)
  one_answer p at count file (l ∷ ls) (m ∷ ms) a b h k =
      let left = behind_first p at count file l ls a h in
      let right = behind_first p at count file m ms b k in
      let both = first_line l m (all_written ls ++ h.rest) (all_written ms ++ k.rest) h.runs.1 k.runs.1 (sym left.0 ∙ right.0) in
      let places : goes k.runs.0 ≡ goes h.runs.0 = moves_same s formula p l (goes k.runs.0) (goes h.runs.0) (subst (λ x. Moves s formula p x (goes k.runs.0)) (sym both.0) k.runs.2) h.runs.2 in
      let place : k.runs.0 ≡ h.runs.0 = cc in
      let third : EndsBehind h.runs.0 (at + length (written m)) (count + 1) (all_written ms ++ k.rest) ms b =
      subst (λ q. EndsBehind q (at + length (written m)) (count + 1) (all_written ms ++ k.rest) ms b) place right.2 in
      let fourth : EndsBehind h.runs.0 (at + length (written l)) (count + 1) (all_written ms ++ k.rest) ms b =
      subst (λ x. EndsBehind h.runs.0 (at + length (written x)) (count + 1) (all_written ms ++ k.rest) ms b) (sym both.0) third in
      one_answer h.runs.0 (at + length (written l)) (count + 1) (all_written ls ++ h.rest) ls ms a b left.2
      (subst (λ bytes. EndsBehind h.runs.0 (at + length (written l)) (count + 1) bytes ms b) (sym both.1) fourth)

  stands_behind : (file : List ℕ) (all : List Line) (place : Place) (rest : List ℕ) (a : Result Judged JudgeErr) → Stands s formula limit file all place rest
      → Ends s formula limit place (length (all_written all)) (length all) rest a → EndsBehind at_top 0 0 file all a
  stands_behind file all place rest a stands ends = record {
    place = place;
    rest = rest;
    runs = Leads-Runs s formula all place stands.leads;
    whole = stands.whole;
    within = (let within = stands.within in omega (arith, within));
    ends = (let bytes : length (all_written all) ≡ 0 + length (all_written all) = omega arith in
        let number : length all ≡ 0 + length all = omega arith in
        subst (λ n. Ends s formula limit place (0 + length (all_written all)) n rest a) number (subst (λ n. Ends s formula limit place n (length all) rest a) bytes ends));
  }

  judged_ends : (file : List ℕ) (a : Result Judged JudgeErr) → IsJudged s formula limit file a → IsSaid a → (all : List Line) × EndsBehind at_top 0 0 file all a
  judged_ends file (Ok (Valid verdict reach)) j said = (j.0, stands_behind file j.0 (finished reach verdict) [] (Ok (Valid verdict reach)) j.1 (refl, refl))
  judged_ends file (Ok (Bad line reason)) j said = (j.0, stands_behind file j.0 j.1 j.2 (Ok (Bad line reason)) j.3 (j.4, j.5, j.6))
  judged_ends file (Err M8) j said = (j.0, stands_behind file j.0 j.1 j.2 (Err M8) j.3 j.4)
  judged_ends file (Err Fault) j said = absurd said
  judged_ends file (Err Memory) j said = absurd said

  pub one_judgement_of : (file : List ℕ) (a b : Result Judged JudgeErr) → IsJudged s formula limit file a → IsJudged s formula limit file b → IsSaid a → IsSaid b → a ≡ b
  one_judgement_of file a b j k said told =
      let left = judged_ends file a j said in
      let right = judged_ends file b k told in
      one_answer at_top 0 0 file left.0 right.0 a b left.1 right.1

pub one_judgement_is : OneJudgement
one_judgement_is s formula limit file a b j k said told = one_judgement_of s formula limit file a b j k said told

pub written_is_valid : WrittenIsValid
written_is_valid s formula limit all verdict reach leads within = (all, record { leads = leads; whole = sym (append-nil (all_written all)); within = within })
