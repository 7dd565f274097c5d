-- What the bodies of POUs become, where each POU runs and calls only those before it.
use Rattle.std.specs.Prelude.{ℕ, zero, suc, ◌==◌, List, [], slice_index_or, if◌then◌else◌}
use Rattle.program_tree.specs.Tree.{Statements, no_statements, CalledData, block, function}
use Rattle.meaning.specs.Calls.{nothing}
use Rattle.meaning.specs.Frames.{frames_of, function_body}
use Rattle.flat_form.specs.Owners.{call_owner}
use Rattle.flat_form.specs.Bodies.{Bodies}
use Rattle.flat_form.specs.Unless.{without_flags}
use Rattle.flat_form.specs.FlatLists.{scratch_of_all, flat_of_all}

-- the body of a FUNCTION_BLOCK; a FUNCTION is not run
abbrev pub block_body : CalledData → Statements
block_body (block body) = body
block_body (function types rs start body) = no_statements

-- one POU more, which has a number and may run and call the others
abbrev pub with_pou : Bodies → ℕ → CalledData → Bodies
with_pou bodies n p = record {
  frame = bodies.frame;
  run_scratch = λ b. if b == n then scratch_of_all bodies (block_body p) else bodies.run_scratch b;
  run_list = λ owner b base k. if b == n then flat_of_all bodies owner base without_flags (block_body p) k else bodies.run_list owner b base k;
  call_scratch = λ f. if f == n then scratch_of_all bodies (function_body p) else bodies.call_scratch f;
  call_list = λ f answer places k. if f == n then flat_of_all bodies (call_owner answer places) 0 without_flags (function_body p) k else bodies.call_list f answer places k;
}

abbrev pub no_bodies : List CalledData → Bodies
no_bodies ps = record {
  frame = frames_of ps;
  run_scratch = λ b. [];
  run_list = λ owner b base k. [];
  call_scratch = λ f. [];
  call_list = λ f answer places k. [];
}

-- the first so many POUs
abbrev pub bodies_of : List CalledData → ℕ → Bodies
bodies_of ps zero = no_bodies ps
bodies_of ps (suc n) = with_pou (bodies_of ps n) n (slice_index_or ps n nothing)
