-- The prelude: the standard function blocks that every program may use (IEC 61131-3, 2.5.2.3), as text.
use Rattle.std.specs.Prelude.{ℕ, List, ◌++◌, codes}

unfoldable pub prelude_text : List ℕ
prelude_text =
    codes "FUNCTION_BLOCK R_TRIG VAR_INPUT CLK : BOOL; END_VAR VAR_OUTPUT Q : BOOL; END_VAR VAR M : BOOL; END_VAR "
    ++ codes "Q := CLK AND NOT M; M := CLK; END_FUNCTION_BLOCK "
    ++ codes "FUNCTION_BLOCK F_TRIG VAR_INPUT CLK : BOOL; END_VAR VAR_OUTPUT Q : BOOL; END_VAR VAR M : BOOL; END_VAR "
    ++ codes "Q := NOT CLK AND NOT M; M := NOT CLK; END_FUNCTION_BLOCK "
    ++ codes "FUNCTION_BLOCK SR VAR_INPUT S1, R : BOOL; END_VAR VAR_OUTPUT Q1 : BOOL; END_VAR "
    ++ codes "Q1 := S1 OR (NOT R AND Q1); END_FUNCTION_BLOCK "
    ++ codes "FUNCTION_BLOCK RS VAR_INPUT S, R1 : BOOL; END_VAR VAR_OUTPUT Q1 : BOOL; END_VAR "
    ++ codes "Q1 := NOT R1 AND (S OR Q1); END_FUNCTION_BLOCK "
    ++ codes "FUNCTION_BLOCK CTU VAR_INPUT CU, R : BOOL; PV : INT; END_VAR VAR_OUTPUT Q : BOOL; CV : INT; END_VAR VAR M : BOOL; END_VAR "
    ++ codes "IF R THEN CV := 0; ELSIF CU AND NOT M AND CV < 32767 THEN CV := CV + 1; END_IF; "
    ++ codes "M := CU; Q := CV >= PV; END_FUNCTION_BLOCK "
    ++ codes "FUNCTION_BLOCK CTD VAR_INPUT CD, LD : BOOL; PV : INT; END_VAR VAR_OUTPUT Q : BOOL; CV : INT; END_VAR VAR M : BOOL; END_VAR "
    ++ codes "IF LD THEN CV := PV; ELSIF CD AND NOT M AND CV > -32768 THEN CV := CV - 1; END_IF; "
    ++ codes "M := CD; Q := CV <= 0; END_FUNCTION_BLOCK "
    ++ codes "FUNCTION_BLOCK CTUD VAR_INPUT CU, CD, R, LD : BOOL; PV : INT; END_VAR VAR_OUTPUT QU, QD : BOOL; CV : INT; END_VAR "
    ++ codes "VAR MU, MD, U, D : BOOL; END_VAR U := CU AND NOT MU; D := CD AND NOT MD; MU := CU; MD := CD; "
    ++ codes "IF R THEN CV := 0; ELSIF LD THEN CV := PV; ELSIF U AND NOT D AND CV < 32767 THEN CV := CV + 1; "
    ++ codes "ELSIF D AND NOT U AND CV > -32768 THEN CV := CV - 1; END_IF; QU := CV >= PV; QD := CV <= 0; END_FUNCTION_BLOCK"
