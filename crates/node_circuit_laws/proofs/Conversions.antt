-- What a conversion does, by the type that it leads to: BOOL, or any other.
use Rattle.std.proofs.Common.{◌≡◌, ◌⊎◌, inl, inr, List, refl, ℤ}
use Rattle.clause_core.specs.declared.literal.Lit.{Lit}
use Rattle.plc_types.specs.declared.elementary.Elementary.{Elementary}
use Rattle.plc_types.specs.declared.elementary.Elementary.TheVariants as types
use Rattle.plc_types.specs.Types.{width_of, is_signed}
use Rattle.meaning.specs.Values.{converted}
use Rattle.gates.specs.Netlists.{Netlist}
use Rattle.word_circuits.specs.Words.{ready}
use Rattle.word_circuits.specs.Conversions.{resized}
use Rattle.node_circuits.specs.Rows.{conversion_of}

-- a conversion to a type cuts or extends the word, and keeps the value until it is wrapped
pub record IsResizing (to : Elementary) : Type 0 where
  pub word : (from : Elementary) (a : List Lit) (n : Netlist) → conversion_of from to a n ≡ ready (resized (is_signed from) (width_of to) a) n
  pub value : (v : ℤ) → converted to v ≡ v

pub bool_or_resizing : (to : Elementary) → (to ≡ types.Bool) ⊎ IsResizing to
bool_or_resizing types.Bool = inl refl
bool_or_resizing types.Sint = inr (record { word = λ from a n. refl; value = λ v. refl })
bool_or_resizing types.Int = inr (record { word = λ from a n. refl; value = λ v. refl })
bool_or_resizing types.Dint = inr (record { word = λ from a n. refl; value = λ v. refl })
bool_or_resizing types.Lint = inr (record { word = λ from a n. refl; value = λ v. refl })
bool_or_resizing types.Usint = inr (record { word = λ from a n. refl; value = λ v. refl })
bool_or_resizing types.Uint = inr (record { word = λ from a n. refl; value = λ v. refl })
bool_or_resizing types.Udint = inr (record { word = λ from a n. refl; value = λ v. refl })
bool_or_resizing types.Ulint = inr (record { word = λ from a n. refl; value = λ v. refl })
bool_or_resizing types.Byte = inr (record { word = λ from a n. refl; value = λ v. refl })
bool_or_resizing types.Word = inr (record { word = λ from a n. refl; value = λ v. refl })
bool_or_resizing types.Dword = inr (record { word = λ from a n. refl; value = λ v. refl })
bool_or_resizing types.Lword = inr (record { word = λ from a n. refl; value = λ v. refl })
