-- Worked examples: `struct a` of specs/Examples contains `struct b` through an array, and needs it before; and loops.
use Rattle.std.proofs.Common.{◌≡◌, true, false, List, [], ◌∷◌, refl, arith}
use Rattle.btf_model.specs.Made.{array, struct}
use Rattle.btf_model.specs.Record.{Record, unknown}
use Rattle.btf_order_model.specs.Examples.{types, by}
use Rattle.btf_order_model.specs.Loops.{NeedsThroughObjects, IsOnObjectLoop}
use Rattle.btf_order_model.specs.Order.{HasByValue, NeedsComplete}
use Rattle.btf_order_model.specs.Uses.{Use}

contains : HasByValue types 2 4
contains = HasByValue.through 2 3 4 (0, omega arith, refl) (HasByValue.directly 3 4 (0, omega arith, refl))

needs : NeedsComplete types 2 4
needs = (contains, refl)

-- `struct a { struct a x[2]; }`: 1 is the STRUCT, 2 the ARRAY.
abbrev endless : List Record
endless = unknown ∷ struct 1 8 1 (0 ∷ 2 ∷ 0 ∷ []) ∷ array 0 1 1 2 ∷ []

loops : IsOnObjectLoop endless 1
loops = record {
  of_id = by 1 false;
  here = refl;
  loop =
      NeedsThroughObjects.through (by 1 false) (by 2 false) (by 1 false) refl (record { direct = by 2 false; used = (0, omega arith, refl); counts = refl })
      (NeedsThroughObjects.directly (by 2 false) (by 1 false) refl (record { direct = by 1 false; used = (0, omega arith, refl); counts = refl }));
}

-- The prototype 10 uses `struct b`, but leads nowhere where it is not behind a pointer.
leads_nowhere : (u : Use) → NeedsThroughObjects types (by 10 false) u → ⊥
leads_nowhere u (NeedsThroughObjects.directly _ _ object needs) = no_function object where
  no_function : true ≡ false → ⊥
  no_function e = cc
leads_nowhere u (NeedsThroughObjects.through _ c _ object needs rest) = no_function object where
  no_function : true ≡ false → ⊥
  no_function e = cc
