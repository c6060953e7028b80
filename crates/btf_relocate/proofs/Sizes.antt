-- The walk for a size, step by step.
use Rattle.std.proofs.Common.{true, false, ◌≡◌, ℕ, zero, suc, ◌+◌, ◌-◌, ◌*◌, ◌^◌, ◌<◌, ◌≤◌, length, Option, Some, None, Result, Ok, Err, refl, sym, ap, ◌∙◌, arith}
use Rattle.std.specs.Prelude.{slice_get, nat_lt}
use Rattle.std.specs.Option.{SomeIff, ok_or}
use Rattle.std.proofs.lemmas.Bool.Decides.{nat_tests}
use Rattle.std.proofs.lemmas.Option.{slice_get_past}
use Rattle.btf_model.specs.Record.{Record, kind_of}
use Rattle.btf_model.specs.Refusal as refusals
use Rattle.btf_model.specs.Refusal.{Refusal}
use Rattle.btf_model.specs.Table.{Table}
use Rattle.btf_model.specs.Walk.{Finding, Ends, GoesOn, walk_limit, Extent, Bytes, Times, NoExtent, Elements, size_by}
use Rattle.btf_relocate_model.specs.Types.{walk, walk_on, size_found, sized_by, size_of, extent_with}
use Rattle.btf_relocate_model.specs.declared.error.RelocationError.TheVariants.{NoSize}
use Rattle.btf_relocate.proofs.Walks.{walk_suc, walk_zero}

abbrev pub find : ℕ → Table → Elements → Finding Elements ℕ
find pointer t at = size_found pointer at (slice_get t.records at.type)

abbrev pub start_at : ℕ → Elements
start_at id = record { count = 1; type = id }

module _ (pointer : ℕ) (t : Table) (id counter : ℕ) (at : Elements) where
  -- the walk from a place on, of the places that are left
  abbrev Same : Type 0
  Same = walk (find pointer t) (walk_limit - counter) at ≡ walk (find pointer t) walk_limit (start_at id)

  pub next_is : counter < walk_limit → Same → (f : Finding Elements ℕ) → find pointer t at ≡ f
      → walk_on (walk (find pointer t) (walk_limit - (counter + 1))) f ≡ walk (find pointer t) walk_limit (start_at id)
  next_is lt same f found =
      let one : walk_limit - counter ≡ suc (walk_limit - (counter + 1)) = omega (arith, lt) in
      ap (walk_on (walk (find pointer t) (walk_limit - (counter + 1)))) (sym found)
      ∙ sym (walk_suc (find pointer t) (walk_limit - (counter + 1)) at)
      ∙ ap (λ (n : ℕ). walk (find pointer t) n at) (sym one) ∙ same

  -- a walk that ends here
  pub ends_here : counter < walk_limit → Same → (answer : Result ℕ Refusal) → find pointer t at ≡ Ends answer → sized_by id (Some answer) ≡ size_of pointer t id
  ends_here lt same answer found = ap (sized_by id) (next_is lt same (Ends answer) found)

  pub missing : counter < walk_limit → Same → length t.records ≤ at.type → Err (NoSize id) ≡ size_of pointer t id
  missing lt same past = ends_here lt same (Err (refusals.UnknownBtfType at.type)) (ap (size_found pointer at) (slice_get_past t.records at.type past))

  pub no_extent : counter < walk_limit → Same → find pointer t at ≡ size_by at NoExtent → Err (NoSize id) ≡ size_of pointer t id
  no_extent lt same found = ends_here lt same (Err (refusals.UnexpectedBtfType at.type)) found

  pub bytes_end : (bytes : ℕ) (o : Option ℕ) → counter < walk_limit → Same → find pointer t at ≡ size_by at (Bytes bytes) → SomeIff o (bytes * at.count < 2 ^ 32) (bytes * at.count)
      → ok_or o (NoSize id) ≡ size_of pointer t id
  bytes_end bytes None lt same found product =
      let over : nat_lt (bytes * at.count) (2 ^ 32) ≡ false = grind (arith, nat_tests) in
      ends_here lt same (Err refusals.InvalidTypeInfo) (found ∙ rw over refl)
  bytes_end bytes (Some size) lt same found product =
      let fits : nat_lt (bytes * at.count) (2 ^ 32) ≡ true = grind (arith, nat_tests) in
      ap (λ (n : ℕ). Ok n) product.1 ∙ ends_here lt same (Ok (bytes * at.count)) (found ∙ rw fits refl)

  pub too_many : (times next : ℕ) → counter < walk_limit → Same → find pointer t at ≡ size_by at (Times times next) → ¬ (at.count * times < 2 ^ 32) → Err (NoSize id) ≡ size_of pointer t id
  too_many times next lt same found over =
      let past : nat_lt (at.count * times) (2 ^ 32) ≡ false = grind (arith, nat_tests) in
      ends_here lt same (Err refusals.InvalidTypeInfo) (found ∙ rw past refl)

  pub goes_on : (times next : ℕ) → counter < walk_limit → Same → find pointer t at ≡ size_by at (Times times next) → at.count * times < 2 ^ 32
      → walk (find pointer t) (walk_limit - (counter + 1)) (record { count = at.count * times; type = next }) ≡ walk (find pointer t) walk_limit (start_at id)
  goes_on times next lt same found fits =
      let holds : nat_lt (at.count * times) (2 ^ 32) ≡ true = grind (arith, nat_tests) in
      next_is lt same (GoesOn (record { count = at.count * times; type = next })) (found ∙ rw holds refl)

  pub too_long : walk_limit ≤ counter → Same → Err (NoSize id) ≡ size_of pointer t id
  too_long past same =
      let none : walk_limit - counter ≡ zero = omega (arith, past) in
      ap (sized_by id) (sym (walk_zero (find pointer t) at) ∙ ap (λ (n : ℕ). walk (find pointer t) n at) (sym none) ∙ same)

-- what the walk finds at a type, by its extent
pub found_extent : (pointer : ℕ) (t : Table) (at : Elements) (r : Record) (e : Extent) → slice_get t.records at.type ≡ Some r → e ≡ extent_with pointer (kind_of r.info) r → find pointer t at ≡ size_by at e
found_extent pointer t at r e is same = ap (size_found pointer at) is ∙ ap (size_by at) (sym same)
