use Rattle.std.proofs.Common.{◌≡◌, ◌+◌, ◌-◌, ◌≤◌, ℕ, List, length, Some, Ok, Err, Result, drop, refl, sym, ap, subst, ◌∙◌, inl, inr, arith}
use Rattle.std.specs.Prelude.{◌==◌, ◌⊎◌, max, slice_get}
use Rattle.btf_model.specs.Record.{member_bit_offset}
use Rattle.std.specs.BTreeMap.{BTreeMap}
use Rattle.btf_relocate_model.specs.Field.{Member, members_of, moved_bit}
use Rattle.btf_relocate_model.specs.declared.error.RelocationError.{RelocationError}
use Rattle.btf_relocate_model.specs.declared.error.RelocationError.TheVariants.{OutOfMemory}
use Rattle.btf_view.specs.TypeRef.{record_in}
use Rattle.btf_relocate.specs.declared.search.Found.{Found}
use Rattle.btf_relocate.specs.Members.{member_bits, member_of}
use Rattle.btf_relocate.specs.Searching.{among, within, from_id, levels_of, Remembers}
use Rattle.btf_relocate.proofs.Searches.{remember, none_at_all, some_too_deep, begins, found_here, found_inside, inner_fails, bit_fails, after_nothing, at_other}
use Rattle.btf_relocate.proofs.Errors.{gives_error}
use Rattle.btf_relocate.proofs.Pointers.{element_at, none_there}
use Rattle.btf_relocate.proofs.search.+search.Goals as goal
use Rattle.btf_relocate.proofs.search.+search.Goals.{search_members-then-is_empty+in_ok-field+in-Nothing, search_members-else-is_empty+else-eq}

-- a member of these members is one of those
there : {xs ys : List Member} → xs ≡ ys → (i : ℕ) (m : Member) → slice_get xs i ≡ Some m → slice_get ys i ≡ Some m
there same i m is = ap (λ (ms : List Member). slice_get ms i) (sym same) ∙ is

pub search-returns-in_ok-insert-clause-remembers : goal.search-returns-in_ok-insert-clause-remembers
search-returns-in_ok-insert-clause-remembers t c =
    remember c.args.table.now c.args.name.now c.search_members.new.searched c.insert.new.self c.in_ok-end.end c.in-Nothing.levels c.args.depth (record_in c.in_ok-btf_type.btf_type)
    c.in_ok-insert.ensures.updates c.in_ok-found.ensures.remembers c.in_ok-btf_type.ensures
    (c.in_ok-found.ensures.found ∙ ap (λ (f : Found). Ok f) c.in-Nothing.is)

pub search_members-returns-then-count-eq0-clause-found : goal.search_members-returns-then-count-eq0-clause-found
search_members-returns-then-count-eq0-clause-found t c =
    let r = record_in c.args.btf_type.now in
    none_at_all c.args.table.now c.args.name.now c.args.depth r (members_of r) refl (sym (c.len-count.ensures ∙ ap length c.of-members.ensures) ∙ c.if-count-eq0.true)

pub search_members-returns-then-depth-eq0-clause-found : goal.search_members-returns-then-depth-eq0-clause-found
search_members-returns-then-depth-eq0-clause-found t c =
    let r = record_in c.args.btf_type.now in
    inr (some_too_deep c.args.table.now c.args.name.now c.args.depth r (members_of r) refl (λ none. c.if-count-eq0.false ((c.len-count.ensures ∙ ap length c.of-members.ensures) ∙ none)) c.if-depth-eq0.true)

pub search_members-loop-index-init : goal.search_members-loop-index-init
search_members-loop-index-init t c = record {
  same = refl;
  rest = begins c.args.table.now c.args.name.now c.args.depth (record_in c.args.btf_type.now) c.if-depth-eq0.false;
  small = omega arith;
  remembers = c.requires;
}

pub search_members-returns-in_default-clause-found : goal.search_members-returns-in_default-clause-found
search_members-returns-in_default-clause-found t c =
    let ms = members_of (record_in c.args.btf_type.now) in
    absurd (omega (arith, none_there ms c.loop-index.index (ap (λ (xs : List Member). slice_get xs c.loop-index.index) (sym c.of-members.ensures) ∙ sym c.in_default.ensures.member), (c.len-count.ensures ∙ ap length c.of-members.ensures), c.loop-index-test.true))

pub search_members-returns-then-eq-clause-found : goal.search_members-returns-then-eq-clause-found
search_members-returns-then-eq-clause-found t c =
    let r = record_in c.args.btf_type.now in
    let ms = members_of r in
    let m = member_of c.in-Some.member in
    let count = (c.len-count.ensures ∙ ap length c.of-members.ensures) in
    sym (found_here c.args.table.now c.args.name.now (from_id (c.args.depth - 1) c.args.table.now c.args.name.now) r c.loop-index.levels c.loop-index.index ms m
    (within c.args.depth c.args.table.now c.args.name.now r)
    (element_at ms c.loop-index.index m (there c.of-members.ensures c.loop-index.index m (sym c.in-Some.ensures.member))) c.loop-index.invariant.rest c.is_empty.result c.eq.result (c.loop-index.index + 1 == c.len-count.result) c.name_or_none-here.result.now (c.is_empty.ensures, c.name_or_none-here.ensures)
    c.if-is_empty.false c.eq.ensures c.if-eq.true (omega (arith, count, c.loop-index-test.true)) (ap (λ (n : ℕ). c.loop-index.index + 1 == n) count) (Ok c.in_ok-member_field.field-0) (sym c.in_ok-member_field.was ∙ c.member_field.ensures))

-- the first bit of a member that was found inside another one
first_bit : (info offset inner by : ℕ) (bits : ℕ × ℕ) (o : Result ℕ RelocationError) → bits ≡ member_bits info offset → by ≡ inner → o ≡ moved_bit bits.0 by → moved_bit (member_bit_offset info offset) inner ≡ o
first_bit info offset inner by bits o is same moved = sym (moved ∙ λ i. moved_bit (is i).0 (same i))

pub search_members-returns-in_err-field-clause-found : goal.search_members-returns-in_err-field-clause-found
search_members-returns-in_err-field-clause-found t c =
    let r = record_in c.args.btf_type.now in
    let ms = members_of r in
    let m = member_of c.in-Some.member in
    let whole = within c.args.depth c.args.table.now c.args.name.now r in
    let e = c.in_err-field.field-0.0 in
    gives_error c.from_residual.result e whole c.from_residual.ensures.1 (elim c.in_err-field.ensures.found as (λ x. (e ≡ OutOfMemory) ⊎ (whole ≡ Err e)) [
      | inl memory ↦ inl memory
      | inr given ↦ inr (inner_fails c.args.table.now c.args.name.now (from_id (c.args.depth - 1) c.args.table.now c.args.name.now) r c.loop-index.levels c.loop-index.index ms m whole
          (element_at ms c.loop-index.index m (there c.of-members.ensures c.loop-index.index m (sym c.in-Some.ensures.member))) c.loop-index.invariant.rest c.is_empty.result c.name_or_none-here.result.now (c.is_empty.ensures, c.name_or_none-here.ensures) c.if-is_empty.true e given)
    ])

pub search_members-returns-in_err-bit-in-Member-clause-found : goal.search_members-returns-in_err-bit-in-Member-clause-found
search_members-returns-in_err-bit-in-Member-clause-found t c =
    let r = record_in c.args.btf_type.now in
    let ms = members_of r in
    let m = member_of c.in-Some.member in
    let whole = within c.args.depth c.args.table.now c.args.name.now r in
    let e = c.in_err-bit-in-Member.field-0.0 in
    let far = first_bit r.info m.offset c.in-Member.field.bit c.from.result c.bits_of-offset.result c.move_bit.result c.bits_of-offset.ensures c.from.ensures c.move_bit.ensures ∙ c.in_err-bit-in-Member.was in
    gives_error c.from_residual-in_err-bit-in-Member.result e whole c.from_residual-in_err-bit-in-Member.ensures.1
    (inr (bit_fails c.args.table.now c.args.name.now (from_id (c.args.depth - 1) c.args.table.now c.args.name.now) r c.loop-index.levels c.loop-index.index ms m whole
    (element_at ms c.loop-index.index m (there c.of-members.ensures c.loop-index.index m (sym c.in-Some.ensures.member))) c.loop-index.invariant.rest c.is_empty.result c.name_or_none-here.result.now (c.is_empty.ensures, c.name_or_none-here.ensures) c.if-is_empty.true
    c.in_ok-field.field-0 c.in-Member.field c.in-Member.further c.in_ok-field.ensures.found c.in-Member.is e far))

pub search_members-returns-in-Member-clause-found : goal.search_members-returns-in-Member-clause-found
search_members-returns-in-Member-clause-found t c =
    let r = record_in c.args.btf_type.now in
    let ms = members_of r in
    let m = member_of c.in-Some.member in
    let whole = within c.args.depth c.args.table.now c.args.name.now r in
    let fits = first_bit r.info m.offset c.in-Member.field.bit c.from.result c.bits_of-offset.result c.move_bit.result c.bits_of-offset.ensures c.from.ensures c.move_bit.ensures ∙ c.in_ok-bit-in-Member.was in
    found_inside c.args.table.now c.args.name.now (from_id (c.args.depth - 1) c.args.table.now c.args.name.now) r c.loop-index.levels c.loop-index.index ms m whole
    (element_at ms c.loop-index.index m (there c.of-members.ensures c.loop-index.index m (sym c.in-Some.ensures.member))) c.loop-index.invariant.rest c.is_empty.result c.name_or_none-here.result.now (c.is_empty.ensures, c.name_or_none-here.ensures) c.if-is_empty.true
    c.in_ok-field.field-0 c.in-Member.field c.in-Member.further c.in_ok-field.ensures.found c.in-Member.is c.in_ok-bit-in-Member.bit fits

pub search_members-loop-index-preserved : goal.search_members-loop-index-preserved
search_members-loop-index-preserved t c =
    let inside = from_id (c.args.depth - 1) c.args.table.now c.args.name.now in
    let r = record_in c.args.btf_type.now in
    let ms = members_of r in
    let m = member_of c.in-Some.member in
    let here = element_at ms c.loop-index.index m (there c.of-members.ensures c.loop-index.index m (sym c.in-Some.ensures.member)) in
    let whole = within c.args.depth c.args.table.now c.args.name.now r in
    let some : c.args.depth ≡ 0 → ⊥ = c.if-depth-eq0.false in
    elim c.if-is_empty.branch [
      | search_members-then-is_empty+in_ok-field+in-Nothing w ↦
          let inner : w.in-Nothing.inner ≤ c.args.depth - 1 = subst (λ (f : Found). levels_of f ≤ c.args.depth - 1) w.in-Nothing.is w.in_ok-field.ensures.small in
          let more : c.if-is_empty.levels ≡ max c.loop-index.levels (w.in-Nothing.inner + 1) = w.levels-is ∙ w.max-levels.ensures in
          record {
            same = refl;
            rest = after_nothing c.args.table.now c.args.name.now inside r c.loop-index.levels c.loop-index.index ms m whole here c.loop-index.invariant.rest c.is_empty.result c.name_or_none-here.result.now
                (c.is_empty.ensures, c.name_or_none-here.ensures) w.if-is_empty.true w.in_ok-field.field-0 w.in-Nothing.inner c.if-is_empty.levels w.in_ok-field.ensures.found w.in-Nothing.is more;
            small = omega (arith, inner, more, some, c.loop-index.invariant.small);
            remembers = let P : BTreeMap ℕ ℕ → Type 0 = Remembers c.args.table.now c.args.name.now in subst P (sym w.searched-is) w.in_ok-field.ensures.remembers;
          }
      | search_members-else-is_empty+else-eq w ↦
          let more : c.if-is_empty.levels ≡ max c.loop-index.levels 1 = w.levels-is ∙ w.max-levels-else-eq.ensures in
          record {
            same = refl;
            rest = ap (λ (n : ℕ). among inside c.args.table.now c.args.name.now r.info n (drop (c.loop-index.index + 1) ms)) more
                ∙ at_other c.args.table.now c.args.name.now inside r c.loop-index.levels c.loop-index.index ms m whole here c.loop-index.invariant.rest c.is_empty.result w.eq.result c.name_or_none-here.result.now
                (c.is_empty.ensures, c.name_or_none-here.ensures) w.if-is_empty.false w.eq.ensures w.if-eq.false;
            small = omega (arith, more, some, c.loop-index.invariant.small);
            remembers = let P : BTreeMap ℕ ℕ → Type 0 = Remembers c.args.table.now c.args.name.now in subst P (sym w.searched-is) c.loop-index.invariant.remembers;
          }
    ]
