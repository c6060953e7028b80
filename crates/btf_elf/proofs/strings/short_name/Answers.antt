use Rattle.std.proofs.Common.{◌≡◌, ◌≤◌, ◌<◌, ℕ, List, length, take, None, Some, sym, ap, subst, ◌∙◌, arith}
use Rattle.std.specs.Prelude.{position}
use Rattle.std.specs.List.{before_first}
use Rattle.std.proofs.lemmas.List.{length-take-le}
use Rattle.btf_elf_model.specs.Section.{ends_name, string_from}
use Rattle.btf_elf.proofs.ShortNames.{zero_in_front, all_of_it, long_name}
use Rattle.btf_elf.proofs.strings.short_name.Goals as goal
use Rattle.btf_elf.proofs.strings.short_name.Goals.{In-Some}

-- the first zero byte of the front
zero_at : (c : In-Some) → position ends_name (take c.args.limit c.tail-rest.result.now) ≡ Some c.in-Some.len
zero_at c = ap (position ends_name) (sym c.front.ensures) ∙ sym c.first_zero.ensures ∙ c.in-Some.is

pub slice_bounds-result-end : goal.slice_bounds-result-end
slice_bounds-result-end c =
    let zero = zero_in_front c.args.limit c.tail-rest.result.now c.in-Some.len (zero_at (goal.at.slice_bounds-result-end c).In-Some) in sym (length-take-le c.in-Some.len c.tail-rest.result.now zero.0)

pub returns-in-Some-clause-some : goal.returns-in-Some-clause-some
unfolding string_from
returns-in-Some-clause-some c =
    let rest = c.tail-rest.result.now in
    let zero = zero_in_front c.args.limit rest c.in-Some.len (zero_at (goal.at.returns-in-Some-clause-some c).In-Some) in
    let len : length (take c.in-Some.len rest) ≡ c.in-Some.len = length-take-le c.in-Some.len rest zero.0 in
    let short : c.in-Some.len < c.args.limit = zero.1 in
    (sym zero.2 ∙ ap (before_first ends_name) c.tail-rest.ensures ∙ ap (λ (n : ℕ). string_from c.args.strings.now n) c.from.ensures, omega (arith, len, short))

pub returns-in-None-clause-some : goal.returns-in-None-clause-some
unfolding string_from
returns-in-None-clause-some c =
    let rest = c.tail-rest.result.now in
    let none : position ends_name (take c.args.limit rest) ≡ None = ap (position ends_name) (sym c.front.ensures) ∙ sym c.first_zero.ensures ∙ c.in-None.is in
    let short : length rest < c.args.limit = c.if-rest-limit.true in
    (sym (all_of_it c.args.limit rest none short) ∙ ap (before_first ends_name) c.tail-rest.ensures ∙ ap (λ (n : ℕ). string_from c.args.strings.now n) c.from.ensures, short)

pub returns-in-None-2-clause-none : goal.returns-in-None-2-clause-none
unfolding string_from
returns-in-None-2-clause-none c =
    let rest = c.tail-rest.result.now in
    let none : position ends_name (take c.args.limit rest) ≡ None = ap (position ends_name) (sym c.front.ensures) ∙ sym c.first_zero.ensures ∙ c.in-None-2.is in
    let long : c.args.limit ≤ length rest = c.if-rest-limit.false in
    subst (λ (n : ℕ). c.args.limit ≤ length (string_from c.args.strings.now n)) c.from.ensures (subst (λ (r : List ℕ). c.args.limit ≤ length (before_first ends_name r)) c.tail-rest.ensures (long_name c.args.limit rest none long))
