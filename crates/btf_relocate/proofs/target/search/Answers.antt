use Rattle.std.proofs.Common.{◌≡◌, ◌∙◌, ◌+◌, ◌<◌, ℕ, List, [], ◌∷◌, length, take, ap, arith}
use Rattle.std.proofs.lemmas.List.{length-append}
use Rattle.std.proofs.lemmas.Option.{slice_get_within}
use Rattle.btf_model.specs.Table.{Table}
use Rattle.btf_relocate_model.specs.Candidates.{candidate_limit, compared_number, first_candidates}
use Rattle.btf_relocate_model.specs.Name.{essential}
use Rattle.btf_relocate.specs.Index.{kind_code}
use Rattle.btf_relocate.proofs.Scans.{all, enough, next_found, none_next, not_here, one_here}
use Rattle.btf_relocate.proofs.target.search.Goals as goal

-- what is sought is the essential name and the number of the kind
sought : (t : Table) (name own : List ℕ) (kind number : ℕ) → own ≡ essential name → number ≡ compared_number kind → take (candidate_limit + 1) (all t own number) ≡ first_candidates t name kind
sought t name own kind number is so =
    ap (λ (n : List ℕ). take (candidate_limit + 1) (all t n number)) is ∙ ap (λ (k : ℕ). take (candidate_limit + 1) (all t (essential name) k)) so

pub returns-then-len-gt-CANDIDATE_LIMIT : goal.returns-then-len-gt-CANDIDATE_LIMIT
returns-then-len-gt-CANDIDATE_LIMIT c =
    let t = c.args.table.now in
    let name = c.essential_name-essential.result.now in
    let number = c.comparison_number-number.result in
    let ids = c.loop-type_id.ids.items in
    let new = c.push.new.self.items in
    let i = c.in-Some.type_id in
    let next = c.in-Some.ensures.next in
    let lt : i < length t.records = slice_get_within t.records i next.0 next.1 in
    let found = next_found t name number c.other_number-other.result c.other_number-other.ensures ids c.loop-type_id.from i next.2 lt next.4 c.loop-type_id.invariant in
    let grown : length new ≡ length ids + 1 = ap length c.in_ok-push.ensures.items ∙ length-append ids (i ∷ []) in
    let full : length new ≡ candidate_limit + 1 = omega (arith, grown, c.loop-type_id.invariant.few, c.if-len-gt-CANDIDATE_LIMIT.true, c.len.ensures) in
    enough t name number new (i + 1) (one_here t name number ids i lt found c.has_key.result c.has_key.ensures c.if-has_key.true new c.in_ok-push.ensures.items) full
    ∙ sought t c.args.name.now name (kind_code c.args.kind) number c.essential_name-essential.ensures c.comparison_number-number.ensures.code

pub loop-type_id-smaller-else-len-gt-CANDIDATE_LIMIT : goal.loop-type_id-smaller-else-len-gt-CANDIDATE_LIMIT
loop-type_id-smaller-else-len-gt-CANDIDATE_LIMIT c =
    let next = c.in-Some.ensures.next in
    omega (arith, next.2, slice_get_within c.args.table.now.records c.in-Some.type_id next.0 next.1)

pub loop-type_id-preserved-else-len-gt-CANDIDATE_LIMIT : goal.loop-type_id-preserved-else-len-gt-CANDIDATE_LIMIT
loop-type_id-preserved-else-len-gt-CANDIDATE_LIMIT c =
    let t = c.args.table.now in
    let name = c.essential_name-essential.result.now in
    let number = c.comparison_number-number.result in
    let ids = c.loop-type_id.ids.items in
    let i = c.in-Some.type_id in
    let next = c.in-Some.ensures.next in
    let lt : i < length t.records = slice_get_within t.records i next.0 next.1 in
    let found = next_found t name number c.other_number-other.result c.other_number-other.ensures ids c.loop-type_id.from i next.2 lt next.4 c.loop-type_id.invariant in
    record {
      completes = one_here t name number ids i lt found c.has_key.result c.has_key.ensures c.if-has_key.true c.push.new.self.items c.in_ok-push.ensures.items;
      few = omega (arith, c.if-len-gt-CANDIDATE_LIMIT.false, c.len.ensures);
    }

pub loop-type_id-smaller : goal.loop-type_id-smaller
loop-type_id-smaller c =
    let next = c.in-Some.ensures.next in
    omega (arith, next.2, slice_get_within c.args.table.now.records c.in-Some.type_id next.0 next.1)

pub loop-type_id-preserved : goal.loop-type_id-preserved
loop-type_id-preserved c =
    let t = c.args.table.now in
    let name = c.essential_name-essential.result.now in
    let number = c.comparison_number-number.result in
    let ids = c.loop-type_id.ids.items in
    let i = c.in-Some.type_id in
    let next = c.in-Some.ensures.next in
    let lt : i < length t.records = slice_get_within t.records i next.0 next.1 in
    let found = next_found t name number c.other_number-other.result c.other_number-other.ensures ids c.loop-type_id.from i next.2 lt next.4 c.loop-type_id.invariant in
    not_here t name number ids i lt found c.has_key.result c.has_key.ensures c.if-has_key.false

pub returns : goal.returns
returns c =
    let t = c.args.table.now in
    let name = c.essential_name-essential.result.now in
    let number = c.comparison_number-number.result in
    none_next t name number c.other_number-other.result c.other_number-other.ensures c.loop-type_id.ids.items c.loop-type_id.from c.in_default.ensures.next c.loop-type_id.invariant
    ∙ sought t c.args.name.now name (kind_code c.args.kind) number c.essential_name-essential.ensures c.comparison_number-number.ensures.code
