use Rattle.std.proofs.Common.{◌≡◌, length, arith}
use Rattle.std.proofs.lemmas.Bool.Decides.{nat_tests}
use Rattle.btf_object.proofs.PutBack.{same_len}
use Rattle.btf_object.proofs.finalize.externs.is_still_section.Goals as goal

pub returns-in-Some-clause-some : goal.returns-in-Some-clause-some
returns-in-Some-clause-some c = λ same.
    let counts : length c.entries-in-Some.result.now ≡ length c.entries.result.now = grind (arith, nat_tests, same) in
    record {
      now = c.in-Some.found.now;
      section = c.in-Some.ensures.some;
      len = same_len c.args.section.now c.in-Some.found.now c.entries-in-Some.result.now c.entries.result.now c.entries-in-Some.ensures.words c.entries.ensures.words counts;
    }
