use Rattle.std.proofs.Common.{ℕ, ap, sym, ◌∙◌, Option}
use Rattle.std.specs.Option.{option_or}
use Rattle.btf_compare.specs.Entries.{values_in}
use Rattle.btf_compare.specs.Buckets.{bucket_of}
use Rattle.btf_compare.specs.declared.entries.Progress.{Progress}
use Rattle.btf_compare.proofs.PairTables.{within, value_here}
use Rattle.btf_compare.proofs.pair_table.PairTable.get.Goals as goal

pub index-bucket-requires : goal.index-bucket-requires
index-bucket-requires c =
    let t = c.self.inside in
    rw (c.bucket_of.ensures, c.len.ensures, t.buckets.ok.0) (within t.buckets.items t.mask t.further.entries c.self.invariant.0 c.args.pair)

pub returns-in-Some : goal.returns-in-Some
returns-in-Some c =
    let t = c.self.inside in
    rw (sym c.self.view_is) (
    sym (value_here t.buckets.items t.mask t.further.entries c.self.invariant.0 c.args.pair c.bucket_of.result (c.bucket_of.ensures ∙ ap (λ (n : ℕ). bucket_of t.mask n c.args.pair) (c.len.ensures ∙ t.buckets.ok.0)) c.index-bucket.result.now c.index-bucket.ensures
    ∙ ap (λ (o : Option Progress). option_or o (values_in t.further.entries c.args.pair)) (sym c.get.ensures ∙ c.in-Some.is)))
