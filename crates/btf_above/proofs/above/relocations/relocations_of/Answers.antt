use Rattle.std.proofs.Common.{Ok, ◌≤◌, arith, List, ℕ, map, length, ◌++◌, refl, ap, ◌∙◌}
use Rattle.std.specs.Option.{option_map}
use Rattle.std.proofs.lemmas.Option.{slice_get-map, slice_get_read}
use Rattle.std.proofs.lemmas.List.{length-map}
use Rattle.btf_model.specs.RelocationWords.{RelocationSection, Words}
use Rattle.btf_plain.specs.Error.{MeetsOrNoMemory}
use Rattle.btf_ext.specs.Relocation.{relocation}
use Rattle.btf_above.proofs.Finding.{handed, section_error, only_words, all_read, names_more, words_joined, words_passed}
use Rattle.btf_above.proofs.above.relocations.relocations_of.Goals as goal
use Rattle.btf_above.proofs.above.relocations.relocations_of.Goals.{then-branch+in_ok-extend_from_slice, else-branch}

pub returns-in_err-is_named : goal.returns-in_err-is_named
returns-in_err-is_named g c =
    let ss : _ = c.relocations-offset-items.result.now in
    let i : ℕ = c.loop-offset.offset-index in
    let e : _ = c.in_err-is_named.field-0.0 in
    let words : MeetsOrNoMemory (λ v. v.items) c.from_residual.result (Words c.args.btf.now.strings (map relocation ss) c.args.name.now) =
    section_error (λ v. v.items) c.args.btf.now.strings c.args.name.now (map relocation ss) i (relocation c.loop-offset-item.result) e c.from_residual.result (handed c.from_residual.result e c.from_residual.ensures.1)
    (slice_get-map relocation ss i ∙ ap (option_map relocation) (slice_get_read ss (length ss) i c.loop-offset-item.result refl c.loop-offset-test.true c.loop-offset-item.is))
    c.loop-offset.invariant.names c.in_err-is_named.ensures.named in
    rw (← c.relocations-offset-items.ensures) (record { words = words; only = only_words (λ v. v.items) c.args.btf.now.strings c.args.name.now (map relocation ss) c.from_residual.result words })

pub returns-clause-only : goal.returns-clause-only
returns-clause-only g c =
    let ss : _ = c.relocations-offset-items.result.now in
    let end : length (map relocation ss) ≤ c.loop-offset.offset-index = omega (arith, length-map ss relocation, c.loop-offset-test.false) in
    rw (← c.relocations-offset-items.ensures) (only_words (λ v. v.items) c.args.btf.now.strings c.args.name.now (map relocation ss) (Ok c.loop-offset.found)
    (all_read c.args.btf.now.strings c.args.name.now (map relocation ss) c.loop-offset.offset-index c.loop-offset.found.items end c.loop-offset.invariant.names c.loop-offset.invariant.words))

pub loop-offset-preserved : goal.loop-offset-preserved
loop-offset-preserved g c =
    let ss : _ = c.relocations-offset-items.result.now in
    let i : ℕ = c.loop-offset.offset-index in
    let s : RelocationSection = relocation c.loop-offset-item.result in
    let strings : List ℕ = c.args.btf.now.strings in
    let name : List ℕ = c.args.name.now in
    let at = slice_get-map relocation ss i ∙ ap (option_map relocation) (slice_get_read ss (length ss) i c.loop-offset-item.result refl c.loop-offset-test.true c.loop-offset-item.is) in
    let same = c.in_ok-is_named.field-0 in
    record {
      names = names_more strings name (map relocation ss) i s same at c.loop-offset.invariant.names c.in_ok-is_named.ensures.named;
      words = elim c.if-branch.branch [
        | then-branch+in_ok-extend_from_slice w ↦
            ap (λ v. v.items) w.found-is ∙ w.in_ok-extend_from_slice.ensures.items ∙ ap (λ ws. c.loop-offset.found.items ++ ws) w.deref.ensures.value ∙ ap (λ ws. ws ++ s.1) c.loop-offset.invariant.words
            ∙ words_joined strings name (map relocation ss) i s same at c.in_ok-is_named.ensures.named w.if-branch.true
        | else-branch w ↦ ap (λ v. v.items) w.found-is ∙ c.loop-offset.invariant.words ∙ words_passed strings name (map relocation ss) i s same at c.in_ok-is_named.ensures.named w.if-branch.false
      ];
    }
