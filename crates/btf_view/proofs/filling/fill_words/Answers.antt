use Rattle.std.proofs.Common.{◌≡◌, ◌∙◌, ◌<◌, Some, length, min, get_or, sym, ap, subst, arith}
use Rattle.std.specs.Prelude.{map}
use Rattle.std.specs.Option.{option_map}
use Rattle.std.proofs.Math.Nat.{min-le_left, min-le_right}
use Rattle.std.proofs.lemmas.List.{length-map}
use Rattle.std.proofs.lemmas.Option.{slice_get-get_or, slice_get-map}
use Rattle.btf_view.specs.Forms.{words_in}
use Rattle.btf_view.specs.declared.forms.TypeWords.{TypeWords}
use Rattle.btf_view.proofs.Fills.{Written, one_written, all_written}
use Rattle.btf_view.proofs.Places.{placed, as_many_places}
use Rattle.btf_view.proofs.filling.fill_words.Goals as goal

pub loop-index-preserved : goal.loop-index-preserved
loop-index-preserved c rs h =
    let i = c.loop-index.index in
    let places = c.args.places.now in
    let low : i < length places = omega (arith, c.loop-index-test.true, c.min-count.ensures, min-le_right (length c.args.out.now) (length places)) in
    let room : i < length c.loop-index.out = omega (arith, c.loop-index-test.true, c.loop-index.auto.out, c.min-count.ensures, min-le_left (length c.args.out.now) (length places)) in
    let found = placed c.args.endianness c.args.types.now places rs i (get_or places i 0) h (slice_get-get_or places i 0 low) in
    let words : words_in found.0 ≡ c.write_words.new.slot = sym (c.write_words.ensures found.0 found.2) in
    one_written (map words_in rs) c.args.out.now c.loop-index.out i c.write_words.new.slot (c.loop-index.invariant rs h) room
    (slice_get-map words_in rs i ∙ ap (option_map words_in) found.1 ∙ ap (λ (w : TypeWords). Some w) words)

pub returns : goal.returns
returns c rs h =
    let k = c.min-count.result in
    let items = map words_in rs in
    let end : c.loop-index.index ≡ k = omega (arith, c.loop-index-test.false, c.loop-index.auto.index-end) in
    let many : length c.args.places.now ≡ length items = as_many_places c.args.endianness c.args.types.now c.args.places.now rs h ∙ sym (length-map rs words_in) in
    all_written items c.args.out.now c.loop-index.out k (subst (Written items c.args.out.now c.loop-index.out) end (c.loop-index.invariant rs h))
    (c.min-count.ensures ∙ ap (min (length c.args.out.now)) many)
