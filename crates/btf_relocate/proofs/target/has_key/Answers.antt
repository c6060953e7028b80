use Rattle.std.proofs.Common.{◌≡◌, ◌∙◌, drop, sym, ap}
use Rattle.std.specs.List.{starts_with}
use Rattle.std.specs.Option.{option_map}
use Rattle.std.specs.Prelude.{nat_eq}
use Rattle.std.proofs.lemmas.Option.{same_Some}
use Rattle.std.proofs.lemmas.Bool.Decides.{Decides-eqb}
use Rattle.std.proofs.lemmas.Slice.Eq.{starts_is}
use Rattle.btf_plain.specs.declared.head.Head.{Head}
use Rattle.btf_view.specs.TypeRef.{first_three}
use Rattle.btf_relocate.proofs.Scans.{strings_otherwise}
use Rattle.btf_relocate.proofs.target.has_key.Goals as goal

pub returns-then-not-begins : goal.returns-then-not-begins
returns-then-not-begins c r there =
    let t = c.args.table.now in
    let name = c.args.name.now in
    let head : c.in-Some.head ≡ first_three r = same_Some c.in-Some.head (first_three r) (sym c.in-Some.is ∙ c.head.ensures ∙ ap (option_map first_three) there) in
    let is = c.begins.ensures ∙ ap (λ (h : Head). starts_with nat_eq (drop h.name t.strings) name) head in
    strings_otherwise t name c.args.kind r c.begins.result (starts_is Decides-eqb (drop r.name t.strings) name c.begins.result is).1 c.if-not-begins.true
