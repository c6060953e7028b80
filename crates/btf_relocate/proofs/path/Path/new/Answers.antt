use Rattle.std.proofs.Common.{◌≡◌, ◌++◌, ◌∷◌, [], ◌∙◌, List, length, true, get_or, drop, map, sym, ap}
use Rattle.btf_relocate_model.specs.Path.{path_of}
use Rattle.btf_relocate.specs.Paths.{step_of}
use Rattle.btf_relocate.specs.declared.path.Accessor.{Accessor}
use Rattle.btf_relocate.specs.declared.path.Accessor.TheVariants.{Element}
use Rattle.btf_relocate.proofs.Paths.{finish, first_step, by_first, some_of}
use Rattle.btf_relocate.proofs.path.Path.new.Goals as goal

pub loop-at-init : goal.loop-at-init
loop-at-init c =
    let is = c.indices-indices.result.now in
    let t = c.args.table.now in
    let first : is ≡ get_or is 0 0 ∷ drop 1 is = by_first is (some_of (length is) c.is_empty.result c.is_empty.ensures c.if-is_empty.false) in
    let steps : c.push.new.self.items ≡ Element (get_or is 0 0) ∷ [] = c.in_ok-push.ensures.items ∙ ap (λ (xs : List Accessor). xs ++ Element (get_or is 0 0) ∷ []) c.in_ok-accessors.ensures.items in
    ap (λ (xs : List Accessor). finish t (map step_of xs) true c.in_ok-field.field (drop 1 is)) steps
    ∙ first_step t c.args.type_id (get_or is 0 0) (drop 1 is) c.in_ok-field.field (sym c.place.ensures ∙ c.in_ok-field.was)
    ∙ ap (path_of t c.args.type_id) (sym first)
