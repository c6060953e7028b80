-- Paths, as the definitions see them.
use Rattle.std.specs.Prelude.{map}
use Rattle.std.specs.Option.{option_map}
use Rattle.btf_relocate_model.specs.Path as model
use Rattle.btf_relocate_model.specs.Path.{PathStep, AtIndex, ToMember}
use Rattle.btf_relocate.specs.declared.path.Accessor.{Accessor}
use Rattle.btf_relocate.specs.declared.path.Accessor.TheVariants.{Element, Member}
use Rattle.btf_relocate.specs.declared.path.Place.{Place}
use Rattle.btf_relocate.specs.declared.path.Path.{Path}

abbrev pub step_of : Accessor → PathStep
step_of (Element index) = AtIndex index
step_of (Member name type) = ToMember name.now type

abbrev pub place_of : Place → model.Place
place_of p = record { field = p.field; step = option_map step_of p.step }

abbrev pub model_path : Path → model.Path
model_path p = record { steps = map step_of p.accessors.items; field = p.field }
