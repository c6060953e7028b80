-- What a view shows.
use Rattle.std.specs.Prelude.{List}
use Rattle.btf_model.specs.Record.{Record}
use Rattle.btf_view.specs.Places.{AreIndexed}
use Rattle.btf_view.specs.declared.view.View.{View}

-- The places are those of these records, which are in the view's type section.
abbrev pub Shows : View → List Record → Type 0
Shows view records = AreIndexed view.endianness view.types.now view.places.now records
