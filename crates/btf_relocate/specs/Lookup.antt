-- Lookups in a table, with the errors of a relocation.
use Rattle.std.specs.Prelude.{Err, MatchResult, Ok, Result, ◌≡◌}
use Rattle.btf_model.specs.Record.{Record}
use Rattle.btf_view.specs.TypeRef.{record_in}
use Rattle.btf_view.specs.declared.type_ref.TypeRef.{TypeRef}
use Rattle.btf_relocate_model.specs.declared.error.RelocationError.{RelocationError}

-- The result is the type of this record, or the error.
abbrev pub GivesType : Result Record RelocationError → Result TypeRef RelocationError → Type 0
GivesType expected result = MatchResult result (λ t. expected ≡ Ok (record_in t)) (λ e. expected ≡ Err e)
