-- Sections of an object, for C.
use Rattle.std.specs.Prelude.{◌≡◌, ◌⊎◌, ℕ, List, length, Option, Some, None, slice_get}
use Rattle.btf_elf.specs.declared.error.ObjectError.{ObjectError}
use Rattle.btf_elf.specs.Results.{IsElfError}
use Rattle.btf_elf_model.specs.Object.{Object, IsObject, section_bytes}
use Rattle.btf_elf_model.specs.declared.section_header.SectionHeader.{SectionHeader}
use Rattle.btf_object.specs.declared.error.SanitizeError.TheVariants as causes
use Rattle.btf_object_model.specs.Sanitized.{HasSection, first_section_index}
use Rattle.vbtf.specs.Object.{ReportsNumber, ReportsCause}
use Rattle.vbtf.specs.Orders.{order_number}
use Rattle.vbtf.specs.Status.{no_details}
use Rattle.vbtf.specs.declared.fault.Fault.{Fault}
use Rattle.vbtf.specs.declared.section.Place.{Place}

-- the place of a section's bytes
abbrev pub place_in : Object → SectionHeader → Place
place_in o s = record { offset = s.offset; len = length (section_bytes o s); order = order_number o.header.order }

-- the place of the first section of a name, if there is one
abbrev pub FindsSection : Object → List ℕ → Option Place → Type 0
FindsSection o name None = first_section_index o name ≡ None
FindsSection o name (Some place) =
    (index : ℕ) × (s : SectionHeader) × (first_section_index o name ≡ Some index) × (slice_get o.sections index ≡ Some s)
    × (place ≡ place_in o s)

-- The outcomes of a call that finds the first section of a name in an object: status 0 and its place; or status 105 if
-- there is none; or the reason why the bytes are no object, or a failed allocation. After an error the place is as
-- before.
abbrev pub EndsLocating : ℕ → List ℕ → List ℕ → Place → Place → Fault → Type 0
EndsLocating status bytes name old new fault =
    ((o : Object) × (index : ℕ) × (s : SectionHeader) × HasSection bytes name o index s × (status ≡ 0)
    × (new ≡ place_in o s))
    ⊎ ((new ≡ old)
    × (((o : Object) × IsObject bytes o × (first_section_index o name ≡ None) × ReportsNumber status fault 105 no_details)
    ⊎ ((e : ObjectError) × IsElfError bytes e × ReportsCause status fault (causes.Object e))))
