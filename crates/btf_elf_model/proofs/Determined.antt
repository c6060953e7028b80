-- Bytes represent one object, or have one first error.
use Rattle.std.proofs.Common.{◌≡◌, ◌⊎◌, List, ℕ, Option, Some, None, sym, ◌∙◌, inl, inr, refl}
use Rattle.std.proofs.lemmas.Option.{same_Some, none-some}
use Rattle.btf_elf_model.specs.Object.{Object, IsObject, IsParseError, object_of, parse_error}
use Rattle.btf_elf_model.specs.declared.error.ParseError.{ParseError}

pub one_object : (bytes : List ℕ) (o p : Object) → IsObject bytes o → IsObject bytes p → o ≡ p
one_object bytes o p a b = a.object ∙ sym b.object

pub one_error : (bytes : List ℕ) (e f : ParseError) → IsParseError bytes e → IsParseError bytes f → e ≡ f
one_error bytes e f a b = same_Some _ _ (sym a ∙ b)

pub not_both : (bytes : List ℕ) (o : Object) (e : ParseError) → IsObject bytes o → IsParseError bytes e → ⊥
not_both bytes o e a b = none-some _ (sym a.no_error ∙ b)

one_of_options : (bytes : List ℕ) (e : Option ParseError) → parse_error bytes ≡ e
    → ((o : Object) × IsObject bytes o) ⊎ ((f : ParseError) × IsParseError bytes f)
one_of_options bytes None is = inl (object_of bytes, record { no_error = is; object = refl })
one_of_options bytes (Some f) is = inr (f, is)

pub one_of_both : (bytes : List ℕ) → ((o : Object) × IsObject bytes o) ⊎ ((e : ParseError) × IsParseError bytes e)
one_of_both bytes = one_of_options bytes (parse_error bytes) refl
