-- An object that is rewritten, or why it is not.
use Rattle.std.proofs.Common.{◌≡◌, ◌⊎◌, ℕ, Bool, List, Some, Result, Err, refl, sym, ap, subst, ◌∙◌, inl, inr}
use Rattle.std.specs.Prelude.{IfErr, IfSome, IsErrAnd}
use Rattle.std.proofs.lemmas.Option.{same_Some}
use Rattle.std.proofs.lemmas.Result.{err_from_is_err_and}
use Rattle.btf_model.specs.Blob.{canon}
use Rattle.btf_model.specs.Table.{Table}
use Rattle.btf_elf.specs.Writing.{replace_error, HasReplaced}
use Rattle.btf_elf.specs.declared.error.ReplaceError.{ReplaceError}
use Rattle.btf_elf.specs.declared.error.ReplaceError.TheVariants as replace
use Rattle.btf_elf_model.specs.Object.{Object, IsObject, section_bytes}
use Rattle.btf_elf_model.specs.Replaced.{ReplacesSection}
use Rattle.btf_elf_model.specs.declared.section_header.SectionHeader.{SectionHeader}
use Rattle.btf_rewrite_model.specs.declared.feature.FeatureAnswer.{FeatureAnswer}
use Rattle.btf_model.specs.Refusal.{Refusal}
use Rattle.btf_rewrite_model.specs.declared.feature.BtfFeature.{BtfFeature}
use Rattle.btf_object_model.specs.Sanitized.{Target, HasSection, RewritesTable, IsSanitized, table_name}
use Rattle.btf_object_model.specs.SanitizedFinalized.{RewritesFinalized, IsSanitizedFinalized, written_table}
use Rattle.btf_object_model.specs.declared.reader.TableReader.{TableReader}
use Rattle.btf_plain.specs.Error.{refusal_of}
use Rattle.btf_plain.specs.declared.error.BtfError.{BtfError}
use Rattle.btf_plain.specs.declared.error.BtfError.TheVariants as table
use Rattle.btf_object.specs.Errors.{from_table, of_section, IsCauseBy}
use Rattle.btf_object.specs.Names.{IsTableSection}
use Rattle.btf_object.specs.declared.error.SanitizeError.{SanitizeError}

-- an object is that of its bytes
pub whole : (o : Object) (bytes : List ℕ) → bytes ≡ o.bytes → IsObject bytes o → IsObject o.bytes o
whole o bytes is object = subst (λ (b : List ℕ). IsObject b o) is object

-- what is known about the bytes of a parsed object
pub of_bytes : (P : List ℕ → Type 0) (bytes : List ℕ) (o : Object) → IsObject bytes o → P o.bytes → P bytes
of_bytes P bytes o is known = subst P (ap (λ (x : Object). x.bytes) is.object) known

-- what is known about an error that is converted to another
pub becomes : {T : Type 0} (P : SanitizeError → Type 0) (e : SanitizeError) (r : Result T SanitizeError) → P e → IsErrAnd r (λ y. y ≡ e) → IfErr r P
becomes {T} P e r known err =
    let q = err_from_is_err_and r err in
    subst (λ (x : Result T SanitizeError). IfErr x P) (sym (q.1 ∙ ap (λ (x : SanitizeError). Err x) q.2)) known

module _ (bytes : List ℕ) (o : Object) (index : ℕ) (t : List ℕ) (object : IsObject bytes o) (f : IsTableSection o index t) where
  has_section : HasSection bytes table_name o index f.section
  has_section = record { object = object; first = f.first; header = f.here }

  -- the table of the section is refused
  pub table_cause : (Refuses : Object → List ℕ → Refusal → Type 0) (Rewrites : Object → List ℕ → Type 0) (e : BtfError) → IfSome (refusal_of e) (Refuses o t) → IsCauseBy Refuses Rewrites bytes (from_table e)
  table_cause Refuses Rewrites e refused =
      let here : IfSome (refusal_of e) (Refuses o (section_bytes o f.section)) = subst (λ (b : List ℕ). IfSome (refusal_of e) (Refuses o b)) f.bytes_are refused in
      elim e as (λ (x : BtfError). IfSome (refusal_of x) (Refuses o (section_bytes o f.section)) → IsCauseBy Refuses Rewrites bytes (from_table x))
      [ table.OutOfMemory ↦ λ _. tt | _ ↦ λ is. (o, index, f.section, has_section, (_, refl, is)) ] here

  -- the section cannot be replaced
  pub section_cause : (Refuses : Object → List ℕ → Refusal → Type 0) (Rewrites : Object → List ℕ → Type 0) (e : ReplaceError) → Rewrites o t → (replace_error o index ≡ Some e) ⊎ (e ≡ replace.OutOfMemory) → IsCauseBy Refuses Rewrites bytes (of_section e)
  section_cause Refuses Rewrites e rewrites (inr is) = subst (λ (x : ReplaceError). IsCauseBy Refuses Rewrites bytes (of_section x)) (sym is) tt
  section_cause Refuses Rewrites e rewrites (inl is) =
      let here : Rewrites o (section_bytes o f.section) = subst (Rewrites o) f.bytes_are rewrites in
      elim e as (λ (x : ReplaceError). replace_error o index ≡ Some x → IsCauseBy Refuses Rewrites bytes (of_section x))
      [ replace.OutOfMemory ↦ λ _. tt | _ ↦ λ same. (o, index, f.section, has_section, (here, same)) ] is

  -- the new bytes are in the section
  in_place : (given new file : List ℕ) → given ≡ new → HasReplaced o index given file → (new_object : Object) × IsObject file new_object × ReplacesSection o index f.section new new_object
  in_place given new file is replaced =
      let same : replaced.0 ≡ f.section = same_Some replaced.0 f.section (sym replaced.1 ∙ f.here) in
      let new_object : Object = replaced.2.0 in (
        new_object,
        replaced.2.1,
        subst (λ (s : SectionHeader). ReplacesSection o index s new new_object) same (subst (λ (b : List ℕ). ReplacesSection o index replaced.0 b new_object) is replaced.2.2),
      )

  -- the rewritten table is in its section
  pub sanitized : (target : Target) (given file : List ℕ) (answers : List FeatureAnswer) → (old new : Table) × RewritesTable o t target old new answers × (given ≡ canon new) → HasReplaced o index given file → IsSanitized bytes target file answers
  sanitized target given file answers m replaced = record {
    object = o;
    index = index;
    header = f.section;
    section = has_section;
    old = m.0;
    new = m.1;
    table = subst (λ (b : List ℕ). RewritesTable o b target m.0 m.1 answers) f.bytes_are m.2;
    replaced = in_place given (canon m.1) file m.3 replaced;
  }

  -- so is the table that was finalized before
  pub sanitized_finalized : (has : BtfFeature → Bool) (reader : TableReader) (given file : List ℕ) (answers : List FeatureAnswer) → (old base new : Table) × (made : RewritesFinalized o t has reader old base new answers) × (given ≡ canon (written_table reader old base made.ids new)) → HasReplaced o index given file
      → IsSanitizedFinalized bytes has reader file answers
  sanitized_finalized has reader given file answers m replaced =
      let Made : List ℕ → Type 0 = λ b. (made : RewritesFinalized o b has reader m.0 m.1 m.2 answers) × (given ≡ canon (written_table reader m.0 m.1 made.ids m.2)) in
      let here : Made (section_bytes o f.section) = subst Made f.bytes_are (m.3, m.4) in
      record {
        object = o;
        index = index;
        header = f.section;
        section = has_section;
        old = m.0;
        base = m.1;
        new = m.2;
        table = here.0;
        replaced = in_place given (canon (written_table reader m.0 m.1 here.0.ids m.2)) file here.1 replaced;
      }
