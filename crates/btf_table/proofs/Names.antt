-- The search for a name, type after type.
use Rattle.std.proofs.Common.{◌≡◌, ◌≢◌, ℕ, ◌+◌, ◌<◌, Bool, true, false, List, [], ◌∷◌, ◌++◌, length, take, drop, get_or, Option, None, Some, Result, Ok, Err, refl, sym, ap, subst, ◌∙◌, arith, ◌⊎◌, inr, ⊎_elim}
use Rattle.std.specs.Prelude.{map, slice_get, option_map, IfSome, MatchOption}
use Rattle.std.specs.Str.{IsUtf8, bytes_eq}
use Rattle.std.proofs.Math.Nat.{min-le_left}
use Rattle.std.proofs.lemmas.Bool.{cases_order, false≢true, true≢false}
use Rattle.std.proofs.lemmas.List.{get_or-drop, get_or-take, length-take}
use Rattle.std.proofs.lemmas.Option.{none-some, same_Some, slice_get-map, slice_get_read, slice_get_within, get_or_from_slice_get, IfSome_then}
use Rattle.std.proofs.lemmas.Slice.Eq.{bytes_eq-Decides}
use Rattle.btf_model.specs.Record.{Kind, Record, kind_of}
use Rattle.btf_model.specs.Refusal.{Refusal}
use Rattle.btf_model.specs.Text.{text_at, IsPassed, ArePassed}
use Rattle.btf_plain.specs.Error.{MeetsOrNoMemory, refusal_of}
use Rattle.btf_plain.specs.declared.error.BtfError.{BtfError}
use Rattle.btf_records.specs.BtfType.{record_of}
use Rattle.btf_records.specs.declared.btf_type.BtfType.{BtfType}
use Rattle.btf_table.specs.BtfStr.{HasName, IsNamed}
use Rattle.btf_table.specs.Readable.{IsReadableEnd, IsComparable, HasNameAt}
use Rattle.btf_table.proofs.Readable.{text_is_name, name_at_text}

-- a text that was compared with a name
pub text_compared : (strings name text : List ℕ) (offset : ℕ) (same : Bool) → Ok text ≡ text_at strings offset → same ≡ bytes_eq text name → HasName strings offset name (Ok same)
text_compared strings name text offset true is same = sym is ∙ ap (λ (x : List ℕ). Ok x) ((bytes_eq-Decides text name).0 (sym same))
text_compared strings name text offset false is same = (text, sym is, λ e. true≢false (sym ((bytes_eq-Decides text name).1 e) ∙ sym same))

-- bytes that were compared with a name
pub bytes_compared : (strings name : List ℕ) (offset end : ℕ) (same : Bool) → IsReadableEnd strings end → IsUtf8 name → IsComparable name → offset < end
    → (same ≡ true → HasNameAt strings offset name) × (HasNameAt strings offset name → same ≡ true) → HasName strings offset name (Ok same)
bytes_compared strings name offset end same readable utf8 comparable low decides = by_cases same refl
  where
    text : (text : List ℕ) × (text_at strings offset ≡ Ok text)
    text = readable.below offset low

    by_cases : (b : Bool) → same ≡ b → HasName strings offset name (Ok b)
    by_cases true is = text.1 ∙ ap (λ (x : List ℕ). Ok x) (text_is_name strings name text.0 offset utf8 comparable text.1 (decides.0 is))
    by_cases false is = (text.0, text.1, λ e. true≢false (sym (decides.1 (name_at_text strings name text.0 offset comparable text.1 e)) ∙ is))

-- a text that begins with another byte than the name
pub begins_otherwise : (strings name readable : List ℕ) (offset first byte : ℕ) (readable_end : Option ℕ) → IfSome readable_end (λ end. IsReadableEnd strings end × IsComparable name)
    → MatchOption readable_end (readable ≡ []) (λ end. readable ≡ take end strings) → IsUtf8 name → ((rest : List ℕ) → get_or (name ++ 0 ∷ rest) 0 0 ≡ first)
    → slice_get readable offset ≡ Some byte → byte ≢ first → HasName strings offset name (Ok false)
begins_otherwise strings name readable offset first byte None ends none utf8 firsts at other = absurd (none-some byte (sym (ap (λ (xs : List ℕ). slice_get xs offset) none) ∙ at))
begins_otherwise strings name readable offset first byte (Some end) ends taken utf8 firsts at other =
    bytes_compared strings name offset end false ends.0 utf8 ends.1 low (λ t. absurd (false≢true t), λ has. absurd (other (sym byte_at ∙ ap (λ (xs : List ℕ). get_or xs 0 0) has.1 ∙ firsts has.0)))
  where
    in_taken : slice_get (take end strings) offset ≡ Some byte
    in_taken = sym (ap (λ (xs : List ℕ). slice_get xs offset) taken) ∙ at

    within : offset < length (take end strings)
    within = slice_get_within (take end strings) offset byte in_taken

    low : offset < end
    low = omega (arith, within, length-take end strings, min-le_left end (length strings))

    no_further : offset + 0 ≡ offset
    no_further = omega arith

    byte_at : get_or (drop offset strings) 0 0 ≡ byte
    byte_at = get_or-drop offset strings 0 0 ∙ ap (λ (k : ℕ). get_or strings k 0) no_further ∙ sym (get_or-take end strings offset 0 low) ∙ get_or_from_slice_get (take end strings) offset byte 0 in_taken

-- a type of the kind, whose name was compared
kind_named : (strings : List ℕ) (k : Kind) (name : List ℕ) (r : Record) (answer : Result Bool Refusal) → kind_of r.info ≡ Some k → HasName strings r.name name answer → IsNamed strings k name r answer
kind_named strings k name r (Ok true) kind is = (kind, is)
kind_named strings k name r (Ok false) kind is = inr is
kind_named strings k name r (Err refusal) kind is = (kind, is)

pub named_by : (strings : List ℕ) (k : Kind) (name : List ℕ) (r : Record) (offset : ℕ) (x : Result Bool BtfError) → kind_of r.info ≡ Some k → offset ≡ r.name → MeetsOrNoMemory (λ b. b) x (HasName strings offset name) → MeetsOrNoMemory (λ b. b) x (IsNamed strings k name r)
named_by strings k name r offset (Ok same) kind at is = kind_named strings k name r (Ok same) kind (subst (λ (o : ℕ). HasName strings o name (Ok same)) at is)
named_by strings k name r offset (Err e) kind at is = IfSome_then (refusal_of e) is (λ refusal unread. kind_named strings k name r (Err refusal) kind (subst (λ (o : ℕ). HasName strings o name (Err refusal)) at unread))

-- the search skips one more type
pub passed_one : (strings : List ℕ) (records : List Record) (k : Kind) (name : List ℕ) (id : ℕ) (r : Record) → ArePassed strings records k name id → slice_get records id ≡ Some r → IsPassed strings k name r → ArePassed strings records k name (id + 1)
passed_one strings records k name id r below is passed low q lt at =
    ⊎_elim
    (λ (same : low ≡ id). subst (IsPassed strings k name) (same_Some r q (sym is ∙ sym (ap (slice_get records) same) ∙ at)) passed)
    (λ (other : (low < id) ⊎ (id < low)).
    ⊎_elim (λ (less : low < id). below low q less at) (λ (more : id < low). absurd (omega (arith, lt, more))) other)
    (cases_order low id)

-- the record of the type at an index
pub record_at : (types : List BtfType) (id : ℕ) (t : BtfType) → id < length types → t ≡ get_or types id t → slice_get (map record_of types) id ≡ Some (record_of t)
record_at types id t low is = slice_get-map record_of types id ∙ ap (option_map record_of) (slice_get_read types (length types) id t refl low is)
