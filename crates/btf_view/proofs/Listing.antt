-- The items of a type, and the errors of a call that writes them.
use Rattle.std.proofs.Common.{◌≡◌, ◌≢◌, ◌∙◌, ◌≤◌, ◌*◌, ℕ, List, length, take, Option, Some, None, Result, Ok, Err, refl, sym, ap, subst, arith, inl, inr}
use Rattle.std.specs.Prelude.{slice_get, IsErrAnd}
use Rattle.std.proofs.lemmas.Result.{err_from_is_err_and}
use Rattle.std.proofs.lemmas.Option.{same_Some}
use Rattle.btf_model.specs.declared.endianness.Endianness.{Endianness}
use Rattle.btf_model.specs.Record.{Kind, Record, Var, kind_of, vlen, tail_words}
use Rattle.btf_model.specs.Refusal as refusals
use Rattle.btf_model.specs.Word.{words_at}
use Rattle.btf_plain.specs.Kind.{kind}
use Rattle.btf_plain.specs.declared.error.BtfError.{BtfError}
use Rattle.btf_plain.specs.declared.error.BtfError.TheVariants as errors
use Rattle.btf_view.specs.Forms.{Begins, ListsItems}
use Rattle.btf_view.specs.Items.{FillsItems, ItemsOf}
use Rattle.btf_view.specs.Record.{AreParts}
use Rattle.btf_view.specs.declared.record.Parts.{Parts}

-- the items of a record are written
pub items_listed : {X : Type 0} (items_of : Kind → Record → Option (List X)) (forms_in : ℕ → List ℕ → List X) (width : ℕ) (order : Endianness) (records : List Record) (id count : ℕ) (parts : Parts) (r : Record) (k : Kind) (old new : List X)
    → slice_get records id ≡ Some r → AreParts order parts r → kind parts.kind ≡ k → k ≢ Var → ((n : ℕ) → tail_words k n ≡ width * n) → items_of k r ≡ Some (forms_in r.info r.tail)
    → FillsItems width forms_in order parts.info parts.tail.now old new count → ListsItems old new (Ok count) (ItemsOf items_of records id)
items_listed {X} items_of forms_in width order records id count parts r k old new there p is not-var wide lists written =
    let tail = parts.tail.now in
    let t = p.tail_is in
    let has : kind_of r.info ≡ Some k = p.kind_is ∙ ap (λ (j : Kind). Some j) is in
    let same : t.kind ≡ k = same_Some t.kind k (sym t.has ∙ has) in
    let len : length r.tail ≡ width * vlen parts.info = t.len ∙ ap (λ (j : Kind). tail_words j (vlen r.info)) same ∙ wide (vlen r.info) ∙ ap (λ (i : ℕ). width * vlen i) (sym p.info_is) in
    let words : r.tail ≡ words_at order (width * vlen parts.info) tail = t.words (λ e. not-var (sym same ∙ e)) ∙ ap (λ (n : ℕ). words_at order n tail) len in
    let items : forms_in parts.info (words_at order (width * vlen parts.info) tail) ≡ forms_in r.info r.tail = (λ i. forms_in (p.info_is i) (sym words i)) in (
      forms_in r.info r.tail,
      subst (λ (xs : List X). Begins (take (length old) xs) old new count) items (written (omega (arith, t.long, len))),
      (k, r, there, has, lists),
    )

-- no type has the id
pub unlisted : {X : Type 0} (items_of : Kind → Record → Option (List X)) (records : List Record) (id : ℕ) (e : BtfError) (old : List X) (r : Result ℕ BtfError) → IsErrAnd r (λ y. y ≡ e) → (length records ≤ id) × (e ≡ errors.UnknownBtfType id) → ListsItems old old r (ItemsOf items_of records id)
unlisted items_of records id e old r err past =
    let p = err_from_is_err_and r err in
    subst (λ (x : Result ℕ BtfError). ListsItems old old x (ItemsOf items_of records id)) (sym (p.1 ∙ ap (λ (x : BtfError). Err x) (p.2 ∙ past.1)))
    (refl, refusals.UnknownBtfType id, refl, inl (past.0, refl))

-- the type has another kind
pub other_kind : {X : Type 0} (items_of : Kind → Record → Option (List X)) (order : Endianness) (records : List Record) (id : ℕ) (parts : Parts) (r : Record) (old : List X)
    → slice_get records id ≡ Some r → AreParts order parts r → items_of (kind parts.kind) r ≡ None → ListsItems old old (Err (errors.UnexpectedBtfType id)) (ItemsOf items_of records id)
other_kind items_of order records id parts r old there p none = (refl, refusals.UnexpectedBtfType id, refl, inr (kind parts.kind, r, there, p.kind_is, none, refl))
