-- A comparison of fields or types that has an answer in the bases has the same answer in tables that extend them.
use Rattle.std.proofs.Common.{◌≡◌, ℕ, List, ◌∷◌, refl, sym, subst, ◌∙◌, inl, inr, Bool, true, Result, Ok, Err}
use Rattle.btf_model.specs.Record.{Kind, Int, Array, Enum, Fwd, Enum64, Record}
use Rattle.btf_model.specs.Table.{Table}
use Rattle.btf_model.specs.Refusal.{Refusal, MaximumTypeDepthReached}
use Rattle.btf_model.specs.Walk.{Finding, Ends, walk_limit}
use Rattle.btf_model.specs.Text.{text_at}
use Rattle.btf_model.specs.Fields.{Pair, IsAt, same_names, field_by, FieldsFound, FieldsFind, Fields}
use Rattle.btf_model.specs.Compat.{Position, Decided, On, Pending, ResolvesPair, Finds, AreKnown, Plain, Walked, ComparedInOrder}
use Rattle.btf_model.proofs.Mirrors.{IsFinePosition, IsGiven}
use Rattle.btf_split_model.specs.Split.{Extends}
use Rattle.btf_split_model.proofs.Staying.{IsFound, answer_stays, known_stays, resolving_stays, text_of_base}

module _ (local target l r : Table) (first : Extends local l) (second : Extends target r) where
  resolved_stays : (at p : Pair) → ResolvesPair local target at (Ok p) → ResolvesPair l r at (Ok p)
  resolved_stays at p h = (resolving_stays local l first at.local p.local h.0, resolving_stays target r second at.target p.target h.1)

  here_stays : (id : ℕ) (k : Kind) (w : Record) → IsAt local id k w → IsAt l id k w
  here_stays id k w h = (known_stays local l first id w h.0, h.1)

  there_stays : (id : ℕ) (k : Kind) (w : Record) → IsAt target id k w → IsAt r id k w
  there_stays id k w h = (known_stays target r second id w h.0, h.1)

  finds_stays : (at : Pair) (found : Position) → IsFinePosition found → Finds local target at found → Finds l r at found
  finds_stays at found fine (inl p) = absurd (subst (λ (x : Position). IsFinePosition x) p.2 fine)
  finds_stays at found fine (inr p) =
      inr (p.0, p.1, p.2, p.3, p.4, resolved_stays at p.0 p.5, here_stays p.0.local p.1 p.3 p.6, there_stays p.0.target p.2 p.4 p.7, p.8)

  pair_stays : (p : Pair) (k q : Kind) → AreKnown local target p k q → AreKnown l r p k q
  pair_stays p k q known = (known.0, known.1, here_stays p.local k known.0 known.2, there_stays p.target q known.1 known.3)

  -- ---- fields

  names_stay : (x y u v : Result (List ℕ) Refusal) → ((text : List ℕ) → x ≡ Ok text → u ≡ Ok text) → ((text : List ℕ) → y ≡ Ok text → v ≡ Ok text) → (found : Finding Pair Bool) → IsFound found → Ends (same_names x y) ≡ found → Ends (same_names u v) ≡ found
  names_stay (Ok a) (Ok b) u v one other found fine is = (λ i. Ends (same_names (one a refl i) (other b refl i))) ∙ is
  names_stay (Ok a) (Err f) u v one other found fine is = absurd (subst IsFound (sym is) fine)
  names_stay (Err f) y u v one other found fine is = absurd (subst IsFound (sym is) fine)

  texts_stay : (a b : Record) (found : Finding Pair Bool) → IsFound found → Ends (same_names (text_at local.strings a.name) (text_at target.strings b.name)) ≡ found → Ends (same_names (text_at l.strings a.name) (text_at r.strings b.name)) ≡ found
  texts_stay a b found fine is =
      names_stay (text_at local.strings a.name) (text_at target.strings b.name) (text_at l.strings a.name) (text_at r.strings b.name)
      (text_of_base local l first a.name) (text_of_base target r second b.name) found fine is

  field_stays : (id : ℕ) (k q : Kind) (a b : Record) (found : Finding Pair Bool) → IsFound found → field_by local target id k q a b ≡ found → field_by l r id k q a b ≡ found
  field_stays id Fwd q a b found fine is = texts_stay a b found fine is
  field_stays id Enum q a b found fine is = texts_stay a b found fine is
  field_stays id Enum64 q a b found fine is = texts_stay a b found fine is
  field_stays id Int Int a b found fine is = is
  field_stays id Array Array a b found fine is = is
  field_stays id k q a b found fine is = is

  fields_found : (id : ℕ) (k q : Kind) (a b : Record) (found : Finding Pair Bool) → IsFound found → FieldsFound local target id k q a b found → FieldsFound l r id k q a b found
  fields_found id k q a b found fine (inl p) = inl p
  fields_found id k q a b found fine (inr (inl p)) = inr (inl p)
  fields_found id k q a b found fine (inr (inr p)) = inr (inr (p.0, p.1, sym (field_stays id k q a b found fine (sym p.2))))

  fields_find : (at : Pair) (found : Finding Pair Bool) → IsFound found → FieldsFind local target at found → FieldsFind l r at found
  fields_find at found fine (inl p) = absurd (subst IsFound p.2 fine)
  fields_find at found fine (inr (inl p)) = absurd (subst IsFound p.4 fine)
  fields_find at found fine (inr (inr p)) = inr (inr (
    p.0,
    p.1,
    p.2,
    p.3,
    p.4,
    p.5,
    resolving_stays local l first at.local p.0 p.6,
    resolving_stays target r second at.target p.1 p.7,
    here_stays p.0 p.2 p.4 p.8,
    there_stays p.1 p.3 p.5 p.9,
    fields_found p.0 p.2 p.3 p.4 p.5 found fine p.10,
  ))

  pub fields_stay : (id other : ℕ) (b : Bool) → Fields local id target other (Ok b) → Fields l id r other (Ok b)
  fields_stay id other b is =
      answer_stays (FieldsFind local target) (FieldsFind l r) fields_find (record { local = id; target = other }) (λ at. MaximumTypeDepthReached at.local) b is

  -- ---- types

  mutual
    plain_stays : (above : List Pair) (p : Pair) (answer : Result Bool Refusal) (starts : List Pair) → Plain local target above p answer starts → IsGiven answer → Plain l r above p answer starts
    plain_stays above p answer starts (Plain.again _ _ is_open) given = absurd given
    plain_stays above p answer starts (Plain.no_local _ _ new here) given = absurd given
    plain_stays above p answer starts (Plain.no_target _ _ w new here there) given = absurd given
    plain_stays above p answer starts (Plain.kinds_differ _ _ k q new known differ) given =
        Plain.kinds_differ above p k q new (pair_stays p k q known) differ
    plain_stays above p answer starts (Plain.walked _ _ k q _ behind new known same walk) given =
        Plain.walked above p k q answer behind new (pair_stays p k q known) same (walked_stays (p ∷ above) walk_limit p answer behind walk given)

    walked_stays : (above : List Pair) (n : ℕ) (at : Pair) (answer : Result Bool Refusal) (starts : List Pair) → Walked local target above n at answer starts → IsGiven answer → Walked l r above n at answer starts
    walked_stays above n at answer starts (Walked.too_deep _ _) given = absurd given
    walked_stays above n at answer starts (Walked.decided _ m _ _ found) given = Walked.decided above m at answer (finds_stays at (Decided answer) given found)
    walked_stays above n at answer starts (Walked.on _ m _ to _ _ found behind) given =
        Walked.on above m at to answer starts (finds_stays at (On to) tt found) (walked_stays above m to answer starts behind given)
    walked_stays above n at answer starts (Walked.compared _ m _ to pending _ begins behind found compares_all goes) given =
        Walked.compared above m at to pending answer begins behind (finds_stays at (Pending pending to) tt found)
        (compared_stays above pending (Ok true) begins compares_all tt) (walked_stays above m to answer behind goes given)
    walked_stays above n at answer starts (Walked.not_compatible _ m _ to pending _ _ found compares_all not_true) given =
        Walked.not_compatible above m at to pending answer starts (finds_stays at (Pending pending to) tt found) (compared_stays above pending answer starts compares_all given) not_true

    compared_stays : (above pending : List Pair) (answer : Result Bool Refusal) (starts : List Pair) → ComparedInOrder local target above pending answer starts → IsGiven answer → ComparedInOrder l r above pending answer starts
    compared_stays above pending answer starts (ComparedInOrder.all _) given = ComparedInOrder.all above
    compared_stays above pending answer starts (ComparedInOrder.unresolved _ at rest refusal resolved) given = absurd given
    compared_stays above pending answer starts (ComparedInOrder.other _ at p rest _ _ resolved plain not_true) given =
        ComparedInOrder.other above at p rest answer starts (resolved_stays at p resolved) (plain_stays above p answer starts plain given) not_true
    compared_stays above pending answer starts (ComparedInOrder.next _ at p rest _ begins behind resolved plain compares_all) given =
        ComparedInOrder.next above at p rest answer begins behind (resolved_stays at p resolved) (plain_stays above p (Ok true) begins plain tt) (compared_stays above rest answer behind compares_all given)

  pub comparison_stays : (above : List Pair) (p : Pair) (b : Bool) (starts : List Pair) → Plain local target above p (Ok b) starts → Plain l r above p (Ok b) starts
  comparison_stays above p b starts h = plain_stays above p (Ok b) starts h tt
