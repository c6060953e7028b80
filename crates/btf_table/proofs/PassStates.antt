-- The states of a pass: what it has made when it comes to an id, and what follows from it.
use Rattle.std.proofs.Common.{◌≡◌, ℕ, zero, suc, ◌+◌, ◌<◌, ◌≤◌, Bool, true, false, not, ◌&&◌, List, [], ◌∷◌, ◌++◌, length, get_or, take, map, Option, None, Some, Ok, Err, refl, sym, ap, subst, ◌∙◌, arith, inl, inr, Vec, Global}
use Rattle.std.specs.Prelude.{if◌then◌else◌, slice_get}
use Rattle.std.specs.List.{flat_map, range_with_len, sum_by, list_any}
use Rattle.std.specs.Option.{unwrap_or}
use Rattle.std.proofs.lemmas.Bool.{cases_order, or_left}
use Rattle.std.proofs.lemmas.List.{map-append, append-nil, append_assoc, length-map, length-take, take_all}
use Rattle.std.proofs.lemmas.List.FromFn.{map-range_with_len_more}
use Rattle.std.proofs.lemmas.List.Folds.{list_any-append}
use Rattle.std.proofs.lemmas.List.Sums.{sum_by-cons, sum_by-append}
use Rattle.std.proofs.lemmas.Option.{slice_get-get_or, slice_get-map, slice_get_read, slice_get_within, same_Some}
use Rattle.std.specs.Option.{option_map}
use Rattle.std.proofs.Math.Seq.{take-suc}
use Rattle.btf_model.specs.Record as kinds
use Rattle.btf_model.specs.Record.{vlen, tail_words, Kind, Record, unknown, kind_of}
use Rattle.btf_model.specs.Refusal.{Refusal}
use Rattle.btf_model.specs.Table.{Table, Fallback, type_bytes, no_fallbacks}
use Rattle.btf_rewrite_model.specs.declared.feature.BtfFeature.TheVariants as features
use Rattle.btf_rewrite_model.specs.Feature.{same_feature}
use Rattle.btf_rewrite_model.specs.declared.feature.BtfFeature.{BtfFeature}
use Rattle.btf_rewrite_model.specs.declared.feature.FeatureAnswer.{FeatureAnswer}
use Rattle.btf_rewrite_model.specs.Made as model
use Rattle.btf_rewrite_model.specs.Made.{record_at, kind_at}
use Rattle.btf_rewrite_model.specs.Checks.{record_len}
use Rattle.btf_rewrite_model.specs.Pass.{Pass, has, asks, asks_by, asks_below, each_once, is_enum64, texts, texts_below, added, added_by, added_below, free_id, offset_at, filler_type_text, gets_filler, makes_filler, makes_member_type, filler_offset, growth_below, wants_member_type}
use Rattle.btf_rewrite_model.specs.Rule.{becomes, becomes_by, ruled_below, falls_back, falls_back_by}
use Rattle.btf_rewrite_model.specs.Fault.{fault}
use Rattle.btf_rewrite_model.specs.Rewritten.{with_zero_byte, AreRuled, rewritten}
use Rattle.btf_rewrite_model.specs.RewriteLaws.{IsAmong, with_answers, Agree, IsSameBelow}
use Rattle.btf_rewrite_model.proofs.Agreeing.{AgreeAt, agree_at, agree_of, same_below, same_refused}
use Rattle.btf_rewrite_model.proofs.Appending.{ended_len}
use Rattle.btf_rewrite_model.specs.Passing.{MadeBelow}
use Rattle.btf_rewrite_model.proofs.FirstMade.{none_next, none_below_zero, made_alike, member_type_alike, filler_alike_below}
use Rattle.btf_rewrite_model.specs.Passing.{features_of, is_quiet, AreAnswersTo, IsPassAt}
use Rattle.btf_rewrite_model.proofs.Passing.{IsQuiet, quiet, Grows, grows, further_agree, further_same, goes_on, made_next}
use Rattle.btf_rewrite_model.proofs.Ruled.{length-ruled}
use Rattle.btf_records.specs.BtfType.{record_of, fallback_of, type_kind}
use Rattle.btf_records.specs.declared.btf_type.BtfType.{BtfType}
use Rattle.btf_table.specs.Adding.{HasRoom}
use Rattle.btf_table.specs.Changes.{put_all, each, AreInside, AreChangesOf, changed}
use Rattle.btf_table.specs.Denied.{AllHaveKinds, AreTypeIds, deny_all, with_denied}
use Rattle.btf_table.specs.Btf.{IsType}
use Rattle.btf_table.specs.PassStep.{kept_changes, kept_ids, made_of, placed_of, placed_below, IsHere, IsRuled, HasAsked, AsksUpTo, IsMade, Steps, Passes, growth}
use Rattle.btf_table.specs.declared.sanitize.made.Made.{Made}
use Rattle.btf_table.specs.declared.sanitize.outcome.Outcome.{Outcome}
use Rattle.btf_table.specs.declared.sanitize.outcome.Outcome.TheVariants.{Same, Denied, Other}
use Rattle.btf_table.proofs.Denials.{deny_front, deny_last, ids_more, ids_next}
use Rattle.btf_table.proofs.Spelled.{after_len}
use Rattle.btf_table.proofs.Outcomes.{denied_record, placed_fallback}
use Rattle.btf_table.proofs.KnownKinds.{one_more_kind, only_unknown}
use Rattle.btf_table.proofs.Put.{length-put, put_kept, put_new, inside_more, inside_next, first_stays}

-- ---- what agrees up to an id agrees up to lower ids

among_lower : (p : Pass) (id j : ℕ) (f : BtfFeature) → j ≤ id → IsAmong f (asks_below p j) → IsAmong f (asks_below p id)
among_lower p zero j f le among =
    let none : j ≡ 0 = omega (arith, le) in
    subst (λ (n : ℕ). IsAmong f (asks_below p n)) none among
among_lower p (suc id) j f le among =
    elim (cases_order j (suc id)) as (λ c. IsAmong f (asks_below p (suc id))) [
      | inl same ↦ subst (λ (n : ℕ). IsAmong f (asks_below p n)) same among
      | inr other ↦ elim other as (λ c. IsAmong f (asks_below p (suc id))) [
        | inl lower ↦ list_any-append (same_feature f) (asks_below p id) (asks p id) ∙ or_left (list_any (same_feature f) (asks_below p id)) (list_any (same_feature f) (asks p id)) (among_lower p id j f (omega (arith, lower)) among)
        | inr above ↦ absurd (omega (arith, le, above))
      ]
    ]

agree_lower : (p : Pass) (answers : List FeatureAnswer) (id j : ℕ) → j ≤ id → Agree p answers id → Agree p answers j
agree_lower p answers id j le agree f among = agree f (among_lower p id j f le among)

-- so the free ids of lower ids do not change
free_lower : (p : Pass) (answers : List FeatureAnswer) (id j : ℕ) → Agree p answers id → AreRuled p id → j < id → free_id (with_answers p answers) j ≡ free_id p j
free_lower p answers id j agree ruled lt =
    ap (λ (rs : List Record). length p.table.records + length rs) (same_below p answers j (agree_lower p answers id j (omega (arith, lt)) agree) (λ k below. ruled k (omega (arith, below, lt)))).added

-- nor do their fallbacks
falls_back_alike : (p : Pass) (answers : List FeatureAnswer) (id : ℕ) (k : Option Kind) (r : Record) (old : Option Fallback) → kind_at p.table id ≡ k → AgreeAt p answers id → falls_back_by (with_answers p answers) k r old ≡ falls_back_by p k r old
falls_back_alike p answers id (Some kinds.Enum64) r old kind agree = ap (λ (b : Bool). if b then old else Some (model.enum64_fallback r)) (agree_of p answers id (Some kinds.Enum64) features.Enum64 agree kind refl)
falls_back_alike p answers id k r old kind agree = refl

falls_back_lower : (p : Pass) (answers : List FeatureAnswer) (id j : ℕ) → Agree p answers id → j < id → falls_back (with_answers p answers) j ≡ falls_back p j
falls_back_lower p answers id j agree lt =
    falls_back_alike p answers j (kind_at p.table j) (record_at p.table j) (unwrap_or (slice_get p.table.fallbacks j) None) refl (agree_at p answers id j lt agree)

-- one more id
range_next : {X : Type 0} (f : ℕ → X) (n : ℕ) → map f (range_with_len 0 (suc n)) ≡ map f (range_with_len 0 n) ++ f n ∷ []
range_next f n =
    let more : suc n ≡ n + 1 = omega arith in
    ap (λ (k : ℕ). map f (range_with_len 0 k)) more ∙ map-range_with_len_more f 0 n n (omega arith)

range_alike : {X : Type 0} (f g : ℕ → X) (n : ℕ) → ((j : ℕ) → j < n → f j ≡ g j) → map f (range_with_len 0 n) ≡ map g (range_with_len 0 n)
range_alike f g zero alike = refl
range_alike f g (suc n) alike =
    range_next f n ∙ ap (λ xs. xs ++ f n ∷ []) (range_alike f g n (λ j lt. alike j (omega (arith, lt)))) ∙ ap (λ x. map g (range_with_len 0 n) ++ x ∷ []) (alike n (omega arith)) ∙ sym (range_next g n)

-- ---- the state at an id

-- Further answers do not change what was made.
pub here_of_made : (p : Pass) (id : ℕ) (m : Made) (ids : List ℕ) (answers more : List FeatureAnswer) → answers ≡ p.answers ++ more → IsPassAt p id → IsMade p id m ids → IsHere (record p { answers = answers }) id m
here_of_made p id m ids answers more is at made = subst (λ (given : List FeatureAnswer). IsHere (with_answers p given) id m) (sym is) here
  where
    here : IsHere (with_answers p (p.answers ++ more)) id m
    here =
        let all : List FeatureAnswer = p.answers ++ more in
        let q : Pass = with_answers p all in
        let agree : Agree p all id = further_agree p id more at.asked in
        let same : IsSameBelow p all id = further_same p id more at in
        let g : Grows p more id = grows p more id at in
        let free : (j : ℕ) → j < id → free_id q j ≡ free_id p j = λ j lt. free_lower p all id j agree at.ruled lt in
        record {
          offset = g.offset ∙ ap (λ (n : ℕ). length p.table.strings + n) (sym (ended_len (texts_below p id)) ∙ ap length (sym made.has_made.strings_are));
          free = g.free ∙ ap (λ (n : ℕ). length p.table.records + n) (ap length (sym made.has_made.types_are) ∙ length-map m.changes.new_types.items record_of);
          type_len = g.type_len ∙ sym made.has_made.type_len_is;
          names = made.names ∙ ap (map (λ (r : Record). r.name)) (sym same.ruled);
          count = length-ruled q id;
          member_type = made_alike (wants_member_type p) (wants_member_type q) (free_id p) (free_id q) id m.member_type (member_type_alike p all id agree) free made.member_type;
          filler = made_alike (gets_filler p) (gets_filler q) (λ k. free_id p k + 1) (λ k. free_id q k + 1) id m.filler (filler_alike_below p all id agree at.ruled) (λ j lt. ap (λ (n : ℕ). n + 1) (free j lt)) made.filler;
          room = made.room;
        }

-- ---- from id to id

-- The pass completes an id if all that it asks for is answered and it is not refused.
pub at_next : (p : Pass) (id : ℕ) (answers : List FeatureAnswer) → IsPassAt p id → AsksUpTo p id answers [] → fault (record p { answers = answers }) id ≡ None → IsPassAt (record p { answers = answers }) (suc id)
at_next p id answers at asks_up passed =
    let some : List BtfFeature = asks_up.0 in
    let has : HasAsked p id some answers = asks_up.1 in
    let all_asked : AreAnswersTo (asks_below p id ++ asks (with_answers p answers) id) answers =
    subst (λ fs. AreAnswersTo (asks_below p id ++ fs) answers) (sym (asks_up.2 ∙ append-nil some)) has.asked in
    subst (λ (given : List FeatureAnswer). AreAnswersTo (asks_below p id ++ asks (with_answers p given) id) given → fault (with_answers p given) id ≡ None → IsPassAt (with_answers p given) (suc id))
    (sym has.further) (goes_on p id has.more at) all_asked passed

-- What is recorded for an id; the ids that will be denied are given before and after it.
pub record Keeps (id : ℕ) (b : BtfType) (o : Outcome) (old new : Made) (ids more : List ℕ) : Type 0 where
  pub types : new.changes.types.items ≡ kept_changes old.changes.types.items id o
  pub denied : more ≡ kept_ids ids id o
  pub names : new.names.items ≡ old.names.items ++ (record_of (made_of o b)).name ∷ []
  pub kind : kind_of (record_of (placed_of o b)).info ≡ Some (type_kind (placed_of o b))
  pub len : length (record_of (made_of o b)).tail ≡ length (record_of (placed_of o b)).tail
  pub strings : new.changes.new_strings ≡ old.changes.new_strings
  pub new_types : new.changes.new_types ≡ old.changes.new_types
  pub type_len : new.changes.type_len ≡ old.changes.type_len
  pub member_type : new.member_type ≡ old.member_type
  pub filler : new.filler ≡ old.filler

-- a list up to one more place
take_at : {X : Type 0} (xs : List X) (id : ℕ) (x : X) → slice_get xs id ≡ Some x → take (suc id) xs ≡ take id xs ++ x ∷ []
take_at xs id x at =
    let lt : id < length xs = slice_get_within xs id x at in
    take-suc xs id x lt ∙ ap (λ y. take id xs ++ y ∷ []) (same_Some (get_or xs id x) x (sym (slice_get-get_or xs id x lt) ∙ at))

many : {X : Type 0} (xs : List X) (id : ℕ) (x : X) → slice_get xs id ≡ Some x → length (take id xs) ≡ id
many xs id x at = omega (arith, length-take id xs, slice_get_within xs id x at)

put_next : {X : Type 0} (f : BtfType → X) (cs : List (ℕ × BtfType)) (xs : List X) (id : ℕ) (b : BtfType) (o : Outcome) → AreInside id cs → slice_get xs id ≡ Some (f b)
    → put_all (each f (kept_changes cs id o)) (take (suc id) xs) ≡ put_all (each f cs) (take id xs) ++ f (placed_of o b) ∷ []
put_next f cs xs id b (Other new) inside at =
    ap (put_all (each f (cs ++ (id, new) ∷ []))) (take_at xs id (f b) at)
    ∙ put_new f cs (take id xs) (f b) id new (subst (λ (n : ℕ). AreInside n cs) (sym (many xs id (f b) at)) inside) (many xs id (f b) at)
put_next f cs xs id b o inside at =
    ap (put_all (each f cs)) (take_at xs id (f b) at) ∙ put_kept f cs (take id xs) (f b) (subst (λ (n : ℕ). AreInside n cs) (sym (many xs id (f b) at)) inside)

-- one more id that is denied, or is not
deny_next : (ids : List ℕ) (xs : List Record) (id : ℕ) (b : BtfType) (o : Outcome) → AreTypeIds id ids → length xs ≡ id → kind_of (record_of b).info ≡ Some (type_kind b)
    → deny_all (kept_ids ids id o) (xs ++ record_of (placed_of o b) ∷ []) ≡ deny_all ids xs ++ record_of (made_of o b) ∷ []
deny_next ids xs id b Denied inside at kind =
    deny_last ids xs (record_of b) id (subst (λ (n : ℕ). AreTypeIds n ids) (sym at) inside) at ∙ ap (λ r. deny_all ids xs ++ r ∷ []) (sym (denied_record b kind))
deny_next ids xs id b Same inside at kind = deny_front ids xs (record_of b ∷ []) (subst (λ (n : ℕ). AreTypeIds n ids) (sym at) inside)
deny_next ids xs id b (Other new) inside at kind = deny_front ids xs (record_of new ∷ []) (subst (λ (n : ℕ). AreTypeIds n ids) (sym at) inside)

kept_inside : (cs : List (ℕ × BtfType)) (id : ℕ) (o : Outcome) → 0 < id → AreInside id cs → AreInside (suc id) (kept_changes cs id o)
kept_inside cs id (Other new) low inside = inside_next (suc id) cs id new (inside_more id (suc id) cs (omega arith) inside) low (omega arith)
kept_inside cs id o low inside = inside_more id (suc id) cs (omega arith) inside

denied_inside : (ids : List ℕ) (id : ℕ) (o : Outcome) → 0 < id → AreTypeIds id ids → AreTypeIds (suc id) (kept_ids ids id o)
denied_inside ids id Denied low inside = ids_next (suc id) ids id (ids_more id (suc id) ids (omega arith) inside) low (omega arith)
denied_inside ids id o low inside = ids_more id (suc id) ids (omega arith) inside

one_len : (r : Record) → sum_by record_len (r ∷ []) ≡ record_len r
one_len r = sum_by-cons record_len r [] ∙ plus_none (record_len r)
  where
    plus_none : (n : ℕ) → n + 0 ≡ n
    plus_none n = omega arith

one_more : (p : Pass) (id : ℕ) (more : List FeatureAnswer) (b : BtfType) (o : Outcome) (before mid after : Made) (ids more_ids : List ℕ) → 0 < id → IsPassAt p id → IsMade p id before ids → IsType p.table id b
    → Keeps id b o mid after ids more_ids → IsRuled (with_answers p (p.answers ++ more)) id b before mid (made_of o b) → IsMade (with_answers p (p.answers ++ more)) (suc id) after more_ids
one_more p id more b o before mid after ids more_ids low at made there keeps ruled =
    let q : Pass = with_answers p (p.answers ++ more) in
    let new : BtfType = made_of o b in
    let placed : BtfType = placed_of o b in
    let g : Grows p more id = grows p more id at in
    let agree : Agree p (p.answers ++ more) id = further_agree p id more at.asked in
    let old : List (ℕ × BtfType) = before.changes.types.items in
    let n = made_next p id more before.changes.new_strings.items (map record_of before.changes.new_types.items) (deny_all ids (placed_below p id before)) before.changes.type_len at made.has_made in
    let types : after.changes.types.items ≡ kept_changes old id o = keeps.types ∙ ap (λ ts. kept_changes ts.items id o) ruled.grown.types in
    let strings : after.changes.new_strings.items ≡ before.changes.new_strings.items ++ flat_map with_zero_byte (texts q id) = ap (λ v. v.items) keeps.strings ∙ ruled.grown.strings in
    let records : map record_of after.changes.new_types.items ≡ map record_of before.changes.new_types.items ++ added q id = ap (λ v. map record_of v.items) keeps.new_types ∙ ruled.grown.records in
    let fallbacks : map fallback_of after.changes.new_types.items ≡ map fallback_of before.changes.new_types.items ++ no_fallbacks (added q id) = ap (λ v. map fallback_of v.items) keeps.new_types ∙ ruled.grown.fallbacks in
    let type_len : after.changes.type_len ≡ before.changes.type_len + sum_by record_len (added q id) + growth q id = keeps.type_len ∙ ruled.grown.type_len in
    let room : HasRoom p.table mid.changes = ruled.grown.room in
    let front : List Record = placed_below p id before in
    let long : length front ≡ id = length-put (each record_of old) (take id p.table.records) ∙ many p.table.records id (record_of b) there.record_is in
    let placed_is : placed_below q (suc id) after ≡ front ++ record_of placed ∷ [] =
    ap (λ cs. put_all (each record_of cs) (take (suc id) p.table.records)) types ∙ put_next record_of old p.table.records id b o made.inside there.record_is in
    let placed_len : sum_by record_len (placed_below q (suc id) after) ≡ sum_by record_len front + record_len (record_of placed) =
    ap (sum_by record_len) placed_is ∙ sum_by-append record_len front (record_of placed ∷ []) ∙ ap (λ (x : ℕ). sum_by record_len front + x) (one_len (record_of placed)) in
    let taken_len : sum_by record_len (take (suc id) p.table.records) ≡ sum_by record_len (take id p.table.records) + record_len (record_of b) =
    ap (sum_by record_len) (take_at p.table.records id (record_of b) there.record_is) ∙ sum_by-append record_len (take id p.table.records) (record_of b ∷ [])
    ∙ ap (λ (x : ℕ). sum_by record_len (take id p.table.records) + x) (one_len (record_of b)) in
    record {
      has_made = record {
        strings_are = strings ∙ n.strings_are;
        types_are = records ∙ n.types_are;
        new_are = ap (λ is. deny_all is (placed_below q (suc id) after)) keeps.denied ∙ ap (deny_all (kept_ids ids id o)) placed_is ∙ deny_next ids front id b o made.denied long there.kind_is
            ∙ ap (λ r. deny_all ids front ++ r ∷ []) ruled.record_is ∙ n.new_are;
        type_len_is = type_len ∙ n.type_len_is;
      };
      fallbacks = ap (λ cs. put_all (each fallback_of cs) (take (suc id) p.table.fallbacks)) types ∙ put_next fallback_of old p.table.fallbacks id b o made.inside there.fallback_is
          ∙ ap (λ f. put_all (each fallback_of old) (take id p.table.fallbacks) ++ f ∷ []) (placed_fallback o b ∙ ruled.fallback_is)
          ∙ ap (λ fs. fs ++ falls_back q id ∷ []) (made.fallbacks ∙ sym (range_alike (falls_back q) (falls_back p) id (λ j lt. falls_back_lower p (p.answers ++ more) id j agree lt)))
          ∙ sym (range_next (falls_back q) id);
      new_fallbacks = fallbacks ∙ ap (λ fs. fs ++ no_fallbacks (added q id)) made.new_fallbacks ∙ sym (map-append _ (map record_of before.changes.new_types.items) (added q id)) ∙ ap no_fallbacks (sym records);
      names = keeps.names ∙ ap (λ v. v.items ++ (record_of new).name ∷ []) ruled.grown.names ∙ ap (λ ns. ns ++ (record_of new).name ∷ []) made.names
          ∙ sym (map-append (λ (r : Record). r.name) (ruled_below p id) (record_of new ∷ [])) ∙ ap (λ r. map (λ (r : Record). r.name) (ruled_below p id ++ r ∷ [])) ruled.record_is
          ∙ ap (map (λ (r : Record). r.name)) (sym g.ruled);
      inside = subst (AreInside (suc id)) (sym types) (kept_inside old id o low made.inside);
      denied = subst (AreTypeIds (suc id)) (sym keeps.denied) (denied_inside ids id o low made.denied);
      kinds = subst AllHaveKinds (sym placed_is) (one_more_kind front (record_of placed) (type_kind placed) made.kinds keeps.kind);
      len = omega (arith, placed_len, taken_len, made.len, ruled.len, keeps.len, g.growth);
      member_type = subst (MadeBelow (wants_member_type q) (free_id q) (suc id)) (sym keeps.member_type) ruled.grown.member_type;
      filler = subst (MadeBelow (gets_filler q) (λ k. free_id q k + 1) (suc id)) (sym keeps.filler) ruled.grown.filler;
      room = record {
        strings = omega (arith, room.strings, ap (λ v. length v.items) keeps.strings);
        types = omega (arith, room.types, keeps.type_len);
        ids = omega (arith, room.ids, ap (λ v. length v.items) keeps.new_types, keeps.type_len);
      };
    }

-- What is made when the pass comes to the next id: what the rule appends, and what the type becomes.
pub made_on_next : (p : Pass) (id : ℕ) (answers more : List FeatureAnswer) → answers ≡ p.answers ++ more → (b : BtfType) (o : Outcome) (before mid after : Made) (ids more_ids : List ℕ) → 0 < id → IsPassAt p id → IsMade p id before ids → IsType p.table id b
    → IsRuled (record p { answers = answers }) id b before mid (made_of o b) → Keeps id b o mid after ids more_ids → IsMade (record p { answers = answers }) (suc id) after more_ids
made_on_next p id answers more is b o before mid after ids more_ids low at made there ruled keeps =
    subst (λ (given : List FeatureAnswer). IsRuled (with_answers p given) id b before mid (made_of o b) → IsMade (with_answers p given) (suc id) after more_ids) (sym is)
    (one_more p id more b o before mid after ids more_ids low at made there keeps) ruled

-- The pass completes an id if what it asks for is answered and its rule holds.
pub steps_on : (p : Pass) (id : ℕ) (answers : List FeatureAnswer) (b : BtfType) (o : Outcome) (before mid after : Made) (ids more_ids : List ℕ) → 0 < id → IsPassAt p id → IsMade p id before ids → IsType p.table id b
    → Steps p id answers b before mid (Ok (made_of o b)) → Keeps id b o mid after ids more_ids
    → IsPassAt (record p { answers = answers }) (suc id) × IsMade (record p { answers = answers }) (suc id) after more_ids
steps_on p id answers b o before mid after ids more_ids low at made there steps keeps =
    let has : HasAsked p id steps.0.0 answers = steps.0.1 in
    (at_next p id answers at steps.0 steps.1.passed, made_on_next p id answers has.more has.further b o before mid after ids more_ids low at made there steps.1 keeps)

-- Further answers do not change that lower ids are not refused.
still_ruled : (p : Pass) (id : ℕ) (more : List FeatureAnswer) → IsPassAt p id → AreRuled (with_answers p (p.answers ++ more)) id
still_ruled p id more at j lt =
    let agree : Agree p (p.answers ++ more) id = further_agree p id more at.asked in
    same_refused p (p.answers ++ more) j (agree_lower p (p.answers ++ more) id (suc j) (omega (arith, lt)) agree) (λ k below. at.ruled k (omega (arith, below, lt))) ∙ at.ruled j lt

-- An id that is refused after what it asks for is answered ends the pass.
pub refused_at : (p : Pass) (id : ℕ) (answers : List FeatureAnswer) (refusal : Refusal) → id < length p.table.records → IsPassAt p id → AsksUpTo p id answers [] → fault (record p { answers = answers }) id ≡ Some refusal
    → Passes (record p { answers = answers }) (Err refusal)
refused_at p id answers refusal lt at asks_up faults =
    let some : List BtfFeature = asks_up.0 in
    let has : HasAsked p id some answers = asks_up.1 in
    let all_asked : AreAnswersTo (asks_below p id ++ asks (with_answers p answers) id) answers =
    subst (λ fs. AreAnswersTo (asks_below p id ++ fs) answers) (sym (asks_up.2 ∙ append-nil some)) has.asked in
    subst (λ (given : List FeatureAnswer). AreAnswersTo (asks_below p id ++ asks (with_answers p given) id) given → fault (with_answers p given) id ≡ Some refusal → Passes (with_answers p given) (Err refusal)) (sym has.further)
    (λ asked refused. (
      id,
      lt,
      still_ruled p id has.more at,
      refused,
      asked ∙ ap (λ (fs : List BtfFeature). each_once (fs ++ asks (with_answers p (p.answers ++ has.more)) id)) (sym (further_same p id has.more at).asks),
    )) all_asked faults

-- ---- the end

-- the records that are appended have kinds
added_kind : (p : Pass) (free id : ℕ) (k : Option Kind) (rs : List Record) → AllHaveKinds rs → AllHaveKinds (rs ++ added_by p free id k)
added_kind p free id (Some kinds.Enum64) rs have =
    elim (makes_member_type p id) as (λ (b : Bool). AllHaveKinds (rs ++ (if b then model.byte_int (offset_at p id) ∷ [] else []))) [
      | true ↦ one_more_kind rs (model.byte_int (offset_at p id)) kinds.Int have refl
      | false ↦ subst AllHaveKinds (sym (append-nil rs)) have
    ]
added_kind p free id (Some kinds.DataSec) rs have =
    let int : Record = model.byte_int (filler_offset p id) in
    let var : Record = model.static_var (filler_offset p id + length filler_type_text + 1) free in
    elim (makes_filler p id) as (λ (b : Bool). AllHaveKinds (rs ++ (if b then int ∷ var ∷ [] else []))) [
      | true ↦ subst AllHaveKinds (append_assoc rs (int ∷ []) (var ∷ [])) (one_more_kind (rs ++ int ∷ []) var kinds.Var (one_more_kind rs int kinds.Int have refl) refl)
      | false ↦ subst AllHaveKinds (sym (append-nil rs)) have
    ]
added_kind p free id k rs have = subst AllHaveKinds (sym (append-nil rs)) have

added_kinds : (p : Pass) (rs : List Record) (id : ℕ) → AllHaveKinds rs → AllHaveKinds (rs ++ added_below p id)
added_kinds p rs zero have = subst AllHaveKinds (sym (append-nil rs)) have
added_kinds p rs (suc id) have =
    subst AllHaveKinds (append_assoc rs (added_below p id) (added p id)) (added_kind p (free_id p id) id (kind_at p.table id) (rs ++ added_below p id) (added_kinds p rs id have))

-- If the pass has completed all ids, the changes are for the table. The rewritten table is the table after the changes
-- are applied and the recorded types are denied.
pub passed_all : (p : Pass) (n : ℕ) (m : Made) (ids : List ℕ) (rs : List Record) → n ≡ length p.table.records → length p.table.fallbacks ≡ length p.table.records → p.table.records ≡ unknown ∷ rs → IsMade p n m ids
    → AreChangesOf p.table m.changes × AreTypeIds (length p.table.records) ids × (with_denied ids (changed p.table m.changes) ≡ rewritten p)
passed_all p n m ids rs is as_many first made_n = whole (subst (λ (i : ℕ). IsMade p i m ids) is made_n)
  where
    whole : IsMade p (length p.table.records) m ids → AreChangesOf p.table m.changes × AreTypeIds (length p.table.records) ids × (with_denied ids (changed p.table m.changes) ≡ rewritten p)
    whole made =
        let t : Table = p.table in
        let count : ℕ = length t.records in
        let cs : List (ℕ × BtfType) = m.changes.types.items in
        let all_records : take count t.records ≡ t.records = take_all count t.records (omega arith) in
        let all_fallbacks : take count t.fallbacks ≡ t.fallbacks = take_all count t.fallbacks (omega (arith, as_many)) in
        let front : List Record = put_all (each record_of cs) t.records in
        let placed : placed_below p count m ≡ front = ap (put_all (each record_of cs)) all_records in
        let ruled : deny_all ids front ≡ ruled_below p count = ap (deny_all ids) (sym placed) ∙ made.has_made.new_are in
        let fallen : put_all (each fallback_of cs) t.fallbacks ≡ map (falls_back p) (range_with_len 0 count) = ap (put_all (each fallback_of cs)) (sym all_fallbacks) ∙ made.fallbacks in
        let new : List Record = map record_of m.changes.new_types.items in
        let appended : new ≡ added_below p count = made.has_made.types_are in
        let within : AreTypeIds (length front) ids = subst (λ (n : ℕ). AreTypeIds n ids) (sym (length-put (each record_of cs) t.records)) made.denied in
        let records : deny_all ids (front ++ new) ≡ ruled_below p count ++ added_below p count =
        deny_front ids front new within ∙ ap (λ xs. xs ++ new) ruled ∙ ap (λ xs. ruled_below p count ++ xs) appended in
        let table : with_denied ids (changed t m.changes) ≡ rewritten p =
        ap (λ xs. record (with_denied ids (changed t m.changes)) { strings = t.strings ++ xs }) made.has_made.strings_are
        ∙ ap (λ xs. record (changed t m.changes) { strings = t.strings ++ flat_map with_zero_byte (texts_below p count); records = xs }) records
        ∙ ap (λ xs. record (rewritten p) { fallbacks = xs })
        (ap (λ xs. xs ++ map fallback_of m.changes.new_types.items) fallen ∙ ap (λ xs. map (falls_back p) (range_with_len 0 count) ++ xs) (made.new_fallbacks ∙ ap no_fallbacks appended)) in
        let head : (rest : List Record) × (put_all (each record_of cs) (unknown ∷ rs) ≡ unknown ∷ rest) = first_stays record_of count cs unknown rs made.inside in
        let front_first : front ≡ unknown ∷ head.0 = ap (put_all (each record_of cs)) first ∙ head.1 in
        let long : sum_by record_len (front ++ new) ≡ 12 + length (type_bytes (changed t m.changes)) = after_len t.order (head.0 ++ new) (front ++ new) (ap (λ xs. xs ++ new) front_first) in
        let parts : sum_by record_len (front ++ new) ≡ sum_by record_len front + sum_by record_len (added_below p count) =
        sum_by-append record_len front new ∙ ap (λ rs. sum_by record_len front + sum_by record_len rs) appended in
        let old_len : sum_by record_len t.records ≡ 12 + length (type_bytes t) = after_len t.order rs t.records first in
        let len : sum_by record_len front ≡ sum_by record_len t.records + growth_below p count =
        ap (sum_by record_len) (sym placed) ∙ made.len ∙ ap (λ xs. sum_by record_len xs + growth_below p count) all_records in
        let type_len : m.changes.type_len ≡ length (type_bytes t) + sum_by record_len (added_below p count) + growth_below p count = made.has_made.type_len_is in (
          record {
            ids = made.inside;
            strings = made.room.strings;
            limit = made.room.types;
            types = omega (arith, type_len, len, old_len, parts, long);
            kinds = subst AllHaveKinds (ap (λ xs. front ++ xs) (sym appended)) (added_kinds p front count (subst AllHaveKinds placed made.kinds));
          },
          made.denied,
          table,
        )

-- So this is a whole pass.
pub passes_whole : (p : Pass) (n : ℕ) (m : Made) (denied : Vec ℕ Global) (rs : List Record) → n ≡ length p.table.records → length p.table.fallbacks ≡ length p.table.records → p.table.records ≡ unknown ∷ rs → IsPassAt p n → IsMade p n m denied.items
    → Passes p (Ok (record { changes = m.changes; denied = denied }))
passes_whole p n m denied rs is as_many first at made =
    let passed = passed_all p n m denied.items rs is as_many first made in
    (subst (IsPassAt p) is at, passed.0, passed.1, passed.2)

-- ---- the start

-- What a pass has made when it begins.
pub record Begins (t : Table) (m : Made) : Type 0 where
  pub types : m.changes.types.items ≡ []
  pub strings : m.changes.new_strings.items ≡ []
  pub new_types : m.changes.new_types.items ≡ []
  pub type_len : m.changes.type_len ≡ length (type_bytes t)
  pub room : HasRoom t m.changes
  pub names : m.names.items ≡ 0 ∷ []
  pub member_type : m.member_type ≡ None
  pub filler : m.filler ≡ None

-- id 0 is Unknown, which asks for nothing, appends nothing and does not change
pub made_at_start : (p : Pass) (m : Made) (rs : List Record) (first_fallback : Option Fallback) → p.table.records ≡ unknown ∷ rs → slice_get p.table.fallbacks 0 ≡ Some first_fallback → p.answers ≡ [] → Begins p.table m → IsPassAt p 1 × IsMade p 1 m []
made_at_start p m rs first_fallback first there none begins =
    let kind : kind_at p.table 0 ≡ Some kinds.Unknown = ap (λ (xs : List Record). kind_of (unwrap_or (slice_get xs 0) unknown).info) first in
    let q : IsQuiet p 0 = quiet p 0 (ap is_quiet kind) in
    let asks_none : asks p 0 ≡ [] = ap (λ k. asks_by p 0 k (record_at p.table 0)) kind in
    let unknown_stays : becomes p 0 ≡ unknown = ap (λ k. becomes_by p [] 0 k (record_at p.table 0)) kind ∙ ap (λ (xs : List Record). unwrap_or (slice_get xs 0) unknown) first in
    let ruled : ruled_below p 1 ≡ unknown ∷ [] = ap (λ r. r ∷ []) unknown_stays in
    let texts_none : texts_below p 1 ≡ [] = q.no_texts in
    let added_none : added_below p 1 ≡ [] = added_first p 0 (kind_at p.table 0) kind in
    let growth_none : growth_below p 1 ≡ 0 = growth_first p 0 q.no_filler in
    let falls : falls_back p 0 ≡ first_fallback = q.fallback ∙ ap (λ (o : Option (Option Fallback)). unwrap_or o None) there in
    let taken : take 1 p.table.records ≡ unknown ∷ [] = ap (take 1) first in
    let placed : placed_below p 1 m ≡ unknown ∷ [] = ap (λ cs. put_all (each record_of cs) (take 1 p.table.records)) begins.types ∙ taken in (
      record {
        asked = ap features_of none ∙ ap each_once (sym asks_none);
        ruled = λ j lt.
            let zeroth : j ≡ 0 = omega (arith, lt) in
            ap (fault p) zeroth ∙ q.no_fault;
      },
      record {
        has_made = record {
          strings_are = begins.strings ∙ ap (flat_map with_zero_byte) (sym texts_none);
          types_are = ap (map record_of) begins.new_types ∙ sym added_none;
          new_are = placed ∙ sym ruled;
          type_len_is = omega (arith, begins.type_len, ap (sum_by record_len) added_none, growth_none);
        };
        fallbacks = ap (λ cs. put_all (each fallback_of cs) (take 1 p.table.fallbacks)) begins.types ∙ take_at p.table.fallbacks 0 first_fallback there ∙ ap (λ f. f ∷ []) (sym falls);
        new_fallbacks = ap (λ ts. map fallback_of ts) begins.new_types ∙ ap (λ ts. no_fallbacks (map record_of ts)) (sym begins.new_types);
        names = begins.names ∙ ap (map (λ (r : Record). r.name)) (sym ruled);
        inside = subst (AreInside 1) (sym begins.types) tt;
        denied = tt;
        kinds = subst AllHaveKinds (sym placed) only_unknown;
        len = ap (sum_by record_len) (placed ∙ sym taken) ∙ plus_none (sum_by record_len (take 1 p.table.records)) ∙ ap (λ (n : ℕ). sum_by record_len (take 1 p.table.records) + n) (sym growth_none);
        member_type = subst (MadeBelow (wants_member_type p) (free_id p) 1) (sym begins.member_type) (none_next (wants_member_type p) (free_id p) 0 (none_below_zero (wants_member_type p) (free_id p)) (ap (λ k. is_enum64 k && not (has p features.Enum64)) kind));
        filler = subst (MadeBelow (gets_filler p) (λ k. free_id p k + 1) 1) (sym begins.filler) (none_next (gets_filler p) (λ k. free_id p k + 1) 0 (none_below_zero (gets_filler p) (λ k. free_id p k + 1)) q.no_filler);
        room = begins.room;
      },
    )
  where
    plus_none : (n : ℕ) → n ≡ n + 0
    plus_none n = omega arith

    growth_first : (p : Pass) (id : ℕ) → gets_filler p id ≡ false → 0 + growth p id ≡ 0
    growth_first p id none_grows = ap (λ (b : Bool). 0 + (if b then 12 else 0)) none_grows ∙ omega arith

    added_first : (p : Pass) (id : ℕ) (k : Option Kind) → k ≡ Some kinds.Unknown → added_by p (length p.table.records + 0) id k ≡ []
    added_first p id k is = ap (added_by p (length p.table.records + 0) id) is

-- ---- the types of a table

pub fallback_there : (t : Table) (ts : List BtfType) → map fallback_of ts ≡ t.fallbacks → (i : ℕ) (b : BtfType) → i < length ts → b ≡ get_or ts i b → slice_get t.fallbacks i ≡ Some (fallback_of b)
fallback_there t ts fallbacks i b lt at =
    ap (λ fs. slice_get fs i) (sym fallbacks) ∙ slice_get-map fallback_of ts i ∙ ap (option_map fallback_of) (slice_get_read ts (length ts) i b refl lt at)
