use Rattle.std.proofs.Common.{◌≡◌, ℕ, ◌+◌, ◌<◌, List, [], ◌∷◌, ◌++◌, length, drop, refl, sym, ap, ◌∙◌, inl, inr, arith, rules, length-append, length-drop}
use Rattle.std.proofs.lemmas.List.{drop_all}
use Rattle.std.specs.List.{slice_split}
use Rattle.std.proofs.lemmas.Iterator.Splits.{YieldsList-from_slice_split}
use Rattle.std.proofs.lemmas.Iterator.Consumers.{YieldsList-turn, YieldsList-end}
use Rattle.btf_relocate_model.specs.Access.{access_limit, indices_of, is_colon}
use Rattle.btf_relocate.proofs.Accesses.{joined, joined_part, no_access, is_access}
use Rattle.btf_relocate.proofs.Pointers.{element_there}
use Rattle.btf_relocate.proofs.access.Access.parse.Goals as goal

pub returns-in_default : goal.returns-in_default
returns-in_default c =
    let parts = slice_split is_colon c.args.text.now in
    let front = c.loop-part.indices.items in
    let n = length c.loop-part.yielded in
    let part = c.in-Some.part.now in
    let turn = YieldsList-turn (YieldsList-from_slice_split _ is_colon c.args.text.now (cc) (cc) (cc) (λ x b q called. search rules)) c.loop-part.yielded _ c.loop-part.yielded_by _ _ c.in-Some.part c.in-Some.is c.next.ensures.steps in
    let here : drop n parts ≡ part ∷ drop (n + 1) parts = element_there parts n part turn.0 turn.1 in
    let left : joined front (indices_of (part ∷ drop (n + 1) parts)) ≡ indices_of parts = ap (λ (ps : List (List ℕ)). joined front (indices_of ps)) (sym here) ∙ c.loop-part.invariant.indices in
    (no_access c.args.text.now front part (drop (n + 1) parts) left (omega (arith, length-drop (n + 1) parts, turn.0, c.loop-part.invariant.count)) (inl (sym c.index_of.ensures ∙ c.in_default.is)), refl)

pub returns-then-is_err : goal.returns-then-is_err
returns-then-is_err c =
    let parts = slice_split is_colon c.args.text.now in
    let front = c.loop-part.indices.items in
    let n = length c.loop-part.yielded in
    let part = c.in-Some.part.now in
    let turn = YieldsList-turn (YieldsList-from_slice_split _ is_colon c.args.text.now (cc) (cc) (cc) (λ x b q called. search rules)) c.loop-part.yielded _ c.loop-part.yielded_by _ _ c.in-Some.part c.in-Some.is c.next.ensures.steps in
    let here : drop n parts ≡ part ∷ drop (n + 1) parts = element_there parts n part turn.0 turn.1 in
    let left : joined front (indices_of (part ∷ drop (n + 1) parts)) ≡ indices_of parts = ap (λ (ps : List (List ℕ)). joined front (indices_of ps)) (sym here) ∙ c.loop-part.invariant.indices in
    let full : length front ≡ access_limit = search rules in
    (no_access c.args.text.now front part (drop (n + 1) parts) left (omega (arith, length-drop (n + 1) parts, turn.0, c.loop-part.invariant.count)) (inr full), refl)

pub loop-part-preserved : goal.loop-part-preserved
loop-part-preserved c =
    let parts = slice_split is_colon c.args.text.now in
    let front = c.loop-part.indices.items in
    let n = length c.loop-part.yielded in
    let part = c.in-Some.part.now in
    let turn = YieldsList-turn (YieldsList-from_slice_split _ is_colon c.args.text.now (cc) (cc) (cc) (λ x b q called. search rules)) c.loop-part.yielded _ c.loop-part.yielded_by _ _ c.in-Some.part c.in-Some.is c.next.ensures.steps in
    let here : drop n parts ≡ part ∷ drop (n + 1) parts = element_there parts n part turn.0 turn.1 in
    let left : joined front (indices_of (part ∷ drop (n + 1) parts)) ≡ indices_of parts = ap (λ (ps : List (List ℕ)). joined front (indices_of ps)) (sym here) ∙ c.loop-part.invariant.indices in
    let pushed : c.try_push.new.self.items ≡ front ++ c.in-Some-index_of.index ∷ [] = search rules in
    let room : length front < access_limit = search rules in
    let more = length-append front (c.in-Some-index_of.index ∷ []) in
    let next : length (c.loop-part.yielded ++ c.in-Some.part ∷ []) ≡ n + 1 = length-append c.loop-part.yielded (c.in-Some.part ∷ []) in
    record {
      count = omega (arith, ap length pushed, more, next, c.loop-part.invariant.count);
      room = omega (arith, ap length pushed, more, room);
      indices = ap (λ (m : ℕ). joined c.try_push.new.self.items (indices_of (drop m parts))) next
          ∙ ap (λ (is : List ℕ). joined is (indices_of (drop (n + 1) parts))) pushed
          ∙ sym (joined_part front part (drop (n + 1) parts) c.in-Some-index_of.index (sym c.index_of.ensures ∙ c.in-Some-index_of.is)) ∙ left;
    }

pub returns : goal.returns
returns c =
    let parts = slice_split is_colon c.args.text.now in
    let end = YieldsList-end (YieldsList-from_slice_split _ is_colon c.args.text.now (cc) (cc) (cc) (λ x b q called. search rules)) c.loop-part.yielded _ c.loop-part.yielded_by _ _ c.in-None.is c.next.ensures.steps in
    let none : drop (length c.loop-part.yielded) parts ≡ [] = drop_all (length c.loop-part.yielded) parts (omega (arith, end.1)) in
    is_access c.args.text.now c.loop-part.indices.items (ap (λ (ps : List (List ℕ)). joined c.loop-part.indices.items (indices_of ps)) (sym none) ∙ c.loop-part.invariant.indices)
    (omega (arith, end.1, c.loop-part.invariant.count, c.loop-part.invariant.room))
