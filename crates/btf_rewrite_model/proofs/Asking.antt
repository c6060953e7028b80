-- A record asks only for features that it needs.
use Rattle.std.proofs.Common.{◌≡◌, ℕ, Bool, true, false, ◌&&◌, ◌||◌, not, List, [], ◌∷◌, Option, Some, Result, Ok, Err, refl}
use Rattle.std.specs.Prelude.{if◌then◌else◌, ◌==◌}
use Rattle.std.proofs.lemmas.Bool.{false≢true}
use Rattle.btf_model.specs.Record as kinds
use Rattle.btf_model.specs.Record.{Kind, Record}
use Rattle.btf_model.specs.Refusal.{Refusal}
use Rattle.btf_rewrite_model.specs.declared.feature.BtfFeature.TheVariants as features
use Rattle.btf_rewrite_model.specs.Feature.{same_feature, needs_by, is_sized_and_empty, fills_sized, is_global, has_no_entries}
use Rattle.btf_rewrite_model.specs.declared.feature.BtfFeature.{BtfFeature}
use Rattle.btf_rewrite_model.specs.Pass.{Pass, has, name_of, name_checks, func_asks, asks_by, is_builtin, offset_at, renaming, section_size, is_positive}
use Rattle.btf_rewrite_model.specs.Checks.{first_fault, have_room}
use Rattle.std.specs.Option.{is_none}
use Rattle.btf_rewrite_model.specs.RewriteLaws.{IsAmong}

-- one feature is among two
first_of_two : (f a b : BtfFeature) → IsAmong f (a ∷ []) → IsAmong f (a ∷ b ∷ [])
first_of_two f a b is = elim (same_feature f a) as (λ (t : Bool). (t || false) ≡ true → (t || (same_feature f b || false)) ≡ true) [ true ↦ λ h. refl | false ↦ λ h. absurd (false≢true h) ] is

-- a second feature that is asked for under more conditions than it is needed
fewer_tests : (f a b : BtfFeature) (h g n : Bool) → IsAmong f (if h && g && n then a ∷ b ∷ [] else a ∷ []) → IsAmong f (if g then a ∷ b ∷ [] else a ∷ [])
fewer_tests f a b true true true is = is
fewer_tests f a b true true false is = first_of_two f a b is
fewer_tests f a b true false n is = is
fewer_tests f a b false true n is = first_of_two f a b is
fewer_tests f a b false false n is = is

func_needed : (p : Pass) (f : BtfFeature) (r : Record) (name : Result (List ℕ) Refusal) → IsAmong f (func_asks p r name) → IsAmong f (needs_by false (Some kinds.Func) r)
func_needed p f r (Ok name) is = fewer_tests f features.Func features.FuncGlobal (has p features.Func) (is_global r) (not (is_builtin name)) is
func_needed p f r (Err refusal) is = absurd (false≢true is)

-- the second feature is needed without these conditions, and asked for only under more of them
among_more : (f a b : BtfFeature) (c : Bool) → IsAmong f (if c then a ∷ b ∷ [] else a ∷ []) → IsAmong f (a ∷ b ∷ [])
among_more f a b true is = is
among_more f a b false is = first_of_two f a b is

zero_needed : (f a b : BtfFeature) (h s z e named room size : Bool) → IsAmong f (if h && ((s && not z && e && named) || (z && e && room && size)) then a ∷ b ∷ [] else a ∷ [])
    → IsAmong f (if e && not (not s && (e && not z)) then a ∷ b ∷ [] else a ∷ [])
zero_needed f a b h true true true named room size is = among_more f a b (h && (room && size)) is
zero_needed f a b h false true true named room size is = among_more f a b (h && (room && size)) is
zero_needed f a b h true false true named room size is = among_more f a b (h && (named || false)) is
zero_needed f a b true false false true named room size is = is
zero_needed f a b false s z false named room size is = is
zero_needed f a b true true true false named room size is = is
zero_needed f a b true true false false named room size is = is
zero_needed f a b true false true false named room size is = is
zero_needed f a b true false false false named room size is = is
zero_needed f a b false false false true named room size is = is

pub needed_by : (p : Pass) (id : ℕ) (f : BtfFeature) (k : Option Kind) (r : Record) → IsAmong f (asks_by p id k r) → IsAmong f (needs_by (not (fills_sized p.policy) && is_sized_and_empty k r) k r)
needed_by p id f (Some kinds.Var) r is = is
needed_by p id f (Some kinds.Float) r is = is
needed_by p id f (Some kinds.DeclTag) r is = is
needed_by p id f (Some kinds.TypeTag) r is = is
needed_by p id f (Some kinds.Enum) r is = is
needed_by p id f (Some kinds.Enum64) r is = is
needed_by p id f (Some kinds.Func) r is = func_needed p f r (name_of p id) is
needed_by p id f (Some kinds.FuncProto) r is = is
needed_by p id f (Some kinds.DataSec) r is = zero_needed f features.DataSec features.DataSecZero (has p features.DataSec) (fills_sized p.policy) (r.third == 0) (has_no_entries r) (is_none (first_fault (name_checks p id))) (is_none (first_fault (have_room (offset_at p id) (renaming p (name_of p id))))) (is_positive (section_size p id)) is
needed_by p id f k r is = absurd (false≢true is)
