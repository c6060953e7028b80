-- The meaning of a command line is unique.
use Rattle.std.proofs.Common.{◌≡◌, ℕ, List, [], ◌∷◌, Option, None, Some, Ok, Err, Result, refl, sym, ap, subst, ◌∙◌, String, Global, inl, inr}
use Rattle.std.specs.Prelude.{if◌then◌else◌, codes, ◌⊎◌, IfSome}
use Rattle.std.specs.Str.{bytes_eq}
use Rattle.std.specs.Str.Parse.{digits_value}
use Rattle.std.specs.Option.{option_to_list}
use Rattle.btf_rewrite_model.specs.declared.ksyms_ids.KsymsIds.{KsymsIds}
use Rattle.btf_model.specs.Refusal.{Refusal}
use Rattle.btf_model.specs.Table.{Table}
use Rattle.btf_model.specs.Blob.{IsTable, IsRefusal}
use Rattle.btf_rewrite_model.specs.Rewritten.{Rewritten, IsRefused}
use Rattle.btf_model.specs.declared.endianness.Endianness.{Endianness}
use Rattle.btf_model.specs.declared.endianness.Endianness.TheVariants as orders
use Rattle.btf_cli.specs.Setting.{Setting}
use Rattle.btf_cli.specs.Settings.{SetAll, SetIds, layout_set, kernel_set, policy_set}
use Rattle.btf_cli.specs.Request.{request_words, request_ids, AreSet, Requests}
use Rattle.btf_cli.specs.declared.request.Request.{Request}
use Rattle.btf_cli.specs.declared.line.Line.{Line}
use Rattle.btf_cli.specs.declared.line.Query.{Query}
use Rattle.btf_cli.specs.declared.line.Query.TheVariants.{Copy, Types, Size, Compat}
use Rattle.btf_cli.specs.declared.line.Command.{Command}
use Rattle.btf_cli.specs.declared.line.Command.TheVariants.{Ask, Rewrite}
use Rattle.btf_cli.specs.Line.{order_word, AsksQuery, AsksCommand, Asks}
use Rattle.btf_cli.specs.Answer.{RewritesAsAsked, Writes, Declines, IsAnswer, IsDeclined, IsWritten}
use Rattle.btf_cli.specs.Fault.{HasFailed}
use Rattle.btf_cli.specs.declared.fault.Fault.TheVariants as faults
use Rattle.btf_plain.specs.Error.{refusal_of}
use Rattle.btf_cli.proofs.Asked.{settings_once}

-- ---- the meaning of the words, if they have one

abbrev order_of_word : List ℕ → Endianness
order_of_word word = if bytes_eq word (codes "big") then orders.Big else orders.Little

abbrev first_word : List (List ℕ) → List ℕ
first_word [] = []
first_word (word ∷ rest) = word

abbrev other_words : List (List ℕ) → List (List ℕ)
other_words [] = []
other_words (word ∷ rest) = rest

abbrev query_of_word : List ℕ → Query
query_of_word word = if bytes_eq word (codes "copy") then Copy else Types

abbrev query_of_words : List (List ℕ) → Query
query_of_words [] = Copy
query_of_words (word ∷ []) = query_of_word word
query_of_words (word ∷ id ∷ []) = Size (digits_value 10 id)
query_of_words (word ∷ id ∷ other ∷ more) = Compat (digits_value 10 id) (digits_value 10 other)

order_of_own_word : (e : Endianness) → order_of_word (order_word e) ≡ e
order_of_own_word orders.Little = refl
order_of_own_word orders.Big = refl

query_of_own_words : (words : List (List ℕ)) (query : Query) → AsksQuery words query → query_of_words words ≡ query
query_of_own_words words Copy asks = ap query_of_words asks
query_of_own_words words Types asks = ap query_of_words asks
query_of_own_words words (Size id) asks = ap query_of_words asks.1 ∙ ap (λ (n : ℕ). Size n) asks.2.1
query_of_own_words words (Compat id other) asks =
    ap query_of_words asks.2 ∙ ap (λ (n : ℕ). Compat n (digits_value 10 asks.1)) asks.3.1 ∙ ap (λ (n : ℕ). Compat id n) asks.4.1

-- no query is a rewrite
pub no_rewrite : (words : List (List ℕ)) (query : Query) → AsksQuery words query → first_word words ≡ codes "rewrite" → ⊥
no_rewrite words Copy asks is = let same = sym (ap first_word asks) ∙ is in cc
no_rewrite words Types asks is = let same = sym (ap first_word asks) ∙ is in cc
no_rewrite words (Size id) asks is = let same = sym (ap first_word asks.1) ∙ is in cc
no_rewrite words (Compat id other) asks is = let same = sym (ap first_word asks.2) ∙ is in cc

-- ---- requests of the same words

option_once : (a b : Option ℕ) → option_to_list a ≡ option_to_list b → a ≡ b
option_once None None same = refl
option_once None (Some y) same = cc
option_once (Some x) None same = cc
option_once (Some x) (Some y) same = cc

ids_once : (settings : List Setting) (a b : Option KsymsIds) → SetIds settings a → SetIds settings b → a ≡ b
ids_once settings None None is other = refl
ids_once settings None (Some b) is other = let same = sym is.0 ∙ other.0 in cc
ids_once settings (Some a) None is other = let same = sym is.0 ∙ other.0 in cc
ids_once settings (Some a) (Some b) is other =
    let datasecs : a.datasec_id ∷ [] ≡ b.datasec_id ∷ [] = sym is.0 ∙ other.0 in
    let datasec : a.datasec_id ≡ b.datasec_id = cc in
    let placeholder : a.placeholder_id ≡ b.placeholder_id = option_once a.placeholder_id b.placeholder_id (sym is.1 ∙ other.1) in
    ap (λ (n : ℕ). Some (record { datasec_id = n; placeholder_id = a.placeholder_id })) datasec ∙ ap (λ (o : Option ℕ). Some (record { datasec_id = b.datasec_id; placeholder_id = o })) placeholder

-- two requests of the same words are equal
pub record AreAlike (a b : Request) : Type 0 where
  pub words : request_words a ≡ request_words b
  pub ids : request_ids a ≡ request_ids b

requests_alike : (words : List (List ℕ)) (a b : Request) → Requests words a → Requests words b → AreAlike a b
requests_alike words a b p q =
    let same : request_words a ≡ request_words b = p.0 ∙ sym q.0 in
    let settings_same : p.1.0 ≡ q.1.0 = settings_once (request_words b) p.1.0 q.1.0 (subst (λ (ws : List (List ℕ)). SetAll ws p.1.0) same p.1.1.all) q.1.1.all in
    record { words = same; ids = ids_once q.1.0 (request_ids a) (request_ids b) (subst (λ (settings : List Setting). SetIds settings (request_ids a)) settings_same p.1.1.ids) q.1.1.ids }

settings_alike : (a b : Request) (settings : List Setting) → AreAlike a b → AreSet a settings → AreSet b settings
settings_alike a b settings alike is = record {
  all = subst (λ (ws : List (List ℕ)). SetAll ws settings) alike.words is.all;
  ids = subst (λ (ids : Option KsymsIds). SetIds settings ids) alike.ids is.ids;
}

rewrites_alike : (a b : Request) (t : Table) (r : Result Table Refusal) → AreAlike a b → RewritesAsAsked a t r → RewritesAsAsked b t r
rewrites_alike a b t (Ok new) alike is =
    (is.0, settings_alike a b is.0 alike is.1, subst (λ (ids : Option KsymsIds). Rewritten (policy_set is.0) t ids (layout_set is.0) (kernel_set is.0) new) alike.ids is.2)
rewrites_alike a b t (Err refusal) alike is =
    (is.0, settings_alike a b is.0 alike is.1, subst (λ (ids : Option KsymsIds). IsRefused (policy_set is.0) t ids (layout_set is.0) (kernel_set is.0) refusal) alike.ids is.2)

-- ---- commands of the same words

-- two commands of the same words are equal
abbrev SameCommand : Command → Command → Type 0
SameCommand (Ask query) (Ask other) = query ≡ other
SameCommand (Ask query) (Rewrite request) = ⊥
SameCommand (Rewrite request) (Ask query) = ⊥
SameCommand (Rewrite request) (Rewrite other) = AreAlike request other

commands_alike : (words : List (List ℕ)) (a b : Command) → AsksCommand words a → AsksCommand words b → SameCommand a b
commands_alike words (Ask query) (Ask other) p q = sym (query_of_own_words words query p) ∙ query_of_own_words words other q
commands_alike words (Ask query) (Rewrite request) p q = no_rewrite words query p (ap first_word q.1)
commands_alike words (Rewrite request) (Ask query) p q = no_rewrite words query q (ap first_word p.1)
commands_alike words (Rewrite request) (Rewrite other) p q =
    requests_alike p.0 request other p.2 (subst (λ (rest : List (List ℕ)). Requests rest other) (ap other_words (sym q.1 ∙ p.1)) q.2)

writes_alike : (a b : Command) (t : Table) (written : List ℕ) → SameCommand a b → Writes a t written → Writes b t written
writes_alike (Ask query) (Ask other) t written alike writes = subst (λ (q : Query). Writes (Ask q) t written) alike writes
writes_alike (Ask query) (Rewrite request) t written alike writes = absurd alike
writes_alike (Rewrite request) (Ask query) t written alike writes = absurd alike
writes_alike (Rewrite request) (Rewrite other) t written alike writes = (writes.0, rewrites_alike request other t (Ok writes.0) alike writes.1, writes.2)

declines_alike : (a b : Command) (t : Table) (refusal : Refusal) → SameCommand a b → Declines a t refusal → Declines b t refusal
declines_alike (Ask query) (Ask other) t refusal alike declines = subst (λ (q : Query). Declines (Ask q) t refusal) alike declines
declines_alike (Ask query) (Rewrite request) t refusal alike declines = absurd alike
declines_alike (Rewrite request) (Ask query) t refusal alike declines = absurd alike
declines_alike (Rewrite request) (Rewrite other) t refusal alike declines = rewrites_alike request other t (Err refusal) alike declines

-- ---- lines of the same words

-- two command lines of the same words are equal
pub record SameLine (a b : Line) : Type 0 where
  pub endianness : a.endianness ≡ b.endianness
  pub command : SameCommand a.command b.command

pub lines_alike : (words : List (String Global)) (a b : Line) → Asks words a → Asks words b → SameLine a b
lines_alike words a b p q =
    let same : order_word a.endianness ∷ p.0 ≡ order_word b.endianness ∷ q.0 = sym p.1 ∙ q.1 in
    record {
      endianness = sym (order_of_own_word a.endianness) ∙ ap (λ (ws : List (List ℕ)). order_of_word (first_word ws)) same ∙ order_of_own_word b.endianness;
      command = commands_alike p.0 a.command b.command p.2 (subst (λ (rest : List (List ℕ)). AsksCommand rest b.command) (ap other_words (sym same)) q.2);
    }

pub answers_alike : (a b : Line) (bytes written : List ℕ) → SameLine a b → IsAnswer a bytes written → IsAnswer b bytes written
answers_alike a b bytes written alike is =
    (is.0, subst (λ (e : Endianness). IsTable e bytes is.0) alike.endianness is.1, writes_alike a.command b.command is.0 written alike.command is.2)

pub declined_alike : (a b : Line) (bytes : List ℕ) (refusal : Refusal) → SameLine a b → IsDeclined a bytes refusal → IsDeclined b bytes refusal
declined_alike a b bytes refusal alike is = record { cause = go is.cause }
  where
    go : IsRefusal a.endianness bytes refusal ⊎ ((t : Table) × IsTable a.endianness bytes t × Declines a.command t refusal)
        → IsRefusal b.endianness bytes refusal ⊎ ((t : Table) × IsTable b.endianness bytes t × Declines b.command t refusal)
    go (inl no_table) = inl (subst (λ (e : Endianness). IsRefusal e bytes refusal) alike.endianness no_table)
    go (inr table) = inr (table.0, subst (λ (e : Endianness). IsTable e bytes table.0) alike.endianness table.1, declines_alike a.command b.command table.0 refusal alike.command table.2)

pub written_alike : (a b : Line) (old new input : Option (List ℕ)) → SameLine a b → IfSome input (IsWritten old new a) → IfSome input (IsWritten old new b)
written_alike a b old new None alike written = tt
written_alike a b old new (Some bytes) alike written = (written.0, answers_alike a b bytes written.0 alike written.1, written.2)

made_alike : (a b : Line) (input : Option (List ℕ)) → SameLine a b → IfSome input (λ bytes. (written : List ℕ) × IsAnswer a bytes written) → IfSome input (λ bytes. (written : List ℕ) × IsAnswer b bytes written)
made_alike a b None alike made = tt
made_alike a b (Some bytes) alike made = (made.0, answers_alike a b bytes made.0 alike made.1)

asked_alike : (a b : Line) (input : Option (List ℕ)) (o : Option Refusal) → SameLine a b → IfSome input (λ bytes. IfSome o (IsDeclined a bytes)) → IfSome input (λ bytes. IfSome o (IsDeclined b bytes))
asked_alike a b None o alike declined = tt
asked_alike a b (Some bytes) None alike declined = tt
asked_alike a b (Some bytes) (Some refusal) alike declined = declined_alike a b bytes refusal alike declined

pub failed_alike : (a b : Line) (input old new : Option (List ℕ)) → SameLine a b → HasFailed input old new a → HasFailed input old new b
failed_alike a b input old new alike (faults.Read, failed) = (faults.Read, failed)
failed_alike a b input old new alike (faults.Write, failed) = (faults.Write, made_alike a b input alike failed)
failed_alike a b input old new alike (faults.Btf error, failed) = (faults.Btf error, (failed.0, asked_alike a b input (refusal_of error) alike failed.1))
