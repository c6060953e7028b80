-- What an answer says about the shape of its type, and what two splits of a list of members have in common.
use Rattle.std.proofs.Common.{◌≡◌, ◌⊎◌, ℕ, List, [], ◌∷◌, ◌++◌, refl, sym, ap, subst, inl, inr, Some, Result, Ok, Err}
use Rattle.btf_model.specs.Record.{Record}
use Rattle.btf_model.specs.Refusal.{Refusal}
use Rattle.btf_layout_model.specs.Alignment.{AlignedMember, Shape, Fixed, SameAs, Composed, Unaligned, shape_in, decided_by, composed, Aligns, InPlace, Needs}

-- ---- lists of members

head_or : AlignedMember → List AlignedMember → AlignedMember
head_or d [] = d
head_or d (m ∷ ms) = m

tail_of : List AlignedMember → List AlignedMember
tail_of [] = []
tail_of (m ∷ ms) = ms

pub same_head : (m n : AlignedMember) (ms ns : List AlignedMember) → m ∷ ms ≡ n ∷ ns → m ≡ n
unfolding head_or
same_head m n ms ns e = ap (head_or m) e

pub same_tail : (m n : AlignedMember) (ms ns : List AlignedMember) → m ∷ ms ≡ n ∷ ns → ms ≡ ns
unfolding tail_of
same_tail m n ms ns e = ap tail_of e

-- ---- shapes

-- a member decides this answer, and the members before it are in their places
abbrev pub Decides : List Record → List AlignedMember → Result ℕ Refusal → Type 0
Decides records members answer =
    (largest : ℕ) × (before after : List AlignedMember) × (m : AlignedMember) × (alignment : Result ℕ Refusal)
    × (members ≡ before ++ m ∷ after) × InPlace records before largest × Aligns records m.type alignment
    × (decided_by m alignment ≡ Some answer)

-- the answer of a type of this shape
abbrev pub By : List Record → Shape → Result ℕ Refusal → Type 0
By records (Fixed alignment) answer = Ok alignment ≡ answer
By records (SameAs type) answer = Aligns records type answer
By records (Composed size members) answer =
    Decides records members answer
    ⊎ ((largest : ℕ) × InPlace records members largest × (Ok (composed size largest) ≡ answer))
By records (Unaligned refusal) answer = Err refusal ≡ answer

pub by_shape : (records : List Record) (id : ℕ) (answer : Result ℕ Refusal) → Aligns records id answer → By records (shape_in records id) answer
by_shape records id answer (Aligns.unaligned _ refusal is) = subst (λ (s : Shape). By records s (Err refusal)) (sym is) refl
by_shape records id answer (Aligns.fixed _ alignment is) = subst (λ (s : Shape). By records s (Ok alignment)) (sym is) refl
by_shape records id answer (Aligns.same_as _ type _ is h) = subst (λ (s : Shape). By records s answer) (sym is) h
by_shape records id answer (Aligns.decided _ size largest before after m alignment _ is places h by) =
    subst (λ (s : Shape). By records s answer) (sym is) (inl (largest, before, after, m, alignment, refl, places, h, by))
by_shape records id answer (Aligns.all _ size largest members is places) =
    subst (λ (s : Shape). By records s (Ok (composed size largest))) (sym is) (inr (largest, places, refl))

-- the same at a shape that is known
pub by : (records : List Record) (id : ℕ) (answer : Result ℕ Refusal) (s : Shape) → shape_in records id ≡ s → Aligns records id answer → By records s answer
by records id answer s is h = subst (λ (x : Shape). By records x answer) is (by_shape records id answer h)

-- the type that a type of this shape needs
abbrev pub NeedsBy : List Record → Shape → ℕ → Type 0
NeedsBy records (Fixed alignment) type = ⊥
NeedsBy records (SameAs next) type = next ≡ type
NeedsBy records (Composed size members) type =
    (largest : ℕ) × (before after : List AlignedMember) × (m : AlignedMember) × (members ≡ before ++ m ∷ after)
    × InPlace records before largest × (m.type ≡ type)
NeedsBy records (Unaligned refusal) type = ⊥

needs_by_shape : (records : List Record) (id type : ℕ) → Needs records id type → NeedsBy records (shape_in records id) type
needs_by_shape records id type (inl is) = subst (λ (s : Shape). NeedsBy records s type) (sym is) refl
needs_by_shape records id type (inr (size, largest, before, after, m, is, places, here)) =
    subst (λ (s : Shape). NeedsBy records s type) (sym is) (largest, before, after, m, refl, places, here)

pub needs_by : (records : List Record) (id type : ℕ) (s : Shape) → shape_in records id ≡ s → Needs records id type → NeedsBy records s type
needs_by records id type s is h = subst (λ (x : Shape). NeedsBy records x type) is (needs_by_shape records id type h)
