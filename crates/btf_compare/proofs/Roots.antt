-- The pair of a call: its walk, before the run records anything.
use Rattle.std.proofs.Common.{◌≡◌, ℕ, List, [], ◌∷◌, refl, subst, Bool, true, false, Ok, Err, Result}
use Rattle.std.specs.Prelude.{cond}
use Rattle.std.specs.BTreeSet.{BTreeSet, IsEmpty}
use Rattle.btf_model.specs.Table.{Table}
use Rattle.btf_model.specs.Fields.{Pair, HaveKinds}
use Rattle.btf_model.specs.Compat.{pair_eq}
use Rattle.btf_model.specs.Run as runs
use Rattle.btf_model.specs.Run.{new_frame, IsNext}
use Rattle.btf_plain.specs.declared.error.BtfError.{BtfError}
use Rattle.btf_plain.specs.declared.error.BtfError.TheVariants as errors
use Rattle.btf_compare.specs.declared.frame.Frame.{Frame}
use Rattle.btf_compare.specs.Compared.{WalksTo, ComesTo, IsStarted, frame_of, passed_in, Compares}
use Rattle.btf_compare.specs.Pairs.{pair_of}
use Rattle.btf_compare.proofs.Comparing.{PairSet, IsRunning, root_started, no_memory, ends_refused, ends_false, ends_true}
use Rattle.btf_compare.proofs.Passed.{none_passed, nothing_in}
use Rattle.btf_compare.proofs.Walking.{walked}

-- an empty set has no passed prototypes
pub nothing_passed : (set : BTreeSet (ℕ × ℕ)) → IsEmpty set → passed_in set ≡ (λ (p : Pair). false)
nothing_passed set none = λ i p. nothing_in set none p i

-- the frame of a pair before its first step
abbrev pub root_frame : ℕ × ℕ → Frame
root_frame ids = record { pair = ids; at = ids; taken = 0; parameter = 0 }

module _ (local target : Table) (ids : ℕ × ℕ) (IsReported : List (ℕ × ℕ) → Type 0) (begins : IsStarted local target (pair_of ids) true) (decided : IsReported (ids ∷ [])) where
  -- it alone is open
  abbrev opened : PairSet
  opened q = cond (pair_eq (pair_of ids) q) true false

  abbrev settled : PairSet
  settled q = false

  root_runs : IsRunning local target (pair_of ids) opened settled (new_frame (pair_of ids)) [] 1 IsReported
  root_runs = root_started local target ids (root_frame ids) (λ q. false) opened settled [] 1 IsReported begins refl refl (λ q. refl) (λ q. refl) (λ q. refl) refl decided

  pub root_no_memory : HaveKinds local → HaveKinds target → (result : Result Bool BtfError) → result ≡ Err errors.OutOfMemory → Compares local target (pair_of ids) result IsReported
  root_no_memory ls ts result is = no_memory local target (pair_of ids) opened settled (new_frame (pair_of ids)) [] 1 IsReported root_runs ls ts result is

  module _ (g : Frame) (goes : WalksTo local target (λ p. false) (new_frame (pair_of ids)) (frame_of g)) where
    root_walks : IsRunning local target (pair_of ids) opened settled (frame_of g) [] 1 IsReported
    root_walks =
        walked local target (pair_of ids) opened settled (λ p. false) [] 1 IsReported (none_passed local target settled (λ p. false) (λ p. refl)) (new_frame (pair_of ids)) root_runs (frame_of g) goes

    pub root_fails : (e : BtfError) (result : Result Bool BtfError) → ComesTo local target g (Err e) → result ≡ Err e → Compares local target (pair_of ids) result IsReported
    root_fails e result comes is = ends_refused local target (pair_of ids) opened settled (frame_of g) [] 1 IsReported root_walks (Err e) result e refl is comes

    pub root_ends : (b : Bool) → IsNext local target (frame_of g) (runs.Ends (Ok b)) → Compares local target (pair_of ids) (Ok b) IsReported
    root_ends true next = ends_true local target (pair_of ids) opened settled (frame_of g) [] 1 IsReported root_walks next refl
    root_ends false next = ends_false local target (pair_of ids) opened settled (frame_of g) [] 1 IsReported root_walks next

-- a walk without passed prototypes is a walk with any set of them
pub root_goes : (local target : Table) (set : BTreeSet (ℕ × ℕ)) (ids : ℕ × ℕ) (top g : Frame) → IsEmpty set → frame_of top ≡ new_frame (pair_of ids) → WalksTo local target (passed_in set) (frame_of top) (frame_of g) → WalksTo local target (λ p. false) (new_frame (pair_of ids)) (frame_of g)
root_goes local target set ids top g none new goes =
    subst (λ (f : runs.Frame). WalksTo local target (λ p. false) f (frame_of g)) new
    (subst (λ (passed : PairSet). WalksTo local target passed (frame_of top) (frame_of g)) (nothing_passed set none) goes)
