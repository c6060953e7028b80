-- A pending pair that is started: its walk, before the run records its progress.
use Rattle.std.proofs.Common.{◌≡◌, ℕ, ◌+◌, ◌<◌, List, [], ◌∷◌, ◌++◌, length, refl, sym, ap, subst, ◌∙◌, Bool, true, false, None, Ok, Err, Result}
use Rattle.std.specs.Prelude.{cond}
use Rattle.std.specs.BTreeSet.{BTreeSet}
use Rattle.btf_model.specs.Table.{Table}
use Rattle.btf_model.specs.Fields.{Pair, HaveKinds}
use Rattle.btf_model.specs.Compat.{pair_eq}
use Rattle.btf_model.specs.Run as runs
use Rattle.btf_model.specs.Run.{new_frame, IsNext}
use Rattle.btf_model.proofs.Known.{known_pairs}
use Rattle.btf_model.proofs.RunLengths.{widest, left_to_do, less_settled}
use Rattle.btf_plain.specs.declared.error.BtfError.{BtfError}
use Rattle.btf_plain.specs.declared.error.BtfError.TheVariants as errors
use Rattle.btf_compare.specs.declared.frame.Frame.{Frame}
use Rattle.btf_compare.specs.declared.entries.Progress.TheVariants.{Open, Compatible}
use Rattle.btf_compare.specs.declared.pair_map.PairMap.{PairMap}
use Rattle.btf_compare.specs.PairMap.{known_progress, count, Learns}
use Rattle.btf_compare.specs.Compared.{WalksTo, ComesTo, IsStarted, frame_of, is_progress_open, is_progress_compatible, opened_in, compatible_in, passed_in, Compares}
use Rattle.btf_compare.specs.Pairs.{pair_of}
use Rattle.btf_compare.proofs.Comparing.{PairSet, Changes, IsRunning, ReportsOneMore, stack_of, stack_push, no_memory, ends_refused, ends_false, starts, settles, still_in, less_by_start}
use Rattle.btf_compare.proofs.Passed.{ArePassed, still_passed}
use Rattle.btf_compare.proofs.Progresses.{learned, learned_nothing}
use Rattle.btf_compare.proofs.Walking.{Running, PassedIn, left, shorter, lower, walked, walked_less}

cond_again : (c x : Bool) → cond c false x ≡ cond c false (cond c true x)
cond_again true x = refl
cond_again false x = refl

-- A pending pair of the open pair top, which is g after it: the pair was started, and its walk got from f to h.
pub record Above (local target : Table) (root : Pair) (seen : PairMap) (passed : BTreeSet (ℕ × ℕ)) (below : List Frame) (top : Frame) (IsReported IsReportedNow : List (ℕ × ℕ) → Type 0) (ids : ℕ × ℕ) (g f h : Frame) : Type 0 where
  pub state : Running local target root seen below top IsReported
  pub are : PassedIn local target seen passed
  pub next : IsNext local target (frame_of top) (runs.Waits (pair_of ids) (frame_of g))
  pub unknown : known_progress seen ids ≡ None
  pub begins : IsStarted local target (pair_of ids) true
  pub tells : ReportsOneMore IsReported IsReportedNow ids
  pub new : frame_of f ≡ new_frame (pair_of ids)
  pub goes : WalksTo local target (passed_in passed) (frame_of f) (frame_of h)

module _ {local target : Table} {root : Pair} {seen : PairMap} {passed : BTreeSet (ℕ × ℕ)} {below : List Frame} {top : Frame} {IsReported IsReportedNow : List (ℕ × ℕ) → Type 0} {ids : ℕ × ℕ} {g f h : Frame} (w : Above local target root seen passed below top IsReported IsReportedNow ids g f h) where
  -- it is open too
  abbrev opened : PairSet
  opened q = cond (pair_eq (pair_of ids) q) true (opened_in seen q)

  inner_starts : IsRunning local target root opened (compatible_in seen) (frame_of f) (frame_of g ∷ stack_of below) (count seen + 1) IsReportedNow
  inner_starts =
      starts local target root (opened_in seen) (compatible_in seen) (frame_of top) (stack_of below) (count seen) IsReported w.state (pair_of ids) (frame_of g) w.next (ap is_progress_open w.unknown) (ap is_progress_compatible w.unknown) f opened (count seen + 1) IsReportedNow w.begins w.new (λ q. refl) refl w.tells

  inner_walks : IsRunning local target root opened (compatible_in seen) (frame_of h) (frame_of g ∷ stack_of below) (count seen + 1) IsReportedNow
  inner_walks = walked local target root opened (compatible_in seen) (passed_in passed) (frame_of g ∷ stack_of below) (count seen + 1) IsReportedNow w.are (frame_of f) inner_starts (frame_of h) w.goes

  inner_less : left_to_do (length (known_pairs local target)) (count seen + 1) (widest local.records) (frame_of h) (frame_of g ∷ stack_of below) < left local target seen below top
  inner_less =
      shorter _ _ _
      (walked_less local target root opened (compatible_in seen) (passed_in passed) (frame_of g ∷ stack_of below) (count seen + 1) IsReportedNow w.are (frame_of f) inner_starts (length (known_pairs local target)) (widest local.records) (frame_of h) w.goes)
      (less_by_start local target root opened (compatible_in seen) (frame_of f) (frame_of top) (frame_of g) (pair_of ids) (stack_of below) (count seen) (count seen + 1) IsReportedNow w.next w.new refl inner_starts)

  pub inner_no_memory : HaveKinds local → HaveKinds target → (result : Result Bool BtfError) → result ≡ Err errors.OutOfMemory → Compares local target root result IsReportedNow
  inner_no_memory ls ts result is = no_memory local target root opened (compatible_in seen) (frame_of h) (frame_of g ∷ stack_of below) (count seen + 1) IsReportedNow inner_walks ls ts result is

  pub inner_fails : (e : BtfError) (result : Result Bool BtfError) → ComesTo local target h (Err e) → result ≡ Err e → Compares local target root result IsReportedNow
  inner_fails e result comes is = ends_refused local target root opened (compatible_in seen) (frame_of h) (frame_of g ∷ stack_of below) (count seen + 1) IsReportedNow inner_walks (Err e) result e refl is comes

  pub inner_false : IsNext local target (frame_of h) (runs.Ends (Ok false)) → Compares local target root (Ok false) IsReportedNow
  inner_false ends = ends_false local target root opened (compatible_in seen) (frame_of h) (frame_of g ∷ stack_of below) (count seen + 1) IsReportedNow inner_walks ends

  -- ---- it is compatible

  module _ (same : h.pair ≡ ids) (more : PairMap) (learns : Learns seen more ids Compatible) where
    changes : Changes (compatible_in seen) (compatible_in more) (pair_of ids) true
    changes = learned seen more ids Compatible learns is_progress_compatible

    pub inner_settled_passed : PassedIn local target more passed
    inner_settled_passed = still_passed local target (compatible_in seen) (compatible_in more) (passed_in passed) (still_in (compatible_in seen) (compatible_in more) (pair_of ids) changes) w.are

    module _ (counts : count more ≡ count seen + 1) where
      pub inner_settled : IsNext local target (frame_of h) (runs.Ends (Ok true)) → Running local target root more below g IsReportedNow
      inner_settled ends =
          subst (λ (n : ℕ). IsRunning local target root (opened_in more) (compatible_in more) (frame_of g) (stack_of below) n IsReportedNow) (sym counts)
          (settles local target root opened (compatible_in seen) (frame_of h) (frame_of g) (stack_of below) (count seen + 1) IsReportedNow inner_walks (opened_in more) (compatible_in more) ends
          (subst (λ (p : ℕ × ℕ). Changes (compatible_in seen) (compatible_in more) (pair_of p) true) (sym same) changes)
          (subst (λ (p : ℕ × ℕ). Changes opened (opened_in more) (pair_of p) false) (sym same) (λ q. learned seen more ids Compatible learns is_progress_open q ∙ cond_again (pair_eq (pair_of ids) q) (opened_in seen q))))

      pub inner_settled_less : left local target more below g < left local target seen below top
      inner_settled_less = lower _ _ _ (rw counts (less_settled local target (length (known_pairs local target)) (count seen + 1) (widest local.records) (frame_of h) (frame_of g) (stack_of below))) inner_less

  -- ---- it is at prototypes

  module _ (more : PairMap) (learns : Learns seen more ids Open) where
    nothing : ◌≡◌ {A = Pair → Bool} (compatible_in more) (compatible_in seen)
    nothing = learned_nothing seen more ids Open learns is_progress_compatible (ap is_progress_compatible w.unknown)

    pub inner_open_passed : PassedIn local target more passed
    inner_open_passed = subst (λ (settled : Pair → Bool). ArePassed local target settled (passed_in passed)) (sym nothing) w.are

    module _ (counts : count more ≡ count seen + 1) (above : List Frame) (is : above ≡ below ++ g ∷ []) where
      pub inner_open : Running local target root more above h IsReportedNow
      inner_open =
          subst (λ (s : List runs.Frame). IsRunning local target root (opened_in more) (compatible_in more) (frame_of h) s (count more) IsReportedNow) (sym (stack_push below above g is))
          (subst (λ (n : ℕ). IsRunning local target root (opened_in more) (compatible_in more) (frame_of h) (frame_of g ∷ stack_of below) n IsReportedNow) (sym counts)
          (subst (λ (settled : PairSet). IsRunning local target root (opened_in more) settled (frame_of h) (frame_of g ∷ stack_of below) (count seen + 1) IsReportedNow) (sym nothing)
          (subst (λ (open_ones : PairSet). IsRunning local target root open_ones (compatible_in seen) (frame_of h) (frame_of g ∷ stack_of below) (count seen + 1) IsReportedNow) (λ i q. (sym (learned seen more ids Open learns is_progress_open q)) i) inner_walks)))

      pub inner_open_less : left local target more above h < left local target seen below top
      inner_open_less = rw (stack_push below above g is, counts) inner_less
