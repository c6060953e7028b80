use Rattle.std.proofs.Common.{ℕ, List, [], ◌∷◌, length, Ok}
use Rattle.btf_model.proofs.Known.{known_pairs}
use Rattle.btf_model.proofs.RunLengths.{widest, left_to_do}
use Rattle.btf_compare.specs.PairMap.{count}
use Rattle.btf_compare.specs.Compared.{ComesTo, frame_of, opened_in, compatible_in, passed_in}
use Rattle.btf_compare.specs.Pairs.{pair_of}
use Rattle.btf_compare.proofs.Comparing.{IsRunning, stack_of}
use Rattle.btf_compare.proofs.Passed.{ArePassed}
use Rattle.btf_compare.proofs.run.compare_on.Given as goal

-- the pairs that were reported until now, if the pair of the call was reported before
abbrev pub reported : (g : goal.Over) → ℕ × ℕ → g.row.S.Denot → g.row.S.Denot → List (ℕ × ℕ) → Type 0
reported g root begun now ids = (before : g.row.S.Denot) → g.S.Starts.has_added before begun (root ∷ []) → g.S.Starts.has_added before now ids

abbrev pub invariant-steps : goal.invariant-steps
invariant-steps g l =
    IsRunning l.local l.target (pair_of l.fn.first.pair) (opened_in l.run.seen) (compatible_in l.run.seen) (frame_of l.top) (stack_of l.run.below.items) (count l.run.seen) (reported g l.fn.first.pair l.fn.starts l.starts)
    × ArePassed l.local l.target (compatible_in l.run.seen) (passed_in l.run.passed)
    × ComesTo l.local l.target l.top (Ok l.place)

-- the steps that remain, after this number of starts
abbrev pub decreases-steps : goal.decreases-steps
decreases-steps g l = left_to_do (length (known_pairs l.local l.target)) (count l.run.seen) (widest l.local.records) (frame_of l.top) (stack_of l.run.below.items)
