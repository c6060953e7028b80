use Rattle.std.proofs.Common.{◌≡◌, ℕ, List, take}
use Rattle.btf_table.specs.Layout.{sizes_of}
use Rattle.btf_cli.specs.Setting.{Setting, word_texts}
use Rattle.btf_cli.specs.Settings.{SetAll, last_set, size_set}
use Rattle.btf_cli.proofs.rewrite.sections.Given as goal

abbrev pub invariant-loop-word : goal.invariant-loop-word
invariant-loop-word l = (settings : List Setting) → SetAll (word_texts l.words) settings → (name : List ℕ) → sizes_of l.sections name ≡ last_set (size_set name) (take l.word-index settings)
