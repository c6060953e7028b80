use Rattle.std.proofs.Common.{◌≡◌, ℕ, List, take}
use Rattle.btf_table.specs.Layout.{offsets_of}
use Rattle.btf_cli.specs.Setting.{Setting, word_texts}
use Rattle.btf_cli.specs.Settings.{SetAll, last_set, offset_set}
use Rattle.btf_cli.proofs.rewrite.symbols.Given as goal

abbrev pub invariant-loop-word : goal.invariant-loop-word
invariant-loop-word l = (settings : List Setting) → SetAll (word_texts l.words) settings → (name : List ℕ) → offsets_of l.symbols name ≡ last_set (offset_set name) (take l.word-index settings)
