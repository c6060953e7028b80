-- The name is the text of the bytes that were read, and the rest.
use Rattle.std.proofs.Common.{◌≡◌, ℕ, List, ◌++◌}
use Rattle.std.specs.Str.Chunks.{utf8_chunks_rest}
use Rattle.std.specs.Str.Lossy.{utf8_lossy}
use Rattle.btf_view.proofs.text.is_text_of.Given as goal

abbrev pub invariant-loop-chunk : goal.invariant-loop-chunk
invariant-loop-chunk l =
    (done : List ℕ) × (l.name ≡ done ++ l.rest) × (done ++ utf8_lossy (utf8_chunks_rest l.chunk-iterator) ≡ utf8_lossy l.bytes)
