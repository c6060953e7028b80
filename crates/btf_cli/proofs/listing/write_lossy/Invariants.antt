-- The text that was written, followed by the text of the remaining bytes, is the text of all the bytes. If there was
-- room for all of it, the written text is in the buffer.
use Rattle.std.proofs.Common.{◌≡◌, ℕ, List, ◌++◌}
use Rattle.std.specs.Str.Chunks.{utf8_chunks_rest}
use Rattle.std.specs.Str.Lossy.{utf8_lossy}
use Rattle.text_buffer.specs.Buffer.{Takes, HasBufferRoom}
use Rattle.btf_cli.proofs.listing.write_lossy.Given as goal

abbrev pub invariant-loop-chunk : goal.invariant-loop-chunk
invariant-loop-chunk g l =
    (done : List ℕ) × Takes g.W.Write.contents l.fn.lines done l.lines
    × (done ++ utf8_lossy (utf8_chunks_rest l.chunk-iterator) ≡ utf8_lossy l.bytes)
    × (HasBufferRoom l.fn.lines (utf8_lossy l.bytes) → l.lines.pending.bytes ≡ l.fn.lines.pending.bytes ++ done)
