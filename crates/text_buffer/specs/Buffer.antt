-- The text of a buffer before a writer.
use Rattle.std.specs.Prelude.{◌≡◌, ◌+◌, ◌≤◌, ℕ, List, length, Option}
use Rattle.std.specs.Io.KnownBytes.{append_known, Appends}
use Rattle.text_buffer.specs.declared.buffer.TextBuffer.{TextBuffer}

-- The text that a buffer was given: what its writer holds, where that is known, and then what the buffer holds.
abbrev pub given_text : {W : Type 0} → (W → Option (List ℕ)) → TextBuffer W → Option (List ℕ)
given_text contents b = append_known (contents b.out.now) b.pending.bytes

-- The buffer receives these bytes, and nothing else, and its writer stays the same.
abbrev pub Takes : {W : Type 0} → (W → Option (List ℕ)) → TextBuffer W → List ℕ → TextBuffer W → Type 0
Takes contents old bytes new =
    (new.out.ghost_name ≡ old.out.ghost_name)
    × Appends (given_text contents old) (given_text contents new) bytes

-- The buffer has room for these bytes.
abbrev pub HasBufferRoom : {W : Type 0} → TextBuffer W → List ℕ → Type 0
HasBufferRoom b bytes = length b.pending.bytes + length bytes ≤ 8192
