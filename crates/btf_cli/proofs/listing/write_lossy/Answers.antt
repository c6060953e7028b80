use Rattle.std.proofs.Common.{◌≡◌, ◌<◌, ℕ, List, ◌++◌, length, sym, ap, subst, ◌∙◌, rules}
use Rattle.std.proofs.lemmas.Bool.{false≢true}
use Rattle.std.proofs.lemmas.List.{append-nil, append_assoc}
use Rattle.std.proofs.lemmas.Str.{utf8_lossy_chunk, utf8_lossy_last_chunk, utf8_lossy_empty}
use Rattle.std.specs.Str.Chunks.{utf8_chunks_rest}
use Rattle.std.specs.Str.Lossy.{utf8_lossy, replacement_bytes}
use Rattle.bstr.proofs.lemmas.LossyLemmas.{lossy_chars-utf8_lossy}
use Rattle.text_buffer.specs.Buffer.{Takes, HasBufferRoom}
use Rattle.btf_cli.proofs.Taken.{takes_both, room_next, added, text_begins}
use Rattle.btf_cli.proofs.listing.write_lossy.Goals as goal

pub loop-chunk-preserved-in-Continue-branch-2 : goal.loop-chunk-preserved-in-Continue-branch-2
loop-chunk-preserved-in-Continue-branch-2 g c =
    let held = g.W.Write.contents in
    let steps = c.in-Some.ensures.steps in
    let (done, taken, read, kept) = c.loop-chunk.invariant in
    let valid = c.valid.result.now in
    let left = utf8_lossy (utf8_chunks_rest c.next.new.self) in
    let some : 0 < length c.in-Some.chunk.invalid.now = search rules in
    let text = utf8_lossy_chunk _ _ _ _ steps.0 steps.3.0 steps.3.1 some in
    let front = takes_both held c.args.lines.now c.loop-chunk.lines c.put.new.self done valid taken c.in_ok-put.ensures.taken in
    let both = takes_both held c.args.lines.now c.put.new.self c.put-then-not-is_empty.new.self (done ++ valid) replacement_bytes front c.in_ok-put-2.ensures.taken in
    let parts : done ++ (valid ++ (replacement_bytes ++ left)) ≡ utf8_lossy c.args.bytes.now =
    ap (λ (xs : List ℕ). done ++ (xs ++ (replacement_bytes ++ left))) c.valid.ensures ∙ ap (λ (xs : List ℕ). done ++ xs) (sym text) ∙ read in
    let same : ((done ++ valid) ++ replacement_bytes) ++ left ≡ utf8_lossy c.args.bytes.now =
    append_assoc (done ++ valid) replacement_bytes left ∙ append_assoc done valid (replacement_bytes ++ left) ∙ parts in (
      (done ++ valid) ++ replacement_bytes,
      both,
      same,
      λ room.
          let in_put = (c.in_ok-put.ensures.room (room_next c.args.lines.now.pending.bytes c.loop-chunk.lines.pending.bytes (utf8_lossy c.args.bytes.now) done valid (replacement_bytes ++ left) room (kept room) parts)).1 in
          let in_front : c.put.new.self.pending.bytes ≡ c.args.lines.now.pending.bytes ++ (done ++ valid) = added c.args.lines.now.pending.bytes c.loop-chunk.lines.pending.bytes c.put.new.self.pending.bytes done valid (kept room) in_put in
          let in_both = (c.in_ok-put-2.ensures.room (room_next c.args.lines.now.pending.bytes c.put.new.self.pending.bytes (utf8_lossy c.args.bytes.now) (done ++ valid) replacement_bytes left room in_front (append_assoc done valid (replacement_bytes ++ left) ∙ parts))).1 in
          added c.args.lines.now.pending.bytes c.put.new.self.pending.bytes c.put-then-not-is_empty.new.self.pending.bytes (done ++ valid) replacement_bytes in_front in_both,
    )

pub loop-chunk-preserved : goal.loop-chunk-preserved
loop-chunk-preserved g c =
    let held = g.W.Write.contents in
    let steps = c.in-Some.ensures.steps in
    let (done, taken, read, kept) = c.loop-chunk.invariant in
    let valid = c.valid.result.now in
    let left = utf8_lossy (utf8_chunks_rest c.next.new.self) in
    let none : length c.in-Some.chunk.invalid.now ≡ 0 = search rules in
    let text = utf8_lossy_last_chunk _ _ _ _ steps.0 steps.3.0 none (steps.2 none) in
    let both = takes_both held c.args.lines.now c.loop-chunk.lines c.put.new.self done valid taken c.in_ok-put.ensures.taken in
    let parts : done ++ (valid ++ left) ≡ utf8_lossy c.args.bytes.now =
    ap (λ (xs : List ℕ). done ++ (xs ++ left)) c.valid.ensures ∙ ap (λ (xs : List ℕ). done ++ xs) (sym text) ∙ read in (
      done ++ valid,
      both,
      append_assoc done valid left ∙ parts,
      λ room.
          let in_put = (c.in_ok-put.ensures.room (room_next c.args.lines.now.pending.bytes c.loop-chunk.lines.pending.bytes (utf8_lossy c.args.bytes.now) done valid left room (kept room) parts)).1 in
          added c.args.lines.now.pending.bytes c.loop-chunk.lines.pending.bytes c.put.new.self.pending.bytes done valid (kept room) in_put,
    )

pub returns-clause-taken : goal.returns-clause-taken
returns-clause-taken g c =
    let (done, taken, read, kept) = c.loop-chunk.invariant in
    let none = utf8_lossy_empty (utf8_chunks_rest c.loop-chunk.chunk-iterator) c.in-None.ensures.steps.0 in
    let whole : done ≡ utf8_lossy c.args.bytes.now = sym (append-nil done) ∙ ap (λ (xs : List ℕ). done ++ xs) (sym none) ∙ read in
    subst (λ (xs : List ℕ). Takes g.W.Write.contents c.args.lines.now xs c.loop-chunk.lines) (whole ∙ sym (lossy_chars-utf8_lossy c.args.bytes.now)) taken

pub returns-in_err-put-clause-room : goal.returns-in_err-put-clause-room
returns-in_err-put-clause-room g c = λ fits.
    let steps = c.in-Some.ensures.steps in
    let (done, taken, read, kept) = c.loop-chunk.invariant in
    let room = subst (HasBufferRoom c.args.lines.now) (lossy_chars-utf8_lossy c.args.bytes.now) fits in
    let (more, text) = text_begins _ _ _ _ steps.0 steps.3.0 steps.3.1 steps.2 in
    let parts : done ++ (c.valid.result.now ++ more) ≡ utf8_lossy c.args.bytes.now = ap (λ (xs : List ℕ). done ++ (xs ++ more)) c.valid.ensures ∙ ap (λ (xs : List ℕ). done ++ xs) text ∙ read in
    let put = c.in_err-put.ensures.room (room_next c.args.lines.now.pending.bytes c.loop-chunk.lines.pending.bytes (utf8_lossy c.args.bytes.now) done c.valid.result.now more room (kept room) parts) in
    absurd (false≢true put.0)

pub returns-in_err-put-2-clause-room : goal.returns-in_err-put-2-clause-room
returns-in_err-put-2-clause-room g c = λ fits.
    let steps = c.in-Some.ensures.steps in
    let (done, taken, read, kept) = c.loop-chunk.invariant in
    let valid = c.valid.result.now in
    let left = utf8_lossy (utf8_chunks_rest c.next.new.self) in
    let room = subst (HasBufferRoom c.args.lines.now) (lossy_chars-utf8_lossy c.args.bytes.now) fits in
    let some : 0 < length c.in-Some.chunk.invalid.now = search rules in
    let text = utf8_lossy_chunk _ _ _ _ steps.0 steps.3.0 steps.3.1 some in
    let parts : done ++ (valid ++ (replacement_bytes ++ left)) ≡ utf8_lossy c.args.bytes.now =
    ap (λ (xs : List ℕ). done ++ (xs ++ (replacement_bytes ++ left))) c.valid.ensures ∙ ap (λ (xs : List ℕ). done ++ xs) (sym text) ∙ read in
    let in_put = (c.in_ok-put.ensures.room (room_next c.args.lines.now.pending.bytes c.loop-chunk.lines.pending.bytes (utf8_lossy c.args.bytes.now) done valid (replacement_bytes ++ left) room (kept room) parts)).1 in
    let in_front : c.put.new.self.pending.bytes ≡ c.args.lines.now.pending.bytes ++ (done ++ valid) = added c.args.lines.now.pending.bytes c.loop-chunk.lines.pending.bytes c.put.new.self.pending.bytes done valid (kept room) in_put in
    let put = c.in_err-put-2.ensures.room (room_next c.args.lines.now.pending.bytes c.put.new.self.pending.bytes (utf8_lossy c.args.bytes.now) (done ++ valid) replacement_bytes left room in_front (append_assoc done valid (replacement_bytes ++ left) ∙ parts)) in
    absurd (false≢true put.0)
