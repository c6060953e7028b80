use Rattle.std.proofs.Common.{◌≡◌, ◌+◌, ℕ, take, drop, get_or, ap, ◌∙◌, arith}
use Rattle.std.proofs.lemmas.List.{drop-drop}
use Rattle.btf_model.specs.Word.{half_of, word_of}
use Rattle.btf_relocate_model.specs.declared.instruction.Slot.{Slot}
use Rattle.btf_relocate.proofs.instruction.slot_at.Goals as goal

pub returns : goal.returns
returns c =
    let code = c.args.code.now in
    let at = c.args.at in
    let halves = rw c.unwrap.ensures at c.split_first_chunk.ensures.cases in
    let words = rw c.unwrap-2.ensures at c.split_first_chunk-2.ensures.cases in
    let rest : c.unwrap.result.1.now ≡ drop (at + 4) code =
    halves.1 ∙ ap (drop 2) c.split_at.ensures.back ∙ drop-drop 2 (at + 2) code ∙ ap (λ (n : ℕ). drop n code) (omega arith) in
    let offset : c.read_u16.result ≡ half_of c.args.order (take 2 (drop (at + 2) code)) = c.read_u16.ensures ∙ ap (half_of c.args.order) (halves.0 ∙ ap (take 2) c.split_at.ensures.back) in
    let immediate : c.read_u32.result ≡ word_of c.args.order (take 4 (drop (at + 4) code)) = c.read_u32.ensures ∙ ap (word_of c.args.order) (words.0 ∙ ap (take 4) rest) in
    ap (λ (n : ℕ). let s : Slot = record { opcode = get_or code at 0; registers = get_or code (at + 1) 0; offset = n; immediate = c.read_u32.result } in s) offset
    ∙ ap (λ (n : ℕ). let s : Slot = record { opcode = get_or code at 0; registers = get_or code (at + 1) 0; offset = half_of c.args.order (take 2 (drop (at + 2) code)); immediate = n } in s) immediate
