use Rattle.std.proofs.Common.{◌≡◌, ℕ, List, codes, length, refl, sym, ap, subst, rules, arith}
use Rattle.std.proofs.lemmas.Bool.{false≢true}
use Rattle.std.proofs.lemmas.List.{length-append}
use Rattle.btf_model.specs.Text.{lossy}
use Rattle.btf_records.specs.BtfType.{record_of}
use Rattle.text_buffer.specs.Buffer.{Takes}
use Rattle.btf_cli.proofs.Taken.{takes_both, takes_none}
use Rattle.btf_cli.proofs.Named.{named_part, unnamed_part}
use Rattle.btf_cli.proofs.listing.write_name.Goals as goal

pub returns-in_err-put-clause-room : goal.returns-in_err-put-clause-room
returns-in_err-put-clause-room g c = λ room.
    let bytes = c.unwrap_or-bytes.result.now in
    let some : ¬ (length bytes ≡ 0) = search rules in
    let part = named_part (λ b. b.now) (record_of c.args.btf_type.now).name c.name_bytes.result _ _ c.unwrap_or-bytes.result c.name_bytes.ensures refl c.unwrap_or-bytes.ensures some in
    absurd (false≢true (c.in_err-put.ensures.room (omega (arith, room, ap length part, length-append (codes " ") (lossy bytes)))).0)

pub returns-in_err-write_lossy-clause-room : goal.returns-in_err-write_lossy-clause-room
returns-in_err-write_lossy-clause-room g c = λ room.
    let bytes = c.unwrap_or-bytes.result.now in
    let some : ¬ (length bytes ≡ 0) = search rules in
    let part = named_part (λ b. b.now) (record_of c.args.btf_type.now).name c.name_bytes.result _ _ c.unwrap_or-bytes.result c.name_bytes.ensures refl c.unwrap_or-bytes.ensures some in
    let total = length-append (codes " ") (lossy bytes) in
    let put = c.in_ok-put.ensures.room (omega (arith, room, ap length part, total)) in
    absurd (false≢true (c.in_err-write_lossy.ensures.room (omega (arith, room, ap length part, total, ap length put.1, length-append c.args.lines.now.pending.bytes (codes " ")))))

pub returns-in_ok-write_lossy-clause-taken : goal.returns-in_ok-write_lossy-clause-taken
returns-in_ok-write_lossy-clause-taken g c =
    let held = g.W.Write.contents in
    let bytes = c.unwrap_or-bytes.result.now in
    let some : ¬ (length bytes ≡ 0) = search rules in
    let part = named_part (λ b. b.now) (record_of c.args.btf_type.now).name c.name_bytes.result _ _ c.unwrap_or-bytes.result c.name_bytes.ensures refl c.unwrap_or-bytes.ensures some in
    subst (λ (text : List ℕ). Takes held c.args.lines.now text c.write_lossy.new.lines) (sym part)
    (takes_both held c.args.lines.now c.put.new.self c.write_lossy.new.lines (codes " ") (lossy bytes) c.in_ok-put.ensures.taken c.in_ok-write_lossy.ensures.taken)

pub returns-else-not-is_empty-clause-taken : goal.returns-else-not-is_empty-clause-taken
returns-else-not-is_empty-clause-taken g c =
    let held = g.W.Write.contents in
    let bytes = c.unwrap_or-bytes.result.now in
    let none : length bytes ≡ 0 = search rules in
    let part = unnamed_part (λ b. b.now) (record_of c.args.btf_type.now).name c.name_bytes.result _ _ c.unwrap_or-bytes.result c.name_bytes.ensures refl c.unwrap_or-bytes.ensures none in
    subst (λ (text : List ℕ). Takes held c.args.lines.now text c.args.lines.now) (sym part) (takes_none held c.args.lines.now)
