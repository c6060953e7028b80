use Rattle.std.proofs.Common.{◌≡◌, ◌∙◌, ◌+◌, ◌-◌, ℕ, List, sym, ap, subst, arith, length, take, drop}
use Rattle.std.proofs.lemmas.List.{take_all, length-drop, length-take}
use Rattle.std.specs.Option.{option_map}
use Rattle.std.proofs.lemmas.Bool.{false_from_ne_true}
use Rattle.btf_table.specs.Ascii.{BeginsAscii}
use Rattle.btf_table.proofs.Ascii.{bytes_after, no_bytes_after, begins_part}
use Rattle.btf_table.proofs.table.text.bytes_at.Goals as goal

pub returns-in_err-end-clause-bytes : goal.returns-in_err-end-clause-bytes
returns-in_err-end-clause-bytes c =
    let strings = c.args.strings.now in
    let rest = c.in_ok-rest.rest.now in
    let after = take (length rest - c.args.ascii) (drop c.args.ascii rest) in
    let rest-is : rest ≡ drop c.args.offset strings = c.in_ok-rest.ensures.lookup.0.2 ∙ take_all (length strings - c.args.offset) (drop c.args.offset strings) (omega (arith, length-drop c.args.offset strings)) in
    let after-is : after ≡ drop c.args.ascii rest = take_all (length rest - c.args.ascii) (drop c.args.ascii rest) (omega (arith, length-drop c.args.ascii rest)) in
    ap (option_map (λ b. b.now)) c.from_residual-in_err-end.ensures ∙ sym (no_bytes_after strings rest after c.args.offset c.args.ascii rest-is c.requires after-is (λ k lt. false_from_ne_true _ (c.in_err-end.ensures k (omega arith) lt)))

pub returns-clause-bytes : goal.returns-clause-bytes
returns-clause-bytes c =
    let strings = c.args.strings.now in
    let rest = c.in_ok-rest.rest.now in
    let after = take (length rest - c.args.ascii) (drop c.args.ascii rest) in
    let rest-is : rest ≡ drop c.args.offset strings = c.in_ok-rest.ensures.lookup.0.2 ∙ take_all (length strings - c.args.offset) (drop c.args.offset strings) (omega (arith, length-drop c.args.offset strings)) in
    let after-is : after ≡ drop c.args.ascii rest = take_all (length rest - c.args.ascii) (drop c.args.ascii rest) (omega (arith, length-drop c.args.ascii rest)) in
    sym (bytes_after strings rest after c.args.offset c.args.ascii c.in_ok-end.end rest-is c.requires after-is c.in_ok-end.ensures.0.high (λ k lt. false_from_ne_true _ (c.in_ok-end.ensures.0.before k (omega arith) lt)) c.in_ok-end.ensures.1)

pub returns-clause-ascii : goal.returns-clause-ascii
returns-clause-ascii c =
    let strings = c.args.strings.now in
    let rest = c.in_ok-rest.rest.now in
    let rest-is : rest ≡ drop c.args.offset strings = c.in_ok-rest.ensures.lookup.0.2 ∙ take_all (length strings - c.args.offset) (drop c.args.offset strings) (omega (arith, length-drop c.args.offset strings)) in
    let begins : BeginsAscii rest c.args.ascii = subst (λ (xs : List ℕ). BeginsAscii xs c.args.ascii) (sym rest-is) c.requires in
    begins_part rest c.args.ascii (c.args.ascii + c.in_ok-end.end) begins (omega arith) (omega (arith, c.in_ok-end.ensures.0.high, begins.within, length-drop c.args.ascii rest, length-take (length rest - c.args.ascii) (drop c.args.ascii rest)))
