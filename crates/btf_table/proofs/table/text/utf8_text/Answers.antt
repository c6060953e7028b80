use Rattle.std.proofs.Common.{◌≡◌, ◌-◌, length, take, drop, subst, sym, arith}
use Rattle.std.specs.Str.{IsUtf8}
use Rattle.std.proofs.lemmas.List.{take_all, length-drop}
use Rattle.btf_table.proofs.Ascii.{utf8_with_ascii, utf8_after_ascii}
use Rattle.btf_table.proofs.table.text.utf8_text.Goals as goal

pub from_utf8_unchecked-requires : goal.from_utf8_unchecked-requires
from_utf8_unchecked-requires c =
    let bytes = c.args.bytes.now in
    let after-is : take (length bytes - c.args.ascii) (drop c.args.ascii bytes) ≡ drop c.args.ascii bytes = take_all (length bytes - c.args.ascii) (drop c.args.ascii bytes) (omega (arith, length-drop c.args.ascii bytes)) in
    utf8_with_ascii bytes c.args.ascii c.requires (subst IsUtf8 after-is c.in-Ok.ensures.cases.1)

pub returns-in-Err : goal.returns-in-Err
returns-in-Err c whole =
    let bytes = c.args.bytes.now in
    let after-is : take (length bytes - c.args.ascii) (drop c.args.ascii bytes) ≡ drop c.args.ascii bytes = take_all (length bytes - c.args.ascii) (drop c.args.ascii bytes) (omega (arith, length-drop c.args.ascii bytes)) in
    c.in-Err.ensures.cases.0 (subst IsUtf8 (sym after-is) (utf8_after_ascii bytes c.args.ascii c.requires whole))
