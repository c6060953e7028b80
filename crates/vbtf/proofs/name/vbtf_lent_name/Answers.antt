use Rattle.std.proofs.Common.{◌≡◌, ◌∙◌, length, Some, refl, ap, subst, inl}
use Rattle.std.specs.Option.{option_map}
use Rattle.btf_model.specs.Text.{bytes_at}
use Rattle.vbtf.specs.Lent.{AreNamesFrom}
use Rattle.vbtf.specs.declared.handle.Handle.{Handle}
use Rattle.vbtf.specs.declared.opened.Opened.{Opened}
use Rattle.vbtf.proofs.Naming.{is_name}
use Rattle.vbtf.proofs.name.vbtf_lent_name.Goals as goal

pub returns-clause-named : goal.returns-clause-named
returns-clause-named c two =
    let now : c.read_state.new.self ≡ c.args.table.now = c.read_state.ensures.1 in
    let kept = c.name_len.ensures.kept in
    let opened : c.name_len.new.table.opened ≡ c.args.table.now.opened = kept.opened ∙ ap (λ (h : Handle). h.opened) now in
    let found = subst (λ (h : Handle). Some c.in-Some.found ≡ option_map length (bytes_at h.opened.btf.strings c.args.offset)) now c.in-Some.ensures.found in
    let from = subst (λ (o : Opened). AreNamesFrom o.btf.strings c.args.offset c.names_at.result.bytes) opened c.names_at.ensures.1.1 in
    let life = c.names_at.ensures.1.0 ∙ kept.life ∙ ap (λ (h : Handle). h.life) now in
    inl (refl, is_name c.args.table.now.opened.btf.strings c.args.offset c.args.table.now.life c.in-Some.found c.names_at.result found from life)
