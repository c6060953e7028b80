use Rattle.std.proofs.Common.{◌∙◌, ◌++◌, List, ℕ, Ok, Result, sym, ap}
use Rattle.std.specs.HashMap.{keys}
use Rattle.std.proofs.lemmas.List.{append-nil}
use Rattle.btf_model.specs.Refusal.{Refusal}
use Rattle.vbtf.specs.ExtRead.{zero_ended}
use Rattle.vbtf.proofs.SectionNames.{names_in, names_are}
use Rattle.vbtf.proofs.ext_read.names_of.Goals as goal

pub returns : goal.returns
returns g c =
    let written = c.loop-name.names.items in
    let ok : List ℕ → Result (List ℕ) Refusal = λ bytes. Ok bytes in
    let whole = sym (append-nil written) ∙ ap (λ ks. written ++ zero_ended (names_in ks)) (sym c.in-None.ensures.steps.0) ∙ c.loop-name.invariant in
    (names_in (keys c.args.sections.now), names_are c.args.sections.now c.keys-name-items.ensures.unique, ap ok whole)
