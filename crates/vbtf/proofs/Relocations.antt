-- What a record with an error does.
use Rattle.std.proofs.Common.{◌≡◌, true, refl, rules}
use Rattle.btf_loader.specs.Results.{refuses_errors}
use Rattle.btf_loader.specs.declared.step.Refusals.{Refusals}
use Rattle.btf_loader.specs.declared.step.Refusals.TheVariants.{Refuse, Keep}

pub refuse_is : (r : Refusals) → refuses_errors r ≡ true → r ≡ Refuse
refuse_is Refuse refuses = refl
refuse_is Keep refuses = search rules
