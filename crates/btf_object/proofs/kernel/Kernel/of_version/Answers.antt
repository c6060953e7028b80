use Rattle.std.proofs.Common.{◌≡◌}
use Rattle.btf_rewrite_model.specs.declared.feature.BtfFeature.TheVariants.{Func, FuncGlobal, DataSec, DataSecZero, Float, DeclTag, TypeTag, Enum64}
use Rattle.btf_object_model.specs.Kernel.{has_by_version}
use Rattle.btf_object.specs.Kernel.{kernel_has}
use Rattle.btf_object.proofs.kernel.Kernel.of_version.Goals as goal

pub returns-clause-some : goal.returns-clause-some
returns-clause-some c = (
  c.in_ok-version.version,
  c.in_ok-version.ensures.some,
  λ f. elim f as (λ g. kernel_has _ g ≡ has_by_version c.in_ok-version.version g) [
    | Func ↦ c.has.ensures
    | FuncGlobal ↦ c.has-2.ensures
    | DataSec ↦ c.has-3.ensures
    | DataSecZero ↦ c.has-4.ensures
    | Float ↦ c.has-5.ensures
    | DeclTag ↦ c.has-6.ensures
    | TypeTag ↦ c.has-7.ensures
    | Enum64 ↦ c.has-8.ensures
  ],
)
