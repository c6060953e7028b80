-- The features of a kernel, as the code stores them.
use Rattle.std.specs.Prelude.{ℕ, Bool, not, List}
use Rattle.std.specs.Char.{is_ascii_digit}
use Rattle.btf_rewrite_model.specs.declared.feature.BtfFeature.{BtfFeature}
use Rattle.btf_rewrite_model.specs.declared.feature.BtfFeature.TheVariants.{Func, FuncGlobal, DataSec, DataSecZero, Float, DeclTag, TypeTag, Enum64}
use Rattle.btf_object.specs.declared.kernel.Kernel.{Kernel}
use Rattle.btf_rewrite_model.specs.declared.feature.FeatureAnswer.{FeatureAnswer}
use Rattle.btf_rewrite_model.specs.FeatureSet.{answers_of}

-- The kernel has a feature.
abbrev pub kernel_has : Kernel → BtfFeature → Bool
kernel_has k Func = k.func
kernel_has k FuncGlobal = k.func_global
kernel_has k DataSec = k.data_sec
kernel_has k DataSecZero = k.data_sec_zero
kernel_has k Float = k.float
kernel_has k DeclTag = k.decl_tag
kernel_has k TypeTag = k.type_tag
kernel_has k Enum64 = k.enum64

-- a byte that is no decimal digit
abbrev pub is_other : ℕ → Bool
is_other byte = not (is_ascii_digit byte)

-- the kernel's answers to all features
abbrev pub kernel_answers : Kernel → List FeatureAnswer
kernel_answers k = answers_of (kernel_has k)
