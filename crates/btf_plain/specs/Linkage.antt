-- The linkages of functions and of variables, and their numbers.
-- Source: the kernel's BTF documentation, "BTF_KIND_FUNC" and "BTF_KIND_VAR".
use Rattle.std.specs.Prelude.{ℕ, ◌==◌, if◌then◌else◌}
use Rattle.btf_plain.specs.declared.linkage.FuncLinkage.{FuncLinkage}
use Rattle.btf_plain.specs.declared.linkage.FuncLinkage.TheVariants as func
use Rattle.btf_plain.specs.declared.linkage.VarLinkage.{VarLinkage}
use Rattle.btf_plain.specs.declared.linkage.VarLinkage.TheVariants as var

-- the number of a function's linkage
abbrev pub func_linkage_number : FuncLinkage → ℕ
func_linkage_number func.Static = 0
func_linkage_number func.Global = 1
func_linkage_number func.Extern = 2
func_linkage_number func.Unknown = 3

-- the linkage of a function by its number: each number other than 0, 1 and 2 is Unknown
abbrev pub func_linkage_of : ℕ → FuncLinkage
func_linkage_of n =
    if n == 0 then func.Static else (if n == 1 then func.Global else (if n == 2 then func.Extern else func.Unknown))

-- the number of a variable's linkage
abbrev pub var_linkage_number : VarLinkage → ℕ
var_linkage_number var.Static = 0
var_linkage_number var.Global = 1
var_linkage_number var.Extern = 2
var_linkage_number var.Unknown = 3

-- the linkage of a variable by its number: each number other than 0, 1 and 2 is Unknown
abbrev pub var_linkage_of : ℕ → VarLinkage
var_linkage_of n =
    if n == 0 then var.Static else (if n == 1 then var.Global else (if n == 2 then var.Extern else var.Unknown))
