-- The value of a `BtfExt` in the model's terms.
use Rattle.std.specs.Prelude.{map}
use Rattle.btf_model.specs.Ext.{Ext}
use Rattle.btf_ext.specs.Info.{funcs_by_name, lines_by_name}
use Rattle.btf_ext.specs.Relocation.{relocation}
use Rattle.btf_ext.specs.declared.ext.BtfExt.{BtfExt}

-- the contents of a `BtfExt`, in the model's terms
abbrev pub ext : {H Hasher : Type 0} → BtfExt H Hasher → Ext
ext e = record {
  func_size = e.func_info_rec_size;
  func = funcs_by_name e.func_info;
  line_size = e.line_info_rec_size;
  line = lines_by_name e.line_info;
  relocations = map relocation e.relocations.items;
}
