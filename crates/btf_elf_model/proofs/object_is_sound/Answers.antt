use Rattle.btf_elf_model.proofs.Sound.{within, apart, section_names_end, symbol_names_end}
use Rattle.btf_elf_model.proofs.object_is_sound.Goals as goal

pub returns : goal.returns
returns c = record {
  sections_are_within = within;
  headers_are_apart = apart;
  section_names_end = section_names_end;
  symbol_names_end = symbol_names_end;
}
