-- The setting of a parsed word.
use Rattle.btf_cli.specs.Setting.{Setting, Grants, FillsSized, SectionSize, SymbolOffset, KsymsId, PlaceholderId}
use Rattle.btf_cli.specs.declared.word.Word.{Word}
use Rattle.btf_cli.specs.declared.word.Word.TheVariants as words

-- the setting of a word of the code
abbrev pub setting_of : Word → Setting
setting_of (words.Grant feature) = Grants feature
setting_of words.FillSized = FillsSized
setting_of (words.Section name size) = SectionSize name.now size
setting_of (words.Symbol name offset) = SymbolOffset name.now offset
setting_of (words.Ksyms id) = KsymsId id
setting_of (words.Placeholder id) = PlaceholderId id
