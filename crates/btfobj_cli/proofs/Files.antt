-- A file that is read and rewritten.
use Rattle.std.proofs.Common.{◌≡◌, ℕ, true, false, List, Option, Some, None, sym, ap, subst}
use Rattle.std.proofs.lemmas.Bool.{false≢true}
use Rattle.btf_model.specs.declared.endianness.Endianness.{Endianness}
use Rattle.btf_model.specs.declared.endianness.Endianness.TheVariants.{Little, Big}
use Rattle.btf_model.specs.Blob as model
use Rattle.btf_model.specs.Table.{Table}
use Rattle.btf_elf_model.specs.Object as elf
use Rattle.btf_rewrite_model.specs.declared.feature.FeatureAnswer.{FeatureAnswer}
use Rattle.btfobj_cli.specs.InputFile.{BeginsObject, BeginsTable, HasFileTable, IsFile, IsTableAlone, is_object}
use Rattle.btfobj_cli.specs.Rewrite.{chosen_target, RewritesAlone, RewritesTableAlone, RewritesObject, RewritesFile, IsRewritten}
use Rattle.btfobj_cli.specs.Part.{RewritesFileOver, IsRewrittenOver}
use Rattle.btfobj_cli.specs.declared.input_file.InputFile.{InputFile}
use Rattle.btfobj_cli.specs.declared.input_file.InputFile.TheVariants as inputs
use Rattle.btfobj_cli.specs.declared.rewrite.Rewrite.{Rewrite}

-- the rewrite of the file that bytes are is the rewrite of the bytes
rewritten_file : (bytes : List ℕ) (rewrite : Rewrite) (input : InputFile) (file : List ℕ) (answers : List FeatureAnswer) → IsFile bytes input → (BeginsObject bytes → is_object input ≡ true)
    → (BeginsTable Little bytes → IsTableAlone Little bytes input) → (BeginsTable Big bytes → IsTableAlone Big bytes input) → RewritesFile input rewrite file answers → IsRewritten bytes rewrite file answers
rewritten_file bytes rewrite (inputs.Object object) file answers is begins little big made = record {
  object = λ _. subst (λ (bs : List ℕ). RewritesObject bs rewrite file answers) (ap (λ (o : elf.Object). o.bytes) is.object) made;
  table = λ order. elim order as (λ (o : Endianness). BeginsTable o bytes → RewritesAlone o bytes (chosen_target rewrite) file answers) [ Little ↦ λ b. absurd (little b) | Big ↦ λ b. absurd (big b) ];
}
rewritten_file bytes rewrite (inputs.Table own order) file answers is begins little big made =
    let alone : (o : Endianness) → BeginsTable o bytes → IsTableAlone o bytes (inputs.Table own order) =
    λ o. elim o as (λ (x : Endianness). BeginsTable x bytes → IsTableAlone x bytes (inputs.Table own order)) [ Little ↦ little | Big ↦ big ] in
    record {
      object = λ b. absurd (false≢true (begins b));
      table = λ o b. subst (λ (y : Endianness). RewritesAlone y bytes (chosen_target rewrite) file answers) (alone o b).1 (subst (λ (bs : List ℕ). RewritesAlone order bs (chosen_target rewrite) file answers) (alone o b).0 made);
    }

-- the same over a base, if there is one
pub rewritten_over : (bytes : List ℕ) (base : Option Table) (rewrite : Rewrite) (input : InputFile) (file : List ℕ) (answers : List FeatureAnswer) → IsFile bytes input → (BeginsObject bytes → is_object input ≡ true)
    → (BeginsTable Little bytes → IsTableAlone Little bytes input) → (BeginsTable Big bytes → IsTableAlone Big bytes input) → RewritesFileOver input base rewrite file answers → IsRewrittenOver bytes base rewrite file answers
rewritten_over bytes None rewrite input file answers is begins little big made = rewritten_file bytes rewrite input file answers is begins little big made
rewritten_over bytes (Some base) rewrite input file answers is begins little big made = (input, is, made)

-- the rewrite of the table of a file that is a table alone is the rewrite of the file
pub rewritten_table : (input : InputFile) (rewrite : Rewrite) (old : Table) (file : List ℕ) (answers : List FeatureAnswer) → is_object input ≡ false → HasFileTable input old
    → RewritesTableAlone old (chosen_target rewrite) file answers → RewritesFile input rewrite file answers
rewritten_table (inputs.Object object) rewrite old file answers is has made = absurd (false≢true (sym is))
rewritten_table (inputs.Table own order) rewrite old file answers is has made = made order own.now (subst (λ (bs : List ℕ). model.IsTable order bs old) has.1 has.2)
