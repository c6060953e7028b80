-- The standard output of a command.
use Rattle.std.specs.Prelude.{ℕ, List}
use Rattle.btf_cli.specs.Listing.{table_lines}
use Rattle.btf_cli.specs.declared.output.Output.{Output}
use Rattle.btf_cli.specs.declared.output.Output.TheVariants.{Bytes, Listing}

-- the bytes of an output
abbrev pub output_bytes : Output → List ℕ
output_bytes (Bytes bytes) = bytes.items
output_bytes (Listing table) = table_lines table
