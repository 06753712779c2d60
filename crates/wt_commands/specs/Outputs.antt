-- The bytes that go to standard output, as the code keeps them.
use Rattle.std.specs.Prelude.{ℕ, List}
use Rattle.wt_commands.specs.declared.output.Output.{Output}
use Rattle.wt_commands.specs.declared.output.Output.TheVariants.{Bytes, Text}

abbrev pub output_bytes : Output → List ℕ
output_bytes (Bytes bytes) = bytes
output_bytes (Text text) = text
