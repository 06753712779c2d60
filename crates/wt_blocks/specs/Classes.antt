-- What is counted at an end of a heading.
use Rattle.std.specs.Prelude.{ℕ, Bool, ◌==◌}
use Rattle.wt_span.specs.Bytes.{is_blank}
use Rattle.wt_span.specs.Characters as byte
use Rattle.wt_lines.specs.Kinds.{is_idle}
use Rattle.wt_blocks.specs.declared.ends.SignClass.{SignClass}
use Rattle.wt_blocks.specs.declared.ends.SignClass.TheVariants.{Equal, Blank, Idle}

abbrev pub is_of : SignClass → ℕ → Bool
is_of Equal s = s == byte.equals_sign
is_of Blank s = is_blank s
is_of Idle s = is_idle s
