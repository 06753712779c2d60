-- What is left of a line to be read, from its front or from its back.
use Rattle.std.specs.Prelude.{ℕ, List, ◌++◌, map, reverse}
use Rattle.wt_span.specs.Items.{sign, items}
use Rattle.wt_lines.specs.declared.sign.LineSign.{LineSign}
use Rattle.wt_lines.specs.declared.sign.LineSign.TheVariants as sign
use Rattle.wt_lines.specs.declared.sign.Signs.{Signs}
use Rattle.wt_lines.specs.declared.back.BackSigns.{BackSigns}

-- the number that stands for a sign
abbrev pub number : LineSign → ℕ
number (sign.Byte b) = b
number sign.Atom = 256
number sign.Mark = 257

-- the signs that are left, in order
abbrev pub left : Signs → List ℕ
left s = s.bytes.now ++ map Rattle.wt_span.specs.Items.sign (items s.pieces.now)

-- the signs that are left, the last one first
abbrev pub right : BackSigns → List ℕ
right s = reverse (map Rattle.wt_span.specs.Items.sign (items s.pieces.now) ++ s.bytes.now)
