-- The lines of which paragraphs are made, by the lines' kinds.
use Rattle.std.specs.Prelude.{Bool, true, false}
use Rattle.wt_lines.specs.declared.kind.LineKind.{LineKind}
use Rattle.wt_lines.specs.declared.kind.LineKind.TheVariants as kind

abbrev pub is_text : LineKind → Bool
is_text kind.Blank = false
is_text kind.TableOpen = false
is_text kind.TableEnd = false
is_text kind.Caption = false
is_text kind.Row = false
is_text kind.Cell = false
is_text kind.Header = false
is_text kind.Heading = false
is_text kind.Rule = false
is_text kind.List = false
is_text kind.Pre = false
is_text kind.Text = true
