-- What is so of every value of `data-mw`: its texts are UTF-8, and its numbers are below 2^32.
use Rattle.std.specs.Prelude.{ℕ, ◌<◌, ◌^◌, List, IfSome}
use Rattle.std.specs.List.{All}
use Rattle.std.specs.Str.{IsUtf8}
use Rattle.wt_tree.specs.declared.node.DataMw.{DataMw}
use Rattle.wt_tree.specs.declared.node.DataMw.TheVariants as mw
use Rattle.wt_tree.specs.declared.node.Part.{Part}
use Rattle.wt_tree.specs.declared.node.Part.TheVariants as part

abbrev pub IsParam : List ℕ × List ℕ → Type 0
IsParam p = IsUtf8 p.0 × IsUtf8 p.1

abbrev pub IsPart : Part → Type 0
IsPart (part.Template target href params i) = IsUtf8 target × IsUtf8 href × All IsParam params × (i < 2 ^ 32)
IsPart (part.Function name target params i) = IsUtf8 name × IsUtf8 target × All IsParam params × (i < 2 ^ 32)
IsPart (part.Param source) = IsUtf8 source
IsPart (part.Literal text) = IsUtf8 text

abbrev pub IsMw : DataMw → Type 0
IsMw (mw.Parts parts) = All IsPart parts
IsMw (mw.Extension name body) = IsUtf8 name × IfSome body IsUtf8
