-- What few nodes have: attributes that the kind doesn't tell, what an editor said, and data.
use Rattle.std.specs.Prelude.{List, [], Option, None}
use Rattle.wt_tree.specs.declared.node.Attr.{Attr}
use Rattle.wt_tree.specs.declared.node.DataMw.{DataMw}
use Rattle.wt_tree.specs.declared.kind.Mark.{Mark}
use Rattle.wt_tree.specs.declared.kind.Mark.TheVariants as mark

pub record Rare : Type 0 where
  pub attrs : List Attr
  pub mark : Mark
  pub mw : Option DataMw

-- nothing of it
abbrev pub rare_none : Rare
rare_none = record { attrs = []; mark = mark.Nothing; mw = None }

-- attributes alone
abbrev pub rare_attrs : List Attr → Rare
rare_attrs attrs = record { attrs = attrs; mark = mark.Nothing; mw = None }
