use Rattle.std.proofs.Common.{◌≡◌, drop}
use Rattle.wt_tree.specs.View.{attrs_of}
use Rattle.wt_tree.specs.declared.kind.AttrName.TheVariants as attr
use Rattle.wt_link_spelling.specs.Spelling.{value_of}
use Rattle.wt_link_spelling.proofs.links.value_of.Given as goal

abbrev pub invariant-loop-attribute : goal.invariant-loop-attribute
invariant-loop-attribute l = value_of attr.Href (attrs_of l.attrs) ≡ value_of attr.Href (attrs_of (drop l.attribute-index l.attrs))
