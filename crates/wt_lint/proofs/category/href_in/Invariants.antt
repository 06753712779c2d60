use Rattle.std.proofs.Common.{◌≡◌, drop}
use Rattle.wt_tree.specs.View.{attrs_of}
use Rattle.wt_lint.specs.Categories.{href_in}
use Rattle.wt_lint.proofs.category.href_in.Given as goal

-- what is left to look through decides
abbrev pub invariant-loop-attribute : goal.invariant-loop-attribute
invariant-loop-attribute l = href_in (attrs_of (drop l.attribute-index l.attrs)) ≡ href_in (attrs_of l.attrs)
