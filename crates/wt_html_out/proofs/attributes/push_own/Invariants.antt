use Rattle.std.proofs.Common.{◌≡◌, ◌++◌, take}
use Rattle.wt_schema.specs.Html.{attributes}
use Rattle.wt_tree.specs.View.{attrs_of}
use Rattle.wt_html_out.proofs.attributes.push_own.Given as goal

abbrev pub invariant-loop-attr : goal.invariant-loop-attr
invariant-loop-attr l = l.out.items ≡ l.initial.out.items ++ attributes (attrs_of (take l.attr-index l.attrs))
