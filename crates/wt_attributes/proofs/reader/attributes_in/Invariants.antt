use Rattle.std.proofs.Common.{◌≡◌, take, true}
use Rattle.std.specs.List.{filter_map}
use Rattle.wt_tree.specs.View.{attrs_of}
use Rattle.wt_attributes.specs.Attributes.{named_in, readings}
use Rattle.wt_attributes.proofs.reader.attributes_in.Given as goal

abbrev pub invariant-loop-name : goal.invariant-loop-name
invariant-loop-name l = attrs_of l.attrs ≡ filter_map (named_in (readings true 0 l.text)) (take l.name-index l.name-items)
