-- What the code's values stand for.
use Rattle.std.specs.Prelude.{List}
use Rattle.wt_attributes.specs.declared.attribute.Attribute.{Attribute}
use Rattle.wt_attributes.specs.declared.scan.Scan.{Scan}
use Rattle.wt_attributes.specs.Attributes.{Named, readings}

abbrev pub named : Attribute → Named
named a = (a.name, a.value.now)

-- the attributes that a scan still comes to
abbrev pub left : Scan → List Named
left s = readings s.fresh 0 s.rest.now
