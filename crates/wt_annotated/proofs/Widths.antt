-- Widths of joined items, and sources of joined items.
use Rattle.std.proofs.Common.{◌≡◌, ◌+◌, List, ◌++◌, length, ap, ◌∙◌, arith, length-append}
use Rattle.std.proofs.lemmas.Grind.{flat_map-append}
use Rattle.wt_span.specs.Items.{Item, source, sources}
use Rattle.wt_annotated.specs.Labels.{width}

pub sources_append : (xs ys : List Item) → sources (xs ++ ys) ≡ sources xs ++ sources ys
sources_append xs ys = flat_map-append source xs ys

pub width_append : (xs ys : List Item) → width (xs ++ ys) ≡ width xs + width ys
width_append xs ys = ap length (sources_append xs ys) ∙ length-append (sources xs) (sources ys)

pub width_three : (xs ys zs : List Item) → width (xs ++ (ys ++ zs)) ≡ width xs + width ys + width zs
width_three xs ys zs = omega (arith, width_append xs (ys ++ zs), width_append ys zs)
