-- The texts of `Slices`, whichever way they are held.
use Rattle.std.specs.Prelude.{List, [], ◌∷◌}
use Rattle.wt_span.specs.declared.text.Text.{Text}
use Rattle.wt_tree.specs.declared.slices.Held.{Held}
use Rattle.wt_tree.specs.declared.slices.Held.TheVariants as held

abbrev pub texts_held : Held → List Text
texts_held held.Nothing = []
texts_held (held.One t) = t ∷ []
texts_held (held.Many ts) = ts
