-- Worked cases: where media end, a category's key, what a link leads to, and how a switch is told.
use Rattle.std.proofs.Common.{◌≡◌, ℕ, Some, None, List, [], ◌∷◌, map, refl}
use Rattle.std.specs.Prelude.{codes}
use Rattle.wt_tree.specs.declared.kind.AttrName.TheVariants as attr
use Rattle.wt_span.specs.Items.{Item, char}
use Rattle.wt_tiles.specs.declared.glyph.Glyph.{Glyph}
use Rattle.wt_tiles.specs.declared.glyph.Glyph.TheVariants as glyph
use Rattle.wt_tiles.specs.Partners.{bracket_turn, balanced}
use Rattle.wt_context.specs.Heads.{target_size, key_after, key, ext_link_head, switch_names, switch_property}

text : List ℕ → List Glyph
text bs = map (λ b. glyph.Byte b) bs

-- behind `[[`: a link stands in media, which end with the second `]]`
link_inside : balanced 0 0 (text (codes "File:a|[[b]]]]c")) ≡ Some (text (codes "]]c"))
unfolding text bracket_turn
link_inside = refl

-- where three `]` are left the first two of them close
three_brackets : balanced 0 0 (text (codes "a[[b]]]]]")) ≡ Some (text (codes "]]]"))
unfolding text bracket_turn
three_brackets = refl

never_closed : balanced 0 0 (text (codes "a[[b]]")) ≡ None
unfolding text bracket_turn
never_closed = refl

-- a category's key holds what stands behind the first `|`, further ones too
plain : List ℕ → List Item
plain bs = map (char None) bs

key_with_pipe : key (plain (codes "[[Category:X|a|b]]")) ≡ Some (codes "a|b")
unfolding plain key key_after target_size
key_with_pipe = refl

-- what an external link leads to, and how a switch is told
url_with_text : (ext_link_head (plain (codes "[http://a.b/c  "))).attrs ≡ (attr.Href, codes "http://a.b/c") ∷ []
unfolding plain ext_link_head
url_with_text = refl

switch_told : switch_property (codes "__NOTOC__") ≡ codes "mw:PageProp/notoc"
unfolding switch_property switch_names
switch_told = refl
