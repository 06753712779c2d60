-- What nodes that stay begin with, so that no switch begins at a `_` that is typed before them; and what may be behind a content.
use Rattle.std.specs.Prelude.{◌≡◌, ◌&&◌, Bool, not, false, List, [], ◌∷◌, map, codes}
use Rattle.wt_guards.specs.Content.{ContentSign, letter, thing}
use Rattle.wt_tiles.specs.declared.glyph.Glyph.{Glyph}
use Rattle.wt_tiles.specs.Glyphs.{glyph_of, begins}
use Rattle.wt_beside_laws.specs.NodeItems.{node_items}
use Rattle.wt_beside_laws.specs.Glyphs.{IsPast}

-- one `_` is first, and no second one
abbrev pub is_lone_underscore : List Glyph → Bool
is_lone_underscore gs = begins (codes "_") gs && not (begins (codes "__") gs)

-- whatever follows them
abbrev pub AvoidsSwitches : List Glyph → Type 0
AvoidsSwitches [] = ⊥
AvoidsSwitches (g ∷ []) = begins (codes "_") (g ∷ []) ≡ false
AvoidsSwitches (g ∷ h ∷ gs) = is_lone_underscore (g ∷ h ∷ gs) ≡ false

-- so of each node that stays
abbrev pub AllAvoidSwitches : List ContentSign → Type 0
AllAvoidSwitches [] = Unit {0}
AllAvoidSwitches (letter c ∷ after) = AllAvoidSwitches after
AllAvoidSwitches (thing t ∷ after) = AvoidsSwitches (map glyph_of (node_items t.source)) × AllAvoidSwitches after

-- what is read behind a content begins neither what goes on with a URL nor a switch
pub record IsApart (rest : List Glyph) : Type 0 where
  pub urls : IsPast rest
  pub switches : is_lone_underscore rest ≡ false
