-- The nodes of the page in a content with styles, where delimiters and the nowikis of empty styles are among them.
use Rattle.std.specs.Prelude.{◌≡◌, ◌⊎◌, Bool, true, false, List, [], ◌∷◌, ◌++◌}
use Rattle.wt_guards.specs.declared.role.Role.{Role}
use Rattle.wt_guards.specs.declared.role.Role.TheVariants.{Link, External, Bare, Switch, Toggle, Mark, Group, Function, Node}
use Rattle.wt_guards.specs.Content.{Thing}
use Rattle.wt_guards.specs.Guards.{nowiki, is_adjacent}
use Rattle.wt_tiles.specs.declared.glyph.Glyph.{Glyph}
use Rattle.wt_beside_laws.specs.Cuts.{own_glyphs}
use Rattle.wt_beside_laws.specs.Nodes.{is_quote_last}
use Rattle.wt_beside_laws.specs.Styled.{mark_source}

-- a style delimiter, or a nowiki
abbrev pub IsPut : Thing → Type 0
IsPut t = ((kind : Bool) × (t.role ≡ Toggle) × (t.source ≡ mark_source kind)) ⊎ ((t.role ≡ Node) × (t.source ≡ nowiki))

-- the first are some of the second, in their order, and others that are put
abbrev pub AreSomeAndPut : List Thing → List Thing → Type 0
AreSomeAndPut [] ps = Unit {0}
AreSomeAndPut (t ∷ ts) ps =
    (IsPut t × AreSomeAndPut ts ps) ⊎ ((gone : List Thing) × (later : List Thing) × (ps ≡ gone ++ t ∷ later) × AreSomeAndPut ts later)

-- a bare URL with no apostrophe at its end, or another node
abbrev pub EndsUnquoted : Role → List Glyph → Type 0
EndsUnquoted Link own = Unit {0}
EndsUnquoted External own = Unit {0}
EndsUnquoted (Bare ends) own = is_quote_last own ≡ false
EndsUnquoted Switch own = Unit {0}
EndsUnquoted Toggle own = Unit {0}
EndsUnquoted (Mark ends began) own = Unit {0}
EndsUnquoted (Group g) own = Unit {0}
EndsUnquoted Function own = Unit {0}
EndsUnquoted Node own = Unit {0}

-- the second is no delimiter that is directly behind the first in the page, or the first has no apostrophe at its end
abbrev pub IsUrlApart : Thing → Thing → Type 0
IsUrlApart t n = n.role ≡ Toggle → is_adjacent t n ≡ true → EndsUnquoted t.role (own_glyphs t)

-- A bare URL that is directly before a delimiter in the page has no apostrophe at its end: it would be the delimiter's. (Elsewhere `<nowiki/>` is
-- put between.)
abbrev pub AreUrlsApart : List Thing → Type 0
AreUrlsApart [] = Unit {0}
AreUrlsApart (t ∷ []) = Unit {0}
AreUrlsApart (t ∷ n ∷ ts) = IsUrlApart t n × AreUrlsApart (n ∷ ts)
