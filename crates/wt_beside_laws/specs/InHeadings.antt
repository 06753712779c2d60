-- A content of a heading: it is on one line.
use Rattle.std.specs.Prelude.{◌≡◌, ◌⊎◌, ℕ, ◌==◌, false, List, [], ◌∷◌, map}
use Rattle.wt_span.specs.Characters as byte
use Rattle.wt_span.specs.Items.{sign}
use Rattle.wt_tree.specs.declared.kind.Kind.TheVariants as kind
use Rattle.wt_tree.specs.declared.edit_shape.Place.TheVariants as place
use Rattle.wt_guards.specs.declared.role.Role.{Role}
use Rattle.wt_guards.specs.declared.role.Role.TheVariants.{Link, External, Bare, Switch, Toggle, Mark, Group, Function, Node}
use Rattle.wt_guards.specs.Content.{ContentSign, letter, thing}
use Rattle.wt_guards.specs.Guards.{Setting}
use Rattle.wt_inline.specs.ItemTree.{plain, ItemTree, inner, forest}
use Rattle.wt_inline.specs.Parts.{Part, children}
use Rattle.wt_text_edit_laws.specs.LonePages.{page_chars}
use Rattle.wt_text_edit_laws.specs.TypedHeadings.{Sides, opening, closing_items, EndsWithout, is_equals_sign}
use Rattle.wt_beside_laws.specs.NodeItems.{node_items}
use Rattle.wt_beside_laws.specs.Flat.{IsFlatContent}

-- no line break is typed
abbrev pub AreOnOneLine : List ContentSign → Type 0
AreOnOneLine [] = Unit {0}
AreOnOneLine (letter c ∷ after) = ((c == byte.line_break) ≡ false) × AreOnOneLine after
AreOnOneLine (thing t ∷ after) = AreOnOneLine after

pub record IsHeadingContent (s : Setting) (signs : List ContentSign) : Type 0 where
  pub flat : IsFlatContent s signs
  pub of_heading : s.place ≡ place.Heading
  pub one_line : AreOnOneLine signs

-- ---- its level

-- a bare URL doesn't end with a `=`
abbrev pub EndsUnequal : Role → List ℕ → Type 0
EndsUnequal Link ss = Unit {0}
EndsUnequal External ss = Unit {0}
EndsUnequal (Bare ends) ss = EndsWithout is_equals_sign ss
EndsUnequal Switch ss = Unit {0}
EndsUnequal Toggle ss = Unit {0}
EndsUnequal (Mark ends began) ss = Unit {0}
EndsUnequal (Group g) ss = Unit {0}
EndsUnequal Function ss = Unit {0}
EndsUnequal Node ss = Unit {0}

abbrev pub SignEndsUnequal : ContentSign → Type 0
SignEndsUnequal (letter c) = Unit {0}
SignEndsUnequal (thing t) = EndsUnequal t.role (map sign (node_items t.source))

abbrev pub LastEndsUnequal : List ContentSign → Type 0
LastEndsUnequal [] = Unit {0}
LastEndsUnequal (sign ∷ []) = SignEndsUnequal sign
LastEndsUnequal (sign ∷ next ∷ after) = LastEndsUnequal (next ∷ after)

abbrev pub IsSome : List ℕ → Type 0
IsSome [] = ⊥
IsSome (b ∷ bs) = Unit {0}

-- its last node is no bare URL that ends with a `=`, or a blank parts it from the delimiter
abbrev pub KeepsLevel : Sides → List ContentSign → Type 0
KeepsLevel sides signs = IsSome sides.trail ⊎ LastEndsUnequal signs

-- ---- what it is

-- a heading with these parts between its delimiters
abbrev pub heading_of : Sides → List Part → ItemTree
heading_of sides ps = inner (plain (kind.Heading sides.level)) (page_chars (opening sides)) (forest (children ps)) (closing_items sides)
