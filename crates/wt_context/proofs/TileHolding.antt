-- The node of a tile holds its items.
use Rattle.std.proofs.Common.{◌≡◌, ℕ, ◌+◌, Bool, true, false, Option, Some, None, List, [], ◌++◌, length, drop, refl, sym, ap, ◌∙◌, arith, append-nil, length-drop, drop-drop}
use Rattle.std.specs.Prelude.{◌==◌}
use Rattle.std.proofs.lemmas.Bool.Decides.{nat_tests}
use Rattle.std.proofs.lemmas.List.{take-append-drop, nil_from_length}
use Rattle.wt_span.specs.Items.{Item}
use Rattle.wt_tiles.specs.declared.context.Context.{Context}
use Rattle.wt_tiles.specs.declared.shape.Shape.{Shape}
use Rattle.wt_tiles.specs.declared.shape.TileKind.{TileKind}
use Rattle.wt_tiles.specs.declared.shape.TileKind.TheVariants as kind
use Rattle.wt_tiles.specs.Contexts.{in_text, in_pair}
use Rattle.wt_tiles.specs.Tiles.{size}
use Rattle.wt_inline.specs.declared.loose.Loose.TheVariants.{Text}
use Rattle.wt_inline.specs.Inside.{opened_all}
use Rattle.wt_inline.specs.ItemTree.{ItemTree, tree_items, Head}
use Rattle.wt_inline.specs.Parts.{Part, held_parts, parts}
use Rattle.wt_inline.proofs.HeldLaws.{held_append, opened_append}
use Rattle.wt_context.specs.declared.node.Nested.{Nested}
use Rattle.wt_context.specs.declared.node.Nested.TheVariants as nested
use Rattle.wt_context.specs.Heads.{bare_url_head}
use Rattle.wt_context.specs.Nodes.{Reading, round_parts, opening_of, inside_of, closing_of, trail_of, bare_url, trail_parts, link_by, nested_head, nested_tree, tile_tree}
use Rattle.wt_context.proofs.Opening.{Hold, parts_hold, round_holds}
use Rattle.wt_context.proofs.TilePlaces.{MayStand}

-- ---- the parts of a tile, joined

pub four_parts : (w : Shape) (xs : List Item) → opening_of w xs ++ (inside_of w xs ++ (closing_of w xs ++ trail_of w xs)) ≡ xs
four_parts w xs =
    ap (λ ys. opening_of w xs ++ (inside_of w xs ++ (closing_of w xs ++ ys))) (sym (drop-drop w.closing (w.opening + w.inside) xs))
    ∙ ap (λ ys. opening_of w xs ++ (inside_of w xs ++ ys)) (take-append-drop w.closing (drop (w.opening + w.inside) xs) ∙ sym (drop-drop w.inside w.opening xs))
    ∙ ap (λ ys. opening_of w xs ++ ys) (take-append-drop w.inside (drop w.opening xs))
    ∙ take-append-drop w.opening xs

no_trail : (w : Shape) (xs : List Item) → length xs ≡ size w → w.trail ≡ 0 → trail_of w xs ≡ []
no_trail w xs e z = nil_from_length (trail_of w xs) (omega (arith, e, z, length-drop (w.opening + w.inside + w.closing) xs))

pub three_parts : (w : Shape) (xs : List Item) → length xs ≡ size w → w.trail ≡ 0 → opening_of w xs ++ (inside_of w xs ++ closing_of w xs) ≡ xs
three_parts w xs e z =
    ap (λ ys. opening_of w xs ++ (inside_of w xs ++ ys)) (sym (append-nil (closing_of w xs)) ∙ ap (λ ys. closing_of w xs ++ ys) (sym (no_trail w xs e z)))
    ∙ four_parts w xs

-- ---- nodes

-- the tree holds the items
abbrev pub Holds : ItemTree → List Item → Type 0
Holds t xs = opened_all (tree_items t) ≡ opened_all xs

abbrev pub OptHolds : Option ItemTree → List Item → Type 0
OptHolds None xs = Unit {0}
OptHolds (Some t) xs = Holds t xs

-- what is read holds its items
abbrev pub ReadsAll : Reading → Type 0
ReadsAll read = (cx : Context) (xs : List Item) → Hold (read cx xs) xs

round_full : (h : Head) (w : Shape) (xs : List Item) (ps : List Part) → length xs ≡ size w → w.trail ≡ 0 → Hold ps (inside_of w xs)
    → Holds (round_parts h (opening_of w xs) ps (closing_of w xs)) xs
round_full h w xs ps e z f = round_holds h (opening_of w xs) (closing_of w xs) (inside_of w xs) ps f ∙ ap opened_all (three_parts w xs e z)

bare_holds : (w : Shape) (xs : List Item) → length xs ≡ size w → w.trail ≡ 0 → Holds (bare_url w xs) xs
unfolding bare_url
bare_holds w xs e z = round_full (bare_url_head (inside_of w xs)) w xs (parts Text (inside_of w xs)) e z (parts_hold Text (inside_of w xs))

-- a link with the letters that join it
trail_holds : (ps : List Part) (inside closing trail : List Item) → Hold ps inside → Hold (ps ++ trail_parts closing trail) (inside ++ (closing ++ trail))
trail_holds ps inside closing trail f =
    ap opened_all (held_append ps (trail_parts closing trail))
    ∙ opened_append (held_parts ps) (held_parts (trail_parts closing trail))
    ∙ ap (λ ys. ys ++ opened_all (held_parts (trail_parts closing trail))) f
    ∙ ap (λ ys. opened_all inside ++ ys)
    (ap (λ ys. opened_all (ys ++ held_parts (parts Text trail))) (append-nil closing)
    ∙ opened_append closing (held_parts (parts Text trail)) ∙ ap (λ ys. opened_all closing ++ ys) (parts_hold Text trail) ∙ sym (opened_append closing trail))
    ∙ sym (opened_append inside (closing ++ trail))

trailed_holds : (h : Head) (w : Shape) (xs : List Item) (ps : List Part) → Hold ps (inside_of w xs)
    → Holds (round_parts h (opening_of w xs) (ps ++ trail_parts (closing_of w xs) (trail_of w xs)) []) xs
trailed_holds h w xs ps f =
    let inside = inside_of w xs ++ (closing_of w xs ++ trail_of w xs) in
    round_holds h (opening_of w xs) [] inside (ps ++ trail_parts (closing_of w xs) (trail_of w xs))
    (trail_holds ps (inside_of w xs) (closing_of w xs) (trail_of w xs) f)
    ∙ ap (λ ys. opened_all (opening_of w xs ++ ys)) (append-nil inside)
    ∙ ap opened_all (four_parts w xs)

link_holds : (h : Head) (w : Shape) (xs : List Item) (ps : List Part) (t : Bool) → (w.trail == 0) ≡ t → length xs ≡ size w → Hold ps (inside_of w xs)
    → Holds (link_by h w.trail (opening_of w xs) (closing_of w xs) (trail_of w xs) ps) xs
link_holds h w xs ps true t e f = let z : w.trail ≡ 0 = grind (arith, nat_tests) in rw t (round_full h w xs ps e z f)
link_holds h w xs ps false t e f = rw t (trailed_holds h w xs ps f)

abbrev IsEndedNode : Nested → ℕ → Type 0
IsEndedNode nested.Link n = Unit {0}
IsEndedNode nested.ExtLink n = n ≡ 0
IsEndedNode nested.Pair n = n ≡ 0

nested_holds : (k : Nested) (w : Shape) (xs : List Item) (ps : List Part) → IsEndedNode k w.trail → length xs ≡ size w → Hold ps (inside_of w xs)
    → Holds (nested_tree k w xs ps) xs
unfolding nested_tree
nested_holds nested.Link w xs ps z e f = link_holds (nested_head nested.Link xs (opening_of w xs)) w xs ps (w.trail == 0) refl e f
nested_holds nested.ExtLink w xs ps z e f = round_full (nested_head nested.ExtLink xs (opening_of w xs)) w xs ps e z f
nested_holds nested.Pair w xs ps z e f = round_full (nested_head nested.Pair xs (opening_of w xs)) w xs ps e z f

leaf_holds : (xs : List Item) → opened_all (xs ++ []) ≡ opened_all xs
leaf_holds xs = ap opened_all (append-nil xs)

pub tile_holds : (read : Reading) → ReadsAll read → (cx : Context) (k : TileKind) (w : Shape) (xs : List Item) → length xs ≡ size w → MayStand cx k w.trail
    → OptHolds (tile_tree read cx k w xs) xs
tile_holds read h cx kind.Link w xs e m = nested_holds nested.Link w xs (read (in_text cx) (inside_of w xs)) tt e (h (in_text cx) (inside_of w xs))
tile_holds read h cx kind.Category w xs e m = leaf_holds xs
tile_holds read h cx kind.Media w xs e m = leaf_holds xs
tile_holds read h cx kind.ExtLink w xs e m = nested_holds nested.ExtLink w xs (read (in_text cx) (inside_of w xs)) m.1 e (h (in_text cx) (inside_of w xs))
tile_holds read h cx kind.BareUrl w xs e m = bare_holds w xs e m
tile_holds read h cx kind.Br w xs e m = leaf_holds xs
tile_holds read h cx kind.Pair w xs e m = nested_holds nested.Pair w xs (read (in_pair cx) (inside_of w xs)) m.1 e (h (in_pair cx) (inside_of w xs))
tile_holds read h cx kind.TagIsland w xs e m = leaf_holds xs
tile_holds read h cx kind.Switch w xs e m = leaf_holds xs
tile_holds read h cx kind.Atom w xs e m = tt
tile_holds read h cx kind.Mark w xs e m = tt
tile_holds read h cx kind.Chars w xs e m = tt
