-- Worked cases: what a call gives between texts of the page, and in which groups it is.
use Rattle.std.proofs.Common.{◌≡◌, ℕ, Option, None, Some, List, [], ◌∷◌, ◌++◌, map, refl}
use Rattle.std.specs.Prelude.{codes}
use Rattle.wt_tree.specs.declared.kind.Kind.TheVariants as kind
use Rattle.wt_span.specs.declared.form.ItemForm.TheVariants as form
use Rattle.wt_span.specs.Items.{Item, char, whole}
use Rattle.wt_inline.specs.declared.loose.Loose.TheVariants.{Text}
use Rattle.wt_inline.specs.ItemTree.{ItemTree, plain, inner, forest}
use Rattle.wt_inline.specs.Parts.{node, parts, loose_leaf, children, form_leaf}
use Rattle.wt_part_laws.specs.CallPieces.{own, given, call_pieces}

-- items of this call, or of the page
abbrev chars : Option ℕ → List ℕ → List Item
chars o bs = map (char o) bs

abbrev text : Option ℕ → List ℕ → ItemTree
text o bs = loose_leaf Text (chars o bs)

-- `''b''`, all of it from this call
abbrev italic : ℕ → ItemTree
italic j = inner (plain kind.Italic) (chars (Some j) (codes "''")) (forest (text (Some j) (codes "b") ∷ [])) (chars (Some j) (codes "''"))

-- one style between two texts of the page
pub one_style : call_pieces (children (parts Text (chars None (codes "x ")) ++ (node (italic 0) ∷ parts Text (chars None (codes ".")))))
    ≡ own (text None (codes "x ")) ∷ given 0 (italic 0) [] ∷ own (text None (codes ".")) ∷ []
unfolding children
one_style = refl

-- what one call gives is one group: words, a style, and words
pub several : call_pieces (children (parts Text (chars (Some 0) (codes "a ")) ++ (node (italic 0) ∷ parts Text (chars (Some 0) (codes " c")))))
    ≡ given 0 (text (Some 0) (codes "a ")) (italic 0 ∷ text (Some 0) (codes " c") ∷ []) ∷ []
unfolding children
several = refl

-- and of two calls side by side each is one
pub two_calls : call_pieces (children (node (italic 0) ∷ node (italic 1) ∷ []))
    ≡ given 0 (italic 0) [] ∷ given 1 (italic 1) [] ∷ []
unfolding children
two_calls = refl

-- a call that gives nothing is one, too
pub empty_call : call_pieces (children (parts Text (chars None (codes "x")) ++ (parts Text (whole form.EmptyCall (Some 0) (codes "{{t}}") ∷ []) ++ parts Text (chars None (codes "y")))))
    ≡ own (text None (codes "x")) ∷ given 0 (form_leaf form.EmptyCall (Some 0) (codes "{{t}}")) [] ∷ own (text None (codes "y")) ∷ []
unfolding children
empty_call = refl
