-- Worked cases of contents, of what may be typed, and of pages with another inside of a block, by computing.
use Rattle.std.proofs.Common.{◌≡◌, ℕ, true, false, None, Some, List, [], ◌∷◌, refl, length, ◌+◌}
use Rattle.std.specs.Prelude.{codes}
use Rattle.wt_tree.specs.declared.kind.Kind.{Kind}
use Rattle.wt_tree.specs.declared.kind.Kind.TheVariants as kind
use Rattle.wt_tree.specs.declared.kind.Mark.TheVariants as mark
use Rattle.wt_tree.specs.Tree.{Label, Tree, tree, none, Trees, trees}
use Rattle.wt_original.specs.Kept.{kept_nodes, kept_with}
use Rattle.wt_inside_laws.specs.Contents.{element, italic, end, borders, texts}
use Rattle.wt_inside_laws.specs.Replaced.{with_inside}
use Rattle.wt_inside_laws.specs.TextEdits.{element_at, is_line_mark, are_tied}

abbrev pub labelled : Kind → ℕ → List ℕ → List ℕ → List ℕ → List ℕ → Label
labelled k id opening closing own shown = record {
  kind = k;
  id = id;
  ranges = None;
  opening = opening;
  closing = closing;
  own = own;
  shown = shown;
  attrs = [];
  mark = mark.Nothing;
  mw = None;
  origin = None;
}

abbrev pub text : List ℕ → Tree
text bytes = tree (labelled kind.Text 0 [] [] bytes bytes) none

abbrev pub inner : Kind → ℕ → List ℕ → List Tree → List ℕ → Tree
inner k id opening ts closing = tree (labelled k id opening closing [] []) (trees ts)

abbrev pub leaf : Kind → ℕ → List ℕ → Tree
leaf k id own = tree (labelled k id [] [] own []) none

abbrev pub group : ℕ → List ℕ → List Tree → Tree
group id own ts = tree (labelled kind.Group id [] [] own []) (trees ts)

abbrev pub para : List Tree → Tree
para ts = inner kind.Para 1 [] ts []

-- ---- contents

-- `a''b<br>c''`
abbrev styled : Trees
styled = trees (text (codes "a") ∷ inner kind.Italic 2 (codes "''") (text (codes "b") ∷ leaf kind.Br 3 (codes "<br>") ∷ text (codes "c") ∷ []) (codes "''") ∷ [])

styled_borders : borders styled ≡ italic 2 ∷ element 3 ∷ end ∷ []
styled_borders = refl

styled_texts : texts styled ≡ codes "a" ∷ codes "b" ∷ codes "c" ∷ [] ∷ []
styled_texts = refl

-- nothing but an element, and two texts that nothing parts
element_alone : texts (trees (leaf kind.Switch 2 (codes "__TOC__") ∷ [])) ≡ [] ∷ [] ∷ []
element_alone = refl

texts_join : texts (trees (text (codes "a") ∷ text (codes "b") ∷ leaf kind.Br 2 (codes "<br>") ∷ [])) ≡ codes "ab" ∷ [] ∷ []
texts_join = refl

-- what a group shows is no text of the content
group_is_element : borders (trees (group 2 (codes "{{t}}") (text (codes "t") ∷ []) ∷ text (codes "a") ∷ [])) ≡ element 2 ∷ []
group_is_element = refl

-- ---- what may be typed

-- lines `a`, `<!-- c -->`, `x`: before the comment, which ends its line, the text keeps its line break
abbrev commented : Tree
commented = para (text (codes "a\n") ∷ leaf kind.Comment 2 (codes "<!-- c -->\n") ∷ text (codes "x") ∷ [])

before_line_mark : is_line_mark (element_at (kept_nodes commented) (Some (element 2))) ≡ true
unfolding kept_with
before_line_mark = refl

-- a comment within a line doesn't end it
before_mark : is_line_mark (element_at (kept_nodes (para (text (codes "a") ∷ leaf kind.Comment 2 (codes "<!-- c -->") ∷ []))) (Some (element 2))) ≡ false
unfolding kept_with
before_mark = refl

-- `{{q}}{{e}}{{q}}`, where `q` gives `=` and `e` nothing: `=` ties the groups on both sides
abbrev tied : Tree
tied = para (group 2 (codes "{{q}}") (text (codes "=") ∷ []) ∷ group 3 (codes "{{e}}") (leaf kind.Empty 0 [] ∷ [])
    ∷ group 4 (codes "{{q}}") (text (codes "=") ∷ []) ∷ [])

tied_groups : are_tied (element_at (kept_nodes tied) (Some (element 2))) (element_at (kept_nodes tied) (Some (element 3))) ≡ true
unfolding kept_with
tied_groups = refl

-- `x{{h}}{{s}}`, where `h` gives `http:` and `s` gives `//y`: something may be typed between them
abbrev loose : Tree
loose = para (text (codes "x") ∷ group 2 (codes "{{h}}") (text (codes "http:") ∷ []) ∷ group 3 (codes "{{s}}") (text (codes "//y") ∷ []) ∷ [])

loose_groups : are_tied (element_at (kept_nodes loose) (Some (element 2))) (element_at (kept_nodes loose) (Some (element 3))) ≡ false
unfolding kept_with
loose_groups = refl

-- ---- another inside

-- a node that stands there in the page
abbrev at : ℕ → ℕ → Tree → Tree
at from to (tree l ts) = tree (record l { ranges = Some (record { start = from; end = to; open_w = length l.opening; close_w = length l.closing }) }) ts

-- `{{i}}`, `a river {{l}}` and `== c ==` on lines of their own, with the text of the second line and the places behind it as they are
-- given
abbrev river : Trees → ℕ → Tree
river lead more_bytes = at 0 (28 + more_bytes) (inner kind.Body 0 []
    (at 0 5 (group 1 (codes "{{i}}") (text (codes "i") ∷ []))
    ∷ tree (record (labelled kind.Para 2 [] [] [] []) { ranges = Some (record { start = 6; end = 19 + more_bytes; open_w = 0; close_w = 0 }) }) lead
    ∷ at (20 + more_bytes) (28 + more_bytes) (inner (kind.Heading 2) 4 (codes "== ")
    (at (23 + more_bytes) (25 + more_bytes) (text (codes "cd")) ∷ []) (codes " ==")) ∷ []) [])

abbrev a_river : Trees
a_river = trees (at 6 14 (text (codes "a river ")) ∷ at 14 19 (group 3 (codes "{{l}}") (text (codes "l") ∷ [])) ∷ [])

abbrev a_long_river : Trees
a_long_river = trees (at 6 19 (text (codes "a long river ")) ∷ at 19 24 (group 3 (codes "{{l}}") (text (codes "l") ∷ [])) ∷ [])

-- five bytes more: the lead and the body grow, the heading moves, and no number is another
long_river : with_inside (record { number = 2; inside = a_long_river; old_end = 19; new_end = 24; old_last = 3; new_last = 3 }) (river a_river 0)
    ≡ river a_long_river 5
long_river = refl
