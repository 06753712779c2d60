-- The children of a body, portion by portion.
use Rattle.std.proofs.Common.{◌≡◌, true, List, [], ◌∷◌, ◌++◌, length, refl, sym, ap, ◌∙◌, arith, append_assoc, append-nil, None}
use Rattle.std.specs.Prelude.{◌==◌}
use Rattle.std.proofs.lemmas.Bool.Decides.{nat_tests}
use Rattle.wt_span.specs.declared.form.Piece.{Piece}
use Rattle.wt_span.specs.Items.{Item, items, items_of}
use Rattle.wt_tree.specs.declared.kind.Kind.TheVariants as kind
use Rattle.wt_inline.specs.declared.loose.Loose.TheVariants.{Sep}
use Rattle.wt_inline.specs.Parts.{Part, parts}
use Rattle.wt_inline.specs.Grown.{Grown, Grows, made}
use Rattle.wt_inline.specs.ItemTree.{ItemTree, plain, inner, forest}
use Rattle.wt_page.specs.Rows.{rows}
use Rattle.wt_page.specs.Stretches.{stretches_parts}
use Rattle.wt_page.specs.Body.{within, blocks, body_parts, meaning}
use Rattle.wt_rows.specs.declared.row.RowAt.{RowAt}
use Rattle.wt_rows.specs.Views.{rows_view}
use Rattle.wt_rows.specs.Unread.{AreBreaks}
use Rattle.wt_rows.specs.Portions.{AreFirst}
use Rattle.wt_build.specs.Carrying.{Carries}
use Rattle.wt_rows.proofs.Portions.{no_parts, breaks_first}

pub carries_by : (g h : Grown) (xs ys : List Item) (added : List Part) → body_parts (rows xs) ≡ added ++ body_parts (rows ys) → Grows g added h
    → Carries g xs h ys
carries_by g h xs ys added e grows qs =
    grows (body_parts (rows ys) ++ qs)
    ∙ ap (made g) (sym (append_assoc added (body_parts (rows ys)) qs) ∙ ap (λ ps. ps ++ qs) (sym e))

pub carries_all : (g h : Grown) (xs : List Item) (left : List Piece) → left ≡ [] → Carries g xs h (items left)
    → made h [] ≡ made g (body_parts (rows xs))
carries_all g h xs left e c =
    let none : body_parts (rows (items left)) ≡ [] = ap (λ ps. body_parts (rows (items ps))) e ∙ no_parts in
    ap (λ ps. made h (ps ++ [])) (sym none) ∙ c [] ∙ ap (made g) (append-nil (body_parts (rows xs)))

pub none_left : (ps : List Piece) → (length ps == 0) ≡ true → ps ≡ []
none_left [] e = refl
none_left (p ∷ ps) e = let z : length (p ∷ ps) ≡ 0 = grind (arith, nat_tests) in absurd (omega (arith, z))

-- what the blocks of rows give are the parts of a body
pub parts_are : (ps qs : List Piece) (rs ts : List RowAt) → ps ≡ qs → rs ≡ ts → stretches_parts (within 16 (rows_view ps rs)) ≡ body_parts (rows_view qs ts)
unfolding blocks
parts_are ps qs rs ts ep er = ap stretches_parts (ap (λ us. within 16 (rows_view us rs)) ep ∙ ap (λ us. within 16 (rows_view qs us)) er)

pub carries_portion : (g h : Grown) (xs ys : List Item) (ps qs : List Piece) (rs ts : List RowAt) → ps ≡ qs → rs ≡ ts
    → Grows g (stretches_parts (within 16 (rows_view ps rs))) h → AreFirst (rows_view qs ts) xs ys → Carries g xs h ys
carries_portion g h xs ys ps qs rs ts ep er grows first =
    carries_by g h xs ys (stretches_parts (within 16 (rows_view ps rs)))
    (first ∙ ap (λ us. us ++ body_parts (rows ys)) (sym (parts_are ps qs rs ts ep er))) grows

pub carries_breaks : (g h : Grown) (xs ys : List Item) (p : Piece) → xs ≡ items_of p ++ ys → AreBreaks (items_of p) → Grows g (parts Sep (items (p ∷ []))) h
    → Carries g xs h ys
carries_breaks g h xs ys p e breaks grows =
    let one : items (p ∷ []) ≡ items_of p = append-nil (items_of p) in
    carries_by g h xs ys (parts Sep (items (p ∷ [])))
    (ap (λ us. body_parts (rows us)) e ∙ breaks_first (items_of p) ys breaks
    ∙ ap (λ us. parts Sep us ++ body_parts (rows ys)) (sym one)) grows

pub carries_none : (g : Grown) (xs ys : List Item) → ys ≡ xs → Carries g xs g ys
carries_none g xs ys e qs = ap (λ us. made g (body_parts (rows us) ++ qs)) e

pub carries_on : (g h i : Grown) (xs ys zs : List Item) → Carries g xs h ys → Carries h ys i zs → Carries g xs i zs
carries_on g h i xs ys zs first next qs = next qs ∙ first qs

pub meaning_is : (g h : Grown) (xs : List Item) (left : List Piece) (ts : List ItemTree) → g ≡ record { trees = []; run = None } → left ≡ []
    → Carries g xs h (items left) → ts ≡ made h [] → inner (plain kind.Body) [] (forest ts) [] ≡ meaning xs
unfolding meaning
meaning_is g h xs left ts eg el c et =
    ap (λ us. inner (plain kind.Body) [] (forest us) [])
    (et ∙ carries_all g h xs left el c ∙ ap (λ k. made k (body_parts (rows xs))) eg)
