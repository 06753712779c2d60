-- Cells of a line, and stretches that are made one after the other.
use Rattle.std.proofs.Common.{◌≡◌, ◌<◌, ℕ, ◌+◌, ◌^◌, Bool, true, false, List, [], ◌∷◌, ◌++◌, length, drop, map, refl, sym, ap, ◌∙◌, cond, arith, append_assoc, append-nil, length-append}
use Rattle.std.specs.Prelude.{◌||◌, All, codes}
use Rattle.std.specs.List.{flat_map, prefix_len}
use Rattle.std.proofs.lemmas.Bool.Decides.{nat_tests}
use Rattle.std.proofs.lemmas.List.{map-append}
use Rattle.wt_span.specs.Bytes.{begins}
use Rattle.wt_span.specs.declared.form.Piece.{Piece}
use Rattle.wt_span.specs.Items.{Item, items, sign}
use Rattle.wt_lines.specs.Kinds.{is_idle}
use Rattle.wt_lines.specs.Pieces.{line_items}
use Rattle.std.proofs.lemmas.List.Elements.{All-head, All-tail, All-nil, All-cons}
use Rattle.wt_tables.specs.declared.cell.CellAt.{CellAt}
use Rattle.wt_tables.specs.CellViews.{cell_view, whole_cell, IsSoundCell}
use Rattle.wt_tables.specs.Cells.{Cell, cells, cells_from, begins_cell, from_sign, lead_len}
use Rattle.wt_rows.specs.declared.stretch.StretchAt.{StretchAt}
use Rattle.wt_page.specs.Rows.{signs}
use Rattle.wt_page.specs.Stretches.{Stretch}
use Rattle.wt_page.specs.Tables.{cell_by, cells_by}
use Rattle.wt_rows.specs.Ready.{BeginsCell, IsReadyCell}
use Rattle.wt_rows.specs.Views.{stretch_view, stretches_view}

pub made_added : {A : Type 0} (ps : List Piece) (f : A → List Stretch) (out made all : List StretchAt) (x : A) (before rest : List A) (whole : List Stretch)
    → before ≡ x ∷ rest → stretches_view ps made ≡ f x → all ≡ out ++ made
    → stretches_view ps out ++ flat_map f before ≡ whole → stretches_view ps all ++ flat_map f rest ≡ whole
made_added ps f out made all x before rest whole e is a h =
    ap (λ ss. stretches_view ps ss ++ flat_map f rest) a
    ∙ ap (λ ss. ss ++ flat_map f rest) (map-append (stretch_view ps) out made)
    ∙ append_assoc (stretches_view ps out) (stretches_view ps made) (flat_map f rest)
    ∙ ap (λ ss. stretches_view ps out ++ (ss ++ flat_map f rest)) is
    ∙ ap (λ xs. stretches_view ps out ++ flat_map f xs) (sym e) ∙ h

pub last_cell : (caption : Bool) (cs : List Cell) (c : Cell) (ss : List Stretch)
    → cells_by caption (cs ++ c ∷ []) ss ≡ flat_map (λ d. cell_by caption d []) cs ++ cell_by caption c ss
last_cell caption [] c ss = refl
last_cell caption (d ∷ []) c ss = ap (λ us. us ++ cell_by caption c ss) (sym (append-nil (cell_by caption d [])))
last_cell caption (d ∷ e ∷ cs) c ss =
    ap (λ us. cell_by caption d [] ++ us) (last_cell caption (e ∷ cs) c ss)
    ∙ sym (append_assoc (cell_by caption d []) (flat_map (λ f. cell_by caption f []) (e ∷ cs)) (cell_by caption c ss))

pub last_ready : (cs : List CellAt) (c : CellAt) → All IsReadyCell (cs ++ c ∷ []) → IsReadyCell c
last_ready [] c h = All-head IsReadyCell c [] h
last_ready (d ∷ cs) c h = last_ready cs c (All-tail IsReadyCell d (cs ++ c ∷ []) h)

-- cells of a line that has few items
pub cells_ready : (cs : List CellAt) → All IsSoundCell cs → length (flat_map whole_cell cs) < 2 ^ 32 → All IsReadyCell cs
cells_ready [] sound few = All-nil IsReadyCell
cells_ready (c ∷ cs) sound few =
    let joined = length-append (whole_cell c) (flat_map whole_cell cs) in
    let own = length-append (items c.opening) (line_items c.rest) in
    All-cons IsReadyCell c cs (record { sound = All-head IsSoundCell c cs sound; few = omega (arith, joined, own, few) })
    (cells_ready cs (All-tail IsSoundCell c cs sound) (omega (arith, joined, few)))

viewed_flat : (caption : Bool) (cs : List CellAt)
    → flat_map (λ d. cell_by caption d []) (map cell_view cs) ≡ flat_map (λ d. cell_by caption (cell_view d) []) cs
viewed_flat caption [] = refl
viewed_flat caption (c ∷ cs) = ap (λ us. cell_by caption (cell_view c) [] ++ us) (viewed_flat caption cs)

viewed_last : (caption : Bool) (cs : List CellAt) (c : CellAt) (ss : List Stretch)
    → cells_by caption (map cell_view (cs ++ c ∷ [])) ss ≡ flat_map (λ d. cell_by caption (cell_view d) []) cs ++ cell_by caption (cell_view c) ss
viewed_last caption cs c ss =
    ap (λ ds. cells_by caption ds ss) (map-append cell_view cs (c ∷ [])) ∙ last_cell caption (map cell_view cs) (cell_view c) ss
    ∙ ap (λ us. us ++ cell_by caption (cell_view c) ss) (viewed_flat caption cs)

pub cells_end : (ps : List Piece) (caption : Bool) (cells others : List CellAt) (c : CellAt) (out made all l after : List StretchAt) → cells ≡ others ++ c ∷ []
    → stretches_view ps out ≡ flat_map (λ d. cell_by caption (cell_view d) []) others
    → stretches_view ps made ≡ cell_by caption (cell_view c) (stretches_view ps after)
    → all ≡ out ++ made → l ≡ all → stretches_view ps l ≡ cells_by caption (map cell_view cells) (stretches_view ps after)
cells_end ps caption cells others c out made all l after ec eo em ea el =
    ap (stretches_view ps) (el ∙ ea) ∙ map-append (stretch_view ps) out made
    ∙ ap (λ us. us ++ stretches_view ps made) eo
    ∙ ap (λ us. flat_map (λ d. cell_by caption (cell_view d) []) others ++ us) em
    ∙ sym (ap (λ cs. cells_by caption (map cell_view cs) (stretches_view ps after)) ec ∙ viewed_last caption others c (stretches_view ps after))

-- ---- a line begins with its sign

seen_bar : (s : ℕ) → s ≡ 124 → is_idle s ≡ false
seen_bar s e = grind (arith, nat_tests)

seen_mark : (s : ℕ) → s ≡ 33 → is_idle s ≡ false
seen_mark s e = grind (arith, nat_tests)

first_seen : (caption : Bool) (s : ℕ) (ss : List ℕ) → BeginsCell caption (s ∷ ss) → is_idle s ≡ false
first_seen true s ss h = grind (arith, nat_tests)
first_seen false s ss h = grind (arith, nat_tests)

no_lead : (caption : Bool) (xs : List Item) → BeginsCell caption (signs xs) → lead_len xs ≡ 0
no_lead true [] h = refl
no_lead false [] h = refl
no_lead caption (x ∷ xs) h = ap (λ (t : Bool). cond t (1 + prefix_len is_idle (signs xs)) 0) (first_seen caption (sign x) (signs xs) h)

sign_first : (caption : Bool) (xs : List Item) → BeginsCell caption (signs xs) → from_sign xs ≡ xs
sign_first caption xs h = ap (λ n. drop n xs) (no_lead caption xs h)

begins_by : (caption : Bool) (xs ys : List Item) → ys ≡ xs → BeginsCell caption (signs xs) → from_sign xs ≡ ys → begins_cell caption xs ≡ true
begins_by true xs ys e h f = ap (λ zs. begins (codes "|+") (signs zs)) (f ∙ e) ∙ h
begins_by false xs ys e h f = ap (λ zs. begins (codes "|") (signs zs) || begins (codes "!") (signs zs)) (f ∙ e) ∙ h

pub begins_is : (caption : Bool) (xs : List Item) → BeginsCell caption (signs xs) → begins_cell caption xs ≡ true
begins_is caption xs h = begins_by caption xs xs refl h (sign_first caption xs h)

pub cells_are : (caption : Bool) (xs : List Item) → BeginsCell caption (signs xs) → cells caption xs ≡ cells_from caption xs
unfolding cells
cells_are caption xs h = ap (cells_from caption) (sign_first caption xs h)
