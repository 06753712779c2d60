-- Paragraphs, preformatted text, headings and rules hold their rows.
use Rattle.std.proofs.Common.{◌≡◌, List, [], ◌∷◌, ◌++◌, take, drop, refl, sym, ap, ◌∙◌, append_assoc, append-nil}
use Rattle.std.proofs.lemmas.List.{take-append-drop}
use Rattle.wt_tree.specs.declared.kind.Kind.TheVariants as kind
use Rattle.wt_span.specs.Items.{Item}
use Rattle.wt_blocks.specs.Headings.{opening, inside, closing}
use Rattle.wt_blocks.proofs.HeadingLaws.{joined as heading_joined}
use Rattle.wt_inline.specs.declared.loose.Loose.TheVariants.{Text}
use Rattle.wt_inline.specs.Inside.{opened_all}
use Rattle.wt_inline.specs.ItemTree.{plain, ItemTree, forest, tree_items, held_by_all}
use Rattle.wt_inline.specs.Parts.{Part, node, parts}
use Rattle.wt_inline.proofs.HeldLaws.{opened_append}
use Rattle.wt_context.specs.Line.{line_parts, line_trees}
use Rattle.wt_page.specs.Rows.{Row, row_items, all_items, first_lead, last_ending}
use Rattle.wt_page.specs.Stretches.{gap, tree_block}
use Rattle.wt_page.specs.Texts.{with_separators, later_parts, later_line, para_parts, para, skipped, later_pre, pre_opening, pre_parts, pre, rule}
use Rattle.wt_page.specs.Headings.{heading}
use Rattle.wt_context.proofs.LineHolding.{line_holds, trees_hold}
use Rattle.wt_page.proofs.Opened.{kept_parts, parts_append, parts_of}
use Rattle.wt_page.proofs.Held.{kept, kept_tree, of_gap, of_tree, of_inner}

pub of_around : (t : ItemTree) (rs : List Row) → kept (with_separators t rs) ≡ opened_all (first_lead rs) ++ (kept_tree t ++ opened_all (last_ending rs))
of_around t rs =
    of_gap (first_lead rs) (tree_block t ∷ gap (last_ending rs) ∷ [])
    ∙ ap (λ ys. opened_all (first_lead rs) ++ ys) (of_tree t (gap (last_ending rs) ∷ [])
    ∙ ap (λ ys. kept_tree t ++ ys) (of_gap (last_ending rs) [] ∙ append-nil (opened_all (last_ending rs))))

-- ---- several lines

-- what ends the last of rows, behind one with this end
abbrev final : List Item → List Row → List Item
final b [] = b
final b (r ∷ rs) = final r.ending rs

final_is : (r : Row) (rs : List Row) → last_ending (r ∷ rs) ≡ final r.ending rs
final_is r [] = refl
final_is r (s ∷ rs) = final_is s rs

pub opened_row : (r : Row) → opened_all (row_items r) ≡ opened_all r.lead ++ (opened_all r.items ++ opened_all r.ending)
opened_row r = opened_append r.lead (r.items ++ r.ending) ∙ ap (λ ys. opened_all r.lead ++ ys) (opened_append r.items r.ending)

pub opened_rows : (r : Row) (rs : List Row)
    → opened_all (all_items (r ∷ rs)) ≡ opened_all r.lead ++ (opened_all r.items ++ (opened_all r.ending ++ opened_all (all_items rs)))
opened_rows r rs = opened_append (row_items r) (all_items rs) ∙ ap (λ ys. ys ++ opened_all (all_items rs)) (opened_row r) ∙ simp (append_assoc)

later_held : (read : Row → List Part) (reads : (r : Row) → kept_parts (read r) ≡ opened_all (r.lead ++ r.items)) (b : List Item) (rs : List Row)
    → kept_parts (later_parts read b rs) ++ opened_all (final b rs) ≡ opened_all b ++ opened_all (all_items rs)
later_held read reads b [] = sym (append-nil (opened_all b))
later_held read reads b (r ∷ rs) =
    let more = later_parts read r.ending rs in
    let last = opened_all (final r.ending rs) in
    ap (λ ys. ys ++ last) (parts_append (parts Text b) (read r ++ more) ∙ ap (λ ys. ys ++ kept_parts (read r ++ more)) (parts_of Text b)
    ∙ ap (λ ys. opened_all b ++ ys) (parts_append (read r) more ∙ ap (λ ys. ys ++ kept_parts more) (reads r ∙ opened_append r.lead r.items)))
    ∙ append_assoc (opened_all b) ((opened_all r.lead ++ opened_all r.items) ++ kept_parts more) last
    ∙ ap (λ ys. opened_all b ++ ys)
    (append_assoc (opened_all r.lead ++ opened_all r.items) (kept_parts more) last
    ∙ ap (λ ys. (opened_all r.lead ++ opened_all r.items) ++ ys) (later_held read reads r.ending rs)
    ∙ append_assoc (opened_all r.lead) (opened_all r.items) (opened_all r.ending ++ opened_all (all_items rs))
    ∙ sym (opened_rows r rs))

-- ---- paragraphs

para_reads : (r : Row) → kept_parts (later_line r) ≡ opened_all (r.lead ++ r.items)
para_reads r = line_holds (r.lead ++ r.items)

-- a block whose first line holds these items, with its rows
of_lines : (read : Row → List Part) (reads : (r : Row) → kept_parts (read r) ≡ opened_all (r.lead ++ r.items)) (t : ItemTree) (r : Row) (rs : List Row)
    → kept_tree t ≡ opened_all r.items ++ kept_parts (later_parts read r.ending rs)
    → kept (with_separators t (r ∷ rs)) ≡ opened_all (all_items (r ∷ rs))
of_lines read reads t r rs h =
    of_around t (r ∷ rs)
    ∙ ap (λ ys. opened_all r.lead ++ ys) (ap (λ ys. ys ++ opened_all (last_ending (r ∷ rs))) h
    ∙ append_assoc (opened_all r.items) (kept_parts (later_parts read r.ending rs)) (opened_all (last_ending (r ∷ rs)))
    ∙ ap (λ ys. opened_all r.items ++ ys)
    (ap (λ ys. kept_parts (later_parts read r.ending rs) ++ opened_all ys) (final_is r rs) ∙ later_held read reads r.ending rs))
    ∙ sym (opened_rows r rs)

para_tree : (rs : List Row) → kept_tree (para rs) ≡ kept_parts (para_parts rs)
unfolding para
para_tree rs = of_inner (plain kind.Para) [] (para_parts rs) [] ∙ append-nil (kept_parts (para_parts rs))

pub of_para : (rs : List Row) → kept (with_separators (para rs) rs) ≡ opened_all (all_items rs)
of_para [] = of_around (para []) [] ∙ append-nil (kept_tree (para [])) ∙ para_tree []
of_para (r ∷ rs) = of_lines later_line para_reads (para (r ∷ rs)) r rs
    (para_tree (r ∷ rs) ∙ parts_append (line_parts r.items) (later_parts later_line r.ending rs)
    ∙ ap (λ ys. ys ++ kept_parts (later_parts later_line r.ending rs)) (line_holds r.items))

-- ---- preformatted text

skipped_holds : (r : Row) → kept_parts (node (skipped r) ∷ []) ≡ opened_all (take 1 r.items)
skipped_holds r = ap opened_all (append-nil (tree_items (skipped r)) ∙ append-nil (take 1 r.items))

pre_reads : (r : Row) → kept_parts (later_pre r) ≡ opened_all (r.lead ++ r.items)
pre_reads r =
    let rest = line_parts (drop 1 r.items) in
    parts_append (parts Text r.lead) (node (skipped r) ∷ rest) ∙ ap (λ ys. ys ++ kept_parts (node (skipped r) ∷ rest)) (parts_of Text r.lead)
    ∙ ap (λ ys. opened_all r.lead ++ ys) (parts_append (node (skipped r) ∷ []) rest
    ∙ ap (λ ys. ys ++ kept_parts rest) (skipped_holds r) ∙ ap (λ ys. opened_all (take 1 r.items) ++ ys) (line_holds (drop 1 r.items))
    ∙ sym (opened_append (take 1 r.items) (drop 1 r.items)) ∙ ap opened_all (take-append-drop 1 r.items))
    ∙ sym (opened_append r.lead r.items)

pre_tree : (rs : List Row) → kept_tree (pre rs) ≡ opened_all (pre_opening rs) ++ kept_parts (pre_parts rs)
unfolding pre
pre_tree rs = of_inner (plain kind.Pre) (pre_opening rs) (pre_parts rs) []
    ∙ ap (λ ys. opened_all (pre_opening rs) ++ ys) (append-nil (kept_parts (pre_parts rs)))

pub of_pre : (rs : List Row) → kept (with_separators (pre rs) rs) ≡ opened_all (all_items rs)
of_pre [] = of_around (pre []) [] ∙ append-nil (kept_tree (pre [])) ∙ pre_tree []
of_pre (r ∷ rs) =
    let more = later_parts later_pre r.ending rs in
    of_lines later_pre pre_reads (pre (r ∷ rs)) r rs
    (pre_tree (r ∷ rs) ∙ ap (λ ys. opened_all (take 1 r.items) ++ ys) (parts_append (line_parts (drop 1 r.items)) more
    ∙ ap (λ ys. ys ++ kept_parts more) (line_holds (drop 1 r.items)))
    ∙ sym (append_assoc (opened_all (take 1 r.items)) (opened_all (drop 1 r.items)) (kept_parts more))
    ∙ ap (λ ys. ys ++ kept_parts more) (sym (opened_append (take 1 r.items) (drop 1 r.items)) ∙ ap opened_all (take-append-drop 1 r.items)))

-- ---- headings and rules

-- of one row whose node holds its items
pub of_row : (t : ItemTree) (r : Row) → kept_tree t ≡ opened_all r.items → kept (with_separators t (r ∷ [])) ≡ opened_all (row_items r)
of_row t r h = of_around t (r ∷ []) ∙ ap (λ ys. opened_all r.lead ++ (ys ++ opened_all r.ending)) h ∙ sym (opened_row r)

pub of_heading : (xs : List Item) → kept_tree (heading xs) ≡ opened_all xs
unfolding heading
of_heading xs =
    let a = opening xs in
    let b = inside xs in
    let c = closing xs in
    opened_append a (held_by_all (forest (line_trees b)) ++ c)
    ∙ ap (λ ys. opened_all a ++ ys) (opened_append (held_by_all (forest (line_trees b))) c
    ∙ ap (λ ys. ys ++ opened_all c) (trees_hold b) ∙ sym (opened_append b c))
    ∙ sym (opened_append a (b ++ c)) ∙ ap opened_all (heading_joined xs)

pub of_rule : (xs : List Item) → kept_tree (rule xs) ≡ opened_all xs
unfolding rule
of_rule xs = ap opened_all (append-nil xs)
