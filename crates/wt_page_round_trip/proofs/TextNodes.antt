-- Paragraphs, preformatted text, headings and rules, wherever blocks may stand.
use Rattle.std.proofs.Common.{◌≡◌, ℕ, suc, ◌<◌, ◌≤◌, true, List, [], ◌∷◌, ◌++◌, length, take, drop, get_or, refl, sym, subst, arith}
use Rattle.std.specs.Prelude.{codes}
use Rattle.std.specs.List.{AllByRecursion, flat_map}
use Rattle.wt_span.specs.Bytes.{begins}
use Rattle.wt_span.specs.Items.{Item}
use Rattle.wt_tree.specs.declared.kind.Kind.{Kind}
use Rattle.wt_tree.specs.declared.kind.Kind.TheVariants as kind
use Rattle.wt_tree.specs.declared.row.Placement.TheVariants.{Block}
use Rattle.wt_tree.specs.declared.row.Holding.TheVariants.{Inlines}
use Rattle.wt_tree.specs.declared.row.Texts.TheVariants.{Page}
use Rattle.wt_tree.specs.Kinds.{texts_of_kind, shape, is_anywhere, spelling}
use Rattle.wt_lex.proofs.Begins.{begins_get, begins_len}
use Rattle.wt_schema.specs.Written.{has_level}
use Rattle.wt_inline.specs.declared.loose.Loose.TheVariants.{Text}
use Rattle.wt_inline.specs.ItemTree.{plain, ItemTree, inner, forest}
use Rattle.wt_inline.specs.Parts.{Part, node, parts, children}
use Rattle.wt_context.specs.Line.{line_parts, line_trees}
use Rattle.wt_blocks.specs.Headings.{level as heading_level, opening, inside, closing}
use Rattle.wt_blocks.proofs.HeadingLaws.{joined as heading_joined}
use Rattle.wt_page.specs.Headings.{heading}
use Rattle.wt_annotated.specs.Annotated.{all_unplaced}
use Rattle.wt_page.specs.Rows.{Row, signs, first_lead, last_ending}
use Rattle.wt_page.specs.Texts.{with_separators, later_parts, later_line, para_parts, para, skipped, later_pre, pre_opening, pre_parts, pre, rule}
use Rattle.wt_page.specs.Tables.{gaps}
use Rattle.wt_page.specs.Body.{rule_row, heading_row}
use Rattle.wt_page_round_trip.proofs.TextItems.{AreTexts, cut_after, cut_items_before}
use Rattle.wt_page_round_trip.proofs.OfPage.{IsPageItem, AreOfPage, ArePageItems, no_page_items}
use Rattle.wt_page_round_trip.proofs.PageLines.{IsBetween, all_left, all_right, all_both, both_page}
use Rattle.wt_page_round_trip.proofs.ShownNodes.{IsOrdered}
use Rattle.wt_page_round_trip.proofs.PageNodes.{children_nodes}
use Rattle.wt_page_round_trip.proofs.Parts.{children_shown}
use Rattle.wt_page_round_trip.proofs.WrittenParts.{FitsIn, no_parts, fits_both, fits_text, fits_node}
use Rattle.wt_page_round_trip.proofs.Inline.{IsInlineParent}
use Rattle.wt_page_round_trip.proofs.InlineNodes.{skip_leaf}
use Rattle.wt_page_round_trip.proofs.ContextParts.{line_fits}
use Rattle.wt_page_round_trip.proofs.BodyParts.{IsHeadingLine, heading_parent, para_parent, inline_held}
use Rattle.wt_page_round_trip.proofs.HeadingLines.{ends_low, signs_len}
use Rattle.wt_page_round_trip.proofs.Boxes.{IsInside, IsRound, IsBox, box_written, rule_written}
use Rattle.wt_page_round_trip.proofs.Stretched.{StandsIn, ArePlaced}
use Rattle.wt_page_round_trip.proofs.GoodRows.{IsGap, IsGoodRow, AreGoodRows, behind_items}
use Rattle.wt_page_round_trip.proofs.Separated.{IsNodeIn, between_items}

-- ---- gaps round blocks

pub gap_items : (xs : List Item) → IsGap xs → ArePageItems xs
gap_items xs g = between_items xs g.0 g.1

pub gap_both : (xs ys : List Item) → IsGap xs → IsGap ys → IsGap (xs ++ ys)
gap_both xs ys g h = (all_both IsPageItem xs ys g.0 h.0, all_both IsBetween xs ys g.1 h.1)

pub first_gap : (rs : List Row) → AreGoodRows rs → IsGap (first_lead rs)
first_gap [] g = (tt, tt)
first_gap (r ∷ rs) g = g.0.lead

pub last_gap : (rs : List Row) → AreGoodRows rs → IsGap (last_ending rs)
last_gap [] g = (tt, tt)
last_gap (r ∷ []) g = g.0.ending
last_gap (r ∷ s ∷ rs) g = last_gap (s ∷ rs) g.1

pub around : (k : ℕ) (parent : Kind) (t : ItemTree) (rs : List Row) → AreGoodRows rs → IsNodeIn k parent t → ArePlaced k parent (with_separators t rs)
around k parent t rs g b = (first_gap rs g, (b, (last_gap rs g, tt)))

-- rows of which nothing is seen
pub gaps_placed : (k : ℕ) (parent : Kind) (rs : List Row) → AreGoodRows rs → AllByRecursion (λ r. AllByRecursion IsBetween r.items) rs
    → ArePlaced k parent (gaps rs)
gaps_placed k parent [] g a = tt
gaps_placed k parent (r ∷ rs) g a =
    (gap_both r.lead (r.items ++ r.ending) g.0.lead (gap_both r.items r.ending (g.0.items.page, a.0) g.0.ending), gaps_placed k parent rs g.1 a.1)

-- ---- what holds text

text_inside : (k : ℕ) (q : Kind) → texts_of_kind q ≡ Page → IsInlineParent q → (ps : List Part) → FitsIn k ps → IsInside k q (forest (children ps))
text_inside k q e p ps f = (
  children_nodes ps f.parts,
  subst (λ x. IsOrdered x (all_unplaced (forest (children ps)))) (sym e) tt,
  children_shown k q ps f.parts (f.shown k q (omega arith) p),
)

later_fit : (most : ℕ) → most < 199 → (read : Row → List Part) → ((r : Row) → IsGoodRow r → FitsIn most (read r)) → (b : List Item) → ArePageItems b
    → (rs : List Row) → AreGoodRows rs → FitsIn most (later_parts read b rs)
later_fit most small read f b h [] g = no_parts most
later_fit most small read f b h (r ∷ rs) g =
    fits_both most (parts Text b) (read r ++ later_parts read r.ending rs) (fits_text most b small h.texts h.page)
    (fits_both most (read r) (later_parts read r.ending rs) (f r g.0)
    (later_fit most small read f r.ending (gap_items r.ending g.0.ending) rs g.1))

-- ---- paragraphs

lead_items : (r : Row) → IsGoodRow r → ArePageItems (r.lead ++ r.items)
lead_items r g = both_page r.lead r.items (gap_items r.lead g.lead) g.items

para_fits : (most : ℕ) → most < 142 → (rs : List Row) → AreGoodRows rs → FitsIn most (para_parts rs)
para_fits most small [] g = no_parts most
para_fits most small (r ∷ rs) g =
    fits_both most (line_parts r.items) (later_parts later_line r.ending rs) (line_fits most small r.items g.0.items)
    (later_fit most (omega (arith, small)) later_line (λ s h. line_fits most small (s.lead ++ s.items) (lead_items s h)) r.ending
    (gap_items r.ending g.0.ending) rs g.1)

para_round : IsRound kind.Para
unfolding spelling
para_round = record { class = Block; holding = Inlines; texts = Page; shape_is = refl; level = refl; shows = refl }

para_box : IsBox kind.Para [] [] []
unfolding spelling
para_box = record { attrs = refl; opening = no_page_items; closing = no_page_items }

pub para_placed : (k : ℕ) (parent : Kind) (rs : List Row) → AreGoodRows rs → k < 141 → StandsIn parent kind.Para
    → ArePlaced k parent (with_separators (para rs) rs)
unfolding para
para_placed k parent rs g small s =
    around k parent (inner (plain kind.Para) [] (forest (children (para_parts rs))) []) rs g (
      box_written k parent kind.Para para_round [] [] [] para_box (forest (children (para_parts rs))) (omega (arith, small)) s
          (text_inside (suc k) kind.Para refl para_parent (para_parts rs) (para_fits (suc k) (omega (arith, small)) rs g)),
      refl,
    )

-- ---- preformatted text

-- each of these begins with a space
abbrev pub ArePreRows : List Row → Type 0
ArePreRows rs = AllByRecursion (λ r. begins (codes " ") (signs r.items) ≡ true) rs

space_cut : (r : Row) → IsGoodRow r → begins (codes " ") (signs r.items) ≡ true → ArePageItems (take 1 r.items) × ArePageItems (drop 1 r.items)
space_cut r g e =
    let n : 1 ≤ length (signs r.items) = begins_len (codes " ") (signs r.items) e in
    let at : get_or (signs r.items) 0 0 ≡ 32 = begins_get (codes " ") (signs r.items) e 0 (omega arith) in
    behind_items 1 r.items g.items (ends_low r.items 0 (omega (arith, n, signs_len r.items)) (omega (arith, at)))

pre_line : (most : ℕ) → most < 142 → (r : Row) → IsGoodRow r → begins (codes " ") (signs r.items) ≡ true → FitsIn most (later_pre r)
pre_line most small r g e =
    let c : ArePageItems (take 1 r.items) × ArePageItems (drop 1 r.items) = space_cut r g e in
    let h : ArePageItems r.lead = gap_items r.lead g.lead in
    fits_both most (parts Text r.lead) (node (skipped r) ∷ line_parts (drop 1 r.items)) (fits_text most r.lead (omega (arith, small)) h.texts h.page)
    (fits_both most (node (skipped r) ∷ []) (line_parts (drop 1 r.items))
    (fits_node most (skipped r) (skip_leaf most (take 1 r.items) (omega (arith, small)) c.0))
    (line_fits most small (drop 1 r.items) c.1))

later_pre_fit : (most : ℕ) → most < 142 → (b : List Item) → ArePageItems b → (rs : List Row) → AreGoodRows rs → ArePreRows rs
    → FitsIn most (later_parts later_pre b rs)
later_pre_fit most small b h [] g e = no_parts most
later_pre_fit most small b h (r ∷ rs) g e =
    fits_both most (parts Text b) (later_pre r ++ later_parts later_pre r.ending rs) (fits_text most b (omega (arith, small)) h.texts h.page)
    (fits_both most (later_pre r) (later_parts later_pre r.ending rs) (pre_line most small r g.0 e.0)
    (later_pre_fit most small r.ending (gap_items r.ending g.0.ending) rs g.1 e.1))

pre_fits : (most : ℕ) → most < 142 → (rs : List Row) → AreGoodRows rs → ArePreRows rs → FitsIn most (pre_parts rs)
pre_fits most small [] g e = no_parts most
pre_fits most small (r ∷ rs) g e =
    let c : ArePageItems (take 1 r.items) × ArePageItems (drop 1 r.items) = space_cut r g.0 e.0 in
    fits_both most (line_parts (drop 1 r.items)) (later_parts later_pre r.ending rs) (line_fits most small (drop 1 r.items) c.1)
    (later_pre_fit most small r.ending (gap_items r.ending g.0.ending) rs g.1 e.1)

opening_items : (rs : List Row) → AreGoodRows rs → ArePreRows rs → ArePageItems (pre_opening rs)
opening_items [] g e = no_page_items
opening_items (r ∷ rs) g e = (space_cut r g.0 e.0).0

pre_round : IsRound kind.Pre
unfolding spelling
pre_round = record { class = Block; holding = Inlines; texts = Page; shape_is = refl; level = refl; shows = refl }

pre_box : (xs : List Item) → ArePageItems xs → IsBox kind.Pre [] xs []
unfolding spelling
pre_box xs u = record { attrs = refl; opening = u; closing = no_page_items }

pre_parent : IsInlineParent kind.Pre
pre_parent = record { text = refl; elements = λ k h. inline_held (is_anywhere (shape k).class) _ h }

pub pre_placed : (k : ℕ) (parent : Kind) (rs : List Row) → AreGoodRows rs → ArePreRows rs → k < 141 → StandsIn parent kind.Pre
    → ArePlaced k parent (with_separators (pre rs) rs)
unfolding pre
pre_placed k parent rs g e small s =
    around k parent (inner (plain kind.Pre) (pre_opening rs) (forest (children (pre_parts rs))) []) rs g (
      box_written k parent kind.Pre pre_round [] (pre_opening rs) [] (pre_box (pre_opening rs) (opening_items rs g e)) (forest (children (pre_parts rs)))
          (omega (arith, small)) s
          (text_inside (suc k) kind.Pre refl pre_parent (pre_parts rs) (pre_fits (suc k) (omega (arith, small)) rs g e)),
      refl,
    )

-- ---- headings

heading_round : (n : ℕ) → has_level (kind.Heading n) ≡ true → IsRound (kind.Heading n)
heading_round n e = record { class = Block; holding = Inlines; texts = Page; shape_is = refl; level = e; shows = refl }

heading_box : (n : ℕ) (os cs : List Item) → ArePageItems os → ArePageItems cs → IsBox (kind.Heading n) [] os cs
unfolding spelling
heading_box n os cs u v = record { attrs = refl; opening = u; closing = v }

heading_in : (k : ℕ) (parent : Kind) (xs : List Item) → ArePageItems xs → IsHeadingLine xs → k < 141 → StandsIn parent (kind.Heading (heading_level xs))
    → IsNodeIn k parent (heading xs)
unfolding heading line_trees
heading_in k parent xs l c small s =
    let n : ℕ = heading_level xs in
    let os : List Item = opening xs in
    let is : List Item = inside xs in
    let cs : List Item = closing xs in
    let t : AreTexts [] (os ++ (is ++ cs)) = subst (AreTexts []) (sym (heading_joined xs)) l.texts in
    let p : AreOfPage (os ++ (is ++ cs)) = subst AreOfPage (sym (heading_joined xs)) l.page in
    let q : AreTexts [] os × AreTexts [] (is ++ cs) = cut_after os (is ++ cs) c.open_ends t in
    let v : AreOfPage (is ++ cs) = all_right IsPageItem os (is ++ cs) p in
    let r : AreTexts [] is × AreTexts [] cs = cut_items_before [] is cs c.close_begins q.1 in
    let ps : List Part = line_parts is in
    let f : FitsIn (suc k) ps = line_fits (suc k) (omega (arith, small)) is (record { texts = r.0; page = all_left IsPageItem is cs v }) in
    let b : IsBox (kind.Heading n) [] os cs = heading_box n os cs (record { texts = q.0; page = all_left IsPageItem os (is ++ cs) p })
    (record { texts = r.1; page = all_right IsPageItem is cs v }) in (
      box_written k parent (kind.Heading n) (heading_round n c.level) [] os cs b (forest (children ps)) (omega (arith, small)) s
          (text_inside (suc k) (kind.Heading n) refl (heading_parent n) ps f),
      refl,
    )

pub headings_placed : (k : ℕ) (parent : Kind) → ((n : ℕ) → StandsIn parent (kind.Heading n)) → k < 141 → (rs : List Row) → AreGoodRows rs
    → AllByRecursion (λ r. IsHeadingLine r.items) rs → ArePlaced k parent (flat_map heading_row rs)
headings_placed k parent s small [] g e = tt
headings_placed k parent s small (r ∷ rs) g e =
    (g.0.lead, (heading_in k parent r.items g.0.items e.0 small (s (heading_level r.items)), (g.0.ending, headings_placed k parent s small rs g.1 e.1)))

-- ---- rules

pub rules_placed : (k : ℕ) (parent : Kind) → StandsIn parent kind.Rule → k < 200 → (rs : List Row) → AreGoodRows rs → ArePlaced k parent (flat_map rule_row rs)
unfolding rule
rules_placed k parent s small [] g = tt
rules_placed k parent s small (r ∷ rs) g = (
  g.0.lead,
  ((rule_written k parent r.items small s g.0.items, refl), (g.0.ending, rules_placed k parent s small rs g.1)),
)
