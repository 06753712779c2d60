-- Blocks are gaps and tight nodes: paragraphs, preformatted text, rules, headings, lists.
use Rattle.std.proofs.Common.{◌≡◌, ℕ, Bool, true, false, Option, Some, None, List, [], ◌∷◌, ◌++◌, take, drop, refl, ◌∙◌}
use Rattle.std.specs.Prelude.{◌==◌, if◌then◌else◌}
use Rattle.wt_tree.specs.declared.kind.Kind.TheVariants as kind
use Rattle.wt_span.specs.Items.{Item}
use Rattle.wt_blocks.specs.ListTree.{ListTree, node as list_node, ListTrees, none, more, forest as list_forest}
use Rattle.wt_blocks.specs.Nesting.{nested}
use Rattle.wt_blocks.specs.Headings.{inside}
use Rattle.wt_inline.specs.declared.loose.Loose.TheVariants.{Text}
use Rattle.wt_inline.specs.ItemTree.{ItemTree, plain}
use Rattle.wt_inline.specs.Parts.{Part, node, parts}
use Rattle.wt_context.specs.Line.{line_parts, line_trees}
use Rattle.wt_page.specs.Headings.{heading}
use Rattle.wt_page.specs.Rows.{Row}
use Rattle.wt_page.specs.Stretches.{Stretch, gap, front_len, front_gaps, past_front, opened_by, enclosed}
use Rattle.wt_page.specs.Texts.{with_separators, later_parts, later_line, para_parts, para, skipped, later_pre, pre_parts, pre, rule}
use Rattle.wt_page.specs.Lists.{with_blanks, item_opening_len, term_len, item_kind, list_kind, term, item_by, line_item, begins_at, row_at, list_stretches, all_lists, prefixes, lists}
use Rattle.wt_page_laws.specs.Roles.{role, role_of, is_separator, is_between}
use Rattle.wt_page_laws.specs.Ends.{IsTight}
use Rattle.wt_page_laws.proofs.Alls.{all_both, all_taken, all_dropped}
use Rattle.wt_page_laws.proofs.LineWords.{text_words, line_words}
use Rattle.wt_page_laws.proofs.Children.{part_passes, AreNoGaps, words_no_gaps, none_among, children_last, words_last, words_tight, tight_children}
use Rattle.wt_page_laws.proofs.TightNodes.{IsSolid, AreSolid, asks_end, asks_both, line_opened, item_opened, enclosed_solid}

-- ---- lines

pub with_separators_solid : (t : ItemTree) (rs : List Row) → IsTight t → is_between (role_of t) ≡ false → AreSolid (with_separators t rs)
with_separators_solid t rs h s = (tt, ((h, s), (tt, tt)))

abbrev Is : Part → Type 0
Is p = part_passes is_separator p ≡ false

line_no_gaps : (xs : List Item) → AreNoGaps (line_parts xs)
line_no_gaps xs = words_no_gaps (line_parts xs) (line_words xs)

text_no_gaps : (xs : List Item) → AreNoGaps (parts Text xs)
text_no_gaps xs = words_no_gaps (parts Text xs) (text_words xs)

later_no_gaps : (read : Row → List Part) → ((r : Row) → AreNoGaps (read r)) → (break : List Item) (rs : List Row) → AreNoGaps (later_parts read break rs)
later_no_gaps read h break [] = tt
later_no_gaps read h break (r ∷ rs) =
    all_both Is (parts Text break) (read r ++ later_parts read r.ending rs) (text_no_gaps break)
    (all_both Is (read r) (later_parts read r.ending rs) (h r) (later_no_gaps read h r.ending rs))

para_no_gaps : (rs : List Row) → AreNoGaps (para_parts rs)
para_no_gaps [] = tt
para_no_gaps (r ∷ rs) =
    all_both Is (line_parts r.items) (later_parts later_line r.ending rs) (line_no_gaps r.items)
    (later_no_gaps later_line (λ s. line_no_gaps (s.lead ++ s.items)) r.ending rs)

pub para_tight : (rs : List Row) → AreSolid (with_separators (para rs) rs)
unfolding para
para_tight rs = with_separators_solid (para rs) rs (none_among (para_parts rs) (para_no_gaps rs)) refl

later_pre_no_gaps : (r : Row) → AreNoGaps (later_pre r)
later_pre_no_gaps r =
    all_both Is (parts Text r.lead) (node (skipped r) ∷ line_parts (drop 1 r.items)) (text_no_gaps r.lead) (refl, line_no_gaps (drop 1 r.items))

pre_no_gaps : (rs : List Row) → AreNoGaps (pre_parts rs)
pre_no_gaps [] = tt
pre_no_gaps (r ∷ rs) =
    all_both Is (line_parts (drop 1 r.items)) (later_parts later_pre r.ending rs) (line_no_gaps (drop 1 r.items))
    (later_no_gaps later_pre later_pre_no_gaps r.ending rs)

pub pre_tight : (rs : List Row) → AreSolid (with_separators (pre rs) rs)
unfolding pre
pre_tight rs = with_separators_solid (pre rs) rs (none_among (pre_parts rs) (pre_no_gaps rs)) refl

pub rule_tight : (r : Row) → AreSolid (with_separators (rule r.items) (r ∷ []))
unfolding rule
rule_tight r = with_separators_solid (rule r.items) (r ∷ []) tt refl

pub heading_tight : (r : Row) → AreSolid (with_separators (heading r.items) (r ∷ []))
unfolding heading line_trees
heading_tight r = with_separators_solid (heading r.items) (r ∷ []) (none_among (line_parts (inside r.items)) (line_no_gaps (inside r.items))) refl

-- ---- items

item_end : (sign : ℕ) → asks_end (role (item_kind sign)) ≡ true
item_end sign = by (sign == 59) (sign == 58)
  where
    by : (a b : Bool) → asks_end (role (if a then kind.Dt else if b then kind.Dd else kind.Li)) ≡ true
    by true b = refl
    by false true = refl
    by false false = refl

list_both : (sign : ℕ) → asks_both (role (list_kind sign)) ≡ true
list_both sign = by (sign == 42) (sign == 35)
  where
    by : (a b : Bool) → asks_both (role (if a then kind.Ul else if b then kind.Ol else kind.Dl)) ≡ true
    by true b = refl
    by false true = refl
    by false false = refl

term_tight : (opening xs : List Item) → IsTight (term opening xs)
term_tight opening xs =
    let ps : List Part = line_parts xs in
    let w = line_words xs in
    (children_last is_separator ps ∙ words_last ps w, tight_children ps (words_tight ps w))

item_solid : (sign : ℕ) (n : Option ℕ) (opening xs : List Item) (ss : List Stretch) → AreSolid ss → AreSolid (item_by sign n opening xs ss)
item_solid sign None opening xs ss h = line_opened (plain (item_kind sign)) opening xs ss (item_end sign) h
item_solid sign (Some n) opening xs ss h =
    let rest = drop n xs in
    let colon = with_blanks 1 rest in
    ((term_tight opening (take n xs), refl), line_opened (plain kind.Dd) (take colon rest) (drop colon rest) ss refl h)

line_item_solid : (sign : ℕ) (r : Row) (ss : List Stretch) → AreSolid ss → AreSolid (line_item sign r ss)
unfolding line_item
line_item_solid sign r ss h =
    let n = item_opening_len r.items in
    let xs = drop n r.items in
    (tt, item_solid sign (term_len sign xs) (take n r.items) xs (gap r.ending ∷ ss) (tt, h))

-- ---- lists: an item is enclosed where a list begins at its line, which asks no more of it than of any item

item_enclosed : (sign : ℕ) (ss : List Stretch) → AreSolid ss → AreSolid (enclosed (plain (item_kind sign)) ss)
item_enclosed sign ss h =
    all_both IsSolid (front_gaps ss) (opened_by (plain (item_kind sign)) [] (past_front ss)) (all_taken IsSolid (front_len ss) ss h)
    (item_opened (plain (item_kind sign)) (past_front ss) (item_end sign) (all_dropped IsSolid (front_len ss) ss h))

item_by_own : (own : Bool) (rs : List Row) (sign line : ℕ) (ss : List Stretch) → AreSolid ss
    → AreSolid (if own then enclosed (plain (item_kind sign)) ss else line_item sign (row_at rs line) ss)
item_by_own true rs sign line ss h = item_enclosed sign ss h
item_by_own false rs sign line ss h = line_item_solid sign (row_at rs line) ss h

mutual
  pub list_solid : (rs : List Row) (t : ListTree) → AreSolid (list_stretches rs t)
  list_solid rs (list_node false sign line ts) = enclosed_solid (plain (list_kind sign)) (all_lists rs ts) (list_both sign) (lists_solid rs ts)
  list_solid rs (list_node true sign line ts) = item_by_own (begins_at line ts) rs sign line (all_lists rs ts) (lists_solid rs ts)

  pub lists_solid : (rs : List Row) (ts : ListTrees) → AreSolid (all_lists rs ts)
  lists_solid rs none = tt
  lists_solid rs (more t ts) = all_both IsSolid (list_stretches rs t) (all_lists rs ts) (list_solid rs t) (lists_solid rs ts)

pub of_lists : (rs : List Row) → AreSolid (lists rs)
unfolding lists
of_lists rs = lists_solid rs (list_forest (nested (prefixes rs)))
