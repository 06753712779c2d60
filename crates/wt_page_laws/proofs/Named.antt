-- The lists and items in a tree are those of the nest of the lines, named by their signs.
use Rattle.std.proofs.Common.{◌≡◌, ℕ, suc, Bool, true, false, Option, Some, None, List, [], ◌∷◌, ◌++◌, length, take, drop, refl, sym, ap, ◌∙◌, subst, inl, inr, append-nil}
use Rattle.std.specs.Prelude.{◌==◌, if◌then◌else◌, All, nat_lt}
use Rattle.std.proofs.lemmas.List.{take-append-drop}
use Rattle.wt_tree.specs.declared.kind.Kind.{Kind}
use Rattle.wt_tree.specs.declared.kind.Kind.TheVariants as kind
use Rattle.wt_span.specs.Items.{Item}
use Rattle.wt_blocks.specs.ListTree.{ListTree, node as list_node, ListTrees, none, more, forest as list_forest}
use Rattle.wt_blocks.specs.Nesting.{IsPrefix, numbered, nested}
use Rattle.wt_blocks.specs.Starts.{Row as Start, rows as starts, rows_of_all as all_starts, begun}
use Rattle.wt_blocks.proofs.Begun.{nested_begun}
use Rattle.wt_inline.specs.ItemTree.{Head, inner, ItemTrees, nothing, further, plain, forest}
use Rattle.wt_inline.specs.Parts.{Part, children}
use Rattle.wt_context.specs.Line.{line_parts}
use Rattle.wt_page.specs.Rows.{Row}
use Rattle.wt_page.specs.Stretches.{Stretch, gap, block, stretches_parts, front_len, front_gaps, past_front, block_len, before_end, end_gaps, opened_by, enclosed}
use Rattle.wt_page.specs.Lists.{colon_at, with_blanks, item_opening_len, term_len, item_kind, list_kind, term, item_by, line_item, begins_at, row_at, list_stretches, all_lists, prefixes, lists}
use Rattle.wt_page_laws.specs.Roles.{role, is_of_list}
use Rattle.wt_page_laws.specs.ListNodes.{list_nodes, list_nodes_of_all, item_name, IsNamed, AreNamed}
use Rattle.wt_page_laws.specs.Members.{of_each}
use Rattle.wt_page_laws.proofs.LineWords.{line_words}
use Rattle.wt_page_laws.proofs.Told.{TellsNone, parts_told, told_in, children_told, words_told, in_both, behind_gap, gaps_told, behind_line, of_opened}
use Rattle.wt_page_laws.proofs.EndGaps.{front_are_gaps, end_are_gaps}

abbrev Named : Type 0
Named = List (ℕ × Kind)

-- ---- in the children of a node

abbrev nodes_by : Bool → Named → Named
nodes_by b ns = if b then ns else []

none_told : (d : ℕ) → TellsNone (list_nodes d)
none_told d (inner h opening ts closing) (inl e) = ap (λ r. nodes_by (is_of_list r) ((d, h.kind) ∷ list_nodes_of_all (suc d) ts)) e
none_told d (inner h opening ts closing) (inr e) = ap (λ r. nodes_by (is_of_list r) ((d, h.kind) ∷ list_nodes_of_all (suc d) ts)) e

of_all : (d : ℕ) (ts : ItemTrees) → list_nodes_of_all d ts ≡ of_each (list_nodes d) ts
of_all d nothing = refl
of_all d (further t ts) = ap (λ ns. list_nodes d t ++ ns) (of_all d ts)

children_nodes : (d : ℕ) (ps : List Part) → list_nodes_of_all d (forest (children ps)) ≡ parts_told (list_nodes d) ps
children_nodes d ps = of_all d (forest (children ps)) ∙ children_told (list_nodes d) (none_told d) ps

-- ---- in stretches

abbrev nodes_in : ℕ → List Stretch → Named
nodes_in d ss = told_in (list_nodes d) ss

in_node : (d : ℕ) (h : Head) (opening : List Item) (ps : List Part) (closing : List Item) → is_of_list (role h.kind) ≡ true
    → list_nodes d (inner h opening (forest (children ps)) closing) ≡ (d, h.kind) ∷ parts_told (list_nodes (suc d)) ps
in_node d h opening ps closing e =
    ap (λ b. nodes_by b ((d, h.kind) ∷ list_nodes_of_all (suc d) (forest (children ps)))) e ∙ ap (λ ns. (d, h.kind) ∷ ns) (children_nodes (suc d) ps)

in_front : (d : ℕ) (ss : List Stretch) → nodes_in d (before_end ss) ≡ nodes_in d ss
in_front d ss =
    sym (ap (nodes_in d) (sym (take-append-drop (block_len ss) ss)) ∙ in_both (list_nodes d) (before_end ss) (end_gaps ss)
    ∙ ap (λ ns. nodes_in d (before_end ss) ++ ns) (gaps_told (list_nodes d) (none_told d) (end_gaps ss) (end_are_gaps ss)) ∙ append-nil (nodes_in d (before_end ss)))

in_past : (d : ℕ) (ss : List Stretch) → nodes_in d (past_front ss) ≡ nodes_in d ss
in_past d ss =
    sym (ap (nodes_in d) (sym (take-append-drop (front_len ss) ss)) ∙ in_both (list_nodes d) (front_gaps ss) (past_front ss)
    ∙ ap (λ ns. ns ++ nodes_in d (past_front ss)) (gaps_told (list_nodes d) (none_told d) (front_gaps ss) (front_are_gaps ss)))

in_opened : (d : ℕ) (h : Head) (opening : List Item) (ss : List Stretch) → is_of_list (role h.kind) ≡ true
    → nodes_in d (opened_by h opening ss) ≡ (d, h.kind) ∷ nodes_in (suc d) ss
in_opened d h opening ss e =
    of_opened (list_nodes d) (none_told d) h opening ss
    ∙ in_node d h opening (stretches_parts (before_end ss)) [] e
    ∙ ap (λ ns. (d, h.kind) ∷ ns) (in_front (suc d) ss)

in_enclosed : (d : ℕ) (h : Head) (ss : List Stretch) → is_of_list (role h.kind) ≡ true → nodes_in d (enclosed h ss) ≡ (d, h.kind) ∷ nodes_in (suc d) ss
in_enclosed d h ss e =
    in_both (list_nodes d) (front_gaps ss) (opened_by h [] (past_front ss))
    ∙ ap (λ ns. ns ++ nodes_in d (opened_by h [] (past_front ss))) (gaps_told (list_nodes d) (none_told d) (front_gaps ss) (front_are_gaps ss))
    ∙ in_opened d h [] (past_front ss) e ∙ ap (λ ns. (d, h.kind) ∷ ns) (in_past (suc d) ss)

-- ---- names

names_both : (rs ss : List Start) (ms ns : Named) → AreNamed rs ms → AreNamed ss ns → AreNamed (rs ++ ss) (ms ++ ns)
names_both [] ss ms ns a b = subst (λ os. AreNamed ss (os ++ ns)) (sym a) b
names_both (r ∷ rs) ss ms ns (others, n, rest) b = (others ++ ns, by n, names_both rs ss others ns rest b)
  where
    by : IsNamed r others ms → IsNamed r (others ++ ns) (ms ++ ns)
    by (inl e) = inl (ap (λ os. os ++ ns) e)
    by (inr q) = inr (q.0, ap (λ os. os ++ ns) q.1)

list_role : (sign : ℕ) → is_of_list (role (list_kind sign)) ≡ true
list_role sign = by (sign == 42) (sign == 35)
  where
    by : (a b : Bool) → is_of_list (role (if a then kind.Ul else if b then kind.Ol else kind.Dl)) ≡ true
    by true b = refl
    by false true = refl
    by false false = refl

pub item_role : (sign : ℕ) → is_of_list (role (item_kind sign)) ≡ true
item_role sign = by (sign == 59) (sign == 58)
  where
    by : (a b : Bool) → is_of_list (role (if a then kind.Dt else if b then kind.Dd else kind.Li)) ≡ true
    by true b = refl
    by false true = refl
    by false false = refl

-- a term is split at a `;` alone
term_sign : (sign : ℕ) (xs : List Item) (n : ℕ) → term_len sign xs ≡ Some n → item_name sign ≡ kind.Dt
term_sign sign xs n e = by (sign == 59) e
  where
    by : (b : Bool) → (if b then (if nat_lt (colon_at xs) (length xs) then Some (colon_at xs) else None) else None) ≡ Some n
        → (if b then kind.Dt else if sign == 58 then kind.Dd else kind.Li) ≡ kind.Dt
    by true e = refl
    by false e = cc

abbrev start : ℕ → Bool → ℕ → ℕ → Start
start d item sign line = record { depth = d; item = item; sign = sign; line = line }

item_named : (d sign line : ℕ) (n : Option ℕ) (opening xs : List Item) (ss : List Stretch) → term_len sign xs ≡ n
    → IsNamed (start d true sign line) (nodes_in (suc d) ss) (nodes_in d (item_by sign n opening xs ss))
item_named d sign line None opening xs ss e =
    inl (in_opened d (plain (item_kind sign)) opening (block (line_parts xs) ∷ ss) (item_role sign)
    ∙ ap (λ ns. (d, item_kind sign) ∷ ns) (behind_line (list_nodes (suc d)) (none_told (suc d)) xs ss))
item_named d sign line (Some n) opening xs ss e =
    let rest = drop n xs in
    let colon = with_blanks 1 rest in
    let first : list_nodes d (term opening (take n xs)) ≡ (d, kind.Dt) ∷ [] =
    in_node d (plain kind.Dt) opening (line_parts (take n xs)) [] refl
    ∙ ap (λ ns. (d, kind.Dt) ∷ ns) (words_told (list_nodes (suc d)) (none_told (suc d)) (line_parts (take n xs)) (line_words (take n xs))) in
    inr (
      term_sign sign xs n e,
      ap (λ ns. ns ++ nodes_in d (opened_by (plain kind.Dd) (take colon rest) (block (line_parts (drop colon rest)) ∷ ss))) first
          ∙ ap (λ ns. (d, kind.Dt) ∷ ns) (in_opened d (plain kind.Dd) (take colon rest) (block (line_parts (drop colon rest)) ∷ ss) refl
          ∙ ap (λ ns. (d, kind.Dd) ∷ ns) (behind_line (list_nodes (suc d)) (none_told (suc d)) (drop colon rest) ss)),
    )

line_named : (d sign line : ℕ) (r : Row) (ss : List Stretch) → IsNamed (start d true sign line) (nodes_in (suc d) ss) (nodes_in d (line_item sign r ss))
unfolding line_item
line_named d sign line r ss =
    let n = item_opening_len r.items in
    let xs = drop n r.items in
    let made = item_by sign (term_len sign xs) (take n r.items) xs (gap r.ending ∷ ss) in
    subst (λ ns. IsNamed (start d true sign line) (nodes_in (suc d) ss) ns) (sym (behind_gap (list_nodes d) (none_told d) r.lead made))
    (subst (λ ns. IsNamed (start d true sign line) ns (nodes_in d made)) (behind_gap (list_nodes (suc d)) (none_told (suc d)) r.ending ss)
    (item_named d sign line (term_len sign xs) (take n r.items) xs (gap r.ending ∷ ss) refl))

own_named : (own : Bool) (d sign line : ℕ) (r : Row) (ss : List Stretch)
    → IsNamed (start d true sign line) (nodes_in (suc d) ss) (nodes_in d (if own then enclosed (plain (item_kind sign)) ss else line_item sign r ss))
own_named true d sign line r ss = inl (in_enclosed d (plain (item_kind sign)) ss (item_role sign))
own_named false d sign line r ss = line_named d sign line r ss

mutual
  tree_named : (rs : List Row) (d : ℕ) (t : ListTree) → AreNamed (starts d t) (nodes_in d (list_stretches rs t))
  tree_named rs d (list_node false sign line ts) =
      (nodes_in (suc d) (all_lists rs ts), inl (in_enclosed d (plain (list_kind sign)) (all_lists rs ts) (list_role sign)), trees_named rs (suc d) ts)
  tree_named rs d (list_node true sign line ts) =
      (nodes_in (suc d) (all_lists rs ts), own_named (begins_at line ts) d sign line (row_at rs line) (all_lists rs ts), trees_named rs (suc d) ts)

  trees_named : (rs : List Row) (d : ℕ) (ts : ListTrees) → AreNamed (all_starts d ts) (nodes_in d (all_lists rs ts))
  trees_named rs d none = refl
  trees_named rs d (more t ts) =
      subst (AreNamed (starts d t ++ all_starts d ts)) (sym (in_both (list_nodes d) (list_stretches rs t) (all_lists rs ts)))
      (names_both (starts d t) (all_starts d ts) (nodes_in d (list_stretches rs t)) (nodes_in d (all_lists rs ts)) (tree_named rs d t) (trees_named rs d ts))

pub lists_named : (rs : List Row) → All IsPrefix (prefixes rs)
    → AreNamed (begun 0 [] (numbered 0 (prefixes rs))) (list_nodes_of_all 0 (forest (children (stretches_parts (lists rs)))))
unfolding lists
lists_named rs h =
    let ts = list_forest (nested (prefixes rs)) in
    subst (λ ss. AreNamed ss (list_nodes_of_all 0 (forest (children (stretches_parts (all_lists rs ts)))))) (nested_begun (prefixes rs) h)
    (subst (AreNamed (all_starts 0 ts)) (sym (children_nodes 0 (stretches_parts (all_lists rs ts)))) (trees_named rs 0 ts))
