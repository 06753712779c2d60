-- Lists by the nodes of their nest, and rows of lists.
use Rattle.std.proofs.Common.{◌≡◌, ◌<◌, ◌≤◌, ℕ, zero, suc, ◌+◌, Bool, true, false, Some, None, List, [], ◌∷◌, ◌++◌, length, take, refl, sym, ap, ◌∙◌, subst, cond, arith, append_assoc, append-nil}
use Rattle.std.specs.Prelude.{All, min, slice_get, ◌==◌, ◌&&◌, if◌then◌else◌}
use Rattle.std.specs.List.{prefix_len, list_all}
use Rattle.std.proofs.lemmas.List.{length-take-le, map-append}
use Rattle.std.proofs.lemmas.List.Sums.{prefix_len-le-length}
use Rattle.std.proofs.lemmas.List.Elements.{All-cons, All-tail, All-head}
use Rattle.wt_span.specs.declared.form.Piece.{Piece}
use Rattle.wt_lines.specs.declared.kind.LineKind.{LineKind}
use Rattle.wt_lines.specs.declared.kind.LineKind.TheVariants as line
use Rattle.wt_blocks.specs.ListTree.{ListTree, node as list_node, ListTrees, more, forest as list_forest}
use Rattle.wt_blocks.specs.Nesting.{is_list_sign, IsPrefix}
use Rattle.wt_blocks.specs.declared.nest.ListNode.{ListNode, out-ListNode, fold_out-ListNode}
use Rattle.wt_blocks.specs.View.{view_step, list_tree, list_trees}
use Rattle.wt_inline.specs.ItemTree.{plain}
use Rattle.wt_rows.specs.declared.row.RowAt.{RowAt}
use Rattle.wt_rows.specs.declared.stretch.StretchAt.{StretchAt}
use Rattle.wt_page.specs.Rows.{Row, signs, unwritten_end}
use Rattle.wt_page.specs.Stretches.{Stretch, enclosed}
use Rattle.wt_page.specs.Lists.{item_kind, line_item, begins_at, row_at, list_stretches, all_lists, prefixes, prefix_of}
use Rattle.wt_rows.specs.Prefixes.{list_signs}
use Rattle.wt_build.specs.Nodes.{node_by}
use Rattle.wt_rows.specs.Ready.{Begins, AreInOrder}
use Rattle.wt_build.specs.Blocks.{AreListRows}
use Rattle.wt_rows.specs.Views.{row_view, rows_view, stretch_view, stretches_view}

-- ---- nodes

own_by : (rs : List Row) (own : Bool) (sign line : ℕ) (ss : List Stretch)
    → (if own then enclosed (plain (item_kind sign)) ss else line_item sign (row_at rs line) ss) ≡ node_by rs true sign line own ss
own_by rs true sign line ss = refl
own_by rs false sign line ss = refl

stretches_by : (rs : List Row) (item : Bool) (sign line : ℕ) (ts : ListTrees)
    → list_stretches rs (list_node item sign line ts) ≡ node_by rs item sign line (begins_at line ts) (all_lists rs ts)
stretches_by rs false sign line ts = refl
stretches_by rs true sign line ts = own_by rs (begins_at line ts) sign line (all_lists rs ts)

pub node_is : (rs : List Row) (n : ListNode)
    → list_stretches rs (list_tree n)
    ≡ node_by rs (out-ListNode n).item (out-ListNode n).sign (out-ListNode n).line
    (begins_at (out-ListNode n).line (list_forest (list_trees (out-ListNode n).children)))
    (all_lists rs (list_forest (list_trees (out-ListNode n).children)))
node_is rs n =
    let f = out-ListNode n in
    ap (list_stretches rs) (fold_out-ListNode ListTree view_step n) ∙ stretches_by rs f.item f.sign f.line (list_forest (list_trees f.children))

pub first_at : (line : ℕ) (n : ListNode) (ns : List ListNode) → begins_at line (list_forest (list_trees (n ∷ ns))) ≡ ((out-ListNode n).line == line)
first_at line n ns = ap (λ t. begins_at line (more t (list_forest (list_trees ns)))) (fold_out-ListNode ListTree view_step n)

pub node_added : (ps : List Piece) (rs : List Row) (out made all : List StretchAt) (n : ListNode) (before rest : List ListNode) (whole : List Stretch)
    → before ≡ n ∷ rest → stretches_view ps made ≡ list_stretches rs (list_tree n) → all ≡ out ++ made
    → stretches_view ps out ++ all_lists rs (list_forest (list_trees before)) ≡ whole
    → stretches_view ps all ++ all_lists rs (list_forest (list_trees rest)) ≡ whole
node_added ps rs out made all n before rest whole e is a h =
    let more_lists = all_lists rs (list_forest (list_trees rest)) in
    ap (λ ss. stretches_view ps ss ++ more_lists) a
    ∙ ap (λ ss. ss ++ more_lists) (map-append (stretch_view ps) out made)
    ∙ append_assoc (stretches_view ps out) (stretches_view ps made) more_lists
    ∙ ap (λ ss. stretches_view ps out ++ (ss ++ more_lists)) is
    ∙ ap (λ ns. stretches_view ps out ++ all_lists rs (list_forest (list_trees ns))) (sym e) ∙ h

-- ---- the row of a number

pub row_there : (ps : List Piece) (rs : List RowAt) (n : ℕ) (r : RowAt) → slice_get rs n ≡ Some r → row_view ps r ≡ row_at (rows_view ps rs) n
row_there ps [] n r e = absurd cc
row_there ps (s ∷ rs) zero r e = let is : s ≡ r = cc in ap (row_view ps) (sym is)
row_there ps (s ∷ rs) (suc n) r e = row_there ps rs n r e

pub row_past : (ps : List Piece) (rs : List RowAt) (n : ℕ) → slice_get rs n ≡ None → unwritten_end ≡ row_at (rows_view ps rs) n
row_past ps [] n e = refl
row_past ps (s ∷ rs) zero e = absurd cc
row_past ps (s ∷ rs) (suc n) e = row_past ps rs n e

-- ---- prefixes

signs_by : (t : Bool) (n k : ℕ) (s : ℕ) (ss : List ℕ) → is_list_sign s ≡ t → suc n ≤ cond t (1 + k) 0 → (n ≤ k → list_all is_list_sign (take n ss) ≡ true)
    → (is_list_sign s && list_all is_list_sign (take n ss)) ≡ true
signs_by true n k s ss e h rest = rw e (rest (omega arith))
signs_by false n k s ss e h rest = absurd (omega arith)

signs_all : (n : ℕ) (ss : List ℕ) → n ≤ prefix_len is_list_sign ss → list_all is_list_sign (take n ss) ≡ true
signs_all zero ss h = refl
signs_all (suc n) [] h = refl
signs_all (suc n) (s ∷ ss) h = signs_by (is_list_sign s) n (prefix_len is_list_sign ss) s ss refl h (λ l. signs_all n ss l)

prefix_is : (ss : List ℕ) → 0 < prefix_len is_list_sign ss → IsPrefix (list_signs 32 ss)
prefix_is ss some =
    let few : prefix_len is_list_sign ss ≤ length ss = prefix_len-le-length is_list_sign ss in
    let len : length (list_signs 32 ss) ≡ min 32 (prefix_len is_list_sign ss) = length-take-le (min 32 (prefix_len is_list_sign ss)) ss (omega arith) in
    (omega arith, omega arith, signs_all (min 32 (prefix_len is_list_sign ss)) ss (omega arith))

listed : (ps : List Piece) (k : LineKind) (ss : List ℕ) → k ≡ line.List → Begins k ss → 0 < prefix_len is_list_sign ss
listed ps k ss e h = subst (λ (j : LineKind). Begins j ss) e h

pub prefixes_are : (ps : List Piece) (rs : List RowAt) → AreInOrder ps rs → AreListRows rs → All IsPrefix (prefixes (rows_view ps rs))
prefixes_are ps [] o l = λ i d h. absurd (omega arith)
prefixes_are ps (r ∷ rs) o l =
    All-cons IsPrefix (prefix_of (row_view ps r).items) (prefixes (rows_view ps rs))
    (prefix_is (signs (row_view ps r).items) (listed ps r.kind (signs (row_view ps r).items) (All-head (λ (s : RowAt). s.kind ≡ line.List) r rs l) o.0.begins))
    (prefixes_are ps rs o.2 (All-tail (λ (s : RowAt). s.kind ≡ line.List) r rs l))

pub nodes_done : (ps : List Piece) (rs : List Row) (out l : List StretchAt) (rest given nodes : List ListNode)
    → stretches_view ps out ++ all_lists rs (list_forest (list_trees rest)) ≡ all_lists rs (list_forest (list_trees given))
    → length rest ≡ 0 → given ≡ nodes → l ≡ out → stretches_view ps l ≡ all_lists rs (list_forest (list_trees nodes))
nodes_done ps rs out l [] given nodes h len e el =
    ap (stretches_view ps) el ∙ sym (append-nil (stretches_view ps out)) ∙ h ∙ ap (λ ns. all_lists rs (list_forest (list_trees ns))) e
nodes_done ps rs out l (n ∷ rest) given nodes h len e el = absurd (omega arith)

pub list_is : (ps : List Piece) (rs : List Row) (n : ListNode) (own : Bool) (inner : List ListNode) (inside l : List StretchAt)
    → inner ≡ (out-ListNode n).children → own ≡ begins_at (out-ListNode n).line (list_forest (list_trees inner))
    → stretches_view ps inside ≡ all_lists rs (list_forest (list_trees (out-ListNode n).children))
    → stretches_view ps l ≡ node_by rs (out-ListNode n).item (out-ListNode n).sign (out-ListNode n).line own (stretches_view ps inside)
    → stretches_view ps l ≡ list_stretches rs (list_tree n)
list_is ps rs n own inner inside l ei eo es is =
    let f = out-ListNode n in
    is
    ∙ ap (λ b. node_by rs f.item f.sign f.line b (stretches_view ps inside)) (eo ∙ ap (λ ns. begins_at f.line (list_forest (list_trees ns))) ei)
    ∙ ap (λ ss. node_by rs f.item f.sign f.line (begins_at f.line (list_forest (list_trees f.children))) ss) es
    ∙ sym (node_is rs n)

pub prefix_count : (ps : List Piece) (rs : List RowAt) → length (prefixes (rows_view ps rs)) ≡ length rs
prefix_count ps [] = refl
prefix_count ps (r ∷ rs) = ap (λ n. suc n) (prefix_count ps rs)
