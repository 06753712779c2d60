-- Each paragraph and heading of a page's tree that is in no group has a byte: one of its items is the page's own.
use Rattle.std.proofs.Common.{arith, ◌≡◌, inl, inr, ℕ, zero, suc, ◌+◌, ◌-◌, ◌≤◌, ◌&&◌, ◌||◌, Bool, true, false, Option, Some, None, List, [], ◌∷◌, ◌++◌, length, refl, sym, ap, ◌∙◌, subst, length-append}
use Rattle.std.specs.Prelude.{if◌then◌else◌}
use Rattle.std.specs.List.{list_any}
use Rattle.std.specs.Str.{IsUtf8}
use Rattle.wt_tree.specs.declared.kind.Kind.{Kind}
use Rattle.wt_tree.specs.declared.kind.Ranges.{Ranges}
use Rattle.wt_tree.specs.Source.{flat}
use Rattle.wt_tree.specs.Tiling.{is_group}
use Rattle.wt_tree.specs.Tree.{Tree, tree, Trees, none, more, label}
use Rattle.wt_inline.specs.ItemTree.{ItemTree, inner, tree_items}
use Rattle.wt_span.specs.Items.{Item, char, whole, source, call_of}
use Rattle.wt_span.specs.Origins.{OuterCall}
use Rattle.wt_checks.specs.Kept.{children}
use Rattle.wt_page.proofs.FormLengths.{whole_some}
use Rattle.wt_expand.specs.PageCalls.{expanded_page}
use Rattle.wt_expand.specs.Work.{Pages}
use Rattle.wt_expand.proofs.PiecePlaces.{text_behind, behind_page}
use Rattle.wt_commands.specs.Answers.{refusal_of_page}
use Rattle.wt_annotated.specs.Clean.{is_page, is_no_call, is_body}
use Rattle.wt_annotated.specs.Numbering.{next_after, count}
use Rattle.wt_annotated.specs.Seams.{last_of, first_of, text_from}
use Rattle.wt_annotated.specs.Walked.{clean_at}
use Rattle.wt_page_round_trip.proofs.HeldPages.{tree_ones}
use Rattle.wt_page_round_trip.proofs.OpenedPages.{IsOne, AreOnes}
use Rattle.wt_part_laws.specs.Placeless.{all_placeless}
use Rattle.wt_called_edit_laws.specs.Groups.{called_tree}
use Rattle.wt_called_edit_laws.specs.RowBlocks.{IsTextBlock, IsReachedAt, IsReachedIn, node_between, StandsIn, StandsOnRows}
use Rattle.wt_called_edit_laws.specs.Settled.{settled, all_settled}
use Rattle.wt_called_edit_laws.proofs.AllTold.ChosenLines.{ones_front, ones_behind}
use Rattle.wt_called_edit_laws.proofs.AllTold.NodePlaces.{first_byte, settled_size, if_false, page_nodes_settled, between_begins}
use Rattle.wt_called_edit_laws.proofs.AllTold.RowBlocks.{body_none, below, block_on_rows}

-- ---- where a node ends

abbrev pub end_byte : Option Ranges → ℕ
end_byte None = 0
end_byte (Some r) = r.end

mutual
  settled_end : (n at : ℕ) (is : List ℕ) (v u : Tree) → IsReachedAt is (settled n at v) u
      → end_byte (label u).ranges ≡ first_byte (label u).ranges + length (flat u)
  settled_end n at [] (tree l ts) u e =
      let size : length (flat u) ≡ length (flat (tree l ts)) = ap (λ (x : Tree). length (flat x)) (sym e) ∙ settled_size n at (tree l ts) in
      let begin : first_byte (label u).ranges ≡ at = ap (λ (x : Tree). first_byte (label x).ranges) (sym e) in
      let end : end_byte (label u).ranges ≡ at + length (flat (tree l ts)) = ap (λ (x : Tree). end_byte (label x).ranges) (sym e) in
      omega (arith, size, begin, end)
  settled_end n at (i ∷ is) (tree l ts) u e =
      let us : Trees = all_settled (next_after l.kind n) (at + length l.opening) ts in
      let own : Trees = if is_group l.kind then ts else us in
      let same : own ≡ us = if_false (is_group l.kind) ts us e.0 in
      end_among (next_after l.kind n) (at + length l.opening) i is ts u (subst (λ (ws : Trees). IsReachedIn i is ws u) same e.1)

  end_among : (n at i : ℕ) (is : List ℕ) (vs : Trees) (u : Tree) → IsReachedIn i is (all_settled n at vs) u
      → end_byte (label u).ranges ≡ first_byte (label u).ranges + length (flat u)
  end_among n at i is none u e = absurd e
  end_among n at zero is (more t ts) u e = settled_end n at is t u e
  end_among n at (suc i) is (more t ts) u e = end_among (n + count t) (at + length (flat t)) i is ts u e

pub node_ends : (pages : Pages) (page : List ℕ) (i : ℕ) (is : List ℕ) (u : Tree) → IsUtf8 page → refusal_of_page pages page ≡ None
    → IsReachedIn i is (children (called_tree pages page)) u → end_byte (label u).ranges ≡ first_byte (label u).ranges + length (flat u)
node_ends pages page i is u utf8 unrefused e =
    let t : Tree = called_tree pages page in
    let m : ℕ = next_after (label t).kind 1 in
    let vs : Trees = all_placeless (children t) in
    end_among m 0 i is vs u (subst (λ (ws : Trees). IsReachedIn i is ws u) (page_nodes_settled pages page utf8 unrefused) e)

between_ends : (calls : List OuterCall) (n : ℕ) (before : List Item) (u : ItemTree) (behind : List Item)
    → end_byte (label (node_between calls n before u behind)).ranges
    ≡ length (text_from calls None before) + length (text_from calls (last_of None before) (tree_items u))
between_ends calls n before (inner h o ts c) behind = refl

-- ---- an item of the page's own is in it

last_so : (a b c d : Bool) → (a && (b && (c || d))) ≡ true → c ≡ false → d ≡ true
last_so true true false d e f = e
last_so true true true d e f = absurd (cc)
last_so true false c d e f = absurd (cc)
last_so false b c d e f = absurd (cc)

has_own : (calls : List OuterCall) (n : ℕ) (o p : Option ℕ) (before : List Item) (u : ItemTree) (behind : List Item) → clean_at o p u ≡ true
    → is_body (label (node_between calls n before u behind)).kind ≡ false → list_any is_page (tree_items u) ≡ true
has_own calls n o p before (inner h opening ts closing) behind e k = last_so _ _ (is_body h.kind) (list_any is_page (tree_items (inner h opening ts closing))) e k

one_some : (x : Item) → IsOne x → 1 ≤ length (source x)
one_some (char o b) h = omega arith
one_some (whole f o bs) h = whole_some f bs h

of_page : (o : Option ℕ) → is_no_call o ≡ true → o ≡ None
of_page None e = refl
of_page (Some k) e = absurd (cc)

pub own_some : (calls : List OuterCall) (o : Option ℕ) (xs : List Item) → AreOnes xs → list_any is_page xs ≡ true → 1 ≤ length (text_from calls o xs)
own_some calls o [] h e = absurd (cc)
own_some calls o (x ∷ xs) h e = by (is_page x) refl (λ rest. own_some calls (call_of x) xs h.1 rest)
  where
    both : length (text_behind calls o x ++ text_from calls (call_of x) xs) ≡ length (text_behind calls o x) + length (text_from calls (call_of x) xs)
    both = length-append (text_behind calls o x) (text_from calls (call_of x) xs)

    by : (v : Bool) → is_page x ≡ v → (list_any is_page xs ≡ true → 1 ≤ length (text_from calls (call_of x) xs))
        → 1 ≤ length (text_behind calls o x ++ text_from calls (call_of x) xs)
    by true w f = omega (arith, both, ap length (behind_page calls o x (of_page (call_of x) w)), one_some x h.0)
    by false w f = omega (arith, both, f (sym (ap (λ (v : Bool). v || list_any is_page xs) w) ∙ e))

text_no_body : (k : Kind) → IsTextBlock k → is_body k ≡ false
text_no_body k (inl e) = ap is_body e
text_no_body k (inr (n, e)) = ap is_body e

-- ---- in a page

pub block_byte : (pages : Pages) (page p : List ℕ) (t : Tree) → IsUtf8 page → refusal_of_page pages page ≡ None → IsReachedAt p (called_tree pages page) t
    → IsTextBlock (label t).kind → 1 ≤ length (flat t)
block_byte pages page [] t u r e b = absurd (body_none pages page t u r e b)
block_byte pages page (i ∷ is) t u r e b =
    let on : StandsOnRows pages page t = block_on_rows pages page (i ∷ is) t u r e b in
    let s : StandsIn pages page t = on.stands in
    let calls : List OuterCall = (expanded_page pages page).outer in
    let ends = node_ends pages page i is t u r (below i is (called_tree pages page) t e) in
    let begin : first_byte (label t).ranges ≡ length (text_from calls None s.before) =
    ap (λ (x : Tree). first_byte (label x).ranges) s.is ∙ between_begins calls s.number s.before s.block s.behind in
    let end : end_byte (label t).ranges ≡ length (text_from calls None s.before) + length (text_from calls (last_of None s.before) (tree_items s.block)) =
    ap (λ (x : Tree). end_byte (label x).ranges) s.is ∙ between_ends calls s.number s.before s.block s.behind in
    let all : AreOnes (s.before ++ (tree_items s.block ++ s.behind)) = subst AreOnes s.whole (tree_ones pages page u r) in
    let ones : AreOnes (tree_items s.block) = ones_front (tree_items s.block) s.behind (ones_behind s.before (tree_items s.block ++ s.behind) all) in
    let kind_is : is_body (label (node_between calls s.number s.before s.block s.behind)).kind ≡ false =
    subst (λ (x : Tree). is_body (label x).kind ≡ false) s.is (text_no_body (label t).kind b) in
    let own = has_own calls s.number (last_of None s.before) (first_of s.behind None) s.before s.block s.behind s.clean kind_is in
    let some = own_some calls (last_of None s.before) (tree_items s.block) ones own in
    omega (arith, ends, begin, end, some)
