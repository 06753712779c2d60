-- A node of a page's tree, reached outside of groups, that holds none and isn't tangled, where the lines of the expanded page tell it: it is chosen.
use Rattle.std.proofs.Common.{arith, ◌≡◌, ◌<◌, ℕ, true, false, None, List, [], ◌∷◌, ◌++◌, length, refl, sym, ap, ◌∙◌, subst}
use Rattle.std.proofs.lemmas.Grind.{flat_map-append}
use Rattle.std.specs.Str.{IsUtf8}
use Rattle.wt_span.specs.Items.{Item}
use Rattle.wt_span.specs.Origins.{OuterCall}
use Rattle.wt_span.specs.Runs.{AreRuns}
use Rattle.wt_span.proofs.RunLaws.{runs_are}
use Rattle.wt_tree.specs.Source.{flat}
use Rattle.wt_tree.specs.Tiling.{HasNoGroup}
use Rattle.wt_tree.specs.Tree.{Tree, label}
use Rattle.wt_annotated.specs.Seams.{last_of, first_of, text_from}
use Rattle.wt_annotated.specs.Walked.{clean_at}
use Rattle.wt_inline.specs.Inside.{opened, opened_all}
use Rattle.wt_inline.specs.ItemTree.{ItemTree, tree_items}
use Rattle.wt_checks.specs.Kept.{children, children as nodes_in}
use Rattle.wt_expand.specs.PageCalls.{expanded_page}
use Rattle.wt_expand.specs.Work.{Pages}
use Rattle.wt_commands.specs.Answers.{refusal_of_page}
use Rattle.wt_isolation.specs.OpenTags.{any_ends_open}
use Rattle.wt_lines.specs.Lines.{goes_on, full_lines}
use Rattle.wt_page.specs.Body.{meaning}
use Rattle.wt_page.proofs.HeldBody.{held_meaning}
use Rattle.wt_page_round_trip.proofs.HeldPages.{items_ones, tree_ones}
use Rattle.wt_page_round_trip.proofs.OpenedPages.{AreOnes, opened_text}
use Rattle.wt_tables.specs.Parts.{joined}
use Rattle.wt_part_laws.specs.Placeless.{placeless}
use Rattle.wt_part_laws.specs.Rounded.{HasItems}
use Rattle.wt_part_laws.specs.Standing.{standing}
use Rattle.wt_part_laws.proofs.OwnWalks.{OfPage}
use Rattle.wt_selser.specs.Edits.{is_tangled}
use Rattle.wt_text_edit_laws.specs.TextBlocks.{TextBlock, source_of, block_tree}
use Rattle.wt_text_edit_laws.specs.Unclosed.{holds_unclosed}
use Rattle.wt_text_edit_laws.proofs.Cuts.TextLines.{joined_is}
use Rattle.wt_beside_laws.proofs.Made.OldBlocks.{no_group}
use Rattle.wt_beside_laws.proofs.Derived.NodesHave.{full_nodes}
use Rattle.wt_beside_laws.proofs.Made.OwnPages.{content_ordinary}
use Rattle.wt_called_edit_laws.specs.AllTold.{starts_in}
use Rattle.wt_called_edit_laws.specs.Groups.{called_tree}
use Rattle.wt_called_edit_laws.specs.PlacedLines.{LinedBlock, all_lines, lead_of}
use Rattle.wt_called_edit_laws.specs.RowBlocks.{IsTextBlock, IsReachedIn, StandsIn, node_between}
use Rattle.wt_called_edit_laws.specs.ToldLines.{Told, lined}
use Rattle.wt_called_edit_laws.specs.ToldTogether.{start_of}
use Rattle.wt_called_edit_laws.proofs.Cells.PlacedLines.{own_items}
use Rattle.wt_called_edit_laws.proofs.TextsMake.{flat_same}
use Rattle.wt_called_edit_laws.proofs.Told.FreeNodes.{IsFullTree, tree_untangled, tree_shut, same_shut}
use Rattle.wt_called_edit_laws.proofs.Told.OwnReads.{OwnRead}
use Rattle.wt_called_edit_laws.proofs.AllTold.Alone.{IsAloneTold, IsAloneHere, alone_here, own_round, content_closed, IsAloneRead, alone_read}
use Rattle.wt_called_edit_laws.proofs.AllTold.Chosen.{IsFreeAlone, free_of, IsChosen}
use Rattle.wt_called_edit_laws.proofs.AllTold.ChosenLines.{byte_at, byte_of, ones_front, rest_is}
use Rattle.wt_called_edit_laws.proofs.AllTold.Found.{size, size_both}
use Rattle.wt_called_edit_laws.proofs.AllTold.LineKinds.{Lines}
use Rattle.wt_called_edit_laws.proofs.AllTold.NodePlaces.{first_byte, node_begins, between_begins}
use Rattle.wt_called_edit_laws.proofs.AllTold.Outside.{reached_outside}
use Rattle.wt_called_edit_laws.proofs.AllTold.OwnNodes.{full_tree, has_items, between_own}
use Rattle.wt_called_edit_laws.proofs.AllTold.OwnTrees.{OwnRound}
use Rattle.wt_called_edit_laws.proofs.AllTold.PlaceStarts.{standing_source, content_some}
use Rattle.wt_called_edit_laws.proofs.AllTold.Scans.{behind_joined}
use Rattle.wt_called_edit_laws.proofs.AllTold.Starts.{HasByte}

-- what is known of it
pub record IsNodeAt (pages : Pages) (page : List ℕ) (i : ℕ) (is : List ℕ) (t : Tree) : Type 0 where
  pub utf8 : IsUtf8 page
  pub unrefused : refusal_of_page pages page ≡ None
  pub unclosed : holds_unclosed (expanded_page pages page).items page (label t).ranges ≡ false
  pub there : IsReachedIn i is (children (called_tree pages page)) t
  pub block : IsTextBlock (label t).kind
  pub ungrouped : HasNoGroup t
  pub untangled : is_tangled (expanded_page pages page) page t ≡ false

-- ---- the items of the page and those of its tree

pub page_ones : (pages : Pages) (page : List ℕ) → IsUtf8 page → refusal_of_page pages page ≡ None → AreOnes (expanded_page pages page).items
page_ones pages page u r = items_ones pages page u r

pub page_joined : (pages : Pages) (page : List ℕ) (ls : Lines) → full_lines (expanded_page pages page).items ≡ ls → (expanded_page pages page).items ≡ joined ls
page_joined pages page ls e =
    let xs : List Item = (expanded_page pages page).items in
    joined_is goes_on ls xs (subst (λ (ks : Lines). AreRuns goes_on ks xs) e (runs_are goes_on xs))

item_or : Item → List Item → Item
item_or x [] = x
item_or x (y ∷ ys) = y

other_items : List Item → List Item
other_items [] = []
other_items (x ∷ xs) = xs

-- as long fronts of one list are the same
pub front_same : (xs ys us vs : List Item) → xs ++ ys ≡ us ++ vs → length xs ≡ length us → xs ≡ us
unfolding item_or other_items
front_same [] ys [] vs e n = refl
front_same [] ys (u ∷ us) vs e n = absurd (omega (arith, n))
front_same (x ∷ xs) ys [] vs e n = absurd (omega (arith, n))
front_same (x ∷ xs) ys (u ∷ us) vs e n =
    ap (λ (z : Item). z ∷ xs) (ap (item_or x) e) ∙ ap (λ (zs : List Item). u ∷ zs) (front_same xs ys us vs (ap other_items e) (omega (arith, n)))

-- what is on the page for the first items of its tree, and for as many of its items
pub same_text : (pages : Pages) (page : List ℕ) (xs ys zs others : List Item) → IsUtf8 page → refusal_of_page pages page ≡ None
    → tree_items (meaning (expanded_page pages page).items) ≡ zs ++ others → (expanded_page pages page).items ≡ xs ++ ys → size zs ≡ size xs
    → text_from (expanded_page pages page).outer None zs ≡ text_from (expanded_page pages page).outer None xs
same_text pages page xs ys zs others u r whole e n =
    let calls : List OuterCall = (expanded_page pages page).outer in
    let items : List Item = (expanded_page pages page).items in
    let mine : AreOnes zs = ones_front zs others (subst AreOnes whole (tree_ones pages page u r)) in
    let its : AreOnes xs = ones_front xs ys (subst AreOnes e (items_ones pages page u r)) in
    let all : opened_all zs ++ opened_all others ≡ opened_all xs ++ opened_all ys =
    sym (flat_map-append opened zs others) ∙ ap opened_all (sym whole) ∙ held_meaning items ∙ ap opened_all e ∙ flat_map-append opened xs ys in
    let same : opened_all zs ≡ opened_all xs = front_same (opened_all zs) (opened_all others) (opened_all xs) (opened_all ys) all n in
    sym (opened_text calls None zs mine) ∙ ap (text_from calls None) same ∙ opened_text calls None xs its

-- what is on the page before a node, where as many items are before it as these
pub text_before : (pages : Pages) (page : List ℕ) (t : Tree) (s : StandsIn pages page t) (xs ys : List Item) → IsUtf8 page → refusal_of_page pages page ≡ None
    → (expanded_page pages page).items ≡ xs ++ ys → size s.before ≡ size xs
    → text_from (expanded_page pages page).outer None s.before ≡ text_from (expanded_page pages page).outer None xs
text_before pages page t s xs ys u r e n = same_text pages page xs ys s.before (tree_items s.block ++ s.behind) u r s.whole e n

-- ---- the node

-- all in it is the page's own
pub own_tree : (pages : Pages) (page : List ℕ) (i : ℕ) (is : List ℕ) (t : Tree) → IsNodeAt pages page i is t → (s : StandsIn pages page t) → OfPage (tree_items s.block)
own_tree pages page i is t n s =
    (full_tree (expanded_page pages page).outer s.number s.before s.block s.behind s.clean (subst HasNoGroup s.is n.ungrouped)).of_page

-- by itself it is free
free_alone : (pages : Pages) (page : List ℕ) (i : ℕ) (is : List ℕ) (t : Tree) → IsNodeAt pages page i is t → (s : StandsIn pages page t) (k : TextBlock) (q : List ℕ)
    → s.block ≡ block_tree k q → OwnRead k q → IsFreeAlone k q × (placeless t ≡ placeless (standing 0 [] (block_tree k q)))
free_alone pages page i is t n s k q same r =
    let calls : List OuterCall = (expanded_page pages page).outer in
    let v : ItemTree = block_tree k q in
    let own : IsFullTree s.block = full_tree calls s.number s.before s.block s.behind s.clean (subst HasNoGroup s.is n.ungrouped) in
    let full : IsFullTree v = subst IsFullTree same own in
    let clean : clean_at (last_of None s.before) (first_of s.behind None) v ≡ true =
    subst (λ (u : ItemTree). clean_at (last_of None s.before) (first_of s.behind None) u ≡ true) same s.clean in
    let has : HasItems v = has_items v (content_ordinary k q r.utf8 r.is r.unended r.calm) full.holds full.full in
    let placed : placeless t ≡ placeless (standing 0 [] v) =
    ap placeless (s.is ∙ ap (λ (u : ItemTree). node_between calls s.number s.before u s.behind) same)
    ∙ between_own calls s.number s.before v s.behind clean full.of_page has in
    let shut : any_ends_open (nodes_in (standing 0 [] v)) ≡ false =
    same_shut (standing 0 [] v) t (sym placed) (tree_shut (expanded_page pages page) page t n.untangled) in (
      (full_nodes k q r.utf8 r.is r.unended r.calm full.full, tree_untangled (standing 0 [] v) (no_group k q 0 [] r.utf8 r.is r.unended r.calm) shut),
      placed,
    )

pub record IsKnownNode (pages : Pages) (page : List ℕ) (i : ℕ) (is : List ℕ) (t : Tree) (o : Told) : Type 0 where
  pub here : IsChosen pages page (joined (lined o).before) o
  pub byte : HasByte t
  pub begins : byte_at (expanded_page pages page).outer (expanded_page pages page).items (start_of 0 o) ≡ starts_in 0 i is (children (called_tree pages page))

pub known_node : (pages : Pages) (page : List ℕ) (i : ℕ) (is : List ℕ) (t : Tree) → IsNodeAt pages page i is t → (s : StandsIn pages page t) (o : Told) (rest : Lines)
    → IsAloneTold pages page o rest → (OwnRound (lined o) rest → s.block ≡ block_tree (lined o).block (lined o).text) → size s.before ≡ start_of 0 o
    → IsKnownNode pages page i is t o
known_node pages page i is t n s o rest h tree_so at =
    let calls : List OuterCall = (expanded_page pages page).outer in
    let items : List Item = (expanded_page pages page).items in
    let b : LinedBlock = lined o in
    let k : TextBlock = b.block in
    let q : List ℕ = b.text in
    let here : IsAloneHere pages page o rest = alone_here pages page o rest h in
    let a : IsAloneRead pages page o =
    alone_read pages page o rest h here (λ r e. free_of k q (free_alone pages page i is t n s k q (tree_so (own_round pages page o rest here r.is e)) r).0) in
    let known = free_alone pages page i is t n s k q (tree_so (own_round pages page o rest here a.is_content.is a.items)) a.read in
    let front : List Item = joined b.before ++ lead_of b in
    let parts = rest_is items [] o rest (page_joined pages page (all_lines (b ∷ []) rest) h.are) in
    let more : List Item = own_items b ++ joined rest in
    let whole : items ≡ front ++ more = parts.0 ∙ ap (λ (zs : List Item). (zs ++ lead_of b) ++ more) (behind_joined [] b.before) in
    let count : start_of 0 o ≡ size front = omega (arith, size_both (joined b.before) (lead_of b)) in
    let text_is : text_from calls None s.before ≡ text_from calls None front = text_before pages page t s front more n.utf8 n.unrefused whole (at ∙ count) in
    let first : length (text_from calls None front) ≡ starts_in 0 i is (children (called_tree pages page)) =
    ap length (sym text_is) ∙ sym (between_begins calls s.number s.before s.block s.behind) ∙ ap (λ (u : Tree). first_byte (label u).ranges) (sym s.is)
    ∙ node_begins pages page i is t n.utf8 n.unrefused n.there in
    let source : flat t ≡ source_of k q = sym (flat_same t) ∙ ap flat known.1 ∙ flat_same (standing 0 [] (block_tree k q)) ∙ standing_source k q 0 [] in
    let byte : HasByte t = subst (λ (bs : List ℕ). 0 < length bs) (sym source) (content_some k q a.is_content) in
    record {
      here = record {
        place = h.place;
        outside = reached_outside pages page i is t (length (text_from calls None front)) n.utf8 n.unrefused n.there n.ungrouped byte first;
        free = known.0;
        closed = content_closed k q a.is_content;
      };
      byte = byte;
      begins = ap (byte_at calls items) count ∙ byte_of calls front more items whole (items_ones pages page n.utf8 n.unrefused) ∙ first;
    }
