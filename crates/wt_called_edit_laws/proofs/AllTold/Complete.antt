-- Each paragraph and heading of a page's tree, outside of groups, that holds no group and isn't tangled is one of those that the lines of the expanded page
-- tell, or one of the excepted.
use Rattle.std.proofs.Common.{arith, ◌≡◌, ◌≤◌, ◌⊎◌, inl, inr, ℕ, zero, suc, ◌+◌, Bool, true, false, None, List, [], ◌∷◌, ◌++◌, length, map, refl, sym, ap, ◌∙◌, subst, append-nil}
use Rattle.std.specs.Prelude.{◌&&◌, ◌||◌}
use Rattle.std.specs.Str.{IsUtf8}
use Rattle.std.specs.List.{list_all}
use Rattle.wt_span.specs.Items.{Item, char, whole, is_mark, sign, sources}
use Rattle.wt_span.specs.Origins.{Expanded}
use Rattle.wt_span.specs.Runs.{AreRuns}
use Rattle.wt_span.proofs.RunLaws.{runs_are}
use Rattle.wt_inline.specs.ItemTree.{ItemTree}
use Rattle.wt_tree.specs.Tiling.{HasNoGroup}
use Rattle.wt_tree.specs.Tree.{Tree, tree, Trees, none, more, label}
use Rattle.wt_checks.specs.Kept.{children}
use Rattle.wt_expand.specs.PageCalls.{expanded_page}
use Rattle.wt_expand.specs.Work.{Pages}
use Rattle.wt_commands.specs.Answers.{refusal_of_page}
use Rattle.wt_expand.proofs.PiecePlaces.{AllFrom}
use Rattle.wt_lines.specs.declared.kind.LineKind.TheVariants as line
use Rattle.wt_lines.specs.Kinds.{kind_of_signs}
use Rattle.wt_lines.specs.Lines.{content, goes_on, full_lines}
use Rattle.wt_tables.specs.Parts.{joined}
use Rattle.wt_page.specs.Headings.{heading}
use Rattle.wt_page.specs.Lines.{kind_at, ending}
use Rattle.wt_page.proofs.Ends.{content_ending}
use Rattle.wt_page.specs.Rows.{rows_from, marks_len, is_unseen}
use Rattle.wt_page.specs.Texts.{para}
use Rattle.wt_page_round_trip.proofs.OpenedPages.{AreOnes}
use Rattle.wt_part_laws.specs.Frames.{content as content_part}
use Rattle.wt_part_laws.specs.Slots.{AllTrue}
use Rattle.wt_isolation.specs.OpenTags.{before, touches_open_tag}
use Rattle.wt_isolation.specs.TextCalls.{touches_text_call}
use Rattle.wt_selser.specs.Edits.{is_tangled}
use Rattle.wt_selser.specs.GroupFaults.{has_faulty_group}
use Rattle.wt_text_edit_laws.specs.BlockSpots.{BlockSpot, spots_source}
use Rattle.wt_called_edit_laws.specs.AllTold.{starts_in, text_on_a_rule, a_brace_on_an_end, by_its_lines, beside_a_call, IsExcepted, IsOneOf, AllBlocksTold, IsBesideNoCall, AreNoFunctions, IsBesideTexts, holds_a_function}
use Rattle.wt_text_edit_laws.proofs.Cuts.RowLines.{AllText}
use Rattle.wt_text_edit_laws.proofs.Paragraphs.Marks.{mark_sign, AreMarkSigns, kind_marks}
use Rattle.wt_text_edit_laws.specs.NoCalls.{CallsNothing}
use Rattle.wt_text_edit_laws.specs.PageCuts.{EndClosed}
use Rattle.wt_text_edit_laws.specs.ParagraphBetween.{written_rows, tables_behind, EndApart, BeginApart}
use Rattle.wt_text_edit_laws.specs.ReadContents.{BeginsUnclosed}
use Rattle.wt_text_edit_laws.specs.TextBlocks.{a_paragraph, source_of, block_tree}
use Rattle.wt_text_edit_laws.specs.Unclosed.{holds_unclosed}
use Rattle.wt_beside_laws.proofs.Derived.BlockContents.{BlockSeen, block_seen}
use Rattle.wt_called_edit_laws.specs.AnyBlocks.{open_after}
use Rattle.wt_called_edit_laws.specs.CalledBlocks.{tree_by}
use Rattle.wt_called_edit_laws.specs.CalledPages.{IsCalledPage}
use Rattle.wt_called_edit_laws.specs.CalledTexts.{spots_tree}
use Rattle.wt_called_edit_laws.specs.ContentsTaken.{TakesContents}
use Rattle.wt_called_edit_laws.specs.EditsAt.{AllStand}
use Rattle.wt_called_edit_laws.specs.Groups.{called_tree}
use Rattle.wt_called_edit_laws.specs.LinedAmong.{spots_of_lines, end_of_lines, AreOfPage, IsLinedAmong}
use Rattle.wt_called_edit_laws.specs.LinedHeadings.{IsLinedHeading}
use Rattle.wt_called_edit_laws.specs.Nodes.{block_at}
use Rattle.wt_called_edit_laws.specs.PlacedBlocks.{AreLinesAt}
use Rattle.wt_called_edit_laws.specs.PlacedLines.{LinedBlock, all_lines, lead_of}
use Rattle.wt_called_edit_laws.specs.RowBlocks.{IsTextBlock, IsReachedAt, IsReachedIn, StandsIn, begins_at, text_row, end_sign, past_end, begins_past, AreOfText, IsOfLines, of_lines, of_line, behind_an_end, behind_a_rule, StandsOnRows, StandsOnLines}
use Rattle.wt_called_edit_laws.specs.ToldAmong.{IsToldAmong}
use Rattle.wt_called_edit_laws.specs.ToldLines.{Told, lined, AreTold}
use Rattle.wt_called_edit_laws.specs.ToldTogether.{start_of, told_starts, IsAmongNumbers, AreSome}
use Rattle.wt_called_edit_laws.proofs.Among.LinedParts.{lined_whole, lined_editable, own_breaks}
use Rattle.wt_called_edit_laws.proofs.Among.OwnItems.{from_page}
use Rattle.wt_called_edit_laws.proofs.Among.ToldAmong.{told_among}
use Rattle.wt_called_edit_laws.proofs.BlocksOutside.{editable_called}
use Rattle.wt_called_edit_laws.proofs.CallsTake.{contents_by, contents_paths}
use Rattle.wt_called_edit_laws.proofs.Cells.PlacedLines.{own_items, Round, round, lines_joined}
use Rattle.wt_called_edit_laws.proofs.Cells.SignLeads.{own_block}
use Rattle.wt_called_edit_laws.proofs.EditFacts.{IsFramedPage, framed_page, paths_of, spots_stand, spots_contents}
use Rattle.wt_called_edit_laws.proofs.GroupsAmong.{retyped_self}
use Rattle.wt_called_edit_laws.proofs.PathsSend.{NoneEmpty, paths_full}
use Rattle.wt_called_edit_laws.proofs.AllTold.Alone.{IsAloneTold}
use Rattle.wt_called_edit_laws.proofs.AllTold.Chosen.{IsOwnBehind, beside_call_decided, functions_decided, own_both, own_of, own_behind}
use Rattle.wt_called_edit_laws.proofs.AllTold.ChosenLines.{byte_at, among_mapped, starts_so, ones_front, ones_behind}
use Rattle.wt_called_edit_laws.proofs.AllTold.ClosedBlocks.{own_closed, own_reaches}
use Rattle.wt_called_edit_laws.proofs.AllTold.ClosedLines.{NoneBlank, unclosed_by, AllPast, heading_size, para_size}
use Rattle.wt_called_edit_laws.proofs.Told.HeadItems.{told_source, equals_seen, begins_content}
use Rattle.wt_called_edit_laws.proofs.AllTold.EachBlocks.{EachBlockIn}
use Rattle.wt_called_edit_laws.proofs.AllTold.EndSigns.{sign_whole, page_signs}
use Rattle.wt_called_edit_laws.proofs.AllTold.Found.{size, tree_size, size_both}
use Rattle.wt_called_edit_laws.proofs.AllTold.HeadSigns.{head_begins}
use Rattle.wt_called_edit_laws.proofs.AllTold.LineBlocks.{block_on_lines}
use Rattle.wt_called_edit_laws.proofs.AllTold.LineKinds.{Lines, led_by, past_marks, led_whole, led_marks, kind_led}
use Rattle.wt_called_edit_laws.proofs.AllTold.NoPairs.{calls_nothing}
use Rattle.wt_called_edit_laws.proofs.AllTold.OneNode.{IsNodeAt, own_tree, IsKnownNode, known_node, page_ones, page_joined}
use Rattle.wt_called_edit_laws.proofs.AllTold.NodeTexts.{node_texts, some_content, content_bytes}
use Rattle.wt_called_edit_laws.proofs.AllTold.OwnLines.{AreSeen, text_own_lines, heading_own_lines}
use Rattle.wt_called_edit_laws.proofs.AllTold.OwnTrees.{OwnRound, paragraph_is, heading_is}
use Rattle.wt_called_edit_laws.proofs.AllTold.PlaceStarts.{starts_from, spot_starts, paths_start, AllClear, clear_paths, AllHaveBytes, contents_some, LeadsThere, leads, leads_there}
use Rattle.wt_called_edit_laws.proofs.AllTold.RowBlocks.{housed, page_stands, body_none, below}
use Rattle.wt_called_edit_laws.proofs.AllTold.Scans.{Decided, tables_at, text_told, sign_told, heading_told}
use Rattle.wt_called_edit_laws.proofs.AllTold.SignBlocks.{unclosed_decided, IsEndBlock, end_text, IsEndTold, end_told, end_begins}
use Rattle.wt_called_edit_laws.proofs.AllTold.SignTrees.{end_paragraph_is}
use Rattle.wt_called_edit_laws.proofs.AllTold.Starts.{HasByte, BlockAt, BlockIn, same_paths}
use Rattle.wt_called_edit_laws.proofs.AllTold.TextFacts.{tables_same, text_all, text_lines_at, past_unled, first_unled, seen_shown}
use Rattle.wt_called_edit_laws.proofs.AllTold.Together.{AreAllChosen, chosen_together, told_by_all}
use Rattle.wt_called_edit_laws.proofs.AllTold.ToldStarts.{are_own, blank_is}

-- ---- a node that begins where one that is told begins

mutual
  block_there : (is : List ℕ) (t u : Tree) → IsReachedAt is t u → IsTextBlock (label u).kind → HasByte u → BlockAt is t
  block_there [] (tree l ts) u e b h =
      (housed l.kind (subst (λ (v : Tree). IsTextBlock (label v).kind) (sym e) b), subst HasByte (sym e) h)
  block_there (i ∷ is) (tree l ts) u e b h = (e.0, block_in i is ts u e.1 b h)

  pub block_in : (i : ℕ) (is : List ℕ) (ts : Trees) (u : Tree) → IsReachedIn i is ts u → IsTextBlock (label u).kind → HasByte u → BlockIn i is ts
  block_in i is none u e b h = e
  block_in zero is (more t ts) u e b h = block_there is t u e b h
  block_in (suc i) is (more t ts) u e b h = block_in i is ts u e b h

leads_in : (ss : List BlockSpot) (ps : List (List ℕ)) (t : Tree) (at : ℕ) → AllStand ss ps t → NoneEmpty ps → AllClear ps (children t) → AllHaveBytes ss
    → IsAmongNumbers at (starts_from 0 (children t) ps) → LeadsThere at (children t) ps
leads_in ss ps (tree l ts) at s e c w h = leads_there ss ps l ts at s e c w h

some_told : (n : ℕ) (ts : List Told) → IsAmongNumbers n (told_starts 0 ts) → AreSome ts
some_told n [] h = h
some_told n (t ∷ ts) h = tt

same_of : (ps : List (List ℕ)) (i : ℕ) (is : List ℕ) (us : Trees) (Q : Tree → Type 0) (at : ℕ) → EachBlockIn Q us → BlockIn i is us → starts_in 0 i is us ≡ at
    → LeadsThere at us ps → IsOneOf (i ∷ is) ps
same_of ps i is us Q at each b z (leads j js o c e) =
    subst (λ (p : List ℕ). IsOneOf p ps) (sym (same_paths Q 0 i is j js us each b c (z ∙ sym e))) o

-- the page is one that may be edited
called_so : (pages : Pages) (page : List ℕ) (ts : List Told) (behind : Lines) → IsToldAmong pages page ts behind
    → IsCalledPage pages (spots_of_lines pages page (map lined ts)) (end_of_lines pages page (map lined ts) behind)
called_so pages page ts behind h =
    let ls : List LinedBlock = map lined ts in
    editable_called pages (spots_of_lines pages page ls) (end_of_lines pages page ls behind) (lined_editable pages page ls behind (told_among pages page ts behind h))

-- the paths at which they may be edited
abbrev taken_at : (pages : Pages) (page : List ℕ) (ts : List Told) (behind : Lines) → IsToldAmong pages page ts behind
    → TakesContents pages (spots_of_lines pages page (map lined ts)) (end_of_lines pages page (map lined ts) behind)
taken_at pages page ts behind h =
    contents_by pages (spots_of_lines pages page (map lined ts)) (end_of_lines pages page (map lined ts) behind)
    (framed_page pages (spots_of_lines pages page (map lined ts)) (end_of_lines pages page (map lined ts) behind) (called_so pages page ts behind h))
    (called_so pages page ts behind h)

at_told : (pages : Pages) (page : List ℕ) (a : AreAllChosen pages page) (h : IsToldAmong pages page a.ts a.behind) (i : ℕ) (is : List ℕ) (t : Tree)
    → IsUtf8 page → IsReachedIn i is (children (called_tree pages page)) t → IsTextBlock (label t).kind → HasByte t
    → IsAmongNumbers (starts_in 0 i is (children (called_tree pages page)))
    (map (byte_at (expanded_page pages page).outer (expanded_page pages page).items) (told_starts 0 a.ts))
    → IsOneOf (i ∷ is) (taken_at pages page a.ts a.behind h).paths
at_told pages page a h i is t utf8 e b w among =
    let ls : List LinedBlock = map lined a.ts in
    let ss : List BlockSpot = spots_of_lines pages page ls in
    let end : List ℕ = end_of_lines pages page ls a.behind in
    let lp : IsLinedAmong pages page ls a.behind = told_among pages page a.ts a.behind h in
    let calls : IsCalledPage pages ss end = called_so pages page a.ts a.behind h in
    let f : IsFramedPage pages ss end = framed_page pages ss end calls in
    let same : spots_source ss end ≡ page = lined_whole pages page ls a.behind lp in
    let u : Tree = called_tree pages page in
    let tree_is : u ≡ spots_tree pages ss end = ap (called_tree pages) (sym same) in
    let v : Tree = spots_tree pages ss end in
    let at : ℕ = starts_in 0 i is (children u) in
    let begins : map (byte_at (expanded_page pages page).outer (expanded_page pages page).items) (told_starts 0 a.ts) ≡ spot_starts 0 ss =
    starts_so pages page (expanded_page pages page).items a.ts a.behind a.meet (are_own ls a.behind lp.lined) (page_joined pages page (all_lines ls a.behind) a.are)
    (page_ones pages page utf8 h.unrefused) in
    let starts : starts_from 0 (children v) (paths_of f) ≡ spot_starts 0 ss = paths_start pages ss end f calls in
    let there : LeadsThere at (children v) (paths_of f) =
    leads_in ss (paths_of f) v at (spots_stand pages ss end f calls) (paths_full f.nodes)
    (clear_paths f.nodes content_part (block_at (tree_by ss)) (children v) f.holders (f.stay ss (retyped_self ss)))
    (contents_some ss (spots_contents pages ss end calls)) (subst (IsAmongNumbers at) (begins ∙ sym starts) among) in
    let each : EachBlockIn (StandsOnRows pages page) (children u) = page_stands pages page utf8 h.unrefused in
    subst (IsOneOf (i ∷ is)) (sym (contents_paths pages ss end f calls))
    (same_of (paths_of f) i is (children v) (StandsOnRows pages page) at (subst (λ (x : Tree). EachBlockIn (StandsOnRows pages page) (children x)) tree_is each)
    (subst (λ (x : Tree). BlockIn i is (children x)) tree_is (block_in i is (children u) t e b w))
    (ap (λ (x : Tree). starts_in 0 i is (children x)) (sym tree_is)) there)

-- ---- a node that is told alone

abbrev Told_at : (pages : Pages) (page : List ℕ) (i : ℕ) (is : List ℕ) → AreAllChosen pages page → IsUtf8 page → refusal_of_page pages page ≡ None → Type 0
Told_at pages page i is a u r =
    (s : AreSome a.ts) × IsOneOf (i ∷ is) (taken_at pages page a.ts a.behind (told_by_all pages page u r a s)).paths

alone_told : (pages : Pages) (page : List ℕ) (i : ℕ) (is : List ℕ) (t : Tree) (n : IsNodeAt pages page i is t) (a : AreAllChosen pages page) (s : StandsIn pages page t) (o : Told)
    (rest : Lines) (h : IsAloneTold pages page o rest)
    → (OwnRound (lined o) rest → s.block ≡ block_tree (lined o).block (lined o).text) → size s.before ≡ start_of 0 o
    → Told_at pages page i is a n.utf8 n.unrefused
alone_told pages page i is t n a s o rest h tree_so at =
    let k : IsKnownNode pages page i is t o = known_node pages page i is t n s o rest h tree_so at in
    let among : IsAmongNumbers (start_of 0 o) (told_starts 0 a.ts) = a.all o rest h.are h.told k.here in
    let some : AreSome a.ts = some_told (start_of 0 o) a.ts among in
    let f : ℕ → ℕ = byte_at (expanded_page pages page).outer (expanded_page pages page).items in (
      some,
      at_told pages page a (told_by_all pages page n.utf8 n.unrefused a some) i is t n.utf8 n.there n.block k.byte
          (subst (λ (m : ℕ). IsAmongNumbers m (map f (told_starts 0 a.ts))) k.begins (among_mapped f (start_of 0 o) (told_starts 0 a.ts) among)),
    )

-- ---- lines that begin with marks only are blank

and_first : (a b : Bool) → (a && b) ≡ true → a ≡ true
and_first true b e = refl
and_first false b e = absurd (cc)

and_rest : (a b : Bool) → (a && b) ≡ true → b ≡ true
and_rest true b e = e
and_rest false b e = absurd (cc)

marks_content : (ms : List Item) → list_all is_mark ms ≡ true → content ms ≡ ms
marks_content [] h = refl
marks_content (char o b ∷ []) h = absurd (cc)
marks_content (whole f o bs ∷ []) h = refl
marks_content (m ∷ n ∷ ms) h = ap (λ (xs : List Item). m ∷ xs) (marks_content (n ∷ ms) (and_rest (is_mark m) (list_all is_mark (n ∷ ms)) h))

marks_signs : (ms : List Item) → list_all is_mark ms ≡ true → AreMarkSigns (map sign ms)
marks_signs [] h = tt
marks_signs (m ∷ ms) h = (mark_sign m (and_first (is_mark m) (list_all is_mark ms) h), marks_signs ms (and_rest (is_mark m) (list_all is_mark ms) h))

marks_blank : (n : ℕ) (ms : List Item) → list_all is_mark ms ≡ true → kind_at n ms ≡ line.Blank
marks_blank n ms h =
    ap (λ (xs : List Item). kind_of_signs n (map sign xs)) (marks_content ms h) ∙ ap (kind_of_signs n) (sym (append-nil (map sign ms)))
    ∙ kind_marks n (map sign ms) [] (marks_signs ms h) ∙ blank_is n

pub some_past : (n : ℕ) (l : List Item) → (kind_at n l ≡ line.Blank → ⊥) → 1 ≤ length (past_marks l)
some_past n l k = by (past_marks l) refl
  where
    by : (xs : List Item) → past_marks l ≡ xs → 1 ≤ length xs
    by [] e =
        let all : led_by l ≡ l = sym (append-nil (led_by l)) ∙ ap (λ (ys : List Item). led_by l ++ ys) (sym e) ∙ led_whole l in
        absurd (k (marks_blank n l (subst (λ (ys : List Item). list_all is_mark ys ≡ true) all (led_marks l))))
    by (x ∷ xs) e = omega arith

-- ---- by its lines

abbrev Answer : (pages : Pages) (page : List ℕ) (i : ℕ) (is : List ℕ) (t : Tree) → AreAllChosen pages page → IsUtf8 page → refusal_of_page pages page ≡ None
    → Type 0
Answer pages page i is t a u r = Told_at pages page i is a u r ⊎ IsExcepted pages page t

begins_so : (before : Lines) (l : List Item) (o : Told) → (lined o).before ≡ before → lead_of (lined o) ≡ led_by l → begins_at before l ≡ start_of 0 o
begins_so before l o e f = omega (arith, ap (λ (ls : Lines). size (joined ls)) e, ap size f)

-- each of text shows something
pub all_past : (n : ℕ) (ls : Lines) → AreOfText n ls → AllPast ls
all_past n [] h = tt
all_past n (l ∷ ls) h = (some_past n l (λ w. let wrong : line.Blank ≡ line.Text = sym w ∙ h.0 in absurd (cc)), all_past n ls h.1)

none_blank : (n : ℕ) (ls : Lines) → AreLinesAt n ls → NoneBlank n ls
none_blank n [] h = tt
none_blank n (l ∷ ls) h = ((λ e. let wrong : line.Blank ≡ line.Text = sym e ∙ h.0 in absurd (cc)), none_blank n ls h.1)

-- what is known of a block with this tree by its lines, and so of it where they are the page's own
record HasLines (b : LinedBlock) (rest : Lines) (u : ItemTree) : Type 0 where
  some : 1 ≤ length b.first
  seen : Round b rest → BlockSeen (content (own_items b))
  number : ℕ
  shown : NoneBlank number (b.first ∷ b.more)
  source : AreOfPage (own_items b) → source_of b.block b.text ≡ sources (content (own_items b))
  size_is : tree_size u + size (ending (own_items b)) ≡ size (own_items b)
  tree_so : OwnRound b rest → u ≡ block_tree b.block b.text

or_first : (u v : Bool) → (u || v) ≡ false → u ≡ false
or_first true v e = absurd (cc)
or_first false v e = refl

-- a node that isn't tangled touches no call that is text
pub untouched_tree : (e : Expanded) (page : List ℕ) (t : Tree) → is_tangled e page t ≡ false → touches_text_call e.text_calls (label t).ranges ≡ false
untouched_tree e page (tree l ts) h =
    or_first (touches_text_call e.text_calls l.ranges) (touches_open_tag (before page l.ranges) (tree l ts) || has_faulty_group e ts) h

-- where its lines are the page's own, or not
by_place : (pages : Pages) (page : List ℕ) (i : ℕ) (is : List ℕ) (t : Tree) (n : IsNodeAt pages page i is t) (a : AreAllChosen pages page) (s : StandsIn pages page t) (o : Told)
    (rest : Lines) → full_lines (expanded_page pages page).items ≡ all_lines (lined o ∷ []) rest → AreTold (o ∷ []) rest
    → HasLines (lined o) rest s.block → size s.before ≡ start_of 0 o → AllFrom None (content (own_items (lined o))) → Answer pages page i is t a n.utf8 n.unrefused
by_place pages page i is t n a s o rest are told l at own =
    by (beside_call_decided e front o) (functions_decided line)
  where
    e : Expanded
    e = expanded_page pages page

    front : List Item
    front = joined (lined o).before

    line : List Item
    line = content (own_items (lined o))

    by : Decided (IsBesideNoCall e front o) → Decided (AreNoFunctions line) → Answer pages page i is t a n.utf8 n.unrefused
    by (inr f) b = inr (record { stands = s; begins_so = beside_a_call o rest are told at f })
    by (inl x) (inr f) = inr (record { stands = s; begins_so = holds_a_function o rest are told at f })
    by (inl x) (inl y) =
        let free : touches_text_call e.text_calls (label t).ranges ≡ false = untouched_tree e page t n.untangled in
        let z : IsBesideTexts e front o =
        node_texts pages page t s o rest n.utf8 n.unrefused are free x.ending own at l.size_is
        (content_bytes pages page o rest l.number are l.some l.shown.0 own) in
        let some : 1 ≤ length line = some_content l.number (lined o).first (lined o).more l.some l.shown.0 in
        let mine : AreOfPage (own_items (lined o)) =
        subst AreOfPage (content_ending (own_items (lined o))) (own_both line (ending (own_items (lined o))) (own_of line own y) x.ending) in
        let runs : AreRuns goes_on (all_lines (lined o ∷ []) rest) e.items = subst (λ (ls : Lines). AreRuns goes_on ls e.items) are (runs_are goes_on e.items) in
        let w : CallsNothing line = calls_nothing pages page o rest (record {
          are = are;
          own = mine;
          first = l.some;
          some = some;
          led = x.led;
          beside = z;
          seen = l.seen (round (lined o) rest e.items l.some runs (own_breaks (own_items (lined o)) mine));
          source = l.source mine;
        }) in
        let p : IsOwnBehind e front o = own_behind e front o own x some y w z in
        let closed : EndClosed (spots_of_lines pages page (map lined (o ∷ []))) (end_of_lines pages page (map lined (o ∷ [])) rest) =
        own_closed pages page o rest l.number are p l.some l.seen l.shown (l.source p.own)
        (λ none. unclosed_by e.items page (label t).ranges n.unclosed (own_reaches pages page t s o rest n.utf8 n.unrefused are p at l.size_is none)) in
        inl (alone_told pages page i is t n a s o rest (record { utf8 = n.utf8; closed = closed; are = are; told = told; place = p }) l.tree_so at)

-- each line of text has something behind its marks
texts_seen : (n : ℕ) (ls : Lines) → AreOfText n ls → AreSeen ls
texts_seen n [] h = tt
texts_seen n (l ∷ ls) h = (some_past n l (λ w. let wrong : line.Blank ≡ line.Text = sym w ∙ h.0 in absurd (cc)), texts_seen n ls h.1)

-- the content of lines of the page
content_ones : (pages : Pages) (page : List ℕ) (o : Told) (rest : Lines) → IsUtf8 page → refusal_of_page pages page ≡ None
    → full_lines (expanded_page pages page).items ≡ all_lines (lined o ∷ []) rest → AreOnes (content (own_items (lined o)))
content_ones pages page o rest u r are =
    let own : List Item = own_items (lined o) in
    let front : List Item = joined (lined o).before ++ lead_of (lined o) in
    let all : (expanded_page pages page).items ≡ front ++ (own ++ joined rest) =
    page_joined pages page (all_lines (lined o ∷ []) rest) are ∙ lines_joined (lined o) rest in
    ones_front (content own) (ending own)
    (subst AreOnes (sym (content_ending own)) (ones_front own (joined rest) (ones_behind front (own ++ joined rest) (subst AreOnes all (page_ones pages page u r)))))

text_case : (pages : Pages) (page : List ℕ) (i : ℕ) (is : List ℕ) (t : Tree) (n : IsNodeAt pages page i is t) (a : AreAllChosen pages page) (s : StandsIn pages page t)
    (before : Lines) (first : List Item) (others behind : Lines)
    → full_lines (expanded_page pages page).items ≡ before ++ ((first ∷ others) ++ behind) → AllTrue (open_after [] (written_rows 0 before)) → EndApart (written_rows 0 before)
    → AreOfText (tables_behind 0 before) (first ∷ others) → BeginApart (rows_from (tables_behind 0 before) behind) → size s.before ≡ begins_at before first
    → s.block ≡ para (map text_row (first ∷ others)) → Answer pages page i is t a n.utf8 n.unrefused
text_case pages page i is t n a s before first others behind are cells apart texts stops at tree_is =
    by_place pages page i is t n a s o behind all told on (at ∙ begins_so before first o refl refl)
    (text_own_lines first others s.block tree_is (own_tree pages page i is t n s) (texts_seen m (first ∷ others) here)
    (content_ones pages page o behind n.utf8 n.unrefused all))
  where
    m : ℕ
    m = length (open_after [] (written_rows 0 before))

    o : Told
    o = text_told before first others

    here : AreOfText m (first ∷ others)
    here = subst (λ (j : ℕ). AreOfText j (first ∷ others)) (tables_same before) texts

    seen : AllPast (first ∷ others)
    seen = all_past m (first ∷ others) here

    line_is : led_by first ++ past_marks first ≡ first
    line_is = led_whole first

    tree_so : OwnRound (lined o) behind → s.block ≡ block_tree (lined o).block (lined o).text
    tree_so round =
        tree_is ∙ ap (λ (l : List Item). para (map text_row (l ∷ others))) (sym line_is)
        ∙ paragraph_is before (led_by first) (past_marks first) others behind round (led_marks first)
        (subst (λ (l : List Item). AllText m (l ∷ others)) (sym line_is) (text_all m (first ∷ others) here))

    own : AreLinesAt m (past_marks first ∷ others)
    own = (kind_led m first seen.0 ∙ here.0, text_lines_at m others here.1)

    unled : marks_len (content (joined (past_marks first ∷ others))) ≡ 0
    unled = first_unled (past_marks first) (joined others) seen.0 (past_unled first)

    told : AreTold (o ∷ []) behind
    told = (
      record { sign = tt; unclosed = tt; are_marks = led_marks first; some = seen.0; in_cells = cells; apart = apart; own = (own, unled) },
      subst (λ (j : ℕ). BeginApart (rows_from j behind)) (tables_same before) stops,
    )

    all : full_lines (expanded_page pages page).items ≡ all_lines (lined o ∷ []) behind
    all = are ∙ ap (λ (l : List Item). before ++ ((l ∷ others) ++ behind)) (sym line_is)

    on : HasLines (lined o) behind s.block
    on = record {
      some = seen.0;
      seen = λ r. block_seen a_paragraph (lined o).text (content (own_items (lined o)))
          (own_block a_paragraph 0 before [] m (lined o).text (past_marks first ∷ others) r.y r.ys r.some r.own_are tt (own, unled, refl)).0;
      number = m;
      shown = none_blank m (past_marks first ∷ others) own;
      source = λ mine. refl;
      size_is = ap (λ (u : ItemTree). tree_size u + size (ending (own_items (lined o)))) tree_is ∙ para_size first others seen;
      tree_so = tree_so;
    }

heading_case : (pages : Pages) (page : List ℕ) (i : ℕ) (is : List ℕ) (t : Tree) (n : IsNodeAt pages page i is t) (a : AreAllChosen pages page) (s : StandsIn pages page t)
    (before : Lines) (own : List Item) (behind : Lines)
    → full_lines (expanded_page pages page).items ≡ before ++ own ∷ behind → AllTrue (open_after [] (written_rows 0 before)) → kind_at (tables_behind 0 before) own ≡ line.Heading
    → size s.before ≡ begins_at before own → s.block ≡ heading (content (past_marks own)) → Answer pages page i is t a n.utf8 n.unrefused
heading_case pages page i is t n a s before own behind are cells kind_is at tree_is =
    by_place pages page i is t n a s o behind all told on (at ∙ begins_so before own o refl refl)
    (heading_own_lines own s.block tree_is (own_tree pages page i is t n s) (content_ones pages page o behind n.utf8 n.unrefused all))
  where
    m : ℕ
    m = length (open_after [] (written_rows 0 before))

    l : List Item
    l = past_marks own

    o : Told
    o = heading_told before own

    here : kind_at m own ≡ line.Heading
    here = subst (λ (j : ℕ). kind_at j own ≡ line.Heading) (tables_same before) kind_is

    seen : 1 ≤ length l
    seen = some_past m own (λ v. let wrong : line.Blank ≡ line.Heading = sym v ∙ here in absurd (cc))

    head : IsLinedHeading m l
    head = record { is_heading = kind_led m own seen ∙ here; first = head_begins pages page before own behind n.utf8 n.unrefused are m here seen }

    told : AreTold (o ∷ []) behind
    told = (
      record { sign = tt; unclosed = tt; are_marks = led_marks own; some = seen; in_cells = cells; apart = tt; own = head },
      tt,
    )

    all : full_lines (expanded_page pages page).items ≡ all_lines (lined o ∷ []) behind
    all = are ∙ ap (λ (k : List Item). before ++ k ∷ behind) (sym (led_whole own))

    one : l ++ [] ≡ l
    one = append-nil l

    line_size : tree_size (heading (content l)) + size (ending l) ≡ size l
    line_size = omega (arith, heading_size (content l), sym (size_both (content l) (ending l)) ∙ ap size (content_ending l))

    on : HasLines (lined o) behind s.block
    on = record {
      some = seen;
      seen = λ r. subst (λ (ys : List Item). BlockSeen (content ys)) (sym one) (equals_seen (content l) (begins_content l head.first));
      number = m;
      shown = ((λ e. let wrong : line.Blank ≡ line.Heading = sym e ∙ head.is_heading in absurd (cc)), tt);
      source = λ mine. told_source m l head (from_page l (subst AreOfPage one mine)) ∙ ap (λ (ys : List Item). sources (content ys)) (sym one);
      size_is = ap (λ (u : ItemTree). tree_size u + size (ending (l ++ []))) tree_is
          ∙ ap (λ (ys : List Item). tree_size (heading (content l)) + size (ending ys)) one ∙ line_size ∙ ap size (sym one);
      tree_so = λ round. tree_is ∙ heading_is before (led_by own) l behind round;
    }

-- behind the sign of a table's end
end_case : (pages : Pages) (page : List ℕ) (i : ℕ) (is : List ℕ) (t : Tree) (n : IsNodeAt pages page i is t) (a : AreAllChosen pages page) (s : StandsIn pages page t)
    (before : Lines) (own : List Item) (others behind : Lines) → full_lines (expanded_page pages page).items ≡ before ++ ((own ∷ others) ++ behind)
    → IsEndBlock before own others behind → size s.before ≡ begins_past before (end_sign own) (past_end own)
    → s.block ≡ para (map text_row (past_end own ∷ others)) → BeginsUnclosed (end_text own others) → Answer pages page i is t a n.utf8 n.unrefused
end_case pages page i is t n a s before own others behind are block at tree_is apart =
    by_place pages page i is t n a s o behind all told on (at ∙ end_begins before own others)
    (text_own_lines l others s.block tree_is (own_tree pages page i is t n s) (h.some, texts_seen m others h.texts)
    (content_ones pages page o behind n.utf8 n.unrefused all))
  where
    o : Told
    o = sign_told before own others

    m : ℕ
    m = length (tables_at [] o)

    l : List Item
    l = past_end own

    h : IsEndTold before own others behind
    h = end_told (full_lines (expanded_page pages page).items) before own others behind (page_signs pages page n.utf8 n.unrefused) are block apart

    told : AreTold (o ∷ []) behind
    told = (h.told, h.stops)

    all : full_lines (expanded_page pages page).items ≡ all_lines (lined o ∷ []) behind
    all = are ∙ ap (λ (k : List Item). before ++ ((k ∷ others) ++ behind)) (sym (sign_whole own))

    tree_so : OwnRound (lined o) behind → s.block ≡ block_tree (lined o).block (lined o).text
    tree_so round =
        tree_is ∙ ap (λ (k : List Item). para (map text_row (k ∷ others))) (sym (led_whole l))
        ∙ end_paragraph_is before (end_sign own) (led_by l) (past_marks l) others behind round h.sign (led_marks l) (ap is_unseen (led_whole l) ∙ block.seen)
        (text_all m others h.texts)

    on : HasLines (lined o) behind s.block
    on = record {
      some = h.some;
      seen = λ r. block_seen a_paragraph (lined o).text (content (own_items (lined o)))
          (own_block a_paragraph 0 before (end_sign own) m (lined o).text (past_marks l ∷ others) r.y r.ys r.some r.own_are h.told.sign
          (h.told.own.0, h.told.own.1, refl)).0;
      number = m;
      shown = ((λ e. seen_shown m (past_marks l) h.seen e), none_blank m others (text_lines_at m others h.texts));
      source = λ mine. refl;
      size_is = ap (λ (u : ItemTree). tree_size u + size (ending (own_items (lined o)))) tree_is ∙ para_size l others (h.some, all_past m others h.texts);
      tree_so = tree_so;
    }

by_lines : (pages : Pages) (page : List ℕ) (i : ℕ) (is : List ℕ) (t : Tree) (n : IsNodeAt pages page i is t) (a : AreAllChosen pages page) (s : StandsIn pages page t)
    → IsOfLines (full_lines (expanded_page pages page).items) (size s.before) s.block → Answer pages page i is t a n.utf8 n.unrefused
by_lines pages page i is t n a s (of_lines before first others behind are cells apart texts stops at tree_is) =
    text_case pages page i is t n a s before first others behind are cells apart texts stops at tree_is
by_lines pages page i is t n a s (of_line before own behind are cells kind_is at tree_is) =
    heading_case pages page i is t n a s before own behind are cells kind_is at tree_is
by_lines pages page i is t n a s (behind_an_end before own others behind are kind seen cells texts stops at tree_is) =
    by (unclosed_decided (end_text own others))
  where
    by : Decided (BeginsUnclosed (end_text own others)) → Answer pages page i is t a n.utf8 n.unrefused
    by (inl u) =
        end_case pages page i is t n a s before own others behind are (record { kind = kind; seen = seen; cells = cells; texts = texts; stops = stops }) at tree_is u
    by (inr f) = inr (record { stands = s; begins_so = by_its_lines (a_brace_on_an_end before own others behind are kind seen f at) })
by_lines pages page i is t n a s (behind_a_rule before own others behind are kind seen cells texts stops at tree_is) =
    inr (record { stands = s; begins_so = by_its_lines (text_on_a_rule before own (others ++ behind) are kind seen at) })

complete_at : (pages : Pages) (page : List ℕ) (u : IsUtf8 page) (r : refusal_of_page pages page ≡ None) (a : AreAllChosen pages page)
    (p : List ℕ) (t : Tree) → IsReachedAt p (called_tree pages page) t → IsTextBlock (label t).kind → HasNoGroup t → is_tangled (expanded_page pages page) page t ≡ false
    → holds_unclosed (expanded_page pages page).items page (label t).ranges ≡ false
    → ((s : AreSome a.ts) × IsOneOf p (taken_at pages page a.ts a.behind (told_by_all pages page u r a s)).paths) ⊎ IsExcepted pages page t
complete_at pages page u r a [] t e b g f h = absurd (body_none pages page t u r e b)
complete_at pages page u r a (i ∷ is) t e b g f h =
    let s : StandsOnLines pages page t = block_on_lines pages page (i ∷ is) t u r e b in
    let n : IsNodeAt pages page i is t = record {
      utf8 = u;
      unrefused = r;
      unclosed = h;
      there = below i is (called_tree pages page) t e;
      block = b;
      ungrouped = g;
      untangled = f;
    } in
    by_lines pages page i is t n a s.stands s.by_lines

pub all_blocks : (pages : Pages) (page : List ℕ) → IsUtf8 page → refusal_of_page pages page ≡ None → AllBlocksTold pages page
all_blocks pages page u r =
    let a : AreAllChosen pages page = chosen_together pages page u r in
    record {
      ts = a.ts;
      behind = a.behind;
      told = λ s. let h : IsToldAmong pages page a.ts a.behind = told_by_all pages page u r a s in record { told = h; taken = taken_at pages page a.ts a.behind h };
      complete = complete_at pages page u r a;
    }
