-- What is known of the lines of a paragraph or heading of a page's tree whose content may be edited: the line breaks before and in them come from no call,
-- what is on the page for them is its source, no call that is text touches it, and a byte of it is in no group.
use Rattle.std.proofs.Common.{arith, ◌≡◌, ◌≤◌, ◌<◌, ◌⊎◌, inl, inr, ℕ, ◌+◌, ◌==◌, Bool, true, false, Option, Some, None, List, [], ◌∷◌, ◌++◌, length, refl, sym, ap, ◌∙◌, subst, append_assoc}
use Rattle.std.proofs.lemmas.Bool.Decides.{nat_tests}
use Rattle.std.specs.List.{AllByRecursion, list_all}
use Rattle.std.specs.Str.{IsUtf8}
use Rattle.wt_span.specs.Bytes.{is_break}
use Rattle.wt_span.specs.Items.{Item, char, whole, is_mark, call_of}
use Rattle.wt_span.specs.Origins.{OuterCall, Span, Expanded}
use Rattle.wt_span.specs.Runs.{AreRuns}
use Rattle.wt_span.proofs.RunLaws.{runs_are}
use Rattle.wt_tree.specs.declared.kind.Ranges.{Ranges}
use Rattle.wt_tree.specs.Source.{flat}
use Rattle.wt_tree.specs.Tree.{Tree, tree, label}
use Rattle.wt_inline.specs.ItemTree.{ItemTree, tree_items}
use Rattle.wt_annotated.specs.CutTexts.{cut_texts}
use Rattle.wt_annotated.specs.Seams.{last_of, text_from}
use Rattle.wt_checks.specs.Kept.{children}
use Rattle.wt_expand.specs.PageCalls.{expanded_page}
use Rattle.wt_expand.specs.Work.{Pages}
use Rattle.wt_commands.specs.Answers.{refusal_of_page}
use Rattle.wt_lines.specs.Lines.{content, full_lines, goes_on, is_break_item}
use Rattle.wt_page_round_trip.proofs.HeldPages.{tree_ones}
use Rattle.wt_page_round_trip.proofs.OpenedPages.{AreOnes}
use Rattle.wt_tables.specs.Parts.{joined}
use Rattle.wt_part_laws.specs.Expanded.{part_items}
use Rattle.wt_part_laws.specs.HeldCalls.{block_in}
use Rattle.wt_part_laws.specs.Placeless.{placeless}
use Rattle.wt_text_edit_laws.specs.ParagraphParts.{break}
use Rattle.wt_text_edit_laws.specs.ReadContents.{BeginsUnclosed, IsReadContent}
use Rattle.wt_text_edit_laws.specs.SignParts.{IsLedTo}
use Rattle.wt_text_edit_laws.specs.TextBlocks.{TextBlock, a_paragraph, a_heading, source_of, IsFrame}
use Rattle.wt_called_edit_laws.specs.LinedCalling.{BeginsAlone}
use Rattle.wt_called_edit_laws.specs.AllTold.{starts_in}
use Rattle.wt_called_edit_laws.specs.CalledContents.{tree_round}
use Rattle.wt_called_edit_laws.specs.CallingBlocks.{IsContentIn}
use Rattle.wt_called_edit_laws.specs.CallingTogether.{IsEditableAt}
use Rattle.wt_called_edit_laws.specs.CallingTold.{as_block, IsOwnBegun, IsLedBegun, IsBesideOwn, on_a_sign, broken_by_a_call}
use Rattle.wt_called_edit_laws.specs.Covered.{HasFreeByte}
use Rattle.wt_called_edit_laws.specs.EditableNodes.{IsEditable, IsEditableNode}
use Rattle.wt_called_edit_laws.specs.Groups.{called_tree}
use Rattle.wt_called_edit_laws.specs.LinedAmong.{AreOfPage, AreBeside}
use Rattle.wt_called_edit_laws.specs.PlacedLines.{LinedBlock, lead_of, all_lines}
use Rattle.wt_called_edit_laws.specs.RowBlocks.{IsReachedIn, StandsIn}
use Rattle.wt_called_edit_laws.specs.Settled.{settled}
use Rattle.wt_called_edit_laws.specs.SignLines.{IsApartFrom}
use Rattle.wt_called_edit_laws.specs.ToldLines.{Told, lined}
use Rattle.wt_called_edit_laws.proofs.Among.CallingLines.{front_so, IsLinedWithCalls, IsGivenFirst, given_first}
use Rattle.wt_called_edit_laws.proofs.Among.TextEnds.{AreTextsIn}
use Rattle.wt_called_edit_laws.proofs.Among.TextsBeside.{page_texts, from_byte, to_byte, apart_ranges, ends_before}
use Rattle.wt_called_edit_laws.proofs.BareInsides.{IsBare}
use Rattle.wt_called_edit_laws.proofs.Cells.PlacedLines.{own_items, Round, round}
use Rattle.wt_called_edit_laws.proofs.TextsMake.{flat_same}
use Rattle.wt_called_edit_laws.proofs.AllTold.BlockBytes.{end_byte, node_ends, block_byte}
use Rattle.wt_called_edit_laws.proofs.AllTold.Chosen.{none_decided, own_decided, or_decided, led_decided}
use Rattle.wt_called_edit_laws.proofs.AllTold.ChosenLines.{ones_front, ones_behind}
use Rattle.wt_called_edit_laws.proofs.AllTold.Complete.{untouched_tree}
use Rattle.wt_called_edit_laws.proofs.AllTold.NodeLines.{IsOfKind, IsUntold, NodeLines, node_lines, line_count, line_source}
use Rattle.wt_called_edit_laws.proofs.AllTold.NodePlaces.{first_byte, node_begins, between_begins}
use Rattle.wt_called_edit_laws.proofs.AllTold.OneNode.{text_before}
use Rattle.wt_called_edit_laws.proofs.AllTold.OnLines.{line_front, line_whole}
use Rattle.wt_called_edit_laws.proofs.AllTold.OnTold.{lined_on}
use Rattle.wt_called_edit_laws.proofs.AllTold.Outside.{reached_free}
use Rattle.wt_called_edit_laws.proofs.AllTold.OwnBytes.{IsSettledThere, node_settled, FreeFrom, block_free, any_content, any_editable}
use Rattle.wt_called_edit_laws.proofs.AllTold.OwnNodes.{between_same}
use Rattle.wt_called_edit_laws.proofs.AllTold.RowBlocks.{below}
use Rattle.wt_called_edit_laws.proofs.AllTold.Scans.{Decided}

-- ---- line breaks of the page

is_ten : (b : ℕ) → (b == 10) ≡ true → b ≡ 10
is_ten b e = grind (arith, nat_tests, e)

break_decided : (x : Item) → Decided (is_break_item x ≡ true → x ≡ break)
break_decided (char None b) = inl (λ e. ap (char None) (is_ten b e))
break_decided (whole f o bs) = inl (λ e. absurd (cc))
break_decided (char (Some k) b) = by (is_break b) refl
  where
    by : (v : Bool) → is_break b ≡ v → Decided (is_break b ≡ true → char (Some k) b ≡ break)
    by true e = inr (λ f. let no : char (Some k) b ≡ break = f e in absurd (cc))
    by false e = inl (λ g. let no : true ≡ false = sym g ∙ e in absurd (cc))

pair_decided : (A B : Type 0) → Decided A → Decided B → Decided (A × B)
pair_decided A B (inl a) (inl b) = inl (a, b)
pair_decided A B (inl a) (inr f) = inr (λ h. f h.1)
pair_decided A B (inr f) b = inr (λ h. f h.0)

breaks_decided : (xs : List Item) → Decided (AllByRecursion (λ x. is_break_item x ≡ true → x ≡ break) xs)
breaks_decided [] = inl tt
breaks_decided (x ∷ xs) =
    pair_decided (is_break_item x ≡ true → x ≡ break) (AllByRecursion (λ y. is_break_item y ≡ true → y ≡ break) xs) (break_decided x) (breaks_decided xs)

begun_decided : (front : List Item) (t : Told) → Decided (IsOwnBegun front t)
begun_decided front t = by (none_decided (last_of None front)) (own_decided (lined t).marks)
  where
    by : Decided (last_of None front ≡ None) → Decided (AreOfPage (lined t).marks) → Decided (IsOwnBegun front t)
    by (inl a) (inl b) = inl (record { ends = a; marks = b })
    by (inr f) b = inr (λ h. f h.ends)
    by (inl a) (inr f) = inr (λ h. f h.marks)

alone_decided : (xs : List Item) → Decided (BeginsAlone xs)
alone_decided [] = inr (λ h. h)
alone_decided (x ∷ xs) = none_decided (call_of x)

ledly_decided : (e : Expanded) (front : List Item) (t : Told) → Decided (IsLedBegun e front t)
ledly_decided e front t =
    let own : List Item = content (joined ((lined t).first ∷ (lined t).more)) in
    by (alone_decided own) (led_decided (text_from e.outer None (front ++ (lined t).marks)) (lined t).block (text_from e.outer None own))
  where
    by : Decided (BeginsAlone (content (joined ((lined t).first ∷ (lined t).more))))
        → Decided (IsLedTo (text_from e.outer None (front ++ (lined t).marks)) (lined t).block (text_from e.outer None (content (joined ((lined t).first ∷ (lined t).more)))))
        → Decided (IsLedBegun e front t)
    by (inl a) (inl b) = inl (record { first = a; led = b })
    by (inr f) b = inr (λ h. f h.first)
    by (inl a) (inr f) = inr (λ h. f h.led)

beside_decided : (e : Expanded) (front : List Item) (t : Told) → Decided (IsBesideOwn e front t)
beside_decided e front t =
    by (or_decided (IsOwnBegun front t) (IsLedBegun e front t) (begun_decided front t) (ledly_decided e front t))
    (breaks_decided (joined ((lined t).first ∷ (lined t).more)))
  where
    by : Decided (IsOwnBegun front t ⊎ IsLedBegun e front t)
        → Decided (AllByRecursion (λ x. is_break_item x ≡ true → x ≡ break) (joined ((lined t).first ∷ (lined t).more))) → Decided (IsBesideOwn e front t)
    by (inl a) (inl b) = inl (record { begun = a; breaks = b })
    by (inr f) b = inr (λ h. f h.begun)
    by (inl a) (inr f) = inr (λ h. f h.breaks)

-- led to a block of its kind with this source
led_kind : (bs t : List ℕ) (k j : TextBlock) (q : List ℕ) → IsLedTo bs k t → t ≡ source_of j q → IsOfKind k j → IsReadContent j q → IsLedTo bs j q
led_kind bs t k j q (inl e) s kind h = inl e
led_kind bs t a_paragraph a_paragraph q (inr e) s kind h = inr (e.0, subst BeginsUnclosed s e.1)
led_kind bs t a_paragraph (a_heading z) q (inr e) s kind h = absurd kind
led_kind bs t (a_heading z) a_paragraph q (inr e) s kind h = absurd kind
led_kind bs t (a_heading z) (a_heading y) q (inr e) s kind h = let f : IsFrame y = h.begins in inr (e.0, f.sides.some)

-- ---- no call that is text has a byte of it or of its marks

marks_beside : (calls : List OuterCall) (fs ms more : List Item) (to : ℕ) (ss : List Span) → AreTextsIn calls None 0 (fs ++ (ms ++ more)) ss → list_all is_mark ms ≡ true
    → AreBeside (length (text_from calls None (fs ++ ms))) to ss → AreBeside (length (text_from calls None fs)) to ss
marks_beside calls fs ms more to [] t m h = tt
marks_beside calls fs ms more to (s ∷ ss) t m h = (by h.0, marks_beside calls fs ms more to ss t.1 m h.1)
  where
    by : (s.1 ≤ length (text_from calls None (fs ++ ms))) ⊎ (to ≤ s.0) → (s.1 ≤ length (text_from calls None fs)) ⊎ (to ≤ s.0)
    by (inl le) = inl (ends_before calls fs ms more s t.0 m le)
    by (inr le) = inr le

same_from : (o : Option Ranges) → from_byte o ≡ first_byte o
same_from None = refl
same_from (Some r) = refl

same_to : (o : Option Ranges) → to_byte o ≡ end_byte o
same_to None = refl
same_to (Some r) = refl

-- ---- a byte of it is in no group

settled_first : (n at : ℕ) (v : Tree) → first_byte (label (settled n at v)).ranges ≡ at
settled_first n at (tree l ts) = refl

free_there : (pages : Pages) (page : List ℕ) (i : ℕ) (is : List ℕ) (t : Tree) (from to : ℕ) → IsUtf8 page → refusal_of_page pages page ≡ None
    → IsReachedIn i is (children (called_tree pages page)) t → HasFreeByte t from to → from ≡ starts_in 0 i is (children (called_tree pages page))
    → to ≡ from + length (flat t) → HasFreeByte (called_tree pages page) from to
free_there pages page i is t from to u r e h start end =
    let low : from ≤ h.0 = h.1 in
    let high : h.0 < to = h.2 in
    (h.0, low, high, reached_free pages page i is t h.0 u r e h.3 (omega (arith, low, start)) (omega (arith, high, start, end)))

-- ---- what is known of its lines

-- of a block behind these items and what begins its line, with these items
pub record IsKnownHere (pages : Pages) (page : List ℕ) (front marks own : List Item) (k : TextBlock) (q : List ℕ) : Type 0 where
  pub begun : ((last_of None front ≡ None) × AreOfPage marks) ⊎ (BeginsAlone (content own) × IsLedTo (text_from (expanded_page pages page).outer None (front ++ marks)) k q)
  pub breaks : AllByRecursion (λ x. is_break_item x ≡ true → x ≡ break) own
  pub source : text_from (expanded_page pages page).outer None (content own) ≡ source_of k q
  pub apart : AreBeside (length (text_from (expanded_page pages page).outer None front))
      (length (text_from (expanded_page pages page).outer None (front ++ marks)) + length (source_of k q)) (expanded_page pages page).text_calls
  pub free : HasFreeByte (called_tree pages page) (length (text_from (expanded_page pages page).outer None (front ++ marks)))
      (length (text_from (expanded_page pages page).outer None (front ++ marks)) + length (source_of k q))
  pub content_is : IsEditable pages k q

-- a block that is told, of which this is known
pub record KnownTold (pages : Pages) (page : List ℕ) : Type 0 where
  pub told : Told
  pub rest : List (List Item)
  pub are : full_lines (expanded_page pages page).items ≡ all_lines (lined told ∷ []) rest
  pub block : TextBlock
  pub text : List ℕ
  pub kind : IsOfKind (lined told).block block
  pub known : IsKnownHere pages page (joined (lined told).before) (lead_of (lined told)) (own_items (lined told)) block text

-- ---- of a node

-- its block, as its lines tell it
abbrev node_block : {pages : Pages} {page : List ℕ} {t : Tree} → NodeLines pages page t → IsEditableNode pages t → LinedBlock
node_block n d = as_block (lined n.told).before (lined n.told).sign (lined n.told).marks (lined n.told).first (lined n.told).more d.block d.text

-- it begins with its marks
lead_is : (pages : Pages) (page : List ℕ) (t : Tree) (n : NodeLines pages page t) → lead_of (lined n.told) ≡ (lined n.told).marks
lead_is pages page t n = ap (λ (xs : List Item). xs ++ (lined n.told).marks) n.unsigned

-- no call that is text touches it
node_apart : (pages : Pages) (page : List ℕ) (i : ℕ) (is : List ℕ) (t : Tree) → IsUtf8 page → refusal_of_page pages page ≡ None → IsEditableAt pages page (i ∷ is) t
    → (n : NodeLines pages page t) → first_byte (label t).ranges ≡ length (text_from (expanded_page pages page).outer None (line_front (lined n.told)))
    → AreBeside (length (text_from (expanded_page pages page).outer None (joined (lined n.told).before)))
    (length (text_from (expanded_page pages page).outer None (line_front (lined n.told))) + length (flat t)) (expanded_page pages page).text_calls
node_apart pages page i is t u r h n first =
    let e : Expanded = expanded_page pages page in
    let calls : List OuterCall = e.outer in
    let l : LinedBlock = lined n.told in
    let fs : List Item = joined l.before in
    let ms : List Item = lead_of l in
    let others : List Item = own_items l ++ joined n.rest in
    let o : Option Ranges = (label t).ranges in
    let whole : e.items ≡ (fs ++ ms) ++ others = line_whole pages page l n.rest n.are in
    let texts : AreTextsIn calls None 0 (fs ++ (ms ++ others)) e.text_calls =
    subst (λ (xs : List Item). AreTextsIn calls None 0 xs e.text_calls) (whole ∙ append_assoc fs ms others) (page_texts pages page) in
    let last : end_byte o ≡ first_byte o + length (flat t) = node_ends pages page i is t u r (below i is (called_tree pages page) t h.reached) in
    let byte : 1 ≤ length (flat t) = block_byte pages page (i ∷ is) t u r h.reached h.block in
    let end : end_byte o ≡ length (text_from calls None (fs ++ ms)) + length (flat t) = omega (arith, first, last) in
    let from : from_byte o ≡ first_byte o = same_from o in
    let to : to_byte o ≡ end_byte o = same_to o in
    let some : from_byte o < to_byte o = omega (arith, from, to, last, byte) in
    let ranged : AreBeside (from_byte o) (to_byte o) e.text_calls =
    apart_ranges calls (fs ++ (ms ++ others)) o e.text_calls texts (untouched_tree e page t h.untangled) some in
    marks_beside calls fs ms others (length (text_from calls None (fs ++ ms)) + length (flat t)) e.text_calls texts (ap (list_all is_mark) (lead_is pages page t n) ∙ n.lines.0.are_marks)
    (subst (λ (m : ℕ). AreBeside m (length (text_from calls None (fs ++ ms)) + length (flat t)) e.text_calls) (from ∙ first)
    (subst (λ (m : ℕ). AreBeside (from_byte o) m e.text_calls) (to ∙ end) ranged))

-- what it holds is its content with its calls, as this is read by itself
node_tree : (pages : Pages) (page : List ℕ) (t : Tree) (n : NodeLines pages page t) (d : IsEditableNode pages t) → IsBesideOwn (expanded_page pages page) (joined (lined n.told).before) n.told
    → IsLinedWithCalls pages page (node_block n d ∷ []) n.rest
    → (j : ℕ) × (n.stands.block ≡ tree_round d.block (part_items pages j d.text))
node_tree pages page t n d b alone =
    let l : LinedBlock = lined n.told in
    let items : List Item = (expanded_page pages page).items in
    let g : IsGivenFirst pages (node_block n d) n.rest = given_first pages page (node_block n d) n.rest alone in
    let c : IsContentIn pages d.block d.text = any_content pages d.block d.text d.content in
    let runs : AreRuns goes_on (all_lines (l ∷ []) n.rest) items = subst (λ (ks : List (List Item)). AreRuns goes_on ks items) n.are (runs_are goes_on items) in
    let round_is : Round l n.rest = round l n.rest items n.lines.0.some runs b.breaks in (
      g.number,
      n.tree_so d.block (part_items pages g.number d.text) (n.kind d.block d.kind) (record {
        items = sym (c.items g.number) ∙ sym g.gives;
        are = c.is g.number;
        stays = g.stays;
        round = round_is;
        runs = g.runs;
      }),
    )

-- a byte of it is in no group of it
node_free : (pages : Pages) (page : List ℕ) (i : ℕ) (is : List ℕ) (t : Tree) → IsUtf8 page → refusal_of_page pages page ≡ None
    → IsReachedIn i is (children (called_tree pages page)) t → 1 ≤ length (flat t) → (k : TextBlock) (q : List ℕ) → IsEditable pages k q
    → (s : StandsIn pages page t) (j : ℕ) → s.block ≡ tree_round k (part_items pages j q)
    → HasFreeByte t (first_byte (label t).ranges) (first_byte (label t).ranges + length (flat t))
node_free pages page i is t u r e byte k q d s j tree_is =
    let calls : List OuterCall = (expanded_page pages page).outer in
    let x : ItemTree = tree_round k (part_items pages j q) in
    let v : Tree = cut_texts (block_in calls x) in
    let w : IsSettledThere t = node_settled pages page i is t u r e in
    let placed : placeless t ≡ v =
    ap placeless s.is ∙ between_same calls s.number s.before s.block s.behind s.clean ∙ ap (λ (y : ItemTree). cut_texts (block_in calls y)) tree_is in
    let same : t ≡ settled w.number w.at v = w.is ∙ ap (settled w.number w.at) placed in
    let size : length (flat t) ≡ length (flat v) = ap length (sym (flat_same t) ∙ ap flat placed) in
    let mine : AreOnes (tree_items s.block) =
    ones_front (tree_items s.block) s.behind (ones_behind s.before (tree_items s.block ++ s.behind) (subst AreOnes s.whole (tree_ones pages page u r))) in
    let free : FreeFrom w.number w.at v =
    block_free pages calls w.number w.at j k q d (subst IsBare placed w.bare) (subst (λ (y : ItemTree). AreOnes (tree_items y)) tree_is mine) (omega (arith, size, byte)) in
    let first : first_byte (label t).ranges ≡ w.at = ap (λ (y : Tree). first_byte (label y).ranges) same ∙ settled_first w.number w.at v in
    subst (λ (m : ℕ). HasFreeByte t m (m + length (flat t))) (sym first)
    (subst (λ (m : ℕ). HasFreeByte t w.at (w.at + m)) (sym size) (subst (λ (y : Tree). HasFreeByte y w.at (w.at + length (flat v))) (sym same) free))

-- the lines of a node, and what is known of them
pub record KnownNode (pages : Pages) (page : List ℕ) (t : Tree) : Type 0 where
  pub lines : NodeLines pages page t
  pub line : KnownTold pages page
  pub is : line.told ≡ lines.told

begun_so : (pages : Pages) (page : List ℕ) (t : Tree) (n : NodeLines pages page t) (d : IsEditableNode pages t)
    → text_from (expanded_page pages page).outer None (content (own_items (lined n.told))) ≡ source_of d.block d.text
    → IsOwnBegun (joined (lined n.told).before) n.told ⊎ IsLedBegun (expanded_page pages page) (joined (lined n.told).before) n.told
    → ((last_of None (joined (lined n.told).before) ≡ None) × AreOfPage (lead_of (lined n.told)))
    ⊎ (BeginsAlone (content (own_items (lined n.told)))
    × IsLedTo (text_from (expanded_page pages page).outer None (joined (lined n.told).before ++ lead_of (lined n.told))) d.block d.text)
begun_so pages page t n d source (inl b) = inl (b.ends, subst AreOfPage (sym (lead_is pages page t n)) b.marks)
begun_so pages page t n d source (inr b) =
    let calls : List OuterCall = (expanded_page pages page).outer in
    let fs : List Item = joined (lined n.told).before in
    let own : List Item = content (own_items (lined n.told)) in
    let c : IsContentIn pages d.block d.text = any_content pages d.block d.text d.content in
    let led : IsLedTo (text_from calls None (fs ++ lead_of (lined n.told))) (lined n.told).block (text_from calls None own) =
    subst (λ (ms : List Item). IsLedTo (text_from calls None (fs ++ ms)) (lined n.told).block (text_from calls None own)) (sym (lead_is pages page t n)) b.led in
    inr (b.first, led_kind (text_from calls None (fs ++ lead_of (lined n.told))) (text_from calls None own) (lined n.told).block d.block d.text led source (n.kind d.block d.kind) c.read)

known_so : (pages : Pages) (page : List ℕ) (i : ℕ) (is : List ℕ) (t : Tree) → IsUtf8 page → refusal_of_page pages page ≡ None → IsEditableAt pages page (i ∷ is) t
    → (n : NodeLines pages page t) → IsBesideOwn (expanded_page pages page) (joined (lined n.told).before) n.told → KnownNode pages page t
known_so pages page i is t u r h n b =
    let calls : List OuterCall = (expanded_page pages page).outer in
    let spans : List Span = (expanded_page pages page).text_calls in
    let l : LinedBlock = lined n.told in
    let fs : List Item = joined l.before in
    let front : List Item = line_front l in
    let others : List Item = own_items l ++ joined n.rest in
    let d : IsEditableNode pages t = h.editable in
    let c : LinedBlock = node_block n d in
    let s : StandsIn pages page t = n.stands in
    let from : ℕ = length (text_from calls None front) in
    let there : IsReachedIn i is (children (called_tree pages page)) t = below i is (called_tree pages page) t h.reached in
    let begins : text_from calls None s.before ≡ text_from calls None front =
    text_before pages page t s front others u r (line_whole pages page l n.rest n.are) (line_count pages page t n) in
    let first : first_byte (label t).ranges ≡ from =
    ap (λ (v : Tree). first_byte (label v).ranges) s.is ∙ between_begins calls s.number s.before s.block s.behind ∙ ap length begins in
    let byte : 1 ≤ length (flat t) = block_byte pages page (i ∷ is) t u r h.reached h.block in
    let size : length (flat t) ≡ length (source_of d.block d.text) = ap length d.source in
    let source : text_from calls None (content (own_items l)) ≡ source_of d.block d.text = sym (line_source pages page t u r n) ∙ d.source in
    let apart : AreBeside (length (text_from calls None fs)) (from + length (source_of d.block d.text)) spans =
    subst (λ (m : ℕ). AreBeside (length (text_from calls None fs)) (from + m) spans) size (node_apart pages page i is t u r h n first) in
    let line : ℕ = length (text_from calls None fs) in
    let long : ℕ = length (source_of d.block d.text) in
    let line_is : line ≡ 0 + line = omega arith in
    let from_is : from ≡ 0 + from = omega arith in
    let first_apart : AreBeside (0 + line) ((0 + from) + long) spans =
    subst (λ (m : ℕ). AreBeside m ((0 + from) + long) spans) line_is (subst (λ (m : ℕ). AreBeside line (m + long) spans) from_is apart) in
    let begun : ((last_of None fs ≡ None) × AreOfPage (lead_of l)) ⊎ (BeginsAlone (content (own_items l)) × IsLedTo (text_from calls None (fs ++ lead_of l)) d.block d.text) =
    begun_so pages page t n d source b.begun in
    let alone : IsLinedWithCalls pages page (c ∷ []) n.rest = record {
      utf8 = u;
      are = n.are;
      lined = lined_on (n.told ∷ []) (c ∷ []) n.rest (record { is = refl; kind = n.kind d.block d.kind }, tt) n.lines;
      here = (
        record { front = front_so calls [] c (subst (λ (xs : List Item). IsApartFrom xs d.text) (sym n.unsigned) tt) begun; breaks = b.breaks; source = source },
        tt,
      );
      contents = (any_content pages d.block d.text d.content, tt);
      editable = (any_editable pages d.block d.text d.content, tt);
      apart = (first_apart, tt);
      unrefused = r;
    } in
    let tree_is = node_tree pages page t n d b alone in
    let own : HasFreeByte t (first_byte (label t).ranges) (first_byte (label t).ranges + length (flat t)) =
    node_free pages page i is t u r there byte d.block d.text d.content s tree_is.0 tree_is.1 in
    let free : HasFreeByte (called_tree pages page) (first_byte (label t).ranges) (first_byte (label t).ranges + length (flat t)) =
    free_there pages page i is t (first_byte (label t).ranges) (first_byte (label t).ranges + length (flat t)) u r there own (node_begins pages page i is t u r there)
    refl in
    record {
      lines = n;
      line = record {
        told = n.told;
        rest = n.rest;
        are = n.are;
        block = d.block;
        text = d.text;
        kind = n.kind d.block d.kind;
        known = record {
          begun = begun;
          breaks = b.breaks;
          source = source;
          apart = apart;
          free = subst (λ (m : ℕ). HasFreeByte (called_tree pages page) from (from + m)) size
              (subst (λ (m : ℕ). HasFreeByte (called_tree pages page) m (m + length (flat t))) first free);
          content_is = d.content;
        };
      };
      is = refl;
    }

-- ---- of each

pub known_node : (pages : Pages) (page : List ℕ) (i : ℕ) (is : List ℕ) (t : Tree) → IsUtf8 page → refusal_of_page pages page ≡ None
    → IsEditableAt pages page (i ∷ is) t → KnownNode pages page t
known_node pages page i is t u r h = by (node_lines pages page (i ∷ is) t u r h.reached h.block)
  where
    on : (n : NodeLines pages page t) → Decided (IsBesideOwn (expanded_page pages page) (joined (lined n.told).before) n.told) → KnownNode pages page t
    on n (inl b) = known_so pages page i is t u r h n b
    on n (inr f) = absurd (h.unexcepted (record { stands = n.stands; begins_so = broken_by_a_call n.told n.rest n.are n.lines n.begins n.unsigned f }))

    by : NodeLines pages page t ⊎ IsUntold pages page t → KnownNode pages page t
    by (inr x) = absurd (h.unexcepted (record { stands = x.stands; begins_so = on_a_sign x.by_lines }))
    by (inl n) = on n (beside_decided (expanded_page pages page) (joined (lined n.told).before) n.told)
