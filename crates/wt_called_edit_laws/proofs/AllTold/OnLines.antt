-- Each paragraph and heading of a page's tree, outside of groups, with calls in it or without, is on lines of the expanded page.
use Rattle.std.proofs.Common.{arith, ◌≡◌, ◌≤◌, ◌⊎◌, inl, inr, ℕ, Bool, true, false, None, ◌+◌, List, [], ◌∷◌, ◌++◌, length, map, refl, sym, ap, ◌∙◌, subst}
use Rattle.std.specs.Str.{IsUtf8}
use Rattle.wt_span.specs.Items.{Item}
use Rattle.wt_span.specs.Origins.{OuterCall}
use Rattle.wt_tree.specs.declared.kind.Kind.{Kind}
use Rattle.wt_tree.specs.declared.kind.Kind.TheVariants as kind
use Rattle.wt_tree.specs.Tree.{Tree, label}
use Rattle.wt_annotated.specs.Seams.{text_from}
use Rattle.wt_inline.specs.ItemTree.{ItemTree}
use Rattle.wt_checks.specs.Kept.{children}
use Rattle.wt_expand.specs.PageCalls.{expanded_page}
use Rattle.wt_expand.specs.Work.{Pages}
use Rattle.wt_commands.specs.Answers.{refusal_of_page}
use Rattle.wt_lines.specs.declared.kind.LineKind.TheVariants as line
use Rattle.wt_lines.specs.Lines.{content, full_lines}
use Rattle.wt_tables.specs.Parts.{joined}
use Rattle.wt_page.specs.Headings.{heading}
use Rattle.wt_page.specs.Lines.{kind_at}
use Rattle.wt_page.specs.Rows.{Row, rows_from}
use Rattle.wt_page.specs.Texts.{para}
use Rattle.wt_part_laws.specs.Slots.{AllTrue}
use Rattle.wt_typed_blocks.specs.Sent.{kind_of}
use Rattle.wt_text_edit_laws.specs.ParagraphBetween.{written_rows, tables_behind, EndApart, BeginApart}
use Rattle.wt_text_edit_laws.specs.ReadContents.{BeginsUnclosed}
use Rattle.wt_text_edit_laws.specs.TextBlocks.{TextBlock, a_paragraph, a_heading, block_of}
use Rattle.wt_called_edit_laws.specs.AllTold.{starts_in, text_on_a_rule, a_brace_on_an_end}
use Rattle.wt_called_edit_laws.specs.AnyBlocks.{open_after}
use Rattle.wt_called_edit_laws.specs.CallingTold.{TakesThere, as_block, IsOnLines, IsExceptedByLines}
use Rattle.wt_called_edit_laws.specs.Groups.{called_tree}
use Rattle.wt_called_edit_laws.specs.LinedCalling.{AreCallingLined, IsLinedCalling}
use Rattle.wt_called_edit_laws.specs.PlacedBlocks.{AreLinesAt}
use Rattle.wt_called_edit_laws.specs.PlacedLines.{LinedBlock, all_lines, lead_of}
use Rattle.wt_called_edit_laws.specs.RowBlocks.{IsTextBlock, IsReachedAt, IsReachedIn, StandsIn, node_between, text_row, end_sign, past_end, begins_past, AreOfText, IsOfLines, of_lines, of_line, behind_an_end, behind_a_rule, StandsOnLines}
use Rattle.wt_called_edit_laws.proofs.Cells.PlacedLines.{own_items, lines_joined}
use Rattle.wt_called_edit_laws.proofs.AllTold.BlockBytes.{block_byte}
use Rattle.wt_called_edit_laws.proofs.AllTold.CallingStarts.{taken_there}
use Rattle.wt_called_edit_laws.proofs.AllTold.Complete.{block_in, some_past}
use Rattle.wt_called_edit_laws.proofs.AllTold.EndSigns.{sign_whole, page_signs}
use Rattle.wt_called_edit_laws.proofs.AllTold.Found.{size, size_both}
use Rattle.wt_called_edit_laws.proofs.AllTold.LineBlocks.{block_on_lines}
use Rattle.wt_called_edit_laws.proofs.AllTold.LineKinds.{Lines, led_by, past_marks, led_whole, led_marks, kind_led}
use Rattle.wt_called_edit_laws.proofs.AllTold.NodePlaces.{first_byte, node_begins, between_begins}
use Rattle.wt_called_edit_laws.proofs.AllTold.OneNode.{page_joined, text_before}
use Rattle.wt_called_edit_laws.proofs.AllTold.RowBlocks.{body_none, below}
use Rattle.wt_called_edit_laws.proofs.AllTold.Scans.{Decided}
use Rattle.wt_called_edit_laws.proofs.AllTold.SignBlocks.{unclosed_decided, IsEndBlock, end_text, IsEndTold, end_told, calling_on}
use Rattle.wt_called_edit_laws.proofs.AllTold.Starts.{HasByte}
use Rattle.wt_called_edit_laws.proofs.AllTold.TextFacts.{tables_same, text_lines_at}

-- ---- kinds

pub para_kind : (calls : List OuterCall) (n : ℕ) (before : List Item) (rs : List Row) (behind : List Item)
    → (label (node_between calls n before (para rs) behind)).kind ≡ kind.Para
unfolding para
para_kind calls n before rs behind = refl

abbrev pub is_para : Kind → Bool
is_para kind.Para = true
is_para k = false

pub heading_kind : (calls : List OuterCall) (n : ℕ) (before own behind : List Item)
    → is_para (label (node_between calls n before (heading own) behind)).kind ≡ false
unfolding heading
heading_kind calls n before own behind = refl

-- ---- one node

pub record IsThere (pages : Pages) (page : List ℕ) (i : ℕ) (is : List ℕ) (t : Tree) : Type 0 where
  pub utf8 : IsUtf8 page
  pub unrefused : refusal_of_page pages page ≡ None
  pub there : IsReachedIn i is (children (called_tree pages page)) t
  pub block : IsTextBlock (label t).kind
  pub byte : HasByte t

-- the items before a block on lines, and those behind
abbrev pub line_front : LinedBlock → List Item
line_front b = joined b.before ++ lead_of b

abbrev pub line_more : LinedBlock → Lines → List Item
line_more b behind = own_items b ++ joined behind

pub line_size : (b : LinedBlock) → size (line_front b) ≡ size (joined b.before) + size (lead_of b)
line_size b = size_both (joined b.before) (lead_of b)

pub line_whole : (pages : Pages) (page : List ℕ) (b : LinedBlock) (behind : Lines) → full_lines (expanded_page pages page).items ≡ all_lines (b ∷ []) behind
    → (expanded_page pages page).items ≡ line_front b ++ line_more b behind
line_whole pages page b behind e = page_joined pages page (all_lines (b ∷ []) behind) e ∙ lines_joined b behind

-- the byte at which the node begins that begins where they do
pub node_byte : (pages : Pages) (page : List ℕ) (i : ℕ) (is : List ℕ) (t : Tree) → IsThere pages page i is t → (s : StandsIn pages page t) (b : LinedBlock) (behind : Lines)
    → full_lines (expanded_page pages page).items ≡ all_lines (b ∷ []) behind → size s.before ≡ size (joined b.before) + size (lead_of b)
    → starts_in 0 i is (children (called_tree pages page)) ≡ length (text_from (expanded_page pages page).outer None (line_front b))
node_byte pages page i is t n s b behind are at =
    let calls : List OuterCall = (expanded_page pages page).outer in
    let text_is : text_from calls None s.before ≡ text_from calls None (line_front b) =
    text_before pages page t s (line_front b) (line_more b behind) n.utf8 n.unrefused (line_whole pages page b behind are) (at ∙ sym (line_size b)) in
    sym (node_begins pages page i is t n.utf8 n.unrefused n.there) ∙ ap (λ (u : Tree). first_byte (label u).ranges) s.is
    ∙ between_begins calls s.number s.before s.block s.behind ∙ ap length text_is

-- where these lines may be edited as a block
takes_so : (pages : Pages) (page : List ℕ) (i : ℕ) (is : List ℕ) (t : Tree) → IsThere pages page i is t → (s : StandsIn pages page t) (b : LinedBlock) (behind : Lines)
    → size s.before ≡ size (joined b.before) + size (lead_of b) → IsLinedCalling pages page (b ∷ []) behind → TakesThere pages page (i ∷ is) b behind
takes_so pages page i is t n s b behind at h =
    taken_there pages page b behind i is t h n.there (block_in i is (children (called_tree pages page)) t n.there n.block n.byte)
    (node_byte pages page i is t n s b behind h.are at)

-- ---- by its lines

abbrev Answer : Pages → List ℕ → ℕ → List ℕ → Tree → Type 0
Answer pages page i is t = IsOnLines pages page (i ∷ is) t ⊎ IsExceptedByLines pages page t

text_on : (pages : Pages) (page : List ℕ) (i : ℕ) (is : List ℕ) (t : Tree) → IsThere pages page i is t → (s : StandsIn pages page t) (before : Lines) (first : List Item)
    (others behind : Lines) → full_lines (expanded_page pages page).items ≡ before ++ ((first ∷ others) ++ behind) → AllTrue (open_after [] (written_rows 0 before))
    → EndApart (written_rows 0 before) → AreOfText (tables_behind 0 before) (first ∷ others) → BeginApart (rows_from (tables_behind 0 before) behind)
    → size s.before ≡ size (joined before) + size (led_by first) → (label t).kind ≡ kind.Para → Answer pages page i is t
text_on pages page i is t n s before first others behind are cells apart texts stops at kind_is =
    by
  where
    m : ℕ
    m = length (open_after [] (written_rows 0 before))

    here : AreOfText m (first ∷ others)
    here = subst (λ (j : ℕ). AreOfText j (first ∷ others)) (tables_same before) texts

    by : Answer pages page i is t
    by = inl (record {
      before = before;
      sign = [];
      marks = led_by first;
      first = past_marks first;
      others = others;
      behind = behind;
      stands = s;
      are = are ∙ ap (λ (l : List Item). before ++ ((l ∷ others) ++ behind)) (sym (led_whole first));
      begins = at;
      lined = lined_so;
      takes = λ k q h. takes_so pages page i is t n s (as_block before [] (led_by first) (past_marks first) others k q) behind at h;
    })
      where
        lined_so : (k : TextBlock) (q : List ℕ) → kind_of (block_of k) ≡ (label t).kind
            → AreCallingLined (as_block before [] (led_by first) (past_marks first) others k q ∷ []) behind
        lined_so a_paragraph q k =
            let seen : 1 ≤ length (past_marks first) =
            some_past m first (λ w. let wrong : line.Blank ≡ line.Text = sym w ∙ here.0 in absurd (cc)) in
            let own : AreLinesAt m (past_marks first ∷ others) = (kind_led m first seen ∙ here.0, text_lines_at m others here.1) in (
              record { sign = tt; are_marks = led_marks first; some = seen; in_cells = cells; apart = apart; own = own },
              subst (λ (j : ℕ). BeginApart (rows_from j behind)) (tables_same before) stops,
            )
        lined_so (a_heading x) q k = let wrong : kind.Heading x.level ≡ kind.Para = k ∙ kind_is in absurd (cc)

heading_on : (pages : Pages) (page : List ℕ) (i : ℕ) (is : List ℕ) (t : Tree) → IsThere pages page i is t → (s : StandsIn pages page t) (before : Lines) (own : List Item)
    (behind : Lines) → full_lines (expanded_page pages page).items ≡ before ++ own ∷ behind → AllTrue (open_after [] (written_rows 0 before))
    → kind_at (tables_behind 0 before) own ≡ line.Heading → size s.before ≡ size (joined before) + size (led_by own) → is_para (label t).kind ≡ false
    → Answer pages page i is t
heading_on pages page i is t n s before own behind are cells line_kind at kind_is =
    by
  where
    by : Answer pages page i is t
    by = inl (record {
      before = before;
      sign = [];
      marks = led_by own;
      first = past_marks own;
      others = [];
      behind = behind;
      stands = s;
      are = are ∙ ap (λ (l : List Item). before ++ l ∷ behind) (sym (led_whole own));
      begins = at;
      lined = lined_so;
      takes = λ k q h. takes_so pages page i is t n s (as_block before [] (led_by own) (past_marks own) [] k q) behind at h;
    })
      where
        lined_so : (k : TextBlock) (q : List ℕ) → kind_of (block_of k) ≡ (label t).kind
            → AreCallingLined (as_block before [] (led_by own) (past_marks own) [] k q ∷ []) behind
        lined_so a_paragraph q k = let wrong : true ≡ false = ap is_para k ∙ kind_is in absurd (cc)
        lined_so (a_heading x) q k =
            let seen : 1 ≤ length (past_marks own) =
            some_past (tables_behind 0 before) own (λ w. let wrong : line.Blank ≡ line.Heading = sym w ∙ line_kind in absurd (cc)) in
            (record { sign = tt; are_marks = led_marks own; some = seen; in_cells = cells; apart = tt; own = tt }, tt)

-- behind the sign of a table's end
end_on : (pages : Pages) (page : List ℕ) (i : ℕ) (is : List ℕ) (t : Tree) → IsThere pages page i is t → (s : StandsIn pages page t) (before : Lines) (own : List Item)
    (others behind : Lines) → full_lines (expanded_page pages page).items ≡ before ++ ((own ∷ others) ++ behind) → IsEndBlock before own others behind
    → size s.before ≡ begins_past before (end_sign own) (past_end own) → (label t).kind ≡ kind.Para → BeginsUnclosed (end_text own others) → Answer pages page i is t
end_on pages page i is t n s before own others behind are block at kind_is apart =
    inl (record {
      before = before;
      sign = end_sign own;
      marks = led_by (past_end own);
      first = past_marks (past_end own);
      others = others;
      behind = behind;
      stands = s;
      are = are ∙ ap (λ (k : List Item). before ++ ((k ∷ others) ++ behind)) (sym (sign_whole own));
      begins = begins;
      lined = lined_so;
      takes = λ k q g. takes_so pages page i is t n s (as_block before (end_sign own) (led_by (past_end own)) (past_marks (past_end own)) others k q) behind begins g;
    })
  where
    h : IsEndTold before own others behind
    h = end_told (full_lines (expanded_page pages page).items) before own others behind (page_signs pages page n.utf8 n.unrefused) are block apart

    begins : size s.before ≡ size (joined before) + size (end_sign own ++ led_by (past_end own))
    begins = omega (arith, at, size_both (end_sign own) (led_by (past_end own)))

    lined_so : (k : TextBlock) (q : List ℕ) → kind_of (block_of k) ≡ (label t).kind
        → AreCallingLined (as_block before (end_sign own) (led_by (past_end own)) (past_marks (past_end own)) others k q ∷ []) behind
    lined_so a_paragraph q k = (calling_on [] before (end_sign own) (led_by (past_end own)) (past_marks (past_end own)) others q h.told, h.stops)
    lined_so (a_heading x) q k = let wrong : kind.Heading x.level ≡ kind.Para = k ∙ kind_is in absurd (cc)

by_lines : (pages : Pages) (page : List ℕ) (i : ℕ) (is : List ℕ) (t : Tree) → IsThere pages page i is t → (s : StandsIn pages page t)
    → IsOfLines (full_lines (expanded_page pages page).items) (size s.before) s.block → Answer pages page i is t
by_lines pages page i is t n s (of_lines before first others behind are cells apart texts stops at tree_is) =
    let calls : List OuterCall = (expanded_page pages page).outer in
    let kind_is : (label t).kind ≡ kind.Para =
    ap (λ (u : Tree). (label u).kind) s.is ∙ ap (λ (u : ItemTree). (label (node_between calls s.number s.before u s.behind)).kind) tree_is
    ∙ para_kind calls s.number s.before (map text_row (first ∷ others)) s.behind in
    text_on pages page i is t n s before first others behind are cells apart texts stops at kind_is
by_lines pages page i is t n s (of_line before own behind are cells line_kind at tree_is) =
    let calls : List OuterCall = (expanded_page pages page).outer in
    let kind_is : is_para (label t).kind ≡ false =
    ap (λ (u : Tree). is_para (label u).kind) s.is ∙ ap (λ (u : ItemTree). is_para (label (node_between calls s.number s.before u s.behind)).kind) tree_is
    ∙ heading_kind calls s.number s.before (content (past_marks own)) s.behind in
    heading_on pages page i is t n s before own behind are cells line_kind at kind_is
by_lines pages page i is t n s (behind_an_end before own others behind are line_kind seen cells texts stops at tree_is) =
    by (unclosed_decided (end_text own others))
  where
    calls : List OuterCall
    calls = (expanded_page pages page).outer

    kind_is : (label t).kind ≡ kind.Para
    kind_is =
        ap (λ (u : Tree). (label u).kind) s.is ∙ ap (λ (u : ItemTree). (label (node_between calls s.number s.before u s.behind)).kind) tree_is
        ∙ para_kind calls s.number s.before (map text_row (past_end own ∷ others)) s.behind

    by : Decided (BeginsUnclosed (end_text own others)) → Answer pages page i is t
    by (inl u) =
        end_on pages page i is t n s before own others behind are (record { kind = line_kind; seen = seen; cells = cells; texts = texts; stops = stops }) at kind_is u
    by (inr f) = inr (record { stands = s; by_lines = a_brace_on_an_end before own others behind are line_kind seen f at })
by_lines pages page i is t n s (behind_a_rule before own others behind are line_kind seen cells texts stops at tree_is) =
    inr (record { stands = s; by_lines = text_on_a_rule before own (others ++ behind) are line_kind seen at })

pub on_lines : (pages : Pages) (page p : List ℕ) (t : Tree) → IsUtf8 page → refusal_of_page pages page ≡ None → IsReachedAt p (called_tree pages page) t
    → IsTextBlock (label t).kind → IsOnLines pages page p t ⊎ IsExceptedByLines pages page t
on_lines pages page [] t u r e b = absurd (body_none pages page t u r e b)
on_lines pages page (i ∷ is) t u r e b =
    let s : StandsOnLines pages page t = block_on_lines pages page (i ∷ is) t u r e b in
    let n : IsThere pages page i is t = record { utf8 = u; unrefused = r; there = below i is (called_tree pages page) t e; block = b; byte = block_byte pages page (i ∷ is) t u r e b } in
    by_lines pages page i is t n s.stands s.by_lines
