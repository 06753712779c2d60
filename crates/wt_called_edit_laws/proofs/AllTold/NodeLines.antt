-- The lines on which a paragraph or heading of a page's tree is, with its calls or without: what is on the page for them is its source. Which of a page's
-- lines are these can be told by how many items are before them, in the marks that begin them, and on them.
use Rattle.std.proofs.Common.{arith, ◌≡◌, ◌≤◌, ◌<◌, ◌⊎◌, inl, inr, ℕ, ◌+◌, true, false, None, List, [], ◌∷◌, ◌++◌, length, map, refl, sym, ap, ◌∙◌, subst, append-nil, append_assoc}
use Rattle.std.proofs.lemmas.Grind.{flat_map-append}
use Rattle.std.specs.Str.{IsUtf8}
use Rattle.wt_span.specs.Items.{Item}
use Rattle.wt_span.specs.Origins.{OuterCall}
use Rattle.wt_tree.specs.declared.kind.Kind.TheVariants as kind
use Rattle.wt_tree.specs.Source.{flat}
use Rattle.wt_tree.specs.Tree.{Tree, label}
use Rattle.wt_annotated.specs.Seams.{last_of, first_of, text_from}
use Rattle.wt_annotated.specs.Walked.{clean_at}
use Rattle.wt_inline.specs.Inside.{opened, opened_all}
use Rattle.wt_inline.specs.ItemTree.{ItemTree, tree_items}
use Rattle.wt_expand.specs.PageCalls.{expanded_page}
use Rattle.wt_expand.specs.Work.{Pages}
use Rattle.wt_commands.specs.Answers.{refusal_of_page}
use Rattle.wt_lines.specs.declared.kind.LineKind.TheVariants as line
use Rattle.wt_lines.specs.Lines.{content, full_lines}
use Rattle.wt_page.specs.Body.{meaning}
use Rattle.wt_page.specs.Headings.{heading}
use Rattle.wt_page.specs.Lines.{kind_at, ending}
use Rattle.wt_page.specs.Rows.{marks_len, rows_from}
use Rattle.wt_page.specs.Texts.{para}
use Rattle.wt_page.proofs.Ends.{content_ending}
use Rattle.wt_page.proofs.HeldBody.{held_meaning}
use Rattle.wt_page_round_trip.proofs.HeldPages.{items_ones, tree_ones}
use Rattle.wt_page_round_trip.proofs.OpenedPages.{AreOnes, opened_text}
use Rattle.wt_tables.specs.Parts.{joined}
use Rattle.wt_part_laws.specs.Slots.{AllTrue}
use Rattle.wt_typed_blocks.specs.Sent.{kind_of}
use Rattle.wt_text_edit_laws.specs.ParagraphBetween.{written_rows, tables_behind, EndApart, BeginApart}
use Rattle.wt_text_edit_laws.specs.TextBlocks.{TextBlock, a_paragraph, a_heading, block_of}
use Rattle.wt_text_edit_laws.specs.TypedHeadings.{Sides}
use Rattle.wt_text_edit_laws.proofs.Cuts.RowLines.{AllText}
use Rattle.wt_called_edit_laws.specs.AllTold.{text_on_a_rule}
use Rattle.wt_called_edit_laws.specs.AnyBlocks.{open_after}
use Rattle.wt_called_edit_laws.specs.CalledContents.{tree_round}
use Rattle.wt_called_edit_laws.specs.CallingTold.{IsExceptedSigned, untold, text_on_an_end}
use Rattle.wt_called_edit_laws.specs.Groups.{called_tree}
use Rattle.wt_called_edit_laws.specs.LinedHeadings.{sides_of, IsLinedHeading}
use Rattle.wt_called_edit_laws.specs.PlacedBlocks.{AreLinesAt}
use Rattle.wt_called_edit_laws.specs.PlacedLines.{LinedBlock, lead_of, all_lines}
use Rattle.wt_called_edit_laws.specs.RowBlocks.{IsTextBlock, IsReachedAt, StandsIn, node_between, text_row, opened_len, begins_at, AreOfText, IsOfLines, of_lines, of_line, behind_an_end, behind_a_rule, StandsOnLines}
use Rattle.wt_called_edit_laws.specs.ToldLines.{Told, a_paragraph_of, a_heading_on, lined, IsToldAt, AreTold}
use Rattle.wt_called_edit_laws.specs.ToldTogether.{start_of, told_starts, IsAmongNumbers}
use Rattle.wt_called_edit_laws.proofs.BlockTexts.{clean_flat}
use Rattle.wt_called_edit_laws.proofs.Cells.PlacedLines.{own_items}
use Rattle.wt_called_edit_laws.proofs.TextsMake.{flat_same}
use Rattle.wt_called_edit_laws.proofs.AllTold.Chosen.{less_or}
use Rattle.wt_called_edit_laws.proofs.AllTold.ChosenLines.{ones_front, ones_behind}
use Rattle.wt_called_edit_laws.proofs.AllTold.ClosedLines.{AllPast, heading_size, para_size}
use Rattle.wt_called_edit_laws.proofs.AllTold.Complete.{some_past, all_past}
use Rattle.wt_called_edit_laws.proofs.AllTold.Found.{size, tree_size, size_both}
use Rattle.wt_called_edit_laws.proofs.AllTold.HeadSigns.{head_begins}
use Rattle.wt_called_edit_laws.proofs.AllTold.LineBlocks.{block_on_lines}
use Rattle.wt_called_edit_laws.proofs.AllTold.LineKinds.{Lines, led_by, past_marks, led_whole, led_marks, kind_led}
use Rattle.wt_called_edit_laws.proofs.AllTold.OneNode.{front_same}
use Rattle.wt_called_edit_laws.proofs.AllTold.OnLines.{para_kind, is_para, heading_kind, line_front, line_whole, line_size}
use Rattle.wt_called_edit_laws.proofs.AllTold.OwnLines.{cancel_left}
use Rattle.wt_called_edit_laws.proofs.AllTold.OwnNodes.{same_walk, between_same}
use Rattle.wt_called_edit_laws.proofs.AllTold.OwnTrees.{IsRoundOf, paragraph_of, heading_of}
use Rattle.wt_called_edit_laws.proofs.AllTold.Scans.{Decided, Answered, text_told, heading_told, behind_lines, behind_joined}
use Rattle.wt_called_edit_laws.proofs.AllTold.Scanned.{Meets, without_before, Scan}
use Rattle.wt_called_edit_laws.proofs.AllTold.TextFacts.{tables_same, text_all, text_lines_at, past_unled, first_unled}

-- ---- which lines are meant

-- of one kind, whichever sides a heading has
abbrev pub IsOfKind : TextBlock → TextBlock → Type 0
IsOfKind a_paragraph a_paragraph = Unit {0}
IsOfKind a_paragraph (a_heading s) = ⊥
IsOfKind (a_heading s) a_paragraph = ⊥
IsOfKind (a_heading s) (a_heading z) = Unit {0}

-- behind no sign, and as many items before it, in its marks and on its lines, as this block has
pub record IsSameCut (front : List Item) (t o : Told) : Type 0 where
  pub before : length front ≡ length (joined (lined o).before)
  pub unsigned : length (lined t).sign ≡ 0
  pub marks : length (lead_of (lined t)) ≡ length (lead_of (lined o))
  pub own : length (own_items (lined t)) ≡ length (own_items (lined o))
  pub kind : IsOfKind (lined t).block (lined o).block

-- so of one of these
abbrev pub cut_among : List Told → List Item → Told → Type 0
cut_among [] front t = ⊥
cut_among (o ∷ os) front t = IsSameCut front t o ⊎ cut_among os front t

number_decided : (m n : ℕ) → Decided (m ≡ n)
number_decided m n = by (less_or m n) (less_or n m)
  where
    by : (m ≤ n) ⊎ (n < m) → (n ≤ m) ⊎ (m < n) → Decided (m ≡ n)
    by (inl a) (inl b) = inl (omega (arith, a, b))
    by (inr a) b = inr (λ e. omega (arith, a, e))
    by (inl a) (inr b) = inr (λ e. omega (arith, b, e))

kind_decided : (j k : TextBlock) → Decided (IsOfKind j k)
kind_decided a_paragraph a_paragraph = inl tt
kind_decided a_paragraph (a_heading s) = inr (λ h. h)
kind_decided (a_heading s) a_paragraph = inr (λ h. h)
kind_decided (a_heading s) (a_heading z) = inl tt

cut_decided : (front : List Item) (t o : Told) → Decided (IsSameCut front t o)
cut_decided front t o =
    by (number_decided (length front) (length (joined (lined o).before))) (number_decided (length (lined t).sign) 0) (number_decided (length (lead_of (lined t))) (length (lead_of (lined o))))
    (number_decided (length (own_items (lined t))) (length (own_items (lined o)))) (kind_decided (lined t).block (lined o).block)
  where
    by : Decided (length front ≡ length (joined (lined o).before)) → Decided (length (lined t).sign ≡ 0)
        → Decided (length (lead_of (lined t)) ≡ length (lead_of (lined o)))
        → Decided (length (own_items (lined t)) ≡ length (own_items (lined o))) → Decided (IsOfKind (lined t).block (lined o).block) → Decided (IsSameCut front t o)
    by (inl a) (inl u) (inl b) (inl c) (inl d) = inl (record { before = a; unsigned = u; marks = b; own = c; kind = d })
    by (inr f) u b c d = inr (λ h. f h.before)
    by (inl a) (inr f) b c d = inr (λ h. f h.unsigned)
    by (inl a) (inl u) (inr f) c d = inr (λ h. f h.marks)
    by (inl a) (inl u) (inl b) (inr f) d = inr (λ h. f h.own)
    by (inl a) (inl u) (inl b) (inl c) (inr f) = inr (λ h. f h.kind)

pub among_decided : (os : List Told) → Answered (cut_among os)
among_decided [] front t = inr (λ h. h)
among_decided (o ∷ os) front t = by (cut_decided front t o) (among_decided os front t)
  where
    by : Decided (IsSameCut front t o) → Decided (cut_among os front t) → Decided (cut_among (o ∷ os) front t)
    by (inl a) d = inl (inl a)
    by (inr f) (inl b) = inl (inr b)
    by (inr f) (inr g) = inr (λ h. elim h [
      | inl a ↦ f a
      | inr b ↦ g b
    ])

-- one of these blocks
abbrev pub IsIn : Told → List Told → Type 0
IsIn t [] = ⊥
IsIn t (o ∷ os) = (t ≡ o) ⊎ IsIn t os

same_cut : (o : Told) → (lined o).sign ≡ [] → IsSameCut (behind_lines [] (lined o).before) (without_before o) o
same_cut (a_paragraph_of b s m f r) e = record { before = ap length (behind_joined [] b); unsigned = ap length e; marks = refl; own = refl; kind = tt }
same_cut (a_heading_on b m l) e = record { before = ap length (behind_joined [] b); unsigned = refl; marks = refl; own = refl; kind = tt }

pub meets_among : (o : Told) (os : List Told) → (lined o).sign ≡ [] → IsIn o os → Meets (cut_among os) [] o
meets_among o [] n h = absurd h
meets_among o (u ∷ us) n (inl e) = inl (subst (IsSameCut (behind_lines [] (lined o).before) (without_before o)) e (same_cut o n))
meets_among o (u ∷ us) n (inr h) = inr (meets_among o us n h)

-- ---- the lines of a node

-- A node of a page's tree begins where some lines do, which are told, and has as many items. Where these are meant, a scan finds them.
pub record NodeLines (pages : Pages) (page : List ℕ) (t : Tree) : Type 0 where
  pub stands : StandsIn pages page t
  pub told : Told
  pub unsigned : (lined told).sign ≡ []
  pub rest : Lines
  pub are : full_lines (expanded_page pages page).items ≡ all_lines (lined told ∷ []) rest
  pub lines : AreTold (told ∷ []) rest
  pub begins : size stands.before ≡ start_of 0 told
  pub size_is : tree_size stands.block + size (ending (own_items (lined told))) ≡ size (own_items (lined told))
  pub kind : (k : TextBlock) → kind_of (block_of k) ≡ (label t).kind → IsOfKind (lined told).block k
  pub tree_so : (k : TextBlock) (xs : List Item) → IsOfKind (lined told).block k → IsRoundOf k xs (lined told) rest → stands.block ≡ tree_round k xs
  pub found : (os : List Told) (sc : Scan (cut_among os) [] [] false (full_lines (expanded_page pages page).items)) → Meets (cut_among os) [] told
      → IsAmongNumbers (start_of 0 told) (told_starts 0 sc.ts)

begins_so : (before : Lines) (l : List Item) (o : Told) → (lined o).before ≡ before → lead_of (lined o) ≡ led_by l → begins_at before l ≡ start_of 0 o
begins_so before l o e f = omega (arith, ap (λ (ls : Lines). size (joined ls)) e, ap size f)

of_para : (k : TextBlock) → kind_of (block_of k) ≡ kind.Para → IsOfKind a_paragraph k
of_para a_paragraph e = tt
of_para (a_heading x) e = let wrong : kind.Heading x.level ≡ kind.Para = e in absurd (cc)

of_head : (s : Sides) (k : TextBlock) → is_para (kind_of (block_of k)) ≡ false → IsOfKind (a_heading s) k
of_head s a_paragraph e = let wrong : true ≡ false = e in absurd (cc)
of_head s (a_heading z) e = tt

-- or it is one that lines don't tell, or is behind the sign of a table's end
pub record IsUntold (pages : Pages) (page : List ℕ) (t : Tree) : Type 0 where
  pub stands : StandsIn pages page t
  pub by_lines : IsExceptedSigned (full_lines (expanded_page pages page).items) (opened_len stands.before)

abbrev Answer : Pages → List ℕ → Tree → Type 0
Answer pages page t = NodeLines pages page t ⊎ IsUntold pages page t

text_lines : (pages : Pages) (page : List ℕ) (t : Tree) → (s : StandsIn pages page t) (before : Lines) (first : List Item) (others behind : Lines)
    → full_lines (expanded_page pages page).items ≡ before ++ ((first ∷ others) ++ behind) → AllTrue (open_after [] (written_rows 0 before)) → EndApart (written_rows 0 before)
    → AreOfText (tables_behind 0 before) (first ∷ others) → BeginApart (rows_from (tables_behind 0 before) behind) → size s.before ≡ begins_at before first
    → s.block ≡ para (map text_row (first ∷ others)) → NodeLines pages page t
text_lines pages page t s before first others behind are cells apart texts stops at tree_is =
    by
  where
    calls : List OuterCall
    calls = (expanded_page pages page).outer

    m : ℕ
    m = length (open_after [] (written_rows 0 before))

    o : Told
    o = text_told before first others

    here : AreOfText m (first ∷ others)
    here = subst (λ (j : ℕ). AreOfText j (first ∷ others)) (tables_same before) texts

    seen : AllPast (first ∷ others)
    seen = all_past m (first ∷ others) here

    own : AreLinesAt m (past_marks first ∷ others)
    own = (kind_led m first seen.0 ∙ here.0, text_lines_at m others here.1)

    unled : marks_len (content (joined (past_marks first ∷ others))) ≡ 0
    unled = first_unled (past_marks first) (joined others) seen.0 (past_unled first)

    told : IsToldAt [] o
    told = record { sign = tt; unclosed = tt; are_marks = led_marks first; some = seen.0; in_cells = cells; apart = apart; own = (own, unled) }

    behind_apart : BeginApart (rows_from m behind)
    behind_apart = subst (λ (j : ℕ). BeginApart (rows_from j behind)) (tables_same before) stops

    kind_is : (label t).kind ≡ kind.Para
    kind_is =
        ap (λ (u : Tree). (label u).kind) s.is ∙ ap (λ (u : ItemTree). (label (node_between calls s.number s.before u s.behind)).kind) tree_is
        ∙ para_kind calls s.number s.before (map text_row (first ∷ others)) s.behind

    line_is : led_by first ++ past_marks first ≡ first
    line_is = led_whole first

    tree_so : (k : TextBlock) (xs : List Item) → IsOfKind a_paragraph k → IsRoundOf k xs (lined o) behind → s.block ≡ tree_round k xs
    tree_so a_paragraph xs e r =
        tree_is ∙ ap (λ (l : List Item). para (map text_row (l ∷ others))) (sym line_is)
        ∙ paragraph_of xs before (led_by first) (past_marks first) others behind r (led_marks first)
        (subst (λ (l : List Item). AllText m (l ∷ others)) (sym line_is) (text_all m (first ∷ others) here))
    tree_so (a_heading x) xs e r = absurd e

    by : NodeLines pages page t
    by = record {
      stands = s;
      told = o;
      unsigned = refl;
      rest = behind;
      are = are ∙ ap (λ (l : List Item). before ++ ((l ∷ others) ++ behind)) (sym (led_whole first));
      lines = (told, behind_apart);
      begins = at ∙ begins_so before first o refl refl;
      size_is = ap (λ (u : ItemTree). tree_size u + size (ending (own_items (lined o)))) tree_is ∙ para_size first others seen;
      kind = λ k e. of_para k (e ∙ kind_is);
      tree_so = tree_so;
      found = λ os sc meets. sc.texts 0 before first others behind are told behind_apart (λ z. refl) meets;
    }

heading_line : (pages : Pages) (page : List ℕ) (t : Tree) → IsUtf8 page → refusal_of_page pages page ≡ None → (s : StandsIn pages page t) (before : Lines) (own : List Item)
    (behind : Lines) → full_lines (expanded_page pages page).items ≡ before ++ own ∷ behind → AllTrue (open_after [] (written_rows 0 before))
    → kind_at (tables_behind 0 before) own ≡ line.Heading → size s.before ≡ begins_at before own → s.block ≡ heading (content (past_marks own)) → NodeLines pages page t
heading_line pages page t utf8 unrefused s before own behind are cells line_kind at tree_is =
    by
  where
    calls : List OuterCall
    calls = (expanded_page pages page).outer

    m : ℕ
    m = length (open_after [] (written_rows 0 before))

    l : List Item
    l = past_marks own

    o : Told
    o = heading_told before own

    here : kind_at m own ≡ line.Heading
    here = subst (λ (j : ℕ). kind_at j own ≡ line.Heading) (tables_same before) line_kind

    seen : 1 ≤ length l
    seen = some_past m own (λ v. let wrong : line.Blank ≡ line.Heading = sym v ∙ here in absurd (cc))

    head : IsLinedHeading m l
    head = record { is_heading = kind_led m own seen ∙ here; first = head_begins pages page before own behind utf8 unrefused are m here seen }

    told : IsToldAt [] o
    told = record { sign = tt; unclosed = tt; are_marks = led_marks own; some = seen; in_cells = cells; apart = tt; own = head }

    one : l ++ [] ≡ l
    one = append-nil l

    line_is : tree_size (heading (content l)) + size (ending l) ≡ size l
    line_is = omega (arith, heading_size (content l), sym (size_both (content l) (ending l)) ∙ ap size (content_ending l))

    kind_is : is_para (label t).kind ≡ false
    kind_is =
        ap (λ (u : Tree). is_para (label u).kind) s.is ∙ ap (λ (u : ItemTree). is_para (label (node_between calls s.number s.before u s.behind)).kind) tree_is
        ∙ heading_kind calls s.number s.before (content l) s.behind

    tree_so : (k : TextBlock) (xs : List Item) → IsOfKind (a_heading (sides_of (content l))) k → IsRoundOf k xs (lined o) behind → s.block ≡ tree_round k xs
    tree_so a_paragraph xs e r = absurd e
    tree_so (a_heading x) xs e r = tree_is ∙ heading_of x xs before (led_by own) l behind r

    by : NodeLines pages page t
    by = record {
      stands = s;
      told = o;
      unsigned = refl;
      rest = behind;
      are = are ∙ ap (λ (k : List Item). before ++ k ∷ behind) (sym (led_whole own));
      lines = (told, tt);
      begins = at ∙ begins_so before own o refl refl;
      size_is = ap (λ (u : ItemTree). tree_size u + size (ending (l ++ []))) tree_is
          ∙ ap (λ (ys : List Item). tree_size (heading (content l)) + size (ending ys)) one ∙ line_is ∙ ap size (sym one);
      kind = λ k e. of_head (sides_of (content l)) k (ap is_para e ∙ kind_is);
      tree_so = tree_so;
      found = λ os sc meets. sc.heads 0 before own behind are told meets;
    }

by_lines : (pages : Pages) (page : List ℕ) (t : Tree) → IsUtf8 page → refusal_of_page pages page ≡ None → (s : StandsIn pages page t)
    → IsOfLines (full_lines (expanded_page pages page).items) (size s.before) s.block → Answer pages page t
by_lines pages page t u r s (of_lines before first others behind are cells apart texts stops at tree_is) =
    inl (text_lines pages page t s before first others behind are cells apart texts stops at tree_is)
by_lines pages page t u r s (of_line before own behind are cells line_kind at tree_is) =
    inl (heading_line pages page t u r s before own behind are cells line_kind at tree_is)
by_lines pages page t u r s (behind_an_end before own others behind are line_kind seen cells texts stops at tree_is) =
    inr (record { stands = s; by_lines = text_on_an_end before own others behind are line_kind seen at })
by_lines pages page t u r s (behind_a_rule before own others behind are line_kind seen cells texts stops at tree_is) =
    inr (record { stands = s; by_lines = untold (text_on_a_rule before own (others ++ behind) are line_kind seen at) })

pub node_lines : (pages : Pages) (page p : List ℕ) (t : Tree) → IsUtf8 page → refusal_of_page pages page ≡ None → IsReachedAt p (called_tree pages page) t
    → IsTextBlock (label t).kind → NodeLines pages page t ⊎ IsUntold pages page t
node_lines pages page p t u r e b =
    let s : StandsOnLines pages page t = block_on_lines pages page p t u r e b in
    by_lines pages page t u r s.stands s.by_lines

-- ---- its source

pub between_source : (calls : List OuterCall) (n : ℕ) (before : List Item) (u : ItemTree) (behind : List Item) → clean_at (last_of None before) (first_of behind None) u ≡ true
    → flat (node_between calls n before u behind) ≡ text_from calls None (tree_items u)
between_source calls n before u behind e =
    sym (flat_same (node_between calls n before u behind)) ∙ ap flat (between_same calls n before u behind e)
    ∙ clean_flat calls u (same_walk calls (last_of None before) (length (text_from calls None before)) (first_of behind None) u e).clean

-- where its lines begin
pub line_count : (pages : Pages) (page : List ℕ) (t : Tree) (n : NodeLines pages page t) → size n.stands.before ≡ size (line_front (lined n.told))
line_count pages page t n =
    let b : LinedBlock = lined n.told in
    let count : start_of 0 n.told ≡ size (line_front b) = omega (arith, line_size b) in
    n.begins ∙ count

pub line_source : (pages : Pages) (page : List ℕ) (t : Tree) → IsUtf8 page → refusal_of_page pages page ≡ None → (n : NodeLines pages page t)
    → flat t ≡ text_from (expanded_page pages page).outer None (content (own_items (lined n.told)))
line_source pages page t u r n =
    let calls : List OuterCall = (expanded_page pages page).outer in
    let items : List Item = (expanded_page pages page).items in
    let b : LinedBlock = lined n.told in
    let s : StandsIn pages page t = n.stands in
    let front : List Item = line_front b in
    let own : List Item = own_items b in
    let cs : List Item = content own in
    let more : List Item = ending own ++ joined n.rest in
    let mine : List Item = tree_items s.block in
    let whole : items ≡ front ++ (own ++ joined n.rest) = line_whole pages page b n.rest n.are in
    let parts : own ++ joined n.rest ≡ cs ++ more =
    ap (λ (zs : List Item). zs ++ joined n.rest) (sym (content_ending own)) ∙ append_assoc cs (ending own) (joined n.rest) in
    let all : items ≡ front ++ (cs ++ more) = whole ∙ ap (λ (zs : List Item). front ++ zs) parts in
    let tree_all : opened_all (tree_items (meaning items)) ≡ opened_all s.before ++ (opened_all mine ++ opened_all s.behind) =
    ap opened_all s.whole ∙ flat_map-append opened s.before (mine ++ s.behind)
    ∙ ap (λ (zs : List Item). opened_all s.before ++ zs) (flat_map-append opened mine s.behind) in
    let line_all : opened_all items ≡ opened_all front ++ (opened_all cs ++ opened_all more) =
    ap opened_all all ∙ flat_map-append opened front (cs ++ more) ∙ ap (λ (zs : List Item). opened_all front ++ zs) (flat_map-append opened cs more) in
    let both : opened_all s.before ++ (opened_all mine ++ opened_all s.behind) ≡ opened_all front ++ (opened_all cs ++ opened_all more) =
    sym tree_all ∙ held_meaning items ∙ line_all in
    let first : opened_all s.before ≡ opened_all front =
    front_same (opened_all s.before) (opened_all mine ++ opened_all s.behind) (opened_all front) (opened_all cs ++ opened_all more) both (line_count pages page t n) in
    let later : opened_all mine ++ opened_all s.behind ≡ opened_all cs ++ opened_all more =
    cancel_left (opened_all front) (opened_all mine ++ opened_all s.behind) (opened_all cs ++ opened_all more)
    (ap (λ (zs : List Item). zs ++ (opened_all mine ++ opened_all s.behind)) (sym first) ∙ both) in
    let sizes : size mine ≡ size cs = omega (arith, n.size_is, sym (size_both cs (ending own)) ∙ ap size (content_ending own)) in
    let same : opened_all mine ≡ opened_all cs = front_same (opened_all mine) (opened_all s.behind) (opened_all cs) (opened_all more) later sizes in
    let tree_one : AreOnes mine = ones_front mine s.behind (ones_behind s.before (mine ++ s.behind) (subst AreOnes s.whole (tree_ones pages page u r))) in
    let line_one : AreOnes cs = ones_front cs more (ones_behind front (cs ++ more) (subst AreOnes all (items_ones pages page u r))) in
    ap flat s.is ∙ between_source calls s.number s.before s.block s.behind s.clean
    ∙ sym (opened_text calls None mine tree_one) ∙ ap (text_from calls None) same ∙ opened_text calls None cs line_one
