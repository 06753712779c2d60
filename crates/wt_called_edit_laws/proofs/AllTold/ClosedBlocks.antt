-- A block of an expanded page whose lines are the page's own: the marks that begin it are ended; and where nothing is behind it, its node goes up to the
-- page's end, and a line break behind it is read as one, if it holds no mark that nothing ends.
use Rattle.std.proofs.Common.{arith, ◌≡◌, ◌≤◌, ℕ, ◌+◌, true, false, Option, None, List, [], ◌∷◌, ◌++◌, length, map, refl, sym, ap, ap₂, ◌∙◌, subst, append-nil, append_assoc, length-append}
use Rattle.std.specs.Prelude.{◌==◌}
use Rattle.std.specs.Str.{IsUtf8}
use Rattle.wt_span.specs.Braces.{Members, lexeme, call, none, more, width_of_all}
use Rattle.wt_span.specs.Items.{Item, sources}
use Rattle.wt_span.specs.Origins.{OuterCall}
use Rattle.wt_span.specs.Runs.{AreRuns}
use Rattle.wt_span.proofs.RunLaws.{runs_are}
use Rattle.wt_tree.specs.Tree.{Tree, label}
use Rattle.wt_annotated.specs.Seams.{last_of, text_from}
use Rattle.wt_annotated.proofs.Seams.{text_append_from}
use Rattle.wt_braces.specs.Words.{total_width}
use Rattle.wt_inline.specs.ItemTree.{ItemTree, inner, tree_items}
use Rattle.wt_expand.specs.PageCalls.{expanded_page}
use Rattle.wt_expand.specs.PageItems.{page_items, items_of_words}
use Rattle.wt_expand.specs.Work.{Pages}
use Rattle.wt_commands.specs.Answers.{refusal_of_page}
use Rattle.wt_lines.specs.Lines.{goes_on, content, full_lines}
use Rattle.wt_tables.specs.Parts.{joined}
use Rattle.wt_transclusion.specs.Stretch.{AreFull}
use Rattle.wt_page.specs.Body.{meaning}
use Rattle.wt_page.specs.Lines.{ending}
use Rattle.wt_page.proofs.Ends.{content_ending}
use Rattle.wt_text_edit_laws.specs.PageCuts.{EndsClosed, EndClosed}
use Rattle.wt_text_edit_laws.specs.TextBlocks.{source_of}
use Rattle.wt_text_edit_laws.specs.Unclosed.{is_unclosed_item, last_of as last_item, reaches}
use Rattle.wt_text_edit_laws.proofs.Cuts.ItemCuts.{HaveBytes, page_from, from_has}
use Rattle.wt_beside_laws.specs.OpenEnds.{ShownLast}
use Rattle.wt_beside_laws.proofs.Derived.BlockContents.{BlockSeen}
use Rattle.wt_beside_laws.proofs.Derived.BodyRead.{parts_are}
use Rattle.wt_beside_laws.proofs.Own.OpenLast.{ClosedLast, closed_behind, last_closed, closed_end}
use Rattle.wt_called_edit_laws.specs.AllTold.{IsBesideTexts}
use Rattle.wt_called_edit_laws.specs.LinedAmong.{spots_of_lines, end_of_lines, AreOfPage, AreBeside}
use Rattle.wt_called_edit_laws.specs.PlacedLines.{LinedBlock, all_lines, lead_of}
use Rattle.wt_called_edit_laws.specs.RowBlocks.{StandsIn, node_between}
use Rattle.wt_called_edit_laws.specs.ToldLines.{Told, lined}
use Rattle.wt_called_edit_laws.specs.ToldTogether.{start_of}
use Rattle.wt_called_edit_laws.proofs.Among.BlockAt.{calls_of, IsRest}
use Rattle.wt_called_edit_laws.proofs.Among.Flattened.{flat_all}
use Rattle.wt_called_edit_laws.proofs.Among.LinedParts.{block_front, own_breaks, of_behind, page_rest, page_text}
use Rattle.wt_called_edit_laws.proofs.Among.Members.{flat_widths, words_size}
use Rattle.wt_called_edit_laws.proofs.Cells.SignLeads.{have_front, have_behind}
use Rattle.wt_called_edit_laws.proofs.Among.OwnItems.{from_page}
use Rattle.wt_called_edit_laws.proofs.Among.OwnSeams.{own_last, text_size, given}
use Rattle.wt_called_edit_laws.proofs.Among.ToldAmong.{LineThere, line_there, line_items}
use Rattle.wt_called_edit_laws.proofs.Cells.PlacedBlocks.{own_alone}
use Rattle.wt_called_edit_laws.proofs.Cells.PlacedLines.{own_items, Round, round}
use Rattle.wt_called_edit_laws.proofs.PartTexts.{own_text}
use Rattle.wt_called_edit_laws.proofs.AllTold.Chosen.{IsOwnBehind}
use Rattle.wt_called_edit_laws.proofs.AllTold.ClosedLines.{NoneBlank, lines_shown, no_bytes, closed_by, same_number}
use Rattle.wt_called_edit_laws.proofs.AllTold.Found.{size, tree_size, size_both}
use Rattle.wt_called_edit_laws.proofs.AllTold.LineKinds.{Lines}
use Rattle.wt_called_edit_laws.proofs.AllTold.OneNode.{page_joined, same_text}

-- ---- nothing is left of the expanded page where nothing is left of the page

none_first : (xs ys : List Item) → [] ≡ xs ++ ys → xs ≡ []
none_first [] ys e = refl
none_first (x ∷ xs) ys e = cc

none_rest : (xs ys : List Item) → [] ≡ xs ++ ys → ys ≡ []
none_rest [] ys e = sym e
none_rest (x ∷ xs) ys e = cc

no_members : (ms : Members) → AreFull ms → width_of_all ms ≡ 0 → ms ≡ none
no_members none h e = refl
no_members (more (lexeme (k, n)) ms) h e = absurd (omega (arith, h.0, e))
no_members (more (call k is) ms) h e = absurd (omega (arith, h.0.0, e))

nothing_left : (pages : Pages) (page : List ℕ) (p : ℕ) (ys : List Item) → IsRest pages page p ys [] → ys ≡ []
nothing_left pages page p ys h =
    let r = h.rest in
    let words : items_of_words (flat_all r.later) r.bytes ≡ [] = none_rest r.left (items_of_words (flat_all r.later) r.bytes) r.chars in
    let w : total_width (flat_all r.later) ≡ width_of_all r.later = flat_widths r.later in
    let n : length (sources (items_of_words (flat_all r.later) r.bytes)) ≡ total_width (flat_all r.later) =
    words_size (flat_all r.later) r.bytes (omega (arith, w, r.are.long)) in
    let width_is : width_of_all r.later ≡ 0 = omega (arith, w, n, ap (λ (xs : List Item). length (sources xs)) words) in
    let gone : r.later ≡ none = no_members r.later r.are.full width_is in
    r.items ∙ ap (λ (xs : List Item). xs ++ given pages r.number r.place r.start r.bytes r.later) (none_first r.left (items_of_words (flat_all r.later) r.bytes) r.chars)
    ∙ ap (given pages r.number r.place r.start r.bytes) gone

-- ---- the lines in the page

own_there : (pages : Pages) (page : List ℕ) (o : Told) (rest : Lines) → full_lines (expanded_page pages page).items ≡ all_lines (lined o ∷ []) rest
    → AreOfPage (own_items (lined o)) → 1 ≤ length (content (own_items (lined o)))
    → IsBesideTexts (expanded_page pages page) (joined (lined o).before) o → LineThere pages page (own_items (lined o)) (joined rest)
own_there pages page o rest are own some beside =
    let b : LinedBlock = lined o in
    let ls : Lines = all_lines (b ∷ []) rest in
    let r : IsRest pages page 0 ([] ++ joined ls) (page_items page) = page_rest pages page ls (page_joined pages page ls are) in
    let there : IsRest pages page 0 (block_front [] b ++ (own_items b ++ joined rest)) (page_items page) =
    subst (λ (zs : List Item). IsRest pages page 0 zs (page_items page)) (line_items [] b rest) r in
    let n : ℕ = length (text_from (calls_of pages page) None (joined b.before ++ lead_of b)) in
    let z : n ≡ 0 + n = omega arith in
    let long = ap length (content_ending (own_items b)) in
    let both = length-append (content (own_items b)) (ending (own_items b)) in
    line_there pages page 0 (block_front [] b) (own_items b) (joined rest) (page_items page) there (omega (arith, some, long, both)) own
    (subst (λ (m : ℕ). AreBeside m (m + length (sources (own_items b))) (expanded_page pages page).text_calls) z beside)

-- ---- nothing is behind it

-- what is behind it is nothing
record IsLastOwn (pages : Pages) (page : List ℕ) (o : Told) (rest : Lines) : Type 0 where
  front : List Item
  is : page_items page ≡ front ++ content (own_items (lined o))
  ends : (expanded_page pages page).items ≡ (joined (lined o).before ++ lead_of (lined o)) ++ content (own_items (lined o))

no_first : (xs ys : List ℕ) → xs ++ ys ≡ [] → xs ≡ []
no_first [] ys e = refl
no_first (x ∷ xs) ys e = cc

no_rest : (xs ys : List ℕ) → xs ++ ys ≡ [] → ys ≡ []
no_rest [] ys e = e
no_rest (x ∷ xs) ys e = cc

last_own : (pages : Pages) (page : List ℕ) (o : Told) (rest : Lines) → full_lines (expanded_page pages page).items ≡ all_lines (lined o ∷ []) rest
    → IsOwnBehind (expanded_page pages page) (joined (lined o).before) o
    → text_from (calls_of pages page) None (ending (own_items (lined o)) ++ joined rest) ≡ [] → IsLastOwn pages page o rest
last_own pages page o rest are p e =
    let calls : List OuterCall = calls_of pages page in
    let b : LinedBlock = lined o in
    let own : List Item = own_items b in
    let end : List Item = ending own in
    let t : LineThere pages page own (joined rest) = own_there pages page o rest are p.own p.some p.beside in
    let its : AreOfPage end = of_behind (content own) end (subst AreOfPage (sym (content_ending own)) p.own) in
    let text : text_from calls None (end ++ joined rest) ≡ sources end ++ text_from calls None (joined rest) =
    text_append_from calls None end (joined rest)
    ∙ ap₂ (λ (bs : List ℕ) (u : Option ℕ). bs ++ text_from calls u (joined rest)) (own_text calls None end (from_page end its)) (own_last end (from_page end its)) in
    let none : sources end ++ text_from calls None (joined rest) ≡ [] = sym text ∙ e in
    let have : HaveBytes (page_items page) = subst HaveBytes (sym (page_from page)) (from_has false 0 page) in
    let have_own : HaveBytes own = have_front own t.behind (have_behind t.front (own ++ t.behind) (subst HaveBytes t.is have)) in
    let no_end : end ≡ [] =
    no_bytes end (have_behind (content own) end (subst HaveBytes (sym (content_ending own)) have_own)) (no_first (sources end) (text_from calls None (joined rest)) none) in
    let no_behind : t.behind ≡ [] =
    no_bytes t.behind t.rest.some (sym t.rest.same ∙ no_rest (sources end) (text_from calls None (joined rest)) none) in
    let no_lines : joined rest ≡ [] =
    nothing_left pages page t.place (joined rest) (subst (IsRest pages page t.place (joined rest)) no_behind t.rest) in
    let own_is : own ≡ content own = sym (content_ending own) ∙ ap (λ (xs : List Item). content own ++ xs) no_end ∙ append-nil (content own) in
    let line : own ++ t.behind ≡ content own = ap (λ (xs : List Item). own ++ xs) no_behind ∙ append-nil own ∙ own_is in
    let expanded : own ++ joined rest ≡ content own = ap (λ (xs : List Item). own ++ xs) no_lines ∙ append-nil own ∙ own_is in
    record {
      front = t.front;
      is = t.is ∙ ap (λ (xs : List Item). t.front ++ xs) line;
      ends = page_joined pages page (all_lines (b ∷ []) rest) are ∙ line_items [] b rest ∙ ap (λ (xs : List Item). (joined b.before ++ lead_of b) ++ xs) expanded;
    }

pub own_closed : (pages : Pages) (page : List ℕ) (o : Told) (rest : Lines) (n : ℕ) → full_lines (expanded_page pages page).items ≡ all_lines (lined o ∷ []) rest
    → IsOwnBehind (expanded_page pages page) (joined (lined o).before) o → 1 ≤ length (lined o).first → (Round (lined o) rest → BlockSeen (content (own_items (lined o))))
    → NoneBlank n ((lined o).first ∷ (lined o).more) → source_of (lined o).block (lined o).text ≡ sources (content (own_items (lined o)))
    → (text_from (calls_of pages page) None (ending (own_items (lined o)) ++ joined rest) ≡ [] → is_unclosed_item (last_item (expanded_page pages page).items) ≡ false)
    → EndClosed (spots_of_lines pages page (map lined (o ∷ []))) (end_of_lines pages page (map lined (o ∷ [])) rest)
own_closed pages page o rest n are p some seen k is_source c = (
  subst (λ (bs : List ℕ). EndsClosed bs behind) (sym is_source) (closed_by (sources own) behind last),
  tt,
)
  where
    own : List Item
    own = content (own_items (lined o))

    behind : List ℕ
    behind = text_from (calls_of pages page) None (ending (own_items (lined o)) ++ joined rest)

    last : behind ≡ [] → EndsClosed (sources own) []
    last e =
        let b : LinedBlock = lined o in
        let i : IsLastOwn pages page o rest = last_own pages page o rest are p e in
        let xs : List Item = (expanded_page pages page).items in
        let all : page_items page ≡ i.front ++ (own ++ []) = i.is ∙ ap (λ (zs : List Item). i.front ++ zs) (sym (append-nil own)) in
        let closed : ClosedLast own = closed_behind (joined b.before ++ lead_of b) own (subst ClosedLast i.ends (last_closed xs (c e))) in
        let lines : Lines = all_lines (b ∷ []) rest in
        let runs : AreRuns goes_on lines xs = subst (λ (ms : Lines). AreRuns goes_on ms xs) are (runs_are goes_on xs) in
        let r : Round b rest = round b rest xs some runs (own_breaks (own_items b) p.own) in
        let alone : page_items (sources own) ≡ own = own_alone i.front own [] (ap page_items (parts_are page i.front own [] all) ∙ all) (seen r) in
        let own_runs : AreRuns goes_on (b.first ∷ b.more) (own_items b) =
        subst (λ (ms : Lines). AreRuns goes_on ms (own_items b)) r.own_are (runs_are goes_on (own_items b)) in
        let shown : ShownLast own = lines_shown n b.first b.more (own_items b) own_runs k in
        closed_end (sources own) (subst ShownLast (sym alone) shown) (subst ClosedLast (sym alone) closed)

-- ---- its node

between_reaches : (calls : List OuterCall) (n m : ℕ) (before : List Item) (u : ItemTree) (behind : List Item)
    → length (text_from calls None before) + length (text_from calls (last_of None before) (tree_items u)) ≡ m
    → reaches m (label (node_between calls n before u behind)).ranges ≡ true
between_reaches calls n m before (inner h o ts c) behind e = ap (λ (k : ℕ). k == m) e ∙ same_number m

pub own_reaches : (pages : Pages) (page : List ℕ) (t : Tree) (s : StandsIn pages page t) (o : Told) (rest : Lines) → IsUtf8 page → refusal_of_page pages page ≡ None
    → full_lines (expanded_page pages page).items ≡ all_lines (lined o ∷ []) rest → IsOwnBehind (expanded_page pages page) (joined (lined o).before) o
    → size s.before ≡ start_of 0 o → tree_size s.block + size (ending (own_items (lined o))) ≡ size (own_items (lined o))
    → text_from (calls_of pages page) None (ending (own_items (lined o)) ++ joined rest) ≡ [] → reaches (length page) (label t).ranges ≡ true
own_reaches pages page t s o rest u r are p at own_size e =
    let calls : List OuterCall = calls_of pages page in
    let b : LinedBlock = lined o in
    let own : List Item = own_items b in
    let i : IsLastOwn pages page o rest = last_own pages page o rest are p e in
    let items : List Item = (expanded_page pages page).items in
    let front : List Item = (joined b.before ++ lead_of b) ++ content own in
    let node : List Item = s.before ++ tree_items s.block in
    let whole : tree_items (meaning items) ≡ node ++ s.behind = s.whole ∙ sym (append_assoc s.before (tree_items s.block) s.behind) in
    let all : items ≡ front ++ [] = i.ends ∙ sym (append-nil front) in
    let sizes : size node ≡ size front =
    omega (
      arith,
      at,
      own_size,
      size_both s.before (tree_items s.block),
      size_both (joined b.before ++ lead_of b) (content own),
      size_both (joined b.before) (lead_of b),
      sym (size_both (content own) (ending own)) ∙ ap size (content_ending own),
    ) in
    let text : text_from calls None node ≡ page =
    same_text pages page front [] node s.behind u r whole all sizes ∙ ap (text_from calls None) (sym i.ends) ∙ page_text pages page in
    subst (λ (v : Tree). reaches (length page) (label v).ranges ≡ true) (sym s.is)
    (between_reaches calls s.number (length page) s.before s.block s.behind (sym (text_size calls None s.before (tree_items s.block)) ∙ ap length text))
