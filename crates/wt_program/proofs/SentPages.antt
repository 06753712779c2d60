-- Each edit of contents of a page has its HTML.
use Rattle.std.proofs.Common.{◌≡◌, ◌≢◌, ℕ, suc, ◌+◌, ◌*◌, ◌<◌, ◌≤◌, ◌^◌, Bool, true, false, None, List, [], ◌∷◌, ◌++◌, length, IsUtf8, refl, sym, ap, ap₂, ◌∙◌, subst, arith, append-nil}
use Rattle.std.specs.Prelude.{◌==◌, ◌||◌, Ok, if◌then◌else◌}
use Rattle.std.proofs.lemmas.Bool.Decides.{nat_tests}
use Rattle.std.proofs.lemmas.List.Elements.{recursion_from_All}
use Rattle.wt_span.specs.Items.{Item}
use Rattle.wt_tree.specs.declared.kind.Kind.{Kind}
use Rattle.wt_tree.specs.declared.kind.Kind.TheVariants as kind
use Rattle.wt_tree.specs.Kinds.{writing, is_numbered, is_section, texts_of_kind}
use Rattle.wt_tree.specs.Opened.{without_sections}
use Rattle.wt_tree.specs.Tiling.{is_group, numbers, numbers_of_all, ids_of_all, others, others_of_all}
use Rattle.wt_tree.specs.Tree.{Label, Tree, tree, Trees, none, more}
use Rattle.wt_html_grammar.specs.Markup.{Markup}
use Rattle.wt_schema.specs.Fit.{fit}
use Rattle.wt_schema.specs.Html.{groups, html_text}
use Rattle.wt_schema.specs.Read.{read, page as as_page}
use Rattle.wt_schema.specs.Unsourced.{unsourced}
use Rattle.wt_schema.specs.Written.{label_read, unranged, IsElementLabel, IsNumber, IsCutIn, IsWrittenGroup, is_childless, NodeIsWritten, AllWrittenIn}
use Rattle.wt_schema.proofs.Bare.{others_read}
use Rattle.wt_schema.proofs.OneReading.{one_read}
use Rattle.wt_schema.proofs.Whole.{written_stands, written_read}
use Rattle.wt_expand.specs.Expansion.{page_work}
use Rattle.wt_expand.specs.PageCalls.{expanded_page}
use Rattle.wt_expand.specs.Work.{Pages, first_refusal}
use Rattle.wt_expand.proofs.ExpandedWidth.{expanded_short}
use Rattle.wt_inline.specs.ItemTree.{ItemTrees, held_by_all}
use Rattle.wt_page.specs.Body.{meaning}
use Rattle.wt_page.proofs.HeldBody.{sources_meaning}
use Rattle.wt_annotated.specs.Counted.{numbered_in_all}
use Rattle.wt_annotated.specs.Labels.{width}
use Rattle.wt_sections.specs.SectionLaws.{NoneIsSection}
use Rattle.wt_sections.specs.Sections.{with_sections}
use Rattle.wt_page_round_trip.proofs.Counts.{page_few}
use Rattle.wt_page_round_trip.proofs.DrawnPages.{opened_again, few_groups_in}
use Rattle.wt_page_round_trip.proofs.ExpandedItems.{expanded_items}
use Rattle.wt_page_round_trip.proofs.OfPage.{ArePageItems}
use Rattle.wt_page_round_trip.proofs.Pages.{body_written as page_body_written}
use Rattle.wt_page_round_trip.proofs.PageShown.{body_nodes, page_shown}
use Rattle.wt_page_round_trip.proofs.SectionGroups.{groups_stay}
use Rattle.wt_page_round_trip.proofs.Sectioned.{IsWrittenBody, sections_written}
use Rattle.wt_checks.specs.Kept.{children}
use Rattle.wt_checks.proofs.InOrder.{Increasing, range_increasing}
use Rattle.wt_checks.proofs.Lookups.{AllZero}
use Rattle.wt_typed_blocks.specs.Edited.{Edited, stays, edited, round, Edits, no_edits, more_edits, page_nodes, sent_nodes, IsEdited, AreEdited}
use Rattle.wt_typed_blocks.specs.EditedUnmarked.{bare_nodes}
use Rattle.wt_called_edit_laws.specs.EditsAt.{sent_contents, bare_contents}
use Rattle.wt_called_edit_laws.specs.Groups.{called_tree}
use Rattle.wt_called_edit_laws.specs.TreeEdits.{IsNumberedBody}
use Rattle.wt_called_edit_laws.proofs.PageBody.{page_body}
use Rattle.wt_page_laws.specs.EditMarks.{document_marked, mark_by, tree_marked, trees_marked}
use Rattle.wt_page_laws.proofs.MarkedBodies.{document_fits}
use Rattle.wt_page_laws.proofs.MarkedText.{marked_text}
use Rattle.wt_program.specs.EditsSent.{body_read, HasHtml}
use Rattle.wt_program.specs.SentHtml.{own_nodes, own_tree, edited_html, AreRead, is_in, edited_numbers, numbers_edited}
use Rattle.wt_program.proofs.SentMarks.{ChosenAre, nodes_marked}
use Rattle.wt_program.proofs.SentTrees.{body_written, body_groups, nodes_read}

-- ---- a page has fewer groups than there are numbers

items_few : (xs : List Item) → ArePageItems xs → 3 * width xs < 2 ^ 32 → numbered_in_all (body_nodes xs) + width (held_by_all (body_nodes xs)) < 2 ^ 32
unfolding meaning
items_few xs h room =
    let ts : ItemTrees = body_nodes xs in
    let few : 0 + numbered_in_all ts ≤ 2 * width xs = page_few xs h.page in
    let same : width (held_by_all ts ++ []) ≡ width xs = ap length (sources_meaning xs) in
    let wide : width (held_by_all ts ++ []) ≡ width (held_by_all ts) = ap width (append-nil (held_by_all ts)) in
    omega (arith, few, same, wide, room)

page_groups : (pages : Pages) (page : List ℕ) → IsUtf8 page → length page < 2 ^ 30 → first_refusal pages page (page_work pages page) ≡ None
    → groups (called_tree pages page) < 2 ^ 64
unfolding meaning
page_groups pages page u room e =
    let xs : List Item = (expanded_page pages page).items in
    let h : ArePageItems xs = expanded_items pages page u e in
    let short = expanded_short pages page e in
    let wide : 3 * width xs < 2 ^ 32 = omega (arith, short, room) in
    subst (λ (n : ℕ). n < 2 ^ 64) (groups_stay (called_tree pages page))
    (few_groups_in (expanded_page pages page).outer (body_nodes xs) (page_shown xs h).0 (items_few xs h wide))

-- ---- what may be written holds no section

node_no_section : (j : Kind) (k : ℕ) (parent : Kind) (l : Label) (b : Bool) (H G : Type 0) → NodeIsWritten (writing j) k parent l b H G → is_section j ≡ false
node_no_section (kind.Section n) k parent l b H G h = absurd h
node_no_section j k parent l b H G h = refl

none_section : (ts : Trees) (k : ℕ) (parent : Kind) → AllWrittenIn k parent ts → NoneIsSection ts
none_section none k parent h = tt
none_section (more (tree l us) ts) k parent h = (
  node_no_section l.kind k parent l (is_childless us) (IsCutIn (texts_of_kind l.kind) us × AllWrittenIn (suc k) l.kind us) (IsWrittenGroup k parent l us) h.0,
  none_section ts k parent h.2,
)

opened_body : (t : Tree) → IsWrittenBody t → without_sections (with_sections t) ≡ t
opened_body (tree l ts) w = opened_again (tree l ts) (none_section ts 8 kind.Body w.2)

-- ---- the body's label

body_zero : (l : Label) → l.kind ≡ kind.Body → IsElementLabel l → l.id ≡ 0
body_zero l e h = subst (λ (k : Kind). IsNumber (is_numbered k) l.id) e h.number

label_is : (l : Label) → l.kind ≡ kind.Body → IsElementLabel l → label_read l ≡ record (label_read l) { kind = kind.Body; id = 0; attrs = l.attrs; mw = l.mw }
label_is l e h = ap₂ (λ (k : Kind) (i : ℕ). record (label_read l) { kind = k; id = i }) e (body_zero l e h)

body_is : (t : Tree) (es : Edits) → IsWrittenBody t → AreEdited es → AreRead es → unranged (own_tree t es) ≡ bare_contents t es (body_read t)
body_is (tree l ts) es w s r =
    others_read l (own_nodes es) (ap is_group w.0)
    ∙ ap₂ tree (label_is l w.0 w.1) (sym (nodes_read es s r))

-- ---- without marks

own_few : (t : Tree) (es : Edits) → page_nodes es ≡ children t → AreEdited es → AreRead es → IsWrittenBody t → groups t < 2 ^ 64
    → groups (with_sections (own_tree t es)) < 2 ^ 64
own_few (tree l ts) es e s r w few =
    let fewer : groups (own_tree (tree l ts) es) ≤ groups (tree l ts) = body_groups (tree l ts) es e s r w.0 in
    let same : groups (with_sections (own_tree (tree l ts) es)) ≡ groups (own_tree (tree l ts) es) = groups_stay (own_tree (tree l ts) es) in
    omega (arith, fewer, same, few)

read_is : (t : Tree) (es : Edits) → page_nodes es ≡ children t → AreEdited es → AreRead es → IsWrittenBody t
    → unranged (without_sections (with_sections (own_tree t es))) ≡ bare_contents t es (body_read t)
read_is t es e s r w = ap unranged (opened_body (own_tree t es) (body_written t es e s r w)) ∙ body_is t es w s r

pub unmarked_read : (t : Tree) (es : Edits) → page_nodes es ≡ children t → AreEdited es → AreRead es → IsWrittenBody t → groups t < 2 ^ 64
    → read (edited_html t es) ≡ as_page (bare_contents t es (body_read t)) None
unmarked_read t es e s r w few =
    let own : Tree = own_tree t es in
    written_read (with_sections own) (sections_written own (body_written t es e s r w)) (own_few t es e s r w few)
    ∙ ap (λ (u : Tree). as_page u None) (read_is t es e s r w)

-- ---- with marks

abbrev chosen : Edits → ℕ → Bool
chosen es n = is_in n (numbers_edited es)

in_both : (xs ys : List ℕ) → is_in 0 xs ≡ false → is_in 0 ys ≡ false → is_in 0 (xs ++ ys) ≡ false
in_both [] ys e h = h
in_both (x ∷ xs) ys e h = by_test (0 == x) e (λ i. in_both xs ys i h)
  where
    by_test : (b : Bool) → (b || is_in 0 xs) ≡ false → (is_in 0 xs ≡ false → is_in 0 (xs ++ ys) ≡ false) → (b || is_in 0 (xs ++ ys)) ≡ false
    by_test true i f = absurd (cc i)
    by_test false i f = f i

not_zero : (n : ℕ) → n ≢ 0 → (0 == n) ≡ false
not_zero n h = grind (arith, nat_tests)

mutual
  one_unchosen : (e : Edited) → IsEdited e → is_in 0 (edited_numbers e) ≡ false
  one_unchosen (stays t u) s = refl
  one_unchosen (edited k l m ps) s = ap (λ b. b || false) (not_zero l.id s.0)
  one_unchosen (round l m es) s = zero_unchosen es s.1

  zero_unchosen : (es : Edits) → AreEdited es → is_in 0 (numbers_edited es) ≡ false
  zero_unchosen no_edits s = refl
  zero_unchosen (more_edits e es) s = in_both (edited_numbers e) (numbers_edited es) (one_unchosen e s.0) (zero_unchosen es s.1)

are_chosen : (f : ℕ → Bool) (ms ns : List ℕ) → ((n : ℕ) → f n ≡ is_in n ms) → ChosenAre f ms ns
are_chosen f ms [] h = tt
are_chosen f ms (n ∷ ns) h = (h n, are_chosen f ms ns h)

body_numbers : (l : Label) (ts : Trees) → l.kind ≡ kind.Body → numbers (tree l ts) ≡ numbers_of_all ts
body_numbers l ts e = ap (λ (k : Kind). (if is_numbered k then l.id ∷ [] else []) ++ (if is_group k then [] else numbers_of_all ts)) e

body_others : (l : Label) (ts : Trees) → l.kind ≡ kind.Body → others (tree l ts) ≡ l.id ∷ others_of_all ts
body_others l ts e = ap (λ (k : Kind). (if is_numbered k then [] else l.id ∷ []) ++ (if is_group k then ids_of_all ts else others_of_all ts)) e

nodes_chosen : (t : Tree) (es : Edits) → page_nodes es ≡ children t → AreEdited es → AreRead es → IsNumberedBody t
    → sent_nodes es ≡ trees_marked (chosen es) (bare_nodes es)
nodes_chosen (tree l ts) es e s r h =
    let all : List ℕ = numbers_of_all (page_nodes es) in
    let same : numbers (tree l ts) ≡ all = body_numbers l ts h.body ∙ ap numbers_of_all (sym e) in
    let rising : Increasing (numbers (tree l ts)) = subst Increasing (sym h.numbered.counted) (range_increasing (length (numbers (tree l ts))) 1) in
    let zero : AllZero (others (tree l ts)) = recursion_from_All (λ n. n ≡ 0) (others (tree l ts)) h.numbered.unnumbered in
    let rest : AllZero (others_of_all ts) = (subst AllZero (body_others l ts h.body) zero).1 in
    nodes_marked (chosen es) es (zero_unchosen es s) s r (subst Increasing same rising) (subst (λ us. AllZero (others_of_all us)) (sym e) rest)
    (are_chosen (chosen es) (numbers_edited es) all (λ n. refl))

sent_is : (t : Tree) (es : Edits) → page_nodes es ≡ children t → AreEdited es → AreRead es → IsWrittenBody t → IsNumberedBody t
    → tree_marked (chosen es) (bare_contents t es (body_read t)) ≡ sent_contents t es (body_read t)
sent_is (tree l ts) es e s r w h =
    let z : chosen es 0 ≡ false = zero_unchosen es s in
    ap₂ (λ (b : Bool) (us : Trees). tree (record (label_read l) { kind = kind.Body; id = 0; attrs = l.attrs; mark = mark_by b l.mark; mw = l.mw }) us) z
    (sym (nodes_chosen (tree l ts) es e s r h))
    ∙ ap (λ m. tree (record (label_read l) { kind = kind.Body; id = 0; attrs = l.attrs; mark = m; mw = l.mw }) (sent_nodes es)) w.1.mark

pub has_html : (t : Tree) (es : Edits) → page_nodes es ≡ children t → AreEdited es → AreRead es → IsWrittenBody t → IsNumberedBody t → groups t < 2 ^ 64
    → HasHtml t es
has_html t es e s r w h few =
    let own : Tree = own_tree t es in
    let z : chosen es 0 ≡ false = zero_unchosen es s in
    let stands = written_stands (with_sections own) (sections_written own (body_written t es e s r w)) (own_few t es e s r w few) in
    let m : Markup = stands.0 in
    let u : Tree = bare_contents t es (body_read t) in
    let fits : fit m ≡ Ok u = stands.2 ∙ ap Ok (read_is t es e s r w) in
    let text = marked_text (chosen es) (html_text (with_sections own)) m u z stands.1 fits stands.3 in
    let is : fit (document_marked (chosen es) m) ≡ Ok (sent_contents t es (body_read t)) =
    document_fits (chosen es) m u z fits ∙ ap Ok (sent_is t es e s r w h) in
    record {
      unmarked = unmarked_read t es e s r w few;
      input = text.0;
      unsourced = unsourced (document_marked (chosen es) m);
      marked = one_read text.0 (as_page (sent_contents t es (body_read t)) (unsourced (document_marked (chosen es) m)))
          (document_marked (chosen es) m, text.1, is, refl);
    }

-- ---- of a page

pub page_html : (pages : Pages) (page : List ℕ) (es : Edits) → IsUtf8 page → length page < 2 ^ 30 → first_refusal pages page (page_work pages page) ≡ None
    → page_nodes es ≡ children (called_tree pages page) → AreEdited es → AreRead es → HasHtml (called_tree pages page) es
page_html pages page es u room e old s r =
    let b = page_body pages page u e in
    let h : IsNumberedBody (called_tree pages page) = record { body = b.kind; numbered = b.numbered; alone = b.unframed } in
    has_html (called_tree pages page) es old s r (page_body_written pages page u room e) h (page_groups pages page u room e)
