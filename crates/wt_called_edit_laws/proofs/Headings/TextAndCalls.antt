-- A heading of texts and calls: its nodes in the page's tree are these texts, and a group for each call.
use Rattle.std.proofs.Common.{arith, ◌≡◌, ◌⊎◌, inl, inr, ℕ, ◌+◌, ◌<◌, true, false, List, [], ◌∷◌, length, refl, sym, ap, ◌∙◌, subst}
use Rattle.wt_tree.specs.declared.kind.Kind.TheVariants as kind
use Rattle.wt_tree.specs.Kinds.{is_leaf}
use Rattle.wt_tree.specs.Tree.{Tree, Trees, label}
use Rattle.wt_span.specs.Items.{Item, sources}
use Rattle.wt_span.specs.Origins.{OuterCall}
use Rattle.wt_guards.specs.Content.{Thing}
use Rattle.wt_inline.specs.ItemTree.{plain}
use Rattle.wt_inline.specs.Parts.{Part}
use Rattle.wt_checks.specs.Kept.{children as nodes_in}
use Rattle.wt_annotated.specs.CutTexts.{cut_texts, all_cut_texts}
use Rattle.wt_annotated.specs.Numbering.{next_after}
use Rattle.wt_expand.specs.PageCalls.{expanded_page}
use Rattle.wt_expand.specs.Work.{Pages}
use Rattle.wt_original.specs.Kept.{kept_nodes, found_in}
use Rattle.wt_original.specs.Numbers.{counts_up}
use Rattle.wt_link_spelling.specs.Spelling.{children_of}
use Rattle.wt_part_laws.specs.CallPieces.{CallPiece, pieces_in_page}
use Rattle.wt_part_laws.proofs.CallPieces.{as_pieces}
use Rattle.wt_part_laws.specs.Expanded.{part_items, calls_in}
use Rattle.wt_part_laws.specs.HeldCalls.{block_in}
use Rattle.wt_part_laws.proofs.HeldBlocks.{given_block_is}
use Rattle.wt_text_edit_laws.specs.Contents.{content_parts_of}
use Rattle.wt_text_edit_laws.specs.LonePages.{page_chars}
use Rattle.wt_text_edit_laws.specs.ReadContents.{IsReadContent}
use Rattle.wt_text_edit_laws.specs.TextBlocks.{a_heading, source_of, IsFrame}
use Rattle.wt_text_edit_laws.specs.TypedHeadings.{Sides, opening, closing_items}
use Rattle.wt_beside_laws.specs.Called.{IsSeenIn, AllSeenIn}
use Rattle.wt_beside_laws.specs.OwnSigns.{HaveOwn}
use Rattle.wt_beside_laws.specs.StyledBlocks.{all_numbers, things_with}
use Rattle.wt_beside_laws.proofs.Groups.CalledHeadings.{round_given}
use Rattle.wt_beside_laws.proofs.OwnSigns.{Every, Finds}
use Rattle.wt_called_edit_laws.specs.CalledContents.{tree_round}
use Rattle.wt_called_edit_laws.specs.CalledEdits.{page_things, AreChildrenBeside, IsBesideCalls}
use Rattle.wt_called_edit_laws.specs.PageThings.{AllMeetLater, thing_sources}
use Rattle.wt_called_edit_laws.specs.PartTexts.{AreSourcesAt}
use Rattle.wt_called_edit_laws.specs.PiecedParagraphs.{IsHeadingInPieces, IsGroupCall, IsSeenPiece, AreSeenPieces, IsHeadingOfCalls}
use Rattle.wt_called_edit_laws.specs.Settled.{settled, all_settled}
use Rattle.wt_called_edit_laws.specs.Written.{IsWrittenAs}
use Rattle.wt_called_edit_laws.specs.WrittenAnew.{StayButForOthers}
use Rattle.wt_called_edit_laws.proofs.Beside.Counts.{block_bare, settled_counts}
use Rattle.wt_called_edit_laws.proofs.Headings.Framed.{framed_written}
use Rattle.wt_called_edit_laws.proofs.Whole.Blocks.{nodes_are}
use Rattle.wt_called_edit_laws.proofs.Whole.Contents.{has_call}
use Rattle.wt_called_edit_laws.proofs.Whole.PartsIn.{simple_parts}
use Rattle.wt_called_edit_laws.proofs.Whole.TextAndCalls.{a_group, nodes_from, nodes_own, nodes_show, IsCallThing, AreCallThings, ThingsOf, nodes_things, call_things, some_things, all_meet_none, same_nodes, block_finds}
use Rattle.wt_called_edit_laws.proofs.Whole.SourcesAt.{sources_before}
use Rattle.wt_called_edit_laws.proofs.Written.InPieces.{pieces_items, pieces_written}
use Rattle.wt_called_edit_laws.proofs.Written.NewContents.{calls_of, work_of}

-- ---- what is last in each

own_seen : (pages : Pages) (b : List ℕ) (t : Thing) → b ≡ t.source → IsCallThing pages t → ((expanded_page pages b).outer ≡ []) ⊎ IsSeenPiece pages b
    → IsSeenIn pages t
own_seen pages b t e c (inl z) =
    let w : IsGroupCall pages t.source = c.call in
    let some : 0 < calls_in pages t.source = has_call pages 0 a_group t.source (w.gives a_group) in
    let none : calls_in pages t.source ≡ 0 = ap length (subst (λ (q : List ℕ). (expanded_page pages q).outer ≡ []) e z) in
    absurd (omega (arith, some, none))
own_seen pages b t e c (inr k) = subst (λ (q : List ℕ). IsSeenPiece pages q) e k

things_seen : (pages : Pages) (bs : List (List ℕ)) (ts : List Thing) → StayButForOthers pages bs (thing_sources ts) → AreCallThings pages ts
    → AreSeenPieces pages bs → AllSeenIn pages ts
things_seen pages [] [] e h k = tt
things_seen pages [] (t ∷ ts) e h k = absurd e
things_seen pages (b ∷ bs) [] e h k = tt
things_seen pages (b ∷ bs) (t ∷ ts) (inl e) h k = (own_seen pages b t e.0 h.0 k.0, things_seen pages bs ts e.1 h.1 k.1)
things_seen pages (b ∷ bs) (t ∷ ts) (inr e) h k = things_seen pages bs (t ∷ ts) e.1 h k.1

pub heading_pieced : (pages : Pages) (s : Sides) (q : List ℕ) → IsHeadingOfCalls pages s q → IsHeadingInPieces pages s q
heading_pieced pages s q h =
    let some = some_things pages h.pieces h.each in
    record {
      pieces = h.pieces;
      is = h.is;
      parts = h.parts;
      nodes = some.nodes;
      things = call_things pages some.nodes some.are.1 (all_meet_none pages some.nodes some.placeless);
      among = some.are.0;
      seen = things_seen pages h.pieces some.nodes some.are.0 some.are.1 h.seen;
      read = h.read;
      line = h.line;
      texts = λ calls i a.
          simple_parts calls (part_items pages i q) (content_parts_of (a_heading s) (part_items pages i q)) (h.texts i);
      groups = h.groups;
      shut = h.shut;
    }

-- ---- the block

pub heading_beside : (pages : Pages) (s : Sides) (q : List ℕ) (block : Tree) (n at i : ℕ) (calls : List OuterCall) → 0 < n
    → block ≡ settled n at (cut_texts (block_in calls (tree_round (a_heading s) (part_items pages i q))))
    → AreSourcesAt calls i (expanded_page pages (source_of (a_heading s) q)).outer → IsHeadingOfCalls pages s q → AllMeetLater pages (page_things block)
    → IsBesideCalls pages (a_heading s) q block
heading_beside pages s q block n at i calls some is sources_are h meets =
    let bs : List (List ℕ) = h.pieces in
    let r : IsReadContent (a_heading s) q = h.read in
    let f : IsFrame s = r.begins in
    let o : List Item = page_chars (opening s) in
    let c : List Item = closing_items s in
    let ps : List Part = content_parts_of (a_heading s) (part_items pages i q) in
    let m : ℕ = next_after (kind.Heading s.level) n in
    let a : ℕ = at + length (sources o) in
    let v : Tree = cut_texts (block_in calls (tree_round (a_heading s) (part_items pages i q))) in
    let own : IsWrittenAs pages q (λ j. pieces_items pages j bs) (calls_of pages bs) (work_of pages bs) =
    subst (λ (ys : List ℕ). IsWrittenAs pages ys (λ j. pieces_items pages j bs) (calls_of pages bs) (work_of pages bs)) h.is (pieces_written pages bs h.parts) in
    let w = framed_written pages s q (λ j. pieces_items pages j bs) (calls_of pages bs) (work_of pages bs) h.read own in
    let round = round_given ps s (as_pieces ps (h.texts i)) f.sides in
    let nodes : children_of block ≡ nodes_from pages calls i m a bs =
    ap children_of is ∙ same_nodes (settled n at v)
    ∙ ap (λ (u : Tree). nodes_in (settled n at (cut_texts u))) (given_block_is calls (plain (kind.Heading s.level)) o ps c round)
    ∙ nodes_are calls n at (plain (kind.Heading s.level)) o ps c refl refl
    ∙ ap (λ (us : List CallPiece). all_settled m a (all_cut_texts (pieces_in_page calls us))) (h.nodes i) in
    let given : AreSourcesAt calls i (calls_of pages bs) =
    sources_before calls i (calls_of pages bs) (expanded_page pages (source_of (a_heading s) q)).outer w.calls_are sources_are in
    let more_than : 0 < m = omega (arith, some) in
    let counts : counts_up n (kept_nodes block) ≡ true =
    subst (λ (t : Tree). counts_up n (kept_nodes t) ≡ true) (sym is)
    (settled_counts n at v some (block_bare calls (tree_round (a_heading s) (part_items pages i q)))) in
    let leaf : is_leaf (label block).kind ≡ false = ap (λ (t : Tree). is_leaf (label t).kind) is in
    let x : ℕ = 0 + length (label block).opening in
    let finds : Every (Finds block) (found_in x x (nodes_from pages calls i m a bs)) =
    subst (λ (us : Trees). Every (Finds block) (found_in x x us)) nodes (block_finds block n some counts leaf) in
    let things = nodes_things pages calls block i m a x x bs more_than h.each given finds in
    let there : ThingsOf pages bs (page_things block) =
    subst (λ (us : Trees). ThingsOf pages bs (things_with (kept_nodes block) (all_numbers us))) (sym nodes) things in
    record {
      pieces = bs;
      is = h.is;
      parts = h.parts;
      own = subst HaveOwn (sym nodes) (nodes_own pages calls i m a bs more_than h.each);
      children = subst (AreChildrenBeside pages) (sym nodes) (nodes_show pages calls i m a bs h.each given);
      things = call_things pages (page_things block) there.1 meets;
      among = there.0;
      round = (h.read, things_seen pages bs (page_things block) there.0 there.1 h.seen);
    }
