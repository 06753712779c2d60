-- A page with paragraphs and headings anywhere takes any texts in them: it is a page among calls that has none, whatever the folder has.
use Rattle.std.proofs.Common.{◌≡◌, ◌≤◌, ℕ, Option, Some, None, List, length, map, sym, ap, ◌∙◌, subst}
use Rattle.wt_span.specs.declared.limits.TheConstants.{HTML_BYTES, PAGE_BYTES}
use Rattle.wt_span.specs.Origins.{Expanded}
use Rattle.wt_tree.specs.Tree.{Label, Tree}
use Rattle.wt_checks.specs.Kept.{children}
use Rattle.wt_devices.specs.Device.{Pages}
use Rattle.wt_page.specs.Body.{meaning}
use Rattle.wt_annotated.specs.Annotated.{annotated}
use Rattle.wt_annotated.specs.GroupData.{group_data}
use Rattle.wt_schema.specs.Read.{page as as_page, read}
use Rattle.wt_commands.specs.Answers.{done, edit_to}
use Rattle.wt_commands.specs.UnmarkedEdits.{DoneByEdit}
use Rattle.wt_part_laws.specs.Placeless.{all_placeless}
use Rattle.wt_typed_blocks.specs.Sent.{Sents}
use Rattle.wt_text_edit_laws.specs.BlockSpots.{BlockSpot, spots_source, AreRead, AreContents}
use Rattle.wt_text_edit_laws.specs.Parts.{part_tree}
use Rattle.wt_text_edit_laws.proofs.Blocks.BlockReading.{read_expanded}
use Rattle.wt_text_edit_laws.proofs.Blocks.TypedAgain.{read_again}
use Rattle.wt_called_edit_laws.specs.AnyBlocks.{AreSpots, typed_by, IsTextEdit, with_texts, new_page, AllLead}
use Rattle.wt_called_edit_laws.specs.AnyTexts.{sent_page, unmarked_page, IsUnmarkedEdit, TakesAnyTexts}
use Rattle.wt_called_edit_laws.specs.CalledTexts.{spots_tree, TakesTextsAmong}
use Rattle.wt_called_edit_laws.specs.OwnTexts.{AreTypings, own_sent}
use Rattle.wt_called_edit_laws.specs.Retyped.{AreRetyped}
use Rattle.wt_called_edit_laws.specs.TreeEdits.{IsEditOf, sent_body, free_sent_body, HasOwnEdits}
use Rattle.wt_called_edit_laws.proofs.CalmPages.{calm_pages}
use Rattle.wt_called_edit_laws.proofs.EditFacts.{IsFramedPage, framed_page, called_again, paths_of, spots_contents}
use Rattle.wt_called_edit_laws.proofs.GroupsAmong.{retyped_self}
use Rattle.wt_called_edit_laws.proofs.TextsTaken.{texts_by, texts_paths}
use Rattle.wt_called_edit_laws.proofs.Cells.CalledFrames.{texts_are_contents}
use Rattle.wt_called_edit_laws.proofs.Cells.PlacePaths.{typings}
use Rattle.wt_called_edit_laws.proofs.Cells.SpotFrames.{framed}
use Rattle.wt_called_edit_laws.proofs.Cells.SpotTrees.{same_self, over_self, over_blocks, spots_over}
use Rattle.wt_called_edit_laws.proofs.Cells.SpotsRead.{typed_over, typed_round}
use Rattle.wt_called_edit_laws.proofs.Parts.Retyped.{same_round, new_over, blocks_over}

-- ---- its tree is the same, whatever the folder has

no_pages : Pages
no_pages = λ title. None

tree_over : (pages : Pages) (ss rs : List BlockSpot) (behind : List ℕ) → AreSpots ss behind → AreRetyped ss rs
    → spots_tree pages rs behind ≡ part_tree (spots_source rs behind)
tree_over pages ss rs behind h t =
    let contents : AreContents ss = spots_contents no_pages ss behind (calm_pages no_pages ss behind h) in
    let again : AreRead rs behind =
    read_again ss rs behind (texts_are_contents ss behind h).read (same_round ss rs t) (blocks_over ss rs t contents) (new_over ss rs t) in
    ap (λ (x : Expanded). annotated x.outer (group_data x.outer) (meaning x.items)) (read_expanded pages rs behind again)

pub tree_is : (pages : Pages) (ss : List BlockSpot) (behind : List ℕ) → AreSpots ss behind → spots_tree pages ss behind ≡ part_tree (spots_source ss behind)
tree_is pages ss behind h = tree_over pages ss ss behind h (retyped_self ss)

-- so are its nodes
framed_over : (pages : Pages) (ss : List BlockSpot) (behind : List ℕ) → AreSpots ss behind → IsFramedPage no_pages ss behind → IsFramedPage pages ss behind
framed_over pages ss behind h f = record {
  nodes = f.nodes;
  in_order = f.in_order;
  inner_nodes = f.inner_nodes;
  holders = f.holders;
  again = λ rs t. called_again pages ss rs behind (calm_pages pages ss behind h) t;
  stay = λ rs t.
      ap (λ (u : Tree). all_placeless (children u)) (tree_over pages ss rs behind h t ∙ sym (tree_over no_pages ss rs behind h t)) ∙ f.stay rs t;
}

-- ---- and the edits

pub edit_over : (t : Tree) (ss : List BlockSpot) (behind : List ℕ) (paths : List (List ℕ)) (es : Sents) → t ≡ part_tree (spots_source ss behind)
    → IsTextEdit ss behind paths es → IsEditOf t paths es
edit_over t ss behind paths es is e = record { old = e.old ∙ ap children (sym is); sent = e.sent; types = e.types; take = e.take }

takes_over : (pages : Pages) (ss : List BlockSpot) (behind : List ℕ) (t : TakesTextsAmong pages ss behind) → spots_tree pages ss behind ≡ part_tree (spots_source ss behind)
    → (b : Label) (es : Sents) → IsTextEdit ss behind t.paths es → length (new_page ss behind t.paths es) ≤ PAGE_BYTES
    → edit_to pages (spots_source ss behind) (sent_page ss behind es b) ≡ done (new_page ss behind t.paths es)
takes_over pages ss behind t is b es e le =
    ap (λ (x : Tree). edit_to pages (spots_source ss behind) (sent_body x es b)) (sym is)
    ∙ t.takes b es (edit_over (spots_tree pages ss behind) ss behind t.paths es is e) le

unmarked_over : (pages : Pages) (ss : List BlockSpot) (behind : List ℕ) (t : TakesTextsAmong pages ss behind)
    → spots_tree pages ss behind ≡ part_tree (spots_source ss behind) → (stands : Option (List ℕ)) (input : List ℕ) (b : Label) (unsourced : Option ℕ) (es : Sents)
    → IsUnmarkedEdit ss behind t.paths es → stands ≡ Some (spots_source ss behind) → length (spots_source ss behind) ≤ PAGE_BYTES
    → length (new_page ss behind t.paths es) ≤ PAGE_BYTES → length input ≤ HTML_BYTES → read input ≡ as_page (unmarked_page ss behind es b) unsourced
    → DoneByEdit pages stands input
unmarked_over pages ss behind t is stands input b unsourced es e found short le small reads =
    t.unmarked stands input b unsourced es
    (record { edit = edit_over (spots_tree pages ss behind) ss behind t.paths es is e.edit; own = e.own })
    found short le small
    (reads ∙ ap (λ (x : Tree). as_page (free_sent_body x es b) unsourced) (sym is))

own_over : (ss : List BlockSpot) (behind : List ℕ) (paths : List (List ℕ)) → HasOwnEdits (part_tree (spots_source ss behind)) ss paths
    → (m : Label) (os : List (Option (List ℕ))) → AreTypings ss os
    → IsTextEdit ss behind paths (own_sent ss behind paths m os) × (map (typed_by (own_sent ss behind paths m os)) paths ≡ os)
own_over ss behind paths h m os u = let r = h m os u in (record { old = r.0.old; sent = r.0.sent; types = r.0.types; take = r.0.take }, r.1)

-- ---- with texts it is such a page again

again_over : (ss : List BlockSpot) (behind : List ℕ) (paths : List (List ℕ)) (es : Sents) → AreSpots ss behind → AllLead ss paths (part_tree (spots_source ss behind))
    → IsTextEdit ss behind paths es → AreSpots (with_texts ss (map (typed_by es) paths)) behind
again_over ss behind paths es h lead e =
    let os : List (Option (List ℕ)) = map (typed_by es) paths in
    let u : AreTypings ss os = typings ss behind paths es lead e in
    spots_over ss (with_texts ss os) behind (framed ss behind h.parts) h (typed_round ss os u)
    (typed_over ss os (over_blocks ss ss behind h (same_self ss) (over_self ss)) u)

-- ---- the page

-- what holds among calls, with each folder at the same paths
record TakesAt (pages : Pages) (ss : List BlockSpot) (behind : List ℕ) (paths : List (List ℕ)) : Type 0 where
  among : TakesTextsAmong pages ss behind
  at : among.paths ≡ paths
  is : spots_tree pages ss behind ≡ part_tree (spots_source ss behind)

take_by : (ss : List BlockSpot) (behind : List ℕ) (paths : List (List ℕ)) → AreSpots ss behind → ((pages : Pages) → TakesAt pages ss behind paths) → TakesAnyTexts ss behind
take_by ss behind paths h take =
    let own : TakesAt no_pages ss behind paths = take no_pages in
    let t : Tree = part_tree (spots_source ss behind) in
    let lead : AllLead ss paths t = subst (λ (ps : List (List ℕ)). AllLead ss ps t) own.at (subst (AllLead ss own.among.paths) own.is own.among.lead) in
    record {
      paths = paths;
      lead = lead;
      edits = own_over ss behind paths
          (subst (λ (ps : List (List ℕ)). HasOwnEdits t ss ps) own.at (subst (λ (x : Tree). HasOwnEdits x ss own.among.paths) own.is own.among.edits));
      takes = λ pages b es.
          let a : TakesAt pages ss behind paths = take pages in
          subst
          (λ (ps : List (List ℕ)). IsTextEdit ss behind ps es → length (new_page ss behind ps es) ≤ PAGE_BYTES
          → edit_to pages (spots_source ss behind) (sent_page ss behind es b) ≡ done (new_page ss behind ps es))
          a.at (takes_over pages ss behind a.among a.is b es);
      unmarked = λ pages stands input b unsourced es.
          let a : TakesAt pages ss behind paths = take pages in
          subst
          (λ (ps : List (List ℕ)). IsUnmarkedEdit ss behind ps es → stands ≡ Some (spots_source ss behind) → length (spots_source ss behind) ≤ PAGE_BYTES
          → length (new_page ss behind ps es) ≤ PAGE_BYTES → length input ≤ HTML_BYTES → read input ≡ as_page (unmarked_page ss behind es b) unsourced
          → DoneByEdit pages stands input)
          a.at (unmarked_over pages ss behind a.among a.is stands input b unsourced es);
      again = λ es e. again_over ss behind paths es h lead e;
    }

pub any_take : (ss : List BlockSpot) (behind : List ℕ) → AreSpots ss behind → TakesAnyTexts ss behind
unfolding framed_over
any_take ss behind h =
    let f : IsFramedPage no_pages ss behind = framed_page no_pages ss behind (calm_pages no_pages ss behind h) in
    take_by ss behind (paths_of f) h (λ pages. record {
      among = texts_by pages ss behind (framed_over pages ss behind h f) (calm_pages pages ss behind h);
      at = texts_paths pages ss behind (framed_over pages ss behind h f) (calm_pages pages ss behind h);
      is = tree_is pages ss behind h;
    })
