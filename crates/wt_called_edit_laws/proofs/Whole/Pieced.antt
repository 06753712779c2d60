-- A paragraph in pieces, some of which are calls, holds these, and can be read by itself.
use Rattle.std.proofs.Common.{◌≡◌, inl, inr, ℕ, true, false, Bool, Some, None, List, [], ◌∷◌, ◌++◌, refl, sym, ap, ◌∙◌, subst, append-nil}
use Rattle.std.specs.Prelude.{◌||◌}
use Rattle.std.specs.List.{list_any}
use Rattle.std.proofs.lemmas.List.Folds.{list_any-append}
use Rattle.wt_tree.specs.declared.kind.Kind.TheVariants as kind
use Rattle.wt_span.specs.Items.{Item}
use Rattle.wt_guards.specs.Content.{Thing}
use Rattle.wt_inline.specs.ItemTree.{plain, forest, tree_items, held_by_all}
use Rattle.wt_inline.specs.Parts.{Part, loose, node, held_parts, children}
use Rattle.wt_inline.proofs.HeldLaws.{held_children}
use Rattle.wt_expand.specs.PageCalls.{expanded_page}
use Rattle.wt_expand.specs.Work.{Pages}
use Rattle.wt_annotated.specs.Clean.{is_page}
use Rattle.wt_part_laws.specs.CallPieces.{ArePieceNodes}
use Rattle.wt_part_laws.specs.Expanded.{part_items}
use Rattle.wt_part_laws.specs.HeldCalls.{HoldsItsCalls, IsRoundGiven}
use Rattle.wt_part_laws.proofs.HeldBlocks.{given_hold}
use Rattle.wt_text_edit_laws.specs.Contents.{content_parts_of}
use Rattle.wt_text_edit_laws.specs.ParagraphParts.{para_with}
use Rattle.wt_text_edit_laws.specs.TextBlocks.{a_paragraph}
use Rattle.wt_called_edit_laws.specs.CallingBlocks.{IsContentIn}
use Rattle.wt_called_edit_laws.specs.CallingEdits.{TakesLetters}
use Rattle.wt_called_edit_laws.specs.EditableBlocks.{HoldsCalls}
use Rattle.wt_called_edit_laws.specs.PageThings.{ArePageThings, thing_sources}
use Rattle.wt_called_edit_laws.specs.PiecedParagraphs.{HasOwn, IsInPieces}
use Rattle.wt_beside_laws.specs.RoundCalls.{AreShutCalls}
use Rattle.wt_called_edit_laws.specs.Written.{IsWrittenAs}
use Rattle.wt_called_edit_laws.specs.WrittenAnew.{StayButForOthers}
use Rattle.wt_called_edit_laws.proofs.Whole.Contents.{thing_calls, calls_both, moved_shut}
use Rattle.wt_called_edit_laws.proofs.Whole.PartsIn.{parts_pieces}
use Rattle.wt_called_edit_laws.proofs.Whole.SourcesAt.{sources_somewhere}
use Rattle.wt_called_edit_laws.proofs.Written.InPieces.{pieces_items, pieces_written}
use Rattle.wt_called_edit_laws.proofs.Written.Letters.{page_letters}
use Rattle.wt_called_edit_laws.proofs.Written.NewContents.{calls_of, work_of}

-- ---- its calls

pub pieces_shut : (pages : Pages) (bs : List (List ℕ)) (ts : List Thing) → StayButForOthers pages bs (thing_sources ts) → ArePageThings pages ts
    → AreShutCalls (calls_of pages bs)
pieces_shut pages [] [] h g = tt
pieces_shut pages [] (t ∷ ts) h g = absurd h
pieces_shut pages (b ∷ bs) [] h g =
    calls_both (expanded_page pages b).outer (calls_of pages bs) (subst AreShutCalls (sym h.0) tt) (pieces_shut pages bs [] h.1 g)
pieces_shut pages (b ∷ bs) (t ∷ ts) (inl h) g =
    let own = g.0 in
    let shut = own.shut in
    calls_both (expanded_page pages b).outer (calls_of pages bs)
    (subst (λ (q : List ℕ). AreShutCalls (expanded_page pages q).outer) (sym h.0) (thing_calls pages t own.folder shut.0)) (pieces_shut pages bs ts h.1 g.2)
pieces_shut pages (b ∷ bs) (t ∷ ts) (inr h) g =
    calls_both (expanded_page pages b).outer (calls_of pages bs) (subst AreShutCalls (sym h.0) tt) (pieces_shut pages bs (t ∷ ts) h.1 g)

-- ---- it has something of the page

any_left : (xs ys : List Item) → list_any is_page xs ≡ true → list_any is_page (xs ++ ys) ≡ true
any_left xs ys e = list_any-append is_page xs ys ∙ ap (λ (v : Bool). v || list_any is_page ys) e

any_right : (xs ys : List Item) → list_any is_page ys ≡ true → list_any is_page (xs ++ ys) ≡ true
any_right xs ys e = list_any-append is_page xs ys ∙ ap (λ (v : Bool). list_any is_page xs || v) e ∙ or_true (list_any is_page xs)
  where
    or_true : (v : Bool) → (v || true) ≡ true
    or_true true = refl
    or_true false = refl

pub some_own : (ps : List Part) → HasOwn ps → list_any is_page (held_parts ps) ≡ true
some_own [] b = absurd b
some_own (loose k None c ∷ ps) b = refl
some_own (loose k (Some j) c ∷ ps) b = some_own ps b
some_own (node t ∷ ps) (inl own) = any_left (tree_items t) (held_parts ps) own
some_own (node t ∷ ps) (inr b) = any_right (tree_items t) (held_parts ps) (some_own ps b)

para_items : (ps : List Part) → tree_items (para_with ps) ≡ held_parts ps
para_items ps = append-nil (held_by_all (forest (children ps))) ∙ held_children ps

pub paragraph_round : (ps : List Part) → ArePieceNodes ps → HasOwn ps → IsRoundGiven (plain kind.Para) [] ps []
paragraph_round ps h b = record {
  no_leaf = refl;
  own_opening = refl;
  own_closing = refl;
  parts = h;
  some = ap (list_any is_page) (para_items ps) ∙ some_own ps b;
}

holds_so : (ps : List Part) → ArePieceNodes ps → HasOwn ps → HoldsItsCalls (para_with ps)
holds_so ps h b = given_hold (plain kind.Para) [] ps [] (paragraph_round ps h b)

-- ---- the paragraph

pub as_written : (pages : Pages) (q : List ℕ) (h : IsInPieces pages q)
    → IsWrittenAs pages q (λ i. pieces_items pages i h.pieces) (calls_of pages h.pieces) (work_of pages h.pieces)
as_written pages q h =
    subst (λ (bs : List ℕ). IsWrittenAs pages bs (λ i. pieces_items pages i h.pieces) (calls_of pages h.pieces) (work_of pages h.pieces)) h.is
    (pieces_written pages h.pieces h.parts)

pub pieced_content : (pages : Pages) (q : List ℕ) → IsInPieces pages q → IsContentIn pages a_paragraph q
pieced_content pages q h =
    let w = as_written pages q h in
    let part = w.part in
    record { read = h.read; anywhere = part.anywhere; items = λ i. refl; is = h.lines }

pub pieced_holds : (pages : Pages) (q : List ℕ) → IsInPieces pages q → HoldsCalls pages a_paragraph q
pieced_holds pages q h =
    let w = as_written pages q h in
    let part = w.part in
    record {
      holds = λ i.
          let xs : List Item = part_items pages i q in
          let ps : List Part = content_parts_of a_paragraph xs in
          let there = sources_somewhere i (expanded_page pages q).outer in
          holds_so ps (parts_pieces 2 there.0 xs ps (h.texts there.0 i there.1)) (h.some i);
      letters = subst (TakesLetters pages a_paragraph) h.is (page_letters pages h.pieces h.nodes h.parts h.among h.things);
      texts = part.texts;
      whole = record {
        parts = h.texts;
        groups = h.groups;
        shut = h.shut;
        shut_calls = moved_shut (calls_of pages h.pieces) (expanded_page pages q).outer w.calls_are (pieces_shut pages h.pieces h.nodes h.among h.things);
      };
    }
