-- A page with calls in whose blocks new contents were written.
use Rattle.std.proofs.Common.{◌≡◌, ◌⊎◌, inl, inr, ℕ, List, [], ◌∷◌, refl, sym, ap, ◌∙◌, subst}
use Rattle.wt_span.specs.declared.form.Mode.TheVariants.{Page}
use Rattle.wt_span.specs.Lexemes.{words}
use Rattle.wt_span.specs.Braces.{reduced}
use Rattle.wt_expand.specs.PageItems.{page_items}
use Rattle.wt_expand.specs.Work.{Pages, Entry}
use Rattle.wt_part_laws.proofs.ExpandedBoth.{plain_anywhere}
use Rattle.wt_text_edit_laws.specs.NoCalls.{Brace, CallsNothing, braces_of, IsSome, AreFewer}
use Rattle.wt_text_edit_laws.proofs.Between.LessBraces.{pairs_some, none_of, fewer_calm}
use Rattle.wt_text_edit_laws.specs.TextBlocks.{TextBlock, source_of, block_items}
use Rattle.wt_text_edit_laws.specs.Contents.{IsContent, IsNewContent}
use Rattle.wt_text_edit_laws.specs.BlockSpots.{BlockSpot, spots_source, SameRound, AreContents}
use Rattle.wt_text_edit_laws.proofs.Between.NoCalls.{calm_reduced}
use Rattle.wt_text_edit_laws.proofs.Texts.TypedText.{AreLexemes}
use Rattle.wt_text_edit_laws.proofs.Blocks.BlockReading.{read_anew}
use Rattle.wt_text_edit_laws.proofs.Blocks.Contents.{new_contents}
use Rattle.wt_text_edit_laws.proofs.Blocks.TypedBraces.{AreNewOver, new_calm}
use Rattle.wt_called_edit_laws.specs.Parts.{left_of, AreCalled, work_in, IsByParts}
use Rattle.wt_called_edit_laws.specs.Retyped.{AreRetyped, AreSomeOf, IsLess, IsPartAnew, AreWrittenAnew, IsExpandedAgain}
use Rattle.wt_called_edit_laws.proofs.Parts.CalmBraces.{calm_left}
use Rattle.wt_called_edit_laws.proofs.Parts.KeptBraces.{some_has, calm_has}
use Rattle.wt_called_edit_laws.proofs.Parts.LessBraces.{none_less}
use Rattle.wt_called_edit_laws.proofs.Parts.CalledAgain.{called_again, less_work, work_of, still_unrefused}
use Rattle.wt_called_edit_laws.proofs.Parts.Depths.{calm_shallow, shallow_undeep}
use Rattle.wt_called_edit_laws.proofs.Parts.PartByPart.{items_of, calm_gives, lexemes_plain, page_from}

pub is_by_parts : (pages : Pages) (ss : List BlockSpot) (behind : List ℕ) → AreCalled pages ss behind → IsByParts pages ss behind
is_by_parts pages ss behind h =
    let f = page_from pages ss behind h in
    record {
      items = sym (items_of pages (spots_source ss behind)) ∙ f.gives.items_are 0;
      outers = f.gives.outers_are;
      texts = f.gives.texts_are;
      work = work_of pages ss behind h;
    }

pub expanded_again : (pages : Pages) (ss rs : List BlockSpot) (behind : List ℕ) → AreCalled pages ss behind → AreWrittenAnew pages ss rs
    → IsExpandedAgain pages ss rs behind
expanded_again pages ss rs behind h t =
    let c : AreCalled pages rs behind = called_again pages ss rs behind h t in
    record { called = c; work = less_work pages ss rs behind h c t; unrefused = still_unrefused pages ss rs behind h c t }

-- ---- a content that calls nothing

-- it begins with no call, so it gives the same anywhere
pub calm_lexemes : (k : TextBlock) (q : List ℕ) → IsContent k q → CallsNothing (block_items k q) → AreLexemes (reduced (words Page (source_of k q)))
calm_lexemes k q h c = calm_reduced (source_of k q) (subst CallsNothing (sym h.unended) c)

-- what is left of its braces is no more than of the old one's
new_left : (k : TextBlock) (was now : List ℕ) → IsNewContent k was now → IsLess (left_of (source_of k now)) (left_of (source_of k was))
new_left k was now n = by n.fewer
  where
    new : List ℕ
    new = source_of k now

    old : List ℕ
    old = source_of k was

    calm : CallsNothing (page_items new)
    calm = fewer_calm (page_items new) (page_items old) n.fewer

    by : AreFewer (page_items (source_of k now)) (page_items (source_of k was)) → IsLess (left_of (source_of k now)) (left_of (source_of k was))
    by (inl none) = none_less (left_of new) (left_of old) (none_of (left_of new) (subst (λ (bs : List Brace). IsSome (left_of new) bs) none (calm_left new calm)))
    by (inr fewer) = record {
      apart = pairs_some (left_of new) (braces_of (page_items new)) (calm_left new calm) calm;
      some = λ x e. calm_has x old fewer.0
          (some_has x (braces_of (page_items new)) (braces_of (page_items old)) fewer.1 (some_has x (left_of new) (braces_of (page_items new)) (calm_left new calm) e));
    }

pub part_anew : (pages : Pages) (k : TextBlock) (was now : List ℕ) → IsNewContent k was now → IsPartAnew pages k was now
part_anew pages k was now n =
    let bs : List ℕ = source_of k now in
    let own : AreLexemes (reduced (words Page bs)) = calm_lexemes k now n.firm.content (new_calm k was now n) in
    let gives = calm_gives pages bs own in
    record {
      read = read_anew k was now n;
      anywhere = plain_anywhere pages bs (lexemes_plain (reduced (words Page bs)) own);
      left = new_left k was now n;
      undeep = λ d. shallow_undeep bs (calm_shallow (words Page bs) own);
      work = subst (λ (ds : List Entry). AreSomeOf ds (work_in pages (source_of k was))) (sym gives.work_is) tt;
    }

-- ---- typed again

pub same_round : (ss rs : List BlockSpot) → AreRetyped ss rs → SameRound ss rs
same_round [] [] h = tt
same_round [] (r ∷ rs) h = absurd h
same_round (s ∷ ss) [] h = absurd h
same_round (s ∷ ss) (r ∷ rs) h = (h.0, h.1, same_round ss rs h.3)

pub new_over : (ss rs : List BlockSpot) → AreRetyped ss rs → AreNewOver ss rs
new_over [] [] h = tt
new_over [] (r ∷ rs) h = absurd h
new_over (s ∷ ss) [] h = absurd h
new_over (s ∷ ss) (r ∷ rs) h = (h.2, new_over ss rs h.3)

pub blocks_over : (ss rs : List BlockSpot) → AreRetyped ss rs → AreContents ss → AreContents rs
blocks_over ss rs h b = new_contents ss rs (same_round ss rs h) (new_over ss rs h) b

pub written_anew : (pages : Pages) (ss rs : List BlockSpot) → AreRetyped ss rs → AreWrittenAnew pages ss rs
written_anew pages [] [] h = tt
written_anew pages [] (r ∷ rs) h = absurd h
written_anew pages (s ∷ ss) [] h = absurd h
written_anew pages (s ∷ ss) (r ∷ rs) h = (h.0, h.1, one h.2, written_anew pages ss rs h.3)
  where
    one : (r.text ≡ s.text) ⊎ IsNewContent r.block s.text r.text → (r.text ≡ s.text) ⊎ IsPartAnew pages r.block s.text r.text
    one (inl e) = inl e
    one (inr n) = inr (part_anew pages r.block s.text r.text n)

pub typed_again : (pages : Pages) (ss rs : List BlockSpot) (behind : List ℕ) → AreCalled pages ss behind → AreRetyped ss rs → IsExpandedAgain pages ss rs behind
typed_again pages ss rs behind h t = expanded_again pages ss rs behind h (written_anew pages ss rs t)
