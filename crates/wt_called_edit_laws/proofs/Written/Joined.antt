-- Two texts side by side that are parts by themselves are one: it gives what both give.
use Rattle.std.proofs.Common.{◌≡◌, ℕ, ◌+◌, List, [], ◌∷◌, ◌++◌, length, map, refl, sym, ap, ap₂, ◌∙◌, subst}
use Rattle.wt_span.specs.declared.form.Mode.TheVariants.{Page}
use Rattle.wt_span.specs.Items.{Item}
use Rattle.wt_span.specs.Lexemes.{words}
use Rattle.wt_span.specs.Origins.{OuterCall, Span}
use Rattle.wt_span.specs.Braces.{reduced}
use Rattle.wt_expand.specs.PageItems.{page_items}
use Rattle.wt_expand.specs.PageCalls.{expanded_page}
use Rattle.wt_expand.specs.Work.{Pages, Entry}
use Rattle.wt_part_laws.specs.Apart.{AreMet}
use Rattle.wt_part_laws.specs.Expanded.{moved_call, moved_span, calls_in, AreParts}
use Rattle.wt_part_laws.proofs.ExpandedBoth.{plain_anywhere, both_anywhere}
use Rattle.wt_part_laws.specs.MovedCalls.{AreMoved}
use Rattle.wt_text_edit_laws.specs.NoCalls.{Brace, NonePairs, CallsNothing, AreUnbraced, IsSome}
use Rattle.wt_text_edit_laws.proofs.Between.LessBraces.{none_unbraced, none_of}
use Rattle.wt_text_edit_laws.proofs.Between.NoCalls.{calm_reduced}
use Rattle.wt_text_edit_laws.proofs.Texts.TypedText.{AreLexemes}
use Rattle.wt_called_edit_laws.specs.Parts.{left_of}
use Rattle.wt_called_edit_laws.specs.Written.{IsOwnPart, IsWrittenAs}
use Rattle.wt_called_edit_laws.proofs.MovedOuters.{both_calls, later_calls}
use Rattle.wt_called_edit_laws.proofs.Parts.CalmBraces.{calm_left}
use Rattle.wt_called_edit_laws.proofs.Parts.Depths.{both_shallow, calm_shallow, undeep_shallow, shallow_undeep}
use Rattle.wt_called_edit_laws.proofs.Parts.LeftBraces.{apart_by, left_both}
use Rattle.wt_called_edit_laws.proofs.Parts.NoCallsCalled.{calm_count}
use Rattle.wt_called_edit_laws.proofs.Parts.PartByPart.{Gives, both_give, calm_gives, lexemes_plain}

pub both_written : (pages : Pages) (p q : List ℕ) (xs ys : ℕ → List Item) (cs ds : List OuterCall) (es fs : List Entry)
    → AreMet (words Page p) (words Page q) (words Page (p ++ q)) → IsWrittenAs pages p xs cs es → IsWrittenAs pages q ys ds fs
    → IsWrittenAs pages (p ++ q) (λ i. xs i ++ ys (i + calls_in pages p)) (cs ++ ds) (es ++ fs)
both_written pages p q xs ys cs ds es fs m a b =
    let u : IsOwnPart pages p = a.part in
    let v : IsOwnPart pages q = b.part in
    let none : NonePairs (left_of p ++ left_of q) =
    subst (λ (bs : List Brace). NonePairs (bs ++ left_of q)) (sym u.left) (subst NonePairs (sym v.left) tt) in
    let parts : AreParts pages p q = record { read = record { lexemes = m; apart = apart_by (words Page p) (words Page q) none }; anywhere = v.anywhere } in
    let first : List OuterCall = (expanded_page pages p).outer in
    let second : List OuterCall = (expanded_page pages q).outer in
    let texts : List Span = (expanded_page pages q).text_calls in
    let g : Gives pages q ys second texts fs = record { items_are = b.items_are; outers_are = refl; texts_are = refl; work_is = b.work_is } in
    let both = both_give pages p q ys second texts fs parts g in
    record {
      items_are = λ i. both.items_are i ∙ ap (λ (zs : List Item). zs ++ ys (i + calls_in pages p)) (a.items_are i);
      calls_are = subst (λ (os : List OuterCall). AreMoved (cs ++ ds) os) (sym both.outers_are)
          (both_calls cs first ds (map (moved_call (length p)) second) a.calls_are (later_calls (length p) ds second b.calls_are));
      work_is = both.work_is ∙ ap (λ (gs : List Entry). gs ++ fs) a.work_is;
      part = record {
        left = left_both (words Page p) (words Page q) (words Page (p ++ q)) m none ∙ ap₂ (λ (bs cs : List Brace). bs ++ cs) u.left v.left;
        anywhere = both_anywhere pages p q parts.read u.anywhere v.anywhere;
        texts = both.texts_are ∙ ap₂ (λ (ss ts : List Span). ss ++ map (moved_span (length p)) ts) u.texts v.texts;
        undeep = shallow_undeep (p ++ q)
            (both_shallow (words Page p) (words Page q) (words Page (p ++ q)) m parts.read.apart (undeep_shallow p u.undeep) (undeep_shallow q v.undeep));
      };
    }

-- ---- a text without braces

unbraced_calm : (bs : List ℕ) → AreUnbraced (page_items bs) → CallsNothing (page_items bs)
unbraced_calm bs u = subst NonePairs (sym (none_unbraced (page_items bs) u)) tt

pub calm_written : (pages : Pages) (bs : List ℕ) → AreUnbraced (page_items bs) → IsWrittenAs pages bs (λ i. page_items bs) [] []
calm_written pages bs u =
    let calm : CallsNothing (page_items bs) = unbraced_calm bs u in
    let own : AreLexemes (reduced (words Page bs)) = calm_reduced bs calm in
    let g = calm_gives pages bs own in
    record {
      items_are = g.items_are;
      calls_are = subst (λ (os : List OuterCall). AreMoved [] os) (sym g.outers_are) tt;
      work_is = g.work_is;
      part = record {
        left = none_of (left_of bs) (subst (λ (cs : List Brace). IsSome (left_of bs) cs) (none_unbraced (page_items bs) u) (calm_left bs calm));
        anywhere = plain_anywhere pages bs (lexemes_plain (reduced (words Page bs)) own);
        texts = g.texts_are;
        undeep = shallow_undeep bs (calm_shallow (words Page bs) own);
      };
    }

-- before another one
pub calm_then : (pages : Pages) (p q : List ℕ) (own : List Item) (ys : ℕ → List Item) (ds : List OuterCall) (fs : List Entry)
    → AreMet (words Page p) (words Page q) (words Page (p ++ q)) → page_items p ≡ own → AreUnbraced own → IsWrittenAs pages q ys ds fs
    → IsWrittenAs pages (p ++ q) (λ i. own ++ ys i) ds fs
calm_then pages p q own ys ds fs m e u b =
    let v : AreUnbraced (page_items p) = subst AreUnbraced (sym e) u in
    let w = both_written pages p q (λ i. page_items p) ys [] ds [] fs m (calm_written pages p v) b in
    record {
      items_are = λ i. w.items_are i ∙ ap₂ (λ (zs : List Item) (j : ℕ). zs ++ ys j) e (calm_count pages i p (unbraced_calm p v));
      calls_are = w.calls_are;
      work_is = w.work_is;
      part = w.part;
    }
