-- A page with blocks among calls is UTF-8, and with texts typed in them it is such a page again.
use Rattle.std.proofs.Common.{◌≡◌, ◌⊎◌, inl, inr, ℕ, Option, Some, None, List, [], ◌∷◌, ◌++◌, refl}
use Rattle.std.specs.Str.{IsUtf8}
use Rattle.std.proofs.lemmas.Str.{IsUtf8-append}
use Rattle.wt_expand.specs.Work.{Pages}
use Rattle.wt_text_edit_laws.specs.BlockSpots.{BlockSpot, spots_source, IsReadSpot, AreReadSpots, SameRound, AreContents}
use Rattle.wt_text_edit_laws.specs.TextBlocks.{block_of, source_of}
use Rattle.wt_text_edit_laws.specs.BlockEdits.{typed_as}
use Rattle.wt_text_edit_laws.specs.OwnNodes.{IsTypedSpot}
use Rattle.wt_text_edit_laws.specs.Contents.{IsContent, IsNewContent}
use Rattle.wt_text_edit_laws.proofs.Blocks.BlockReading.{content_frame}
use Rattle.wt_text_edit_laws.proofs.Blocks.BlocksAgain.{read_utf8_of}
use Rattle.wt_text_edit_laws.proofs.Blocks.Contents.{typed_new}
use Rattle.wt_text_edit_laws.proofs.Blocks.TypedBraces.{AreNewOver}
use Rattle.wt_called_edit_laws.specs.AnyBlocks.{with_text, with_texts}
use Rattle.wt_called_edit_laws.specs.OwnTexts.{AreTypings}
use Rattle.wt_called_edit_laws.proofs.Cells.SpotsRead.{typed_in, typed_round}
use Rattle.wt_called_edit_laws.specs.Parts.{AreCalled}
use Rattle.wt_called_edit_laws.specs.Retyped.{AreRetyped}

-- ---- UTF-8

one_utf8 : (s : BlockSpot) (rest : List ℕ) → IsReadSpot s → IsUtf8 rest → IsUtf8 (s.before ++ (source_of s.block s.text ++ rest))
one_utf8 s rest h u =
    IsUtf8-append s.before (source_of s.block s.text ++ rest) h.before_utf8
    (IsUtf8-append (source_of s.block s.text) rest (read_utf8_of s.block s.text h.block) u)

further_utf8 : (ss : List BlockSpot) (behind : List ℕ) → AreReadSpots ss behind → IsUtf8 (spots_source ss behind)
further_utf8 [] behind h = h.1
further_utf8 (s ∷ ss) behind h = one_utf8 s (spots_source ss behind) h.0 (further_utf8 ss behind h.2)

pub called_utf8 : (pages : Pages) (ss : List BlockSpot) (behind : List ℕ) → AreCalled pages ss behind → IsUtf8 (spots_source ss behind)
called_utf8 pages [] behind h = absurd h
called_utf8 pages (s ∷ ss) behind h = one_utf8 s (spots_source ss behind) h.0 (further_utf8 ss behind h.1)

-- ---- typed again

pub retyped : (ss rs : List BlockSpot) → SameRound ss rs → AreNewOver ss rs → AreRetyped ss rs
retyped [] [] e o = tt
retyped [] (r ∷ rs) e o = absurd e
retyped (s ∷ ss) [] e o = absurd e
retyped (s ∷ ss) (r ∷ rs) e o = (e.0, e.1, o.0, retyped ss rs e.2 o.1)

-- a text is typed in the place of any content
text_over : (s : BlockSpot) (o : Option (List ℕ)) → IsContent s.block s.text → IsTypedSpot s.block o
    → ((with_text s o).text ≡ s.text) ⊎ IsNewContent (with_text s o).block s.text (with_text s o).text
text_over s None h t = inl refl
text_over s (Some text) h t =
    let new : List ℕ = typed_as (block_of s.block) (source_of s.block s.text) text in
    inr (typed_new s.block s.text new (typed_in s.block (source_of s.block s.text) text (content_frame s.block s.text h) t.0 t.1))

texts_over : (ss : List BlockSpot) (os : List (Option (List ℕ))) → AreContents ss → AreTypings ss os → AreNewOver ss (with_texts ss os)
texts_over [] [] h t = tt
texts_over [] (o ∷ os) h t = absurd t
texts_over (s ∷ ss) [] h t = absurd t
texts_over (s ∷ ss) (o ∷ os) h t = (text_over s o h.0 t.0, texts_over ss os h.1 t.1)

pub typed_again : (ss : List BlockSpot) (os : List (Option (List ℕ))) → AreContents ss → AreTypings ss os → AreRetyped ss (with_texts ss os)
typed_again ss os b u = retyped ss (with_texts ss os) (typed_round ss os u) (texts_over ss os b u)
