-- A page that calls nothing is of the class of pages with calls.
use Rattle.std.proofs.Common.{arith, ◌≡◌, ℕ, ◌+◌, List, [], ◌∷◌, ◌++◌, length, sym, ap, subst}
use Rattle.wt_expand.specs.PageItems.{page_items}
use Rattle.wt_expand.specs.Work.{Pages}
use Rattle.wt_text_edit_laws.specs.NoCalls.{Brace, opening, closing, NoneClose, NonePairs, CallsNothing, IsSome, braces_of}
use Rattle.wt_expand.specs.PageCalls.{expanded_page}
use Rattle.wt_text_edit_laws.specs.Contents.{IsContent}
use Rattle.wt_text_edit_laws.specs.TextBlocks.{TextBlock, source_of, block_items}
use Rattle.wt_part_laws.specs.Expanded.{part_items, calls_in}
use Rattle.wt_part_laws.proofs.ExpandedBoth.{plain_anywhere}
use Rattle.wt_span.specs.declared.form.Mode.TheVariants.{Page}
use Rattle.wt_span.specs.Lexemes.{words}
use Rattle.wt_span.specs.Braces.{reduced}
use Rattle.wt_text_edit_laws.specs.BlockSpots.{BlockSpot, AsAWhole, IsRead, AreReadAfter, AreRead, AreContents}
use Rattle.wt_text_edit_laws.proofs.Between.LessBraces.{some_both, pairs_some}
use Rattle.wt_text_edit_laws.proofs.Between.NoCalls.{calm_reduced}
use Rattle.wt_text_edit_laws.proofs.Blocks.BlockReading.{read_spot, read_spots, spots_items, items_of_parts}
use Rattle.wt_text_edit_laws.proofs.Blocks.TypedBraces.{braces_split}
use Rattle.wt_called_edit_laws.specs.CalledBlocks.{CallNothing}
use Rattle.wt_called_edit_laws.specs.Parts.{left_of, all_left, GiveAnywhere, AreCalled}
use Rattle.wt_called_edit_laws.proofs.Parts.LeftBraces.{pairs_rest}
use Rattle.wt_called_edit_laws.proofs.Parts.CalmBraces.{calm_left}
use Rattle.wt_called_edit_laws.proofs.Parts.PartByPart.{calm_gives, lexemes_plain}
use Rattle.wt_called_edit_laws.proofs.Parts.Retyped.{calm_lexemes}

none_front : (xs ys : List Brace) → NoneClose (xs ++ ys) → NoneClose xs
none_front [] ys h = tt
none_front (opening ∷ xs) ys h = none_front xs ys h
none_front (closing ∷ xs) ys h = absurd h

pub pairs_front : (xs ys : List Brace) → NonePairs (xs ++ ys) → NonePairs xs
pairs_front [] ys h = tt
pairs_front (opening ∷ xs) ys h = none_front xs ys h
pairs_front (closing ∷ xs) ys h = pairs_front xs ys h

-- what stands before, between and behind the blocks calls nothing
abbrev pub PartsCalm : List BlockSpot → List ℕ → Type 0
PartsCalm [] behind = CallsNothing (page_items behind)
PartsCalm (s ∷ ss) behind = CallsNothing (page_items s.before) × PartsCalm ss behind

-- what the parts have left is some of what their items have
record AreCalm (ss : List BlockSpot) (behind : List ℕ) : Type 0 where
  calm : CallNothing ss
  parts : PartsCalm ss behind
  left : IsSome (all_left ss behind) (braces_of (spots_items ss behind))

spot_calm : (s : BlockSpot) (ss : List BlockSpot) (behind : List ℕ) → IsRead s → AreReadAfter ss behind → NonePairs (braces_of (spots_items (s ∷ ss) behind))
    → (NonePairs (braces_of (spots_items ss behind)) → AreCalm ss behind) → AreCalm (s ∷ ss) behind
spot_calm s ss behind h f n go =
    let front : List Brace = braces_of (page_items s.before) in
    let own : List Brace = braces_of (block_items s.block s.text) in
    let rest : List Brace = braces_of (spots_items ss behind) in
    let all : NonePairs (front ++ (own ++ rest)) = subst NonePairs (braces_split s ss behind h f) n in
    let more : NonePairs (own ++ rest) = pairs_rest front (own ++ rest) all in
    let r : AreCalm ss behind = go (pairs_rest own rest more) in
    let items : page_items (source_of s.block s.text) ≡ block_items s.block s.text = h.block.unended in
    let block : CallsNothing (block_items s.block s.text) = pairs_front own rest more in
    let before : CallsNothing (page_items s.before) = pairs_front front (own ++ rest) all in
    let first : IsSome (left_of s.before) front = calm_left s.before before in
    let second : IsSome (left_of (source_of s.block s.text)) own =
    subst (λ xs. IsSome (left_of (source_of s.block s.text)) (braces_of xs)) items (calm_left (source_of s.block s.text) (subst CallsNothing (sym items) block)) in
    record {
      calm = (block, r.calm);
      parts = (before, r.parts);
      left = subst (λ bs. IsSome (all_left (s ∷ ss) behind) bs) (sym (braces_split s ss behind h f))
          (some_both (left_of s.before) front (left_of (source_of s.block s.text) ++ all_left ss behind) (own ++ rest) first
          (some_both (left_of (source_of s.block s.text)) own (all_left ss behind) rest second r.left));
    }

further_calm : (ss : List BlockSpot) (behind : List ℕ) → AreReadAfter ss behind → NonePairs (braces_of (spots_items ss behind)) → AreCalm ss behind
further_calm [] behind f n = record { calm = tt; parts = n; left = calm_left behind n }
further_calm (s ∷ ss) behind f n = spot_calm s ss behind f.0 f.2 n (λ m. further_calm ss behind f.2 m)

read_calm : (s : BlockSpot) (ss : List BlockSpot) (behind : List ℕ) → AreRead (s ∷ ss) behind → AreCalm (s ∷ ss) behind
read_calm s ss behind h =
    let w : AsAWhole (s ∷ ss) behind = h.2 in
    let n : NonePairs (braces_of (spots_items (s ∷ ss) behind)) =
    subst CallsNothing (items_of_parts s ss behind (read_spot s h.0) (read_spots ss behind h.1) w.end_before) w.calls_nothing in
    spot_calm s ss behind h.0 h.1 n (λ m. further_calm ss behind h.1 m)

pub parts_calm : (ss : List BlockSpot) (behind : List ℕ) → AreRead ss behind → PartsCalm ss behind
parts_calm [] behind h = absurd h
parts_calm (s ∷ ss) behind h = let c = read_calm s ss behind h in c.parts

pub contents_after : (ss : List BlockSpot) (behind : List ℕ) → AreReadAfter ss behind → AreContents ss
contents_after [] behind h = tt
contents_after (s ∷ ss) behind h = let r : IsRead s = h.0 in (r.block, contents_after ss behind h.2)

-- a block that calls nothing has no calls, and none that is text
pub calm_outers : (pages : Pages) (k : TextBlock) (q : List ℕ) → IsContent k q → CallsNothing (block_items k q) → (expanded_page pages (source_of k q)).outer ≡ []
calm_outers pages k q h c = let g = calm_gives pages (source_of k q) (calm_lexemes k q h c) in g.outers_are

pub calm_texts : (pages : Pages) (k : TextBlock) (q : List ℕ) → IsContent k q → CallsNothing (block_items k q) → (expanded_page pages (source_of k q)).text_calls ≡ []
calm_texts pages k q h c = let g = calm_gives pages (source_of k q) (calm_lexemes k q h c) in g.texts_are

-- and blocks that call nothing give the same anywhere
pub calm_anywhere : (pages : Pages) (ss : List BlockSpot) → AreContents ss → CallNothing ss → GiveAnywhere pages ss
calm_anywhere pages [] h c = tt
calm_anywhere pages (s ∷ ss) h c =
    let bs : List ℕ = source_of s.block s.text in (
      plain_anywhere pages bs (lexemes_plain (reduced (words Page bs)) (calm_lexemes s.block s.text h.0 c.0)),
      calm_anywhere pages ss h.1 c.1,
    )

pub read_called : (pages : Pages) (ss : List BlockSpot) (behind : List ℕ) → AreRead ss behind → AreCalled pages ss behind
read_called pages [] behind h = absurd h
read_called pages (s ∷ ss) behind h =
    let w : AsAWhole (s ∷ ss) behind = h.2 in
    let first = read_spot s h.0 in
    let rest = read_spots ss behind h.1 in
    let n : NonePairs (braces_of (spots_items (s ∷ ss) behind)) = subst CallsNothing (items_of_parts s ss behind first rest w.end_before) w.calls_nothing in
    let c = read_calm s ss behind h in (
      first,
      rest,
      record {
        end_before = w.end_before;
        anywhere = calm_anywhere pages (s ∷ ss) (h.0.block, contents_after ss behind h.1) c.calm;
        apart = pairs_some (all_left (s ∷ ss) behind) (braces_of (spots_items (s ∷ ss) behind)) c.left n;
      },
    )

pub read_contents : (ss : List BlockSpot) (behind : List ℕ) → AreRead ss behind → AreContents ss
read_contents [] behind h = absurd h
read_contents (s ∷ ss) behind h = (h.0.block, contents_after ss behind h.1)

pub read_none_called : (ss : List BlockSpot) (behind : List ℕ) → AreRead ss behind → CallNothing ss
read_none_called [] behind h = absurd h
read_none_called (s ∷ ss) behind h = let c = read_calm s ss behind h in c.calm

-- ---- a part that calls nothing gives its items

pub calm_items : (pages : Pages) (k : ℕ) (bs : List ℕ) → CallsNothing (page_items bs) → part_items pages k bs ≡ page_items bs
calm_items pages k bs c = let g = calm_gives pages bs (calm_reduced bs c) in g.items_are k

pub calm_count : (pages : Pages) (k : ℕ) (bs : List ℕ) → CallsNothing (page_items bs) → k + calls_in pages bs ≡ k
calm_count pages k bs c =
    let g = calm_gives pages bs (calm_reduced bs c) in
    let none : calls_in pages bs ≡ 0 = ap length g.outers_are in
    omega (arith, none)
