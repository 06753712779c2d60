-- Blocks at their places in a page that calls nothing: each is read so by itself, whatever is in it.
use Rattle.std.proofs.Common.{◌≡◌, ℕ, Bool, false, None, List, [], ◌∷◌, ◌++◌, map, refl, sym, ap, ◌∙◌, subst}
use Rattle.std.specs.Str.{IsUtf8}
use Rattle.std.proofs.lemmas.List.{map-append}
use Rattle.wt_span.specs.declared.form.Mode.TheVariants.{Page}
use Rattle.wt_span.specs.Items.{Item, char, sign, sources}
use Rattle.wt_expand.specs.PageItems.{page_items}
use Rattle.wt_part_laws.specs.Lexer.{lexer}
use Rattle.wt_part_laws.specs.Scans.{after_all}
use Rattle.wt_text_edit_laws.specs.BlockSpots.{BlockSpot, spots_source}
use Rattle.wt_text_edit_laws.specs.Contents.{IsContentOf}
use Rattle.wt_text_edit_laws.specs.NoCalls.{braces, NonePairs, CallsNothing}
use Rattle.wt_text_edit_laws.specs.PageCuts.{BeginsBreak, EndsThere, EndsClosed, EndClosed, IsSpotCut, AreFurtherCuts, AreCuts}
use Rattle.wt_text_edit_laws.specs.SignParts.{IsLedTo}
use Rattle.wt_text_edit_laws.specs.TextBlocks.{TextBlock, source_of, block_items}
use Rattle.wt_text_edit_laws.proofs.Between.BraceWords.{pairs_behind}
use Rattle.wt_text_edit_laws.proofs.Cuts.ItemCuts.{cut_from, page_cut, front_alone, alone_after}
use Rattle.wt_text_edit_laws.proofs.Cuts.Utf8Cuts.{led_utf8, there_utf8}
use Rattle.wt_beside_laws.proofs.Derived.BlockContents.{block_source, there_begins, read_alone, block_read, BlockSeen, block_seen, seen_with, seen_alone, first_unbraced, calm_between}
use Rattle.wt_called_edit_laws.specs.AnyBlocks.{open_behind_part, past_break}
use Rattle.wt_called_edit_laws.specs.ItemSpots.{items_of_spots, placed_items}
use Rattle.wt_called_edit_laws.specs.PlacedSpots.{AreFurtherIn, AreBlocksIn}
use Rattle.wt_called_edit_laws.proofs.Cells.ContentItems.{round_is}

-- ---- one block

pub record OwnRead (k : TextBlock) (q : List ℕ) : Type 0 where
  pub utf8 : IsUtf8 q
  pub is : IsContentOf k q
  pub unended : page_items (source_of k q) ≡ block_items k q
  pub calm : CallsNothing (block_items k q)

pub record SpotIs (s : BlockSpot) (rest : List ℕ) (before own zs : List Item) : Type 0 where
  pub read : OwnRead s.block s.text
  pub ended : EndsClosed (source_of s.block s.text) []
  pub before_is : page_items s.before ≡ before
  pub own_is : block_items s.block s.text ≡ own
  pub rest_is : page_items rest ≡ zs
  pub rest_utf8 : IsUtf8 rest
  pub rest_calm : CallsNothing zs

behind_calm : (xs own zs : List Item) → CallsNothing (xs ++ (own ++ zs)) → CallsNothing zs
behind_calm xs own zs c =
    let joined : map sign (xs ++ (own ++ zs)) ≡ map sign xs ++ (map sign own ++ map sign zs) =
    map-append sign xs (own ++ zs) ∙ ap (λ (ss : List ℕ). map sign xs ++ ss) (map-append sign own zs) in
    pairs_behind (map sign own) (map sign zs) (pairs_behind (map sign xs) (map sign own ++ map sign zs) (subst (λ (ss : List ℕ). NonePairs (braces ss)) joined c))

pub spot_is : (s : BlockSpot) (rest : List ℕ) (zs : List Item) (c : IsSpotCut s zs) → page_items (s.before ++ (source_of s.block s.text ++ rest)) ≡ zs
    → IsUtf8 (s.before ++ (source_of s.block s.text ++ rest)) → CallsNothing zs → EndsClosed (source_of s.block s.text) rest
    → IsLedTo s.before s.block s.text → EndsThere rest → SpotIs s rest c.before c.own c.rest
spot_is s rest zs c e u calm closed led there =
    let line : List ℕ = source_of s.block s.text in
    let whole : page_items (s.before ++ (line ++ rest)) ≡ c.before ++ (c.own ++ c.rest) = e ∙ c.is in
    let first = page_cut s.before (line ++ rest) c.before (c.own ++ c.rest) whole c.source in
    let a : Bool = after_all (lexer Page) false s.before in
    let own_source : sources c.own ≡ line = block_source s.block s.text c.own c.block in
    let second = cut_from a line rest c.own c.rest first.behind own_source in
    let behind : page_items rest ≡ c.rest = alone_after (after_all (lexer Page) a line) rest c.rest (there_begins rest there) second.behind in
    let seen : BlockSeen (c.own ++ c.rest) = seen_with c.own c.rest (block_seen s.block s.text c.own c.block) in
    let all : page_items (line ++ rest) ≡ c.own ++ c.rest = seen_alone a (line ++ rest) (c.own ++ c.rest) seen first.behind in
    let alone = read_alone line c.own rest c.rest own_source there closed all behind in
    let before_parts = led_utf8 s.before s.block s.text (line ++ rest) led u in
    let line_parts = there_utf8 line rest there before_parts.1 in
    let read = block_read s.block s.text c.own c.block line_parts.0 alone in
    let calls : CallsNothing (c.before ++ (c.own ++ c.rest)) = subst CallsNothing c.is calm in
    let own_calm : CallsNothing c.own = calm_between c.before c.own c.rest (first_unbraced rest c.rest there behind) calls in
    record {
      read = record {
        utf8 = read.utf8;
        is = read.is;
        unended = alone.unended ∙ sym read.items;
        calm = subst CallsNothing (sym read.items) own_calm;
      };
      ended = alone.ended ∙ ap (λ (xs : List Item). xs ++ char None 10 ∷ []) (sym alone.unended);
      before_is = front_alone s.before (line ++ rest) c.before (c.own ++ c.rest) whole c.source;
      own_is = read.items;
      rest_is = behind;
      rest_utf8 = line_parts.1;
      rest_calm = behind_calm c.before c.own c.rest calls;
    }

-- ---- all blocks

abbrev pub AllRead : List BlockSpot → Type 0
AllRead [] = Unit {0}
AllRead (s ∷ ss) = OwnRead s.block s.text × AllRead ss

break_there : (bs rest : List ℕ) → BeginsBreak bs → EndsThere (bs ++ rest)
break_there [] rest h = absurd h
break_there (b ∷ bs) rest h = h

pub further_there : (last : TextBlock) (bs : List Bool) (ss : List BlockSpot) (behind : List ℕ) (zs : List Item) → AreFurtherIn last bs ss behind zs
    → EndsThere (spots_source ss behind)
further_there last bs [] behind zs h = h.0
further_there last bs (s ∷ ss) behind zs h = break_there s.before (source_of s.block s.text ++ spots_source ss behind) h.2

items_are : (s : BlockSpot) (ss : List BlockSpot) (behind : List ℕ) (zs : List Item) (c : IsSpotCut s zs) → SpotIs s (spots_source ss behind) c.before c.own c.rest
    → c.rest ≡ placed_items (items_of_spots ss) (page_items behind) → zs ≡ placed_items (items_of_spots (s ∷ ss)) (page_items behind)
items_are s ss behind zs c r e =
    c.is ∙ ap (λ (xs : List Item). xs ++ (c.own ++ c.rest)) (sym r.before_is)
    ∙ ap (λ (xs : List Item). page_items s.before ++ (xs ++ c.rest)) (sym r.own_is ∙ round_is s.block s.text)
    ∙ ap (λ (xs : List Item). placed_items (items_of_spots (s ∷ [])) xs) e

pub record FurtherRead (ss : List BlockSpot) (behind : List ℕ) (zs : List Item) : Type 0 where
  pub read : AllRead ss
  pub cuts : AreFurtherCuts ss behind zs
  pub items : zs ≡ placed_items (items_of_spots ss) (page_items behind)

further_read : (last : TextBlock) (bs : List Bool) (ss : List BlockSpot) (behind : List ℕ) (zs : List Item) → page_items (spots_source ss behind) ≡ zs
    → IsUtf8 (spots_source ss behind) → CallsNothing zs → EndClosed ss behind → AreFurtherIn last bs ss behind zs → FurtherRead ss behind zs
further_read last bs [] behind zs e u calm closed h = record { read = tt; cuts = h.0; items = sym e }
further_read last bs (s ∷ ss) behind zs e u calm closed h =
    let now : List Bool = open_behind_part bs (past_break h.0.before) in
    let r = spot_is s (spots_source ss behind) zs h.0 e u calm closed.0 h.1 (further_there s.block now ss behind h.0.rest h.6) in
    let m = further_read s.block now ss behind h.0.rest r.rest_is r.rest_utf8 r.rest_calm closed.1 h.6 in
    record {
      read = (r.read, m.read);
      cuts = (h.0, h.1, h.2, closed.0, m.cuts);
      items = items_are s ss behind zs h.0 r m.items;
    }

pub record PageRead (ss : List BlockSpot) (behind : List ℕ) : Type 0 where
  pub read : AllRead ss
  pub cuts : AreCuts ss behind
  pub items : page_items (spots_source ss behind) ≡ placed_items (items_of_spots ss) (page_items behind)

pub page_read : (ss : List BlockSpot) (behind : List ℕ) → IsUtf8 (spots_source ss behind) → CallsNothing (page_items (spots_source ss behind))
    → EndClosed ss behind → AreBlocksIn ss behind → PageRead ss behind
page_read [] behind u calm closed h = absurd h
page_read (s ∷ ss) behind u calm closed h =
    let zs : List Item = page_items (spots_source (s ∷ ss) behind) in
    let now : List Bool = open_behind_part [] h.0.before in
    let r = spot_is s (spots_source ss behind) zs h.0 refl u calm closed.0 h.1 (further_there s.block now ss behind h.0.rest h.4) in
    let m = further_read s.block now ss behind h.0.rest r.rest_is r.rest_utf8 r.rest_calm closed.1 h.4 in
    record {
      read = (r.read, m.read);
      cuts = (h.0, h.1, closed.0, m.cuts);
      items = items_are s ss behind zs h.0 r m.items;
    }
