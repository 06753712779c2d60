-- A page that is cut at paragraphs and headings, which may hold calls: its parts are read and expanded each by itself, and it may be edited.
use Rattle.std.proofs.Common.{arith, ◌≡◌, inr, ℕ, ◌<◌, Bool, true, false, List, [], ◌∷◌, ◌++◌, length, refl, sym, ap, ◌∙◌, length-append}
use Rattle.std.specs.Str.{IsUtf8}
use Rattle.wt_span.specs.declared.form.Mode.TheVariants.{Page}
use Rattle.wt_span.specs.Items.{Item, sources}
use Rattle.wt_expand.specs.PageItems.{page_items}
use Rattle.wt_expand.specs.Work.{Pages}
use Rattle.wt_expand.proofs.PageLaws.{page_sources}
use Rattle.wt_part_laws.specs.Lexer.{lexer}
use Rattle.wt_part_laws.specs.Scans.{after_all}
use Rattle.wt_text_edit_laws.specs.BlockSpots.{BlockSpot, spots_source, EndBeforeBlocks, IsReadSpot, AreReadSpots}
use Rattle.wt_text_edit_laws.specs.NoCalls.{NonePairs}
use Rattle.wt_text_edit_laws.specs.PageCuts.{BeginsBreak, EndsThere}
use Rattle.wt_text_edit_laws.specs.ReadContents.{begins_shown, IsReadContent}
use Rattle.wt_text_edit_laws.specs.TextBetween.{HasEndsBefore, BeginsShown, LineEnds}
use Rattle.wt_text_edit_laws.specs.SignParts.{IsLedTo}
use Rattle.wt_text_edit_laws.specs.TextBlocks.{TextBlock, source_of, block_items}
use Rattle.wt_text_edit_laws.proofs.Blocks.BlockReading.{content_begins, block_shown}
use Rattle.wt_text_edit_laws.proofs.Cuts.ItemCuts.{page_cut, cut_from, alone_after}
use Rattle.wt_text_edit_laws.proofs.Cuts.Seen.{shown_alone}
use Rattle.wt_text_edit_laws.proofs.Cuts.Utf8Cuts.{led_utf8, there_utf8}
use Rattle.wt_text_edit_laws.proofs.Prose.InFront.{reads_nothing, read_items}
use Rattle.wt_beside_laws.proofs.Derived.BlockContents.{there_begins}
use Rattle.wt_beside_laws.proofs.Derived.CutPages.{begins_line, ends_line, line_ended}
use Rattle.wt_text_edit_laws.proofs.Cuts.LedCuts.{led_ends}
use Rattle.wt_called_edit_laws.specs.CallingBlocks.{IsContentIn, AreContentsInFolder, spots_with_calls, items_past}
use Rattle.wt_called_edit_laws.specs.EditableBlocks.{IsEditableWithCalls}
use Rattle.wt_called_edit_laws.specs.ItemSpots.{AreContentsIn}
use Rattle.wt_called_edit_laws.specs.Parts.{all_left, calls_to, calls_past, GiveAnywhere, AreCalled}
use Rattle.wt_called_edit_laws.specs.PlacedCalling.{IsCutAt, AreFurtherCutsAt, AreCutsAt, IsPlacedCalling}
use Rattle.wt_called_edit_laws.proofs.Cells.PlacedAmong.{placed}

-- ---- a block that is read by itself

own_sources : (k : TextBlock) (q : List ℕ) → IsReadContent k q → sources (block_items k q) ≡ source_of k q
own_sources k q h = ap sources (sym h.unended) ∙ page_sources (source_of k q)

-- no line of comments begins it
pub block_begins : (k : TextBlock) (q rest : List ℕ) → IsReadContent k q → EndsThere rest → BeginsShown (source_of k q ++ rest)
block_begins k q [] h e = content_begins k q [] h tt
block_begins k q (b ∷ rest) h e = content_begins k q (b ∷ rest) h e

some_bytes : (bs : List ℕ) (xs : List Item) → page_items bs ≡ xs → begins_shown xs ≡ true → 0 < length bs
some_bytes [] xs e s =
    let none : [] ≡ xs = sym (read_items [] [] reads_nothing) ∙ e in
    let f : false ≡ true = ap begins_shown none ∙ s in
    cc
some_bytes (b ∷ bs) xs e s = omega arith

-- ---- a part of the page

-- with what is before it and what is behind it
record PartRead (s : BlockSpot) (rest : List ℕ) (zs : List Item) : Type 0 where
  before_utf8 : IsUtf8 s.before
  rest_utf8 : IsUtf8 rest
  ends : HasEndsBefore (source_of s.block s.text ++ rest) s.before
  line : LineEnds (source_of s.block s.text) rest
  rest_is : page_items rest ≡ zs

part_read : (s : BlockSpot) (rest : List ℕ) (zs : List Item) (c : IsCutAt s zs) → page_items (s.before ++ (source_of s.block s.text ++ rest)) ≡ zs
    → IsUtf8 (s.before ++ (source_of s.block s.text ++ rest)) → IsLedTo s.before s.block s.text → EndsThere rest → IsReadContent s.block s.text → PartRead s rest c.rest
part_read s rest zs c e u led there h =
    let line : List ℕ = source_of s.block s.text in
    let own : List Item = block_items s.block s.text in
    let whole : page_items (s.before ++ (line ++ rest)) ≡ c.before ++ (own ++ c.rest) = e ∙ c.is in
    let first = page_cut s.before (line ++ rest) c.before (own ++ c.rest) whole c.source in
    let after : Bool = after_all (lexer Page) false s.before in
    let own_source : sources own ≡ line = own_sources s.block s.text h in
    let second = cut_from after line rest own c.rest first.behind own_source in
    let behind : page_items rest ≡ c.rest = alone_after (after_all (lexer Page) after line) rest c.rest (there_begins rest there) second.behind in
    let all : page_items (line ++ rest) ≡ own ++ c.rest =
    shown_alone after (line ++ rest) (own ++ c.rest) (block_begins s.block s.text rest h there) first.behind in
    let before_parts = led_utf8 s.before s.block s.text (line ++ rest) led u in
    let line_parts = there_utf8 line rest there before_parts.1 in
    let some : 0 < length line = some_bytes line own h.unended (block_shown s.block s.text h) in
    let sum = length-append line rest in
    let more : 0 < length (line ++ rest) = omega (arith, some, sum) in
    record {
      before_utf8 = before_parts.0;
      rest_utf8 = line_parts.1;
      ends = led_ends s rest c.before (own ++ c.rest) led there more c.source whole;
      line = line_ended line own rest c.rest own_source there all behind;
      rest_is = behind;
    }

-- ---- all parts

further_there : (ss : List BlockSpot) (behind : List ℕ) (zs : List Item) → AreFurtherCutsAt ss behind zs → EndsThere (spots_source ss behind)
further_there [] behind zs h = h
further_there (s ∷ ss) behind zs h = by s.before h.2
  where
    by : (bs : List ℕ) → BeginsBreak bs → EndsThere (bs ++ (source_of s.block s.text ++ spots_source ss behind))
    by [] e = absurd e
    by (b ∷ bs) e = e

further_read : (pages : Pages) (ss : List BlockSpot) (behind : List ℕ) (zs : List Item) → page_items (spots_source ss behind) ≡ zs → IsUtf8 (spots_source ss behind)
    → AreFurtherCutsAt ss behind zs → AreContentsInFolder pages ss → AreReadSpots ss behind × EndBeforeBlocks ss behind
further_read pages [] behind zs e u h c = let begins = there_begins behind h in ((record { uncommented = begins.is }, u, ends_line behind h), tt)
further_read pages (s ∷ ss) behind zs e u h c =
    let own : IsContentIn pages s.block s.text = c.0 in
    let r = part_read s (spots_source ss behind) zs h.0 e u h.1 (further_there ss behind h.0.rest h.3) own.read in
    let more = further_read pages ss behind h.0.rest r.rest_is r.rest_utf8 h.3 c.1 in (
      (record { led = h.1; before_utf8 = r.before_utf8; block = own.read }, begins_line s.before h.2, more.0),
      (r.ends, inr r.line, more.1),
    )

-- ---- the page

give_anywhere : (pages : Pages) (ss : List BlockSpot) → AreContentsInFolder pages ss → GiveAnywhere pages ss
give_anywhere pages [] c = tt
give_anywhere pages (s ∷ ss) c = let own : IsContentIn pages s.block s.text = c.0 in (own.anywhere, give_anywhere pages ss c.1)

contents_in : (pages : Pages) (k : ℕ) (ss : List BlockSpot) → AreContentsInFolder pages ss → AreContentsIn (spots_with_calls pages k ss)
contents_in pages k [] c = tt
contents_in pages k (s ∷ ss) c =
    let own : IsContentIn pages s.block s.text = c.0 in (own.is (calls_to pages k s), contents_in pages (calls_past pages k s) ss c.1)

pub record PartsRead (s : BlockSpot) (ss : List BlockSpot) (behind : List ℕ) : Type 0 where
  pub first : IsReadSpot s
  pub rest : AreReadSpots ss behind
  pub ends : EndBeforeBlocks (s ∷ ss) behind

pub parts_read : (pages : Pages) (s : BlockSpot) (ss : List BlockSpot) (behind : List ℕ) → IsUtf8 (spots_source (s ∷ ss) behind) → AreCutsAt (s ∷ ss) behind
    → AreContentsInFolder pages (s ∷ ss) → PartsRead s ss behind
parts_read pages s ss behind u h c =
    let page : List ℕ = spots_source (s ∷ ss) behind in
    let own : IsContentIn pages s.block s.text = c.0 in
    let r = part_read s (spots_source ss behind) (page_items page) h.0 refl u h.1 (further_there ss behind h.0.rest h.2) own.read in
    let more = further_read pages ss behind h.0.rest r.rest_is r.rest_utf8 h.2 c.1 in
    record {
      first = record { led = h.1; before_utf8 = r.before_utf8; block = own.read };
      rest = more.0;
      ends = (r.ends, inr r.line, more.1);
    }

-- where no call goes over the end of a part
pub parts_called : (pages : Pages) (s : BlockSpot) (ss : List BlockSpot) (behind : List ℕ) → PartsRead s ss behind → AreContentsInFolder pages (s ∷ ss)
    → NonePairs (all_left (s ∷ ss) behind) → AreCalled pages (s ∷ ss) behind
parts_called pages s ss behind r c apart =
    (r.first, r.rest, record { end_before = r.ends; anywhere = give_anywhere pages (s ∷ ss) c; apart = apart })

pub calling_placed : (pages : Pages) (ss : List BlockSpot) (behind : List ℕ) → IsPlacedCalling pages ss behind → IsEditableWithCalls pages ss behind
calling_placed pages [] behind h = absurd h.cuts
calling_placed pages (s ∷ ss) behind h = record {
  blocks = record {
    called = parts_called pages s ss behind (parts_read pages s ss behind h.utf8 h.cuts h.contents) h.contents h.apart;
    contents = h.contents;
    placed = placed (spots_with_calls pages 0 (s ∷ ss)) (items_past pages 0 (s ∷ ss) behind) (contents_in pages 0 (s ∷ ss) h.contents) h.stand;
  };
  contents = h.editable;
  unrefused = h.unrefused;
  free = h.free;
}
