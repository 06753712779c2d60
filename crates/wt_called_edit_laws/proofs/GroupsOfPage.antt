-- Where no group of the page's tree has the first byte of one of the blocks, the page is one of those of which text edits are taken.
use Rattle.std.proofs.Common.{arith, ◌≡◌, ◌≤◌, ◌<◌, ℕ, zero, suc, ◌+◌, None, List, [], ◌∷◌, ◌++◌, map, length, refl, sym, ap, ◌∙◌, subst, append-nil, length-append}
use Rattle.wt_devices.specs.Device.{Pages}
use Rattle.wt_tree.specs.Tree.{Tree}
use Rattle.wt_span.specs.Items.{sources}
use Rattle.wt_span.specs.Origins.{OuterCall}
use Rattle.wt_inline.specs.ItemTree.{ItemTree, tree_items}
use Rattle.wt_expand.specs.PageCalls.{expanded_page}
use Rattle.wt_commands.specs.Answers.{refusal_of_page}
use Rattle.wt_page.specs.Body.{meaning}
use Rattle.wt_annotated.specs.Annotated.{annotated}
use Rattle.wt_annotated.specs.GroupData.{group_data}
use Rattle.wt_annotated.specs.Seams.{text_from}
use Rattle.wt_annotated.proofs.Seams.{page_is}
use Rattle.wt_page_round_trip.proofs.HeldPages.{its_page}
use Rattle.wt_part_laws.specs.Frames.{Frames, trees_at, all_places}
use Rattle.wt_text_edit_laws.specs.BlockSpots.{BlockSpot, spots_source, SameRound, AreContents}
use Rattle.wt_text_edit_laws.specs.ParagraphBetween.{body_with}
use Rattle.wt_text_edit_laws.specs.TextBlocks.{TextBlock, a_paragraph, a_heading, source_of, block_tree}
use Rattle.wt_text_edit_laws.specs.Contents.{IsContent}
use Rattle.wt_text_edit_laws.specs.TypedHeadings.{equals}
use Rattle.wt_text_edit_laws.proofs.Blocks.BlockReading.{content_frame}
use Rattle.wt_text_edit_laws.proofs.Blocks.Contents.{block_source}
use Rattle.wt_text_edit_laws.proofs.Blocks.OwnContents.{paragraph_some}
use Rattle.wt_called_edit_laws.specs.Retyped.{AreRetyped}
use Rattle.wt_called_edit_laws.proofs.Parts.Retyped.{typed_again}
use Rattle.wt_part_laws.specs.Rounded.{AreOwn}
use Rattle.wt_part_laws.proofs.FrameEnds.{held, own_there}
use Rattle.wt_called_edit_laws.specs.CalledBlocks.{AreAmongCalls, StandAmongCalls, tree_by, counted}
use Rattle.wt_called_edit_laws.proofs.Cells.CalledFrames.{among_contents, stand_among}
use Rattle.wt_called_edit_laws.proofs.Cells.PlaceGaps.{Gaps, last_gap, then_gap, numbers_in, fill, source_at, sources_at, own_sources, FillsAll, AreSame, same_gaps, sources_counted, count_counted, many_by, self_round, AtPlaces as AtGaps}
use Rattle.wt_called_edit_laws.proofs.Cells.SpotTrees.{counted_same}
use Rattle.wt_called_edit_laws.specs.CalledPages.{IsCalledPage}
use Rattle.wt_called_edit_laws.specs.Covered.{AreInNoGroup, HasFreeByte, HaveFreeBytes}
use Rattle.wt_called_edit_laws.specs.Groups.{called_tree}
use Rattle.wt_called_edit_laws.proofs.CalledUtf8.{called_utf8, retyped}
use Rattle.wt_called_edit_laws.proofs.FreePlaces.{clean_where_free}
use Rattle.wt_called_edit_laws.proofs.GroupsAmong.{calls_same, retyped_self}
use Rattle.wt_called_edit_laws.proofs.OwnBlocks.{counted_own}
use Rattle.wt_called_edit_laws.proofs.PlaceBytes.{text_gaps, all_numbers, own_texts, page_fill, gaps_same, AtBytes, moved, page_places}
use Rattle.wt_called_edit_laws.proofs.Squashed.{all_squashed, trees_squashed, places_squashed, frames_squashed, squashed_hold}
use Rattle.wt_called_edit_laws.proofs.TextsUntangled.{AreThere, all_there}

-- ---- each block has a byte

para_some : (q : List ℕ) → IsContent a_paragraph q → 0 < length q
para_some [] h = absurd (paragraph_some [] h refl)
para_some (b ∷ bs) h = omega arith

pub signs_some : (n : ℕ) (lead rest : List ℕ) → 1 ≤ n → 0 < length ((equals n ++ lead) ++ rest)
signs_some zero lead rest h = absurd (omega (arith, h))
signs_some (suc n) lead rest h = omega arith

source_some : (k : TextBlock) (q : List ℕ) → IsContent k q → 0 < length (source_of k q)
source_some a_paragraph q h = para_some q h
source_some (a_heading s) q h = let f = content_frame (a_heading s) q h in signs_some s.level s.lead _ f.sides.some

block_some : (k : TextBlock) (q : List ℕ) → IsContent k q → 0 < length (sources (tree_items (block_tree k q)))
block_some k q h = subst (λ (bs : List ℕ). 0 < length bs) (sym (block_source k q)) (source_some k q h)

abbrev pub HaveBytes : (ℕ → ItemTree) → List ℕ → Type 0
HaveBytes t [] = Unit {0}
HaveBytes t (n ∷ ns) = (0 < length (sources (tree_items (t n)))) × HaveBytes t ns

bytes_up : (s : BlockSpot) (ss : List BlockSpot) (ns : List ℕ) → HaveBytes (tree_by ss) ns → HaveBytes (tree_by (s ∷ ss)) (map suc ns)
bytes_up s ss [] h = tt
bytes_up s ss (n ∷ ns) h = (h.0, bytes_up s ss ns h.1)

pub have_bytes : (ss : List BlockSpot) → AreContents ss → HaveBytes (tree_by ss) (counted ss)
have_bytes [] b = tt
have_bytes (s ∷ ss) b = (block_some s.block s.text b.0, bytes_up s ss (counted ss) (have_bytes ss b.1))

-- ---- the page between its places

squashed_stand : (pages : Pages) (ss : List BlockSpot) (behind : List ℕ) → StandAmongCalls pages ss behind → StandAmongCalls pages ss behind
squashed_stand pages ss behind f = record {
  frames = all_squashed f.frames;
  of_cells = frames_squashed f.frames _ f.of_cells;
  in_order = places_squashed f.frames ∙ f.in_order;
  means = λ rs t. f.means rs t ∙ ap body_with (sym (trees_squashed (tree_by rs) f.frames));
}

own_places : (pages : Pages) (ss rs : List BlockSpot) (behind : List ℕ) (f : StandAmongCalls pages ss behind) → SameRound ss rs → AreContents rs
    → AreOwn (tree_by rs) (all_places f.frames)
own_places pages ss rs behind f e b = subst (AreOwn (tree_by rs)) (counted_same ss rs e ∙ sym f.in_order) (counted_own rs b)

page_text : (pages : Pages) (ss rs : List BlockSpot) (behind : List ℕ) (h : AreAmongCalls pages ss behind) (f : StandAmongCalls pages ss behind)
    → refusal_of_page pages (spots_source ss behind) ≡ None → AreRetyped ss rs
    → text_from (expanded_page pages (spots_source rs behind)).outer None (held (tree_by rs) f.frames) ≡ spots_source rs behind
page_text pages ss rs behind h f free t =
    let page : List ℕ = spots_source rs behind in
    let calls : List OuterCall = (expanded_page pages page).outer in
    let again = typed_again pages ss rs behind h.called t in
    ap (text_from calls None) (sym (append-nil (held (tree_by rs) f.frames)))
    ∙ ap (λ m. text_from calls None (tree_items m)) (sym (f.means rs t))
    ∙ sym (page_is calls (tree_items (meaning (expanded_page pages page).items)))
    ∙ its_page pages page (called_utf8 pages rs behind again.called) (again.unrefused free)

abbrev page_gaps : Pages → (ss : List BlockSpot) (behind : List ℕ) → Frames → Gaps
page_gaps pages ss behind fs = text_gaps (expanded_page pages (spots_source ss behind)).outer None fs (last_gap [])

fills_page : (pages : Pages) (ss : List BlockSpot) (behind : List ℕ) (h : AreAmongCalls pages ss behind) (f : StandAmongCalls pages ss behind)
    → refusal_of_page pages (spots_source ss behind) ≡ None → FillsAll (page_gaps pages ss behind f.frames) ss behind
fills_page pages ss behind h f free rs e b o =
    let t : AreRetyped ss rs = retyped ss rs e o in
    let calls : List OuterCall = (expanded_page pages (spots_source ss behind)).outer in
    let others : List OuterCall = (expanded_page pages (spots_source rs behind)).outer in
    let now = own_places pages ss rs behind f e b in
    let g : Gaps = text_gaps others None f.frames (last_gap []) in
    ap (fill (own_sources rs)) (gaps_same calls others (calls_same pages ss rs behind h t) None f.frames (last_gap []) (last_gap []) refl)
    ∙ ap (λ (ts : List (List ℕ)). fill ts g) (sym (ap (λ (is : List ℕ). sources_at (tree_by rs) is []) (f.in_order ∙ sym (counted_same ss rs e)) ∙ sources_counted rs))
    ∙ page_fill others (tree_by rs) (tree_by rs) f.frames (last_gap []) [] (own_texts others (tree_by rs) (all_places f.frames) now)
    (own_there (tree_by rs) f.frames None None now)
    ∙ append-nil (text_from others None (held (tree_by rs) f.frames))
    ∙ page_text pages ss rs behind h f free t

-- ---- the blocks' bytes

-- the first of each is one
pub first_bytes : (u : Tree) (ss : List BlockSpot) (at : ℕ) → AreContents ss → AreInNoGroup at ss u → HaveFreeBytes at ss u
first_bytes u [] at c h = tt
first_bytes u (s ∷ ss) at c h =
    let start : ℕ = at + length s.before in
    let end : ℕ = start + length (source_of s.block s.text) in
    let some : 0 < length (source_of s.block s.text) = source_some s.block s.text c.0 in
    let low : start ≤ start = omega arith in
    let high : start < end = omega (arith, some) in
    ((start, low, high, h.0), first_bytes u ss end c.1 h.1)

pub block_places : (u : Tree) (t : ℕ → ItemTree) (front : List ℕ) (g : Gaps) (ss : List BlockSpot) (at : ℕ) → at ≡ length front → AreSame g ss
    → AreThere t (numbers_in g) ss → HaveFreeBytes at ss u → AtGaps (AtBytes (HasFreeByte u) t) t front g
block_places u t front (last_gap xs) ss at i m a h = tt
block_places u t front (then_gap xs n g) [] at i m a h = absurd m
block_places u t front (then_gap xs n g) (s ∷ ss) at i m a h =
    let here : List ℕ = front ++ xs in
    let own : List ℕ = source_at t n in
    let own_is : own ≡ source_of s.block s.text = ap (λ x. sources (tree_items x)) a.0 ∙ block_source s.block s.text in
    let first : length s.before ≡ length xs = ap length (sym m.0) in
    let size : length (source_of s.block s.text) ≡ length own = ap length (sym own_is) in
    let one : length here ≡ length front + length xs = length-append front xs in
    let two : length (here ++ own) ≡ length here + length own = length-append here own in
    let start : at + length s.before ≡ length here = omega (arith, i, first, one) in
    let behind : (at + length s.before) + length (source_of s.block s.text) ≡ length (here ++ own) = omega (arith, start, size, two) in (
      moved (HasFreeByte u) (at + length s.before) (length here) (length (source_of s.block s.text)) (length own) start size h.0,
      block_places u t (here ++ own) g ss ((at + length s.before) + length (source_of s.block s.text)) behind m.1 a.1 h.1,
    )

-- ---- the page

pub page_outside : (pages : Pages) (ss : List BlockSpot) (behind : List ℕ) → AreAmongCalls pages ss behind
    → refusal_of_page pages (spots_source ss behind) ≡ None → AreInNoGroup 0 ss (called_tree pages (spots_source ss behind)) → IsCalledPage pages ss behind
unfolding squashed_stand
page_outside pages ss behind h free g =
    let page : List ℕ = spots_source ss behind in
    let calls : List OuterCall = (expanded_page pages page).outer in
    let f : StandAmongCalls pages ss behind = squashed_stand pages ss behind (stand_among pages ss behind h) in
    let fs : Frames = f.frames in
    let t : ℕ → ItemTree = tree_by ss in
    let blocks : AreContents ss = among_contents pages ss behind h in
    let own : AreOwn t (all_places fs) = own_places pages ss ss behind f (self_round ss) blocks in
    let u : Tree = annotated calls (group_data calls) (body_with (trees_at t fs)) in
    let inside : AreInNoGroup 0 ss u = subst (λ m. AreInNoGroup 0 ss (annotated calls (group_data calls) m)) (f.means ss (retyped_self ss)) g in
    let gaps : Gaps = page_gaps pages ss behind fs in
    let numbers : numbers_in gaps ≡ counted ss = all_numbers calls None fs (last_gap []) ∙ append-nil (all_places fs) ∙ f.in_order in
    let same : AreSame gaps ss =
    same_gaps gaps ss behind (many_by gaps ss (ap length numbers ∙ count_counted ss)) blocks (fills_page pages ss behind h f free) in
    let at = page_places (HasFreeByte u) calls t t fs (last_gap []) (own_texts calls t (all_places fs) own) (own_there t fs None None own)
    (block_places u t [] gaps ss 0 refl same (subst (λ (ns : List ℕ). AreThere t ns ss) (sym numbers) (all_there ss)) (first_bytes u ss 0 blocks inside)) in
    record {
      outside = record {
        among = h;
        stand = f;
        clean = clean_where_free calls fs t f.of_cells (squashed_hold (stand_among pages ss behind h).frames) at;
      };
      unrefused = free;
    }
