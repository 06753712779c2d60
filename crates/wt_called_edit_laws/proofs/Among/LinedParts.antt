-- A page with calls, by the lines of the expanded page: it is cut at the blocks that these tell, and each is at such a place.
use Rattle.std.proofs.Common.{arith, ◌≡◌, ◌≢◌, ◌⊎◌, inl, inr, ℕ, zero, suc, ◌+◌, ◌≤◌, ◌<◌, Bool, true, false, Option, Some, None, List, [], ◌∷◌, ◌++◌, length, map, refl, sym, ap, ap₂, ◌∙◌, subst, append_assoc, append-nil, length-append}
use Rattle.std.specs.Prelude.{if◌then◌else◌}
use Rattle.std.specs.Str.{IsUtf8}
use Rattle.std.proofs.lemmas.Bool.Decides.{nat_tests}
use Rattle.std.proofs.lemmas.Grind.{flat_map-append}
use Rattle.wt_span.specs.Items.{Item, char, whole, source, sources, call_of}
use Rattle.wt_span.specs.Origins.{OuterCall, Span}
use Rattle.wt_span.specs.Runs.{AreRuns}
use Rattle.wt_span.proofs.RunLaws.{runs_are}
use Rattle.wt_annotated.specs.Seams.{last_of, text_from}
use Rattle.wt_annotated.proofs.Seams.{text_append_from}
use Rattle.wt_lines.specs.Lines.{is_break_item, content, empty_end, goes_on}
use Rattle.wt_page.specs.Lines.{ending}
use Rattle.wt_page.proofs.Ends.{content_ending}
use Rattle.wt_page.specs.Rows.{Row}
use Rattle.wt_tables.specs.Parts.{joined}
use Rattle.wt_expand.specs.PageCalls.{expanded_page}
use Rattle.wt_expand.specs.PageItems.{page_items}
use Rattle.wt_expand.specs.Work.{Pages}
use Rattle.wt_expand.proofs.PageLaws.{page_sources}
use Rattle.wt_expand.proofs.PiecePlaces.{behind_page}
use Rattle.wt_part_laws.specs.Expanded.{moved_call, part_items, calls_in}
use Rattle.wt_commands.specs.Answers.{refusal_of_page}
use Rattle.wt_text_edit_laws.specs.BlockSpots.{BlockSpot, spots_source}
use Rattle.wt_text_edit_laws.specs.LonePages.{page_chars}
use Rattle.wt_text_edit_laws.specs.NoCalls.{CallsNothing}
use Rattle.wt_text_edit_laws.specs.PageCuts.{AreBlockItems, BeginsBreak, EndsThere, EndClosed, AreFurtherCuts, AreCuts}
use Rattle.wt_text_edit_laws.specs.ParagraphParts.{break}
use Rattle.wt_text_edit_laws.specs.TextBetween.{AreEnded}
use Rattle.wt_text_edit_laws.specs.TextBlocks.{TextBlock, a_paragraph, a_heading, source_of}
use Rattle.wt_text_edit_laws.specs.TypedHeadings.{equals}
use Rattle.wt_text_edit_laws.proofs.Between.LineComments.{lines_ended}
use Rattle.wt_text_edit_laws.proofs.Blocks.BlockReading.{read_spot, read_spots}
use Rattle.wt_text_edit_laws.proofs.Cuts.ItemCuts.{HaveBytes, page_from, from_has}
use Rattle.wt_text_edit_laws.proofs.Cuts.TextLines.{IsEnding, joined_is, lines_of}
use Rattle.wt_text_edit_laws.proofs.Paragraphs.LineBlocks.{OwnBreaks}
use Rattle.wt_text_edit_laws.proofs.Paragraphs.Texts.{one_line}
use Rattle.wt_text_edit_laws.proofs.Paragraphs.SeenLines.{seen_some}
use Rattle.wt_called_edit_laws.specs.AnyBlocks.{open_after, rows_of_part, open_behind_part, LeadsInto, past_break, BeginsAfter, NextApart, EndsAfter}
use Rattle.wt_called_edit_laws.specs.CalledBlocks.{spots_among, items_behind}
use Rattle.wt_called_edit_laws.specs.StaysIn.{StaysIn}
use Rattle.wt_called_edit_laws.specs.Covered.{AreInNoGroup, IsEditablePage}
use Rattle.wt_called_edit_laws.specs.Groups.{called_tree}
use Rattle.wt_called_edit_laws.specs.LinedAmong.{spots_on, end_on, AreOfPage, AreOwnLines, AreLed, AreBeside, AreUntouched, IsLinedAmong}
use Rattle.wt_called_edit_laws.specs.Parts.{calls_to, calls_past, called_items, called_outers, IsByParts}
use Rattle.wt_called_edit_laws.specs.PlacedAmong.{AreCalm, StandAfter, IsPlacedAmong}
use Rattle.wt_called_edit_laws.specs.PlacedLines.{LinedBlock, all_lines, IsLinedAt, AreLinedAfter, lead_of, front_rows}
use Rattle.wt_called_edit_laws.specs.PartTexts.{AreSourcesAt}
use Rattle.wt_called_edit_laws.proofs.Among.BlockAt.{calls_of, IsRest, IsBlockHere, text_to, block_to, BeginsOwn, block_here, beside_front}
use Rattle.wt_called_edit_laws.proofs.Among.OwnItems.{whole_rest}
use Rattle.wt_called_edit_laws.proofs.Among.OwnSeams.{Rest, FirstLonger, FirstShorter, two_cuts, first_or, others, sources_size, text_size}
use Rattle.wt_called_edit_laws.proofs.Among.PartsApart.{members_of, AreClear, ArePartsApart, parts_apart}
use Rattle.wt_called_edit_laws.proofs.Cells.PlacedLines.{own_items, Round, round, own_source, past_end, some_lines, lines_end}
use Rattle.wt_called_edit_laws.proofs.Cells.SignLeads.{rows_by, leads_by, own_block, StaysOn, stays_by}
use Rattle.wt_called_edit_laws.proofs.Cells.PlacedAmong.{PartsRead, parts_read, parts_called, placed_editable}
use Rattle.wt_called_edit_laws.proofs.Parts.NoCallsCalled.{calm_items, calm_count}
use Rattle.wt_called_edit_laws.proofs.Parts.PartByPart.{items_of}
use Rattle.wt_called_edit_laws.proofs.Parts.Retyped.{is_by_parts}
use Rattle.wt_called_edit_laws.proofs.PartTexts.{part_text, sources_first, sources_past, sources_moved}

-- ---- a line break of the page's own

own_break : (x : Item) → call_of x ≡ None → is_break_item x ≡ true → x ≡ break
own_break (char None b) e i = let z : b ≡ 10 = grind (arith, nat_tests, i) in ap (char None) z
own_break (char (Some k) b) e i = absurd (cc)
own_break (whole f o bs) e i = absurd (cc)

pub own_breaks : (xs : List Item) → AreOfPage xs → OwnBreaks xs
own_breaks [] h = tt
own_breaks (x ∷ xs) h = ((λ i. own_break x h.0 i), own_breaks xs h.2)

pub of_behind : (xs ys : List Item) → AreOfPage (xs ++ ys) → AreOfPage ys
of_behind [] ys h = h
of_behind (x ∷ xs) ys h = of_behind xs ys h.2

pub of_front : (xs ys : List Item) → AreOfPage (xs ++ ys) → AreOfPage xs
of_front [] ys h = tt
of_front (x ∷ xs) ys h = (h.0, h.1, of_front xs ys h.2)

abbrev pub EndsBreak : List Item → Type 0
EndsBreak xs = (xs ≡ []) ⊎ ((zs : List Item) × (xs ≡ zs ++ break ∷ []))

last_break : (v : Bool) → if◌then◌else◌ {A = List (List Item)} v ([] ∷ []) [] ≡ [] ∷ [] → v ≡ true
last_break true e = refl
last_break false e = cc

pub own_end : (o : Option ℕ) (xs : List Item) → empty_end xs ≡ [] ∷ [] → last_of o xs ≡ None → EndsBreak xs
own_end o [] e l = inl refl
own_end o (x ∷ []) e l = inr ([], ap (λ (y : Item). y ∷ []) (own_break x l (last_break (is_break_item x) e)))
own_end o (x ∷ y ∷ ys) e l = by (own_end (call_of x) (y ∷ ys) e l)
  where
    by : EndsBreak (y ∷ ys) → EndsBreak (x ∷ y ∷ ys)
    by (inl z) = absurd (cc)
    by (inr s) = inr (x ∷ s.0, ap (λ (us : List Item). x ∷ us) s.1)

pub ended_text : (calls : List OuterCall) (xs : List Item) → EndsBreak xs → AreEnded (text_from calls None xs)
ended_text calls xs (inl e) = subst (λ (us : List Item). AreEnded (text_from calls None us)) (sym e) tt
ended_text calls xs (inr s) =
    let one : text_from calls (last_of None s.0) (break ∷ []) ≡ 10 ∷ [] =
    ap (λ (bs : List ℕ). bs ++ []) (behind_page calls (last_of None s.0) break refl) in
    let is : text_from calls None xs ≡ text_from calls None s.0 ++ 10 ∷ [] =
    ap (text_from calls None) s.1 ∙ text_append_from calls None s.0 (break ∷ []) ∙ ap (λ (bs : List ℕ). text_from calls None s.0 ++ bs) one in
    subst AreEnded (sym is) (lines_ended (text_from calls None s.0 ++ 10 ∷ []) (one_line (text_from calls None s.0)))

-- the last of them, if there is one, is an item of the page's own
pub record IsLastOwn (xs : List Item) : Type 0 where
  pub front : List Item
  pub last : Item
  pub is : xs ≡ front ++ last ∷ []
  pub own : call_of last ≡ None
  pub some : 1 ≤ length (source last)

abbrev pub EndsOwn : List Item → Type 0
EndsOwn xs = (xs ≡ []) ⊎ IsLastOwn xs

last_own : (x : Item) (xs : List Item) → AreOfPage (x ∷ xs) → HaveBytes (x ∷ xs) → IsLastOwn (x ∷ xs)
last_own x [] h b = record { front = []; last = x; is = refl; own = h.0; some = b.0 }
last_own x (y ∷ ys) h b =
    let r = last_own y ys h.2 b.1 in
    record { front = x ∷ r.front; last = r.last; is = ap (λ (us : List Item). x ∷ us) r.is; own = r.own; some = r.some }

pub own_behind : (xs ms : List Item) → EndsBreak xs → AreOfPage ms → HaveBytes ms → EndsOwn (xs ++ ms)
own_behind xs [] (inl e) h b = inl (append-nil xs ∙ e)
own_behind xs [] (inr s) h b =
    let one : 1 ≤ length (source break) = omega arith in
    inr (record { front = s.0; last = break; is = append-nil xs ∙ s.1; own = refl; some = one })
own_behind xs (m ∷ ms) e h b =
    let r = last_own m ms h b in
    inr (record {
      front = xs ++ r.front;
      last = r.last;
      is = ap (λ us. xs ++ us) r.is ∙ sym (append_assoc xs r.front (r.last ∷ []));
      own = r.own;
      some = r.some;
    })

pub own_text_size : (calls : List OuterCall) (o : Option ℕ) (xs : List Item) (y : Item) → call_of y ≡ None → 1 ≤ length (source y)
    → 1 ≤ length (text_from calls o (xs ++ y ∷ []))
own_text_size calls o xs y e some =
    let a = text_size calls o xs (y ∷ []) in
    let b = ap (λ (bs : List ℕ). length (bs ++ [])) (behind_page calls (last_of o xs) y e) in
    let c = length-append (source y) [] in
    omega (arith, a, b, c, some)

-- what is left of a line, before others
begins_break : (calls : List OuterCall) (es : List Item) (xs : List Item) → es ≡ break ∷ [] → EndsThere (text_from calls None (es ++ xs))
begins_break calls es xs e = subst (λ (us : List Item). EndsThere (text_from calls None (us ++ xs))) (sym e) refl

pub ends_text : (calls : List OuterCall) (es : List Item) (ls : List (List Item)) → IsEnding es
    → ((m : List Item) (ms : List (List Item)) → ls ≡ m ∷ ms → es ≡ break ∷ []) → EndsThere (text_from calls None (es ++ joined ls))
ends_text calls [] [] i f = tt
ends_text calls (x ∷ es) [] i f = subst (λ (y : Item). EndsThere (text_from calls None ((y ∷ es) ++ []))) (sym i.0) refl
ends_text calls es (m ∷ ms) i f = begins_break calls es (joined (m ∷ ms)) (f m ms refl)

-- ---- a block has an item

block_some : (k : TextBlock) (q : List ℕ) (xs : List Item) → AreBlockItems k q xs → xs ≢ []
block_some a_paragraph q xs h e = seen_some xs h.seen e
block_some (a_heading s) q xs h e = by s.level h.some (sym h.is ∙ e)
  where
    by : (n : ℕ) → 1 ≤ n → page_chars (equals n ++ s.lead) ++ (h.own ++ (page_chars (s.trail ++ equals s.level) ++ h.rest)) ≢ []
    by zero le z = omega (arith, le)
    by (suc n) le z = cc

-- ---- the parts are those of the page

-- what is on the page for the items of what is before each block is that
abbrev pub AreBeforeTexts : Pages → List OuterCall → ℕ → List BlockSpot → Type 0
AreBeforeTexts pages calls k [] = Unit {0}
AreBeforeTexts pages calls k (s ∷ ss) = (text_from calls None (part_items pages k s.before) ≡ s.before) × AreBeforeTexts pages calls (calls_past pages k s) ss

pub before_texts : (pages : Pages) (calls : List OuterCall) (k : ℕ) (ss : List BlockSpot) (behind : List ℕ)
    → ((j : ℕ) (cs : List OuterCall) → AreSourcesAt (called_outers pages ss behind) j cs → AreSourcesAt calls (k + j) cs) → AreBeforeTexts pages calls k ss
before_texts pages calls k [] behind f = tt
before_texts pages calls k (s ∷ ss) behind f =
    let q : List ℕ = source_of s.block s.text in
    let before : List OuterCall = (expanded_page pages s.before).outer in
    let mine : List OuterCall = (expanded_page pages q).outer in
    let rest : List OuterCall = called_outers pages ss behind in
    let a : ℕ = length s.before in
    let b : ℕ = length q in
    let at : k + 0 ≡ k = omega arith in (
      part_text pages calls k s.before
          (subst (λ (i : ℕ). AreSourcesAt calls i before) at (f 0 before (sources_first before (map (moved_call a) (mine ++ map (moved_call b) rest))))),
      before_texts pages calls (calls_past pages k s) ss behind
          (λ j cs h.
          let there : AreSourcesAt (called_outers pages (s ∷ ss) behind) (length before + (length mine + j)) cs =
          sources_past before (map (moved_call a) (mine ++ map (moved_call b) rest)) (length mine + j) cs
          (sources_moved a (mine ++ map (moved_call b) rest) (length mine + j) cs
          (sources_past mine (map (moved_call b) rest) j cs (sources_moved b rest j cs h))) in
          let to : k + (length before + (length mine + j)) ≡ ((k + length before) + length mine) + j = omega arith in
          subst (λ (i : ℕ). AreSourcesAt calls i cs) to (f (length before + (length mine + j)) cs there)),
    )

pub cancel : (xs ys zs : List Item) → xs ++ ys ≡ xs ++ zs → ys ≡ zs
cancel [] ys zs e = e
cancel (x ∷ xs) ys zs e = cancel xs ys zs (ap others e)

pub no_items : (xs : List Item) (u : Item) (us : List Item) → [] ≡ xs ++ u ∷ us → ⊥
no_items [] u us e = cc
no_items (x ∷ xs) u us e = cc

-- an item of the page's own with a byte
record IsOwnByte (o : Item) : Type 0 where
  own : call_of o ≡ None
  some : 1 ≤ length (source o)

own_more : (calls : List OuterCall) (xs : List Item) (u : Item) (us : List Item) → IsOwnByte u → length (text_from calls None xs) < length (text_from calls None (xs ++ u ∷ us))
own_more calls xs u us h =
    let first = ap (λ (cs : List ℕ). length (cs ++ text_from calls (call_of u) us)) (behind_page calls (last_of None xs) u h.own) in
    let sum = length-append (source u) (text_from calls (call_of u) us) in
    let all = text_size calls None xs (u ∷ us) in
    omega (arith, first, sum, all, h.some)

-- the same bytes are before an item of the page's own in both, so the same items are before it
same_front : (calls : List OuterCall) (xs : List Item) (o : Item) (os gs : List Item) (p : Item) (ps : List Item) → xs ++ o ∷ os ≡ gs ++ p ∷ ps → IsOwnByte o → IsOwnByte p
    → text_from calls None xs ≡ text_from calls None gs → (gs ≡ xs) × (p ∷ ps ≡ o ∷ os)
same_front calls xs o os gs p ps e first second t = by (two_cuts xs (o ∷ os) gs (p ∷ ps) e)
  where
    from_longer : (us : List Item) → xs ≡ gs ++ us → p ∷ ps ≡ us ++ o ∷ os → (gs ≡ xs) × (p ∷ ps ≡ o ∷ os)
    from_longer [] is rest = (sym (is ∙ append-nil gs), rest)
    from_longer (u ∷ us) is rest =
        let h : IsOwnByte u = subst IsOwnByte (ap (first_or p) rest) second in
        let more = own_more calls gs u us h in
        let all = ap (λ (zs : List Item). length (text_from calls None zs)) is in
        let same = ap length t in
        absurd (omega (arith, more, all, same))

    by : FirstLonger xs (o ∷ os) gs (p ∷ ps) ⊎ FirstShorter xs (o ∷ os) gs (p ∷ ps) → (gs ≡ xs) × (p ∷ ps ≡ o ∷ os)
    by (inl l) = from_longer l.us l.xs_are l.bs_are
    by (inr s) =
        let h : IsOwnByte s.v = subst IsOwnByte (ap (first_or o) s.ys_are) first in
        let more = own_more calls xs s.v s.vs h in
        let all = ap (λ (zs : List Item). length (text_from calls None zs)) s.gs_are in
        let same = ap length t in
        absurd (omega (arith, more, all, same))

-- ---- one block

-- nothing is left of the line before, or its line break
abbrev pub IsLeft : List Item → Type 0
IsLeft es = (es ≡ []) ⊎ (es ≡ break ∷ [])

pub left_none : (es : List Item) → IsLeft es → last_of None es ≡ None
left_none es (inl e) = ap (last_of None) e
left_none es (inr e) = ap (last_of None) e

pub left_whole : (es xs : List Item) → IsLeft es → empty_end xs ≡ [] ∷ [] → empty_end (es ++ xs) ≡ [] ∷ []
left_whole es xs (inl e) w = ap (λ (zs : List Item). empty_end (zs ++ xs)) e ∙ w
left_whole es xs (inr e) w = ap (λ (zs : List Item). empty_end (zs ++ xs)) e ∙ past_end xs w

-- the tables that are open at a block
abbrev pub open_at : List Bool → LinedBlock → List Bool
open_at bs b = open_after bs (front_rows (length bs) b)

-- what is before its line, and before the block
abbrev pub line_front : List Item → LinedBlock → List Item
line_front es b = es ++ joined b.before

abbrev pub block_front : List Item → LinedBlock → List Item
block_front es b = line_front es b ++ lead_of b

-- a block with its lines among those of the page
pub record IsLinedHere (pages : Pages) (page : List ℕ) (open_tables : List Bool) (es : List Item) (b : LinedBlock) (tail : List (List Item)) (p : ℕ) (qs : List Item) : Type 0 where
  pub around : Round b tail
  pub items : es ++ joined (b.before ++ (((lead_of b ++ b.first) ∷ b.more) ++ tail)) ≡ block_front es b ++ (content (own_items b) ++ (ending (own_items b) ++ joined tail))
  pub here : IsBlockHere pages page p (block_front es b) (content (own_items b)) b.block b.text (ending (own_items b) ++ joined tail) qs
  pub block : AreBlockItems b.block b.text (content (own_items b))
  pub source_is : sources (content (own_items b)) ≡ source_of b.block b.text
  pub stays : StaysOn b.sign b.block (length (open_at open_tables b)) (content (own_items b))
  pub leads : LeadsInto b.block open_tables (joined b.before ++ lead_of b)
  pub own : AreOfPage (content (own_items b))
  pub next_at : text_to pages page p (block_front es b) + length (sources (content (own_items b))) ≡ block_to pages page p (line_front es b) (lead_of b) b.block b.text

-- the content's first item is the page's own
content_begins : (xs ys : List Item) → xs ≢ [] → AreOfPage xs → BeginsOwn (xs ++ ys)
content_begins [] ys some h = absurd (some refl)
content_begins (x ∷ xs) ys some h = inr (x, xs ++ ys, refl, h.0)

pub lined_here : (pages : Pages) (page : List ℕ) (open_tables : List Bool) (es : List Item) (b : LinedBlock) (tail : List (List Item)) (p : ℕ) (qs xs : List Item)
    → AreRuns goes_on (b.before ++ (((lead_of b ++ b.first) ∷ b.more) ++ tail)) xs → IsLeft es
    → IsRest pages page p (es ++ joined (b.before ++ (((lead_of b ++ b.first) ∷ b.more) ++ tail))) qs → IsLinedAt open_tables b → AreOfPage (own_items b)
    → AreBeside (text_to pages page p (block_front es b)) (text_to pages page p (block_front es b) + length (sources (own_items b))) (expanded_page pages page).text_calls
    → IsLinedHere pages page open_tables es b tail p qs
lined_here pages page open_tables es b tail p qs xs runs left rest h mine beside =
    let ts : List (List Item) = b.first ∷ b.more in
    let text : List Item = own_items b in
    let before : List Item = joined b.before in
    let front : List Item = block_front es b in
    let others : List Item = content text ++ (ending text ++ joined tail) in
    let r : Round b tail = round b tail xs h.some runs (own_breaks text mine) in
    let n : ℕ = length (open_at open_tables b) in
    let block = own_block b.block (length open_tables) b.before b.sign n b.text ts r.y r.ys r.some r.own_are h.sign h.own in
    let inside : AreOfPage (content text) = of_front (content text) (ending text) (subst AreOfPage (sym (content_ending text)) mine) in
    let items : es ++ joined (b.before ++ (((lead_of b ++ b.first) ∷ b.more) ++ tail)) ≡ front ++ others =
    ap (λ zs. es ++ zs) (r.items ∙ append_assoc before (lead_of b) others) ∙ sym (append_assoc es before (lead_of b ++ others))
    ∙ sym (append_assoc (line_front es b) (lead_of b) others) in
    let is_source : sources (content text) ≡ source_of b.block b.text = own_source b.sign b.block n b.text ts h.own in
    let from : ℕ = text_to pages page p front in
    let to : ℕ = from + length (source_of b.block b.text) in
    let spans : List Span = (expanded_page pages page).text_calls in
    let e1 = ap length is_source in
    let e2 = sources_size (content text) (ending text) in
    let e3 = ap (λ (zs : List Item). length (sources zs)) (content_ending text) in
    let next_at : from + length (sources (content text)) ≡ to = omega (arith, e1) in
    let within : to ≤ from + length (sources text) = omega (arith, e1, e2, e3) in
    let here = block_here pages page p front (content text) b.block b.text (ending text ++ joined tail) qs (subst (λ zs. IsRest pages page p zs qs) items rest)
    (content_begins (content text) (ending text ++ joined tail) (block_some b.block b.text (content text) block.0) inside) inside block.0 is_source
    (beside_front from to (from + length (sources text)) spans within beside) in
    record {
      around = r;
      items = items;
      here = here;
      block = block.0;
      source_is = is_source;
      stays = block.1;
      leads = leads_by b.block open_tables b.before b.sign b.marks h.are_marks h.sign r.front_are r.front_whole h.in_cells h.apart;
      own = inside;
      next_at = next_at;
    }

-- ---- as parts

abbrev pub spot_of : Pages → List ℕ → List Item → LinedBlock → BlockSpot
spot_of pages page es b = record { before = text_from (calls_of pages page) None (block_front es b); block = b.block; text = b.text }

pub spot_source : (pages : Pages) (page : List ℕ) (open_tables : List Bool) (es : List Item) (b : LinedBlock) (tail : List (List Item)) (p : ℕ) (qs : List Item)
    (l : IsLinedHere pages page open_tables es b tail p qs) (ss : List BlockSpot) (end : List ℕ) → spots_source ss end ≡ sources l.here.behind
    → spots_source (spot_of pages page es b ∷ ss) end ≡ sources qs
spot_source pages page open_tables es b tail p qs l ss end e =
    let own : List Item = content (own_items b) in
    ap₂ (λ (us vs : List ℕ). us ++ (vs ++ spots_source ss end)) (sym l.here.source) (sym l.source_is)
    ∙ ap (λ (vs : List ℕ). sources l.here.before ++ (sources own ++ vs)) e
    ∙ ap (λ (vs : List ℕ). sources l.here.before ++ vs) (sym (flat_map-append source own l.here.behind))
    ∙ sym (flat_map-append source l.here.before (own ++ l.here.behind)) ∙ ap sources (sym l.here.is)

pub some_first : (xs : List Item) → xs ≢ [] → (o : Item) × (os : List Item) × (xs ≡ o ∷ os)
some_first [] n = absurd (n refl)
some_first (x ∷ xs) n = (x, xs, refl)

-- what the part before it gives, and what is behind the block
record ArePartsHere (pages : Pages) (page : List ℕ) (es : List Item) (b : LinedBlock) (tail : List (List Item)) (k : ℕ) (ss : List BlockSpot) (end : List ℕ) : Type 0 where
  first : part_items pages k (spot_of pages page es b).before ≡ block_front es b
  rest : ending (own_items b) ++ joined tail ≡ called_items pages (calls_past pages k (spot_of pages page es b)) ss end
  count : calls_past pages k (spot_of pages page es b) ≡ k + calls_in pages (spot_of pages page es b).before

parts_here : (pages : Pages) (page : List ℕ) (open_tables : List Bool) (es : List Item) (b : LinedBlock) (tail : List (List Item)) (p : ℕ) (qs : List Item)
    → IsLinedHere pages page open_tables es b tail p qs → (k : ℕ) (ss : List BlockSpot) (end : List ℕ) → CallsNothing (page_items (source_of b.block b.text))
    → es ++ joined (b.before ++ (((lead_of b ++ b.first) ∷ b.more) ++ tail)) ≡ called_items pages k (spot_of pages page es b ∷ ss) end
    → text_from (calls_of pages page) None (part_items pages k (spot_of pages page es b).before) ≡ (spot_of pages page es b).before
    → ArePartsHere pages page es b tail k ss end
parts_here pages page open_tables es b tail p qs l k ss end calm e t =
    let s : BlockSpot = spot_of pages page es b in
    let line : List ℕ = source_of b.block b.text in
    let front : List Item = block_front es b in
    let own : List Item = content (own_items b) in
    let rest : List Item = ending (own_items b) ++ joined tail in
    let x1 : List Item = part_items pages k s.before in
    let x2 : List Item = part_items pages (calls_to pages k s) line in
    let x3 : List Item = called_items pages (calls_past pages k s) ss end in
    let some = some_first own (block_some b.block b.text own l.block) in
    let second : x2 ≡ own = calm_items pages (calls_to pages k s) line calm ∙ l.here.alone in
    let whole : front ++ some.0 ∷ (some.1 ++ rest) ≡ x1 ++ some.0 ∷ (some.1 ++ x3) =
    ap (λ zs. front ++ (zs ++ rest)) (sym some.2) ∙ sym l.items ∙ e ∙ ap (λ zs. x1 ++ (zs ++ x3)) (second ∙ some.2) in
    let first_own : AreOfPage (some.0 ∷ some.1) = subst AreOfPage some.2 l.own in
    let first_some : HaveBytes (some.0 ∷ some.1) = subst HaveBytes some.2 l.here.some in
    let byte : IsOwnByte some.0 = record { own = first_own.0; some = first_some.0 } in
    let same = same_front (calls_of pages page) front some.0 (some.1 ++ rest) x1 some.0 (some.1 ++ x3) whole byte byte (sym t) in
    let both : own ++ rest ≡ own ++ x3 = ap (λ zs. zs ++ rest) some.2 ∙ sym same.1 ∙ ap (λ zs. zs ++ x3) (sym some.2) in
    record {
      first = same.0;
      rest = cancel own rest x3 both;
      count = calm_count pages (calls_to pages k s) line calm;
    }

-- ---- all blocks

-- the blocks behind one, and what is behind the last
record AreLinedCuts (pages : Pages) (page : List ℕ) (last : TextBlock) (open_tables : List Bool) (es : List Item) (ls : List LinedBlock) (behind : List (List Item)) (p : ℕ)
    (qs : List Item) : Type 0 where
  cuts : AreFurtherCuts (spots_on (calls_of pages page) es ls) (end_on (calls_of pages page) es ls behind) qs
  clear : AreClear p (spots_on (calls_of pages page) es ls) (members_of page)
  calm : AreCalm (spots_on (calls_of pages page) es ls)
  source : spots_source (spots_on (calls_of pages page) es ls) (end_on (calls_of pages page) es ls behind) ≡ sources qs
  stand : (k : ℕ) → es ++ joined (all_lines ls behind) ≡ called_items pages k (spots_on (calls_of pages page) es ls) (end_on (calls_of pages page) es ls behind)
      → AreBeforeTexts pages (calls_of pages page) k (spots_on (calls_of pages page) es ls)
      → StandAfter last open_tables (spots_among pages k (spots_on (calls_of pages page) es ls))
      (items_behind pages k (spots_on (calls_of pages page) es ls) (end_on (calls_of pages page) es ls behind))

further : (pages : Pages) (page : List ℕ) (last : TextBlock) (open_tables : List Bool) (es : List Item) (ls : List LinedBlock) (behind : List (List Item)) (p : ℕ)
    (qs xs : List Item) → AreRuns goes_on (all_lines ls behind) xs → IsEnding es → ((m : List Item) (ms : List (List Item)) → all_lines ls behind ≡ m ∷ ms → es ≡ break ∷ [])
    → IsRest pages page p (es ++ joined (all_lines ls behind)) qs → AreLinedAfter last open_tables ls behind → AreOwnLines ls → AreLed (spots_on (calls_of pages page) es ls)
    → EndClosed (spots_on (calls_of pages page) es ls) (end_on (calls_of pages page) es ls behind)
    → AreUntouched (calls_of pages page) (expanded_page pages page).text_calls p es ls
    → AreLinedCuts pages page last open_tables es ls behind p qs
further pages page last open_tables es [] behind p qs xs runs i f r h own led c u =
    let calls : List OuterCall = calls_of pages page in
    let lined : AreRuns goes_on behind (joined behind) = subst (λ ys. AreRuns goes_on behind ys) (joined_is goes_on behind xs runs) runs in
    record {
      cuts = ends_text calls es behind i f;
      clear = tt;
      calm = tt;
      source = r.same;
      stand = λ k e t. subst (EndsAfter last (length open_tables)) e (lines_end last (length open_tables) es behind i f (lines_of behind lined) h).1;
    }
further pages page last open_tables es (b ∷ ls) behind p qs xs runs i f r h own led c u =
    let calls : List OuterCall = calls_of pages page in
    let tail : List (List Item) = all_lines ls behind in
    let front : List Item = joined b.before ++ lead_of b in
    let some = some_lines b.before (lead_of b ++ b.first) (b.more ++ tail) in
    let is_break : es ≡ break ∷ [] = f some.0 some.1 some.2 in
    let l : IsLinedHere pages page open_tables es b tail p qs =
    lined_here pages page open_tables es b tail p qs xs runs (inr is_break) r h.1 own.0 u.0 in
    let now : List Bool = open_at open_tables b in
    let left : List Item = ending (own_items b) in
    let ss : List BlockSpot = spots_on calls left ls in
    let end : List ℕ = end_on calls left ls behind in
    let end_at : ℕ = block_to pages page p (line_front es b) (lead_of b) b.block b.text in
    let d : AreLinedCuts pages page b.block now left ls behind end_at l.here.behind =
    further pages page b.block now left ls behind end_at l.here.behind (joined tail) l.around.tail_runs l.around.own_ending
    l.around.ends l.here.next h.2 own.2 led.1 c.1 (subst (λ (n : ℕ). AreUntouched calls (expanded_page pages page).text_calls n left ls) l.next_at u.1) in
    let calm : CallsNothing (page_items (source_of b.block b.text)) = subst CallsNothing (sym l.here.alone) own.1 in
    let rows : List Row = front_rows (length open_tables) b in
    let same : rows_of_part open_tables front ≡ rows = rows_by open_tables b.block b.before b.sign b.marks h.1.are_marks h.1.sign l.around.front_are l.around.front_whole in
    record {
      cuts = (
        record { before = l.here.before; own = content (own_items b); rest = l.here.behind; is = l.here.is; source = l.here.source; block = l.block },
        led.0,
        subst (λ (zs : List Item). BeginsBreak (text_from calls None (block_front zs b))) (sym is_break) refl,
        c.0,
        d.cuts,
      );
      clear = (l.here.first, l.here.last, d.clear);
      calm = (calm, d.calm);
      source = spot_source pages page open_tables es b tail p qs l ss end d.source;
      stand = λ k e t.
          let parts = parts_here pages page open_tables es b tail p qs l k ss end calm e t.0 in
          let later = subst (λ (n : ℕ). StandAfter b.block now (spots_among pages n ss) (items_behind pages n ss end)) parts.count
          (d.stand (calls_past pages k (spot_of pages page es b)) parts.rest t.1) in
          let n : ℕ = k + calls_in pages (spot_of pages page es b).before in
          let P : List Item → Type 0 = λ zs. BeginsAfter last b.block open_tables zs × LeadsInto b.block open_tables (past_break zs)
          × StaysIn b.block open_tables (past_break zs) (page_items b.text)
          × StandAfter b.block (open_behind_part open_tables (past_break zs)) (spots_among pages n ss) (items_behind pages n ss end) in
          subst P (ap (λ (zs : List Item). block_front zs b) (sym is_break) ∙ sym parts.first) (
            (refl, subst (NextApart last b.block) (sym same) h.0),
            l.leads,
            stays_by b.block open_tables b.before b.sign b.marks (page_items b.text) h.1.are_marks h.1.sign l.around.front_are l.around.front_whole
                (l.here.stays b.sign (length now) l.stays),
            subst (λ (rs : List Row). StandAfter b.block (open_after open_tables rs) (spots_among pages n ss) (items_behind pages n ss end)) (sym same) later,
          );
    }

-- ---- the page

pub page_text : (pages : Pages) (page : List ℕ) → text_from (calls_of pages page) None (expanded_page pages page).items ≡ page
page_text pages page =
    let calls : List OuterCall = calls_of pages page in
    ap (text_from calls None) (sym (items_of pages page))
    ∙ part_text pages calls 0 page (subst (λ (cs : List OuterCall). AreSourcesAt cs 0 calls) (append-nil calls) (sources_first calls []))

pub page_rest : (pages : Pages) (page : List ℕ) (ls : List (List Item)) → (expanded_page pages page).items ≡ joined ls → IsRest pages page 0 ([] ++ joined ls) (page_items page)
page_rest pages page ls e = record {
  rest = subst (λ zs. Rest pages (calls_of pages page) (expanded_page pages page).text_calls 0 (members_of page) 0 zs (page_items page)) e (whole_rest pages page);
  same = ap (text_from (calls_of pages page) None) (sym e) ∙ page_text pages page ∙ sym (page_sources page);
  front = [];
  whole = refl;
  some = subst HaveBytes (sym (page_from page)) (from_has false 0 page);
}

lined_among : (pages : Pages) (page : List ℕ) (ls : List LinedBlock) (behind : List (List Item)) → IsLinedAmong pages page ls behind
    → (spots_source (spots_on (calls_of pages page) [] ls) (end_on (calls_of pages page) [] ls behind) ≡ page)
    × IsPlacedAmong pages (spots_on (calls_of pages page) [] ls) (end_on (calls_of pages page) [] ls behind)
lined_among pages page [] behind h = absurd h.lined
lined_among pages page (b ∷ ls) behind h =
    let calls : List OuterCall = calls_of pages page in
    let tail : List (List Item) = all_lines ls behind in
    let ts : List (List Item) = (lead_of b ++ b.first) ∷ b.more in
    let front : List Item = joined b.before ++ lead_of b in
    let xs : List Item = (expanded_page pages page).items in
    let runs : AreRuns goes_on (b.before ++ (ts ++ tail)) xs = subst (λ (ks : List (List Item)). AreRuns goes_on ks xs) h.are (runs_are goes_on xs) in
    let all : xs ≡ joined (b.before ++ (ts ++ tail)) = joined_is goes_on (b.before ++ (ts ++ tail)) xs runs in
    let r : IsRest pages page 0 ([] ++ joined (b.before ++ (ts ++ tail))) (page_items page) = page_rest pages page (b.before ++ (ts ++ tail)) all in
    let l : IsLinedHere pages page [] [] b tail 0 (page_items page) =
    lined_here pages page [] [] b tail 0 (page_items page) xs runs (inl refl) r h.lined.0 h.own.0 h.untouched.0 in
    let now : List Bool = open_at [] b in
    let left : List Item = ending (own_items b) in
    let s : BlockSpot = spot_of pages page [] b in
    let ss : List BlockSpot = spots_on calls left ls in
    let end : List ℕ = end_on calls left ls behind in
    let end_at : ℕ = block_to pages page 0 (joined b.before) (lead_of b) b.block b.text in
    let d : AreLinedCuts pages page b.block now left ls behind end_at l.here.behind =
    further pages page b.block now left ls behind end_at l.here.behind (joined tail) l.around.tail_runs l.around.own_ending
    l.around.ends l.here.next h.lined.1 h.own.2 h.led.1 h.closed.1
    (subst (λ (n : ℕ). AreUntouched calls (expanded_page pages page).text_calls n left ls) l.next_at h.untouched.1) in
    let calm : CallsNothing (page_items (source_of b.block b.text)) = subst CallsNothing (sym l.here.alone) h.own.1 in
    let same : spots_source (s ∷ ss) end ≡ page = spot_source pages page [] [] b tail 0 (page_items page) l ss end d.source ∙ page_sources page in
    let utf8 : IsUtf8 (spots_source (s ∷ ss) end) = subst IsUtf8 (sym same) h.utf8 in
    let cuts : AreCuts (s ∷ ss) end = (
      record { before = l.here.before; own = content (own_items b); rest = l.here.behind; is = ap page_items same ∙ l.here.is; source = l.here.source; block = l.block },
      h.led.0,
      h.closed.0,
      d.cuts,
    ) in
    let all_calm : AreCalm (s ∷ ss) = (calm, d.calm) in
    let clear : AreClear 0 (s ∷ ss) (members_of page) = (l.here.first, l.here.last, d.clear) in
    let read : PartsRead s ss end = parts_read s ss end utf8 cuts all_calm h.free in
    let apart : ArePartsApart (s ∷ ss) end =
    parts_apart s ss end (read_spot s read.first) (read_spots ss end read.rest) read.ends
    (subst (λ (bs : List ℕ). AreClear 0 (s ∷ ss) (members_of bs)) (sym same) clear) in
    let by_parts : IsByParts pages (s ∷ ss) end = is_by_parts pages (s ∷ ss) end (parts_called pages s ss end read all_calm apart.none) in
    let items : [] ++ joined (b.before ++ (ts ++ tail)) ≡ called_items pages 0 (s ∷ ss) end =
    sym all ∙ sym (ap (λ (bs : List ℕ). (expanded_page pages bs).items) same) ∙ by_parts.items in
    let outers : calls ≡ called_outers pages (s ∷ ss) end = sym (ap (λ (bs : List ℕ). (expanded_page pages bs).outer) same) ∙ by_parts.outers in
    let texts : AreBeforeTexts pages calls 0 (s ∷ ss) =
    before_texts pages calls 0 (s ∷ ss) end (λ j cs g.
    let z : j ≡ 0 + j = omega arith in
    subst (λ (i : ℕ). AreSourcesAt calls i cs) z (subst (λ (os : List OuterCall). AreSourcesAt os j cs) (sym outers) g)) in
    let parts = parts_here pages page [] [] b tail 0 (page_items page) l 0 ss end calm items texts.0 in
    let n : ℕ = 0 + calls_in pages s.before in
    let later = subst (λ (i : ℕ). StandAfter b.block now (spots_among pages i ss) (items_behind pages i ss end)) parts.count
    (d.stand (calls_past pages 0 s) parts.rest texts.1) in
    let rows : List Row = front_rows 0 b in
    let rows_are : rows_of_part [] front ≡ rows = rows_by [] b.block b.before b.sign b.marks h.lined.0.are_marks h.lined.0.sign l.around.front_are l.around.front_whole in
    let P : List Item → Type 0 = λ zs. LeadsInto b.block [] zs × StaysIn b.block [] zs (page_items b.text)
    × StandAfter b.block (open_behind_part [] zs) (spots_among pages n ss) (items_behind pages n ss end) in (
      same,
      record {
        utf8 = utf8;
        cuts = cuts;
        calm = all_calm;
        apart = apart.none;
        free = h.free;
        stand = subst P (sym parts.first) (
          l.leads,
          stays_by b.block [] b.before b.sign b.marks (page_items b.text) h.lined.0.are_marks h.lined.0.sign l.around.front_are l.around.front_whole
              (l.here.stays b.sign (length now) l.stays),
          subst (λ (rs : List Row). StandAfter b.block (open_after [] rs) (spots_among pages n ss) (items_behind pages n ss end)) (sym rows_are) later,
        );
        unrefused = subst (λ (bs : List ℕ). refusal_of_page pages bs ≡ None) (sym same) h.unrefused;
        in_no_group = subst (λ (bs : List ℕ). AreInNoGroup 0 (s ∷ ss) (called_tree pages bs)) (sym same) h.in_no_group;
      },
    )

pub lined_whole : (pages : Pages) (page : List ℕ) (ls : List LinedBlock) (behind : List (List Item)) → IsLinedAmong pages page ls behind
    → spots_source (spots_on (calls_of pages page) [] ls) (end_on (calls_of pages page) [] ls behind) ≡ page
lined_whole pages page ls behind h = (lined_among pages page ls behind h).0

pub lined_placed : (pages : Pages) (page : List ℕ) (ls : List LinedBlock) (behind : List (List Item)) → IsLinedAmong pages page ls behind
    → IsPlacedAmong pages (spots_on (calls_of pages page) [] ls) (end_on (calls_of pages page) [] ls behind)
lined_placed pages page ls behind h = (lined_among pages page ls behind h).1

pub lined_editable : (pages : Pages) (page : List ℕ) (ls : List LinedBlock) (behind : List (List Item)) → IsLinedAmong pages page ls behind
    → IsEditablePage pages (spots_on (calls_of pages page) [] ls) (end_on (calls_of pages page) [] ls behind)
lined_editable pages page ls behind h =
    placed_editable pages (spots_on (calls_of pages page) [] ls) (end_on (calls_of pages page) [] ls behind) (lined_placed pages page ls behind h)
