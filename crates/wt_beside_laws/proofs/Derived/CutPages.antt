-- A page that calls nothing, cut at blocks that aren't tangled: it is read part by part, and each block is a content.
use Rattle.std.proofs.Common.{arith, ◌≡◌, ◌≢◌, inl, inr, ℕ, zero, suc, ◌<◌, ◌≤◌, Bool, false, None, List, [], ◌∷◌, ◌++◌, length, refl, sym, ap, ◌∙◌, subst, append_assoc, length-append}
use Rattle.std.specs.Prelude.{map}
use Rattle.std.specs.Str.{IsUtf8}
use Rattle.std.proofs.lemmas.List.{map-append}
use Rattle.std.proofs.lemmas.Grind.{flat_map-append}
use Rattle.wt_span.specs.declared.form.Mode.TheVariants.{Page}
use Rattle.wt_span.specs.Items.{Item, char, sign, source, sources}
use Rattle.wt_expand.specs.PageItems.{page_items}
use Rattle.wt_part_laws.specs.Lexer.{lexer}
use Rattle.wt_part_laws.specs.Scans.{after_all}
use Rattle.wt_text_edit_laws.specs.BlockSpots.{BlockSpot, spots_source, EndBeforeBlocks, AreReadAfter, AreRead}
use Rattle.wt_text_edit_laws.specs.Contents.{IsHeadingLine, IsContent}
use Rattle.wt_text_edit_laws.specs.NoCalls.{braces, NonePairs, CallsNothing}
use Rattle.wt_text_edit_laws.specs.PageCuts.{BeginsBreak, EndsThere, EndsClosed, IsSpotCut, AreFurtherCuts, AreCuts, AreFree}
use Rattle.wt_text_edit_laws.specs.SignParts.{IsLedTo}
use Rattle.wt_text_edit_laws.specs.TextBetween.{HasEndsBefore, LineEnds}
use Rattle.wt_text_edit_laws.specs.TextBlocks.{TextBlock, a_paragraph, a_heading, source_of, BeginsLine}
use Rattle.wt_text_edit_laws.specs.TypedHeadings.{equals, closing, EndsLine}
use Rattle.wt_text_edit_laws.proofs.Between.BraceWords.{pairs_behind}
use Rattle.wt_text_edit_laws.proofs.Between.LineComments.{lines_ended}
use Rattle.wt_text_edit_laws.proofs.Blocks.OwnContents.{paragraph_some}
use Rattle.wt_text_edit_laws.proofs.Cuts.ItemCuts.{cut_from, page_cut, alone_after}
use Rattle.wt_text_edit_laws.proofs.Cuts.SettledEnds.{settled_ends, line_settled}
use Rattle.wt_text_edit_laws.proofs.Cuts.LedCuts.{ends_plain, led_ends}
use Rattle.wt_text_edit_laws.proofs.Cuts.Utf8Cuts.{led_utf8, there_utf8}
use Rattle.wt_text_edit_laws.proofs.Paragraphs.Texts.{one_line}
use Rattle.wt_text_edit_laws.proofs.Prose.InFront.{reads_nothing, read_items}
use Rattle.wt_beside_laws.proofs.Derived.BlockContents.{block_source, there_begins, break_first, ReadAlone, read_alone, BlockRead, block_read, BlockSeen, block_seen, seen_with, seen_alone, first_unbraced, calm_between, block_content}

-- ---- edges of parts

pub further_there : (ss : List BlockSpot) (behind : List ℕ) (zs : List Item) → AreFurtherCuts ss behind zs → EndsThere (spots_source ss behind)
further_there [] behind zs h = h
further_there (s ∷ ss) behind zs h = by s.before h.2
  where
    by : (bs : List ℕ) → BeginsBreak bs → EndsThere (bs ++ (source_of s.block s.text ++ spots_source ss behind))
    by [] e = absurd e
    by (b ∷ bs) e = e

pub begins_line : (bs : List ℕ) → BeginsBreak bs → BeginsLine (page_items bs)
begins_line [] e = absurd e
begins_line (b ∷ bs) e =
    let P : ℕ → Type 0 = λ (c : ℕ). BeginsLine (page_items (c ∷ bs)) in
    subst P (sym e) (let first = break_first bs (page_items (10 ∷ bs)) refl in subst BeginsLine (sym first.is) refl)

pub ends_line : (bs : List ℕ) → EndsThere bs → EndsLine (page_items bs)
ends_line [] e = subst EndsLine (sym (read_items [] [] reads_nothing)) tt
ends_line (b ∷ bs) e =
    let P : ℕ → Type 0 = λ (c : ℕ). EndsLine (page_items (c ∷ bs)) in
    subst P (sym e) (let first = break_first bs (page_items (10 ∷ bs)) refl in subst EndsLine (sym first.is) refl)

-- ---- what begins in a block ends in it

block_some : (k : TextBlock) (q : List ℕ) → IsContent k q → 0 < length (source_of k q)
block_some a_paragraph q h = by q (paragraph_some q h)
  where
    by : (bs : List ℕ) → bs ≢ [] → 0 < length bs
    by [] n = absurd (n refl)
    by (b ∷ bs) n = omega arith
block_some (a_heading s) q h =
    let own : IsHeadingLine s q = h.is in
    by s.level own.frame.sides.some
  where
    by : (n : ℕ) → 1 ≤ n → 0 < length ((equals n ++ s.lead) ++ (q ++ closing s))
    by zero le = absurd (omega (arith, le))
    by (suc n) le = omega arith

break_ended : (line : List ℕ) (own : List Item) (r : List ℕ) (rest : List Item) → sources own ≡ line → page_items (line ++ 10 ∷ r) ≡ own ++ rest
    → page_items (10 ∷ r) ≡ rest → HasEndsBefore r (line ++ 10 ∷ [])
break_ended line own [] rest is e behind =
    let c = page_cut line (10 ∷ []) own rest e is in line_settled line (c.settles (inr refl))
break_ended line own (d ∷ r) rest is e behind =
    let break : List Item = char None 10 ∷ [] in
    let full : List ℕ = line ++ 10 ∷ [] in
    let first = break_first (d ∷ r) rest behind in
    let all : page_items (full ++ d ∷ r) ≡ (own ++ break) ++ first.more =
    ap page_items (append_assoc line (10 ∷ []) (d ∷ r)) ∙ e ∙ ap (λ (ys : List Item). own ++ ys) first.is ∙ sym (append_assoc own break first.more) in
    let size : sources (own ++ break) ≡ full = flat_map-append source own break ∙ ap (λ (bs : List ℕ). bs ++ 10 ∷ []) is in
    let c = page_cut full (d ∷ r) (own ++ break) first.more all size in
    settled_ends full (d ∷ r) (omega arith) (c.settles (inl (ends_plain full (lines_ended full (one_line line)))))

pub line_ended : (line : List ℕ) (own : List Item) (rest : List ℕ) (zs : List Item) → sources own ≡ line → EndsThere rest → page_items (line ++ rest) ≡ own ++ zs
    → page_items rest ≡ zs → LineEnds line rest
line_ended line own [] zs is e all behind = tt
line_ended line own (b ∷ r) zs is e all behind =
    let P : ℕ → Type 0 = λ (c : ℕ). page_items (line ++ c ∷ r) ≡ own ++ zs → page_items (c ∷ r) ≡ zs → HasEndsBefore r (line ++ c ∷ []) in
    subst P (sym e) (λ f g. break_ended line own r zs is f g) all behind

-- ---- one block, with what is before it and what is behind it

pub record SpotRead (s : BlockSpot) (rest : List ℕ) (zs : List Item) : Type 0 where
  pub before_utf8 : IsUtf8 s.before
  pub rest_utf8 : IsUtf8 rest
  pub content : IsContent s.block s.text
  pub ends : HasEndsBefore (source_of s.block s.text ++ rest) s.before
  pub line : LineEnds (source_of s.block s.text) rest
  pub rest_is : page_items rest ≡ zs

-- of a page that calls nothing no block calls anything, and neither does what is behind it
own_calm : (s : BlockSpot) (rest : List ℕ) (zs : List Item) (c : IsSpotCut s zs) → EndsThere rest → CallsNothing zs → page_items rest ≡ c.rest → CallsNothing c.own
own_calm s rest zs c there calm behind =
    calm_between c.before c.own c.rest (first_unbraced rest c.rest there behind) (subst CallsNothing c.is calm)

behind_calm : (xs own zs : List Item) → CallsNothing (xs ++ (own ++ zs)) → CallsNothing zs
behind_calm xs own zs c =
    let joined : map sign (xs ++ (own ++ zs)) ≡ map sign xs ++ (map sign own ++ map sign zs) =
    map-append sign xs (own ++ zs) ∙ ap (λ (ss : List ℕ). map sign xs ++ ss) (map-append sign own zs) in
    pairs_behind (map sign own) (map sign zs) (pairs_behind (map sign xs) (map sign own ++ map sign zs) (subst (λ (ss : List ℕ). NonePairs (braces ss)) joined c))

some_before : (line rest : List ℕ) → 0 < length line → 0 < length (line ++ rest)
some_before line rest h = omega (arith, h, length-append line rest)

pub spot_read : (s : BlockSpot) (rest : List ℕ) (zs : List Item) (c : IsSpotCut s zs) → page_items (s.before ++ (source_of s.block s.text ++ rest)) ≡ zs
    → IsUtf8 (s.before ++ (source_of s.block s.text ++ rest)) → IsLedTo s.before s.block s.text → EndsThere rest → EndsClosed (source_of s.block s.text) rest
    → (page_items rest ≡ c.rest → ReadAlone (source_of s.block s.text) c.own → BlockRead s.block s.text c.own → IsContent s.block s.text) → SpotRead s rest c.rest
spot_read s rest zs c e u led there closed make =
    let line : List ℕ = source_of s.block s.text in
    let whole : page_items (s.before ++ (line ++ rest)) ≡ c.before ++ (c.own ++ c.rest) = e ∙ c.is in
    let first = page_cut s.before (line ++ rest) c.before (c.own ++ c.rest) whole c.source in
    let a : Bool = after_all (lexer Page) false s.before in
    let own_source : sources c.own ≡ line = block_source s.block s.text c.own c.block in
    let second = cut_from a line rest c.own c.rest first.behind own_source in
    let behind : page_items rest ≡ c.rest = alone_after (after_all (lexer Page) a line) rest c.rest (there_begins rest there) second.behind in
    let seen : BlockSeen (c.own ++ c.rest) = seen_with c.own c.rest (block_seen s.block s.text c.own c.block) in
    let all : page_items (line ++ rest) ≡ c.own ++ c.rest = seen_alone a (line ++ rest) (c.own ++ c.rest) seen first.behind in
    let alone = read_alone line c.own rest c.rest own_source there closed all behind in
    let before_parts = led_utf8 s.before s.block s.text (line ++ rest) led u in
    let line_parts = there_utf8 line rest there before_parts.1 in
    let read = block_read s.block s.text c.own c.block line_parts.0 alone in
    let content : IsContent s.block s.text = make behind alone read in
    record {
      before_utf8 = before_parts.0;
      rest_utf8 = line_parts.1;
      content = content;
      ends = led_ends s rest c.before (c.own ++ c.rest) led there (some_before line rest (block_some s.block s.text content)) c.source whole;
      line = line_ended line c.own rest c.rest own_source there all behind;
      rest_is = behind;
    }

-- ---- all blocks

further_read : (ss : List BlockSpot) (behind : List ℕ) (zs : List Item) → page_items (spots_source ss behind) ≡ zs → IsUtf8 (spots_source ss behind) → CallsNothing zs
    → AreFurtherCuts ss behind zs → AreFree ss → AreReadAfter ss behind × EndBeforeBlocks ss behind
further_read [] behind zs e u calm h f =
    let begins = there_begins behind h in
    ((record { uncommented = begins.is }, u, ends_line behind h), tt)
further_read (s ∷ ss) behind zs e u calm h f =
    let there : EndsThere (spots_source ss behind) = further_there ss behind h.0.rest h.4 in
    let r = spot_read s (spots_source ss behind) zs h.0 e u h.1 there h.3
    (λ c a b. block_content s.block s.text h.0.own a b (own_calm s (spots_source ss behind) zs h.0 there calm c) f.0) in
    let more = further_read ss behind h.0.rest r.rest_is r.rest_utf8 (behind_calm h.0.before h.0.own h.0.rest (subst CallsNothing h.0.is calm)) h.4 f.1 in (
      (record { led = h.1; before_utf8 = r.before_utf8; block = r.content }, begins_line s.before h.2, more.0),
      (r.ends, inr r.line, more.1),
    )

pub cut_read : (ss : List BlockSpot) (behind : List ℕ) → IsUtf8 (spots_source ss behind) → CallsNothing (page_items (spots_source ss behind))
    → AreCuts ss behind → AreFree ss → AreRead ss behind
cut_read [] behind u calm h f = absurd h
cut_read (s ∷ ss) behind u calm h f =
    let page : List ℕ = spots_source (s ∷ ss) behind in
    let there : EndsThere (spots_source ss behind) = further_there ss behind h.0.rest h.3 in
    let r = spot_read s (spots_source ss behind) (page_items page) h.0 refl u h.1 there h.2
    (λ c a b. block_content s.block s.text h.0.own a b (own_calm s (spots_source ss behind) (page_items page) h.0 there calm c) f.0) in
    let more = further_read ss behind h.0.rest r.rest_is r.rest_utf8 (behind_calm h.0.before h.0.own h.0.rest (subst CallsNothing h.0.is calm)) h.3 f.1 in (
      record { led = h.1; before_utf8 = r.before_utf8; block = r.content },
      more.0,
      record { calls_nothing = calm; end_before = (r.ends, inr r.line, more.1) },
    )

-- one block, whose content is told
pub one_read : (s : BlockSpot) (behind : List ℕ) (c : IsSpotCut s (page_items (spots_source (s ∷ []) behind))) → IsUtf8 (spots_source (s ∷ []) behind)
    → CallsNothing (page_items (spots_source (s ∷ []) behind)) → IsLedTo s.before s.block s.text → EndsThere behind → EndsClosed (source_of s.block s.text) behind
    → (ReadAlone (source_of s.block s.text) c.own → BlockRead s.block s.text c.own → CallsNothing c.own → IsContent s.block s.text) → AreRead (s ∷ []) behind
one_read s behind c u calm led there closed make =
    let zs : List Item = page_items (spots_source (s ∷ []) behind) in
    let r = spot_read s behind zs c refl u led there closed (λ e a b. make a b (own_calm s behind zs c there calm e)) in
    let begins = there_begins behind there in (
      record { led = led; before_utf8 = r.before_utf8; block = r.content },
      (record { uncommented = begins.is }, r.rest_utf8, ends_line behind there),
      record { calls_nothing = calm; end_before = (r.ends, inr r.line, tt) },
    )
