-- Blocks that are chosen among the lines of an expanded page, each by the items before it: so they are told one behind the other.
use Rattle.std.proofs.Common.{arith, ◌≡◌, ◌≤◌, inl, inr, ℕ, ◌+◌, None, Option, List, [], ◌∷◌, ◌++◌, length, map, take, refl, sym, ap, ap₂, ◌∙◌, subst, append_assoc, length-append}
use Rattle.std.proofs.lemmas.Grind.{flat_map-append}
use Rattle.wt_span.specs.Items.{Item, sources}
use Rattle.wt_span.specs.Origins.{OuterCall, Span}
use Rattle.wt_annotated.specs.Seams.{last_of, text_from}
use Rattle.wt_annotated.proofs.Seams.{last_append, text_append_from}
use Rattle.wt_expand.specs.PageCalls.{expanded_page}
use Rattle.wt_expand.specs.Work.{Pages}
use Rattle.wt_expand.proofs.PiecePlaces.{AllFrom}
use Rattle.wt_inline.specs.Inside.{opened, opened_all}
use Rattle.wt_lines.specs.Lines.{content}
use Rattle.wt_page.specs.Lines.{ending}
use Rattle.wt_page.proofs.Ends.{content_ending}
use Rattle.wt_page_round_trip.proofs.OpenedPages.{AreOnes, opened_text}
use Rattle.wt_tables.specs.Parts.{joined}
use Rattle.wt_text_edit_laws.specs.BlockSpots.{BlockSpot, spots_source}
use Rattle.wt_text_edit_laws.specs.PageCuts.{EndClosed, AreFree}
use Rattle.wt_text_edit_laws.specs.SignParts.{IsLedTo}
use Rattle.wt_text_edit_laws.specs.TextBlocks.{TextBlock, source_of}
use Rattle.wt_text_edit_laws.proofs.Blocks.SignedParts.{led_rest}
use Rattle.wt_called_edit_laws.specs.Covered.{NoGroupAt, AreInNoGroup}
use Rattle.wt_called_edit_laws.specs.Groups.{called_tree}
use Rattle.wt_called_edit_laws.specs.LinedAmong.{spots_on, end_on, AreOfPage, AreBeside, AreOwnLines, AreLed, AreUntouched}
use Rattle.wt_called_edit_laws.specs.PlacedLines.{LinedBlock, all_lines, lead_of}
use Rattle.wt_called_edit_laws.specs.ToldLines.{Told, a_paragraph_of, a_heading_on, lined}
use Rattle.wt_called_edit_laws.specs.ToldTogether.{start_of, own_lines, told_starts, IsAmongNumbers}
use Rattle.wt_called_edit_laws.proofs.Among.LinedParts.{of_front}
use Rattle.wt_called_edit_laws.proofs.Among.OwnItems.{from_page}
use Rattle.wt_called_edit_laws.proofs.Among.OwnSeams.{own_last, own_size, text_size}
use Rattle.wt_called_edit_laws.proofs.Cells.PlacedLines.{own_items, lines_joined}
use Rattle.wt_called_edit_laws.proofs.AllTold.Chosen.{free_of, IsChosen, chosen}
use Rattle.wt_called_edit_laws.proofs.AllTold.ClosedLines.{ends_any}
use Rattle.wt_called_edit_laws.proofs.AllTold.Found.{size, size_both}
use Rattle.wt_called_edit_laws.proofs.AllTold.LineKinds.{Lines}
use Rattle.wt_called_edit_laws.proofs.AllTold.PlaceStarts.{spot_starts}
use Rattle.wt_called_edit_laws.proofs.AllTold.Scanned.{Meets, AllMeet, without_before}
use Rattle.wt_called_edit_laws.proofs.AllTold.Scans.{behind_lines, behind_joined}
use Rattle.wt_called_edit_laws.proofs.AllTold.ToldStarts.{AreOwn}

-- ---- what is asked doesn't hang on the lines before a block

place_so : (pages : Pages) (page : List ℕ) (front : List Item) (t : Told) → IsChosen pages page front (without_before t) → IsChosen pages page front t
place_so pages page front (a_paragraph_of b s m f r) h = record {
  place = record { own = h.place.own; some = h.place.some; calm = h.place.calm; led = h.place.led; beside = h.place.beside };
  outside = h.outside;
  free = h.free;
  closed = h.closed;
}
place_so pages page front (a_heading_on b m l) h = record {
  place = record { own = h.place.own; some = h.place.some; calm = h.place.calm; led = h.place.led; beside = h.place.beside };
  outside = h.outside;
  free = h.free;
  closed = h.closed;
}

so_placed : (pages : Pages) (page : List ℕ) (front : List Item) (t : Told) → IsChosen pages page front t → IsChosen pages page front (without_before t)
so_placed pages page front (a_paragraph_of b s m f r) h = record {
  place = record { own = h.place.own; some = h.place.some; calm = h.place.calm; led = h.place.led; beside = h.place.beside };
  outside = h.outside;
  free = h.free;
  closed = h.closed;
}
so_placed pages page front (a_heading_on b m l) h = record {
  place = record { own = h.place.own; some = h.place.some; calm = h.place.calm; led = h.place.led; beside = h.place.beside };
  outside = h.outside;
  free = h.free;
  closed = h.closed;
}

-- of one at the page's start
pub meets_so : (pages : Pages) (page : List ℕ) (t : Told) → IsChosen pages page (joined (lined t).before) t → Meets (chosen pages page) [] t
meets_so pages page t h =
    subst (λ (zs : List Item). IsChosen pages page zs (without_before t)) (sym (behind_joined [] (lined t).before))
    (so_placed pages page (joined (lined t).before) t h)

-- ---- behind each other

-- these items are the page's to a byte, and others
record Behind (calls : List OuterCall) (front fr es : List Item) (at : ℕ) : Type 0 where
  whole : front ≡ fr ++ es
  ends : last_of None fr ≡ None
  byte : at ≡ length (text_from calls None fr)

text_behind : (calls : List OuterCall) (fr xs : List Item) → last_of None fr ≡ None → text_from calls None (fr ++ xs) ≡ text_from calls None fr ++ text_from calls None xs
text_behind calls fr xs e = text_append_from calls None fr xs ∙ ap (λ (o : Option ℕ). text_from calls None fr ++ text_from calls o xs) e

pub last_suffix : (xs ys : List Item) → last_of None (xs ++ ys) ≡ None → last_of None ys ≡ None
last_suffix xs [] e = refl
last_suffix xs (y ∷ ys) e = sym (last_append None xs (y ∷ ys)) ∙ e

-- some of the page's own end with one
some_last : (o : Option ℕ) (xs : List Item) → 1 ≤ length xs → AllFrom None xs → last_of o xs ≡ None
some_last o [] some h = absurd (omega (arith, some))
some_last o (x ∷ xs) some h = own_last (x ∷ xs) h

-- the items before a block's lines
front_of : (front : List Item) (t : Told) → behind_lines front (lined t).before ≡ front ++ joined (lined t).before
front_of front t = behind_joined front (lined t).before

-- what is on the page before a block, behind what is before it
block_text : (calls : List OuterCall) (front fr es : List Item) (at : ℕ) (t : Told) → Behind calls front fr es at
    → text_from calls None (behind_lines front (lined t).before ++ lead_of (lined t))
    ≡ text_from calls None fr ++ text_from calls None ((es ++ joined (lined t).before) ++ lead_of (lined t))
block_text calls front fr es at t b =
    let j : List Item = joined (lined t).before in
    let m : List Item = lead_of (lined t) in
    let here : behind_lines front (lined t).before ≡ fr ++ (es ++ j) = front_of front t ∙ ap (λ (zs : List Item). zs ++ j) b.whole ∙ append_assoc fr es j in
    ap (λ (zs : List Item). text_from calls None (zs ++ m)) here ∙ ap (text_from calls None) (append_assoc fr (es ++ j) m) ∙ text_behind calls fr ((es ++ j) ++ m) b.ends

-- where a block begins
spot_byte : (calls : List OuterCall) (front fr es : List Item) (at : ℕ) (t : Told) → Behind calls front fr es at
    → at + length (text_from calls None ((es ++ joined (lined t).before) ++ lead_of (lined t)))
    ≡ length (text_from calls None (behind_lines front (lined t).before ++ lead_of (lined t)))
spot_byte calls front fr es at t b =
    let own : List ℕ = text_from calls None ((es ++ joined (lined t).before) ++ lead_of (lined t)) in
    omega (arith, b.byte, ap length (block_text calls front fr es at t b), length-append (text_from calls None fr) own)

-- its lines, and what is left of them
pub lines_of_own : (t : Told) → joined (own_lines t) ≡ (lead_of (lined t) ++ content (own_items (lined t))) ++ ending (own_items (lined t))
lines_of_own t =
    let b : LinedBlock = lined t in
    append_assoc (lead_of b) b.first (joined b.more) ∙ ap (λ (zs : List Item). lead_of b ++ zs) (sym (content_ending (own_items b)))
    ∙ sym (append_assoc (lead_of b) (content (own_items b)) (ending (own_items b)))

own_content : (t : Told) → AreOfPage (own_items (lined t)) → AreOfPage (content (own_items (lined t)))
own_content t h =
    let own : List Item = own_items (lined t) in
    of_front (content own) (ending own) (subst AreOfPage (sym (content_ending own)) h)

next_behind : (calls : List OuterCall) (front fr es : List Item) (at : ℕ) (t : Told) → Behind calls front fr es at → AreOfPage (own_items (lined t))
    → 1 ≤ length (content (own_items (lined t)))
    → Behind calls (behind_lines (behind_lines front (lined t).before) (own_lines t))
    (behind_lines front (lined t).before ++ (lead_of (lined t) ++ content (own_items (lined t)))) (ending (own_items (lined t)))
    ((at + length (text_from calls None ((es ++ joined (lined t).before) ++ lead_of (lined t)))) + length (sources (content (own_items (lined t)))))
next_behind calls front fr es at t b own some =
    let here : List Item = behind_lines front (lined t).before in
    let m : List Item = lead_of (lined t) in
    let mine : List Item = content (own_items (lined t)) in
    let is : AllFrom None mine = from_page mine (own_content t own) in
    let end : Option ℕ = last_of None (here ++ m) in
    let all = ap (λ (zs : List Item). length (text_from calls None zs)) (sym (append_assoc here m mine)) ∙ text_size calls None (here ++ m) mine in
    let size = own_size calls end mine is in
    record {
      whole = behind_joined here (own_lines t) ∙ ap (λ (zs : List Item). here ++ zs) (lines_of_own t) ∙ sym (append_assoc here (m ++ mine) (ending (own_items (lined t))));
      ends = ap (last_of None) (sym (append_assoc here m mine)) ∙ last_append None (here ++ m) mine ∙ some_last end mine some is;
      byte = omega (arith, spot_byte calls front fr es at t b, all, size);
    }

-- ---- the lines of all

abbrev KnownLines : Pages → List ℕ → ℕ → List Item → List Told → Type 0
KnownLines pages page at es ts =
    AreOwnLines (map lined ts)
    × AreUntouched (expanded_page pages page).outer (expanded_page pages page).text_calls at es (map lined ts)
    × AreFree (spots_on (expanded_page pages page).outer es (map lined ts))
    × AreLed (spots_on (expanded_page pages page).outer es (map lined ts))

known_from : (pages : Pages) (page : List ℕ) (front fr es : List Item) (at : ℕ) (ts : List Told) → Behind (expanded_page pages page).outer front fr es at
    → AllMeet (chosen pages page) front ts → KnownLines pages page at es ts
known_from pages page front fr es at [] b h = (tt, tt, tt, tt)
known_from pages page front fr es at (t ∷ ts) b h =
    let calls : List OuterCall = (expanded_page pages page).outer in
    let spans : List Span = (expanded_page pages page).text_calls in
    let here : List Item = behind_lines front (lined t).before in
    let own : List Item = own_items (lined t) in
    let c : IsChosen pages page here t = place_so pages page here t h.0 in
    let k : TextBlock = (lined t).block in
    let q : List ℕ = (lined t).text in
    let before : List ℕ = text_from calls None ((es ++ joined (lined t).before) ++ lead_of (lined t)) in
    let from : ℕ = at + length before in
    let rest = known_from pages page (behind_lines here (own_lines t)) (here ++ (lead_of (lined t) ++ content own)) (ending own)
    (from + length (sources (content own))) ts (next_behind calls front fr es at t b c.place.own c.place.some) h.1 in (
      (c.place.own, c.place.calm, rest.0),
      (subst (λ (n : ℕ). AreBeside n (n + length (sources own)) spans) (sym (spot_byte calls front fr es at t b)) c.place.beside, rest.1),
      (free_of k q c.free, rest.2),
      (
        led_rest (text_from calls None fr) before k q (subst (λ (bs : List ℕ). IsLedTo bs k q) (block_text calls front fr es at t b) c.place.led),
        rest.3,
      ),
    )

page_start : (calls : List OuterCall) → Behind calls [] [] [] 0
page_start calls = record { whole = refl; ends = refl; byte = refl }

pub known_lines : (pages : Pages) (page : List ℕ) (ts : List Told) → AllMeet (chosen pages page) [] ts
    → AreOwnLines (map lined ts)
    × AreUntouched (expanded_page pages page).outer (expanded_page pages page).text_calls 0 [] (map lined ts)
    × AreFree (spots_on (expanded_page pages page).outer [] (map lined ts))
    × AreLed (spots_on (expanded_page pages page).outer [] (map lined ts))
known_lines pages page ts h = known_from pages page [] [] [] 0 ts (page_start (expanded_page pages page).outer) h

-- a line break behind each is read as one
closed_from : (pages : Pages) (page : List ℕ) (front es : List Item) (ts : List Told) (behind : Lines) → AllMeet (chosen pages page) front ts
    → EndClosed (spots_on (expanded_page pages page).outer es (map lined ts)) (end_on (expanded_page pages page).outer es (map lined ts) behind)
closed_from pages page front es [] behind h = tt
closed_from pages page front es (t ∷ ts) behind h =
    let calls : List OuterCall = (expanded_page pages page).outer in
    let here : List Item = behind_lines front (lined t).before in
    let c : IsChosen pages page here t = place_so pages page here t h.0 in
    let left : List Item = ending (own_items (lined t)) in (
      ends_any (source_of (lined t).block (lined t).text) (spots_source (spots_on calls left (map lined ts)) (end_on calls left (map lined ts) behind)) c.closed,
      closed_from pages page (behind_lines here (own_lines t)) left ts behind h.1,
    )

pub known_closed : (pages : Pages) (page : List ℕ) (ts : List Told) (behind : Lines) → AllMeet (chosen pages page) [] ts
    → EndClosed (spots_on (expanded_page pages page).outer [] (map lined ts)) (end_on (expanded_page pages page).outer [] (map lined ts) behind)
known_closed pages page ts behind h = closed_from pages page [] [] ts behind h

-- ---- no group has the first byte of one

-- where a block ends
spot_end : (at : ℕ) (t : Told) → sources (content (own_items (lined t))) ≡ source_of (lined t).block (lined t).text
    → at + length (sources (content (own_items (lined t)))) ≡ at + length (source_of (lined t).block (lined t).text)
spot_end at t is = ap (λ (bs : List ℕ). at + length bs) is

outside_from : (pages : Pages) (page : List ℕ) (front fr es : List Item) (at : ℕ) (ts : List Told) → Behind (expanded_page pages page).outer front fr es at
    → AllMeet (chosen pages page) front ts → AreOwn (map lined ts)
    → AreInNoGroup at (spots_on (expanded_page pages page).outer es (map lined ts)) (called_tree pages page)
outside_from pages page front fr es at [] b h o = tt
outside_from pages page front fr es at (t ∷ ts) b h o =
    let calls : List OuterCall = (expanded_page pages page).outer in
    let here : List Item = behind_lines front (lined t).before in
    let own : List Item = own_items (lined t) in
    let c : IsChosen pages page here t = place_so pages page here t h.0 in
    let ss : List BlockSpot = spots_on calls (ending own) (map lined ts) in
    let from : ℕ = at + length (text_from calls None ((es ++ joined (lined t).before) ++ lead_of (lined t))) in
    let rest = outside_from pages page (behind_lines here (own_lines t)) (here ++ (lead_of (lined t) ++ content own)) (ending own)
    (from + length (sources (content own))) ts (next_behind calls front fr es at t b c.place.own c.place.some) h.1 o.1 in (
      subst (λ (n : ℕ). NoGroupAt n (called_tree pages page)) (sym (spot_byte calls front fr es at t b)) c.outside,
      subst (λ (n : ℕ). AreInNoGroup n ss (called_tree pages page)) (spot_end from t o.0) rest,
    )

pub in_no_group : (pages : Pages) (page : List ℕ) (ts : List Told) → AllMeet (chosen pages page) [] ts → AreOwn (map lined ts)
    → AreInNoGroup 0 (spots_on (expanded_page pages page).outer [] (map lined ts)) (called_tree pages page)
in_no_group pages page ts h o = outside_from pages page [] [] [] 0 ts (page_start (expanded_page pages page).outer) h o

-- ---- bytes and items

pub ones_front : (xs ys : List Item) → AreOnes (xs ++ ys) → AreOnes xs
ones_front [] ys h = tt
ones_front (x ∷ xs) ys h = (h.0, ones_front xs ys h.1)

pub ones_behind : (xs ys : List Item) → AreOnes (xs ++ ys) → AreOnes ys
ones_behind [] ys h = h
ones_behind (x ∷ xs) ys h = ones_behind xs ys h.1

take_front : (xs ys : List Item) → take (length xs) (xs ++ ys) ≡ xs
take_front [] ys = refl
take_front (x ∷ xs) ys = ap (λ (zs : List Item). x ∷ zs) (take_front xs ys)

-- where so many items of these end in the page
abbrev pub byte_at : List OuterCall → List Item → ℕ → ℕ
byte_at calls all n = length (text_from calls None (take n (opened_all all)))

pub byte_of : (calls : List OuterCall) (xs ys all : List Item) → all ≡ xs ++ ys → AreOnes all → byte_at calls all (size xs) ≡ length (text_from calls None xs)
byte_of calls xs ys all e ones =
    let front : AreOnes xs = ones_front xs ys (subst AreOnes e ones) in
    let both : opened_all all ≡ opened_all xs ++ opened_all ys = ap opened_all e ∙ flat_map-append opened xs ys in
    ap (λ (zs : List Item). length (text_from calls None (take (size xs) zs))) both
    ∙ ap (λ (zs : List Item). length (text_from calls None zs)) (take_front (opened_all xs) (opened_all ys))
    ∙ ap length (opened_text calls None xs front)

pub among_mapped : (f : ℕ → ℕ) (n : ℕ) (ns : List ℕ) → IsAmongNumbers n ns → IsAmongNumbers (f n) (map f ns)
among_mapped f n [] h = absurd h
among_mapped f n (m ∷ ms) (inl e) = inl (ap f e)
among_mapped f n (m ∷ ms) (inr h) = inr (among_mapped f n ms h)

-- the rest of all items behind a block
pub rest_is : (all front : List Item) (t : Told) (tail : Lines) → all ≡ front ++ joined ((lined t).before ++ (own_lines t ++ tail))
    → (all ≡ (behind_lines front (lined t).before ++ lead_of (lined t)) ++ (own_items (lined t) ++ joined tail))
    × (all ≡ behind_lines (behind_lines front (lined t).before) (own_lines t) ++ joined tail)
rest_is all front t tail e =
    let b : LinedBlock = lined t in
    let j : List Item = joined b.before in
    let here : List Item = behind_lines front b.before in
    let parts : all ≡ front ++ ((j ++ lead_of b) ++ (own_items b ++ joined tail)) = e ∙ ap (λ (zs : List Item). front ++ zs) (lines_joined b tail) in
    let first : all ≡ (here ++ lead_of b) ++ (own_items b ++ joined tail) =
    parts ∙ sym (append_assoc front (j ++ lead_of b) (own_items b ++ joined tail))
    ∙ ap (λ (zs : List Item). zs ++ (own_items b ++ joined tail)) (sym (append_assoc front j (lead_of b)) ∙ ap (λ (zs : List Item). zs ++ lead_of b) (sym (front_of front t))) in
    let own : joined (own_lines t) ≡ lead_of b ++ own_items b = append_assoc (lead_of b) b.first (joined b.more) in (
      first,
      first ∙ append_assoc here (lead_of b) (own_items b ++ joined tail) ∙ ap (λ (zs : List Item). here ++ zs) (sym (append_assoc (lead_of b) (own_items b) (joined tail)))
          ∙ ap (λ (zs : List Item). here ++ (zs ++ joined tail)) (sym own) ∙ sym (append_assoc here (joined (own_lines t)) (joined tail))
          ∙ ap (λ (zs : List Item). zs ++ joined tail) (sym (behind_joined here (own_lines t))),
    )

starts_from_so : (pages : Pages) (page : List ℕ) (all front fr es : List Item) (at : ℕ) (ts : List Told) (behind : Lines)
    → Behind (expanded_page pages page).outer front fr es at → AllMeet (chosen pages page) front ts → AreOwn (map lined ts)
    → all ≡ front ++ joined (all_lines (map lined ts) behind) → AreOnes all
    → map (byte_at (expanded_page pages page).outer all) (told_starts (size front) ts) ≡ spot_starts at (spots_on (expanded_page pages page).outer es (map lined ts))
starts_from_so pages page all front fr es at [] behind b h o e ones = refl
starts_from_so pages page all front fr es at (t ∷ ts) behind b h o e ones =
    let calls : List OuterCall = (expanded_page pages page).outer in
    let here : List Item = behind_lines front (lined t).before in
    let own : List Item = own_items (lined t) in
    let tail : Lines = all_lines (map lined ts) behind in
    let c : IsChosen pages page here t = place_so pages page here t h.0 in
    let next : List Item = behind_lines here (own_lines t) in
    let parts = rest_is all front t tail e in
    let before_size : size here ≡ size front + size (joined (lined t).before) = ap size (front_of front t) ∙ size_both front (joined (lined t).before) in
    let first : start_of (size front) t ≡ size (here ++ lead_of (lined t)) = omega (arith, before_size, size_both here (lead_of (lined t))) in
    let first_byte : byte_at calls all (start_of (size front) t) ≡ at + length (text_from calls None ((es ++ joined (lined t).before) ++ lead_of (lined t))) =
    ap (byte_at calls all) first ∙ byte_of calls (here ++ lead_of (lined t)) (own ++ joined tail) all parts.0 ones
    ∙ sym (spot_byte calls front fr es at t b) in
    let later : size front + size (joined (lined t).before) + size (joined (own_lines t)) ≡ size next =
    omega (arith, before_size, ap size (behind_joined here (own_lines t)), size_both here (joined (own_lines t))) in
    let from : ℕ = at + length (text_from calls None ((es ++ joined (lined t).before) ++ lead_of (lined t))) in
    let rest = starts_from_so pages page all next (here ++ (lead_of (lined t) ++ content own)) (ending own) (from + length (sources (content own))) ts behind
    (next_behind calls front fr es at t b c.place.own c.place.some) h.1 o.1 parts.1 ones in
    ap₂ (λ (n : ℕ) (ns : List ℕ). n ∷ ns) first_byte
    (ap (λ (n : ℕ). map (byte_at calls all) (told_starts n ts)) later ∙ rest
    ∙ ap (λ (n : ℕ). spot_starts n (spots_on calls (ending own) (map lined ts))) (spot_end from t o.0))

pub starts_so : (pages : Pages) (page : List ℕ) (all : List Item) (ts : List Told) (behind : Lines) → AllMeet (chosen pages page) [] ts → AreOwn (map lined ts)
    → all ≡ joined (all_lines (map lined ts) behind) → AreOnes all
    → map (byte_at (expanded_page pages page).outer all) (told_starts 0 ts) ≡ spot_starts 0 (spots_on (expanded_page pages page).outer [] (map lined ts))
starts_so pages page all ts behind h o e ones = starts_from_so pages page all [] [] [] 0 ts behind (page_start (expanded_page pages page).outer) h o e ones
