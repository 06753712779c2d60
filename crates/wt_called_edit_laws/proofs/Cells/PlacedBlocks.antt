-- A paragraph or a heading of a page where it is in it: its content may be edited.
use Rattle.std.proofs.Common.{◌≡◌, ℕ, Bool, false, List, [], ◌∷◌, ◌++◌, length, map, append-nil, All, refl, sym, ap, ◌∙◌, subst, append_assoc, inl}
use Rattle.std.proofs.lemmas.List.Elements.{All-nil, All-cons}
use Rattle.std.specs.Str.{IsUtf8}
use Rattle.std.proofs.lemmas.Grind.{flat_map-append}
use Rattle.wt_span.specs.Items.{Item, source, sources}
use Rattle.wt_span.specs.declared.form.Mode.TheVariants.{Page}
use Rattle.wt_span.specs.Runs.{AreRuns}
use Rattle.wt_span.proofs.RunLaws.{runs_are}
use Rattle.wt_part_laws.specs.Lexer.{lexer}
use Rattle.wt_part_laws.specs.Scans.{after_all}
use Rattle.wt_lines.specs.declared.kind.LineKind.TheVariants as line
use Rattle.wt_lines.specs.Kinds.{line_kind}
use Rattle.wt_lines.specs.Lines.{full_lines, lines, content, empty_end, goes_on}
use Rattle.wt_page.specs.Lines.{ending}
use Rattle.wt_page.proofs.Ends.{content_ending}
use Rattle.wt_tables.specs.Parts.{joined}
use Rattle.wt_page.specs.Rows.{marks_len, rows_from}
use Rattle.wt_expand.specs.PageItems.{page_items}
use Rattle.wt_expand.specs.Work.{Pages}
use Rattle.wt_part_laws.specs.Slots.{AllTrue}
use Rattle.wt_text_edit_laws.specs.BlockSpots.{spots_source, AreRead}
use Rattle.wt_text_edit_laws.specs.NoCalls.{CallsNothing}
use Rattle.wt_text_edit_laws.specs.PageCuts.{AreTextItems, AreBlockItems, AreCuts, EndsThere}
use Rattle.wt_text_edit_laws.specs.ParagraphBetween.{written_rows, tables_behind, before_marks, EndApart, BeginApart}
use Rattle.wt_text_edit_laws.specs.ParagraphParts.{break}
use Rattle.wt_text_edit_laws.specs.Parts.{HasNoGroups}
use Rattle.wt_text_edit_laws.specs.TextBlocks.{TextBlock, a_paragraph, a_heading, source_of}
use Rattle.wt_text_edit_laws.specs.TypedHeadings.{Sides, EndsLine}
use Rattle.wt_text_edit_laws.proofs.Cuts.ItemCuts.{page_cut, cut_from, front_alone, behind_alone}
use Rattle.wt_text_edit_laws.proofs.Cuts.TextLines.{runs_behind, runs_before, joined_is, joined_both, lines_of, whole_before, no_marks_end, ending_break, IsEnding, ending_own, some_items, content_lines, ended_bytes}
use Rattle.wt_text_edit_laws.proofs.Paragraphs.LineBlocks.{OwnBreaks, page_breaks}
use Rattle.wt_text_edit_laws.proofs.Paragraphs.SeenLines.{texts_seen}
use Rattle.wt_beside_laws.proofs.Derived.BlockContents.{block_source, there_begins, BlockSeen, block_seen, seen_alone}
use Rattle.wt_beside_laws.proofs.Derived.BodyRead.{parts_are}
use Rattle.wt_beside_laws.proofs.Derived.CutPages.{cut_read}
use Rattle.wt_called_edit_laws.specs.AnyBlocks.{open_after, open_behind_part, LeadsInto, EndsAfter}
use Rattle.wt_called_edit_laws.specs.StaysIn.{StaysIn}
use Rattle.wt_called_edit_laws.specs.CalledContents.{StayText}
use Rattle.wt_called_edit_laws.specs.CalledPages.{IsCalledPage}
use Rattle.wt_called_edit_laws.specs.ItemSpots.{AreContentSpots}
use Rattle.wt_called_edit_laws.specs.PlacedBlocks.{IsBlockIn, block_spot, IsFreeIn, IsHeadingOn, AreLinesAt, IsParagraphOn}
use Rattle.wt_called_edit_laws.proofs.CalmPages.{calm_contents}
use Rattle.wt_called_edit_laws.proofs.Cells.ContentItems.{content_items}
use Rattle.wt_called_edit_laws.proofs.Cells.SpotSlots.{open_size}

-- ---- where it is

pub placed_whole : (page : List ℕ) (k : TextBlock) (q : List ℕ) (b : IsBlockIn (page_items page) k q)
    → spots_source (block_spot k q b.before ∷ []) (sources b.rest) ≡ page
placed_whole page k q b =
    let own : sources b.own ≡ source_of k q = block_source k q b.own b.items in
    sym (ap (λ (bs : List ℕ). sources b.before ++ (bs ++ sources b.rest)) own) ∙ parts_are page b.before b.own b.rest b.is

block_cut : (page : List ℕ) (k : TextBlock) (q : List ℕ) (b : IsBlockIn (page_items page) k q) → IsFreeIn page k q b.rest
    → AreCuts (block_spot k q b.before ∷ []) (sources b.rest)
block_cut page k q b f =
    let e : page_items (spots_source (block_spot k q b.before ∷ []) (sources b.rest)) ≡ b.before ++ (b.own ++ b.rest) =
    ap page_items (placed_whole page k q b) ∙ b.is in (
      record { before = b.before; own = b.own; rest = b.rest; is = e; source = refl; block = b.items },
      b.led,
      f.closed,
      b.there,
    )

-- the items of its own source
pub own_alone : (before own rest : List Item) → page_items (sources before ++ (sources own ++ sources rest)) ≡ before ++ (own ++ rest)
    → BlockSeen own → page_items (sources own) ≡ own
own_alone before own rest e u =
    let so : List ℕ = sources own in
    let sr : List ℕ = sources rest in
    let first = page_cut (sources before) (so ++ sr) before (own ++ rest) e refl in
    let a : Bool = after_all (lexer Page) false (sources before) in
    let second = cut_from a so sr own rest first.behind refl in
    seen_alone a so own u second.front

pub stays_so : (k : TextBlock) (n : ℕ) (q : List ℕ) (before own rest : List Item) → AreBlockItems k q own
    → page_items (sources before ++ (sources own ++ sources rest)) ≡ before ++ (own ++ rest) → StayText k n own → StayText k n (page_items q)
stays_so a_paragraph n q before own rest h e s =
    let alone : page_items q ≡ own = ap page_items (sym h.source) ∙ own_alone before own rest e (block_seen a_paragraph q own h) in
    subst (λ (xs : List Item). StayText a_paragraph n xs) (sym alone) s
stays_so (a_heading t) n q before own rest h e s = tt

pub stays_in : (k : TextBlock) (bs : List Bool) (xs : List Item) (q : List ℕ) (before own rest : List Item) → AreBlockItems k q own
    → page_items (sources before ++ (sources own ++ sources rest)) ≡ before ++ (own ++ rest) → StaysIn k bs xs own → StaysIn k bs xs (page_items q)
stays_in a_paragraph bs xs q before own rest h e s =
    let alone : page_items q ≡ own = ap page_items (sym h.source) ∙ own_alone before own rest e (block_seen a_paragraph q own h) in
    subst (StaysIn a_paragraph bs xs) (sym alone) s
stays_in (a_heading t) bs xs q before own rest h e s = inl tt

block_spots : (page : List ℕ) (k : TextBlock) (q : List ℕ) (b : IsBlockIn (page_items page) k q) → IsFreeIn page k q b.rest
    → AreContentSpots (block_spot k q b.before ∷ []) (sources b.rest)
block_spots page k q b f =
    let same : spots_source (block_spot k q b.before ∷ []) (sources b.rest) ≡ page = placed_whole page k q b in
    let read : AreRead (block_spot k q b.before ∷ []) (sources b.rest) =
    cut_read (block_spot k q b.before ∷ []) (sources b.rest) (subst IsUtf8 (sym same) f.utf8) (subst (λ (bs : List ℕ). CallsNothing (page_items bs)) (sym same) f.calls_nothing)
    (block_cut page k q b f) (f.free, tt) in
    let all : page_items (sources b.before ++ (sources b.own ++ sources b.rest)) ≡ b.before ++ (b.own ++ b.rest) =
    ap page_items (parts_are page b.before b.own b.rest b.is) ∙ b.is in
    let front : page_items (sources b.before) ≡ b.before = front_alone (sources b.before) (sources b.own ++ sources b.rest) b.before (b.own ++ b.rest) all refl in
    let joined : page_items ((sources b.before ++ sources b.own) ++ sources b.rest) ≡ (b.before ++ b.own) ++ b.rest =
    ap page_items (append_assoc (sources b.before) (sources b.own) (sources b.rest)) ∙ all ∙ sym (append_assoc b.before b.own b.rest) in
    let last : page_items (sources b.rest) ≡ b.rest =
    behind_alone (sources b.before ++ sources b.own) (sources b.rest) (b.before ++ b.own) b.rest (there_begins (sources b.rest) b.there) joined
    (flat_map-append source b.before b.own) in
    let n : ℕ = length (open_behind_part [] b.before) in
    let stays : StaysIn k [] b.before (page_items q) = stays_in k [] b.before q b.before b.own b.rest b.items all b.stays in
    let ends : EndsAfter k n (page_items (sources b.rest)) = subst (EndsAfter k n) (sym last) b.ends in
    record {
      read = read;
      placed = (
        (
          content_items k q read.0.block,
          subst (LeadsInto k []) (sym front) b.leads,
          subst (λ (xs : List Item). StaysIn k [] xs (page_items q)) (sym front) stays,
        ),
        subst (λ (xs : List Item). EndsAfter k (length (open_behind_part [] xs)) (page_items (sources b.rest))) (sym front) ends,
      );
      ungrouped = subst HasNoGroups (sym same) f.ungrouped;
    }

pub block_called : (pages : Pages) (page : List ℕ) (k : TextBlock) (q : List ℕ) (b : IsBlockIn (page_items page) k q) → IsFreeIn page k q b.rest
    → IsCalledPage pages (block_spot k q b.before ∷ []) (sources b.rest)
block_called pages page k q b f = calm_contents pages (block_spot k q b.before ∷ []) (sources b.rest) (block_spots page k q b f)

-- ---- a heading by lines

pub own_first : (xs ys : List Item) → OwnBreaks (xs ++ ys) → OwnBreaks xs
own_first [] ys h = tt
own_first (x ∷ xs) ys h = (h.0, own_first xs ys h.1)

pub own_rest : (xs ys : List Item) → OwnBreaks (xs ++ ys) → OwnBreaks ys
own_rest [] ys h = h
own_rest (x ∷ xs) ys h = own_rest xs ys h.1

-- lines, and what ends them: the page's end, or a line break
record EndsSo (zs : List Item) : Type 0 where
  line : EndsLine zs
  there : EndsThere (sources zs)

last_ends : (es : List Item) → IsEnding es → EndsSo (es ++ [])
last_ends [] h = record { line = tt; there = tt }
last_ends (x ∷ es) h = record {
  line = h.0;
  there = subst (λ (y : Item). EndsThere (sources (y ∷ (es ++ [])))) (sym h.0) refl;
}

line_ends : (ps : List Item) (y : Item) (ys : List Item) (ls : List (List Item)) → ps ≡ y ∷ ys → OwnBreaks ps
    → ((m : List Item) (ms : List (List Item)) → ls ≡ m ∷ ms → empty_end ps ≡ [] ∷ []) → EndsSo (ending ps ++ joined ls)
line_ends ps y ys [] is o f = last_ends (ending ps) (ending_own ps o)
line_ends [] y ys (m ∷ ms) is o f = cc
line_ends (x ∷ ps) y ys (m ∷ ms) is o f =
    let own : ending (x ∷ ps) ≡ break ∷ [] = ending_break x ps o (f m ms refl) in
    subst (λ (es : List Item). EndsSo (es ++ joined (m ∷ ms))) (sym own) (record { line = refl; there = refl })

open_front : (ls : List (List Item)) → full_lines (joined ls) ≡ ls → empty_end (joined ls) ≡ [] ∷ []
    → open_behind_part [] (joined ls) ≡ open_after [] (written_rows 0 ls)
open_front ls are whole =
    ap (λ (xs : List Item). open_after [] (written_rows 0 (full_lines xs))) (no_marks_end (joined ls) whole) ∙ ap (λ (ms : List (List Item)). open_after [] (written_rows 0 ms)) are

heading_leads : (s : Sides) (ls : List (List Item)) → full_lines (joined ls) ≡ ls → empty_end (joined ls) ≡ [] ∷ [] → AllTrue (open_after [] (written_rows 0 ls))
    → LeadsInto (a_heading s) [] (joined ls)
heading_leads s ls are whole cells = record {
  whole = inl (subst (λ (xs : List Item). empty_end xs ≡ [] ∷ []) (sym (no_marks_end (joined ls) whole)) whole);
  in_cells = subst AllTrue (sym (open_front ls are whole)) cells;
  apart = tt;
}

pub heading_in : (page : List ℕ) (s : Sides) (q : List ℕ) → IsHeadingOn (page_items page) s q → IsBlockIn (page_items page) (a_heading s) q
heading_in page s q h =
    let xs : List Item = page_items page in
    let front : List Item = joined h.before in
    let last : List Item = joined h.behind in
    let own : List Item = content h.line in
    let runs : AreRuns goes_on (h.before ++ h.line ∷ h.behind) xs = subst (λ (ls : List (List Item)). AreRuns goes_on ls xs) h.are (runs_are goes_on xs) in
    let later : AreRuns goes_on (h.line ∷ h.behind) (joined (h.line ∷ h.behind)) = runs_behind goes_on h.before (h.line ∷ h.behind) xs runs in
    let own_runs : AreRuns goes_on (h.line ∷ []) (joined (h.line ∷ [])) = runs_before goes_on (h.line ∷ []) h.behind (joined (h.line ∷ h.behind)) later in
    let one : joined (h.line ∷ []) ≡ h.line = append-nil h.line in
    let some = some_items [] h.line [] (joined (h.line ∷ [])) own_runs in
    let items : xs ≡ front ++ (h.line ++ last) =
    joined_is goes_on (h.before ++ h.line ∷ h.behind) xs runs ∙ joined_both h.before (h.line ∷ h.behind) in
    let breaks : OwnBreaks (front ++ (h.line ++ last)) = subst OwnBreaks items (page_breaks page) in
    let own_breaks : OwnBreaks h.line = own_first h.line last (own_rest front (h.line ++ last) breaks) in
    let whole : empty_end front ≡ [] ∷ [] = whole_before h.before h.line h.behind xs runs in
    let are : full_lines front ≡ h.before = lines_of h.before (runs_before goes_on h.before (h.line ∷ h.behind) xs runs) in
    let ends : EndsSo (ending h.line ++ last) = line_ends h.line some.0 some.1 h.behind (sym one ∙ some.2) own_breaks (λ m ms e.
    subst (λ (ys : List Item). empty_end ys ≡ [] ∷ []) one (whole_before (h.line ∷ []) m ms (joined (h.line ∷ m ∷ ms))
    (subst (λ (ls : List (List Item)). AreRuns goes_on (h.line ∷ ls) (joined (h.line ∷ ls))) e later))) in
    record {
      before = front;
      own = own;
      rest = ending h.line ++ last;
      is = items ∙ ap (λ (ys : List Item). front ++ (ys ++ last)) (sym (content_ending h.line)) ∙ ap (λ (ys : List Item). front ++ ys) (append_assoc own (ending h.line) last);
      items = h.heading;
      led = inl (ended_bytes front (own_first front (h.line ++ last) breaks) whole);
      leads = heading_leads s h.before are whole h.in_cells;
      stays = inl tt;
      ends = ends.line;
      there = ends.there;
    }

-- ---- a paragraph by lines

pub texts_at : (n : ℕ) (ls : List (List Item)) → AreLinesAt n ls → All (λ (l : List Item). line_kind n l ≡ line.Text) (map content ls)
texts_at n [] h = All-nil (λ (l : List Item). line_kind n l ≡ line.Text)
texts_at n (l ∷ ls) h = All-cons (λ (l : List Item). line_kind n l ≡ line.Text) (content l) (map content ls) h.0 (texts_at n ls h.1)

pub record OwnLines (n : ℕ) (ps : List Item) : Type 0 where
  pub items : marks_len (content ps) ≡ 0 → AreTextItems (sources (content ps)) (content ps)
  pub stays : StayText a_paragraph n (content ps)

pub own_lines : (n : ℕ) (ps : List Item) (ts : List (List Item)) (y : Item) (ys : List Item) → ps ≡ y ∷ ys → full_lines ps ≡ ts → AreLinesAt n ts → OwnLines n ps
own_lines n [] ts y ys is e h = cc
own_lines n (x ∷ ps) ts y ys is e h =
    let own : lines (content (x ∷ ps)) ≡ map content ts = content_lines x ps ∙ ap (map content) e in
    let texts : All (λ (l : List Item). line_kind n l ≡ line.Text) (lines (content (x ∷ ps))) =
    subst (λ (ls : List (List Item)). All (λ (l : List Item). line_kind n l ≡ line.Text) ls) (sym own) (texts_at n ts h) in
    record {
      items = λ m. record { source = refl; seen = texts_seen n (lines (content (x ∷ ps))) texts; unled = m };
      stays = texts;
    }

paragraph_leads : (ls : List (List Item)) → full_lines (joined ls) ≡ ls → empty_end (joined ls) ≡ [] ∷ [] → AllTrue (open_after [] (written_rows 0 ls))
    → EndApart (written_rows 0 ls) → LeadsInto a_paragraph [] (joined ls)
paragraph_leads ls are whole cells apart =
    let same : before_marks (joined ls) ≡ joined ls = no_marks_end (joined ls) whole in
    record {
      whole = inl (subst (λ (xs : List Item). empty_end xs ≡ [] ∷ []) (sym same) whole);
      in_cells = subst AllTrue (sym (open_front ls are whole)) cells;
      apart = subst EndApart (sym (ap (λ (xs : List Item). written_rows 0 (full_lines xs)) same ∙ ap (written_rows 0) are)) apart;
    }

pub text_last : (n : ℕ) (es : List Item) → IsEnding es → BeginApart (rows_from n []) → EndsAfter a_paragraph n (es ++ [])
text_last n [] h s = tt
text_last n (x ∷ es) h s = (h.0, subst (λ (ys : List Item). BeginApart (rows_from n (full_lines (ys ++ [])))) (sym h.1) s)

text_ends : (n : ℕ) (ps : List Item) (y : Item) (ys : List Item) (ls : List (List Item)) → ps ≡ y ∷ ys → OwnBreaks ps
    → ((m : List Item) (ms : List (List Item)) → ls ≡ m ∷ ms → empty_end ps ≡ [] ∷ []) → full_lines (joined ls) ≡ ls → BeginApart (rows_from n ls)
    → EndsAfter a_paragraph n (ending ps ++ joined ls)
text_ends n ps y ys [] is o f are s = text_last n (ending ps) (ending_own ps o) s
text_ends n [] y ys (m ∷ ms) is o f are s = cc
text_ends n (x ∷ ps) y ys (m ∷ ms) is o f are s =
    let own : ending (x ∷ ps) ≡ break ∷ [] = ending_break x ps o (f m ms refl) in
    subst (λ (es : List Item). EndsAfter a_paragraph n (es ++ joined (m ∷ ms))) (sym own)
    (refl, subst (λ (ks : List (List Item)). BeginApart (rows_from n ks)) (sym are) s)

placed_own : (page : List ℕ) (all : List Item) (h : IsParagraphOn (page_items page) all)
    → IsBlockIn (page_items page) a_paragraph (sources (content (joined (h.first ∷ h.more))))
placed_own page all h =
    let xs : List Item = page_items page in
    let ts : List (List Item) = h.first ∷ h.more in
    let n : ℕ = tables_behind 0 h.before in
    let text : List Item = joined ts in
    let front : List Item = joined h.before in
    let last : List Item = joined h.behind in
    let own : List Item = content text in
    let runs : AreRuns goes_on (h.before ++ (ts ++ h.behind)) xs = subst (λ (ls : List (List Item)). AreRuns goes_on ls xs) h.are (runs_are goes_on xs) in
    let later : AreRuns goes_on (ts ++ h.behind) (joined (ts ++ h.behind)) = runs_behind goes_on h.before (ts ++ h.behind) xs runs in
    let own_runs : AreRuns goes_on ts text = runs_before goes_on ts h.behind (joined (ts ++ h.behind)) later in
    let items : xs ≡ front ++ (text ++ last) =
    joined_is goes_on (h.before ++ (ts ++ h.behind)) xs runs ∙ joined_both h.before (ts ++ h.behind) ∙ ap (λ (ys : List Item). front ++ ys) (joined_both ts h.behind) in
    let some = some_items [] h.first h.more text own_runs in
    let told = own_lines n text ts some.0 some.1 some.2 (lines_of ts own_runs) h.texts in
    let breaks : OwnBreaks (front ++ (text ++ last)) = subst OwnBreaks items (page_breaks page) in
    let whole : empty_end front ≡ [] ∷ [] = whole_before h.before h.first (h.more ++ h.behind) xs runs in
    let are : full_lines front ≡ h.before = lines_of h.before (runs_before goes_on h.before (ts ++ h.behind) xs runs) in
    let size : length (open_behind_part [] front) ≡ n = ap length (open_front h.before are whole) ∙ sym (open_size [] 0 h.before refl) in
    let all_before : (m : List Item) (ms : List (List Item)) → h.behind ≡ m ∷ ms → empty_end text ≡ [] ∷ [] = λ m ms e.
    whole_before ts m ms (joined (ts ++ m ∷ ms)) (subst (λ (ls : List (List Item)). AreRuns goes_on (ts ++ ls) (joined (ts ++ ls))) e later) in
    let text_breaks : OwnBreaks text = own_first text last (own_rest front (text ++ last) breaks) in
    let ends : EndsSo (ending text ++ last) = line_ends text some.0 some.1 h.behind some.2 text_breaks all_before in
    record {
      before = front;
      own = own;
      rest = ending text ++ last;
      is = items ∙ ap (λ (ys : List Item). front ++ (ys ++ last)) (sym (content_ending text)) ∙ ap (λ (ys : List Item). front ++ ys) (append_assoc own (ending text) last);
      items = told.items (ap marks_len h.is ∙ h.unled);
      led = inl (ended_bytes front (own_first front (text ++ last) breaks) whole);
      leads = paragraph_leads h.before are whole h.in_cells h.apart;
      stays = inl (subst (λ (m : ℕ). StayText a_paragraph m own) (sym size) told.stays);
      ends = subst (λ (m : ℕ). EndsAfter a_paragraph m (ending text ++ last)) (sym size)
          (text_ends n text some.0 some.1 h.behind some.2 text_breaks all_before (lines_of h.behind (runs_behind goes_on ts h.behind (joined (ts ++ h.behind)) later)) h.stops);
      there = ends.there;
    }

pub paragraph_in : (page : List ℕ) (own : List Item) → IsParagraphOn (page_items page) own → IsBlockIn (page_items page) a_paragraph (sources own)
paragraph_in page own h = subst (λ (ys : List Item). IsBlockIn (page_items page) a_paragraph (sources ys)) h.is (placed_own page own h)
