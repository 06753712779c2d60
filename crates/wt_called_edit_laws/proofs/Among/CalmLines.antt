-- A page that calls nothing, told by its lines, is told by those of the expanded page.
use Rattle.std.proofs.Common.{◌≡◌, ℕ, ◌+◌, ◌≤◌, Bool, true, false, Option, Some, None, List, [], ◌∷◌, ◌++◌, length, map, take, drop, refl, sym, ap, ap₂, ◌∙◌, subst, append_assoc}
use Rattle.std.specs.Prelude.{if◌then◌else◌}
use Rattle.wt_span.specs.declared.form.Mode.TheVariants.{Page}
use Rattle.wt_span.specs.declared.form.LexKind.{LexKind}
use Rattle.wt_span.specs.declared.form.LexKind.TheVariants.{Chars, CommentLine, Comment, Raw, Include, Hidden, Entity, Opens, Closes, LinkOpen, LinkClose, Pipe, Equals}
use Rattle.wt_span.specs.declared.form.ItemForm.TheVariants as form
use Rattle.wt_span.specs.Items.{Item, char, sign, sources, items_by}
use Rattle.wt_span.specs.Lexemes.{Word, words}
use Rattle.wt_span.specs.Origins.{OuterCall, Span, Expanded}
use Rattle.wt_span.specs.Runs.{AreRuns}
use Rattle.wt_span.proofs.RunLaws.{runs_are}
use Rattle.wt_span.specs.Tags.{Tag, opening_tag, is_nowiki}
use Rattle.wt_annotated.specs.Seams.{text_from}
use Rattle.wt_lines.specs.Lines.{full_lines, content, goes_on}
use Rattle.wt_page.specs.Lines.{ending}
use Rattle.wt_page.proofs.Ends.{content_ending}
use Rattle.wt_tables.specs.Parts.{joined}
use Rattle.wt_expand.specs.PageCalls.{expanded_page}
use Rattle.wt_expand.specs.PageItems.{raw_form_by, items_of_word, items_of_words, page_items}
use Rattle.wt_expand.specs.Work.{Pages}
use Rattle.wt_commands.specs.Answers.{refusal_of_page}
use Rattle.wt_text_edit_laws.specs.BlockSpots.{BlockSpot, spots_source}
use Rattle.wt_text_edit_laws.specs.LonePages.{of_items}
use Rattle.wt_text_edit_laws.specs.NoCalls.{CallsNothing}
use Rattle.wt_text_edit_laws.specs.PageCuts.{AreFree, EndClosed}
use Rattle.wt_text_edit_laws.specs.ParagraphParts.{break}
use Rattle.wt_text_edit_laws.specs.TextBlocks.{TextBlock}
use Rattle.wt_text_edit_laws.proofs.Between.LessBraces.{BeginsUnbraced}
use Rattle.wt_text_edit_laws.proofs.Between.NoCalls.{calm_expanded}
use Rattle.wt_text_edit_laws.proofs.Cuts.TextLines.{IsEnding, joined_is}
use Rattle.wt_beside_laws.proofs.Derived.BlockContents.{calm_between}
use Rattle.wt_called_edit_laws.specs.AnyBlocks.{open_after, open_behind_part, past_break}
use Rattle.wt_called_edit_laws.specs.Covered.{AreInNoGroup, IsEditablePage}
use Rattle.wt_called_edit_laws.specs.Groups.{called_tree}
use Rattle.wt_called_edit_laws.specs.LinedAmong.{spots_on, end_on, spots_of_lines, end_of_lines, AreOfPage, AreOwnLines, AreLed, AreUntouched, IsLinedAmong}
use Rattle.wt_called_edit_laws.specs.PlacedLines.{LinedBlock, all_lines, spots_by, end_by, AreLinedAfter, AreLined, IsLinedPage, lead_of, front_rows}
use Rattle.wt_called_edit_laws.specs.PlacedSpots.{AreFurtherIn, AreBlocksIn, IsPlacedPage}
use Rattle.wt_called_edit_laws.proofs.Among.LinedParts.{of_behind, of_front, own_breaks}
use Rattle.wt_called_edit_laws.proofs.Among.OwnItems.{from_page}
use Rattle.wt_called_edit_laws.proofs.BlocksOutside.{called_editable}
use Rattle.wt_called_edit_laws.proofs.Cells.PlacedLines.{own_items, Round, round, lines_joined, lined_whole, lined_in}
use Rattle.wt_called_edit_laws.proofs.Cells.PlacedSpots.{AreCutFree, spots_free, spots_called}
use Rattle.wt_called_edit_laws.proofs.PartTexts.{own_text}

-- ---- the items of a page come from no call, and none is a function

chars_of : (bs : List ℕ) → AreOfPage (map (char None) bs)
chars_of [] = tt
chars_of (b ∷ bs) = (refl, tt, chars_of bs)

word_of : (kind : LexKind) (bs : List ℕ) → AreOfPage (items_of_word kind bs)
word_of Chars bs = chars_of bs
word_of CommentLine bs = (refl, (λ e. cc), tt)
word_of Comment bs = (refl, (λ e. cc), tt)
word_of Raw bs = by_tag (opening_tag bs)
  where
    by_name : (t : Bool) → AreOfPage (items_by (if t then form.Nowiki else form.Extension) None bs)
    by_name true = (refl, (λ e. cc), tt)
    by_name false = (refl, (λ e. cc), tt)

    by_tag : (o : Option Tag) → AreOfPage (items_by (raw_form_by o) None bs)
    by_tag None = (refl, (λ e. cc), tt)
    by_tag (Some t) = by_name (is_nowiki t.name)
word_of Include bs = (refl, (λ e. cc), tt)
word_of Hidden bs = (refl, (λ e. cc), tt)
word_of (Entity c) bs = (refl, (λ e. cc), tt)
word_of Opens bs = chars_of bs
word_of Closes bs = chars_of bs
word_of LinkOpen bs = chars_of bs
word_of LinkClose bs = chars_of bs
word_of Pipe bs = chars_of bs
word_of Equals bs = chars_of bs

of_both : (xs ys : List Item) → AreOfPage xs → AreOfPage ys → AreOfPage (xs ++ ys)
of_both [] ys h g = g
of_both (x ∷ xs) ys h g = (h.0, h.1, of_both xs ys h.2 g)

words_of : (ws : List Word) (bs : List ℕ) → AreOfPage (items_of_words ws bs)
words_of [] bs = tt
words_of ((kind, n) ∷ ws) bs = of_both (items_of_word kind (take n bs)) (items_of_words ws (drop n bs)) (word_of kind (take n bs)) (words_of ws (drop n bs))

pub page_of : (page : List ℕ) → AreOfPage (page_items page)
unfolding page_items
page_of page = words_of (words Page page) page

-- ---- its parts are the same

own_source : (calls : List OuterCall) (xs : List Item) → AreOfPage xs → text_from calls None xs ≡ sources xs
own_source calls xs h = own_text calls None xs (from_page xs h)

-- a block's lines, and those beside them
record AreOwnParts (b : LinedBlock) (tail : List (List Item)) : Type 0 where
  front : AreOfPage (joined b.before)
  line : AreOfPage (lead_of b ++ own_items b)
  after : AreOfPage (ending (own_items b))
  rest : AreOfPage (joined tail)

own_parts : (b : LinedBlock) (tail : List (List Item)) → AreOfPage (joined (b.before ++ (((lead_of b ++ b.first) ∷ b.more) ++ tail))) → AreOwnParts b tail
own_parts b tail h =
    let front : List Item = joined b.before in
    let own : List Item = own_items b in
    let all : AreOfPage ((front ++ lead_of b) ++ (own ++ joined tail)) = subst AreOfPage (lines_joined b tail) h in
    let before : AreOfPage (front ++ lead_of b) = of_front (front ++ lead_of b) (own ++ joined tail) all in
    let behind : AreOfPage (own ++ joined tail) = of_behind (front ++ lead_of b) (own ++ joined tail) all in
    let mine : AreOfPage own = of_front own (joined tail) behind in
    record {
      front = of_front front (lead_of b) before;
      line = of_both (lead_of b) own (of_behind front (lead_of b) before) mine;
      after = of_behind (content own) (ending own) (subst AreOfPage (sym (content_ending own)) mine);
      rest = of_behind own (joined tail) behind;
    }

before_is : (calls : List OuterCall) (es : List Item) (b : LinedBlock) → AreOfPage es → AreOfPage (joined b.before) → AreOfPage (lead_of b ++ own_items b)
    → text_from calls None ((es ++ joined b.before) ++ lead_of b) ≡ sources (es ++ (joined b.before ++ lead_of b))
before_is calls es b e f l =
    let front : List Item = joined b.before in
    own_source calls ((es ++ front) ++ lead_of b) (of_both (es ++ front) (lead_of b) (of_both es front e f) (of_front (lead_of b) (own_items b) l))
    ∙ ap sources (append_assoc es front (lead_of b))

spots_are : (calls : List OuterCall) (es : List Item) (bs : List LinedBlock) (behind : List (List Item)) → AreOfPage es → AreOfPage (joined (all_lines bs behind))
    → (spots_on calls es bs ≡ spots_by es bs) × (end_on calls es bs behind ≡ end_by es bs behind)
spots_are calls es [] behind e h = (refl, own_source calls (es ++ joined behind) (of_both es (joined behind) e h))
spots_are calls es (b ∷ bs) behind e h =
    let p : AreOwnParts b (all_lines bs behind) = own_parts b (all_lines bs behind) h in
    let more = spots_are calls (ending (own_items b)) bs behind p.after p.rest in
    let P : List ℕ → List BlockSpot → List BlockSpot = λ q ss. record { before = q; block = b.block; text = b.text } ∷ ss in
    (ap₂ P (before_is calls es b e p.front p.line) more.0, more.1)

-- ---- and each block calls nothing

behind_unbraced : (tail : List (List Item)) (es : List Item) → IsEnding es → ((m : List Item) (ms : List (List Item)) → tail ≡ m ∷ ms → es ≡ break ∷ [])
    → BeginsUnbraced (map sign (es ++ joined tail))
behind_unbraced [] [] i f = tt
behind_unbraced [] (x ∷ es) i f = subst (λ (y : Item). BeginsUnbraced (map sign ((y ∷ es) ++ []))) (sym i.0) refl
behind_unbraced (m ∷ ms) es i f =
    subst (λ (us : List Item). BeginsUnbraced (map sign (us ++ joined (m ∷ ms)))) (sym (f m ms refl)) refl

-- there is something in the first line of each
abbrev pub AreSome : List LinedBlock → Type 0
AreSome [] = Unit {0}
AreSome (b ∷ bs) = (1 ≤ length b.first) × AreSome bs

some_after : (last : TextBlock) (open_tables : List Bool) (bs : List LinedBlock) (behind : List (List Item)) → AreLinedAfter last open_tables bs behind → AreSome bs
some_after last open_tables [] behind h = tt
some_after last open_tables (b ∷ bs) behind h =
    (h.1.some, some_after b.block (open_after open_tables (front_rows (length open_tables) b)) bs behind h.2)

some_all : (bs : List LinedBlock) (behind : List (List Item)) → AreLined bs behind → AreSome bs
some_all [] behind h = absurd h
some_all (b ∷ bs) behind h = (h.0.some, some_after b.block (open_after [] (front_rows 0 b)) bs behind h.1)

pub own_all : (front : List Item) (bs : List LinedBlock) (behind : List (List Item)) (xs : List Item) → AreRuns goes_on (all_lines bs behind) xs
    → AreOfPage (joined (all_lines bs behind)) → CallsNothing (front ++ joined (all_lines bs behind)) → AreSome bs → AreOwnLines bs
own_all front [] behind xs runs h c s = tt
own_all front (b ∷ bs) behind xs runs h c s =
    let tail : List (List Item) = all_lines bs behind in
    let own : List Item = own_items b in
    let p : AreOwnParts b tail = own_parts b tail h in
    let mine : AreOfPage own = of_behind (lead_of b) own p.line in
    let r : Round b tail = round b tail xs s.0 runs (own_breaks own mine) in
    let before : List Item = joined b.before ++ lead_of b in
    let rest : List Item = ending own ++ joined tail in
    let all : CallsNothing ((front ++ before) ++ (content own ++ rest)) =
    subst CallsNothing (ap (λ zs. front ++ zs) r.items ∙ sym (append_assoc front before (content own ++ rest))) c in
    let split : front ++ joined (b.before ++ (((lead_of b ++ b.first) ∷ b.more) ++ tail)) ≡ ((front ++ before) ++ own) ++ joined tail =
    ap (λ zs. front ++ zs) (lines_joined b tail) ∙ sym (append_assoc front before (own ++ joined tail)) ∙ sym (append_assoc (front ++ before) own (joined tail)) in (
      mine,
      calm_between (front ++ before) (content own) rest (behind_unbraced tail (ending own) r.own_ending r.ends) all,
      own_all ((front ++ before) ++ own) bs behind (joined tail) r.tail_runs p.rest (subst CallsNothing split c) s.1,
    )

-- ---- the page

none_touched : (calls : List OuterCall) (at : ℕ) (es : List Item) (bs : List LinedBlock) → AreUntouched calls [] at es bs
none_touched calls at es [] = tt
none_touched calls at es (b ∷ bs) = (
  tt,
  none_touched calls (at + length (text_from calls None ((es ++ joined b.before) ++ lead_of b)) + length (sources (content (own_items b)))) (ending (own_items b)) bs,
)

-- each is behind lines, comments and tags
led_after : (last : TextBlock) (tables : List Bool) (ss : List BlockSpot) (behind : List ℕ) (zs : List Item) → AreFurtherIn last tables ss behind zs → AreLed ss
led_after last tables [] behind zs h = tt
led_after last tables (s ∷ ss) behind zs h = (h.1, led_after s.block (open_behind_part tables (past_break h.0.before)) ss behind h.0.rest h.6)

led_in : (ss : List BlockSpot) (behind : List ℕ) → AreBlocksIn ss behind → AreLed ss
led_in [] behind h = absurd h
led_in (s ∷ ss) behind h = (h.1, led_after s.block (open_behind_part [] h.0.before) ss behind h.0.rest h.4)

pub page_runs : (page : List ℕ) (bs : List LinedBlock) (behind : List (List Item)) → full_lines (page_items page) ≡ all_lines bs behind
    → AreRuns goes_on (all_lines bs behind) (page_items page)
page_runs page bs behind e = subst (λ (ks : List (List Item)). AreRuns goes_on ks (page_items page)) e (runs_are goes_on (page_items page))

pub calm_parts : (pages : Pages) (page : List ℕ) (bs : List LinedBlock) (behind : List (List Item)) → full_lines (page_items page) ≡ all_lines bs behind
    → (spots_of_lines pages page bs ≡ spots_by [] bs) × (end_of_lines pages page bs behind ≡ end_by [] bs behind)
calm_parts pages page bs behind e =
    let all : page_items page ≡ joined (all_lines bs behind) = joined_is goes_on (all_lines bs behind) (page_items page) (page_runs page bs behind e) in
    spots_are (expanded_page pages page).outer [] bs behind tt (subst AreOfPage all (page_of page))

pub calm_lined : (pages : Pages) (page : List ℕ) (bs : List LinedBlock) (behind : List (List Item)) → IsLinedPage page bs behind → IsLinedAmong pages page bs behind
calm_lined pages page bs behind h =
    let xs : List Item = page_items page in
    let expanded : expanded_page pages page ≡ of_items xs = calm_expanded pages page h.calls_nothing in
    let runs : AreRuns goes_on (all_lines bs behind) xs = page_runs page bs behind h.are in
    let all : xs ≡ joined (all_lines bs behind) = joined_is goes_on (all_lines bs behind) xs runs in
    let ss : List BlockSpot = spots_by [] bs in
    let end : List ℕ = end_by [] bs behind in
    let parts = calm_parts pages page bs behind h.are in
    let same : spots_source ss end ≡ page = lined_whole page bs behind h.are h.lined in
    let there : IsPlacedPage ss end = lined_in page bs behind h in
    let f : AreCutFree ss end = spots_free ss end there in
    let editable : IsEditablePage pages ss end = called_editable pages ss end (spots_called pages ss end there) in
    let outside : AreInNoGroup 0 ss (called_tree pages page) = subst (λ (us : List ℕ). AreInNoGroup 0 ss (called_tree pages us)) same editable.in_no_group in
    record {
      utf8 = h.utf8;
      closed = subst (λ (rs : List BlockSpot). EndClosed rs (end_of_lines pages page bs behind)) (sym parts.0) (subst (EndClosed ss) (sym parts.1) h.closed);
      are = ap (λ (x : Expanded). full_lines x.items) expanded ∙ h.are;
      lined = h.lined;
      own = own_all [] bs behind xs runs (subst AreOfPage all (page_of page)) (subst CallsNothing all h.calls_nothing) (some_all bs behind h.lined);
      led = subst AreLed (sym parts.0) (led_in ss end there.blocks);
      free = subst AreFree (sym parts.0) f.free;
      untouched = subst (λ (ts : List Span). AreUntouched (expanded_page pages page).outer ts 0 [] bs) (sym (ap (λ (x : Expanded). x.text_calls) expanded))
          (none_touched (expanded_page pages page).outer 0 [] bs);
      unrefused = subst (λ (us : List ℕ). refusal_of_page pages us ≡ None) same editable.unrefused;
      in_no_group = subst (λ (rs : List BlockSpot). AreInNoGroup 0 rs (called_tree pages page)) (sym parts.0) outside;
    }
