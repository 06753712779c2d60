-- A page with blocks among calls is expanded part by part, and the blocks are parts, too.
use Rattle.std.proofs.Common.{arith, ◌≡◌, inl, ℕ, ◌+◌, List, [], ◌∷◌, ◌++◌, None, length, map, refl, sym, ap, ◌∙◌, subst}
use Rattle.wt_span.specs.declared.form.Mode.TheVariants.{Page}
use Rattle.wt_span.specs.declared.form.LexKind.TheVariants.{Chars}
use Rattle.wt_span.specs.Items.{Item}
use Rattle.wt_span.specs.Lexemes.{Word, words}
use Rattle.wt_span.specs.Origins.{OuterCall, Span, Expanded}
use Rattle.wt_span.specs.Braces.{Member, lexeme, call, reduced}
use Rattle.wt_expand.specs.Work.{Pages, Entry, entered}
use Rattle.wt_expand.specs.Expansion.{page_reading, text_given, page_work}
use Rattle.wt_expand.specs.PageItems.{page_items}
use Rattle.wt_expand.specs.PageCalls.{Stretch, own, outer, text_call, numbered, outer_calls, page_stretches, expanded_page}
use Rattle.wt_part_laws.specs.Apart.{NoneOpens, AreMet}
use Rattle.wt_part_laws.specs.Expanded.{moved_call, moved_span, part_items, calls_in, GivesAnywhere, BeginsPlain, AreParts}
use Rattle.wt_part_laws.proofs.ApartCalls.{reduced_apart}
use Rattle.wt_part_laws.proofs.ExpandedBoth.{plain_anywhere, both_anywhere, items_both, expands_both}
use Rattle.wt_text_edit_laws.specs.LonePages.{of_items}
use Rattle.wt_text_edit_laws.specs.NoCalls.{NonePairs}
use Rattle.wt_text_edit_laws.specs.TextBlocks.{source_of}
use Rattle.wt_text_edit_laws.specs.BlockSpots.{BlockSpot, spots_source, EndBeforeBlocks, IsReadSpot, AreReadSpots}
use Rattle.wt_text_edit_laws.proofs.Texts.TypedText.{AreLexemes, lexemes_expanded, lexemes_work}
use Rattle.wt_text_edit_laws.proofs.Paragraphs.Texts.{EndsHere}
use Rattle.wt_text_edit_laws.proofs.Blocks.BlockReading.{further_ends}
use Rattle.wt_called_edit_laws.specs.Parts.{left_of, all_left, GiveAnywhere, AreParted, AreCalled, work_in, called_items, called_outers, called_texts, called_work}
use Rattle.wt_called_edit_laws.proofs.Parts.LeftBraces.{pairs_rest, apart_by, left_both}
use Rattle.wt_called_edit_laws.proofs.Parts.Depths.{IsShallow, shallow_both, both_shallow}
use Rattle.wt_called_edit_laws.proofs.Parts.Seams.{no_words, break_runs, block_met, before_met}

-- ---- what a text gives

pub record Gives (pages : Pages) (bs : List ℕ) (items : ℕ → List Item) (outers : List OuterCall) (texts : List Span) (work : List Entry) : Type 0 where
  pub items_are : (k : ℕ) → part_items pages k bs ≡ items k
  pub outers_are : (expanded_page pages bs).outer ≡ outers
  pub texts_are : (expanded_page pages bs).text_calls ≡ texts
  pub work_is : (text_given (page_reading pages) bs).work ≡ work

pub own_gives : (pages : Pages) (bs : List ℕ)
    → Gives pages bs (λ k. part_items pages k bs) (expanded_page pages bs).outer (expanded_page pages bs).text_calls (text_given (page_reading pages) bs).work
own_gives pages bs = record { items_are = λ k. refl; outers_are = refl; texts_are = refl; work_is = refl }

outers_of : (pages : Pages) (bs : List ℕ) → length (outer_calls (page_stretches pages bs)) ≡ calls_in pages bs
unfolding expanded_page
outers_of pages bs = refl

pub items_of : (pages : Pages) (bs : List ℕ) → numbered 0 (page_stretches pages bs) ≡ (expanded_page pages bs).items
unfolding expanded_page
items_of pages bs = refl

-- behind the page's own entry
rest_of : List Entry → List Entry
rest_of [] = []
rest_of (e ∷ es) = es

work_behind : (pages : Pages) (bs : List ℕ) → rest_of (page_work pages bs) ≡ (text_given (page_reading pages) bs).work
unfolding page_work rest_of
work_behind pages bs = refl

work_first : (pages : Pages) (bs : List ℕ) (es : List Entry) → rest_of (page_work pages bs ++ es) ≡ (text_given (page_reading pages) bs).work ++ es
unfolding page_work rest_of
work_first pages bs es = refl

-- ---- two parts

pub both_give : (pages : Pages) (bs cs : List ℕ) (items : ℕ → List Item) (outers : List OuterCall) (texts : List Span) (work : List Entry) → AreParts pages bs cs
    → Gives pages cs items outers texts work
    → Gives pages (bs ++ cs) (λ k. part_items pages k bs ++ items (k + calls_in pages bs)) ((expanded_page pages bs).outer ++ map (moved_call (length bs)) outers)
    ((expanded_page pages bs).text_calls ++ map (moved_span (length bs)) texts) ((text_given (page_reading pages) bs).work ++ work)
both_give pages bs cs items outers texts work h g =
    let e = expands_both pages bs cs h in
    record {
      items_are = λ k.
          items_both pages bs cs k h
          ∙ ap (λ (n : ℕ). part_items pages k bs ++ part_items pages (k + n) cs) (outers_of pages bs)
          ∙ ap (λ xs. part_items pages k bs ++ xs) (g.items_are (k + calls_in pages bs));
      outers_are = e.outer_calls ∙ ap (λ os. (expanded_page pages bs).outer ++ map (moved_call (length bs)) os) g.outers_are;
      texts_are = e.text_calls ∙ ap (λ ss. (expanded_page pages bs).text_calls ++ map (moved_span (length bs)) ss) g.texts_are;
      work_is = sym (work_behind pages (bs ++ cs)) ∙ ap rest_of e.work ∙ work_first pages bs (text_given (page_reading pages) cs).work
          ∙ ap (λ es. (text_given (page_reading pages) bs).work ++ es) g.work_is;
    }

-- ---- a part that calls nothing

no_count : (k : ℕ) (ss : List Stretch) → outer_calls ss ≡ [] → numbered k ss ≡ numbered 0 ss
no_count k [] e = refl
no_count k (own xs ∷ ss) e = ap (λ ys. xs ++ ys) (no_count k ss e)
no_count k (outer c xs ∷ ss) e = absurd (no_first c (outer_calls ss) e)
  where
    IsNothing : List OuterCall → Type 0
    IsNothing [] = Unit {0}
    IsNothing (c ∷ cs) = ⊥

    no_first : (c : OuterCall) (cs : List OuterCall) → c ∷ cs ≡ [] → ⊥
    no_first c cs e = subst IsNothing (sym e) tt
no_count k (text_call s ∷ ss) e = no_count k ss e

no_outers : (pages : Pages) (bs : List ℕ) → (expanded_page pages bs).outer ≡ [] → outer_calls (page_stretches pages bs) ≡ []
unfolding expanded_page
no_outers pages bs e = e

none_behind : rest_of (entered None ∷ []) ≡ []
unfolding rest_of
none_behind = refl

pub calm_gives : (pages : Pages) (bs : List ℕ) → AreLexemes (reduced (words Page bs)) → Gives pages bs (λ k. page_items bs) [] [] []
calm_gives pages bs h =
    let e : expanded_page pages bs ≡ of_items (page_items bs) = lexemes_expanded pages bs h in
    let outers : (expanded_page pages bs).outer ≡ [] = ap (λ (x : Expanded). x.outer) e in
    record {
      items_are = λ k. no_count k (page_stretches pages bs) (no_outers pages bs outers) ∙ items_of pages bs ∙ ap (λ (x : Expanded). x.items) e;
      outers_are = outers;
      texts_are = ap (λ (x : Expanded). x.text_calls) e;
      work_is = sym (work_behind pages bs) ∙ ap rest_of (lexemes_work pages bs h) ∙ none_behind;
    }

-- ---- no call begins a text

pub lexemes_plain : (xs : List Member) → AreLexemes xs → BeginsPlain xs
lexemes_plain [] l = tt
lexemes_plain (lexeme w ∷ xs) l = tt
lexemes_plain (call k inside ∷ xs) l = absurd l

no_members : reduced [] ≡ []
unfolding reduced
no_members = refl

run_short : (n : ℕ) → NoneOpens (reduced ((Chars, n) ∷ [])) × (reduced ((Chars, n) ∷ []) ≡ lexeme (Chars, n) ∷ [])
unfolding reduced
run_short n = ((omega arith, tt), refl)

-- a run that begins a text isn't a call
pub run_plain : (n : ℕ) (ws : List Word) → BeginsPlain (reduced ((Chars, n) ∷ ws))
run_plain n ws =
    let none = run_short n in
    subst BeginsPlain (sym (reduced_apart ((Chars, n) ∷ []) ws (inl none.0) ∙ ap (λ xs. xs ++ reduced ws) none.1)) tt

pub ends_plain : (bs : List ℕ) → EndsHere bs → BeginsPlain (reduced (words Page bs))
ends_plain [] e = subst BeginsPlain (sym (ap reduced no_words ∙ no_members)) tt
ends_plain (b ∷ r) e =
    let f = break_runs r in
    let P : ℕ → Type 0 = λ (c : ℕ). BeginsPlain (reduced (words Page (c ∷ r))) in
    subst P (sym e) (subst (λ ws. BeginsPlain (reduced ws)) (sym f.are) (run_plain f.first f.others))

-- ---- the parts of a page

-- in none of the parts a call has a hundred others round it
abbrev pub AreShallow : List BlockSpot → List ℕ → Type 0
AreShallow [] behind = IsShallow (words Page behind)
AreShallow (s ∷ ss) behind = IsShallow (words Page s.before) × IsShallow (words Page (source_of s.block s.text)) × AreShallow ss behind

-- what a page has from a part on
pub record From (pages : Pages) (ss : List BlockSpot) (behind : List ℕ) : Type 0 where
  pub left_is : left_of (spots_source ss behind) ≡ all_left ss behind
  pub shallow : (IsShallow (words Page (spots_source ss behind)) → AreShallow ss behind) × (AreShallow ss behind → IsShallow (words Page (spots_source ss behind)))
  pub gives : Gives pages (spots_source ss behind) (λ k. called_items pages k ss behind) (called_outers pages ss behind) (called_texts pages ss behind) (called_work pages ss behind)

-- two parts of which the braces don't pair
parts_by : (pages : Pages) (bs cs : List ℕ) → AreMet (words Page bs) (words Page cs) (words Page (bs ++ cs)) → NonePairs (left_of bs ++ left_of cs)
    → GivesAnywhere pages cs → AreParts pages bs cs
parts_by pages bs cs m n g = record { read = record { lexemes = m; apart = apart_by (words Page bs) (words Page cs) n }; anywhere = g }

spot_from : (pages : Pages) (s : BlockSpot) (ss : List BlockSpot) (behind : List ℕ) → IsReadSpot s → AreReadSpots ss behind → EndBeforeBlocks (s ∷ ss) behind
    → GivesAnywhere pages (source_of s.block s.text) → NonePairs (all_left (s ∷ ss) behind) → From pages ss behind → From pages (s ∷ ss) behind
spot_from pages s ss behind h f b a n rest =
    let line : List ℕ = source_of s.block s.text in
    let more : List ℕ = spots_source ss behind in
    let met : AreMet (words Page line) (words Page more) (words Page (line ++ more)) = block_met s ss behind h f b in
    let none : NonePairs (left_of line ++ left_of more) =
    subst (λ bs. NonePairs (left_of line ++ bs)) (sym rest.left_is) (pairs_rest (left_of s.before) (left_of line ++ all_left ss behind) n) in
    let parts : AreParts pages line more = parts_by pages line more met none (plain_anywhere pages more (ends_plain more (further_ends ss behind f))) in
    let left : left_of (line ++ more) ≡ left_of line ++ all_left ss behind =
    left_both (words Page line) (words Page more) (words Page (line ++ more)) met none ∙ ap (λ bs. left_of line ++ bs) rest.left_is in
    let before : AreMet (words Page s.before) (words Page (line ++ more)) (words Page (s.before ++ (line ++ more))) = before_met s ss behind h f b in
    let no_pairs : NonePairs (left_of s.before ++ left_of (line ++ more)) = subst (λ bs. NonePairs (left_of s.before ++ bs)) (sym left) n in
    let all : AreParts pages s.before (line ++ more) =
    parts_by pages s.before (line ++ more) before no_pairs (both_anywhere pages line more parts.read a parts.anywhere) in
    let g = both_give pages line more (λ k. called_items pages k ss behind) (called_outers pages ss behind) (called_texts pages ss behind) (called_work pages ss behind) parts rest.gives in
    record {
      shallow = (
        λ d.
            let u = shallow_both (words Page s.before) (words Page (line ++ more)) (words Page (s.before ++ (line ++ more))) before all.read.apart d in
            let v = shallow_both (words Page line) (words Page more) (words Page (line ++ more)) met parts.read.apart u.1 in
            (u.0, v.0, rest.shallow.0 v.1),
        λ d.
            let v = both_shallow (words Page line) (words Page more) (words Page (line ++ more)) met parts.read.apart d.1 (rest.shallow.1 d.2) in
            both_shallow (words Page s.before) (words Page (line ++ more)) (words Page (s.before ++ (line ++ more))) before all.read.apart d.0 v,
      );
      left_is = left_both (words Page s.before) (words Page (line ++ more)) (words Page (s.before ++ (line ++ more))) before no_pairs ∙ ap (λ bs. left_of s.before ++ bs) left;
      gives = both_give pages s.before (line ++ more) (λ k. part_items pages k line ++ called_items pages (k + calls_in pages line) ss behind)
          ((expanded_page pages line).outer ++ map (moved_call (length line)) (called_outers pages ss behind))
          ((expanded_page pages line).text_calls ++ map (moved_span (length line)) (called_texts pages ss behind))
          (work_in pages line ++ called_work pages ss behind) all g;
    }

further_from : (pages : Pages) (ss : List BlockSpot) (behind : List ℕ) → AreReadSpots ss behind → EndBeforeBlocks ss behind → GiveAnywhere pages ss
    → NonePairs (all_left ss behind) → From pages ss behind
further_from pages [] behind f b a n = record { left_is = refl; shallow = (λ d. d, λ d. d); gives = own_gives pages behind }
further_from pages (s ∷ ss) behind f b a n =
    spot_from pages s ss behind f.0 f.2 b a.0 n
    (further_from pages ss behind f.2 b.2 a.1 (pairs_rest (left_of (source_of s.block s.text)) (all_left ss behind)
    (pairs_rest (left_of s.before) (left_of (source_of s.block s.text) ++ all_left ss behind) n)))

pub page_from : (pages : Pages) (ss : List BlockSpot) (behind : List ℕ) → AreCalled pages ss behind → From pages ss behind
page_from pages [] behind h = absurd h
page_from pages (s ∷ ss) behind h =
    let w : AreParted pages (s ∷ ss) behind = h.2 in
    spot_from pages s ss behind h.0 h.1 w.end_before w.anywhere.0 w.apart
    (further_from pages ss behind h.1 w.end_before.2 w.anywhere.1 (pairs_rest (left_of (source_of s.block s.text)) (all_left ss behind)
    (pairs_rest (left_of s.before) (left_of (source_of s.block s.text) ++ all_left ss behind) w.apart)))
