-- Without marks, too: the difference marks the body `children` where paragraphs of prose come or go, and nothing else.
use Rattle.std.proofs.Common.{arith, ◌≡◌, ◌≢◌, ℕ, zero, suc, ◌+◌, ◌≤◌, Bool, true, false, Some, None, List, [], ◌∷◌, ◌++◌, length, refl, sym, ap, ◌∙◌, subst, inl, inr}
use Rattle.std.specs.Prelude.{◌⊎◌, ◌||◌, not, if◌then◌else◌, Option}
use Rattle.std.specs.List.{AllByRecursion, flat_map}
use Rattle.std.specs.Str.{IsUtf8, bytes_eq}
use Rattle.std.proofs.lemmas.Slice.Eq.{bytes_eq-Decides}
use Rattle.wt_span.specs.declared.limits.TheConstants.{HTML_BYTES, PAGE_BYTES}
use Rattle.wt_span.specs.Items.{Item}
use Rattle.wt_devices.specs.Device.{Pages}
use Rattle.wt_tree.specs.declared.kind.Kind.{Kind}
use Rattle.wt_tree.specs.declared.kind.Kind.TheVariants as kind
use Rattle.wt_tree.specs.declared.kind.Mark.{Mark}
use Rattle.wt_tree.specs.declared.kind.Mark.TheVariants as marks
use Rattle.wt_tree.specs.Kinds.{showing}
use Rattle.wt_tree.specs.Opened.{opened, without_sections}
use Rattle.wt_tree.specs.Tiling.{is_group, InPreorder}
use Rattle.wt_tree.specs.Tree.{Label, Tree, tree, Trees, none, more, label}
use Rattle.wt_checks.specs.BareSections.{HasBareSections}
use Rattle.wt_checks.specs.Groups.{has_mark}
use Rattle.wt_checks.specs.Kept.{children}
use Rattle.wt_checks.specs.Places.{Place, Page, page_of}
use Rattle.wt_checks.specs.PutBack.{has_frame, have_frame, IsOneBody}
use Rattle.wt_checks.specs.Unmarked.{is_compared}
use Rattle.wt_checks.specs.WithoutMarks.{unmarked, all_unmarked}
use Rattle.wt_checks.proofs.Found.{found_root}
use Rattle.wt_checks.proofs.Frames.{bare_root}
use Rattle.wt_checks.proofs.Repeated.{or_false}
use Rattle.wt_difference.specs.Difference.{is_partner, stays_in, is_stable, numbers, numbers_in, same_inside, same_children, are_none, difference}
use Rattle.wt_difference.specs.Insides.{has_inside, from_blocks, held}
use Rattle.wt_difference.specs.Remarked.{mark_of, remarked_in, all_remarked, remarked}
use Rattle.wt_difference.specs.Unedited.{IsUnedited, AreUnedited}
use Rattle.wt_difference.proofs.Remarks.{bare_stays, marks_alone, none_marked}
use Rattle.wt_difference.proofs.UneditedLaws.{nothing_differs}
use Rattle.wt_inline.specs.ItemTree.{ItemTree}
use Rattle.wt_annotated.specs.Labels.{label_at}
use Rattle.wt_schema.specs.Read.{page as as_page, read}
use Rattle.wt_page_round_trip.specs.PageTree.{page_tree}
use Rattle.wt_page_round_trip.proofs.Pages.{page_opened}
use Rattle.wt_page_round_trip.proofs.PageTrees.{page_numbered}
use Rattle.wt_commands.specs.Answers.{edit_to}
use Rattle.wt_commands.specs.UnmarkedEdits.{EditIsDone, DoneByEdit}
use Rattle.wt_commands.proofs.SectionEdits.{page_bare}
use Rattle.wt_typed_blocks.specs.Sent.{StandsAsIs}
use Rattle.wt_typed_blocks.specs.Coming as coming
use Rattle.wt_typed_blocks.specs.Coming.{Coming, no_more, spaced, comes, white_space, new_paragraph, page_children, sent_children, body_before, body_sent, AllStay}
use Rattle.wt_typed_blocks.proofs.ComingPasses.{one_body}
use Rattle.wt_typed_blocks.proofs.SentFrames.{no_frame_sent}
use Rattle.wt_typed_blocks.proofs.SentGroups.{both_ways, no_mark}
use Rattle.wt_text_edit_laws.specs.ProsePages.{Passage, prose}
use Rattle.wt_text_edit_laws.specs.ProseTrees.{separator}
use Rattle.wt_text_edit_laws.specs.ProseChanges.{Addition, white, paragraph, PassageChange, stays, goes, ProseChange, passages_before, changed_prose, new_texts, passages_changed, after_breaks}
use Rattle.wt_text_edit_laws.specs.UnmarkedChanges.{unmarked_change, AreOwn, SomeComes, SomeChanges, IsUnmarkedChange}
use Rattle.wt_text_edit_laws.proofs.Prose.ProseReading.{prose_unrefused}
use Rattle.wt_text_edit_laws.proofs.Prose.ProseTexts.{prose_written}
use Rattle.wt_text_edit_laws.proofs.Prose.ProseTrees.{leafy, blocks_of, blocks_from, prose_blocks}
use Rattle.wt_text_edit_laws.proofs.Prose.ProseTakes.{prose_utf8}
use Rattle.wt_text_edit_laws.proofs.Prose.ProseUnmarked.{kind_opened, prose_text}
use Rattle.wt_text_edit_laws.proofs.Prose.ChangesListed.{number_past, items_past, number_after, items_after, with_breaks, with_added, coming_of, whole_coming, whole_page, whole_sent, whole_stay, later}
use Rattle.wt_text_edit_laws.proofs.Prose.ChangesTaken.{label_of, stay_so, opened_is, sent_is, unframed, takes_changes}

-- ---- the page's own body, with what is sent for the nodes that stay

abbrev own_children : Coming → Trees
own_children no_more = none
own_children (spaced x cs) = own_children cs
own_children (comes m x text cs) = own_children cs
own_children (coming.stays t u cs) = more u (own_children cs)
own_children (coming.goes t cs) = more t (own_children cs)

abbrev own_body : Label → Coming → Tree
own_body l cs = tree (record l { kind = kind.Body; id = 0 }) (own_children cs)

-- what stays is the page's own, and what goes and shows something has a number
abbrev Own : Coming → Type 0
Own no_more = Unit {0}
Own (spaced x cs) = Own cs
Own (comes m x text cs) = Own cs
Own (coming.stays t u cs) = IsUnedited t u × Own cs
Own (coming.goes t cs) = (is_compared (showing (label t).kind) ≡ true → (label t).id ≢ 0) × Own cs

mutual
  itself : (t : Tree) → IsUnedited t t
  itself (tree l ts) = (record { id = refl; kind = refl; attrs = refl; mw = refl; shown = refl }, both_ways (is_group l.kind) refl (all_themselves ts))

  all_themselves : (ts : Trees) → AreUnedited ts ts
  all_themselves none = tt
  all_themselves (more t ts) = (itself t, all_themselves ts)

own_unedited : (cs : Coming) → Own cs → AreUnedited (page_children cs) (own_children cs)
own_unedited no_more h = tt
own_unedited (spaced x cs) h = own_unedited cs h
own_unedited (comes m x text cs) h = own_unedited cs h
own_unedited (coming.stays t u cs) h = (h.0, own_unedited cs h.1)
own_unedited (coming.goes t cs) h = (itself t, own_unedited cs h.1)

own_frameless : (cs : Coming) → AllStay cs → have_frame (page_children cs) ≡ false → have_frame (own_children cs) ≡ false
own_frameless no_more h f = refl
own_frameless (spaced x cs) h f = own_frameless cs h f
own_frameless (comes m x text cs) h f = own_frameless cs h f
own_frameless (coming.stays t u cs) h f =
    let d = or_false (has_frame t) (have_frame (page_children cs)) f in
    ap (λ (b : Bool). b || have_frame (own_children cs)) (no_frame_sent t u h.0.as_is d.0) ∙ own_frameless cs h.1 d.1
own_frameless (coming.goes t cs) h f =
    let d = or_false (has_frame t) (have_frame (page_children cs)) f in
    ap (λ (b : Bool). b || have_frame (own_children cs)) d.0 ∙ own_frameless cs h d.1

not_true : (b : Bool) → true ≡ not b → b ≡ false
not_true true e = absurd (cc)
not_true false e = refl

own_remarked : (t : Tree) (l : Label) (cs : Coming) → (label t).kind ≡ kind.Body → InPreorder t → HasBareSections t → without_sections t ≡ body_before l cs
    → have_frame (page_children cs) ≡ false → AllStay cs → Own cs → remarked t (own_body l cs) ≡ unmarked (own_body l cs)
own_remarked t l cs k pre bare w f h o =
    let u : Tree = own_body l cs in
    let own : IsUnedited (body_before l cs) u = (record { id = refl; kind = refl; attrs = refl; mw = refl; shown = refl }, own_unedited cs o) in
    let one : IsOneBody u = record { root = refl; alone = own_frameless cs h f } in
    let none_differs : difference t u ≡ [] = nothing_differs t u k pre bare one (subst (λ (p : Tree). IsUnedited p u) (sym w) own) in
    let bare_so : has_mark (remarked t u) ≡ false = not_true (has_mark (remarked t u)) (sym (ap are_none none_differs) ∙ none_marked t u) in
    sym (bare_stays (remarked t u) bare_so) ∙ marks_alone t u

-- ---- no child is marked

abbrev first_or : Tree → Trees → Tree
first_or t none = t
first_or t (more u us) = u

abbrev rest_of : Trees → Trees
rest_of none = none
rest_of (more u us) = us

abbrev one_remarked : Page → Tree → Tree
one_remarked page u = if is_stable page 0 u then remarked_in page u else unmarked u

new_apart : (m x : Label) (text : List ℕ) (o : Option Place) → is_partner 0 (new_paragraph m x text) o ≡ false
new_apart m x text None = refl
new_apart m x text (Some q) = refl

new_bare : (m x : Label) (text : List ℕ) → unmarked (new_paragraph m x text) ≡ new_paragraph m x text
new_bare m x [] = refl
new_bare m x (b ∷ bs) = refl

children_remarked : (page : Page) (cs : Coming) → AllStay cs → all_remarked page 0 (own_children cs) ≡ all_unmarked (own_children cs)
    → all_remarked page 0 (sent_children cs) ≡ sent_children cs
children_remarked page no_more h e = refl
children_remarked page (spaced x cs) h e = ap (λ (us : Trees). more (white_space x) us) (children_remarked page cs h e)
children_remarked page (comes m x text cs) h e =
    let u : Tree = new_paragraph m x text in
    ap (λ (b : Bool). more (if b then remarked_in page u else unmarked u) (all_remarked page 0 (sent_children cs))) (new_apart m x text (page 0))
    ∙ ap (λ (v : Tree). more v (all_remarked page 0 (sent_children cs))) (new_bare m x text)
    ∙ ap (λ (us : Trees). more u us) (children_remarked page cs h e)
children_remarked page (coming.stays t u cs) h e =
    let first : one_remarked page u ≡ unmarked u = ap (first_or u) e in
    ap (λ (v : Tree). more v (all_remarked page 0 (sent_children cs))) (first ∙ bare_stays u (no_mark t u h.0.as_is))
    ∙ ap (λ (us : Trees). more u us) (children_remarked page cs h.1 (ap rest_of e))
children_remarked page (coming.goes t cs) h e = children_remarked page cs h (ap rest_of e)

-- ---- the numbers of the children differ

comers : Coming → ℕ
comers no_more = 0
comers (spaced x cs) = comers cs
comers (comes m x text cs) = suc (comers cs)
comers (coming.stays t u cs) = comers cs
comers (coming.goes t cs) = comers cs

goers : Coming → ℕ
goers no_more = 0
goers (spaced x cs) = goers cs
goers (comes m x text cs) = goers cs
goers (coming.stays t u cs) = goers cs
goers (coming.goes t cs) = if is_compared (showing (label t).kind) then suc (goers cs) else goers cs

abbrev AreNumbers : List ℕ → Type 0
AreNumbers ns = AllByRecursion (λ (n : ℕ). n ≢ 0) ns

one_number : (b : Bool) (n : ℕ) (ns : List ℕ) → (b ≡ true → n ≢ 0) → AreNumbers ns → AreNumbers (if b then n ∷ ns else ns)
one_number true n ns f h = (f refl, h)
one_number false n ns f h = h

page_numbers : (cs : Coming) → AllStay cs → Own cs → AreNumbers (numbers (page_children cs))
page_numbers no_more h o = tt
page_numbers (spaced x cs) h o = page_numbers cs h o
page_numbers (comes m x text cs) h o = page_numbers cs h o
page_numbers (coming.stays t u cs) h o =
    one_number (is_compared (showing (label t).kind)) (label t).id (numbers (page_children cs)) (λ e. h.0.numbered) (page_numbers cs h.1 o.1)
page_numbers (coming.goes t cs) h o =
    one_number (is_compared (showing (label t).kind)) (label t).id (numbers (page_children cs)) o.0 (page_numbers cs h o.1)

either_zero : (b : Bool) → ◌≡◌ {A = ℕ} (if b then 0 else 0) 0
either_zero true = refl
either_zero false = refl

rest_numbers : (b : Bool) (n : ℕ) (ns : List ℕ) → AreNumbers (if b then n ∷ ns else ns) → AreNumbers ns
rest_numbers true n ns h = h.1
rest_numbers false n ns h = h

-- without a number that is 0 none has come
none_come : (page : Page) (cs : Coming) → AreNumbers (numbers_in page 0 (sent_children cs)) → comers cs ≡ 0
unfolding comers
none_come page no_more h = refl
none_come page (spaced x cs) h = none_come page cs h
none_come page (comes m x text cs) h = absurd (h.0 (either_zero (stays_in page 0 (new_paragraph m x text))))
none_come page (coming.stays t u cs) h =
    none_come page cs
    (rest_numbers (is_compared (showing (label u).kind)) (if stays_in page 0 u then (label u).id else 0) (numbers_in page 0 (sent_children cs)) h)
none_come page (coming.goes t cs) h = none_come page cs h

same_shown : (t u : Tree) → StandsAsIs t u → is_compared (showing (label u).kind) ≡ is_compared (showing (label t).kind)
same_shown (tree l ts) (tree m us) h = ap (λ (k : Kind). is_compared (showing k)) h.0.kind

both_more : (v w : Bool) (n i : ℕ) (ns is : List ℕ) (c g : ℕ) → w ≡ v → length ns + c ≡ length is + g
    → length (if v then n ∷ ns else ns) + c ≡ length (if w then i ∷ is else is) + g
both_more true true n i ns is c g e h = omega (arith, h)
both_more false false n i ns is c g e h = h
both_more true false n i ns is c g e h = absurd (cc)
both_more false true n i ns is c g e h = absurd (cc)

one_goes : (v : Bool) (n : ℕ) (ns is : List ℕ) (c g : ℕ) → length ns + c ≡ length is + g
    → length (if v then n ∷ ns else ns) + c ≡ length is + (if v then suc g else g)
one_goes true n ns is c g h = omega (arith, h)
one_goes false n ns is c g h = h

counted : (page : Page) (cs : Coming) → AllStay cs
    → length (numbers (page_children cs)) + comers cs ≡ length (numbers_in page 0 (sent_children cs)) + goers cs
unfolding comers goers
counted page no_more h = refl
counted page (spaced x cs) h = counted page cs h
counted page (comes m x text cs) h =
    let e = counted page cs h in
    omega (arith, e)
counted page (coming.stays t u cs) h =
    both_more (is_compared (showing (label t).kind)) (is_compared (showing (label u).kind)) (label t).id (if stays_in page 0 u then (label u).id else 0)
    (numbers (page_children cs)) (numbers_in page 0 (sent_children cs)) (comers cs) (goers cs) (same_shown t u h.0.as_is) (counted page cs h.1)
counted page (coming.goes t cs) h =
    one_goes (is_compared (showing (label t).kind)) (label t).id (numbers (page_children cs)) (numbers_in page 0 (sent_children cs)) (comers cs) (goers cs)
    (counted page cs h)

-- where something has come or gone
differ : (page : Page) (cs : Coming) → AllStay cs → Own cs → 1 ≤ comers cs + goers cs
    → bytes_eq (numbers (page_children cs)) (numbers_in page 0 (sent_children cs)) ≡ false
differ page cs h o some = by (bytes_eq (numbers (page_children cs)) (numbers_in page 0 (sent_children cs))) refl
  where
    by : (b : Bool) → bytes_eq (numbers (page_children cs)) (numbers_in page 0 (sent_children cs)) ≡ b → b ≡ false
    by false e = refl
    by true e =
        let same : numbers (page_children cs) ≡ numbers_in page 0 (sent_children cs) =
        (bytes_eq-Decides (numbers (page_children cs)) (numbers_in page 0 (sent_children cs))).0 e in
        let none_new : comers cs ≡ 0 = none_come page cs (subst AreNumbers same (page_numbers cs h o)) in
        let long : length (numbers (page_children cs)) ≡ length (numbers_in page 0 (sent_children cs)) = ap length same in
        let all = counted page cs h in
        absurd (omega (arith, none_new, long, all, some))

-- ---- the body is marked

kept_inside : (v w : Bool) → (if v then (if w then marks.Nothing else marks.Children) else marks.Content) ≡ marks.Nothing → v ≡ true
kept_inside true w e = refl
kept_inside false w e = absurd (cc)

held_body : (t : Tree) → (label t).kind ≡ kind.Body → held t ≡ opened (children t)
held_body (tree l ts) e = ap (λ (k : Kind). if has_inside k then from_blocks ts else opened ts) e

held_opened : (t : Tree) → opened (children t) ≡ children (without_sections t)
held_opened (tree l ts) = refl

abbrev free_body : Label → Label → Coming → Tree
free_body l b cs = tree (record b { kind = kind.Body; id = 0; attrs = l.attrs; mw = l.mw }) (sent_children cs)

body_mark : (t : Tree) (l b : Label) (cs : Coming) → (label t).kind ≡ kind.Body → HasBareSections t → without_sections t ≡ body_before l cs
    → have_frame (page_children cs) ≡ false → AllStay cs → Own cs → 1 ≤ comers cs + goers cs
    → mark_of (page_of t) (own_body l cs) (page_of t 0) ≡ marks.Nothing → mark_of (page_of t) (free_body l b cs) (page_of t 0) ≡ marks.Children
body_mark t l b cs k bare w f h o some e =
    let page : Page = page_of t in
    let root = found_root t bare.root in
    let inside_is : same_inside t (own_body l cs) ≡ true =
    kept_inside (same_inside t (own_body l cs)) (same_children page t (own_body l cs)) (sym (ap (mark_of page (own_body l cs)) root) ∙ e) in
    let there : held t ≡ page_children cs = held_body t k ∙ held_opened t ∙ ap children w in
    let here : opened (sent_children cs) ≡ sent_children cs = bare_root (body_sent l b cs) (one_body l b cs h f).alone in
    ap (mark_of page (free_body l b cs)) root
    ∙ ap (λ (c : Bool). if c then (if same_children page t (free_body l b cs) then marks.Nothing else marks.Children) else marks.Content) inside_is
    ∙ ap (λ (ts : Trees). if bytes_eq (numbers ts) (numbers_in page 0 (opened (sent_children cs))) then marks.Nothing else marks.Children) there
    ∙ ap (λ (us : Trees). if bytes_eq (numbers (page_children cs)) (numbers_in page 0 us) then marks.Nothing else marks.Children) here
    ∙ ap (λ (c : Bool). if c then marks.Nothing else marks.Children) (differ page cs h o some)

told_by_difference : (t : Tree) (l b : Label) (cs : Coming) → (label t).kind ≡ kind.Body → InPreorder t → HasBareSections t
    → without_sections t ≡ body_before l cs → have_frame (page_children cs) ≡ false → AllStay cs → Own cs → 1 ≤ comers cs + goers cs
    → remarked t (free_body l b cs) ≡ body_sent l b cs
unfolding remarked
told_by_difference t l b cs k pre bare w f h o some =
    let page : Page = page_of t in
    let own = own_remarked t l cs k pre bare w f h o in
    let T : Mark → Trees → Tree = λ c us. tree (record b { kind = kind.Body; id = 0; attrs = l.attrs; mark = c; mw = l.mw }) us in
    ap (λ (c : Mark). T c (all_remarked page 0 (sent_children cs))) (body_mark t l b cs k bare w f h o some (ap (λ (u : Tree). (label u).mark) own))
    ∙ ap (T marks.Children) (children_remarked page cs h (ap children own))

-- ---- of prose

added_own : (xs : List Addition) (cs : Coming) → Own cs → Own (with_added xs cs)
added_own [] cs h = h
added_own (white x ∷ xs) cs h = added_own xs cs h
added_own (paragraph m x text ∷ xs) cs h = added_own xs cs h

breaks_own : (k : ℕ) (after : List Item) (cs : Coming) → Own cs → Own (with_breaks k after cs)
breaks_own zero after cs h = h
breaks_own (suc k) after cs h = ((λ e. absurd (cc)), h)

rest_own : (k m : ℕ) (after : List Item) (cs : List PassageChange) (ts : List ItemTree) → AreOwn cs (after_breaks k (blocks_of m after (separator k ++ ts)))
    → AreOwn cs (blocks_of (number_after k m after) (items_after k after) ts)
unfolding label_at
rest_own zero m after cs ts h = h
rest_own (suc k) m after cs ts h = h

all_own : (n : ℕ) (before : List Item) (cs : List PassageChange) → 1 ≤ n → AreOwn cs (blocks_from n before (passages_before cs)) → Own (coming_of n before cs)
unfolding label_at
all_own n before [] le h = tt
all_own n before (stays p u xs ∷ cs) le h =
    let k : ℕ = p.breaks in
    let m : ℕ = number_past n before p in
    let after : List Item = items_past before p in
    let rest : Coming = coming_of (number_after k m after) (items_after k after) cs in (
      h.0,
      added_own xs (with_breaks k after rest) (breaks_own k after rest
          (all_own (number_after k m after) (items_after k after) cs (later n k before p le) (rest_own k m after cs (flat_map leafy (passages_before cs)) h.1))),
    )
all_own n before (goes p ∷ cs) le h =
    let k : ℕ = p.breaks in
    let m : ℕ = number_past n before p in
    let after : List Item = items_past before p in
    let rest : Coming = coming_of (number_after k m after) (items_after k after) cs in
    let some : n ≢ 0 = omega (arith, le) in (
      (λ e. some),
      breaks_own k after rest
          (all_own (number_after k m after) (items_after k after) cs (later n k before p le) (rest_own k m after cs (flat_map leafy (passages_before cs)) h)),
    )

-- how many come and go
added_comers : (xs : List Addition) (cs : Coming) → SomeComes (new_texts xs) → 1 ≤ comers (with_added xs cs)
unfolding comers
added_comers [] cs h = absurd h
added_comers (white x ∷ xs) cs h = added_comers xs cs h
added_comers (paragraph m x text ∷ xs) cs h = omega arith

added_more : (xs : List Addition) (cs : Coming) → 1 ≤ comers cs + goers cs → 1 ≤ comers (with_added xs cs) + goers (with_added xs cs)
unfolding comers goers
added_more [] cs h = h
added_more (white x ∷ xs) cs h = added_more xs cs h
added_more (paragraph m x text ∷ xs) cs h = omega arith

breaks_more : (k : ℕ) (after : List Item) (cs : Coming) → 1 ≤ comers cs + goers cs → 1 ≤ comers (with_breaks k after cs) + goers (with_breaks k after cs)
unfolding comers goers
breaks_more zero after cs h = h
breaks_more (suc k) after cs h = h

some_change : (n : ℕ) (before : List Item) (cs : List PassageChange) → SomeChanges cs → 1 ≤ comers (coming_of n before cs) + goers (coming_of n before cs)
unfolding comers goers
some_change n before [] h = absurd h
some_change n before (stays p u xs ∷ cs) (inl h) =
    let k : ℕ = p.breaks in
    let m : ℕ = number_past n before p in
    let after : List Item = items_past before p in
    let a = added_comers xs (with_breaks k after (coming_of (number_after k m after) (items_after k after) cs)) h in
    omega (arith, a)
some_change n before (stays p u xs ∷ cs) (inr h) =
    let k : ℕ = p.breaks in
    let m : ℕ = number_past n before p in
    let after : List Item = items_past before p in
    let rest : Coming = coming_of (number_after k m after) (items_after k after) cs in
    added_more xs (with_breaks k after rest) (breaks_more k after rest (some_change (number_after k m after) (items_after k after) cs h))
some_change n before (goes p ∷ cs) h = omega arith

whole_change : (c : ProseChange) → SomeComes (new_texts c.first) ⊎ SomeChanges c.changes → 1 ≤ comers (whole_coming c) + goers (whole_coming c)
whole_change c (inl h) = let a = added_comers c.first (coming_of 1 [] c.changes) h in omega (arith, a)
whole_change c (inr h) = added_more c.first (coming_of 1 [] c.changes) (some_change 1 [] c.changes h)

own_so : (c : ProseChange) → IsUnmarkedChange c → AreOwn c.changes (blocks_from 1 [] (passages_before c.changes))
own_so c h =
    let ps : List Passage = passages_before c.changes in
    subst (λ t. AreOwn c.changes (children t)) (prose_blocks ps (prose_written ps h.change.are_prose)) h.own

free_is : (b : Label) (c : ProseChange) → unmarked_change b c ≡ free_body (label_of c) b (whole_coming c)
free_is b c = ap (λ (us : Trees). tree (record b { kind = kind.Body; id = 0; attrs = []; mw = None }) us) (sym (whole_sent c))

marks_are : (pages : Pages) (c : ProseChange) (b : Label) → IsUnmarkedChange c
    → remarked (page_tree pages (prose (passages_before c.changes))) (unmarked_change b c) ≡ changed_prose b c
marks_are pages c b h =
    let ps : List Passage = passages_before c.changes in
    let page : List ℕ = prose ps in
    let t : Tree = page_tree pages page in
    let cs : Coming = whole_coming c in
    let u : IsUtf8 page = prose_utf8 ps h.change.are_prose in
    let free = prose_unrefused pages ps h.change.are_prose in
    let whole : without_sections t ≡ body_before (label_of c) cs = page_opened pages page u free ∙ opened_is pages c h.change in
    ap (remarked t) (free_is b c)
    ∙ told_by_difference t (label_of c) b cs (kind_opened t ∙ ap (λ (o : Tree). (label o).kind) whole)
    (page_numbered pages page) (page_bare pages page u free) whole
    (ap have_frame (whole_page c) ∙ unframed ps h.change.are_prose) (whole_stay c (stay_so c h.change))
    (added_own c.first (coming_of 1 [] c.changes) (all_own 1 [] c.changes (omega arith) (own_so c h)))
    (whole_change c h.some)
    ∙ sym (sent_is b c)

pub unmarked_done : (pages : Pages) (c : ProseChange) (stands : Option (List ℕ)) (input : List ℕ) (b : Label) (unsourced : Option ℕ) → IsUnmarkedChange c
    → stands ≡ Some (prose (passages_before c.changes)) → length (prose (passages_before c.changes)) ≤ PAGE_BYTES
    → length (prose (passages_changed c)) ≤ PAGE_BYTES → length input ≤ HTML_BYTES → read input ≡ as_page (unmarked_change b c) unsourced
    → DoneByEdit pages stands input
unmarked_done pages c stands input b unsourced h found short le small is =
    let page : List ℕ = prose (passages_before c.changes) in
    let made : EditIsDone pages page (as_page (unmarked_change b c) unsourced) =
    (prose (passages_changed c), ap (edit_to pages page) (marks_are pages c b h) ∙ takes_changes pages c b h.change le) in
    record {
      page = page;
      found = found;
      text = prose_text (passages_before c.changes) h.change.are_prose short;
      within = small;
      done = subst (EditIsDone pages page) (sym is) made;
    }
