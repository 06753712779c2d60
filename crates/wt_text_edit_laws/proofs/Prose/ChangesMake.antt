-- The new page of prose in which paragraphs come and go, slice by slice.
use Rattle.std.proofs.Common.{arith, ◌≡◌, ℕ, zero, suc, ◌+◌, ◌≤◌, Bool, true, false, List, [], ◌∷◌, ◌++◌, length, drop, refl, sym, ap, ◌∙◌, subst, append_assoc, append-nil, length-append}
use Rattle.std.specs.Prelude.{◌||◌, replicate}
use Rattle.std.proofs.lemmas.Grind.{flat_map-append}
use Rattle.std.proofs.lemmas.List.{drop_all}
use Rattle.wt_span.specs.Characters as byte
use Rattle.wt_tree.specs.Tiling.{end_of}
use Rattle.wt_tree.specs.Tree.{Tree, label}
use Rattle.wt_span.specs.Items.{Item, source, sources}
use Rattle.wt_checks.specs.Places.{Page}
use Rattle.wt_expand.specs.PageItems.{page_items}
use Rattle.wt_annotated.specs.Labels.{width}
use Rattle.wt_link_spelling.specs.Spelling.{block_spelling}
use Rattle.wt_slices.specs.declared.body.Front.{Front}
use Rattle.wt_slices.specs.BodySlices.{before_new, for_removed, tail, body_slices}
use Rattle.wt_slices.specs.ListSlices.{at_place}
use Rattle.wt_slices.specs.Steps.{Step}
use Rattle.wt_splice.specs.Splice.{Change, between, spliced_from}
use Rattle.wt_typed_blocks.specs.Coming.{Coming, new_paragraph, AllStay, steps_of}
use Rattle.wt_typed_blocks.proofs.EditedSlices.{Same}
use Rattle.wt_typed_blocks.proofs.EditedSpliced.{up_to, Makes, opened_front}
use Rattle.wt_text_edit_laws.proofs.Texts.TypedLeaves.{AreOwn, Leaf}
use Rattle.wt_text_edit_laws.specs.ProsePages.{Passage, prose, AreProse}
use Rattle.wt_text_edit_laws.specs.ProseChanges.{Addition, white, paragraph, PassageChange, stays, goes, passages_before, spelled_new, new_texts, any_stays, one_if}
use Rattle.wt_text_edit_laws.proofs.Prose.BlockFacts.{held_source, behind_width, sep_source}
use Rattle.wt_text_edit_laws.proofs.Prose.ProseFacts.{paragraph_is, own_of}
use Rattle.wt_text_edit_laws.proofs.Prose.ProseTrees.{leaves_of, held, sep_items}
use Rattle.wt_text_edit_laws.proofs.Prose.ChangesListed.{passage_node, breaks_node, number_past, items_past, number_after, items_after, with_breaks, with_added, coming_of, stay_added, stay_behind}
use Rattle.wt_text_edit_laws.proofs.Prose.ChangesSteps.{or_true, broken, Apart, apart_of, steps_after, parted, tails, tail_of, tails_added, new_spelled, no_slices}

-- ---- one slice

-- something new at a place
insert : (page front rest by new : List ℕ) (cs : List Change) → page ≡ front ++ rest → Makes page cs front new
    → Makes page (at_place (length front) by ∷ cs) front (by ++ new)
insert page front rest by new cs is k = λ from le.
    let end : length front ≤ length front = omega arith in
    ap (λ (xs : List ℕ). xs ++ (by ++ spliced_from page (length front) cs)) (ap (between from (length front)) is ∙ up_to from front rest le)
    ∙ ap (λ (xs : List ℕ). drop from front ++ (by ++ xs)) (k (length front) end ∙ ap (λ (xs : List ℕ). xs ++ new) (drop_all (length front) front end))

-- something that goes
cut_out : (page front q rest new : List ℕ) (cs : List Change) → page ≡ front ++ (q ++ rest) → Makes page cs (front ++ q) new
    → Makes page (record { start = length front; end = length (front ++ q); by = [] } ∷ cs) front new
cut_out page front q rest new cs is k = λ from le.
    let n : ℕ = length (front ++ q) in
    let end : n ≤ n = omega arith in
    ap (λ (xs : List ℕ). xs ++ spliced_from page n cs) (ap (between from (length front)) is ∙ up_to from front (q ++ rest) le)
    ∙ ap (λ (xs : List ℕ). drop from front ++ xs) (k n end ∙ ap (λ (xs : List ℕ). xs ++ new) (drop_all n (front ++ q) end))

nothing : (page front : List ℕ) → page ≡ front ++ [] → Makes page [] front []
nothing page front is = λ from le.
    ap (drop from) (is ∙ append-nil front) ∙ sym (append-nil (drop from front))

-- ---- where the walk is

abbrev pub front_at : ℕ → Bool → Bool → Front
front_at n s d = record { at = n; is_start = s; is_parted = d }

-- what the steps from here on make of the page, after this front of it
abbrev pub StepsMake : Same → Page → List ℕ → Front → List Step → List ℕ → List ℕ → Type 0
StepsMake same tree page f ss front new = Makes page (body_slices same tree f ss) front new

past_sources : (before : List Item) (p : Passage) → AreOwn (page_items p.paragraph) → sources (items_past before p) ≡ sources before ++ p.paragraph
past_sources before p own =
    let ls : List Leaf = leaves_of p in
    flat_map-append source before (held ls ++ []) ∙ ap (λ (bs : List ℕ). sources before ++ bs) (held_source ls ∙ paragraph_is p own)

past_end : (n : ℕ) (before : List Item) (p : Passage) → AreOwn (page_items p.paragraph)
    → end_of (label (passage_node n before p)).ranges ≡ length (sources before ++ p.paragraph)
past_end n before p own =
    let ls : List Leaf = leaves_of p in
    ap (λ (bs : List ℕ). width before + length bs) (held_source ls ∙ paragraph_is p own) ∙ sym (length-append (sources before) p.paragraph)

after_sources : (k : ℕ) (after : List Item) → sources (items_after (suc k) after) ≡ sources after ++ replicate (suc k) 10
after_sources k after =
    flat_map-append source after (sep_items (suc k) ++ []) ∙ ap (λ (bs : List ℕ). sources after ++ bs) (sep_source (suc k))

after_end : (k : ℕ) (after : List Item) → end_of (label (breaks_node (suc k) after)).ranges ≡ length (sources (items_after (suc k) after))
after_end k after =
    let own : List Item = sep_items (suc k) ++ [] in
    sym (behind_width after own (sources own) refl)

-- ---- new paragraphs

-- Before so many line breaks and what follows: two line breaks before each, but not at the page's start.
abbrev pub added_text : Bool → ℕ → List (List ℕ) → List ℕ
added_text s n [] = []
added_text s n (text ∷ texts) = before_new s ++ (spelled_new text ++ (tail_of texts n ++ added_text false n texts))

four_joined : (a b c d e : List ℕ) → (a ++ (b ++ c)) ++ (d ++ e) ≡ (a ++ (b ++ (c ++ d))) ++ e
four_joined a b c d e =
    append_assoc a (b ++ c) (d ++ e)
    ∙ ap (λ (xs : List ℕ). a ++ xs) (append_assoc b c (d ++ e) ∙ ap (λ (xs : List ℕ). b ++ xs) (sym (append_assoc c d e)) ∙ sym (append_assoc b (c ++ d) e))
    ∙ sym (append_assoc a (b ++ (c ++ d)) e)

pub added_make : (same : Same) (tree : Page) (page front rest new : List ℕ) (cs : Coming) (n : ℕ) (d : Bool) (xs : List Addition) (s : Bool) → page ≡ front ++ rest
    → ((r : Bool) → tail (front_at (length front) r d) (steps_of cs) ≡ replicate n 10)
    → ((r : Bool) → StepsMake same tree page (front_at (length front) r d) (steps_of cs) front new)
    → StepsMake same tree page (front_at (length front) s d) (steps_of (with_added xs cs)) front (added_text s n (new_texts xs) ++ new)
added_make same tree page front rest new cs n d [] s is t k = k s
added_make same tree page front rest new cs n d (white x ∷ xs) s is t k = added_make same tree page front rest new cs n d xs s is t k
added_make same tree page front rest new cs n d (paragraph m x text ∷ xs) s is t k =
    let f : Front = front_at (length front) s d in
    let others : List Step = steps_of (with_added xs cs) in
    let texts : List (List ℕ) = new_texts xs in
    let behind : List ℕ = added_text false n texts ++ new in
    let changes : List Change = body_slices same tree (front_at (length front) false d) others in
    let later : Makes page changes front behind = added_make same tree page front rest new cs n d xs false is t k in
    let written : before_new s ++ (block_spelling same (new_paragraph m x text) byte.asterisk ++ tail f others)
    ≡ before_new s ++ (spelled_new text ++ tail_of texts n) =
    ap (λ (bs : List ℕ). before_new s ++ (bs ++ tail f others)) (new_spelled same m x text)
    ∙ ap (λ (bs : List ℕ). before_new s ++ (spelled_new text ++ bs)) (tails_added f xs cs n (t s)) in
    let all : Makes page (at_place (length front) (before_new s ++ (spelled_new text ++ tail_of texts n)) ∷ changes) front
    ((before_new s ++ (spelled_new text ++ tail_of texts n)) ++ behind) =
    insert page front rest (before_new s ++ (spelled_new text ++ tail_of texts n)) behind changes is later in
    subst (λ (bs : List ℕ). Makes page (at_place (length front) (before_new s ++ (block_spelling same (new_paragraph m x text) byte.asterisk ++ tail f others)) ∷ changes) front bs)
    (four_joined (before_new s) (spelled_new text) (tail_of texts n) (added_text false n texts) new)
    (subst (λ (by : List ℕ). Makes page (at_place (length front) by ∷ changes) front ((before_new s ++ (spelled_new text ++ tail_of texts n)) ++ behind))
    (sym written) all)

-- ---- line breaks after a paragraph

abbrev pub text_of : List PassageChange → List ℕ
text_of [] = []
text_of (stays p u xs ∷ cs) = p.paragraph ++ (added_text false (one_if (any_stays cs)) (new_texts xs) ++ (replicate p.breaks 10 ++ text_of cs))
text_of (goes p ∷ cs) = replicate p.breaks 10 ++ text_of cs

-- what the rest makes, from any place on
abbrev pub RestMakes : Same → Page → List ℕ → List PassageChange → Type 0
RestMakes same tree page cs = (n : ℕ) (before : List Item) (s : Bool) → AllStay (coming_of n before cs) → page ≡ sources before ++ prose (passages_before cs)
    → StepsMake same tree page (front_at (length (sources before)) s true) (steps_of (coming_of n before cs)) (sources before) (text_of cs)

after_make : (same : Same) (tree : Page) (page : List ℕ) (k m : ℕ) (after : List Item) (cs : List PassageChange) (s d : Bool) → Apart k cs
    → RestMakes same tree page cs → AllStay (coming_of (number_after k m after) (items_after k after) cs)
    → page ≡ sources after ++ (replicate k 10 ++ prose (passages_before cs))
    → StepsMake same tree page (front_at (length (sources after)) s d) (steps_after k m after cs) (sources after) (replicate k 10 ++ text_of cs)
after_make same tree page zero m after [] s d h g stay is = nothing page (sources after) is
after_make same tree page zero m after (c ∷ cs) s d h g stay is = absurd h
after_make same tree page (suc k) m after cs s d h g stay is =
    let n : ℕ = number_after (suc k) m after in
    let before : List Item = items_after (suc k) after in
    let ss : List Step = steps_of (coming_of n before cs) in
    let bs : List ℕ = replicate (suc k) 10 in
    let e : sources before ≡ sources after ++ bs = after_sources k after in
    let now : page ≡ sources before ++ prose (passages_before cs) =
    is ∙ sym (append_assoc (sources after) bs (prose (passages_before cs))) ∙ ap (λ (xs : List ℕ). xs ++ prose (passages_before cs)) (sym e) in
    let later : StepsMake same tree page (front_at (length (sources before)) false true) ss (sources before) (text_of cs) = g n before false stay now in
    let there : StepsMake same tree page (front_at (length (sources before)) false true) ss (sources after) (bs ++ text_of cs) =
    opened_front (sources after) bs page (body_slices same tree (front_at (length (sources before)) false true) ss) (text_of cs)
    (subst (λ (xs : List ℕ). StepsMake same tree page (front_at (length (sources before)) false true) ss xs (text_of cs)) e later) in
    subst (λ (b : Bool). StepsMake same tree page (front_at (end_of (label (breaks_node (suc k) after)).ranges) false b) ss (sources after) (bs ++ text_of cs))
    (sym (ap (λ (b : Bool). d || b) (broken k after) ∙ or_true d))
    (subst (λ (a : ℕ). StepsMake same tree page (front_at a false true) ss (sources after) (bs ++ text_of cs)) (sym (after_end k after)) there)

-- ---- a paragraph that goes, and one that stays

own_first : (p : Passage) (ps : List Passage) → AreProse (p ∷ ps) → AreOwn (page_items p.paragraph)
own_first p [] h = own_of p.paragraph h
own_first p (q ∷ ps) h = own_of p.paragraph h.0

abbrev pub AreRest : List PassageChange → Type 0
AreRest [] = Unit {0}
AreRest (c ∷ cs) = AreProse (passages_before (c ∷ cs))

pub rest_of : (p : Passage) (cs : List PassageChange) → AreProse (p ∷ passages_before cs) → AreRest cs
rest_of p [] h = tt
rest_of p (c ∷ cs) h = h.2

-- by the source of a passage
by_passage : (front q bs rest page : List ℕ) → page ≡ front ++ ((q ++ bs) ++ rest) → page ≡ (front ++ q) ++ (bs ++ rest)
by_passage front q bs rest page is =
    is ∙ ap (λ (xs : List ℕ). front ++ xs) (append_assoc q bs rest) ∙ sym (append_assoc front q (bs ++ rest))

-- behind a paragraph, from the place where it ends on
behind_makes : (same : Same) (tree : Page) (page : List ℕ) (n : ℕ) (before : List Item) (p : Passage) (ss : List Step) (new : List ℕ)
    → AreOwn (page_items p.paragraph) → StepsMake same tree page (front_at (length (sources (items_past before p))) false false) ss (sources (items_past before p)) new
    → StepsMake same tree page (front_at (end_of (label (passage_node n before p)).ranges) false false) ss (sources before ++ p.paragraph) new
behind_makes same tree page n before p ss new own h =
    let front : List ℕ = sources before ++ p.paragraph in
    let there : StepsMake same tree page (front_at (length front) false false) ss front new =
    subst (λ (xs : List ℕ). StepsMake same tree page (front_at (length xs) false false) ss xs new) (past_sources before p own) h in
    subst (λ (a : ℕ). StepsMake same tree page (front_at a false false) ss front new) (sym (past_end n before p own)) there

goes_make : (same : Same) (tree : Page) (page : List ℕ) (n : ℕ) (before : List Item) (p : Passage) (cs : List PassageChange) (s : Bool)
    → AreProse (p ∷ passages_before cs) → RestMakes same tree page cs → AllStay (coming_of n before (goes p ∷ cs))
    → page ≡ sources before ++ prose (p ∷ passages_before cs)
    → StepsMake same tree page (front_at (length (sources before)) s true) (steps_of (coming_of n before (goes p ∷ cs))) (sources before) (text_of (goes p ∷ cs))
goes_make same tree page n before p cs s h g stay is =
    let k : ℕ = p.breaks in
    let m : ℕ = number_past n before p in
    let after : List Item = items_past before p in
    let ss : List Step = steps_after k m after cs in
    let own : AreOwn (page_items p.paragraph) = own_first p (passages_before cs) h in
    let apart : Apart k cs = apart_of p cs h in
    let new : List ℕ = replicate k 10 ++ text_of cs in
    let q : List ℕ = p.paragraph in
    let rest : List ℕ = replicate k 10 ++ prose (passages_before cs) in
    let now : page ≡ (sources before ++ q) ++ rest = by_passage (sources before) q (replicate k 10) (prose (passages_before cs)) page is in
    let end : ℕ = end_of (label (passage_node n before p)).ranges in
    let changes : List Change = body_slices same tree (front_at end false false) ss in
    let stay_there : AllStay (coming_of (number_after k m after) (items_after k after) cs) =
    stay_behind k after (coming_of (number_after k m after) (items_after k after) cs) stay in
    let later : StepsMake same tree page (front_at (length (sources after)) false false) ss (sources after) new =
    after_make same tree page k m after cs false false apart g stay_there (now ∙ ap (λ (xs : List ℕ). xs ++ rest) (sym (past_sources before p own))) in
    let behind : Makes page changes (sources before ++ q) new = behind_makes same tree page n before p ss new own later in
    let cut : Makes page (record { start = length (sources before); end = length (sources before ++ q); by = [] } ∷ changes) (sources before) new =
    cut_out page (sources before) q rest new changes (now ∙ append_assoc (sources before) q rest) behind in
    subst (λ (b : Bool). Makes page (record { start = length (sources before); end = end; by = for_removed b } ∷ changes) (sources before) new)
    (sym (parted k m after cs apart))
    (subst (λ (e : ℕ). Makes page (record { start = length (sources before); end = e; by = [] } ∷ changes) (sources before) new) (sym (past_end n before p own)) cut)

stays_make : (same : Same) (tree : Page) (page : List ℕ) (n : ℕ) (before : List Item) (p : Passage) (u : Tree) (xs : List Addition) (cs : List PassageChange) (s : Bool)
    → AreProse (p ∷ passages_before cs) → RestMakes same tree page cs → AllStay (coming_of n before (stays p u xs ∷ cs))
    → page ≡ sources before ++ prose (p ∷ passages_before cs)
    → StepsMake same tree page (front_at (length (sources before)) s true) (steps_of (coming_of n before (stays p u xs ∷ cs))) (sources before) (text_of (stays p u xs ∷ cs))
stays_make same tree page n before p u xs cs s h g stay is =
    let k : ℕ = p.breaks in
    let m : ℕ = number_past n before p in
    let after : List Item = items_past before p in
    let others : Coming = coming_of (number_after k m after) (items_after k after) cs in
    let there : Coming = with_breaks k after others in
    let own : AreOwn (page_items p.paragraph) = own_first p (passages_before cs) h in
    let apart : Apart k cs = apart_of p cs h in
    let new : List ℕ = replicate k 10 ++ text_of cs in
    let q : List ℕ = p.paragraph in
    let rest : List ℕ = replicate k 10 ++ prose (passages_before cs) in
    let any : ℕ = one_if (any_stays cs) in
    let added : List ℕ = added_text false any (new_texts xs) ++ new in
    let ss : List Step = steps_of (with_added xs there) in
    let end : ℕ = end_of (label (passage_node n before p)).ranges in
    let now : page ≡ (sources before ++ q) ++ rest = by_passage (sources before) q (replicate k 10) (prose (passages_before cs)) page is in
    let here : page ≡ sources after ++ rest = now ∙ ap (λ (bs : List ℕ). bs ++ rest) (sym (past_sources before p own)) in
    let stay_there : AllStay others = stay_behind k after others (stay_added xs there stay.1) in
    let later : StepsMake same tree page (front_at (length (sources after)) false false) ss (sources after) added =
    added_make same tree page (sources after) rest new there any false xs false here
    (λ r. tails k m after cs (front_at (length (sources after)) r false) apart)
    (λ r. after_make same tree page k m after cs r false apart g stay_there here) in
    let behind : Makes page (body_slices same tree (front_at end false false) ss) (sources before ++ q) added = behind_makes same tree page n before p ss added own later in
    let all : Makes page (body_slices same tree (front_at end false false) ss) (sources before) (q ++ added) =
    opened_front (sources before) q page (body_slices same tree (front_at end false false) ss) added behind in
    subst (λ (ds : List Change). Makes page (ds ++ body_slices same tree (front_at end false false) ss) (sources before) (q ++ added))
    (sym (no_slices same tree (passage_node n before p) u stay.0.as_is)) all

-- ---- all of them

pub changes_make : (same : Same) (tree : Page) (page : List ℕ) (cs : List PassageChange) → AreRest cs → RestMakes same tree page cs
changes_make same tree page [] h n before s stay is = nothing page (sources before) is
changes_make same tree page (stays p u xs ∷ cs) h n before s stay is =
    stays_make same tree page n before p u xs cs s h (changes_make same tree page cs (rest_of p cs h)) stay is
changes_make same tree page (goes p ∷ cs) h n before s stay is =
    goes_make same tree page n before p cs s h (changes_make same tree page cs (rest_of p cs h)) stay is
