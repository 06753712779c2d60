-- The new page of prose in which paragraphs come and go is prose, and shows what was sent.
use Rattle.std.proofs.Common.{arith, ◌≡◌, ℕ, zero, suc, ◌+◌, ◌≤◌, true, false, List, [], ◌∷◌, ◌++◌, refl, sym, ap, ◌∙◌, append_assoc, append-nil}
use Rattle.std.specs.Prelude.{None, replicate}
use Rattle.std.specs.List.{flat_map, AllByRecursion}
use Rattle.std.specs.Str.{IsUtf8}
use Rattle.wt_tree.specs.declared.kind.Kind.TheVariants as kind
use Rattle.wt_tree.specs.declared.edit_shape.Place.TheVariants as place
use Rattle.wt_tree.specs.Plain.{element, Plains, ended, along, plain_before}
use Rattle.wt_tree.specs.Tree.{Tree}
use Rattle.wt_span.specs.Items.{Item}
use Rattle.wt_guards.specs.Guards.{Setting}
use Rattle.wt_inline.specs.Carried.{shown_item}
use Rattle.wt_expand.specs.PageItems.{page_items}
use Rattle.wt_annotated.specs.Labels.{label_at}
use Rattle.wt_typed_blocks.specs.Coming.{Coming, coming_before}
use Rattle.wt_text_edit_laws.specs.TypedPages.{IsTypedPage}
use Rattle.wt_text_edit_laws.specs.ProsePages.{Passage, prose, AreProse}
use Rattle.wt_text_edit_laws.specs.ProseChanges.{Addition, white, paragraph, PassageChange, stays, goes, ProseChange, passages_before, spelled_new, new_texts, any_stays, one_if, breaks_left, with_new, passages_after, breaks_before, new_first, passages_changed, TakeTexts, BeginsSo, IsProseChange}
use Rattle.wt_text_edit_laws.proofs.Texts.TypedItems.{typed_shows}
use Rattle.wt_text_edit_laws.proofs.Texts.TypedLeaves.{AreOwn, leaves_shown}
use Rattle.wt_text_edit_laws.proofs.Texts.TypedShown.{leaves_show}
use Rattle.wt_text_edit_laws.proofs.Prose.BlockFacts.{paragraph_shown}
use Rattle.wt_text_edit_laws.proofs.Prose.ProseFacts.{own_of, prose_shows}
use Rattle.wt_text_edit_laws.proofs.Prose.ProseTrees.{leaves_of}
use Rattle.wt_text_edit_laws.proofs.Prose.ChangesListed.{passage_node, number_past, items_past, number_after, items_after, with_breaks, with_added, coming_of, whole_coming}
use Rattle.wt_text_edit_laws.proofs.Prose.ChangesSteps.{tail_first, tail_of}
use Rattle.wt_text_edit_laws.proofs.Prose.ChangesMake.{added_text, text_of, AreRest, rest_of}

-- ---- its source

breaks_joined : (a b : ℕ) → replicate {A = ℕ} (a + b) 10 ≡ replicate a 10 ++ replicate b 10
breaks_joined zero b =
    let e : zero + b ≡ b = omega arith in
    ap (λ (n : ℕ). replicate {A = ℕ} n 10) e
breaks_joined (suc a) b =
    let e : suc a + b ≡ suc (a + b) = omega arith in
    ap (λ (n : ℕ). replicate {A = ℕ} n 10) e ∙ ap (λ (bs : List ℕ). 10 ∷ bs) (breaks_joined a b)

-- a paragraph, its line breaks and what follows
one_passage : (q bs rest : List ℕ) → q ++ (bs ++ rest) ≡ (q ++ bs) ++ rest
one_passage q bs rest = sym (append_assoc q bs rest)

-- two line breaks behind a paragraph, and a new one
new_behind : (q bs text tail more rest : List ℕ) → q ++ ((bs ++ (text ++ (tail ++ more))) ++ rest) ≡ (q ++ bs) ++ (text ++ ((tail ++ more) ++ rest))
new_behind q bs text tail more rest =
    ap (λ (xs : List ℕ). q ++ xs) (append_assoc bs (text ++ (tail ++ more)) rest ∙ ap (λ (xs : List ℕ). bs ++ xs) (append_assoc text (tail ++ more) rest))
    ∙ sym (append_assoc q bs (text ++ ((tail ++ more) ++ rest)))

-- no new one is behind it
last_text : (q : List ℕ) (n b : ℕ) (rest : List ℕ) → q ++ ((replicate n 10 ++ []) ++ (replicate b 10 ++ rest)) ≡ (q ++ replicate (n + b) 10) ++ rest
last_text q n b rest =
    ap (λ (xs : List ℕ). q ++ (xs ++ (replicate b 10 ++ rest))) (append-nil (replicate n 10))
    ∙ ap (λ (xs : List ℕ). q ++ xs) (one_passage (replicate n 10) (replicate b 10) rest ∙ ap (λ (xs : List ℕ). xs ++ rest) (sym (breaks_joined n b)))
    ∙ one_passage q (replicate (n + b) 10) rest

-- behind a new paragraph
new_text : (q : List ℕ) (texts : List (List ℕ)) (n b : ℕ) (ps : List Passage)
    → q ++ ((tail_of texts n ++ added_text false n texts) ++ (replicate b 10 ++ prose ps)) ≡ prose (with_new q texts (n + b) (n + b) ++ ps)
new_text q [] n b ps = last_text q n b (prose ps)
new_text q (text ∷ texts) n b ps =
    new_behind q (replicate 2 10) (spelled_new text) (tail_of texts n) (added_text false n texts) (replicate b 10 ++ prose ps)
    ∙ ap (λ (xs : List ℕ). (q ++ replicate 2 10) ++ xs) (new_text (spelled_new text) texts n b ps)

-- behind a paragraph that stays
kept_text : (q : List ℕ) (texts : List (List ℕ)) (n b : ℕ) (ps : List Passage)
    → q ++ (added_text false n texts ++ (replicate b 10 ++ prose ps)) ≡ prose (with_new q texts b (n + b) ++ ps)
kept_text q [] n b ps = one_passage q (replicate b 10) (prose ps)
kept_text q (text ∷ texts) n b ps =
    new_behind q (replicate 2 10) (spelled_new text) (tail_of texts n) (added_text false n texts) (replicate b 10 ++ prose ps)
    ∙ ap (λ (xs : List ℕ). (q ++ replicate 2 10) ++ xs) (new_text (spelled_new text) texts n b ps)

more_breaks : (a b : ℕ) (rest : List ℕ) → replicate a 10 ++ (replicate b 10 ++ rest) ≡ replicate (a + b) 10 ++ rest
more_breaks a b rest = one_passage (replicate a 10) (replicate b 10) rest ∙ ap (λ (xs : List ℕ). xs ++ rest) (sym (breaks_joined a b))

text_is : (cs : List PassageChange) → text_of cs ≡ replicate (breaks_left cs) 10 ++ prose (passages_after cs)
text_is [] = refl
text_is (stays p u xs ∷ cs) =
    let n : ℕ = one_if (any_stays cs) in
    ap (λ (bs : List ℕ). p.paragraph ++ (added_text false n (new_texts xs) ++ (replicate p.breaks 10 ++ bs))) (text_is cs)
    ∙ ap (λ (bs : List ℕ). p.paragraph ++ (added_text false n (new_texts xs) ++ bs)) (more_breaks p.breaks (breaks_left cs) (prose (passages_after cs)))
    ∙ kept_text p.paragraph (new_texts xs) n (p.breaks + breaks_left cs) (passages_after cs)
text_is (goes p ∷ cs) =
    ap (λ (bs : List ℕ). replicate p.breaks 10 ++ bs) (text_is cs) ∙ more_breaks p.breaks (breaks_left cs) (prose (passages_after cs))

first_breaks : (cs : List PassageChange) → tail_first cs + breaks_left cs ≡ breaks_before cs
first_breaks [] = omega arith
first_breaks (stays p u xs ∷ cs) = omega arith
first_breaks (goes p ∷ cs) = refl

first_text : (texts : List (List ℕ)) (cs : List PassageChange) → BeginsSo texts cs
    → added_text true (tail_first cs) texts ++ text_of cs ≡ prose (new_first texts cs ++ passages_after cs)
first_text [] [] h = absurd h
first_text [] (stays p u xs ∷ cs) h = text_is (stays p u xs ∷ cs)
first_text [] (goes p ∷ cs) h = absurd h
first_text (text ∷ texts) cs h =
    let n : ℕ = tail_first cs in
    let q : List ℕ = spelled_new text in
    ap (λ (bs : List ℕ). (q ++ (tail_of texts n ++ added_text false n texts)) ++ bs) (text_is cs)
    ∙ append_assoc q (tail_of texts n ++ added_text false n texts) (replicate (breaks_left cs) 10 ++ prose (passages_after cs))
    ∙ new_text q texts n (breaks_left cs) (passages_after cs)
    ∙ ap (λ (b : ℕ). prose (with_new q texts b b ++ passages_after cs)) (first_breaks cs)

pub whole_text : (c : ProseChange) → IsProseChange c → added_text true (tail_first c.changes) (new_texts c.first) ++ text_of c.changes ≡ prose (passages_changed c)
whole_text c h = first_text (new_texts c.first) c.changes h.begins

-- ---- it is prose

abbrev new_setting : Setting
new_setting = record { within = false; place = place.Paragraph; source = [] }

typed_new : (text : List ℕ) → IsUtf8 text → IsTypedPage (spelled_new text)
typed_new text u = record { setting = new_setting; text = text; utf8 = u; of_block = refl; is = refl }

-- what may follow a paragraph with so many line breaks, whether new ones come between or not
abbrev Follows : ℕ → ℕ → List Passage → Type 0
Follows b m [] = Unit {0}
Follows b m (p ∷ ps) = (2 ≤ b) × (2 ≤ m) × AreProse (p ∷ ps)

behind_new : (b m : ℕ) (ps : List Passage) → Follows b m ps → Follows m m ps
behind_new b m [] h = tt
behind_new b m (p ∷ ps) h = (h.1, h.1, h.2)

with_one : (p : Passage) (ps : List Passage) → IsTypedPage p.paragraph → 2 ≤ p.breaks → AreProse ps → AreProse (p ∷ ps)
with_one p [] h le g = absurd g
with_one p (q ∷ ps) h le g = (h, le, g)

alone_or_more : (q : List ℕ) (b m : ℕ) (ps : List Passage) → IsTypedPage q → Follows b m ps → AreProse (record { paragraph = q; breaks = b } ∷ ps)
alone_or_more q b m [] h f = h
alone_or_more q b m (p ∷ ps) h f = (h, f.0, f.2)

new_prose : (q : List ℕ) (texts : List (List ℕ)) (b m : ℕ) (ps : List Passage) → IsTypedPage q → AllByRecursion IsUtf8 texts → Follows b m ps
    → AreProse (with_new q texts b m ++ ps)
new_prose q [] b m ps h u f = alone_or_more q b m ps h f
new_prose q (text ∷ texts) b m ps h u f =
    let two : 2 ≤ 2 = omega arith in
    with_one (record { paragraph = q; breaks = 2 }) (with_new (spelled_new text) texts m m ++ ps) h two
    (new_prose (spelled_new text) texts m m ps (typed_new text u.0) u.1 (behind_new b m ps f))

follows_so : (b m : ℕ) (ps : List Passage) → 2 ≤ b → 2 ≤ m → AreProse ps → Follows b m ps
follows_so b m [] le more h = absurd h
follows_so b m (p ∷ ps) le more h = (le, more, h)

typed_first : (p : Passage) (ps : List Passage) → AreProse (p ∷ ps) → IsTypedPage p.paragraph
typed_first p [] h = h
typed_first p (q ∷ ps) h = h.0

-- one that stays, before others
stays_prose : (p : Passage) (u : Tree) (xs : List Addition) (cs : List PassageChange) → AreProse (p ∷ passages_before cs) → TakeTexts (stays p u xs ∷ cs)
    → ((b m : ℕ) → 2 ≤ b → 2 ≤ m → Follows b m (passages_after cs)) → AreProse (passages_after (stays p u xs ∷ cs))
stays_prose p u xs [] h t g =
    let left : ℕ = p.breaks + 0 in
    new_prose p.paragraph (new_texts xs) left (0 + left) [] h t.0 tt
stays_prose p u xs (c ∷ cs) h t g =
    let left : ℕ = p.breaks + breaks_left (c ∷ cs) in
    let behind : ℕ = one_if (any_stays (c ∷ cs)) + left in
    let two : 2 ≤ p.breaks = h.1 in
    let le : 2 ≤ left = omega (arith, two) in
    let more : 2 ≤ behind = omega (arith, le) in
    new_prose p.paragraph (new_texts xs) left behind (passages_after (c ∷ cs)) h.0 t.0 (g left behind le more)

-- with those that stay among these
after_follows : (cs : List PassageChange) (b m : ℕ) → AreRest cs → TakeTexts cs → 2 ≤ b → 2 ≤ m → Follows b m (passages_after cs)
after_follows [] b m h t le more = tt
after_follows (stays p u xs ∷ cs) b m h t le more =
    follows_so b m (passages_after (stays p u xs ∷ cs)) le more
    (stays_prose p u xs cs h t (λ a n less least. after_follows cs a n (rest_of p cs h) t.1 less least))
after_follows (goes p ∷ cs) b m h t le more = after_follows cs b m (rest_of p cs h) t le more

after_prose : (p : Passage) (u : Tree) (xs : List Addition) (cs : List PassageChange) → AreProse (p ∷ passages_before cs) → TakeTexts (stays p u xs ∷ cs)
    → AreProse (passages_after (stays p u xs ∷ cs))
after_prose p u xs cs h t = stays_prose p u xs cs h t (λ a n less least. after_follows cs a n (rest_of p cs h) t.1 less least)

-- behind new ones at the page's start
first_follows : (cs : List PassageChange) → AreProse (passages_before cs) → TakeTexts cs → Follows (breaks_before cs) (breaks_before cs) (passages_after cs)
first_follows [] h t = tt
first_follows (stays p u xs ∷ cs) h t =
    let two : 2 ≤ 2 = omega arith in
    follows_so 2 2 (passages_after (stays p u xs ∷ cs)) two two (after_prose p u xs cs h t)
first_follows (goes p ∷ []) h t = tt
first_follows (goes p ∷ c ∷ cs) h t =
    let two : 2 ≤ p.breaks = h.1 in
    let left : ℕ = breaks_left (c ∷ cs) in
    let le : 2 ≤ one_if (any_stays (c ∷ cs)) + (p.breaks + left) = omega (arith, two) in
    after_follows (c ∷ cs) (one_if (any_stays (c ∷ cs)) + (p.breaks + left)) (one_if (any_stays (c ∷ cs)) + (p.breaks + left)) h.2 t le le

first_prose : (texts : List (List ℕ)) (cs : List PassageChange) → AreProse (passages_before cs) → AllByRecursion IsUtf8 texts → TakeTexts cs → BeginsSo texts cs
    → AreProse (new_first texts cs ++ passages_after cs)
first_prose [] [] h u t b = absurd b
first_prose [] (stays p v xs ∷ cs) h u t b = after_prose p v xs cs h t
first_prose [] (goes p ∷ cs) h u t b = absurd b
first_prose (text ∷ texts) cs h u t b =
    new_prose (spelled_new text) texts (breaks_before cs) (breaks_before cs) (passages_after cs) (typed_new text u.0) u.1 (first_follows cs h t)

pub whole_prose : (c : ProseChange) → IsProseChange c → AreProse (passages_changed c)
whole_prose c h = first_prose (new_texts c.first) c.changes h.are_prose h.first_texts h.texts h.begins

-- ---- what was sent shows the same

abbrev own_shown : List ℕ → List ℕ
own_shown q = flat_map shown_item (page_items q)

abbrev texts_before : List (List ℕ) → Plains → Plains
texts_before [] rest = rest
texts_before (text ∷ texts) rest = paragraph_shown text (texts_before texts rest)

new_shows : (q : List ℕ) (texts : List (List ℕ)) (b m : ℕ) (ps : List Passage) → AllByRecursion IsUtf8 texts
    → prose_shows (with_new q texts b m ++ ps) ≡ paragraph_shown (own_shown q) (texts_before texts (prose_shows ps))
new_shows q [] b m ps u = refl
new_shows q (text ∷ texts) b m ps u =
    ap (paragraph_shown (own_shown q))
    (new_shows (spelled_new text) texts m m ps u.1
    ∙ ap (λ (bs : List ℕ). paragraph_shown bs (texts_before texts (prose_shows ps))) (typed_shows new_setting text u.0))

added_shows : (xs : List Addition) (cs : Coming) (rest : Plains) → coming_before (with_added xs cs) rest ≡ texts_before (new_texts xs) (coming_before cs rest)
added_shows [] cs rest = refl
added_shows (white x ∷ xs) cs rest = added_shows xs cs rest
added_shows (paragraph m x text ∷ xs) cs rest = ap (paragraph_shown text) (added_shows xs cs rest)

breaks_show : (k : ℕ) (after : List Item) (cs : Coming) (rest : Plains) → coming_before (with_breaks k after cs) rest ≡ coming_before cs rest
breaks_show zero after cs rest = refl
breaks_show (suc k) after cs rest = refl

-- a paragraph of the page
para_shows : (n : ℕ) (before : List Item) (p : Passage) (rest : Plains) → AreOwn (page_items p.paragraph)
    → plain_before (passage_node n before p) rest ≡ paragraph_shown (own_shown p.paragraph) rest
unfolding label_at
para_shows n before p rest own =
    ap (λ (ps : Plains). along (element (record { kind = kind.Para; attrs = []; mw = None }) ps) rest) (leaves_show (n + 1) (before ++ []) (leaves_of p) ended)
    ∙ ap (λ (bs : List ℕ). paragraph_shown bs rest) (leaves_shown (page_items p.paragraph) own)

changes_show : (cs : List PassageChange) (n : ℕ) (before : List Item) → AreRest cs → TakeTexts cs
    → coming_before (coming_of n before cs) ended ≡ prose_shows (passages_after cs)
changes_show [] n before h t = refl
changes_show (stays p u xs ∷ cs) n before h t =
    let k : ℕ = p.breaks in
    let m : ℕ = number_past n before p in
    let after : List Item = items_past before p in
    let rest : Coming = coming_of (number_after k m after) (items_after k after) cs in
    let left : ℕ = k + breaks_left cs in
    para_shows n before p (coming_before (with_added xs (with_breaks k after rest)) ended) (own_of p.paragraph (typed_first p (passages_before cs) h))
    ∙ ap (paragraph_shown (own_shown p.paragraph))
    (added_shows xs (with_breaks k after rest) ended
    ∙ ap (texts_before (new_texts xs))
    (breaks_show k after rest ended ∙ changes_show cs (number_after k m after) (items_after k after) (rest_of p cs h) t.1))
    ∙ sym (new_shows p.paragraph (new_texts xs) left (one_if (any_stays cs) + left) (passages_after cs) t.0)
changes_show (goes p ∷ cs) n before h t =
    let k : ℕ = p.breaks in
    let m : ℕ = number_past n before p in
    let after : List Item = items_past before p in
    breaks_show k after (coming_of (number_after k m after) (items_after k after) cs) ended
    ∙ changes_show cs (number_after k m after) (items_after k after) (rest_of p cs h) t

first_shows : (texts : List (List ℕ)) (cs : List PassageChange) → AllByRecursion IsUtf8 texts
    → texts_before texts (prose_shows (passages_after cs)) ≡ prose_shows (new_first texts cs ++ passages_after cs)
first_shows [] cs u = refl
first_shows (text ∷ texts) cs u =
    sym (new_shows (spelled_new text) texts (breaks_before cs) (breaks_before cs) (passages_after cs) u.1
    ∙ ap (λ (bs : List ℕ). paragraph_shown bs (texts_before texts (prose_shows (passages_after cs)))) (typed_shows new_setting text u.0))

pub as_rest : (cs : List PassageChange) → AreProse (passages_before cs) → AreRest cs
as_rest [] h = absurd h
as_rest (c ∷ cs) h = h

pub whole_shows : (c : ProseChange) → IsProseChange c → coming_before (whole_coming c) ended ≡ prose_shows (passages_changed c)
whole_shows c h =
    added_shows c.first (coming_of 1 [] c.changes) ended
    ∙ ap (texts_before (new_texts c.first)) (changes_show c.changes 1 [] (as_rest c.changes h.are_prose) h.texts)
    ∙ first_shows (new_texts c.first) c.changes h.first_texts
