-- What holds of all blocks of prose in which texts were typed, and what the new page shows.
use Rattle.std.proofs.Common.{arith, ◌≡◌, ℕ, zero, suc, ◌+◌, ◌-◌, ◌≤◌, false, None, List, [], ◌∷◌, ◌++◌, refl, sym, ap, ◌∙◌, subst, append_assoc}
use Rattle.std.specs.Prelude.{replicate}
use Rattle.std.specs.List.{flat_map}
use Rattle.wt_tree.specs.declared.kind.Kind.TheVariants as kind
use Rattle.wt_tree.specs.Plain.{element, Plains, ended, along, plains_before}
use Rattle.wt_tree.specs.Tree.{Tree}
use Rattle.wt_span.specs.Items.{Item, sources}
use Rattle.wt_tree.specs.declared.edit_shape.Place.TheVariants as place
use Rattle.wt_inline.specs.Carried.{shown_item}
use Rattle.wt_inline.specs.ItemTree.{ItemTree}
use Rattle.wt_isolation.specs.OpenTags.{ends_open}
use Rattle.wt_expand.specs.PageItems.{page_items}
use Rattle.wt_expand.proofs.PageLaws.{page_sources}
use Rattle.wt_annotated.specs.Labels.{label_at}
use Rattle.wt_text_edit_laws.specs.LoneEdits.{typed_in}
use Rattle.wt_text_edit_laws.specs.TypedPages.{IsTypedPage}
use Rattle.wt_text_edit_laws.proofs.Texts.TakesAnyText.{typed_again}
use Rattle.wt_text_edit_laws.proofs.Texts.TypedItems.{typed_shows}
use Rattle.wt_text_edit_laws.proofs.Texts.TypedLeaves.{AreOwn, Leaf, leaves, leaf_shown, leaf_source, leaves_shown, leaves_source, leaves_shut, leaves_para}
use Rattle.wt_text_edit_laws.proofs.Texts.TypedShown.{leaves_show}
use Rattle.wt_text_edit_laws.specs.ProsePages.{Passage, prose, AreProse}
use Rattle.wt_text_edit_laws.specs.ProseTrees.{separator}
use Rattle.wt_text_edit_laws.specs.ProseEdits.{Sending, retyped, kept, PassageEdit, old_passages, new_paragraph, new_passages, for_breaks, all_sendings, IsText, AreTyped}
use Rattle.wt_text_edit_laws.proofs.Prose.ProseTexts.{written}
use Rattle.wt_text_edit_laws.proofs.Prose.ProseTrees.{leaves_of, leafy, blocks_of, number_behind, items_behind, sep_tree}
use Rattle.wt_text_edit_laws.proofs.Prose.BlockFacts.{paragraph_shown, Facts, facts_nothing, facts_sep, facts_kept, facts_retyped, behind_breaks}

-- ---- a paragraph of a page before others

abbrev pub sent_shown : Sending → List ℕ → List ℕ
sent_shown (retyped p t text) source = text
sent_shown (kept u) source = flat_map leaf_shown (leaves (page_items source))

pub paragraph_is : (q : Passage) → AreOwn (page_items q.paragraph) → flat_map leaf_source (leaves_of q) ≡ q.paragraph
paragraph_is q h = leaves_source (page_items q.paragraph) h ∙ page_sources q.paragraph

pub facts_paragraph : (xs : List Item) (n : ℕ) (before : List Item) (q : Passage) (d : Sending) (ds : List Sending) (ts : List ItemTree) (was now : List ℕ) (shown : Plains)
    → 1 ≤ n → ends_open (sources before) ≡ false → AreOwn (page_items q.paragraph)
    → Facts xs (number_behind n before (leaves_para (leaves_of q))) (items_behind before (leaves_para (leaves_of q))) ds ts was now shown
    → Facts xs n before (d ∷ ds) (leaves_para (leaves_of q) ∷ ts) (q.paragraph ++ was) (new_paragraph d q.paragraph ++ now)
    (paragraph_shown (sent_shown d q.paragraph) shown)
facts_paragraph xs n before q (retyped p t text) ds ts was now shown le clear own f =
    let ls : List Leaf = leaves_of q in
    let P : List ℕ → Type 0 = λ cs. Facts xs n before (retyped p t text ∷ ds) (leaves_para ls ∷ ts) (cs ++ was) (typed_in cs text ++ now) (paragraph_shown text shown) in
    subst P (paragraph_is q own)
    (facts_retyped xs n before ls p t text ds ts was now shown le clear (leaves_shut (page_items q.paragraph) own) f)
facts_paragraph xs n before q (kept u) ds ts was now shown le clear own f =
    let ls : List Leaf = leaves_of q in
    let P : List ℕ → Type 0 = λ cs. Facts xs n before (kept u ∷ ds) (leaves_para ls ∷ ts) (cs ++ was) (cs ++ now) (paragraph_shown (flat_map leaf_shown ls) shown) in
    subst P (paragraph_is q own) (facts_kept xs n before ls u ds ts was now shown f)

-- ---- all of them

abbrev pub sent_shows : List PassageEdit → Plains
sent_shows [] = ended
sent_shows (e ∷ es) = paragraph_shown (sent_shown e.sending e.passage.paragraph) (sent_shows es)

-- line breaks behind the last paragraph
facts_end : (xs : List Item) (n : ℕ) (before : List Item) (k : ℕ) (u : Tree)
    → Facts xs n before (for_breaks k u ++ []) (separator k ++ []) (replicate k 10 ++ []) (replicate k 10 ++ []) ended
facts_end xs n before zero u = facts_nothing xs n before
facts_end xs n before (suc k) u =
    let t : ItemTree = sep_tree (suc k) in
    facts_sep xs n before (suc k) u [] [] [] [] ended (facts_nothing xs (number_behind n before t) (items_behind before t))

-- by the source of a passage
pub regrouped : (xs : List Item) (n : ℕ) (before : List Item) (ds : List Sending) (ts : List ItemTree) (q r bs was now : List ℕ) (shown : Plains)
    → Facts xs n before ds ts (q ++ (bs ++ was)) (r ++ (bs ++ now)) shown → Facts xs n before ds ts ((q ++ bs) ++ was) ((r ++ bs) ++ now) shown
regrouped xs n before ds ts q r bs was now shown f =
    subst (λ cs. Facts xs n before ds ts cs ((r ++ bs) ++ now) shown) (sym (append_assoc q bs was))
    (subst (λ cs. Facts xs n before ds ts (q ++ (bs ++ was)) cs shown) (sym (append_assoc r bs now)) f)

pub own_of : (q : List ℕ) → IsTypedPage q → AreOwn (page_items q)
own_of q h = (written q h).1

-- its blocks, from this number and place on
abbrev pub FactsOf : List Item → ℕ → List Item → List PassageEdit → Type 0
FactsOf xs n before es =
    Facts xs n before (all_sendings es) (flat_map leafy (old_passages es)) (prose (old_passages es)) (prose (new_passages es)) (sent_shows es)

facts_last : (xs : List Item) (n : ℕ) (before : List Item) (q : Passage) (d : Sending) (u : Tree) → IsTypedPage q.paragraph → 1 ≤ n
    → ends_open (sources before) ≡ false → FactsOf xs n before (record { passage = q; sending = d; breaks = u } ∷ [])
facts_last xs n before q d u h le clear =
    let t : ItemTree = leaves_para (leaves_of q) in
    let bs : List ℕ = replicate q.breaks 10 in
    regrouped xs n before (d ∷ (for_breaks q.breaks u ++ [])) (t ∷ (separator q.breaks ++ [])) q.paragraph (new_paragraph d q.paragraph) bs [] []
    (paragraph_shown (sent_shown d q.paragraph) ended)
    (facts_paragraph xs n before q d (for_breaks q.breaks u ++ []) (separator q.breaks ++ []) (bs ++ []) (bs ++ []) ended le clear (own_of q.paragraph h)
    (facts_end xs (number_behind n before t) (items_behind before t) q.breaks u))

facts_more : (xs : List Item) (n : ℕ) (before : List Item) (q : Passage) (d : Sending) (u : Tree) (es : List PassageEdit) (k : ℕ) → q.breaks ≡ suc k
    → IsTypedPage q.paragraph → 1 ≤ n → ends_open (sources before) ≡ false
    → ((m : ℕ) (after : List Item) → 1 ≤ m → ends_open (sources after) ≡ false → FactsOf xs m after es)
    → FactsOf xs n before (record { passage = q; sending = d; breaks = u } ∷ es)
facts_more xs n before q d u es k is h le clear g =
    let P : ℕ → Type 0 = λ (j : ℕ). FactsOf xs n before (record { passage = record { paragraph = q.paragraph; breaks = j }; sending = d; breaks = u } ∷ es) in
    let t : ItemTree = leaves_para (leaves_of q) in
    let s : ItemTree = sep_tree (suc k) in
    let bs : List ℕ = replicate (suc k) 10 in
    let m : ℕ = number_behind n before t in
    let after : List Item = items_behind before t in
    let was : List ℕ = prose (old_passages es) in
    let now : List ℕ = prose (new_passages es) in
    let shown : Plains = sent_shows es in
    subst P (sym is)
    (regrouped xs n before (d ∷ kept u ∷ all_sendings es) (t ∷ s ∷ flat_map leafy (old_passages es)) q.paragraph (new_paragraph d q.paragraph) bs was now
    (paragraph_shown (sent_shown d q.paragraph) shown)
    (facts_paragraph xs n before q d (kept u ∷ all_sendings es) (s ∷ flat_map leafy (old_passages es)) (bs ++ was) (bs ++ now) shown le clear (own_of q.paragraph h)
    (facts_sep xs m after (suc k) u (all_sendings es) (flat_map leafy (old_passages es)) was now shown
    (g (number_behind m after s) (items_behind after s) (omega (arith, le)) (behind_breaks after k)))))

pub facts_all : (xs : List Item) (es : List PassageEdit) → AreProse (old_passages es) → (n : ℕ) (before : List Item) → 1 ≤ n → ends_open (sources before) ≡ false
    → FactsOf xs n before es
facts_all xs [] h n before le clear = absurd h
facts_all xs (e ∷ []) h n before le clear = facts_last xs n before e.passage e.sending e.breaks h le clear
facts_all xs (e ∷ f ∷ es) h n before le clear =
    let k : ℕ = e.passage.breaks - 1 in
    let is : e.passage.breaks ≡ suc k = omega (arith, h.1) in
    facts_more xs n before e.passage e.sending e.breaks (f ∷ es) k is h.0 le clear (facts_all xs (f ∷ es) h.2)

-- ---- what prose shows

abbrev pub prose_shows : List Passage → Plains
prose_shows [] = ended
prose_shows (p ∷ ps) = paragraph_shown (flat_map shown_item (page_items p.paragraph)) (prose_shows ps)

abbrev pub plains_of : ℕ → List Item → List ItemTree → Plains
plains_of n before ts = plains_before (blocks_of n before ts) ended

seps_show : (n : ℕ) (before : List Item) (k : ℕ) (ts : List ItemTree) (ps : Plains) → ((m : ℕ) (after : List Item) → plains_of m after ts ≡ ps)
    → plains_of n before (separator k ++ ts) ≡ ps
unfolding label_at
seps_show n before zero ts ps f = f n before
seps_show n before (suc k) ts ps f = f (number_behind n before (sep_tree (suc k))) (items_behind before (sep_tree (suc k)))

abbrev pub AreOwnAll : List Passage → Type 0
AreOwnAll [] = Unit {0}
AreOwnAll (p ∷ ps) = AreOwn (page_items p.paragraph) × AreOwnAll ps

pub blocks_show : (n : ℕ) (before : List Item) (ps : List Passage) → AreOwnAll ps → plains_of n before (flat_map leafy ps) ≡ prose_shows ps
unfolding label_at
blocks_show n before [] h = refl
blocks_show n before (p ∷ ps) h =
    let t : ItemTree = leaves_para (leaves_of p) in
    let m : ℕ = number_behind n before t in
    let after : List Item = items_behind before t in
    ap (λ qs. along (element (record { kind = kind.Para; attrs = []; mw = None }) qs) (plains_of m after (separator p.breaks ++ flat_map leafy ps)))
    (leaves_show (n + 1) (before ++ []) (leaves_of p) ended)
    ∙ ap (λ rest. paragraph_shown (flat_map leaf_shown (leaves_of p)) rest)
    (seps_show m after p.breaks (flat_map leafy ps) (prose_shows ps) (λ j bs. blocks_show j bs ps h.1))
    ∙ ap (λ cs. paragraph_shown cs (prose_shows ps)) (leaves_shown (page_items p.paragraph) h.0)

pub prose_own : (ps : List Passage) → AreProse ps → AreOwnAll ps
prose_own [] h = absurd h
prose_own (p ∷ []) h = (own_of p.paragraph h, tt)
prose_own (p ∷ q ∷ ps) h = (own_of p.paragraph h.0, prose_own (q ∷ ps) h.2)

-- ---- the new page shows what was sent

pub sent_same : (d : Sending) (q : Passage) → IsText d → AreOwn (page_items q.paragraph)
    → sent_shown d q.paragraph ≡ flat_map shown_item (page_items (new_paragraph d q.paragraph))
sent_same (retyped p t text) q u h = sym (typed_shows (record { within = false; place = place.Paragraph; source = q.paragraph }) text u)
sent_same (kept v) q u h = leaves_shown (page_items q.paragraph) h

pub shows_same : (es : List PassageEdit) → AreTyped es → AreOwnAll (old_passages es) → sent_shows es ≡ prose_shows (new_passages es)
shows_same [] u h = refl
shows_same (e ∷ es) u h =
    ap (λ cs. paragraph_shown cs (sent_shows es)) (sent_same e.sending e.passage u.0 h.0)
    ∙ ap (λ ps. paragraph_shown (flat_map shown_item (page_items (new_paragraph e.sending e.passage.paragraph))) ps) (shows_same es u.1 h.1)

-- ---- and it is prose again

pub new_typed : (d : Sending) (q : List ℕ) → IsText d → IsTypedPage q → IsTypedPage (new_paragraph d q)
new_typed (retyped p t text) q u h = typed_again q text u
new_typed (kept v) q u h = h

pub prose_again : (es : List PassageEdit) → AreTyped es → AreProse (old_passages es) → AreProse (new_passages es)
prose_again [] u h = absurd h
prose_again (e ∷ []) u h = new_typed e.sending e.passage.paragraph u.0 h
prose_again (e ∷ f ∷ es) u h = (new_typed e.sending e.passage.paragraph u.0 h.0, h.1, prose_again (f ∷ es) u.1 h.2)
