-- Items of an expanded page with each `nowiki` opened: what stands on the page for them stays, and so it is the page for the
-- meaning, too.
use Rattle.std.proofs.Common.{◌≡◌, ℕ, zero, suc, ◌-◌, ◌<◌, Option, Some, None, List, [], ◌∷◌, ◌++◌, length, map, refl, sym, ap, ap₂, ◌∙◌, subst, cond, arith, append_assoc, append-nil}
use Rattle.std.specs.List.{AllByRecursion}
use Rattle.wt_span.specs.declared.form.ItemForm.{ItemForm}
use Rattle.wt_span.specs.declared.form.ItemForm.TheVariants as form
use Rattle.wt_span.specs.Cuts.{page_of, text_by}
use Rattle.wt_span.specs.Entities.{entity_at}
use Rattle.wt_span.specs.Items.{Item, char, whole, source, sources, call_of}
use Rattle.wt_span.specs.Origins.{OuterCall}
use Rattle.wt_span.specs.Tags.{Tag, opening_tag, is_nowiki}
use Rattle.wt_span.specs.Whole.{IsWhole}
use Rattle.wt_lex.proofs.TagForms.{OptTag, TagFits, opening_fits}
use Rattle.wt_lex.proofs.WholeTags.{raw_at}
use Rattle.wt_expand.specs.Work.{Pages}
use Rattle.wt_expand.specs.PageCalls.{expanded_page}
use Rattle.wt_expansion.specs.Sound.{AreSoundItems}
use Rattle.wt_expansion.proofs.SoundItems.{items_are_sound}
use Rattle.wt_inline.specs.RawTag.{opening_of, inside_of, closing_of}
use Rattle.wt_inline.specs.Inside.{read_with, inside_items, opened_whole, opened, opened_all}
use Rattle.wt_inline.specs.ItemTree.{tree_items}
use Rattle.wt_inline.proofs.HeldLaws.{sources_opened}
use Rattle.wt_page.specs.Body.{meaning}
use Rattle.wt_page.proofs.HeldBody.{held_meaning}
use Rattle.wt_annotated.specs.Seams.{parted, text_step, text_from}
use Rattle.wt_annotated.proofs.Seams.{page_is}
use Rattle.wt_page_round_trip.proofs.ExpandedPages.{page_step, call_text, no_text, expanded_stands}

-- ---- items of one origin

abbrev AllOf : Option ℕ → List Item → Type 0
AllOf o xs = AllByRecursion (λ (x : Item). call_of x ≡ o) xs

joined_of : (o : Option ℕ) (xs ys : List Item) → AllOf o xs → AllOf o ys → AllOf o (xs ++ ys)
joined_of o [] ys p q = q
joined_of o (x ∷ xs) ys p q = (p.0, joined_of o xs ys p.1 q)

chars_of : (o : Option ℕ) (bs : List ℕ) → AllOf o (map (char o) bs)
chars_of o [] = tt
chars_of o (b ∷ bs) = (refl, chars_of o bs)

read_of : (o : Option ℕ) (e : Option (ℕ × ℕ)) (b : ℕ) (bs : List ℕ) (rest : ℕ → List Item) → ((n : ℕ) → AllOf o (rest n)) → AllOf o (read_with o e b bs rest)
read_of o None b bs rest h = (refl, h 0)
read_of o (Some e) b bs rest h = (refl, h (e.1 - 1))

inside_of_origin : (o : Option ℕ) (n : ℕ) (bs : List ℕ) → AllOf o (inside_items o n bs)
inside_of_origin o n [] = tt
inside_of_origin o (suc n) (b ∷ bs) = inside_of_origin o n bs
inside_of_origin o zero (b ∷ bs) = read_of o (entity_at (b ∷ bs)) b bs (λ n. inside_items o n bs) (λ n. inside_of_origin o n bs)

opened_of_whole : (f : ItemForm) (o : Option ℕ) (bs : List ℕ) → AllOf o (opened_whole f o bs)
opened_of_whole form.Chars o bs = (refl, tt)
opened_of_whole (form.Entity c) o bs = (refl, tt)
opened_of_whole form.Nowiki o bs =
    joined_of o (map (char o) (opening_of bs)) (inside_items o 0 (inside_of bs) ++ map (char o) (closing_of bs)) (chars_of o (opening_of bs))
    (joined_of o (inside_items o 0 (inside_of bs)) (map (char o) (closing_of bs)) (inside_of_origin o 0 (inside_of bs)) (chars_of o (closing_of bs)))
opened_of_whole form.Extension o bs = (refl, tt)
opened_of_whole form.Function o bs = (refl, tt)
opened_of_whole form.Comment o bs = (refl, tt)
opened_of_whole form.Include o bs = (refl, tt)
opened_of_whole form.Hidden o bs = (refl, tt)
opened_of_whole form.EmptyCall o bs = (refl, tt)

opened_of : (x : Item) → AllOf (call_of x) (opened x)
opened_of (char o b) = (refl, tt)
opened_of (whole f o bs) = opened_of_whole f o bs

opened_source : (x : Item) → sources (opened x) ≡ source x
opened_source x = ap sources (sym (append-nil (opened x))) ∙ sources_opened (x ∷ []) ∙ append-nil (source x)

-- ---- what stands on the page for items of one origin

own_step : (calls : List OuterCall) (o p : Option ℕ) (bs : List ℕ) → p ≡ None → cond (parted o p) (text_by calls p bs) [] ≡ bs
own_step calls o None bs e = page_step o bs
own_step calls o (Some k) bs e = absurd cc

own_run : (calls : List OuterCall) (o : Option ℕ) (z : Item) (zs ys : List Item) → AllOf None (z ∷ zs)
    → text_from calls o ((z ∷ zs) ++ ys) ≡ sources (z ∷ zs) ++ text_from calls None ys
own_run calls o z [] ys h =
    ap₂ (λ us vs. us ++ vs) (own_step calls o (call_of z) (source z) h.0) (ap (λ p. text_from calls p ys) h.0)
    ∙ ap (λ us. us ++ text_from calls None ys) (sym (append-nil (source z)))
own_run calls o z (y ∷ zs) ys h =
    ap₂ (λ us vs. us ++ vs) (own_step calls o (call_of z) (source z) h.0) (own_run calls (call_of z) y zs ys h.1)
    ∙ sym (append_assoc (source z) (sources (y ∷ zs)) (text_from calls None ys))

call_step : (calls : List OuterCall) (o p : Option ℕ) (k : ℕ) (bs : List ℕ) → p ≡ Some k → cond (parted o p) (text_by calls p bs) [] ≡ call_text calls o k
call_step calls o p k bs e = ap (λ q. cond (parted o q) (text_by calls q bs) []) e

behind_run : (calls : List OuterCall) (k : ℕ) (zs ys : List Item) → AllOf (Some k) zs → text_from calls (Some k) (zs ++ ys) ≡ text_from calls (Some k) ys
behind_run calls k [] ys h = refl
behind_run calls k (z ∷ zs) ys h =
    ap₂ (λ us vs. us ++ vs) (call_step calls (Some k) (call_of z) k (source z) h.0 ∙ no_text calls k)
    (ap (λ p. text_from calls p (zs ++ ys)) h.0 ∙ behind_run calls k zs ys h.1)

call_run : (calls : List OuterCall) (o : Option ℕ) (k : ℕ) (z : Item) (zs ys : List Item) → AllOf (Some k) (z ∷ zs)
    → text_from calls o ((z ∷ zs) ++ ys) ≡ call_text calls o k ++ text_from calls (Some k) ys
call_run calls o k z zs ys h =
    ap₂ (λ us vs. us ++ vs) (call_step calls o (call_of z) k (source z) h.0)
    (ap (λ p. text_from calls p (zs ++ ys)) h.0 ∙ behind_run calls k zs ys h.1)

by_origin : (calls : List OuterCall) (o p : Option ℕ) (bs : List ℕ) (zs ys : List Item) → AllOf p zs → sources zs ≡ bs → (zs ≡ [] → ⊥)
    → text_from calls o (zs ++ ys) ≡ cond (parted o p) (text_by calls p bs) [] ++ text_from calls p ys
by_origin calls o p bs [] ys h e n = absurd (n refl)
by_origin calls o None bs (z ∷ zs) ys h e n = own_run calls o z zs ys h ∙ ap (λ us. us ++ text_from calls None ys) (e ∙ sym (page_step o bs))
by_origin calls o (Some k) bs (z ∷ zs) ys h e n = call_run calls o k z zs ys h

-- ---- opened items

-- a character, or a whole form, which has bytes
abbrev pub IsOne : Item → Type 0
IsOne (char o b) = Unit {0}
IsOne (whole f o bs) = IsWhole f bs

abbrev pub AreOnes : List Item → Type 0
AreOnes xs = AllByRecursion IsOne xs

tag_some : (bs : List ℕ) (t : Tag) → opening_tag bs ≡ Some t → 0 < length bs
tag_some bs t e = let f : TagFits bs t = subst (OptTag bs) e (opening_fits bs) in omega (arith, f.some, f.within)

nowiki_some : (o : Option ℕ) (bs : List ℕ) → IsWhole form.Nowiki bs → opened (whole form.Nowiki o bs) ≡ [] → ⊥
nowiki_some o bs h e =
    let q = raw_at is_nowiki (opening_tag bs) bs (length bs) h in
    let some : 0 < length bs = tag_some bs q.0 q.1 in
    let none : length bs ≡ 0 = ap length (sym (opened_source (whole form.Nowiki o bs)) ∙ ap sources e) in
    omega (arith, some, none)

opened_some : (x : Item) → IsOne x → opened x ≡ [] → ⊥
opened_some (char o b) h e = cc
opened_some (whole form.Chars o bs) h e = cc
opened_some (whole (form.Entity c) o bs) h e = cc
opened_some (whole form.Nowiki o bs) h e = nowiki_some o bs h e
opened_some (whole form.Extension o bs) h e = cc
opened_some (whole form.Function o bs) h e = cc
opened_some (whole form.Comment o bs) h e = cc
opened_some (whole form.Include o bs) h e = cc
opened_some (whole form.Hidden o bs) h e = cc
opened_some (whole form.EmptyCall o bs) h e = cc

-- opened items stand for the same text of the page
pub opened_text : (calls : List OuterCall) (o : Option ℕ) (xs : List Item) → AreOnes xs → text_from calls o (opened_all xs) ≡ text_from calls o xs
opened_text calls o [] h = refl
opened_text calls o (x ∷ xs) h =
    by_origin calls o (call_of x) (source x) (opened x) (opened_all xs) (opened_of x) (opened_source x) (opened_some x h.0)
    ∙ ap (λ bs. text_step calls o x ++ bs) (opened_text calls (call_of x) xs h.1)

-- ---- the meaning

sound_ones : (xs : List Item) → AreSoundItems xs → AreOnes xs
sound_ones [] h = tt
sound_ones (char o b ∷ xs) h = (tt, sound_ones xs h.1)
sound_ones (whole f o bs ∷ xs) h = (h.0.0, sound_ones xs h.1)

-- the page stands for the meaning of its expanded items, where each node holds characters and whole forms
pub meaning_stands : (pages : Pages) (bs : List ℕ) → AreOnes (tree_items (meaning (expanded_page pages bs).items))
    → page_of (expanded_page pages bs).outer (tree_items (meaning (expanded_page pages bs).items)) ≡ bs
meaning_stands pages bs h =
    let calls = (expanded_page pages bs).outer in
    let xs = (expanded_page pages bs).items in
    let ys = tree_items (meaning xs) in
    page_is calls ys ∙ sym (opened_text calls None ys h) ∙ ap (text_from calls None) (held_meaning xs)
    ∙ opened_text calls None xs (sound_ones xs (items_are_sound pages bs)) ∙ expanded_stands pages bs
