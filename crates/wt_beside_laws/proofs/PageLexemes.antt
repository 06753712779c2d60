-- The lexemes of a page without calls: none is a function, and none that is one item begins with a brace.
use Rattle.std.proofs.Common.{arith, ◌≡◌, ℕ, zero, suc, ◌+◌, Bool, true, false, Option, Some, None, List, [], ◌∷◌, ◌++◌, take, drop, refl, sym, ◌∙◌, subst}
use Rattle.std.specs.Prelude.{◌==◌, nat_lt, if◌then◌else◌}
use Rattle.std.proofs.lemmas.Bool.Decides.{nat_tests}
use Rattle.std.specs.List.{prefix_len}
use Rattle.std.specs.Option.{option_or}
use Rattle.wt_span.specs.declared.form.Mode.TheVariants.{Page}
use Rattle.wt_span.specs.declared.form.LexKind.{LexKind}
use Rattle.wt_span.specs.declared.form.LexKind.TheVariants as lex
use Rattle.wt_span.specs.declared.form.ItemForm.{ItemForm}
use Rattle.wt_span.specs.declared.form.ItemForm.TheVariants as form
use Rattle.wt_span.specs.Comments.{comment_len}
use Rattle.wt_span.specs.Tags.{Tag, opening_tag, closing_tag, is_nowiki, raw_len, include_at}
use Rattle.wt_span.specs.Entities.{entity_at, named_entity, entity_names, decimal_entity, hex_entity}
use Rattle.wt_span.specs.Items.{Item, char, whole, items_by}
use Rattle.wt_span.specs.Lexemes.{Word, words, sign_word, form_at}
use Rattle.wt_lex.proofs.AllForms.{form_fits}
use Rattle.wt_expand.specs.PageItems.{raw_form_by, items_of_word, items_of_words, page_items}
use Rattle.wt_typed_blocks.proofs.Forms.{comment_other}
use Rattle.wt_text_edit_laws.proofs.Prose.Uncommented.{uncommented_other}
use Rattle.wt_beside_laws.specs.NodeItems.{node_items}
use Rattle.wt_beside_laws.proofs.NodeItems.{behind_break, node_same}
use Rattle.wt_text_edit_laws.proofs.Between.Fronts.{first_items, first_from, items_from, byte_from, form_from}

-- ---- their forms

abbrev pub IsPageForm : ItemForm → Type 0
IsPageForm form.Chars = ⊥
IsPageForm (form.Entity c) = Unit {0}
IsPageForm form.Nowiki = Unit {0}
IsPageForm form.Extension = Unit {0}
IsPageForm form.Function = ⊥
IsPageForm form.Comment = Unit {0}
IsPageForm form.Include = Unit {0}
IsPageForm form.Hidden = Unit {0}
IsPageForm form.EmptyCall = ⊥

abbrev pub AreOfPage : List Item → Type 0
AreOfPage [] = Unit {0}
AreOfPage (char o b ∷ xs) = AreOfPage xs
AreOfPage (whole f o bs ∷ xs) = IsPageForm f × AreOfPage xs

both_page : (xs ys : List Item) → AreOfPage xs → AreOfPage ys → AreOfPage (xs ++ ys)
both_page [] ys h k = k
both_page (char o b ∷ xs) ys h k = both_page xs ys h k
both_page (whole f o bs ∷ xs) ys h k = (h.0, both_page xs ys h.1 k)

chars_page : (o : Option ℕ) (bs : List ℕ) → AreOfPage (items_by form.Chars o bs)
chars_page o [] = tt
chars_page o (b ∷ bs) = chars_page o bs

raw_page : (t : Option Tag) (o : Option ℕ) (bs : List ℕ) → AreOfPage (items_by (raw_form_by t) o bs)
raw_page None o bs = (tt, tt)
raw_page (Some t) o bs = by (is_nowiki t.name)
  where
    by : (v : Bool) → AreOfPage (items_by (if v then form.Nowiki else form.Extension) o bs)
    by true = (tt, tt)
    by false = (tt, tt)

word_page : (k : LexKind) (bs : List ℕ) → AreOfPage (items_of_word k bs)
word_page lex.Chars bs = chars_page None bs
word_page lex.CommentLine bs = (tt, tt)
word_page lex.Comment bs = (tt, tt)
word_page lex.Raw bs = raw_page (opening_tag bs) None bs
word_page lex.Include bs = (tt, tt)
word_page lex.Hidden bs = (tt, tt)
word_page (lex.Entity c) bs = (tt, tt)
word_page lex.Opens bs = chars_page None bs
word_page lex.Closes bs = chars_page None bs
word_page lex.LinkOpen bs = chars_page None bs
word_page lex.LinkClose bs = chars_page None bs
word_page lex.Pipe bs = chars_page None bs
word_page lex.Equals bs = chars_page None bs

words_page : (ws : List Word) (bs : List ℕ) → AreOfPage (items_of_words ws bs)
words_page [] bs = tt
words_page ((k, n) ∷ ws) bs = both_page (items_of_word k (take n bs)) (items_of_words ws (drop n bs)) (word_page k (take n bs)) (words_page ws (drop n bs))

pub are_of_page : (bs : List ℕ) → AreOfPage (page_items bs)
unfolding page_items
are_of_page bs = words_page (words Page bs) bs

pub node_of_page : (bs : List ℕ) → AreOfPage (node_items bs)
node_of_page bs = subst AreOfPage (behind_break bs) (are_of_page (10 ∷ bs))

-- ---- a brace is a character

abbrev IsCharFirst : List Item → Type 0
IsCharFirst [] = ⊥
IsCharFirst (char o b ∷ xs) = Unit {0}
IsCharFirst (whole f o bs ∷ xs) = ⊥

abbrev pub IsOpens : Option Word → Type 0
IsOpens None = Unit {0}
IsOpens (Some w) = w.0 ≡ lex.Opens

opens_by : (v : Bool) (n : ℕ) → IsOpens (option_or (if v then Some (lex.Opens, n) else None) None)
opens_by true n = refl
opens_by false n = tt

brace_form : (bs : List ℕ) → IsOpens (form_at Page false (123 ∷ bs))
unfolding form_at comment_len raw_len include_at opening_tag closing_tag entity_at named_entity entity_names decimal_entity hex_entity sign_word
brace_form bs = opens_by (nat_lt 1 (1 + prefix_len (λ (b : ℕ). b == 123) bs)) (1 + prefix_len (λ (b : ℕ). b == 123) bs)

brace_by : (bs : List ℕ) (o : Option Word) → form_at Page false (123 ∷ bs) ≡ o → IsOpens o → IsCharFirst (items_from false 0 (123 ∷ bs))
brace_by bs None e h = subst IsCharFirst (sym (byte_from false 123 bs e)) tt
brace_by bs (Some (k, zero)) e h = let fits = form_fits Page false (123 ∷ bs) (k, zero) e in absurd (omega (arith, fits.some))
brace_by bs (Some (k, suc j)) e h =
    subst IsCharFirst (sym (form_from false 123 bs k j e))
    (subst (λ (l : LexKind). IsCharFirst (items_of_word l (123 ∷ take j bs) ++ items_from false j bs)) (sym h) tt)

brace_first : (bs : List ℕ) → IsCharFirst (page_items (123 ∷ bs))
brace_first bs =
    subst IsCharFirst (sym (first_items (123 ∷ bs) ∙ sym (first_from false (123 ∷ bs)))) (brace_by bs (form_at Page false (123 ∷ bs)) refl (brace_form bs))

brace_node : (bs : List ℕ) → IsCharFirst (node_items (123 ∷ bs))
brace_node bs =
    subst IsCharFirst (sym (node_same (123 ∷ bs) (uncommented_other 123 bs refl (comment_other 123 bs (omega arith))))) (brace_first bs)

-- so what is one item begins with none
pub no_brace : (b : ℕ) (bs : List ℕ) (f : ItemForm) (o : Option ℕ) (cs : List ℕ) → node_items (b ∷ bs) ≡ whole f o cs ∷ [] → (b == 123) ≡ false
no_brace b bs f o cs e = by (b == 123) refl
  where
    by : (v : Bool) → (b == 123) ≡ v → v ≡ false
    by true i =
        let is : 123 ≡ b = grind (arith, nat_tests, i) in
        absurd (subst IsCharFirst e (subst (λ (k : ℕ). IsCharFirst (node_items (k ∷ bs))) is (brace_node bs)))
    by false i = refl
