-- What external links lead to.
use Rattle.std.proofs.Common.{◌≡◌, ◌≢◌, ℕ, ◌+◌, suc, Bool, true, false, not, Option, List, [], ◌∷◌, ◌++◌, map, take, refl, ap, ◌∙◌, ◌≤◌, arith, sym, subst, inl, inr}
use Rattle.std.specs.Prelude.{◌&&◌, if◌then◌else◌, All, nat_lt, encode_utf8}
use Rattle.std.proofs.lemmas.Bool.{cases_lt}
use Rattle.std.proofs.lemmas.Bool.Decides.{nat_tests}
use Rattle.std.proofs.lemmas.Str.{encode_ascii}
use Rattle.std.specs.List.{prefix_len}
use Rattle.std.proofs.lemmas.Grind.{flat_map-append}
use Rattle.std.proofs.lemmas.List.Elements.{All-nil, All-cons, All-head, All-tail, All-append, All-weaker}
use Rattle.wt_tree.specs.declared.kind.AttrName.TheVariants as attr
use Rattle.wt_span.specs.Bytes.{is_blank}
use Rattle.wt_span.specs.Items.{Item, char, whole}
use Rattle.wt_span.specs.declared.form.ItemForm.TheVariants as form
use Rattle.wt_names.proofs.Ascii.{IsWide, encode_wide}
use Rattle.wt_tiles.specs.Glyphs.{glyph_of}
use Rattle.wt_tiles.specs.Urls.{is_url_char, is_url_glyph}
use Rattle.wt_inline.specs.Carried.{shown_item}
use Rattle.wt_context.specs.Heads.{text_of, before_blank, bracketed_url, ext_link_head, bare_url_head}
use Rattle.wt_page_laws.specs.Addresses.{AreUrlItems, BeginsBlank, LeadsToUrl, LeadsToItself}

-- ---- URL items have no blank

abbrev HasNoBlank : List ℕ → Type 0
HasNoBlank bs = All (λ b. is_blank b ≡ false) bs

first_true : (x y : Bool) → (x && y) ≡ true → x ≡ true
first_true true y e = refl
first_true false y e = e

above : (b : ℕ) → nat_lt 32 b ≡ true → is_blank b ≡ false
above b e = grind (arith, nat_tests)

no_blank : (c : ℕ) → is_url_char c ≡ true → is_blank c ≡ false
unfolding is_url_char
no_blank c e = above c (first_true (nat_lt 32 c) _ e)

wide_no_blank : (b : ℕ) → 128 ≤ b → is_blank b ≡ false
wide_no_blank b h = grind (arith, nat_tests)

encoded_no_blank : (c : ℕ) → is_url_char c ≡ true → HasNoBlank (encode_utf8 c)
encoded_no_blank c e = elim (cases_lt c 128) [
  | inl small ↦ subst HasNoBlank (sym (encode_ascii c small)) (All-cons (λ b. is_blank b ≡ false) c [] (no_blank c e) (All-nil (λ b. is_blank b ≡ false)))
  | inr wide ↦ All-weaker IsWide (λ b. is_blank b ≡ false) wide_no_blank (encode_utf8 c) (encode_wide c wide)
]

item_no_blank : (x : Item) → is_url_glyph (glyph_of x) ≡ true → HasNoBlank (shown_item x)
item_no_blank (char o b) e = All-cons (λ c. is_blank c ≡ false) b [] (no_blank b e) (All-nil (λ c. is_blank c ≡ false))
item_no_blank (whole (form.Entity c) o bs) e = encoded_no_blank c e
item_no_blank (whole form.Chars o bs) e = absurd (cc)
item_no_blank (whole form.Nowiki o bs) e = absurd (cc)
item_no_blank (whole form.Extension o bs) e = absurd (cc)
item_no_blank (whole form.Function o bs) e = absurd (cc)
item_no_blank (whole form.Comment o bs) e = absurd (cc)
item_no_blank (whole form.Include o bs) e = absurd (cc)
item_no_blank (whole form.Hidden o bs) e = absurd (cc)
item_no_blank (whole form.EmptyCall o bs) e = absurd (cc)

text_no_blank : (xs : List Item) → AreUrlItems xs → HasNoBlank (text_of xs)
text_no_blank [] h = All-nil (λ b. is_blank b ≡ false)
text_no_blank (x ∷ xs) h =
    All-append (λ b. is_blank b ≡ false) (shown_item x) (text_of xs)
    (item_no_blank x (All-head (λ y. is_url_glyph (glyph_of y) ≡ true) x xs h))
    (text_no_blank xs (All-tail (λ y. is_url_glyph (glyph_of y) ≡ true) x xs h))

-- ---- what is cut

is_true : (b : Bool) → b ≢ false → b ≡ true
is_true true h = refl
is_true false h = absurd (h refl)

stops_first : (bs : List ℕ) → BeginsBlank bs → before_blank bs ≡ []
stops_first [] h = refl
stops_first (b ∷ bs) h = ap (λ (x : Bool). take (if not x then 1 + prefix_len (λ c. not (is_blank c)) bs else 0) (b ∷ bs)) (is_true (is_blank b) h)

take_more : (n u : ℕ) (vs : List ℕ) → take (1 + n) (u ∷ vs) ≡ u ∷ take n vs
take_more n u vs = let z : 1 + n ≡ suc n = omega arith in ap (λ (k : ℕ). take k (u ∷ vs)) z

cut : (us bs : List ℕ) → HasNoBlank us → BeginsBlank bs → before_blank (us ++ bs) ≡ us
cut [] bs h k = stops_first bs k
cut (u ∷ us) bs h k =
    ap (λ (x : Bool). take (if not x then 1 + prefix_len (λ c. not (is_blank c)) (us ++ bs) else 0) (u ∷ (us ++ bs))) (All-head (λ b. is_blank b ≡ false) u us h)
    ∙ take_more (prefix_len (λ c. not (is_blank c)) (us ++ bs)) u (us ++ bs)
    ∙ ap (λ (vs : List ℕ). u ∷ vs) (cut us bs (All-tail (λ b. is_blank b ≡ false) u us h) k)

url_is : (o : Option ℕ) (url blanks : List Item) → HasNoBlank (text_of url) → BeginsBlank (text_of blanks)
    → bracketed_url (text_of (char o 91 ∷ (url ++ blanks))) ≡ text_of url
url_is o url blanks h k = ap before_blank (flat_map-append shown_item url blanks) ∙ cut (text_of url) (text_of blanks) h k

pub leads_to_url : (o : Option ℕ) (url blanks : List Item) → LeadsToUrl o url blanks
unfolding ext_link_head
leads_to_url o url blanks h k = ap (λ (bs : List ℕ). (attr.Href, bs) ∷ []) (url_is o url blanks (text_no_blank url h) k)

text_is : (o : Option ℕ) (bs : List ℕ) → text_of (map (char o) bs) ≡ bs
text_is o [] = refl
text_is o (b ∷ bs) = ap (λ (cs : List ℕ). b ∷ cs) (text_is o bs)

pub leads_to_itself : (o : Option ℕ) (bs : List ℕ) → LeadsToItself o bs
unfolding bare_url_head
leads_to_itself o bs = ap (λ (cs : List ℕ). (attr.Href, cs) ∷ []) (text_is o bs)
