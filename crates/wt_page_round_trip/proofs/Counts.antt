-- The meaning of an expanded page has at most two numbers for each byte.
use Rattle.std.proofs.Common.{◌≡◌, ℕ, ◌+◌, ◌-◌, ◌*◌, ◌<◌, ◌≤◌, Bool, Option, Some, List, [], ◌∷◌, length, ap, subst, arith, length-append, length-take, length-drop}
use Rattle.wt_span.specs.declared.form.ItemForm.{ItemForm}
use Rattle.wt_span.specs.declared.form.ItemForm.TheVariants as form
use Rattle.wt_span.specs.Items.{Item, char, whole, sources}
use Rattle.wt_span.specs.Tags.{Tag, opening_tag, raw_by}
use Rattle.wt_lex.proofs.TagForms.{OptTag, TagFits, opening_fits}
use Rattle.wt_lex.proofs.WholeTags.{raw_at}
use Rattle.wt_inline.specs.RawTag.{len_of, opening_len, behind, inside_len}
use Rattle.wt_inline.specs.Parts.{nowiki, whole_tree}
use Rattle.wt_annotated.specs.Labels.{width}
use Rattle.wt_annotated.specs.Counted.{numbered}
use Rattle.wt_page_round_trip.specs.Numbers.{makes_all}
use Rattle.wt_page_round_trip.proofs.BodyCounts.{meaning_count}
use Rattle.wt_page_round_trip.proofs.NumberLaws.{nowiki_inside}
use Rattle.wt_page.specs.Body.{meaning}
use Rattle.wt_page.proofs.FormLengths.{IsFormOf, form_long}
use Rattle.wt_page_round_trip.proofs.OfPage.{AreOfPage}
use Rattle.wt_page_round_trip.proofs.FormLengths.{AreForms, forms_of_page}

-- ---- forms

opening_some : (bs : List ℕ) (t : Tag) → opening_tag bs ≡ Some t → (0 < t.len) × (t.len ≤ length bs)
opening_some bs t e = let f : TagFits bs t = subst (OptTag bs) e (opening_fits bs) in (f.some, f.within)

tag_len : (named : List ℕ → Bool) (bs : List ℕ) → raw_by named (opening_tag bs) bs ≡ Some (length bs) → (0 < opening_len bs) × (opening_len bs ≤ length bs)
tag_len named bs h =
    let q = raw_at named (opening_tag bs) bs (length bs) h in
    let f : (0 < q.0.len) × (q.0.len ≤ length bs) = opening_some bs q.0 q.1 in
    let e : opening_len bs ≡ q.0.len = ap len_of q.1 in (omega (arith, f.0, e), omega (arith, f.1, e))

nowiki_few : (o : Option ℕ) (bs : List ℕ) → IsFormOf form.Nowiki bs → numbered (nowiki o bs) ≤ length bs
nowiki_few o bs h =
    let t = tag_len _ bs h in
    let c : length (behind bs) ≡ length bs - opening_len bs = length-drop (opening_len bs) bs in
    let d = length-take (inside_len bs) (behind bs) in
    omega (arith, nowiki_inside o bs, t.0, t.1, c, d)

form_few : (f : ItemForm) (o : Option ℕ) (bs : List ℕ) → IsFormOf f bs → numbered (whole_tree f o bs) ≤ length bs
form_few form.Chars o bs h = absurd h
form_few (form.Entity c) o bs h = omega (arith, form_long (form.Entity c) bs h)
form_few form.Nowiki o bs h = nowiki_few o bs h
form_few form.Extension o bs h = omega (arith, form_long form.Extension bs h)
form_few form.Function o bs h = omega (arith, form_long form.Function bs h)
form_few form.Comment o bs h = omega (arith, form_long form.Comment bs h)
form_few form.Include o bs h = omega (arith, form_long form.Include bs h)
form_few form.Hidden o bs h = omega (arith, form_long form.Hidden bs h)
form_few form.EmptyCall o bs h = omega (arith, form_long form.EmptyCall bs h)

-- ---- items

-- two for each item, and what forms make
items_few : (xs : List Item) → AreForms xs → 2 * length xs + makes_all xs ≤ 2 * width xs
items_few [] p = omega arith
items_few (char o b ∷ xs) p = omega (arith, items_few xs p.1)
items_few (whole f o bs ∷ xs) p =
    omega (arith, form_few f o bs p.0, form_long f bs p.0, items_few xs p.1, length-append bs (sources xs))

pub forms_few : (xs : List Item) → AreForms xs → numbered (meaning xs) ≤ 2 * width xs
forms_few xs p = omega (arith, meaning_count xs, items_few xs p)

pub page_few : (xs : List Item) → AreOfPage xs → numbered (meaning xs) ≤ 2 * width xs
page_few xs p = forms_few xs (forms_of_page xs p)
