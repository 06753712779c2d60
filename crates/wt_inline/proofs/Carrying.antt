-- What an element has beside its source.
use Rattle.std.proofs.Common.{◌≡◌, ℕ, zero, suc, ◌+◌, ◌<◌, Bool, true, false, Option, Some, None, List, [], ◌∷◌, ◌++◌, take, drop, map, get_or, refl, sym, ap, ◌∙◌, subst, arith}
use Rattle.std.specs.Prelude.{◌≢◌, codes, if◌then◌else◌}
use Rattle.std.specs.List.{flat_map, prefix_len}
use Rattle.std.specs.Char.{to_ascii_lowercase, is_ascii_alphabetic, is_ascii_alphanumeric}
use Rattle.std.specs.Str.{IsAscii}
use Rattle.std.proofs.Math.Numerals.{one-add}
use Rattle.std.proofs.lemmas.Str.Ascii.{lowercase_ascii, lowercase_is}
use Rattle.std.proofs.lemmas.Bool.Decides.{nat_tests}
use Rattle.wt_span.specs.declared.form.ItemForm.{ItemForm}
use Rattle.wt_span.specs.declared.form.ItemForm.TheVariants as form
use Rattle.wt_span.specs.Bytes.{lower, name_len}
use Rattle.wt_span.specs.Tags.{Tag, opening_tag, tag_after, is_noinclude}
use Rattle.wt_span.specs.Items.{char, items_by}
use Rattle.wt_inline.specs.RawTag.{name_of, is_alone, inside_of}
use Rattle.wt_inline.specs.Carried.{shown_item, include_name, noinclude_typeof, onlyinclude_typeof, typeof, extension_typeof, extension_of, extension_data, data_whole}
use Rattle.wt_tree.specs.declared.kind.AttrName.{AttrName}
use Rattle.wt_tree.specs.declared.kind.Kind.TheVariants as kind
use Rattle.wt_tree.specs.declared.node.DataMw.{DataMw}
use Rattle.wt_inline.specs.Parts.{form_head}

-- ---- names of tags are ASCII

low_nil : IsAscii []
low_nil i = omega arith

low_cons : (b : ℕ) (bs : List ℕ) → b < 128 → IsAscii bs → IsAscii (b ∷ bs)
low_cons b bs h low zero = h
low_cons b bs h low (suc i) = low i

low_tail : (b : ℕ) (bs : List ℕ) → IsAscii (b ∷ bs) → IsAscii bs
low_tail b bs low i = low (suc i)

lower_low : (bs : List ℕ) → IsAscii bs → IsAscii (lower bs)
lower_low [] low = low_nil
lower_low (b ∷ bs) low = low_cons (to_ascii_lowercase b) (lower bs) (lowercase_ascii b (low 0)) (lower_low bs (low_tail b bs low))

raised : (b : ℕ) → to_ascii_lowercase b < 128 → b < 128
raised b h = let is = lowercase_is b in grind (arith, nat_tests)

low_lower : (bs : List ℕ) → IsAscii (lower bs) → IsAscii bs
low_lower [] low = low_nil
low_lower (b ∷ bs) low = low_cons b bs (raised b (low 0)) (low_lower bs (low_tail (to_ascii_lowercase b) (lower bs) low))

alphanumeric_low : (b : ℕ) → is_ascii_alphanumeric b ≡ true → b < 128
alphanumeric_low b e = grind (arith, nat_tests)

low_prefix_by : (b : ℕ) (bs : List ℕ) (n : ℕ) (v : Bool) → is_ascii_alphanumeric b ≡ v → IsAscii (take n bs) → IsAscii (take (if v then 1 + n else 0) (b ∷ bs))
low_prefix_by b bs n true e h = subst (λ (m : ℕ). IsAscii (take m (b ∷ bs))) (sym (one-add n)) (low_cons b (take n bs) (alphanumeric_low b e) h)
low_prefix_by b bs n false e h = low_nil

low_prefix : (bs : List ℕ) → IsAscii (take (prefix_len is_ascii_alphanumeric bs) bs)
low_prefix [] = low_nil
low_prefix (b ∷ bs) = low_prefix_by b bs (prefix_len is_ascii_alphanumeric bs) (is_ascii_alphanumeric b) refl (low_prefix bs)

low_if : (v : Bool) (o : Option Tag) → IsAscii (name_of o) → IsAscii (name_of (if v then o else None))
low_if true o h = h
low_if false o h = low_nil

low_name_by : (bs : List ℕ) (v : Bool) → IsAscii (take (if v then prefix_len is_ascii_alphanumeric bs else 0) bs)
low_name_by bs true = low_prefix bs
low_name_by bs false = low_nil

low_name : (bs : List ℕ) → IsAscii (take (name_len bs) bs)
low_name bs = low_name_by bs (is_ascii_alphabetic (get_or bs 0 0))

low_after : (name rest : List ℕ) → IsAscii name → IsAscii (name_of (tag_after name rest))
unfolding tag_after
low_after name rest h = low_if _ (Some _) (lower_low name h)

tag_name_low : (bs : List ℕ) → IsAscii (name_of (opening_tag bs))
unfolding opening_tag
tag_name_low bs = low_if _ (tag_after (take (name_len (drop 1 bs)) (drop 1 bs)) (drop (1 + name_len (drop 1 bs)) bs)) (low_after _ _ (low_name (drop 1 bs)))

pub name_ascii : (bs name : List ℕ) → lower name ≡ name_of (opening_tag bs) → IsAscii name
name_ascii bs name e = low_lower name (subst IsAscii (sym e) (tag_name_low bs))

-- ---- the values

pub noinclude_name : (name : List ℕ) → is_noinclude name ≡ true → codes "mw:Includes/NoInclude" ≡ include_name name
unfolding noinclude_typeof
noinclude_name name e = rw e refl

pub onlyinclude_name : (name : List ℕ) → is_noinclude name ≡ false → codes "mw:Includes/OnlyInclude" ≡ include_name name
unfolding onlyinclude_typeof
onlyinclude_name name e = rw e refl

shown_bytes : (o : Option ℕ) (bs : List ℕ) → flat_map shown_item (map (char o) bs) ≡ bs
shown_bytes o [] = refl
shown_bytes o (b ∷ bs) = ap (λ cs. b ∷ cs) (shown_bytes o bs)

pub shown_chars : (f : ItemForm) (o : Option ℕ) (bs : List ℕ) → f ≡ form.Chars → flat_map shown_item (items_by f o bs) ≡ bs
shown_chars f o bs e = ap (λ g. flat_map shown_item (items_by g o bs)) e ∙ shown_bytes o bs

pub extension_is : (bs name inside : List ℕ) (alone : Bool) → name ≡ name_of (opening_tag bs) → alone ≡ is_alone (opening_tag bs)
    → inside ≡ inside_of bs → extension_of name alone inside ≡ extension_data bs
unfolding extension_data
extension_is bs name inside alone n a i =
    ap (λ x. extension_of x alone inside) n ∙ ap (λ x. extension_of (name_of (opening_tag bs)) x inside) a
    ∙ ap (extension_of (name_of (opening_tag bs)) (is_alone (opening_tag bs))) i

pub extension_head_is : (bs name shown : List ℕ) (attrs : List (AttrName × List ℕ)) (d : DataMw) → shown ≡ []
    → name ≡ name_of (opening_tag bs) → attrs ≡ typeof (codes "mw:Extension/" ++ name) → d ≡ extension_data bs
    → record { kind = kind.Island; shown = shown; attrs = attrs; mw = Some d } ≡ form_head form.Extension bs
unfolding extension_typeof
extension_head_is bs name shown attrs d s n a e =
    ap (λ x. record { kind = kind.Island; shown = x; attrs = attrs; mw = Some d }) s
    ∙ ap (λ x. record { kind = kind.Island; shown = []; attrs = x; mw = Some d }) (a ∙ ap (λ x. typeof (codes "mw:Extension/" ++ x)) n)
    ∙ ap (λ x. record { kind = kind.Island; shown = []; attrs = typeof (codes "mw:Extension/" ++ name_of (opening_tag bs)); mw = Some x }) e

pub no_data : (f : ItemForm) (bs : List ℕ) → f ≢ form.Extension → data_whole f bs ≡ None
no_data form.Chars bs h = refl
no_data (form.Entity c) bs h = refl
no_data form.Nowiki bs h = refl
no_data form.Extension bs h = absurd (h refl)
no_data form.Function bs h = refl
no_data form.Comment bs h = refl
no_data form.Include bs h = refl
no_data form.Hidden bs h = refl
no_data form.EmptyCall bs h = refl
