-- Each whole form of an expanded page is a node that is written.
use Rattle.std.proofs.Common.{◌≡◌, ℕ, suc, ◌+◌, ◌<◌, ◌≤◌, Bool, true, false, Option, Some, None, inl, List, [], ◌∷◌, ◌++◌, length, take, drop, get_or, IsUtf8, refl, sym, ap, ◌∙◌, subst, arith, append-nil, codes}
use Rattle.std.specs.Prelude.{◌==◌, ◌&&◌, ◌||◌, nat_le, nat_lt, is_some, slice_index, encode_utf8, if◌then◌else◌}
use Rattle.std.specs.Char.{is_ascii_digit, is_ascii_hexdigit}
use Rattle.std.specs.List.{list_all, prefix_len}
use Rattle.std.specs.Option.{option_or}
use Rattle.std.specs.Str.{IsCharBoundary, bytes_eq}
use Rattle.std.specs.Str.Parse.{digits_value}
use Rattle.std.proofs.lemmas.Bool.{and_parts}
use Rattle.std.proofs.lemmas.Bool.Decides.{nat_tests}
use Rattle.std.proofs.lemmas.Str.{IsUtf8-encode, IsUtf8-take, IsUtf8-drop, IsCharBoundary-start}
use lib.Utf8.{scalar}
use Rattle.json.proofs.Printed.Utf8.{IsUtf8-are_ascii}
use Rattle.wt_span.specs.declared.form.ItemForm.{ItemForm}
use Rattle.wt_span.specs.declared.form.ItemForm.TheVariants as form
use Rattle.wt_span.specs.Bytes.{begins}
use Rattle.wt_span.specs.Entities.{named_in, entity_names, named_entity, is_entity_number, numbered as numbered_entity, decimal_entity, hex_entity, entity_at}
use Rattle.wt_span.specs.Items.{whole, is_mark_form}
use Rattle.wt_span.specs.Tags.{Tag, opening_tag, closing_tag, len_if_named, is_extension, is_noinclude, raw_by}
use Rattle.wt_span.specs.Whole.{IsWhole}
use Rattle.wt_tree.specs.declared.kind.AttrName.TheVariants as attr
use Rattle.wt_tree.specs.declared.kind.Kind.{Kind}
use Rattle.wt_tree.specs.declared.kind.Kind.TheVariants as kind
use Rattle.wt_lex.proofs.WholeTags.{raw_at}
use Rattle.wt_tree.specs.Kinds.{may_hold, spelling}
use Rattle.wt_tree.specs.Values.{extension_prefix, placeholder, no_include, no_include_end, only_include, only_include_end, include_only, is_extension_type, is_island_type, is_include_type}
use Rattle.wt_schema.specs.Written.{IsUtf8IfAny, IsExtension, HasData, HasAttributes}
use Rattle.wt_schema.proofs.Types.{extension_ascii, extension_utf8, include_utf8}
use Rattle.wt_inline.specs.RawTag.{len_of, name_of, is_alone, before_closing, opening_len, behind, inside_len, opening_of, inside_of, closing_of}
use Rattle.wt_inline.specs.Carried.{extension_typeof, placeholder_typeof, noinclude_typeof, onlyinclude_typeof, includeonly_typeof, include_typeof, extension_data}
use Rattle.wt_inline.specs.Parts.{form_leaf, whole_tree}
use Rattle.wt_inline.proofs.RawTags.{closing_sign, tag_border, sign_border}
use Rattle.wt_annotated.specs.Labels.{label_at}
use Rattle.wt_page_round_trip.proofs.OfPage.{IsPageForm, IsGivenBy, IsPageItem, form_page, no_page_items}
use Rattle.wt_page_round_trip.proofs.Parts.{IsWrittenNode}

-- ---- entities

abbrev OptScalar : Option (ℕ × ℕ) → Type 0
OptScalar None = Unit {0}
OptScalar (Some e) = scalar e.0 ≡ true

or_scalar : (a b : Option (ℕ × ℕ)) → OptScalar a → OptScalar b → OptScalar (option_or a b)
or_scalar None b h g = g
or_scalar (Some e) b h g = h

entry_scalar : (t : Bool) (c n : ℕ) (o : Option (ℕ × ℕ)) → scalar c ≡ true → OptScalar o → OptScalar (if t then Some (c, n) else o)
entry_scalar true c n o h g = h
entry_scalar false c n o h g = g

named_scalar : (es : List (List ℕ × ℕ)) (bs : List ℕ) → list_all (λ e. scalar e.1) es ≡ true → OptScalar (named_in es bs)
named_scalar [] bs h = tt
named_scalar ((name, c) ∷ es) bs h = let q = and_parts _ _ h in entry_scalar (begins name bs) c (length name) (named_in es bs) q.0 (named_scalar es bs q.1)

names_scalar : list_all (λ e. scalar e.1) entity_names ≡ true
unfolding entity_names
names_scalar = refl

number_scalar : (c : ℕ) → is_entity_number c ≡ true → scalar c ≡ true
number_scalar c h = grind (arith, nat_tests)

number_entry : (t : Bool) (c n : ℕ) → (t ≡ true → scalar c ≡ true) → OptScalar (if t then Some (c, n) else None)
number_entry true c n h = h refl
number_entry false c n h = tt

digits_scalar : (a b d : Bool) (c n : ℕ) → OptScalar (if a && (b && (d && is_entity_number c)) then Some (c, n) else None)
digits_scalar true true true c n = number_entry (is_entity_number c) c n (number_scalar c)
digits_scalar true true false c n = tt
digits_scalar true false d c n = tt
digits_scalar false b d c n = tt

numbered_scalar : (start most base : ℕ) (is_digit : ℕ → Bool) (bs : List ℕ) → OptScalar (numbered_entity start most base is_digit bs)
numbered_scalar start most base is_digit bs =
    let n : ℕ = prefix_len is_digit (drop start bs) in
    digits_scalar (nat_lt 0 n) (nat_le n most) (slice_index bs (start + n) == 59) (digits_value base (take n (drop start bs))) (start + n + 1)

if_scalar : (t : Bool) (o : Option (ℕ × ℕ)) → OptScalar o → OptScalar (if t then o else None)
if_scalar true o h = h
if_scalar false o h = tt

entity_scalar : (bs : List ℕ) → OptScalar (entity_at bs)
unfolding entity_at named_entity decimal_entity hex_entity
entity_scalar bs =
    or_scalar (named_in entity_names bs) _ (named_scalar entity_names bs names_scalar)
    (or_scalar (if begins (codes "&#") bs then numbered_entity 2 7 10 is_ascii_digit bs else None)
    (if begins (codes "&#x") bs || begins (codes "&#X") bs then numbered_entity 3 6 16 is_ascii_hexdigit bs else None)
    (if_scalar (begins (codes "&#") bs) _ (numbered_scalar 2 7 10 is_ascii_digit bs))
    (if_scalar (begins (codes "&#x") bs || begins (codes "&#X") bs) _ (numbered_scalar 3 6 16 is_ascii_hexdigit bs)))

pub entity_utf8 : (c : ℕ) (bs : List ℕ) → IsWhole (form.Entity c) bs → IsUtf8 (encode_utf8 c)
entity_utf8 c bs h = let s : scalar c ≡ true = subst OptScalar h (entity_scalar bs) in IsUtf8-encode c s

pub entity_node : (k : ℕ) (parent : Kind) (o : Option ℕ) (c : ℕ) (bs : List ℕ) → k < 200 → may_hold parent kind.Entity ≡ true
    → IsPageForm (form.Entity c) bs → IsWrittenNode k parent (form_leaf (form.Entity c) o bs)
unfolding label_at spelling
entity_node k parent o c bs small e h = record {
  shown = (
    small,
    e,
    record {
      element = refl;
      level = refl;
      source = record { own = subst IsUtf8 (sym (append-nil bs)) h.1; opening = refl; closing = refl };
      shown = entity_utf8 c bs h.0;
      attrs = refl;
      origin = refl;
      mark = refl;
      mw = refl;
    },
    refl,
    (tt, tt),
  );
  page = (form_page (form.Entity c) o bs tt h, no_page_items, refl, tt, tt);
  element = refl;
}

-- ---- comments and include tags, which may stand anywhere

comment_node : (k : ℕ) (parent : Kind) (o : Option ℕ) (bs : List ℕ) → k < 200 → IsPageForm form.Comment bs → IsWrittenNode k parent (form_leaf form.Comment o bs)
unfolding label_at spelling
comment_node k parent o bs small h = record {
  shown = (
    small,
    refl,
    record {
      element = refl;
      level = refl;
      source = record { own = subst IsUtf8 (sym (append-nil bs)) h.1; opening = refl; closing = refl };
      shown = refl;
      attrs = refl;
      origin = refl;
      mark = refl;
      mw = refl;
    },
    refl,
    (tt, tt),
  );
  page = (form_page form.Comment o bs tt h, no_page_items, refl, tt, tt);
  element = refl;
}

end_passes : (b : Bool) → is_include_type ((if b then noinclude_typeof else onlyinclude_typeof) ++ codes "/End") ≡ true
unfolding noinclude_typeof onlyinclude_typeof no_include no_include_end only_include only_include_end include_only
end_passes true = refl
end_passes false = refl

name_passes : (b : Bool) → is_include_type (if b then noinclude_typeof else onlyinclude_typeof) ≡ true
unfolding noinclude_typeof onlyinclude_typeof no_include no_include_end only_include only_include_end include_only
name_passes true = refl
name_passes false = refl

include_passes : (o p : Option Tag) → is_include_type (include_typeof o p) ≡ true
include_passes None p = end_passes (is_noinclude (name_of p))
include_passes (Some t) p = name_passes (is_noinclude t.name)

include_node : (k : ℕ) (parent : Kind) (o : Option ℕ) (bs : List ℕ) → k < 200 → IsPageForm form.Include bs → IsWrittenNode k parent (form_leaf form.Include o bs)
unfolding label_at spelling
include_node k parent o bs small h = record {
  shown = (
    small,
    refl,
    record {
      element = refl;
      level = refl;
      source = record { own = subst IsUtf8 (sym (append-nil bs)) h.1; opening = refl; closing = refl };
      shown = refl;
      attrs = inl (
        include_typeof (opening_tag bs) (closing_tag bs),
        [],
        refl,
        include_passes (opening_tag bs) (closing_tag bs),
        refl,
        include_utf8 (include_typeof (opening_tag bs) (closing_tag bs)) (include_passes (opening_tag bs) (closing_tag bs)),
        refl,
      );
      origin = refl;
      mark = refl;
      mw = refl;
    },
    refl,
    (tt, tt),
  );
  page = (form_page form.Include o bs tt h, no_page_items, refl, tt, tt);
  element = refl;
}

hidden_passes : is_include_type includeonly_typeof ≡ true
unfolding includeonly_typeof no_include no_include_end only_include only_include_end include_only
hidden_passes = refl

hidden_node : (k : ℕ) (parent : Kind) (o : Option ℕ) (bs : List ℕ) → k < 200 → IsPageForm form.Hidden bs → IsWrittenNode k parent (form_leaf form.Hidden o bs)
unfolding label_at spelling
hidden_node k parent o bs small h = record {
  shown = (
    small,
    refl,
    record {
      element = refl;
      level = refl;
      source = record { own = subst IsUtf8 (sym (append-nil bs)) h.1; opening = refl; closing = refl };
      shown = refl;
      attrs = inl (includeonly_typeof, [], refl, hidden_passes, refl, include_utf8 (includeonly_typeof) (hidden_passes), refl);
      origin = refl;
      mark = refl;
      mw = refl;
    },
    refl,
    (tt, tt),
  );
  page = (form_page form.Hidden o bs tt h, no_page_items, refl, tt, tt);
  element = refl;
}

-- the mark of a call without output, which isn't written
empty_node : (k : ℕ) (parent : Kind) (o : Option ℕ) (bs : List ℕ) → IsGivenBy form.EmptyCall o → IsPageForm form.EmptyCall bs
    → IsWrittenNode k parent (form_leaf form.EmptyCall o bs)
unfolding label_at
empty_node k parent None bs g h = absurd g
empty_node k parent (Some n) bs g h = record {
  shown = (refl, refl);
  page = (form_page form.EmptyCall (Some n) bs tt h, no_page_items, refl, tt, refl);
  element = refl;
}

-- a mark may stand in any node
pub mark_node : (k : ℕ) (parent : Kind) (f : ItemForm) (o : Option ℕ) (bs : List ℕ) → k < 200 → is_mark_form f ≡ true → IsPageItem (whole f o bs)
    → IsWrittenNode k parent (whole_tree f o bs)
mark_node k parent form.Chars o bs small m h = absurd h.1
mark_node k parent (form.Entity c) o bs small m h = absurd cc
mark_node k parent form.Nowiki o bs small m h = absurd cc
mark_node k parent form.Extension o bs small m h = absurd cc
mark_node k parent form.Function o bs small m h = absurd cc
mark_node k parent form.Comment o bs small m h = comment_node k parent o bs small h.1
mark_node k parent form.Include o bs small m h = include_node k parent o bs small h.1
mark_node k parent form.Hidden o bs small m h = hidden_node k parent o bs small h.1
mark_node k parent form.EmptyCall o bs small m h = empty_node k parent o bs h.0 h.1

-- ---- functions, which are kept

pub island_type : HasAttributes kind.Island ((attr.Typeof, placeholder_typeof) ∷ [])
unfolding spelling placeholder_typeof placeholder extension_prefix
island_type = inl (placeholder_typeof, [], refl, refl, refl, IsUtf8-are_ascii (codes "mw:Placeholder") refl, refl)

pub function_node : (k : ℕ) (parent : Kind) (o : Option ℕ) (bs : List ℕ) → k < 200 → may_hold parent kind.Island ≡ true
    → IsPageForm form.Function bs → IsWrittenNode k parent (form_leaf form.Function o bs)
unfolding label_at spelling placeholder_typeof placeholder extension_prefix
function_node k parent o bs small e h = record {
  shown = (
    small,
    e,
    record {
      element = refl;
      level = refl;
      source = record { own = subst IsUtf8 (sym (append-nil bs)) h.1; opening = refl; closing = refl };
      shown = refl;
      attrs = island_type;
      origin = refl;
      mark = refl;
      mw = refl;
    },
    refl,
    (tt, tt),
  );
  page = (form_page form.Function o bs tt h, no_page_items, refl, tt, tt);
  element = refl;
}

-- ---- the three parts of a raw tag

tag_place : (bs : List ℕ) (o : Option Tag) → opening_tag bs ≡ o → IsUtf8 bs → IsCharBoundary bs (len_of o)
tag_place bs None e u = IsCharBoundary-start bs u
tag_place bs (Some t) e u = tag_border bs t u e

opening_place : (bs : List ℕ) → IsUtf8 bs → IsCharBoundary bs (opening_len bs)
opening_place bs u = tag_place bs (opening_tag bs) refl u

pub opening_utf8 : (bs : List ℕ) → IsUtf8 bs → IsUtf8 (opening_of bs)
opening_utf8 bs u = IsUtf8-take bs (opening_len bs) u (opening_place bs u)

behind_utf8 : (bs : List ℕ) → IsUtf8 bs → IsUtf8 (behind bs)
behind_utf8 bs u = IsUtf8-drop bs (opening_len bs) u (opening_place bs u)

before_le : (name bs : List ℕ) → before_closing name bs ≤ length bs
before_le name [] = omega arith
before_le name (b ∷ bs) = by_test (is_some (len_if_named name (closing_tag (b ∷ bs)))) (before_le name bs)
  where
    by_test : (t : Bool) → before_closing name bs ≤ length bs → (if t then 0 else 1 + before_closing name bs) ≤ suc (length bs)
    by_test true h = omega arith
    by_test false h = omega arith

before_sign : (name bs : List ℕ) → before_closing name bs < length bs → get_or bs (before_closing name bs) 0 ≡ 60
before_sign name [] h = absurd (omega arith)
before_sign name (b ∷ bs) h = by_test (is_some (len_if_named name (closing_tag (b ∷ bs)))) refl (before_sign name bs) h
  where
    by_test : (t : Bool) → is_some (len_if_named name (closing_tag (b ∷ bs))) ≡ t
        → (before_closing name bs < length bs → get_or bs (before_closing name bs) 0 ≡ 60)
        → (if t then 0 else 1 + before_closing name bs) < suc (length bs) → get_or (b ∷ bs) (if t then 0 else 1 + before_closing name bs) 0 ≡ 60
    by_test true e more h = closing_sign name (b ∷ bs) e
    by_test false e more h = let z : 1 + before_closing name bs ≡ suc (before_closing name bs) = omega arith in
        ap (λ n. get_or (b ∷ bs) n 0) z ∙ more (omega arith)

inside_place : (bs : List ℕ) → IsCharBoundary (behind bs) (inside_len bs)
inside_place bs = sign_border (behind bs) (inside_len bs) (before_le (name_of (opening_tag bs)) (behind bs))
    (before_sign (name_of (opening_tag bs)) (behind bs))

pub inside_utf8 : (bs : List ℕ) → IsUtf8 bs → IsUtf8 (inside_of bs)
inside_utf8 bs u = IsUtf8-take (behind bs) (inside_len bs) (behind_utf8 bs u) (inside_place bs)

pub closing_utf8 : (bs : List ℕ) → IsUtf8 bs → IsUtf8 (closing_of bs)
closing_utf8 bs u = IsUtf8-drop (behind bs) (inside_len bs) (behind_utf8 bs u) (inside_place bs)

-- ---- extensions

named_tag : (named : List ℕ → Bool) (bs : List ℕ) → raw_by named (opening_tag bs) bs ≡ Some (length bs) → named (name_of (opening_tag bs)) ≡ true
named_tag named bs h = let q = raw_at named (opening_tag bs) bs (length bs) h in ap (λ o. named (name_of o)) q.1 ∙ q.2

extension_passes : (name : List ℕ) → is_extension name ≡ true → is_extension_type (extension_typeof name) ≡ true
unfolding extension_typeof extension_prefix
extension_passes name h = h

or_true_right : (b c : Bool) → c ≡ true → (b || c) ≡ true
or_true_right true c h = refl
or_true_right false c h = h

island_passes : (t : List ℕ) → is_extension_type t ≡ true → is_island_type t ≡ true
island_passes t h = or_true_right (bytes_eq t placeholder) (is_extension_type t) h

body_utf8 : (b : Bool) (bs : List ℕ) → IsUtf8 bs → IsUtf8IfAny (if b then None else Some bs)
body_utf8 true bs u = tt
body_utf8 false bs u = u

extension_has : (bs : List ℕ) → is_extension (name_of (opening_tag bs)) ≡ true → IsUtf8 bs → IsExtension (Some (extension_data bs))
unfolding extension_data
extension_has bs h u = (
  IsUtf8-are_ascii (name_of (opening_tag bs)) (extension_ascii (name_of (opening_tag bs)) h),
  body_utf8 (is_alone (opening_tag bs)) (inside_of bs) (inside_utf8 bs u),
)

pub extension_node : (k : ℕ) (parent : Kind) (o : Option ℕ) (bs : List ℕ) → k < 200 → may_hold parent kind.Island ≡ true
    → IsPageForm form.Extension bs → IsWrittenNode k parent (form_leaf form.Extension o bs)
unfolding label_at spelling
extension_node k parent o bs small e h =
    let n : is_extension (name_of (opening_tag bs)) ≡ true = named_tag is_extension bs h.0 in
    record {
      shown = (
        small,
        e,
        record {
          element = refl;
          level = refl;
          source = record { own = subst IsUtf8 (sym (append-nil bs)) h.1; opening = refl; closing = refl };
          shown = refl;
          attrs = inl (
            extension_typeof (name_of (opening_tag bs)),
            [],
            refl,
            island_passes (extension_typeof (name_of (opening_tag bs))) (extension_passes (name_of (opening_tag bs)) n),
            refl,
            extension_utf8 (extension_typeof (name_of (opening_tag bs))) (extension_passes (name_of (opening_tag bs)) n),
            refl,
          );
          origin = refl;
          mark = refl;
          mw = subst (λ (b : Bool). HasData b (Some (extension_data bs))) (sym (extension_passes (name_of (opening_tag bs)) n)) (extension_has bs n h.1);
        },
        refl,
        (tt, tt),
      );
      page = (form_page form.Extension o bs tt h, no_page_items, refl, tt, tt);
      element = refl;
    }
