-- An element in a group: its kind, and what is read of its attributes.
use Rattle.std.proofs.Common.{◌≡◌, ℕ, ◌<◌, ◌^◌, Bool, true, false, Option, Some, None, List, [], ◌∷◌, decimal, IsUtf8, refl, sym, ap, ap₂, ◌∙◌, subst, arith, codes}
use Rattle.std.specs.Prelude.{is_some, not, ◌==◌, ◌&&◌, ◌||◌, if◌then◌else◌}
use Rattle.wt_tree.specs.declared.kind.AttrName.{AttrName}
use Rattle.wt_tree.specs.declared.kind.AttrName.TheVariants as attr
use Rattle.wt_tree.specs.declared.kind.Kind.{Kind}
use Rattle.wt_tree.specs.declared.kind.Kind.TheVariants as kind
use Rattle.wt_span.specs.declared.tag_name.TagName.TheVariants as tag
use Rattle.wt_tree.specs.declared.row.Writing.{Writing}
use Rattle.wt_tree.specs.declared.row.Writing.TheVariants.{AsText, AsVoid, RoundCharacter, RoundChildren, AsSection, Unwritten}
use Rattle.wt_tree.specs.Kinds.{shape, writing, is_numbered, is_section, may_hold, spelling, fixed_attributes, element_name, attribute_name}
use Rattle.wt_tree.specs.Plain.{Face}
use Rattle.wt_tree.specs.Tiling.{is_group}
use Rattle.wt_schema.specs.Html.{face_attributes}
use Rattle.wt_html_grammar.specs.Markup.{Pair}
use Rattle.wt_html_grammar.proofs.Steps.{if_false}
use Rattle.wt_schema.specs.Attributes.{value_of, has, id_of, id_of_value, mark_of_value}
use Rattle.wt_schema.specs.Rows.{row, shows_text, own_of}
use Rattle.wt_schema.specs.Data.{Data, is_extension_of, no_data, no_data_if_good, mw_given, inner_data, id_for}
use Rattle.wt_schema.specs.Groups.{is_span}
use Rattle.wt_schema.specs.Fit.{label_for}
use Rattle.wt_schema.specs.GroupNodes.{element_label}
use Rattle.wt_schema.specs.Written.{value_at, IsFace}
use Rattle.wt_schema.proofs.Json.{ascii_then}
use Rattle.std.proofs.lemmas.Fmt.{IsAscii-decimal}
use Rattle.std.proofs.lemmas.Str.{IsUtf8-from_ascii}
use Rattle.wt_schema.proofs.Said.{Said, double, face_said, about_value, next_said, AreGood}
use Rattle.wt_schema.proofs.Order.{pairs, good_from, Rising, rising_weaken, whole_rising, rising_said, value_before, names_of, names_in, rises_behind, own_values, own_skip, own_read}
use Rattle.wt_schema.proofs.Labels.{are_said, same_label, row_is}
use Rattle.wt_schema.proofs.Rows.{IsElementKind, is_somewhere, element_kind, numbered, held}

-- ---- its kind

abbrev pub is_element : Writing → Bool
is_element AsText = false
is_element AsVoid = true
is_element RoundCharacter = true
is_element RoundChildren = true
is_element (AsSection n) = false
is_element Unwritten = false

element_writing : (k : Kind) → is_somewhere (shape k).class ≡ true → is_element (writing k) ≡ true
element_writing kind.Body e = absurd cc
element_writing kind.Sep e = absurd cc
element_writing kind.Text e = absurd cc
element_writing kind.Group e = absurd cc
element_writing kind.Empty e = absurd cc
element_writing (kind.Section n) e = absurd cc
element_writing k e = refl

no_group : (k : Kind) → is_somewhere (shape k).class ≡ true → is_group k ≡ false
no_group kind.Group e = absurd cc
no_group k e = refl

span_somewhere : (k : Kind) → is_span k ≡ true → is_somewhere (shape k).class ≡ true
span_somewhere (kind.Tag tag.Span) e = refl
span_somewhere k e = absurd cc

pub or_held : (a s e : Bool) → (a || (s && e)) ≡ true → (a ≡ false → s ≡ true)
or_held true s e h f = cc
or_held false true e h f = refl
or_held false false e h f = absurd (cc h)

-- where it may stand it is somewhere
pub held_somewhere : (parent k : Kind) (e : Bool) → (may_hold parent k || (is_span k && e)) ≡ true → is_section k ≡ false
    → is_somewhere (shape k).class ≡ true
held_somewhere parent k e h s = by_test (may_hold parent k) refl
  where
    by_test : (b : Bool) → may_hold parent k ≡ b → is_somewhere (shape k).class ≡ true
    by_test true t = held parent k t s
    by_test false t = span_somewhere k (or_held (may_hold parent k) (is_span k) e h t)

-- ---- its attributes

-- what is read of an element with these attributes, beside the group's number maybe
pub record IsInnerTold (f : Face) (ss : List Said) (number : Option (List ℕ)) : Type 0 where
  pub good : AreGood [] ss
  pub row : row (element_name f.kind) (pairs ss) ≡ Some f.kind
  pub about : value_of (codes "about") (pairs ss) ≡ number
  pub no_mw : has (codes "data-mw") (pairs ss) ≡ false
  pub data_is : inner_data f.kind (pairs ss) ≡ Some no_data
  pub label : (bs : List ℕ) → label_for f.kind (pairs ss) no_data bs ≡ element_label f

pub record IsFaceTold (f : Face) : Type 0 where
  pub kind : IsElementKind f.kind f.attrs
  pub element : is_element (writing f.kind) ≡ true
  pub other : is_group f.kind ≡ false
  pub rising : Rising 1 (face_attributes f)
  pub alone : IsInnerTold f (face_said (face_attributes f)) None
  pub next : (k : ℕ) → k < 2 ^ 64 → IsInnerTold f (next_said k (face_attributes f)) (Some (about_value k))

about_utf8 : (k : ℕ) → k < 2 ^ 64 → IsUtf8 (about_value k)
about_utf8 k h =
    ascii_then 35 _ (omega arith) (ascii_then 109 _ (omega arith) (ascii_then 119 _ (omega arith) (ascii_then 116 _ (omega arith)
    (IsUtf8-from_ascii (decimal k) (IsAscii-decimal k h)))))

-- with the group's number before the attributes
pub numbered_rising : (k : ℕ) (xs : List (AttrName × List ℕ)) → k < 2 ^ 64 → Rising 1 xs → Rising 0 ((attr.About, about_value k) ∷ xs)
numbered_rising k xs h r = (omega arith, omega arith, about_utf8 k h, r)

shows_none : (k : Kind) (bs : List ℕ) → shows_text k ≡ false → (if shows_text k then bs else []) ≡ []
shows_none k bs e = if_false (shows_text k) _ _ e

no_id : (k : Kind) (ps : List Pair) → value_of (codes "id") ps ≡ None → id_for k ps ≡ 0
no_id k ps e = by_test (is_numbered k)
  where
    by_test : (b : Bool) → (if b then id_of ps else 0) ≡ 0
    by_test true = ap id_of_value e
    by_test false = refl

inner_told : (f : Face) (ys : List (AttrName × List ℕ)) → IsFace f → IsElementKind f.kind f.attrs → is_numbered f.kind ≡ true → Rising 0 ys
    → value_at 1 ys ≡ value_at 1 (face_attributes f) → value_at 2 ys ≡ value_at 2 (face_attributes f)
    → value_at 3 ys ≡ value_at 3 (face_attributes f)
    → own_of (spelling f.kind).own (pairs (face_said ys)) ≡ f.attrs → IsInnerTold f (face_said ys) (value_at 0 ys)
inner_told f ys h k n r one two three own =
    let ps : List Pair = pairs (face_said ys) in
    let v = are_said ys [] r tt in
    let unnumbered : id_of ps ≡ 0 = ap id_of_value v.id in
    record {
      good = good_from 0 [] (face_said ys) tt (rising_said ys 0 [] r (omega arith) tt);
      row = row_is (element_name f.kind) (face_attributes f) ps f.kind (v.type ∙ one) (v.property ∙ two) (v.rel ∙ three) (k.row n);
      about = v.about;
      no_mw = ap is_some v.mw;
      data_is = ap₂ (λ (x : Bool) (y : Option Data). if x then None else y)
          (ap₂ (λ (x : Option (List ℕ)) (i : ℕ). is_some x || not (i == 0)) v.source unnumbered)
          (ap (λ o. no_data_if_good (mw_given (is_extension_of f.kind (value_of (attribute_name attr.Typeof) ps)) o)) v.mw);
      label = λ bs. same_label f.kind None (no_id f.kind ps v.id) refl refl refl refl (shows_none f.kind bs h.shows) own refl (ap mark_of_value v.edit);
    }

pub face_told : (f : Face) → IsFace f → is_somewhere (shape f.kind).class ≡ true → IsFaceTold f
face_told f h s =
    let xs : List (AttrName × List ℕ) = face_attributes f in
    let k : IsElementKind f.kind f.attrs = element_kind f.kind f.attrs s h.level h.attrs in
    let n : is_numbered f.kind ≡ true = numbered f.kind s in
    let r : Rising 1 xs = whole_rising (fixed_attributes f.kind) (spelling f.kind).own f.attrs 1 k.rises k.characters h.attrs in
    let own : own_of (spelling f.kind).own (pairs (face_said xs)) ≡ f.attrs =
    own_read (fixed_attributes f.kind) (spelling f.kind).own f.attrs 1 [] k.rises h.attrs tt in
    record {
      kind = k;
      element = element_writing f.kind s;
      other = no_group f.kind s;
      rising = r;
      alone = subst (λ o. IsInnerTold f (face_said xs) o) (value_before xs 1 0 (omega arith) r)
          (inner_told f xs h k n (rising_weaken 1 0 xs (omega arith) r) refl refl refl own);
      next = λ i small.
          let o : List Said = next_said i xs in
          let skip : own_of (spelling f.kind).own (pairs o) ≡ f.attrs =
          own_values (spelling f.kind).own o
          ∙ own_skip (spelling f.kind).own 1 (double attr.About (about_value i)) (face_said xs)
          (rises_behind 1 (names_in (fixed_attributes f.kind)) (names_of (spelling f.kind).own) k.rises) (omega arith)
          ∙ sym (own_values (spelling f.kind).own (face_said xs)) ∙ own in
          inner_told f ((attr.About, about_value i) ∷ xs) h k n (numbered_rising i xs small r) refl refl refl skip;
    }
