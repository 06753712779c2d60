-- What is read of the label of an element: its kind, its number, its places, its source and its data.
use Rattle.std.proofs.Common.{◌≡◌, ℕ, ◌<◌, ◌≤◌, ◌^◌, Bool, true, false, Option, Some, None, List, [], ◌∷◌, ◌++◌, map, decimal, IsUtf8, refl, sym, ap, ap₂, ◌∙◌, subst, arith, codes, option_map}
use Rattle.std.specs.Prelude.{Ok, is_some, not, ◌==◌, ◌&&◌, ◌||◌, if◌then◌else◌}
use Rattle.std.proofs.lemmas.Bool.{eqb-true}
use Rattle.std.proofs.lemmas.Bool.Decides.{nat_tests}
use Rattle.std.proofs.lemmas.Fmt.{IsAscii-decimal}
use Rattle.std.proofs.lemmas.Str.{IsUtf8-from_ascii, IsUtf8-nil}
use Rattle.wt_tree.specs.declared.kind.AttrName.{AttrName}
use Rattle.wt_tree.specs.declared.kind.AttrName.TheVariants as attr
use Rattle.wt_tree.specs.declared.kind.Kind.{Kind}
use Rattle.wt_tree.specs.declared.kind.Mark.{Mark}
use Rattle.wt_span.specs.declared.origin.Origin.{Origin}
use Rattle.wt_tree.specs.declared.kind.Ranges.{Ranges}
use Rattle.wt_tree.specs.declared.node.DataMw.{DataMw}
use Rattle.wt_tree.specs.declared.node.DataMw.TheVariants as mw
use Rattle.wt_tree.specs.Kinds.{is_leaf, is_numbered, spelling, fixed_attributes, element_name, attribute_name}
use Rattle.wt_tree.specs.Tree.{Label}
use Rattle.wt_datamw.specs.declared.sync.Sync.{Sync}
use Rattle.wt_datamw.specs.Mw.{mw_text}
use Rattle.wt_datamw.specs.Sync.{sync_text}
use Rattle.wt_datamw.specs.SyncRead.{sync_told}
use Rattle.wt_schema.specs.Html.{leaf_sync, inner_sync, sync_of}
use Rattle.wt_html_grammar.specs.Markup.{Pair}
use Rattle.wt_html_grammar.proofs.Steps.{if_true, if_false}
use Rattle.wt_schema.specs.Sections.{is_section_name}
use Rattle.wt_schema.proofs.SectionNames.{no_section}
use Rattle.wt_schema.specs.Attributes.{value_of, has, or_zero, id_of_value, id_of, mark_of_value}
use Rattle.wt_schema.specs.Rows.{row_by, row, shows_text, own_of, attrs_for}
use Rattle.wt_schema.specs.Data.{Data, is_for, sync_for, some_sync, sync_fits, is_extension_of, mw_for, mw_fits, both, data_of, id_for}
use Rattle.wt_schema.specs.Fit.{source_of, label_for}
use Rattle.wt_schema.specs.Unsourced.{is_marked, is_unsourced}
use Rattle.wt_schema.specs.Written.{label_read, HasPlaces, IsNumber, IsLeafSource, IsInnerSource, HasSource, IsUtf8IfAny, HasData, value_at, is_extension_label, IsElementLabel}
use Rattle.wt_datamw.proofs.SyncTold.{sync_read}
use Rattle.wt_schema.proofs.Json.{ascii_then, sync_utf8, extension_utf8, extension_read}
use Rattle.wt_schema.proofs.Said.{Said, double, single, own_said, id_said, mw_said, sync_said, whole, said_of, AreGood}
use Rattle.wt_schema.proofs.Order.{pairs, look, Rise, good_from, value_is, no_edit, look_before, look_of, look_past, Rising, rising_weaken, whole_rising, rising_said, value_before, value_behind, own_read}
use Rattle.wt_schema.proofs.Numbers.{number_told}
use Rattle.wt_schema.proofs.Rows.{IsElementKind}

-- ---- the attributes behind the node's own: the number and the data, where there is one, and the source

abbrev pub number_said : Bool → ℕ → List Said
number_said true id = []
number_said false id = double attr.Id (109 ∷ 119 ∷ decimal id) ∷ []

abbrev pub source_said : List ℕ → List Said
source_said t = single attr.DataParsoid t ∷ []

abbrev pub tail : Bool → ℕ → Option DataMw → List ℕ → List Said
tail b id d t = number_said b id ++ (mw_said d ++ source_said t)

pub number_is : (id : ℕ) → id_said id ≡ number_said (id == 0) id
number_is id = by_test (id == 0)
  where
    by_test : (b : Bool) → (if b then [] else double attr.Id (109 ∷ 119 ∷ decimal id) ∷ []) ≡ number_said b id
    by_test true = refl
    by_test false = refl

said_full : (l : Label) (r : Ranges) → l.ranges ≡ Some r → said_of l ≡ map own_said (whole l) ++ tail (l.id == 0) l.id l.mw (sync_text (sync_of l r))
said_full l r e = ap₂ (λ (x y : List Said). map own_said (whole l) ++ (x ++ y)) (number_is l.id) (ap (λ o. mw_said l.mw ++ sync_said l o) e)

-- ---- they are good

pub id_utf8 : (id : ℕ) → id < 2 ^ 64 → IsUtf8 (109 ∷ 119 ∷ decimal id)
id_utf8 id h = ascii_then 109 _ (omega arith) (ascii_then 119 _ (omega arith) (IsUtf8-from_ascii (decimal id) (IsAscii-decimal id h)))

pub tail_rise : (b : Bool) (id : ℕ) (d : Option DataMw) (t : List ℕ) → IsUtf8 (109 ∷ 119 ∷ decimal id)
    → IsUtf8IfAny (option_map mw_text d) → IsUtf8 t → Rise 11 (tail b id d t)
tail_rise true id None t i d u = (omega arith, u, tt)
tail_rise true id (Some x) t i d u = (omega arith, d, (omega arith, u, tt))
tail_rise false id None t i d u = (omega arith, i, (omega arith, u, tt))
tail_rise false id (Some x) t i d u = (omega arith, i, (omega arith, d, (omega arith, u, tt)))

-- ---- what they say

-- the value of the number's attribute
abbrev pub number_value : Bool → ℕ → Option (List ℕ)
number_value true id = None
number_value false id = Some (109 ∷ 119 ∷ decimal id)

pub record IsTail (b : Bool) (n : ℕ) (d : Option DataMw) (t : List ℕ) (ss : List Said) : Type 0 where
  pub id : look 11 ss ≡ number_value b n
  pub mw : look 12 ss ≡ option_map mw_text d
  pub source : look 13 ss ≡ Some t

pub tail_said : (b : Bool) (n : ℕ) (d : Option DataMw) (t : List ℕ) → IsTail b n d t (tail b n d t)
tail_said true n None t = record { id = refl; mw = refl; source = refl }
tail_said true n (Some x) t = record { id = refl; mw = refl; source = refl }
tail_said false n None t = record { id = refl; mw = refl; source = refl }
tail_said false n (Some x) t = record { id = refl; mw = refl; source = refl }

id_value : (ss : List Said) → value_of (codes "id") (pairs ss) ≡ look 11 ss
unfolding attribute_name
id_value ss = value_is attr.Id ss

mw_value : (ss : List Said) → value_of (codes "data-mw") (pairs ss) ≡ look 12 ss
unfolding attribute_name
mw_value ss = value_is attr.DataMw ss

source_value : (ss : List Said) → value_of (codes "data-parsoid") (pairs ss) ≡ look 13 ss
unfolding attribute_name
source_value ss = value_is attr.DataParsoid ss

about_value : (ss : List Said) → value_of (codes "about") (pairs ss) ≡ look 0 ss
unfolding attribute_name
about_value ss = value_is attr.About ss

-- what is found among attributes in their order, and others behind them
pub record AreSaid (xs : List (AttrName × List ℕ)) (ss : List Said) (ps : List Pair) : Type 0 where
  pub about : value_of (codes "about") ps ≡ value_at 0 xs
  pub type : value_of (attribute_name attr.Typeof) ps ≡ value_at 1 xs
  pub property : value_of (attribute_name attr.Property) ps ≡ value_at 2 xs
  pub rel : value_of (attribute_name attr.Rel) ps ≡ value_at 3 xs
  pub id : value_of (codes "id") ps ≡ look 11 ss
  pub mw : value_of (codes "data-mw") ps ≡ look 12 ss
  pub source : value_of (codes "data-parsoid") ps ≡ look 13 ss
  pub edit : value_of (codes "data-wt-edit") ps ≡ None

pub are_said : (xs : List (AttrName × List ℕ)) (ts : List Said) → Rising 0 xs → Rise 11 ts → AreSaid xs ts (pairs (map own_said xs ++ ts))
are_said xs ts h r =
    let ss : List Said = map own_said xs ++ ts in
    let early : (k : ℕ) → k < 11 → look k ss ≡ value_at k xs = λ k l. look_of k xs ts (look_before k 11 ts l r) in
    let late : (k : ℕ) → 11 ≤ k → look k ss ≡ look k ts = λ k l. look_past k xs ts (value_behind xs 0 k l h) in
    record {
      about = about_value ss ∙ early 0 (omega arith);
      type = value_is attr.Typeof ss ∙ early 1 (omega arith);
      property = value_is attr.Property ss ∙ early 2 (omega arith);
      rel = value_is attr.Rel ss ∙ early 3 (omega arith);
      id = id_value ss ∙ late 11 (omega arith);
      mw = mw_value ss ∙ late 12 (omega arith);
      source = source_value ss ∙ late 13 (omega arith);
      edit = no_edit ss;
    }

-- the values that attributes have, and none of other names
record IsSaid (xs : List (AttrName × List ℕ)) (b : Bool) (n : ℕ) (d : Option DataMw) (t : List ℕ) (ps : List Pair) : Type 0 where
  pub type : value_of (attribute_name attr.Typeof) ps ≡ value_at 1 xs
  pub property : value_of (attribute_name attr.Property) ps ≡ value_at 2 xs
  pub rel : value_of (attribute_name attr.Rel) ps ≡ value_at 3 xs
  pub id : value_of (codes "id") ps ≡ number_value b n
  pub mw : value_of (codes "data-mw") ps ≡ option_map mw_text d
  pub source : value_of (codes "data-parsoid") ps ≡ Some t
  pub about : value_of (codes "about") ps ≡ None
  pub edit : value_of (codes "data-wt-edit") ps ≡ None

full_said : (xs : List (AttrName × List ℕ)) (b : Bool) (n : ℕ) (d : Option DataMw) (t : List ℕ) → Rising 1 xs
    → Rise 11 (tail b n d t) → IsSaid xs b n d t (pairs (map own_said xs ++ tail b n d t))
full_said xs b n d t h r =
    let q = tail_said b n d t in
    let v = are_said xs (tail b n d t) (rising_weaken 1 0 xs (omega arith) h) r in
    record {
      type = v.type;
      property = v.property;
      rel = v.rel;
      id = v.id ∙ q.id;
      mw = v.mw ∙ q.mw;
      source = v.source ∙ q.source;
      about = v.about ∙ value_before xs 1 0 (omega arith) h;
      edit = v.edit;
    }

-- ---- the number

pub number_said_is : (id : ℕ) → id < 2 ^ 32 → id_of_value (number_value (id == 0) id) ≡ id
number_said_is id h = by_test (id == 0) refl
  where
    some : (id : ℕ) → (id == 0) ≡ false → 0 < id
    some id e = grind (arith, nat_tests)

    by_test : (b : Bool) → (id == 0) ≡ b → id_of_value (number_value b id) ≡ id
    by_test true e = sym (eqb-true id 0 e)
    by_test false e = ap or_zero (number_told id (some id e) h)

pub small_number : (b : Bool) (n : ℕ) → IsNumber b n → n < 2 ^ 32
small_number true n h = h.1
small_number false n h = omega arith

pub small_id : (l : Label) → IsElementLabel l → l.id < 2 ^ 64
small_id l h = let small : l.id < 2 ^ 32 = small_number _ l.id h.number in omega arith

id_is : (k : Kind) (ps : List Pair) (id : ℕ) → IsNumber (is_numbered k) id → id_of ps ≡ id → id_for k ps ≡ id
id_is k ps id h e = by_test (is_numbered k) h
  where
    by_test : (b : Bool) → IsNumber b id → (if b then id_of ps else 0) ≡ id
    by_test true h = e
    by_test false h = sym h

-- ---- the source

-- what the source of a label is written as
pub record IsSync (l : Label) (r : Ranges) (s : Sync) : Type 0 where
  pub places : s.dsr ≡ r
  pub kind : is_for l.kind s ≡ true
  pub opening : s.opening ≡ l.opening
  pub closing : s.closing ≡ l.closing
  pub own : source_of s.src ≡ l.own
  pub opening_utf8 : IsUtf8 s.opening
  pub closing_utf8 : IsUtf8 s.closing
  pub own_utf8 : IsUtf8IfAny s.src

leaf_is : (l : Label) (r : Ranges) → is_leaf l.kind ≡ true → IsLeafSource l → IsSync l r (leaf_sync l r)
leaf_is l r e h = record {
  places = refl;
  kind = if_true (is_leaf l.kind) _ _ e;
  opening = sym h.opening;
  closing = sym h.closing;
  own = refl;
  opening_utf8 = IsUtf8-nil;
  closing_utf8 = IsUtf8-nil;
  own_utf8 = h.own;
}

inner_is : (l : Label) (r : Ranges) → is_leaf l.kind ≡ false → IsInnerSource l → IsSync l r (inner_sync l r)
inner_is l r e h = record {
  places = refl;
  kind = if_false (is_leaf l.kind) _ _ e;
  opening = refl;
  closing = refl;
  own = sym h.own;
  opening_utf8 = h.opening;
  closing_utf8 = h.closing;
  own_utf8 = tt;
}

pub sync_is : (l : Label) (r : Ranges) → HasSource (is_leaf l.kind) l → IsSync l r (sync_of l r)
unfolding sync_of
sync_is l r h = by_test (is_leaf l.kind) refl h
  where
    by_test : (b : Bool) → is_leaf l.kind ≡ b → HasSource b l → IsSync l r (if b then leaf_sync l r else inner_sync l r)
    by_test true e h = leaf_is l r e h
    by_test false e h = inner_is l r e h

pub sync_fits_is : (k : Kind) (s : Sync) (t : List ℕ) → sync_told t ≡ Ok s → is_for k s ≡ true → sync_fits k (Some t) ≡ Some (Some s)
sync_fits_is k s t e f = ap (λ o. some_sync (sync_for k o)) e ∙ ap some_sync (if_true (is_for k s) _ _ f)

-- ---- the data of an extension

mw_utf8 : (b : Bool) (o : Option DataMw) → HasData b o → IsUtf8IfAny (option_map mw_text o)
mw_utf8 true None h = absurd h
mw_utf8 true (Some (mw.Parts parts)) h = absurd h
mw_utf8 true (Some (mw.Extension name body)) h = extension_utf8 name body h.0 h.1
mw_utf8 false o h = let P : Option DataMw → Type 0 = λ o. IsUtf8IfAny (option_map mw_text o) in subst P (sym h) tt

mw_fits_is : (x : Bool) (o : Option DataMw) → HasData x o → mw_fits x (option_map mw_text o) ≡ Some o
mw_fits_is true None h = absurd h
mw_fits_is true (Some (mw.Parts parts)) h = absurd h
mw_fits_is true (Some (mw.Extension name body)) h = ap (mw_for true) (extension_read name body)
mw_fits_is false o h = ap (λ y. mw_fits false (option_map mw_text y)) h ∙ ap Some (sym h)

-- ---- the whole label

-- what is read of the label's attributes
pub record IsTold (l : Label) : Type 0 where
  pub good : AreGood [] (said_of l)
  pub row : is_numbered l.kind ≡ true → row (element_name l.kind) (pairs (said_of l)) ≡ Some l.kind
  pub sourced : is_unsourced (pairs (said_of l)) ≡ false
  pub marked : is_marked (pairs (said_of l)) ≡ false
  pub alone : value_of (codes "about") (pairs (said_of l)) ≡ None
  pub told : Data
  pub data_is : data_of l.kind (pairs (said_of l)) ≡ Some told
  pub label_is : (bs : List ℕ) → (if shows_text l.kind then bs else []) ≡ l.shown → label_for l.kind (pairs (said_of l)) told bs ≡ label_read l

pub with_places : (P : Option Ranges → Type 0) → ((r : Ranges) → HasPlaces (Some r) → P (Some r)) → (o : Option Ranges) → HasPlaces o → P o
with_places P f None h = absurd h
with_places P f (Some r) h = f r h

abbrev pub parts_label : Kind → ℕ → Option Ranges → List ℕ → List ℕ → List ℕ → List ℕ → List (AttrName × List ℕ) → Option Origin → Mark → Option DataMw → Label
parts_label k id r o c w s a g m d = record {
  kind = k;
  id = id;
  ranges = r;
  opening = o;
  closing = c;
  own = w;
  shown = s;
  attrs =
      a;
  origin = g;
  mark = m;
  mw = d;
}

pub same_label : (k : Kind) (d : Option DataMw) {i j : ℕ} {q r : Option Ranges} {o p c e w v s t : List ℕ} {a b : List
    (AttrName × List ℕ)} {g h : Option Origin} {m n : Mark}
    → i ≡ j → q ≡ r → o ≡ p → c ≡ e → w ≡ v → s ≡ t → a ≡ b → g ≡ h → m ≡ n
    → parts_label k i q o c w s a g m d ≡ parts_label k j r p e v t b h n d
same_label k d ei eq eo ec ew es ea eg em = rw (ei, eq, eo, ec, ew, es, ea, eg, em)

pub row_is : (name : List ℕ) (xs : List (AttrName × List ℕ)) (ps : List Pair) (k : Kind)
    → value_of (attribute_name attr.Typeof) ps ≡ value_at 1 xs → value_of (attribute_name attr.Property) ps ≡ value_at 2 xs
    → value_of (attribute_name attr.Rel) ps ≡ value_at 3 xs → row_by name (value_at 1 xs) (value_at 2 xs) (value_at 3 xs) ≡ Some k → row name ps ≡ Some k
row_is name xs ps k t p r f =
    if_false (is_section_name name) _ _ (no_section name (value_at 1 xs) (value_at 2 xs) (value_at 3 xs) k f)
    ∙ ap (λ o. row_by name o (value_of (attribute_name attr.Property) ps) (value_of (attribute_name attr.Rel) ps)) t
    ∙ ap (λ o. row_by name (value_at 1 xs) o (value_of (attribute_name attr.Rel) ps)) p
    ∙ ap (row_by name (value_at 1 xs) (value_at 2 xs)) r
    ∙ f

told_by : (l : Label) (r : Ranges) (s : Sync) → IsElementKind l.kind l.attrs → IsElementLabel l → HasPlaces (Some r) → l.ranges ≡ Some r → IsSync l r s
    → said_of l ≡ map own_said (whole l) ++ tail (l.id == 0) l.id l.mw (sync_text s) → IsTold l
told_by l r s k h p e y q =
    let ps : List Pair = pairs (said_of l) in
    let ts : List Said = tail (l.id == 0) l.id l.mw (sync_text s) in
    let small : l.id < 2 ^ 32 = small_number _ l.id h.number in
    let places : HasPlaces (Some s.dsr) = subst (λ x. HasPlaces (Some x)) (sym y.places) p in
    let rise : Rise 11 ts =
    tail_rise (l.id == 0) l.id l.mw (sync_text s) (id_utf8 l.id (omega arith)) (mw_utf8 _ l.mw h.mw)
    (sync_utf8 s places y.opening_utf8 y.closing_utf8 y.own_utf8) in
    let rising : Rising 1 (whole l) = whole_rising (fixed_attributes l.kind) (spelling l.kind).own l.attrs 1 k.rises k.characters h.attrs in
    let v : IsSaid (whole l) (l.id == 0) l.id l.mw (sync_text s) ps =
    subst (λ ss. IsSaid (whole l) (l.id == 0) l.id l.mw (sync_text s) (pairs ss)) (sym q)
    (full_said (whole l) (l.id == 0) l.id l.mw (sync_text s) rising rise) in
    let attrs : attrs_for l.kind ps ≡ l.attrs =
    ap (λ ss. own_of (spelling l.kind).own (pairs ss)) q ∙ own_read (fixed_attributes l.kind) (spelling l.kind).own l.attrs 1 ts k.rises h.attrs rise in
    record {
      good = subst (AreGood []) (sym q) (good_from 1 [] (map own_said (whole l) ++ ts) tt (rising_said (whole l) 1 ts rising (omega arith) rise));
      row = λ n. row_is (element_name l.kind) (whole l) ps l.kind v.type v.property v.rel (k.row n);
      sourced = ap₂ (λ x z. not (is_some x) || is_some z) v.source v.edit;
      marked = ap is_some v.edit;
      alone = v.about;
      told = record { sync = Some s; mw = l.mw };
      data_is = ap (λ b. if b && has (codes "data-wt-edit") ps then None
          else both (sync_fits l.kind (value_of (codes "data-parsoid") ps))
          (mw_fits (is_extension_of l.kind (value_of (attribute_name attr.Typeof) ps)) (value_of (codes "data-mw") ps))) h.element
          ∙ ap₂ both (ap (sync_fits l.kind) v.source ∙ sync_fits_is l.kind s (sync_text s) (sync_read s places) y.kind)
          (ap₂ mw_fits (ap (is_extension_of l.kind) v.type) v.mw ∙ mw_fits_is (is_extension_label l) l.mw h.mw);
      label_is = λ bs f. same_label l.kind l.mw (id_is l.kind ps l.id h.number (ap id_of_value v.id ∙ number_said_is l.id small))
          (ap Some y.places ∙ sym e ∙ sym (k.placed l.ranges)) y.opening y.closing y.own f
          attrs (sym h.origin) (ap mark_of_value v.edit ∙ sym h.mark);
    }

pub told : (l : Label) → IsElementKind l.kind l.attrs → IsElementLabel l → IsTold l
told l k h = with_places (λ o. l.ranges ≡ o → IsTold l)
    (λ r p e. told_by l r (sync_of l r) k h p e (sync_is l r h.source) (said_full l r e)) l.ranges h.places refl
