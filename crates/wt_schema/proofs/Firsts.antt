-- The first element of a group: what is read of its attributes for the group, and for itself.
use Rattle.std.proofs.Common.{◌≡◌, ℕ, suc, ◌≤◌, ◌<◌, ◌^◌, inl, inr, Bool, true, false, Option, Some, None, List, [], ◌∷◌, ◌++◌, map, option_map, IsUtf8, refl, sym, ap, ap₂, ◌∙◌, subst, arith, append_assoc, codes}
use Rattle.std.specs.Prelude.{is_some, not, ◌==◌, ◌||◌, if◌then◌else◌}
use Rattle.std.proofs.lemmas.Bool.Decides.{nat_tests}
use Rattle.std.proofs.lemmas.Str.{IsUtf8-append}
use Rattle.json.proofs.Printed.Utf8.{IsUtf8-are_ascii}
use Rattle.wt_tree.specs.declared.kind.AttrName.{AttrName}
use Rattle.wt_tree.specs.declared.kind.AttrName.TheVariants as attr
use Rattle.wt_tree.specs.declared.kind.Kind.TheVariants as kind
use Rattle.wt_tree.specs.declared.kind.Ranges.{Ranges}
use Rattle.wt_tree.specs.declared.node.DataMw.{DataMw}
use Rattle.wt_tree.specs.declared.node.DataMw.TheVariants as mw
use Rattle.wt_tree.specs.Kinds.{is_leaf, writing, attribute_name, order}
use Rattle.wt_tree.specs.Plain.{Face}
use Rattle.wt_tree.specs.Tree.{Label}
use Rattle.wt_datamw.specs.declared.sync.Sync.{Sync}
use Rattle.wt_datamw.specs.Mw.{mw_text}
use Rattle.wt_datamw.specs.Sync.{sync_text}
use Rattle.wt_schema.specs.Html.{sync_of, face_attributes, with_type}
use Rattle.wt_html_grammar.specs.Markup.{Pair}
use Rattle.wt_schema.specs.declared.standing.Standing.TheVariants as stands
use Rattle.wt_schema.specs.Attributes.{value_of, id_of_value, mark_of_value}
use Rattle.wt_schema.specs.Groups.{standing, standing_by, transclusion, param, word_in, word_of, word_attribute, own_type, own_pair, own_pairs}
use Rattle.wt_schema.specs.Data.{Data, is_for, sync_fits, both, parts_in, parts_of, group_data}
use Rattle.wt_schema.specs.Fit.{group_label}
use Rattle.wt_schema.specs.Unsourced.{is_unsourced}
use Rattle.wt_schema.specs.Written.{label_read, ranges_read, HasPlaces, HasSource, IsUtf8IfAny, value_at, IsWord, HasParts, IsGroupLabel}
use Rattle.wt_datamw.proofs.SyncTold.{sync_read}
use Rattle.wt_schema.proofs.Json.{sync_utf8}
use Rattle.wt_schema.proofs.Said.{Said, own_said, mw_said, sync_said, carried, face_said, about_value, first_said, AreGood}
use Rattle.wt_schema.proofs.Order.{pairs, Rise, good_from, Rising, rising_weaken, rising_said}
use Rattle.wt_schema.proofs.Labels.{tail, tail_rise, id_utf8, tail_said, AreSaid, are_said, IsSync, sync_is, sync_fits_is, number_is, number_said_is, same_label, parts_label, with_places}
use Rattle.wt_schema.proofs.Faces.{numbered_rising}

-- ---- the word of a group

record IsReadWord (w : List ℕ) : Type 0 where
  pub alone : word_in w ≡ Some w
  pub joined : (t : List ℕ) → word_in (w ++ (32 ∷ t)) ≡ Some w
  pub own_alone : own_type w ≡ []
  pub own_joined : (t : List ℕ) → own_type (w ++ (32 ∷ t)) ≡ (codes "typeof", t) ∷ []
  pub characters : IsUtf8 w

transclusion_read : IsReadWord transclusion
unfolding transclusion param
transclusion_read =
    record { alone = refl; joined = λ t. refl; own_alone = refl; own_joined = λ t. refl; characters = IsUtf8-are_ascii (codes "mw:Transclusion") refl }

param_read : IsReadWord param
unfolding transclusion param
param_read = record { alone = refl; joined = λ t. refl; own_alone = refl; own_joined = λ t. refl; characters = IsUtf8-are_ascii (codes "mw:Param") refl }

word_read : (w : List ℕ) → IsWord w → IsReadWord w
word_read w (inl e) = subst IsReadWord (sym e) transclusion_read
word_read w (inr e) = subst IsReadWord (sym e) param_read

-- ---- the attributes of the element's own

plain_pair : (n : AttrName) (v : List ℕ) → 1 < order n → order n < 11 → own_pair (attribute_name n, v) ≡ (attribute_name n, v) ∷ []
unfolding attribute_name
plain_pair attr.About v l m = absurd (omega (arith, l))
plain_pair attr.Typeof v l m = absurd (omega (arith, l))
plain_pair attr.Property v l m = refl
plain_pair attr.Rel v l m = refl
plain_pair attr.Href v l m = refl
plain_pair attr.Class v l m = refl
plain_pair attr.Colspan v l m = refl
plain_pair attr.Rowspan v l m = refl
plain_pair attr.Scope v l m = refl
plain_pair attr.Lang v l m = refl
plain_pair attr.Dir v l m = refl
plain_pair attr.Id v l m = absurd (omega (arith, m))
plain_pair attr.DataMw v l m = absurd (omega (arith, m))
plain_pair attr.DataParsoid v l m = absurd (omega (arith, m))

typeof_name : (n : AttrName) → (order n == 1) ≡ true → attribute_name n ≡ attribute_name attr.Typeof
typeof_name attr.Typeof e = refl
typeof_name n e = absurd cc

plain_own : (ys : List (AttrName × List ℕ)) (b : ℕ) (ts : List Said) → 2 ≤ b → Rising b ys → own_pairs (pairs ts) ≡ []
    → own_pairs (pairs (map own_said ys ++ ts)) ≡ pairs (face_said ys)
plain_own [] b ts l r e = e
plain_own (y ∷ ys) b ts l r e =
    ap₂ (λ (x z : List Pair). x ++ z) (plain_pair y.0 y.1 (omega (arith, l, r.0)) r.1) (plain_own ys (suc (order y.0)) ts (omega (arith, l, r.0)) r.3 e)

-- with the group's word before them or joined to their `typeof`
record IsTyped (w : List ℕ) (xs ys : List (AttrName × List ℕ)) : Type 0 where
  pub rising : Rising 1 ys
  pub word : word_of (value_at 1 ys) ≡ Some w
  pub own : (ts : List Said) → own_pairs (pairs ts) ≡ [] → own_pairs (pairs (map own_said ys ++ ts)) ≡ pairs (face_said xs)

own_typeof : (t : List ℕ) (ps qs : List Pair) → own_type t ≡ qs → own_pairs ((attribute_name attr.Typeof, t) ∷ ps) ≡ qs ++ own_pairs ps
unfolding attribute_name
own_typeof t ps qs e = ap (λ x. x ++ own_pairs ps) e

typed_alone : (w : List ℕ) → IsReadWord w → IsTyped w [] ((attr.Typeof, w) ∷ [])
typed_alone w h = record {
  rising = (omega arith, omega arith, h.characters, tt);
  word = h.alone;
  own = λ ts e. own_typeof w (pairs ts) [] h.own_alone ∙ e;
}

joined_text : (w t : List ℕ) → IsReadWord w → IsUtf8 t → IsUtf8 (w ++ (32 ∷ t))
joined_text w t h u = IsUtf8-append w (32 ∷ t) h.characters (IsUtf8-append (32 ∷ []) t (IsUtf8-are_ascii (32 ∷ []) refl) u)

name_typeof : attribute_name attr.Typeof ≡ codes "typeof"
unfolding attribute_name
name_typeof = refl

typed_by : (b : Bool) (w : List ℕ) (x : AttrName × List ℕ) (xs : List (AttrName × List ℕ)) → IsReadWord w → (order x.0 == 1) ≡ b → Rising 1 (x ∷ xs)
    → IsTyped w (x ∷ xs) ((if b then (attr.Typeof, w ++ (32 ∷ x.1)) ∷ [] else (attr.Typeof, w) ∷ x ∷ []) ++ xs)
typed_by true w x xs h e r =
    let two : 2 ≤ suc (order x.0) = omega (arith, r.0) in
    record {
      rising = (omega arith, omega arith, joined_text w x.1 h r.2, rising_weaken (suc (order x.0)) 2 xs two r.3);
      word = h.joined x.1;
      own = λ ts f. own_typeof (w ++ (32 ∷ x.1)) (pairs (map own_said xs ++ ts)) ((codes "typeof", x.1) ∷ []) (h.own_joined x.1)
          ∙ ap₂ (λ (n : List ℕ) (z : List Pair). (n, x.1) ∷ z) (sym name_typeof ∙ sym (typeof_name x.0 e)) (plain_own xs (suc (order x.0)) ts two r.3 f);
    }
typed_by false w x xs h e r =
    let two : 2 ≤ order x.0 = behind_one (order x.0) r.0 e in
    let more : Rising 2 (x ∷ xs) = (two, r.1, r.2, r.3) in
    record {
      rising = (omega arith, omega arith, h.characters, more);
      word = h.alone;
      own = λ ts f. own_typeof w (pairs (map own_said (x ∷ xs) ++ ts)) [] h.own_alone ∙ plain_own (x ∷ xs) 2 ts (omega arith) more f;
    }
  where
    behind_one : (n : ℕ) → 1 ≤ n → (n == 1) ≡ false → 2 ≤ n
    behind_one n l e = grind (arith, nat_tests)

joined_is : (w t : List ℕ) → w ++ codes " " ++ t ≡ w ++ (32 ∷ t)
joined_is w t = append_assoc w (32 ∷ []) t

typed : (w : List ℕ) (xs : List (AttrName × List ℕ)) → IsReadWord w → Rising 1 xs → IsTyped w xs (with_type ((attr.Typeof, w) ∷ []) xs)
typed w [] h r = typed_alone w h
typed w (x ∷ xs) h r =
    subst (λ t. IsTyped w (x ∷ xs) ((if order x.0 == 1 then (attr.Typeof, t) ∷ [] else (attr.Typeof, w) ∷ x ∷ []) ++ xs)) (sym (joined_is w x.1))
    (typed_by (order x.0 == 1) w x xs h refl r)

-- ---- the number and the data are the group's

tail_groups : (b : Bool) (n : ℕ) (d : Option DataMw) (t : List ℕ) → own_pairs (pairs (tail b n d t)) ≡ []
unfolding attribute_name
tail_groups true n None t = refl
tail_groups true n (Some x) t = refl
tail_groups false n None t = refl
tail_groups false n (Some x) t = refl

about_groups : (v : List ℕ) (ps : List Pair) → own_pairs ((attribute_name attr.About, v) ∷ ps) ≡ own_pairs ps
unfolding attribute_name
about_groups v ps = refl

parts_utf8 : (o : Option DataMw) → HasParts o → IsUtf8IfAny (option_map mw_text o)
parts_utf8 None h = absurd h
parts_utf8 (Some (mw.Extension name body)) h = absurd h
parts_utf8 (Some (mw.Parts parts)) h = h.0

parts_read : (o : Option DataMw) → HasParts o → parts_of (option_map mw_text o) ≡ Some o
parts_read None h = absurd h
parts_read (Some (mw.Extension name body)) h = absurd h
parts_read (Some (mw.Parts parts)) h = ap parts_in h.1

parts_some : (o : Option DataMw) → HasParts o → is_some (option_map mw_text o) ≡ true
parts_some None h = absurd h
parts_some (Some d) h = refl

-- what is read of the first element of group k
pub record IsFirstTold (k : ℕ) (l : Label) (f : Face) : Type 0 where
  pub good : AreGood [] (first_said k l (face_attributes f))
  pub stands : (group : Option (List ℕ)) → standing group (pairs (first_said k l (face_attributes f))) ≡ stands.First
  pub about : value_of (codes "about") (pairs (first_said k l (face_attributes f))) ≡ Some (about_value k)
  pub own : own_pairs (pairs (first_said k l (face_attributes f))) ≡ pairs (face_said (face_attributes f))
  pub told : Data
  pub data_is : group_data false (pairs (first_said k l (face_attributes f))) ≡ Some told
  pub label : group_label (pairs (first_said k l (face_attributes f))) told ≡ label_read l
  pub sourced : is_unsourced (pairs (first_said k l (face_attributes f))) ≡ false

group_places : (l : Label) → l.kind ≡ kind.Group → ranges_read (writing l.kind) l.ranges ≡ l.ranges
group_places l e = ap (λ j. ranges_read (writing j) l.ranges) e

word_found : (o : Option (List ℕ)) (w : List ℕ) (ps : List Pair) → value_of (attribute_name attr.Typeof) ps ≡ o → word_of o ≡ Some w
    → word_of (value_of (codes "typeof") ps) ≡ Some w
unfolding attribute_name
word_found o w ps t e = ap word_of t ∙ e

told_by : (k : ℕ) (l : Label) (f : Face) (w : List ℕ) (r : Ranges) (s : Sync) (ys : List (AttrName × List ℕ)) → k < 2 ^ 64
    → IsGroupLabel l → HasPlaces (Some r) → l.ranges ≡ Some r → IsSync l r s → l.attrs ≡ (attr.Typeof, w) ∷ []
    → IsTyped w (face_attributes f) ys
    → first_said k l (face_attributes f) ≡ map own_said ((attr.About, about_value k) ∷ ys) ++ tail (l.id == 0) l.id l.mw (sync_text s)
    → IsFirstTold k l f
told_by k l f w r s ys small h p e y a t q =
    let xs : List (AttrName × List ℕ) = face_attributes f in
    let ps : List Pair = pairs (first_said k l xs) in
    let zs : List (AttrName × List ℕ) = (attr.About, about_value k) ∷ ys in
    let ts : List Said = tail (l.id == 0) l.id l.mw (sync_text s) in
    let few : l.id < 2 ^ 32 = h.number.1 in
    let places : HasPlaces (Some s.dsr) = subst (λ x. HasPlaces (Some x)) (sym y.places) p in
    let rise : Rise 11 ts =
    tail_rise (l.id == 0) l.id l.mw (sync_text s) (id_utf8 l.id (omega arith)) (parts_utf8 l.mw h.mw)
    (sync_utf8 s places y.opening_utf8 y.closing_utf8 y.own_utf8) in
    let rising : Rising 0 zs = numbered_rising k ys small t.rising in
    let v : AreSaid zs ts ps = subst (λ ss. AreSaid zs ts (pairs ss)) (sym q) (are_said zs ts rising rise) in
    let i = tail_said (l.id == 0) l.id l.mw (sync_text s) in
    let is_group : is_for kind.Group s ≡ true = ap (λ j. is_for j s) (sym h.kind) ∙ y.kind in
    record {
      good = subst (AreGood []) (sym q) (good_from 0 [] (map own_said zs ++ ts) tt (rising_said zs 0 ts rising (omega arith) rise));
      stands = λ group. ap₂ (λ o b. standing_by group o b) v.about (ap is_some (v.mw ∙ i.mw) ∙ parts_some l.mw h.mw);
      about = v.about;
      own = ap (λ ss. own_pairs (pairs ss)) q ∙ about_groups (about_value k) (pairs (map own_said ys ++ ts))
          ∙ t.own ts (tail_groups (l.id == 0) l.id l.mw (sync_text s));
      told = record { sync = Some s; mw = l.mw };
      data_is = ap₂ both (ap (sync_fits kind.Group) (v.source ∙ i.source) ∙ sync_fits_is kind.Group s (sync_text s) (sync_read s places) is_group)
          (ap parts_of (v.mw ∙ i.mw) ∙ parts_read l.mw h.mw);
      label = same_label kind.Group l.mw (ap id_of_value (v.id ∙ i.id) ∙ number_said_is l.id few)
          (ap Some y.places ∙ sym e ∙ sym (group_places l h.kind)) y.opening y.closing y.own (sym h.shown)
          (ap word_attribute (word_found (value_at 1 ys) w ps v.type t.word) ∙ sym a) (sym h.origin) (ap mark_of_value v.edit ∙ sym h.mark)
          ∙ ap (λ j. parts_label j l.id (ranges_read (writing l.kind) l.ranges) l.opening l.closing l.own l.shown l.attrs l.origin l.mark l.mw) (sym h.kind);
      sourced = ap₂ (λ x z. not (is_some x) || is_some z) (v.source ∙ i.source) v.edit;
    }

pub first_told : (k : ℕ) (l : Label) (f : Face) → k < 2 ^ 64 → IsGroupLabel l → Rising 1 (face_attributes f) → IsFirstTold k l f
first_told k l f small h r =
    let xs : List (AttrName × List ℕ) = face_attributes f in
    let w : List ℕ = h.attrs.0 in
    let t : IsTyped w xs (with_type ((attr.Typeof, w) ∷ []) xs) = typed w xs (word_read w h.attrs.2) r in
    with_places (λ o. l.ranges ≡ o → IsFirstTold k l f)
    (λ q p e.
    told_by k l f w q (sync_of l q) (with_type ((attr.Typeof, w) ∷ []) xs) small h p e (sync_is l q (source_is q)) h.attrs.1 t
    (ap₂ (λ (x : List (AttrName × List ℕ)) (y : List Said). map own_said ((attr.About, about_value k) ∷ with_type x xs) ++ y) h.attrs.1 (carried_full l q e)))
    l.ranges h.places refl
  where
    source_is : (q : Ranges) → HasSource (is_leaf l.kind) l
    source_is q = subst (λ j. HasSource (is_leaf j) l) (sym h.kind) h.source

    carried_full : (l : Label) (q : Ranges) → l.ranges ≡ Some q → carried l ≡ tail (l.id == 0) l.id l.mw (sync_text (sync_of l q))
    carried_full l q e = ap₂ (λ (x y : List Said). x ++ y) (number_is l.id) (ap (λ o. mw_said l.mw ++ sync_said l o) e)
