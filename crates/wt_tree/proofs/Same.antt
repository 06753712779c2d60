-- Derived comparisons say whether two values are the same one: of kinds, of attributes and of what
-- `data-mw` holds.
use Rattle.std.proofs.Common.{◌≡◌, ℕ, Bool, true, false, refl, sym, ap, ◌∙◌, subst, inl, inr, ◌⊎◌, List, [], ◌∷◌}
use Rattle.std.specs.Prelude.{◌==◌, ◌&&◌}
use Rattle.std.specs.Bool.{Decides}
use Rattle.std.proofs.lemmas.Bool.Decides.{Decides-eqb, Decides-like}
use Rattle.wt_tree.specs.declared.kind.Kind.{Kind}
use Rattle.wt_span.specs.declared.tag_name.TagName.{TagName}
use Rattle.wt_tree.specs.contracts.kind.KindPartialEq.TheImpl.{eq-value}
use Rattle.wt_span.specs.contracts.tag_name.TagNamePartialEq.TheImpl as tag
use Rattle.wt_tree.specs.contracts.kind.Kind.{the_parts, as_values, the_make, the_eta}
use Rattle.wt_span.specs.contracts.tag_name.TagName.{the_type}
use Rattle.std.specs.Prelude.{Option, Some, None, option_copied}
use denote.Ref.{Bor}
use Rattle.std.specs.Option.{option_eq}
use Rattle.wt_tree.specs.declared.node.Attr.{Attr}
use Rattle.wt_tree.specs.declared.node.Part.{Part}
use Rattle.wt_tree.specs.declared.node.DataMw.{DataMw}
use Rattle.wt_tree.specs.contracts.node.AttrPartialEq.TheImpl.{eq-value as attr_eq}
use Rattle.wt_tree.specs.contracts.node.PartPartialEq.TheImpl.{eq-value as part_eq}
use Rattle.wt_tree.specs.contracts.node.DataMwPartialEq.TheImpl.{eq-value as data_eq}
use Rattle.wt_tree.specs.declared.node.Part.TheVariants as part
use Rattle.wt_tree.specs.declared.node.DataMw.TheVariants as data_mw
use Rattle.wt_tree.specs.declared.kind.AttrName.{AttrName}
use Rattle.wt_tree.specs.contracts.kind.AttrName.{the_type as name_type}
use Rattle.std.specs.Cmp.Lexicographic.{pointwise}
use Rattle.std.specs.Prelude.{nat_eq}
use Rattle.std.proofs.lemmas.Slice.Eq.{slice_eq-Decides}
use Rattle.std.proofs.lemmas.Bool.Decides.{Decides-and}
use denote.Enum.Bare.{sameb, same_true, true_same}
use denote.Enum.Compared.{Each, by}
use denote.Enum.Declared.{Choice, left_or, right_or}
use denote.Struct.Field.{Field}
use denote.Struct.Values.{Values}

-- each variant's test decides whether two values of it are the same
abbrev EachDecides : (Fss : List (List Field)) → Each Bool Fss → Type 0
EachDecides [] each = Unit {0}
EachDecides (Fs ∷ Fss) each = ((x y : Values Fs) → Decides (each.0 x y) (x ≡ y)) × EachDecides Fss each.1

abbrev IsLeft : {A B : Type 0} → A ⊎ B → Type 0
IsLeft (inl x) = Unit {0}
IsLeft (inr y) = ⊥

by_decides : (Fss : List (List Field)) (each : Each Bool Fss) → EachDecides Fss each → (c d : Choice Fss) → Decides (by false false Fss each c d) (c ≡ d)
by_decides [] each h c d = absurd c
by_decides (Fs ∷ Fss) each h (inl x) (inl y) = (λ e. ap inl ((h.0 x y).0 e), λ e. (h.0 x y).1 (ap (left_or x) e))
by_decides (Fs ∷ Fss) each h (inl x) (inr d) = (λ e. cc, λ e. absurd (subst IsLeft e tt))
by_decides (Fs ∷ Fss) each h (inr c) (inl y) = (λ e. cc, λ e. absurd (subst IsLeft (sym e) tt))
by_decides (Fs ∷ Fss) each h (inr c) (inr d) =
    let r = by_decides Fss each.1 h.1 c d in
    (λ e. ap inr (r.0 e), λ e. r.1 (ap (right_or c) e))

abbrev unit_test : Unit {0} → Unit {0} → Bool
unit_test x y = true

abbrev level_test : ℕ × Unit {0} → ℕ × Unit {0} → Bool
level_test x y = x.0 == y.0

abbrev tag_test : TagName × Unit {0} → TagName × Unit {0} → Bool
tag_test x y = tag.eq-value.it x.0 y.0

unit_decides : (x y : Unit {0}) → Decides (unit_test x y) (x ≡ y)
unit_decides x y = (λ e. refl, λ e. refl)

level_decides : (x y : ℕ × Unit {0}) → Decides (level_test x y) (x ≡ y)
level_decides x y =
    let d = Decides-eqb x.0 y.0 in
    (λ e. ap (λ (n : ℕ). (n, tt)) (d.0 e), λ e. d.1 (ap (λ (p : ℕ × Unit {0}). p.0) e))

tag_decides : (x y : TagName × Unit {0}) → Decides (tag_test x y) (x ≡ y)
tag_decides x y =
    (λ e. ap (λ (n : TagName). (n, tt)) (same_true the_type tt x.0 y.0 e), λ e. true_same the_type x.0 y.0 (ap (λ (p : TagName × Unit {0}). p.0) e))

abbrev tests : Each Bool the_parts
tests = (unit_test, (level_test, (unit_test, (level_test, (unit_test, (unit_test, (unit_test, (unit_test, (unit_test, (unit_test, (unit_test, (unit_test, (unit_test, (unit_test, (unit_test, (unit_test, (unit_test, (unit_test, (unit_test, (unit_test, (unit_test, (unit_test, (unit_test, (tag_test, (unit_test, (unit_test, (unit_test, (unit_test, (unit_test, (unit_test, (unit_test, (unit_test, (unit_test, (unit_test, (unit_test, (unit_test, tt))))))))))))))))))))))))))))))))))))

each_decides : EachDecides the_parts tests
each_decides = (unit_decides, (level_decides, (unit_decides, (level_decides, (unit_decides, (unit_decides, (unit_decides, (unit_decides, (unit_decides, (unit_decides, (unit_decides, (unit_decides, (unit_decides, (unit_decides, (unit_decides, (unit_decides, (unit_decides, (unit_decides, (unit_decides, (unit_decides, (unit_decides, (unit_decides, (unit_decides, (tag_decides, (unit_decides, (unit_decides, (unit_decides, (unit_decides, (unit_decides, (unit_decides, (unit_decides, (unit_decides, (unit_decides, (unit_decides, (unit_decides, (unit_decides, tt))))))))))))))))))))))))))))))))))))

pub kind_decides : (a b : Kind) → Decides (eq-value.it a b) (a ≡ b)
kind_decides a b =
    Decides-like (eq-value.it a b) (λ e. sym (the_eta a) ∙ ap the_make e ∙ the_eta b) (λ e. ap as_values e)
    (by_decides the_parts tests each_decides (as_values a) (as_values b))

-- derived tests of the other types
pub option_decides : {A : Type 0} (E : A → A → Bool) → ((x y : A) → Decides (E x y) (x ≡ y)) → (a b : Option A) → Decides (option_eq E a b) (a ≡ b)
option_decides E h None None = (λ e. refl, λ e. refl)
option_decides E h None (Some y) = (λ e. cc, λ e. cc)
option_decides E h (Some x) None = (λ e. cc, λ e. cc)
option_decides E h (Some x) (Some y) = (λ e. ap Some ((h x y).0 e), λ e. (h x y).1 (cc e))

bytes_same : (a b : List ℕ) → Decides (pointwise nat_eq a b) (a ≡ b)
bytes_same a b = slice_eq-Decides Decides-eqb a b (pointwise nat_eq a b) refl

abbrev pair_test : List ℕ × List ℕ → List ℕ × List ℕ → Bool
pair_test p q = pointwise nat_eq p.0 q.0 && pointwise nat_eq p.1 q.1

pair_same : (p q : List ℕ × List ℕ) → Decides (pair_test p q) (p ≡ q)
pair_same p q =
    Decides-like (pair_test p q) (λ h i. (h.0 i, h.1 i)) (λ e. (ap (λ (r : List ℕ × List ℕ). r.0) e, ap (λ (r : List ℕ × List ℕ). r.1) e))
    (Decides-and (pointwise nat_eq p.0 q.0) (pointwise nat_eq p.1 q.1) (bytes_same p.0 q.0) (bytes_same p.1 q.1))

pairs_same : (ps qs : List (List ℕ × List ℕ)) → Decides (pointwise pair_test ps qs) (ps ≡ qs)
pairs_same ps qs = slice_eq-Decides pair_same ps qs (pointwise pair_test ps qs) refl

name_same : (a b : AttrName) → Decides (sameb name_type a b) (a ≡ b)
name_same a b = (λ e. same_true name_type tt a b e, λ e. true_same name_type a b e)

attr_same : (a b : Attr) → Decides (attr_eq.it a b) (a ≡ b)
attr_same a b =
    Decides-like (attr_eq.it a b) (λ h i. record { name = h.0 i; value = h.1 i }) (λ e. (ap (λ (r : Attr). r.name) e, ap (λ (r : Attr). r.value) e))
    (Decides-and (sameb name_type a.name b.name) (pointwise nat_eq a.value b.value) (name_same a.name b.name) (bytes_same a.value b.value))

pub attrs_same : (xs ys : List Attr) → Decides (pointwise attr_eq.it xs ys) (xs ≡ ys)
attrs_same xs ys = slice_eq-Decides attr_same xs ys (pointwise attr_eq.it xs ys) refl

part_same : (a b : Part) → Decides (part_eq.it a b) (a ≡ b)
part_same (part.Template t h ps i) (part.Template u k qs j) =
    Decides-like (part_eq.it (part.Template t h ps i) (part.Template u k qs j)) (λ e. cc (e.0, e.1.0, e.1.1.0, e.1.1.1)) (λ e. (cc, (cc, (cc, cc))))
    (Decides-and (pointwise nat_eq t u) (pointwise nat_eq h k && (pointwise pair_test ps qs && nat_eq i j)) (bytes_same t u)
    (Decides-and (pointwise nat_eq h k) (pointwise pair_test ps qs && nat_eq i j) (bytes_same h k)
    (Decides-and (pointwise pair_test ps qs) (nat_eq i j) (pairs_same ps qs) (Decides-eqb i j))))
part_same (part.Template t h ps i) (part.Function n u qs j) = (λ e. cc, λ e. cc)
part_same (part.Template t h ps i) (part.Param u) = (λ e. cc, λ e. cc)
part_same (part.Template t h ps i) (part.Literal u) = (λ e. cc, λ e. cc)
part_same (part.Function t h ps i) (part.Template u k qs j) = (λ e. cc, λ e. cc)
part_same (part.Function t h ps i) (part.Function u k qs j) =
    Decides-like (part_eq.it (part.Function t h ps i) (part.Function u k qs j)) (λ e. cc (e.0, e.1.0, e.1.1.0, e.1.1.1)) (λ e. (cc, (cc, (cc, cc))))
    (Decides-and (pointwise nat_eq t u) (pointwise nat_eq h k && (pointwise pair_test ps qs && nat_eq i j)) (bytes_same t u)
    (Decides-and (pointwise nat_eq h k) (pointwise pair_test ps qs && nat_eq i j) (bytes_same h k)
    (Decides-and (pointwise pair_test ps qs) (nat_eq i j) (pairs_same ps qs) (Decides-eqb i j))))
part_same (part.Function t h ps i) (part.Param u) = (λ e. cc, λ e. cc)
part_same (part.Function t h ps i) (part.Literal u) = (λ e. cc, λ e. cc)
part_same (part.Param t) (part.Template u k qs j) = (λ e. cc, λ e. cc)
part_same (part.Param t) (part.Function n u qs j) = (λ e. cc, λ e. cc)
part_same (part.Param t) (part.Param u) = Decides-like (pointwise nat_eq t u) (λ e. ap part.Param e) (λ e. cc) (bytes_same t u)
part_same (part.Param t) (part.Literal u) = (λ e. cc, λ e. cc)
part_same (part.Literal t) (part.Template u k qs j) = (λ e. cc, λ e. cc)
part_same (part.Literal t) (part.Function n u qs j) = (λ e. cc, λ e. cc)
part_same (part.Literal t) (part.Param u) = (λ e. cc, λ e. cc)
part_same (part.Literal t) (part.Literal u) = Decides-like (pointwise nat_eq t u) (λ e. ap part.Literal e) (λ e. cc) (bytes_same t u)

data_same : (a b : DataMw) → Decides (data_eq.it a b) (a ≡ b)
data_same (data_mw.Parts xs) (data_mw.Parts ys) =
    Decides-like (pointwise part_eq.it xs ys) (λ e. ap data_mw.Parts e) (λ e. cc) (slice_eq-Decides part_same xs ys (pointwise part_eq.it xs ys) refl)
data_same (data_mw.Parts xs) (data_mw.Extension n b) = (λ e. cc, λ e. cc)
data_same (data_mw.Extension m a) (data_mw.Parts ys) = (λ e. cc, λ e. cc)
data_same (data_mw.Extension m a) (data_mw.Extension n b) =
    Decides-like (pointwise nat_eq m n && option_eq (pointwise nat_eq) a b) (λ e. cc (e.0, e.1)) (λ e. (cc, cc))
    (Decides-and (pointwise nat_eq m n) (option_eq (pointwise nat_eq) a b) (bytes_same m n) (option_decides (pointwise nat_eq) bytes_same a b))

-- the same behind references
pub mw_same : (a b : Option (Bor DataMw)) → Decides (option_eq (λ x y. data_eq.it x.now y.now) a b) (option_copied a ≡ option_copied b)
mw_same None None = (λ e. refl, λ e. refl)
mw_same None (Some y) = (λ e. cc, λ e. cc)
mw_same (Some x) None = (λ e. cc, λ e. cc)
mw_same (Some x) (Some y) = (λ e. ap Some ((data_same x.now y.now).0 e), λ e. (data_same x.now y.now).1 (cc e))
