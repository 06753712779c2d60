-- Each comparison decides whether its two sides are one.
use Rattle.std.proofs.Common.{◌≡◌, ℕ, Bool, true, false, List, [], ◌∷◌, refl, sym, ap, ◌∙◌}
use denote.Ref.{Bor}
use Rattle.std.specs.Prelude.{◌==◌, ◌&&◌, if◌then◌else◌, Option, Some, None}
use Rattle.std.specs.Bool.{Decides}
use Rattle.std.specs.Option.{option_eq}
use Rattle.std.specs.Str.{bytes_eq}
use Rattle.std.proofs.lemmas.Bool.Decides.{Decides-eqb, Decides-like, Decides-and}
use Rattle.std.proofs.lemmas.Slice.Eq.{bytes_eq-Decides}
use Rattle.wt_tree.specs.declared.kind.Kind.{Kind}
use Rattle.wt_tree.specs.declared.kind.AttrName.{AttrName}
use Rattle.wt_tree.specs.declared.kind.AttrName.TheVariants as attr
use Rattle.wt_tree.specs.declared.node.DataMw.{DataMw}
use Rattle.wt_tree.specs.Kinds.{order}
use Rattle.wt_tree.specs.Plain.{Face}
use Rattle.wt_tree.specs.Stream.{Bracket, opens, closes, StreamToken, byte, bracket}
use Rattle.wt_tree.specs.contracts.node.DataMwPartialEq.TheImpl.{eq-value as data_eq}
use Rattle.wt_tree.proofs.Same.{kind_decides, mw_same}
use Rattle.wt_checks.specs.Alike.{same_kind, same_attrs, same_data}
use Rattle.wt_checks.specs.Groups.{same_face, same_bracket, same_sign, same_signs}
use Rattle.wt_checks.specs.Unmarked.{Entry, text, child, same_entry, same_entries}

pub kinds_decide : (a b : Kind) → Decides (same_kind a b) (a ≡ b)
unfolding same_kind
kinds_decide a b = kind_decides a b

-- some reference to it: where it points doesn't count
abbrev behind : DataMw → Bor DataMw
behind d = record { ref_ptr = (0, 0); now = d }

pub values_decide : (a b : Option DataMw) → Decides (option_eq data_eq.it a b) (a ≡ b)
values_decide None None = mw_same None None
values_decide None (Some y) = mw_same None (Some (behind y))
values_decide (Some x) None = mw_same (Some (behind x)) None
values_decide (Some x) (Some y) = mw_same (Some (behind x)) (Some (behind y))

pub data_decide : (a b : Option DataMw) → Decides (same_data a b) (a ≡ b)
unfolding same_data
data_decide a b = values_decide a b

-- the name with a place in the order
abbrev name_at : ℕ → AttrName
name_at n =
    if n == 0 then attr.About
    else (if n == 1 then attr.Typeof
    else (if n == 2 then attr.Property
    else (if n == 3 then attr.Rel
    else (if n == 4 then attr.Href
    else (if n == 5 then attr.Class
    else (if n == 6 then attr.Colspan
    else (if n == 7 then attr.Rowspan
    else (if n == 8 then attr.Scope
    else (if n == 9 then attr.Lang
    else (if n == 10 then attr.Dir
    else (if n == 11 then attr.Id
    else (if n == 12 then attr.DataMw
    else attr.DataParsoid))))))))))))

name_ordered : (a : AttrName) → name_at (order a) ≡ a
name_ordered attr.About = refl
name_ordered attr.Typeof = refl
name_ordered attr.Property = refl
name_ordered attr.Rel = refl
name_ordered attr.Href = refl
name_ordered attr.Class = refl
name_ordered attr.Colspan = refl
name_ordered attr.Rowspan = refl
name_ordered attr.Scope = refl
name_ordered attr.Lang = refl
name_ordered attr.Dir = refl
name_ordered attr.Id = refl
name_ordered attr.DataMw = refl
name_ordered attr.DataParsoid = refl

names_decide : (a b : AttrName) → Decides (order a == order b) (a ≡ b)
names_decide a b = let d = Decides-eqb (order a) (order b) in (λ e. sym (name_ordered a) ∙ ap name_at (d.0 e) ∙ name_ordered b, λ e. d.1 (ap order e))

attr_decides : (a b : AttrName × List ℕ) → Decides ((order a.0 == order b.0) && bytes_eq a.1 b.1) (a ≡ b)
attr_decides a b =
    Decides-like ((order a.0 == order b.0) && bytes_eq a.1 b.1) (λ h i. (h.0 i, h.1 i))
    (λ e. (ap (λ (p : AttrName × List ℕ). p.0) e, ap (λ (p : AttrName × List ℕ). p.1) e))
    (Decides-and (order a.0 == order b.0) (bytes_eq a.1 b.1) (names_decide a.0 b.0) (bytes_eq-Decides a.1 b.1))

and_assoc : (a b c : Bool) → ((a && b) && c) ≡ (a && (b && c))
and_assoc true b c = refl
and_assoc false b c = refl

cons_decides : {X : Type 0} (r s : Bool) (x y : X) (xs ys : List X) → Decides r (x ≡ y) → Decides s (xs ≡ ys) → Decides (r && s) (x ∷ xs ≡ y ∷ ys)
cons_decides r s x y xs ys d e = Decides-like (r && s) (λ h. cc (h.0, h.1)) (λ q. (cc, cc)) (Decides-and r s d e)

pub attrs_decide : (xs ys : List (AttrName × List ℕ)) → Decides (same_attrs xs ys) (xs ≡ ys)
attrs_decide [] [] = (λ e. refl, λ e. refl)
attrs_decide [] (y ∷ ys) = (λ e. cc, λ e. cc)
attrs_decide (x ∷ xs) [] = (λ e. cc, λ e. cc)
attrs_decide (x ∷ xs) (y ∷ ys) =
    rw (← and_assoc (order x.0 == order y.0) (bytes_eq x.1 y.1) (same_attrs xs ys))
    (cons_decides ((order x.0 == order y.0) && bytes_eq x.1 y.1) (same_attrs xs ys) x y xs ys (attr_decides x y) (attrs_decide xs ys))

entry_decides : (a b : Entry) → Decides (same_entry a b) (a ≡ b)
entry_decides (text xs) (text ys) = Decides-like (bytes_eq xs ys) (λ e. ap text e) (λ e. cc) (bytes_eq-Decides xs ys)
entry_decides (text xs) (child n) = (λ e. cc, λ e. cc)
entry_decides (child m) (text ys) = (λ e. cc, λ e. cc)
entry_decides (child m) (child n) = Decides-like (m == n) (λ e. ap child e) (λ e. cc) (Decides-eqb m n)

pub entries_decide : (xs ys : List Entry) → Decides (same_entries xs ys) (xs ≡ ys)
entries_decide [] [] = (λ e. refl, λ e. refl)
entries_decide [] (y ∷ ys) = (λ e. cc, λ e. cc)
entries_decide (x ∷ xs) [] = (λ e. cc, λ e. cc)
entries_decide (x ∷ xs) (y ∷ ys) = cons_decides (same_entry x y) (same_entries xs ys) x y xs ys (entry_decides x y) (entries_decide xs ys)

face_decides : (f g : Face) → Decides (same_face f g) (f ≡ g)
face_decides f g =
    Decides-like (same_face f g) (λ h i. record { kind = h.0 i; attrs = h.1.0 i; mw = h.1.1 i })
    (λ e. (ap (λ (x : Face). x.kind) e, (ap (λ (x : Face). x.attrs) e, ap (λ (x : Face). x.mw) e)))
    (Decides-and (same_kind f.kind g.kind) (same_attrs f.attrs g.attrs && same_data f.mw g.mw) (kinds_decide f.kind g.kind)
    (Decides-and (same_attrs f.attrs g.attrs) (same_data f.mw g.mw) (attrs_decide f.attrs g.attrs) (data_decide f.mw g.mw)))

bracket_decides : (j k : Bracket) → Decides (same_bracket j k) (j ≡ k)
bracket_decides (opens f) (opens g) = Decides-like (same_face f g) (λ e. ap opens e) (λ e. cc) (face_decides f g)
bracket_decides (opens f) closes = (λ e. cc, λ e. cc)
bracket_decides closes (opens g) = (λ e. cc, λ e. cc)
bracket_decides closes closes = (λ e. refl, λ e. refl)

sign_decides : (s t : StreamToken) → Decides (same_sign s t) (s ≡ t)
sign_decides (byte a) (byte b) = Decides-like (a == b) (λ e. ap byte e) (λ e. cc) (Decides-eqb a b)
sign_decides (byte a) (bracket k) = (λ e. cc, λ e. cc)
sign_decides (bracket j) (byte b) = (λ e. cc, λ e. cc)
sign_decides (bracket j) (bracket k) = Decides-like (same_bracket j k) (λ e. ap bracket e) (λ e. cc) (bracket_decides j k)

pub signs_decide : (xs ys : List StreamToken) → Decides (same_signs xs ys) (xs ≡ ys)
signs_decide [] [] = (λ e. refl, λ e. refl)
signs_decide [] (y ∷ ys) = (λ e. cc, λ e. cc)
signs_decide (x ∷ xs) [] = (λ e. cc, λ e. cc)
signs_decide (x ∷ xs) (y ∷ ys) = cons_decides (same_sign x y) (same_signs xs ys) x y xs ys (sign_decides x y) (signs_decide xs ys)
