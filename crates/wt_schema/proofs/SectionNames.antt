-- No row has the name of a section: which of the two is asked first makes no difference.
use Rattle.std.proofs.Common.{◌≡◌, ℕ, Bool, true, false, Option, Some, None, List, [], ◌∷◌, refl, sym, ap, ◌∙◌, codes}
use Rattle.std.specs.Prelude.{find, not, ◌&&◌, if◌then◌else◌}
use Rattle.std.proofs.lemmas.Bool.{and_parts}
use Rattle.std.specs.Fmt.{digits}
use Rattle.std.proofs.lemmas.Slice.Eq.{bytes_eq-Decides}
use Rattle.wt_tree.specs.declared.kind.Kind.{Kind}
use Rattle.wt_tree.specs.declared.kind.AttrName.TheVariants as attr
use Rattle.wt_tree.specs.Kinds.{spelling, tag_name}
use Rattle.wt_schema.specs.Rows.{read_kinds, is_named, tells, is_row, row_by}
use Rattle.wt_schema.specs.Sections.{is_section_name}

abbrev are_named_otherwise : List ℕ → List Kind → Bool
are_named_otherwise name [] = true
are_named_otherwise name (k ∷ ks) = not (is_named name k) && are_named_otherwise name ks

none_found : (name : List ℕ) (type property rel : Option (List ℕ)) (ks : List Kind) → are_named_otherwise name ks ≡ true
    → find (is_row name type property rel) ks ≡ None
none_found name type property rel [] h = refl
none_found name type property rel (k ∷ ks) h =
    let q = and_parts (not (is_named name k)) (are_named_otherwise name ks) h in
    ap (λ b. if b && (tells attr.Typeof type k && (tells attr.Property property k && tells attr.Rel rel k)) then Some k
    else find (is_row name type property rel) ks) (other_name (is_named name k) q.0)
    ∙ none_found name type property rel ks q.1
  where
    other_name : (c : Bool) → not c ≡ true → c ≡ false
    other_name true e = absurd (cc e)
    other_name false e = refl

rows_are_named : are_named_otherwise (codes "section") read_kinds ≡ true
unfolding spelling tag_name digits
rows_are_named = refl

pub no_row : (name : List ℕ) (type property rel : Option (List ℕ)) → is_section_name name ≡ true → row_by name type property rel ≡ None
no_row name type property rel e =
    ap (λ x. row_by x type property rel) ((bytes_eq-Decides name (codes "section")).0 e)
    ∙ none_found (codes "section") type property rel read_kinds rows_are_named

-- what is read by a row isn't named as a section
pub no_section : (name : List ℕ) (type property rel : Option (List ℕ)) (k : Kind) → row_by name type property rel ≡ Some k
    → is_section_name name ≡ false
no_section name type property rel k h = by_test (is_section_name name) refl
  where
    by_test : (b : Bool) → is_section_name name ≡ b → is_section_name name ≡ false
    by_test true e = let z : Path (Option Kind) None (Some k) = sym (no_row name type property rel e) ∙ h in absurd (cc z)
    by_test false e = e
