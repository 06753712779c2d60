-- Which kinds an element is read as: a section by its name alone, or else one that is neither a body nor a
-- section and that holds no section.
use Rattle.std.proofs.Common.{◌≡◌, ℕ, Bool, true, false, Option, Some, None, List, [], ◌∷◌, refl, ap, ◌∙◌}
use Rattle.std.specs.Prelude.{find, not, ◌&&◌, if◌then◌else◌}
use Rattle.std.proofs.lemmas.Bool.{and_parts}
use Rattle.wt_tree.specs.declared.kind.Kind.{Kind}
use Rattle.wt_tree.specs.declared.kind.Kind.TheVariants as kind
use Rattle.wt_tree.specs.declared.kind.AttrName.TheVariants as attr
use Rattle.wt_tree.specs.Kinds.{attribute_name, may_hold}
use Rattle.wt_html_grammar.specs.Markup.{Pair}
use Rattle.wt_schema.specs.Attributes.{value_of}
use Rattle.wt_schema.specs.Rows.{read_kinds, is_row, row_by, row}
use Rattle.wt_schema.specs.Sections.{is_section_name}
use Rattle.wt_checks.specs.PutBack.{is_frame}

-- a section may stand directly in an element of this kind
abbrev pub holds_sections : Kind → Bool
holds_sections k = may_hold k (kind.Section 0)

-- neither a body nor a section, and no section may stand in it
abbrev pub is_plain : Kind → Bool
is_plain k = not (is_frame k) && not (holds_sections k)

abbrev pub is_plain_row : Option Kind → Bool
is_plain_row None = true
is_plain_row (Some k) = is_plain k

from_not : (b : Bool) → not b ≡ true → b ≡ false
from_not true e = absurd (cc)
from_not false e = refl

pub no_frame : (k : Kind) → is_plain k ≡ true → is_frame k ≡ false
no_frame k e = from_not (is_frame k) (and_parts (not (is_frame k)) (not (holds_sections k)) e).0

pub no_section : (k : Kind) → is_plain k ≡ true → holds_sections k ≡ false
no_section k e = from_not (holds_sections k) (and_parts (not (is_frame k)) (not (holds_sections k)) e).1

-- ---- what is found among kinds of which each is plain

abbrev are_plain : List Kind → Bool
are_plain [] = true
are_plain (k ∷ ks) = is_plain k && are_plain ks

found_plain : (p : Kind → Bool) (ks : List Kind) → are_plain ks ≡ true → is_plain_row (find p ks) ≡ true
found_plain p [] h = refl
found_plain p (k ∷ ks) h =
    let q = and_parts (is_plain k) (are_plain ks) h in
    by_test (p k) (find p ks) q.0 (found_plain p ks q.1)
  where
    by_test : (b : Bool) (o : Option Kind) → is_plain k ≡ true → is_plain_row o ≡ true → is_plain_row (if b then Some k else o) ≡ true
    by_test true o e f = e
    by_test false o e f = f

-- ---- rows

pub section_row : (name : List ℕ) (ps : List Pair) → is_section_name name ≡ true → row name ps ≡ Some (kind.Section 0)
section_row name ps e =
    ap (λ b. if b then Some (kind.Section 0)
    else row_by name (value_of (attribute_name attr.Typeof) ps) (value_of (attribute_name attr.Property) ps) (value_of (attribute_name attr.Rel) ps)) e

pub plain_row : (name : List ℕ) (ps : List Pair) → is_section_name name ≡ false → is_plain_row (row name ps) ≡ true
plain_row name ps e =
    let type = value_of (attribute_name attr.Typeof) ps in
    let property = value_of (attribute_name attr.Property) ps in
    let rel = value_of (attribute_name attr.Rel) ps in
    ap (λ b. is_plain_row (if b then Some (kind.Section 0) else row_by name type property rel)) e
    ∙ found_plain (is_row name type property rel) read_kinds refl
