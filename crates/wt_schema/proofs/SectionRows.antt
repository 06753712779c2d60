-- An element is a section by its name alone: no row is one.
use Rattle.std.proofs.Common.{◌≡◌, ℕ, Bool, true, false, Option, Some, List, [], ◌∷◌, refl}
use Rattle.std.specs.Prelude.{find, not, ◌&&◌, if◌then◌else◌}
use Rattle.std.proofs.lemmas.Bool.{and_parts}
use Rattle.wt_tree.specs.declared.kind.Kind.{Kind}
use Rattle.wt_tree.specs.declared.kind.Kind.TheVariants as kind
use Rattle.wt_tree.specs.declared.kind.AttrName.TheVariants as attr
use Rattle.wt_tree.specs.Kinds.{attribute_name, is_section}
use Rattle.wt_html_grammar.specs.Markup.{Pair}
use Rattle.wt_schema.specs.Attributes.{value_of}
use Rattle.wt_schema.specs.Misfits.{is_section_row}
use Rattle.wt_schema.specs.Rows.{read_kinds, is_row, row_by, row}
use Rattle.wt_schema.specs.Sections.{is_section_name}

abbrev none_is_section : List Kind → Bool
none_is_section [] = true
none_is_section (k ∷ ks) = not (is_section k) && none_is_section ks

found_is_none : (p : Kind → Bool) (ks : List Kind) → none_is_section ks ≡ true → is_section_row (find p ks) ≡ false
found_is_none p [] h = refl
found_is_none p (k ∷ ks) h =
    let q = and_parts (not (is_section k)) (none_is_section ks) h in
    by_test (p k) (find p ks) (no_section (is_section k) q.0) (found_is_none p ks q.1)
  where
    no_section : (c : Bool) → not c ≡ true → c ≡ false
    no_section true e = absurd (cc e)
    no_section false e = refl

    by_test : (b : Bool) (o : Option Kind) → is_section k ≡ false → is_section_row o ≡ false → is_section_row (if b then Some k else o) ≡ false
    by_test true o e g = e
    by_test false o e g = g

pub row_is_no_section : (name : List ℕ) (type property rel : Option (List ℕ)) → is_section_row (row_by name type property rel) ≡ false
row_is_no_section name type property rel = found_is_none (is_row name type property rel) read_kinds refl

pub section_by_name : (name : List ℕ) (ps : List Pair) → is_section_row (row name ps) ≡ is_section_name name
section_by_name name ps =
    by_test (is_section_name name) (row_by name (value_of (attribute_name attr.Typeof) ps) (value_of (attribute_name attr.Property) ps) (value_of (attribute_name attr.Rel) ps))
    (row_is_no_section name _ _ _)
  where
    by_test : (b : Bool) (o : Option Kind) → is_section_row o ≡ false → is_section_row (if b then Some (kind.Section 0) else o) ≡ b
    by_test true o h = refl
    by_test false o h = h
