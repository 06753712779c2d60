-- Which kinds elements are read as: neither texts nor groups; and what shows nothing is an element without an end tag.
use Rattle.std.proofs.Common.{arith, ◌≡◌, ℕ, Bool, true, false, Option, Some, List, [], ◌∷◌, ◌++◌, drop, length, refl, ap, ◌∙◌, codes}
use Rattle.std.specs.Prelude.{◌&&◌, find, nat_eq, if◌then◌else◌, IfSome}
use Rattle.std.specs.Bool.{Decides}
use Rattle.std.specs.List.{starts_with}
use Rattle.std.specs.Str.{bytes_eq}
use Rattle.std.proofs.lemmas.Bool.{and_parts}
use Rattle.std.proofs.lemmas.Bool.Decides.{nat_tests}
use Rattle.std.proofs.lemmas.Slice.Eq.{bytes_eq-Decides, starts_is}
use Rattle.wt_tree.specs.declared.kind.Kind.{Kind}
use Rattle.wt_tree.specs.declared.kind.Kind.TheVariants as kind
use Rattle.wt_tree.specs.declared.kind.AttrName.TheVariants as attr
use Rattle.wt_tree.specs.declared.row.Writing.{Writing}
use Rattle.wt_tree.specs.declared.row.Writing.TheVariants.{AsText, AsVoid, RoundCharacter, RoundChildren, AsSection, Unwritten}
use Rattle.wt_tree.specs.Kinds.{showing, writing, spelling, attribute_name}
use Rattle.wt_tree.specs.Tiling.{is_group}
use Rattle.wt_html_grammar.specs.Markup.{Pair}
use Rattle.wt_html_grammar.specs.Signs.{is_void}
use Rattle.wt_schema.specs.Attributes.{value_of}
use Rattle.wt_schema.specs.Rows.{read_kinds, is_named, tells, is_row, row_by, row}
use Rattle.wt_schema.specs.Sections.{is_section_name}
use Rattle.wt_checks.specs.Tokens.{is_text}
use Rattle.wt_checks.specs.Unmarked.{is_compared}

abbrev pub is_element : Writing → Bool
is_element AsText = false
is_element AsVoid = true
is_element RoundCharacter = true
is_element RoundChildren = true
is_element (AsSection n) = true
is_element Unwritten = false

-- an element of this name is of this kind
pub record IsReadAs (name : List ℕ) (k : Kind) : Type 0 where
  pub element : is_element (writing k) ≡ true
  pub void : is_compared (showing k) ≡ false → is_void name ≡ true

pub no_text : (k : Kind) → is_element (writing k) ≡ true → is_text (writing k) ≡ false
no_text kind.Sep e = absurd (cc)
no_text kind.Text e = absurd (cc)
no_text k e = refl

pub no_group : (k : Kind) → is_element (writing k) ≡ true → is_group k ≡ false
no_group kind.Group e = absurd (cc)
no_group k e = refl

-- ---- the name of a mark

nat_decides : (a b : ℕ) → Decides (nat_eq a b) (a ≡ b)
nat_decides a b = (λ e. grind (arith, nat_tests), λ e. grind (arith, nat_tests))

named_meta : (name : List ℕ) → (starts_with nat_eq name (codes "meta") && bytes_eq (drop (length (codes "meta")) name) []) ≡ true → is_void name ≡ true
named_meta name h =
    let q = and_parts (starts_with nat_eq name (codes "meta")) (bytes_eq (drop (length (codes "meta")) name) []) h in
    let begins : name ≡ codes "meta" ++ drop (length (codes "meta")) name =
    (starts_is nat_decides name (codes "meta") (starts_with nat_eq name (codes "meta")) refl).0 q.0 in
    let ends : drop (length (codes "meta")) name ≡ [] = (bytes_eq-Decides (drop (length (codes "meta")) name) []).0 q.1 in
    ap is_void (begins ∙ ap (λ (bs : List ℕ). codes "meta" ++ bs) ends)

hidden_void : (name : List ℕ) (k : Kind) → is_element (writing k) ≡ true → is_named name k ≡ true → is_compared (showing k) ≡ false → is_void name ≡ true
unfolding spelling
hidden_void name kind.Comment e h c = named_meta name h
hidden_void name kind.Include e h c = named_meta name h
hidden_void name kind.Skip e h c = named_meta name h
hidden_void name kind.Sep e h c = absurd (cc)
hidden_void name kind.Empty e h c = absurd (cc)
hidden_void name k e h c = absurd (cc)

-- ---- rows

abbrev are_elements : List Kind → Bool
are_elements [] = true
are_elements (k ∷ ks) = is_element (writing k) && are_elements ks

first_so : (name : List ℕ) (k : Kind) (b c : Bool) (o : Option Kind) → is_element (writing k) ≡ true → (b ≡ true → is_named name k ≡ true) → IfSome o (IsReadAs name)
    → IfSome (if b then Some k else o) (IsReadAs name)
first_so name k true c o e n h = record { element = e; void = λ d. hidden_void name k e (n refl) d }
first_so name k false c o e n h = h

found_as : (name : List ℕ) (type property rel : Option (List ℕ)) (ks : List Kind) → are_elements ks ≡ true
    → IfSome (find (is_row name type property rel) ks) (IsReadAs name)
found_as name type property rel [] h = tt
found_as name type property rel (k ∷ ks) h =
    let q = and_parts (is_element (writing k)) (are_elements ks) h in
    first_so name k (is_row name type property rel k) true (find (is_row name type property rel) ks) q.0
    (λ e. (and_parts (is_named name k) (tells attr.Typeof type k && (tells attr.Property property k && tells attr.Rel rel k)) e).0)
    (found_as name type property rel ks q.1)

pub read_as : (name : List ℕ) (ps : List Pair) → IfSome (row name ps) (IsReadAs name)
read_as name ps = by_name (is_section_name name)
  where
    by_name : (b : Bool) → IfSome (if b then Some (kind.Section 0)
        else row_by name (value_of (attribute_name attr.Typeof) ps) (value_of (attribute_name attr.Property) ps) (value_of (attribute_name attr.Rel) ps)) (IsReadAs name)
    by_name true = record { element = refl; void = λ e. absurd (cc) }
    by_name false =
        found_as name (value_of (attribute_name attr.Typeof) ps) (value_of (attribute_name attr.Property) ps) (value_of (attribute_name attr.Rel) ps) read_kinds refl
