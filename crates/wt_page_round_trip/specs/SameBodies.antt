-- Documents that are the same but for attributes of the sections in their bodies.
use Rattle.std.specs.Prelude.{◌≡◌, ℕ, Bool, true, false, List, filter, codes}
use Rattle.std.specs.Str.{bytes_eq}
use Rattle.wt_html_grammar.specs.Markup.{Pair, Markup, Markups, text, node, empty, more}
use Rattle.wt_schema.specs.Sections.{is_section_name, is_mark_pair}

-- The attributes of two elements: of two sections the mark of an edit alone is the same, of others all.
abbrev pub AreSamePairs : Bool → List Pair → List Pair → Type 0
AreSamePairs true ps qs = filter is_mark_pair ps ≡ filter is_mark_pair qs
AreSamePairs false ps qs = ps ≡ qs

-- What they hold: what two sections hold is the same in this way again, what others hold is the same.
abbrev pub AreSameInside : Bool → Markups → Markups → Type 0 → Type 0
AreSameInside true c d again = again
AreSameInside false c d again = c ≡ d

-- What is in a body or a section, and what is in another one, are the same but for attributes of
-- sections.
abbrev mutual
  pub IsSamePart : Markup → Markup → Type 0
  IsSamePart (text xs) (text bs) = xs ≡ bs
  IsSamePart (text xs) (node other qs d) = ⊥
  IsSamePart (node name ps c) (text bs) = ⊥
  IsSamePart (node name ps c) (node other qs d) =
      (name ≡ other) × AreSamePairs (is_section_name name) ps qs × AreSameInside (is_section_name name) c d (AreSameParts c d)

  pub AreSameParts : Markups → Markups → Type 0
  AreSameParts empty empty = Unit
  AreSameParts empty (more u us) = ⊥
  AreSameParts (more t ts) empty = ⊥
  AreSameParts (more t ts) (more u us) = IsSamePart t u × AreSameParts ts us

abbrev pub is_body_name : List ℕ → Bool
is_body_name name = bytes_eq name (codes "body")

-- children of the root: bodies are the same in this way, and all else is the same
abbrev pub IsSameChild : Markup → Markup → Type 0
IsSameChild (text xs) (text bs) = xs ≡ bs
IsSameChild (text xs) (node other qs d) = ⊥
IsSameChild (node name ps c) (text bs) = ⊥
IsSameChild (node name ps c) (node other qs d) = (name ≡ other) × (ps ≡ qs) × AreSameInside (is_body_name name) c d (AreSameParts c d)

abbrev pub AreSameChildren : Markups → Markups → Type 0
AreSameChildren empty empty = Unit
AreSameChildren empty (more u us) = ⊥
AreSameChildren (more t ts) empty = ⊥
AreSameChildren (more t ts) (more u us) = IsSameChild t u × AreSameChildren ts us

-- two documents
abbrev pub IsSameDocument : Markup → Markup → Type 0
IsSameDocument (text xs) (text bs) = xs ≡ bs
IsSameDocument (text xs) (node other qs d) = ⊥
IsSameDocument (node name ps c) (text bs) = ⊥
IsSameDocument (node name ps c) (node other qs d) = (name ≡ other) × (ps ≡ qs) × AreSameChildren c d
