-- The tree that a document stands for: elements with their names, attributes and contents, and the
-- texts between their tags, by their characters in UTF-8.
use Rattle.std.specs.Prelude.{◌≡◌, ℕ, List, [], ◌∷◌, ◌++◌, map, encode_utf8}
use Rattle.std.specs.List.{flat_map}
use Rattle.wt_html_grammar.specs.Signs.{character_of, number_from}
use Rattle.wt_html_grammar.specs.Grammar.{Piece, plain, named, number, Attribute, Element, Items, element, void, none, sign, child, Document, IsDocument, spell_document}

-- a name and a value
abbrev pub Pair : Type 0
Pair = List ℕ × List ℕ

mutual
  pub data Markup : Type 0 where
    text : List ℕ → Markup
    node : List ℕ → List Pair → Markups → Markup

  pub data Markups : Type 0 where
    empty : Markups
    more : Markup → Markups → Markups

-- the character that a piece stands for
abbrev pub unit_of : Piece → List ℕ
unit_of (plain c) = encode_utf8 c
unit_of (named n) = encode_utf8 (character_of n)
unit_of (number r ds) = encode_utf8 (number_from r 0 ds)

abbrev pub pair_of : Attribute → Pair
pair_of a = (a.name, flat_map unit_of a.value)

-- a text before others, where it isn't empty
abbrev pub flush : List ℕ → Markups → Markups
flush [] ts = ts
flush (c ∷ cs) ts = more (text (c ∷ cs)) ts

-- the contents after a text since the last tag
abbrev mutual
  pub meaning : Element → Markup
  meaning (element name attributes gap items end) = node name (map pair_of attributes) (contents [] items)
  meaning (void name attributes gap end) = node name (map pair_of attributes) empty

  pub contents : List ℕ → Items → Markups
  contents run none = flush run empty
  contents run (sign p items) = contents (run ++ unit_of p) items
  contents run (child e items) = flush run (more (meaning e) (contents [] items))

-- the bytes stand for the tree
abbrev pub Stands : List ℕ → Markup → Type 0
Stands bytes t = (d : Document) × IsDocument d × (bytes ≡ spell_document d) × (meaning d.root ≡ t)
