-- A page that is one paragraph, which holds one text: its items, what they mean, and its tree.
use Rattle.std.specs.Prelude.{ℕ, Some, None, List, [], ◌∷◌, map, length}
use Rattle.wt_span.specs.Items.{Item, char}
use Rattle.wt_span.specs.Origins.{Expanded}
use Rattle.wt_tree.specs.declared.kind.Kind.{Kind}
use Rattle.wt_tree.specs.declared.kind.Kind.TheVariants as kind
use Rattle.wt_tree.specs.declared.kind.Mark.TheVariants as marks
use Rattle.wt_tree.specs.Tree.{Label, Tree, tree, none, more}
use Rattle.wt_tree.specs.Plain.{Plain, element, ended, text_before}
use Rattle.wt_inline.specs.declared.loose.Loose.TheVariants.{Text}
use Rattle.wt_inline.specs.ItemTree.{plain, ItemTree, inner, nothing, further, forest}
use Rattle.wt_inline.specs.Parts.{loose_leaf, parts, children}

-- ---- its items

-- characters of the page, byte by byte
abbrev pub page_chars : List ℕ → List Item
page_chars bs = map (char None) bs

-- no calls
abbrev pub of_items : List Item → Expanded
of_items xs = record { items = xs; outer = []; text_calls = [] }

-- ---- what they mean

abbrev pub lone_para : List Item → ItemTree
lone_para xs = inner (plain kind.Para) [] (further (loose_leaf Text xs) nothing) []

abbrev pub lone_body : List Item → ItemTree
lone_body xs = inner (plain kind.Body) [] (further (lone_para xs) nothing) []

-- by all its items, of whatever they are parts
abbrev pub para_of : List Item → ItemTree
para_of xs = inner (plain kind.Para) [] (forest (children (parts Text xs))) []

abbrev pub page_of : List Item → ItemTree
page_of xs = inner (plain kind.Body) [] (further (para_of xs) nothing) []

-- ---- its tree

-- a node whose range is the whole page, without delimiters
abbrev pub whole_label : Kind → ℕ → ℕ → List ℕ → Label
whole_label k number size text = record {
  kind = k;
  id = number;
  ranges = Some (record { start = 0; end = size; open_w = 0; close_w = 0 });
  opening = [];
  closing = [];
  own = text;
  shown = text;
  attrs = [];
  origin = None;
  mark = marks.Nothing;
  mw = None;
}

abbrev pub whole_node : Kind → ℕ → ℕ → Tree → Tree
whole_node k number size t = tree (whole_label k number size []) (more t none)

-- the lead, which holds the paragraph
abbrev pub lone_page : List ℕ → Tree
lone_page text =
    let size = length text in
    whole_node kind.Body 0 size (whole_node (kind.Section 0) 0 size (whole_node kind.Para 1 size (tree (whole_label kind.Text 0 size text) none)))

-- ---- what it shows

-- one paragraph, and in it this text
abbrev pub one_shown : List ℕ → List Plain
one_shown bs = element (record { kind = kind.Para; attrs = []; mw = None }) (text_before bs ended) ∷ []
