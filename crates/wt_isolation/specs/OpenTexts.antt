-- Texts that could go on after their end: one that holds the beginning of a tag or of a link.
use Rattle.std.specs.Prelude.{ℕ, ◌==◌, ◌&&◌, ◌||◌, Bool, false, List, [], ◌∷◌, ◌++◌, reverse, nat_lt, true, if◌then◌else◌}
use Rattle.wt_span.specs.Characters as byte
use Rattle.wt_tree.specs.Tree.{Tree, tree, Trees, none, more}
use Rattle.wt_tiles.specs.Glyphs.{byte_glyphs}
use Rattle.wt_tiles.specs.Urls.{scheme_len}
use Rattle.wt_tree.specs.declared.edit_shape.InlineForm.{InlineForm}
use Rattle.wt_tree.specs.declared.edit_shape.InlineForm.TheVariants as inline
use Rattle.wt_tree.specs.EditShapes.{edit_shape}

abbrev pub begins_bracket : List ℕ → Bool
begins_bracket [] = false
begins_bracket (b ∷ bs) = b == byte.opening_bracket

-- these bytes begin with `<`, with `[[`, or with `[` and the beginning of a URL
abbrev pub begins_open : List ℕ → Bool
begins_open [] = false
begins_open (b ∷ bs) = b == byte.less_than || (b == byte.opening_bracket && (begins_bracket bs || nat_lt 0 (scheme_len (byte_glyphs bs))))

-- such bytes are somewhere in the text
abbrev pub holds_open : List ℕ → Bool
holds_open [] = false
holds_open (b ∷ bs) = begins_open (b ∷ bs) || holds_open bs

abbrev pub ends_with_bracket : List ℕ → Bool
ends_with_bracket text = begins_bracket (reverse text)

-- a text that ends before a node: before an external link it may not end with `[`
abbrev pub is_open_before : InlineForm → List ℕ → Bool
is_open_before inline.Nothing text = holds_open text
is_open_before inline.Characters text = holds_open text
is_open_before inline.Bold text = holds_open text
is_open_before inline.Italic text = holds_open text
is_open_before inline.Shown text = holds_open text
is_open_before inline.PageLink text = holds_open text
is_open_before inline.ExternalLink text = holds_open text || ends_with_bracket text
is_open_before inline.Tag text = holds_open text
is_open_before inline.Break text = holds_open text
is_open_before inline.AsItStood text = holds_open text

-- of other nodes than bold and italic ones what they hold doesn't count
abbrev pub in_style : InlineForm → Bool → Bool
in_style inline.Nothing inside = false
in_style inline.Characters inside = false
in_style inline.Bold inside = inside
in_style inline.Italic inside = inside
in_style inline.Shown inside = false
in_style inline.PageLink inside = false
in_style inline.ExternalLink inside = false
in_style inline.Tag inside = false
in_style inline.Break inside = false
in_style inline.AsItStood inside = false

-- the text ends here, and `rest` says of what follows, with the text so far
abbrev pub ended_by : InlineForm → List ℕ → Bool → (List ℕ → Bool) → Bool
ended_by w text inside rest = is_open_before w text || (in_style w inside || rest [])

abbrev pub is_text : InlineForm → Bool
is_text inline.Nothing = false
is_text inline.Characters = true
is_text inline.Bold = false
is_text inline.Italic = false
is_text inline.Shown = false
is_text inline.PageLink = false
is_text inline.ExternalLink = false
is_text inline.Tag = false
is_text inline.Break = false
is_text inline.AsItStood = false

-- A node after a text, by the inline form of its kind: a text goes on with it, and any other node ends it.
abbrev pub open_text_by : InlineForm → List ℕ → List ℕ → Bool → (List ℕ → Bool) → Bool
open_text_by w text shown inside rest = if is_text w then rest (text ++ shown) else ended_by w text inside rest

-- a text directly among these nodes, or in their bold and italic nodes, where a text comes before them
abbrev mutual
  pub open_text_at : List ℕ → Tree → (List ℕ → Bool) → Bool
  open_text_at text (tree l ts) rest = open_text_by (edit_shape l.kind).inline text l.shown (has_open_text [] ts) rest

  pub has_open_text : List ℕ → Trees → Bool
  has_open_text text none = holds_open text
  has_open_text text (more t ts) = open_text_at text t (λ next. has_open_text next ts)
