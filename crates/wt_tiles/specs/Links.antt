-- Links, categories and media: `[[`, a target, where it is a `|` and a text, and `]]`.
use Rattle.std.specs.Prelude.{ℕ, suc, ◌+◌, ◌-◌, ◌==◌, ◌&&◌, ◌||◌, Bool, true, false, Option, Some, None, List, [], ◌∷◌, length, take, drop, reverse, slice_index, codes, encode_utf8, option_map, if◌then◌else◌}
use Rattle.std.specs.List.{list_any, flat_map, prefix_len}
use Rattle.wt_span.specs.Bytes.{is_white}
use Rattle.wt_span.specs.Characters as byte
use Rattle.wt_names.specs.declared.title.Title.{Title}
use Rattle.wt_names.specs.declared.namespace.Ns.{Ns}
use Rattle.wt_names.specs.declared.namespace.Ns.TheVariants as ns
use Rattle.wt_names.specs.Written.{read_bytes}
use Rattle.wt_tiles.specs.declared.glyph.Glyph.{Glyph}
use Rattle.wt_tiles.specs.declared.glyph.Glyph.TheVariants as glyph
use Rattle.wt_tiles.specs.declared.glyph.GlyphClass.TheVariants as class
use Rattle.wt_tiles.specs.declared.shape.Shape.{Shape}
use Rattle.wt_tiles.specs.declared.shape.TileKind.{TileKind}
use Rattle.wt_tiles.specs.declared.shape.TileKind.TheVariants as kind
use Rattle.wt_tiles.specs.declared.target.LinkKind.{LinkKind}
use Rattle.wt_tiles.specs.declared.target.LinkKind.TheVariants.{Page, Category, Media}
use Rattle.wt_tiles.specs.declared.target.Target.{Target}
use Rattle.wt_tiles.specs.Glyphs.{first_is, run_len, begins}
use Rattle.wt_tiles.specs.Partners.{balanced}

-- a tile whose whole is its opening delimiter
abbrev pub leaf : TileKind → ℕ → Shape
leaf k n = record { kind = k; opening = n; inside = 0; closing = 0; trail = 0 }

-- how many items come before the first place that passes the test; none where a barred place comes before it
abbrev pub place : (List Glyph → Bool) → (List Glyph → Bool) → List Glyph → Option ℕ
place stop bar [] = None
place stop bar (g ∷ gs) = if stop (g ∷ gs) then Some 0 else (if bar (g ∷ gs) then None else option_map (λ n. suc n) (place stop bar gs))

-- ---- targets

abbrev pub is_atom : Glyph → Bool
is_atom (glyph.Byte b) = false
is_atom (glyph.Entity c) = false
is_atom glyph.Atom = true
is_atom glyph.Mark = false

-- the text of an item: a character's, an entity's
abbrev pub text_of : Glyph → List ℕ
text_of (glyph.Byte b) = b ∷ []
text_of (glyph.Entity c) = encode_utf8 c
text_of glyph.Atom = []
text_of glyph.Mark = []

-- without the blanks and line breaks at its start, and at its end
abbrev pub trimmed_start : List ℕ → List ℕ
trimmed_start bs = drop (prefix_len is_white bs) bs

abbrev pub trimmed_end : List ℕ → List ℕ
trimmed_end bs = take (length bs - prefix_len is_white (reverse bs)) bs

abbrev pub target_text : List Glyph → List ℕ
target_text gs = trimmed_end (trimmed_start (flat_map text_of gs))

abbrev pub aimed : Bool → Option Title → Option Target
aimed colon o = option_map (λ t. record { colon = colon; title = t }) o

-- the target that a text is: a title, after a colon that may be first
abbrev pub target_in : List ℕ → Option Target
target_in bs = if slice_index bs 0 == byte.colon then aimed true (read_bytes (drop 1 bs)) else aimed false (read_bytes bs)

-- the target that items are: no atom but entities may be among them
unfoldable pub target_of : List Glyph → Option Target
target_of gs = if list_any is_atom gs then None else target_in (target_text gs)

abbrev pub kind_in : Ns → LinkKind
kind_in ns.Main = Page
kind_in ns.Talk = Page
kind_in ns.User = Page
kind_in ns.UserTalk = Page
kind_in ns.Project = Page
kind_in ns.ProjectTalk = Page
kind_in ns.File = Media
kind_in ns.FileTalk = Page
kind_in ns.Template = Page
kind_in ns.TemplateTalk = Page
kind_in ns.Help = Page
kind_in ns.HelpTalk = Page
kind_in ns.Category = Category
kind_in ns.CategoryTalk = Page

abbrev pub kind_of : Target → LinkKind
kind_of t = if t.colon then Page else kind_in t.title.ns

-- ---- forms; the items are what follows the `[[`

-- the target ends at the first `|` or `]]`, and no `[[` is in it
abbrev pub target_len : List Glyph → Option ℕ
target_len gs = place (λ hs. first_is (class.Only 124) hs || begins (codes "]]") hs) (begins (codes "[[")) gs

-- to the first `]]`, with no `[[` between
abbrev pub to_close : List Glyph → Option ℕ
to_close gs = place (begins (codes "]]")) (begins (codes "[[")) gs

-- how many items come before the `]]` of a target of n items
abbrev pub inner_len : LinkKind → ℕ → List Glyph → Option ℕ
inner_len Page n gs = option_map (λ k. n + k) (to_close (drop n gs))
inner_len Category n gs = option_map (λ k. n + k) (to_close (drop n gs))
inner_len Media n gs = option_map (λ rest. length gs - length rest) (balanced 0 0 gs)

-- a `|` ends a target of n items
abbrev pub has_pipe : ℕ → List Glyph → Bool
has_pipe n gs = first_is (class.Only 124) (drop n gs)

-- how much of the open delimiter follows the `[[`: the target with its `|`, else a colon that is first
abbrev pub head_len : Bool → ℕ → List Glyph → ℕ
head_len colon n gs = if has_pipe n gs then n + 1 else (if colon && first_is (class.Only 58) gs then 1 else 0)

abbrev pub page_link : ℕ → ℕ → List Glyph → Shape
page_link head k gs = record { kind = kind.Link; opening = 2 + head; inside = k - head; closing = 2; trail = run_len class.Trail (drop (k + 2) gs) }

abbrev pub link_shape : LinkKind → ℕ → ℕ → List Glyph → Shape
link_shape Page head k gs = page_link head k gs
link_shape Category head k gs = leaf kind.Category (k + 4)
link_shape Media head k gs = leaf kind.Media (k + 4)

-- a text after `|` that is empty makes it no link
abbrev pub link_with : Target → ℕ → Option ℕ → List Glyph → Option Shape
link_with t n None gs = None
link_with t n (Some k) gs = if has_pipe n gs && k == n + 1 then None else Some (link_shape (kind_of t) (head_len t.colon n gs) k gs)

abbrev pub link_to : Option Target → ℕ → List Glyph → Option Shape
link_to None n gs = None
link_to (Some t) n gs = link_with t n (inner_len (kind_of t) n gs) gs

abbrev pub link_by : Option ℕ → List Glyph → Option Shape
link_by None gs = None
link_by (Some n) gs = link_to (target_of (take n gs)) n gs

unfoldable pub link_in : List Glyph → Option Shape
link_in gs = link_by (target_len gs) gs

-- the link, category or media that begins the items
unfoldable pub link_at : List Glyph → Option Shape
link_at gs = if begins (codes "[[") gs then link_in (drop 2 gs) else None
