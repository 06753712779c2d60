-- When the new inside of one block is local: read by itself, with its kept slices as they were expanded in the page, it is a block of
-- its kind, and what is round it can't tell it from the old one.
use Rattle.std.specs.Prelude.{◌≡◌, ◌⊎◌, ◌≤◌, ◌+◌, ◌-◌, ◌==◌, ◌&&◌, ◌||◌, ℕ, Bool, true, false, not, Option, Some, None, List, [], ◌∷◌, ◌++◌, drop, length, nat_le, nat_lt, slice_get, slice_index, take, codes, if◌then◌else◌}
use Rattle.std.specs.Char.{is_ascii_alphabetic}
use Rattle.std.specs.List.{AllByRecursion, list_any}
use Rattle.std.specs.Option.{option_or}
use Rattle.std.specs.Str.{bytes_eq}
use Rattle.wt_span.specs.declared.form.Mode.TheVariants.{Page}
use Rattle.wt_span.specs.declared.form.LexKind.{LexKind}
use Rattle.wt_span.specs.declared.form.LexKind.TheVariants as lex
use Rattle.wt_span.specs.Braces.{CallAt, calls, calls_of_all, call_count_of_all, reduced, members}
use Rattle.wt_span.specs.Bytes.{begins}
use Rattle.wt_span.specs.Items.{Item, sign, is_mark, call_of}
use Rattle.wt_span.specs.Lexemes.{Word, words}
use Rattle.wt_span.specs.Origins.{Expanded, Span, OuterCall}
use Rattle.wt_span.specs.Tags.{Tag, opening_tag}
use Rattle.wt_span.specs.Characters as byte
use Rattle.wt_lines.specs.declared.kind.LineKind.TheVariants as line
use Rattle.wt_lines.specs.Kinds.{line_kind}
use Rattle.wt_lines.specs.Lines.{lines, is_break_item}
use Rattle.wt_blocks.specs.Headings.{level, opening, closing}
use Rattle.wt_tree.specs.declared.kind.Kind.{Kind}
use Rattle.wt_tree.specs.declared.kind.Kind.TheVariants as kind
use Rattle.wt_tree.specs.declared.kind.Ranges.{Ranges}
use Rattle.wt_tree.specs.Source.{flat}
use Rattle.wt_tree.specs.Tiling.{is_group}
use Rattle.wt_tree.specs.Tree.{Tree, tree, Trees, none, more, label}
use Rattle.wt_original.specs.Kept.{Kept, kept_nodes, kept_with}
use Rattle.wt_expand.specs.Expansion.{opens_block}
use Rattle.wt_expand.specs.PageItems.{page_items}
use Rattle.wt_isolation.specs.GroupItems.{items_in}
use Rattle.wt_isolation.specs.OpenTags.{before, touches_open_tag}
use Rattle.wt_isolation.specs.TextCalls.{touches_text_call}
use Rattle.wt_splice.specs.Splice.{between}
use Rattle.wt_called_edit_laws.specs.LocalChange.{given_by}

-- ---- kept slices

-- a node of the page whose source is in the new inside, and where
pub record Slice : Type 0 where
  pub node : Tree
  pub at : ℕ

abbrev pub end_of : Slice → ℕ
end_of s = s.at + length (flat s.node)

-- a node of the block
pub record IsSlice (block : Tree) (inside : List ℕ) (s : Slice) : Type 0 where
  pub kept : Kept
  pub found : kept_with (label s.node).id (kept_nodes block) ≡ Some kept
  pub same : kept.node ≡ s.node
  pub stands : between s.at (end_of s) inside ≡ flat s.node

-- They follow one another from a place on, and none is in another.
abbrev pub AreSlices : Tree → List ℕ → ℕ → List Slice → Type 0
AreSlices block inside at [] = Unit {0}
AreSlices block inside at (s ∷ ss) = (at ≤ s.at) × IsSlice block inside s × AreSlices block inside (end_of s) ss

-- ---- the new source and its lexemes

abbrev pub new_source : Tree → List ℕ → List ℕ
new_source block inside = (label block).opening ++ (inside ++ (label block).closing)

abbrev pub reaches_end : List ℕ → Option Ranges → Bool
reaches_end page None = false
reaches_end page (Some r) = r.end == length page

-- It is on lines of its own; none follows it at the page's end.
abbrev pub on_own_lines : Bool → List ℕ → List ℕ
on_own_lines at_end source = byte.line_break ∷ (source ++ (if at_end then [] else byte.line_break ∷ []))

abbrev pub read_as : List ℕ → Tree → List ℕ → List ℕ
read_as page block inside = on_own_lines (reaches_end page (label block).ranges) (new_source block inside)

-- where the inside begins there
abbrev pub inside_start : Tree → ℕ
inside_start block = 1 + length (label block).opening

abbrev pub slice_span : ℕ → Slice → Span
slice_span from s = (from + s.at, from + end_of s)

abbrev pub slice_spans : ℕ → List Slice → List Span
slice_spans from [] = []
slice_spans from (s ∷ ss) = slice_span from s ∷ slice_spans from ss

-- what was in the page: the delimiters and the slices
abbrev pub page_spans : Tree → List ℕ → List Slice → List Span
page_spans block inside ks =
    let from = inside_start block in
    let to = from + length inside in
    (1, from) ∷ (to, to + length (label block).closing) ∷ slice_spans from ks

abbrev pub lies_in : Span → Span → Bool
lies_in s t = nat_le t.0 s.0 && nat_le s.1 t.1

-- one end of the second lies inside the first
abbrev pub is_cut_by : Span → Span → Bool
is_cut_by s t = (nat_lt s.0 t.0 && nat_lt t.0 s.1) || (nat_lt s.0 t.1 && nat_lt t.1 s.1)

-- what spelled text is made of: characters, `=`, entities, and a `nowiki` that holds nothing
abbrev pub is_spelled_word : LexKind → List ℕ → Bool
is_spelled_word lex.Chars bs = true
is_spelled_word lex.CommentLine bs = false
is_spelled_word lex.Comment bs = false
is_spelled_word lex.Raw bs = bytes_eq bs (codes "<nowiki/>")
is_spelled_word lex.Include bs = false
is_spelled_word lex.Hidden bs = false
is_spelled_word (lex.Entity c) bs = true
is_spelled_word lex.Opens bs = false
is_spelled_word lex.Closes bs = false
is_spelled_word lex.LinkOpen bs = false
is_spelled_word lex.LinkClose bs = false
is_spelled_word lex.Pipe bs = false
is_spelled_word lex.Equals bs = true

abbrev pub is_run : LexKind → Bool
is_run lex.Chars = true
is_run lex.CommentLine = false
is_run lex.Comment = false
is_run lex.Raw = false
is_run lex.Include = false
is_run lex.Hidden = false
is_run (lex.Entity c) = false
is_run lex.Opens = false
is_run lex.Closes = false
is_run lex.LinkOpen = false
is_run lex.LinkClose = false
is_run lex.Pipe = false
is_run lex.Equals = false

-- of each lexeme from a place on: it is the page's or spelled text, and only a run of characters goes over an end of a slice
abbrev pub are_spelled : List Span → List Span → List ℕ → ℕ → List Word → Bool
are_spelled page slices text at [] = true
are_spelled page slices text at ((kind, n) ∷ ws) =
    (list_any (lies_in (at, at + n)) page || is_spelled_word kind (between at (at + n) text))
    && ((is_run kind || not (list_any (is_cut_by (at, at + n)) slices)) && are_spelled page slices text (at + n) ws)

-- a `<` before a letter, `/` or `!`
abbrev pub begins_markup : List ℕ → Bool
begins_markup bs =
    slice_index bs 0 == byte.less_than && (is_ascii_alphabetic (slice_index bs 1) || (slice_index bs 1 == byte.slash || slice_index bs 1 == byte.exclamation_mark))

abbrev pub is_at : ℕ → Span → Bool
is_at p s = nat_le s.0 p && nat_lt p s.1

-- The lexemes of the new source by itself: what was typed makes none but those of spelled text, and none that goes over an end of a
-- slice; nor does a tag go over one, nor might what was typed begin a tag or comment with what follows it.
pub record IsReadByItself (page : List ℕ) (block : Tree) (inside : List ℕ) (ks : List Slice) : Type 0 where
  pub spelled : are_spelled (page_spans block inside ks) (slice_spans (inside_start block) ks) (read_as page block inside) 0
      (words Page (read_as page block inside)) ≡ true
  pub tags : (p : ℕ) (t : Tag) → opening_tag (drop p (read_as page block inside)) ≡ Some t
      → list_any (is_cut_by (p, p + t.len)) (slice_spans (inside_start block) ks) ≡ false
  pub quiet : (p : ℕ) → begins_markup (drop p (read_as page block inside)) ≡ true
      → (list_any (is_at p) (page_spans block inside ks) ≡ true) ⊎ (begins (codes "<nowiki/>") (drop p (read_as page block inside)) ≡ true)

-- ---- calls

-- the calls of the slices, where so many come before
abbrev pub slice_calls : ℕ → List Slice → List CallAt
slice_calls n [] = []
slice_calls n (s ∷ ss) =
    let ms = members (reduced (words Page (flat s.node))) in
    calls_of_all s.at None n ms ++ slice_calls (n + call_count_of_all ms) ss

-- the begin of a text, or after a line break
abbrev pub is_line_start : List ℕ → ℕ → Bool
is_line_start text at = at == 0 || slice_index text (at - 1) == byte.line_break

abbrev pub start_of : Option Ranges → ℕ
start_of None = 0
start_of (Some r) = r.start

-- what the call that begins at a place of the page gave
abbrev pub given_from : ℕ → ℕ → List OuterCall → List Item → List Item
given_from at k [] xs = []
given_from at k (c ∷ cs) xs = if c.start == at then given_by k xs else given_from at (k + 1) cs xs

-- it opens a block, the line break that was put before it aside
abbrev pub opens_behind_break : List Item → Bool
opens_behind_break [] = false
opens_behind_break (x ∷ xs) = is_break_item x && opens_block xs

abbrev pub may_open_block : List Item → Bool
may_open_block xs = opens_block xs || opens_behind_break xs

-- A slice with a call at its begin is at the start of a line where it did in the page, unless the call opens no block.
abbrev pub KeepsStart : Expanded → List ℕ → Tree → List ℕ → Slice → Type 0
KeepsStart items page block inside s =
    let was = start_of (label s.node).ranges in
    let front = start_of (label block).ranges in
    (is_line_start (take front page ++ new_source block inside) (front + length (label block).opening + s.at) ≡ is_line_start page was)
    ⊎ (may_open_block (given_from was 0 items.outer items.items) ≡ false)

-- ---- lines

abbrev pub items_of_slice : Expanded → Option Ranges → List Item
items_of_slice items None = []
items_of_slice items (Some r) = items_in items.outer r 0 items.items

-- the items of the inside from a place on: those of the slices as they are in the page, and those of what was typed
abbrev pub inside_items : Expanded → List ℕ → ℕ → List Slice → List Item
inside_items items inside at [] = page_items (drop at inside)
inside_items items inside at (s ∷ ss) =
    page_items (between at s.at inside) ++ (items_of_slice items (label s.node).ranges ++ inside_items items inside (end_of s) ss)

abbrev pub block_items : Expanded → Tree → List ℕ → List Slice → List Item
block_items items block inside ks =
    page_items (label block).opening ++ (inside_items items inside 0 ks ++ page_items (label block).closing)

abbrev pub is_visible_item : Item → Bool
is_visible_item x = not (is_mark x)

abbrev pub line_or_none : Option (List Item) → List Item
line_or_none None = []
line_or_none (Some l) = l

abbrev pub last_line : List (List Item) → List Item
last_line ls = line_or_none (slice_get ls (length ls - 1))

-- something visible is on its line before it: a rule, or the end of a table
abbrev pub is_behind_block : Expanded → Option Ranges → Bool
is_behind_block items None = false
is_behind_block items (Some r) =
    list_any is_visible_item (last_line (lines (items_in items.outer (record { start = 0; end = r.start; open_w = 0; close_w = 0 }) 0 items.items)))

abbrev pub IsTextLine : ℕ → List Item → Type 0
IsTextLine tables l = line_kind tables l ≡ line.Text

-- after a rule or a table the first line is text whatever it holds
abbrev pub AreTextLines : Bool → ℕ → List (List Item) → Type 0
AreTextLines behind tables [] = Unit {0}
AreTextLines true tables (l ∷ ls) = AllByRecursion (IsTextLine tables) ls
AreTextLines false tables (l ∷ ls) = AllByRecursion (IsTextLine tables) (l ∷ ls)

-- the block begins with the group with which it began in the page
abbrev pub first_id : Trees → ℕ
first_id none = 0
first_id (more t ts) = if is_group (label t).kind then (label t).id else 0

abbrev pub begins_with : Trees → List Slice → Bool
begins_with held [] = false
begins_with held (s ∷ ss) = s.at == 0 && (is_group (label s.node).kind && (label s.node).id == first_id held)

-- visible; a `-`, which would make a rule before it longer, only in that group
abbrev pub BeginsWell : Bool → List Item → Type 0
BeginsWell same_group [] = ⊥
BeginsWell same_group (x ∷ xs) = (is_mark x ≡ false) × ((sign x == byte.hyphen) ≡ true → same_group ≡ true)

abbrev pub is_own : Option ℕ → Bool
is_own None = true
is_own (Some k) = false

abbrev pub held : Tree → Trees
held (tree l ts) = ts

-- A paragraph has lines of text alone, begins with something visible, and holds an item of the page itself.
pub record IsParagraph (behind same_group : Bool) (tables : ℕ) (xs : List Item) : Type 0 where
  pub all_text : AreTextLines behind tables (lines xs)
  pub begins_well : BeginsWell same_group xs
  pub of_page : list_any (λ x. is_own (call_of x)) xs ≡ true

-- A heading is one line, of the same level and with the same delimiters, no item of which comes from a call.
pub record IsHeading (tables level_was : ℕ) (open_was close_was : List ℕ) (xs : List Item) : Type 0 where
  pub one_line : lines xs ≡ xs ∷ []
  pub is_heading : line_kind tables xs ≡ line.Heading
  pub same_level : level xs ≡ level_was
  pub same_opening : opening xs ≡ page_items open_was
  pub same_closing : closing xs ≡ page_items close_was

-- which of both, by the kind of the block; no other block is local
abbrev pub IsBlock : Kind → Expanded → Tree → ℕ → List ℕ → List Slice → Type 0
IsBlock kind.Para items block tables inside ks =
    IsParagraph (is_behind_block items (label block).ranges) (begins_with (held block) ks) tables (block_items items block inside ks)
IsBlock (kind.Heading n) items block tables inside ks = IsHeading tables n (label block).opening (label block).closing (block_items items block inside ks)
IsBlock k items block tables inside ks = ⊥

abbrev pub is_table : Kind → Bool
is_table kind.Table = true
is_table k = false

-- how many tables are round the node with a number, among those in which so many are open
abbrev mutual
  pub tables_round : ℕ → ℕ → Tree → Option ℕ
  tables_round n open_ (tree l ts) =
      if l.id == n then Some open_ else (if is_group l.kind then None else tables_round_in n (open_ + (if is_table l.kind then 1 else 0)) ts)

  pub tables_round_in : ℕ → ℕ → Trees → Option ℕ
  tables_round_in n open_ none = None
  tables_round_in n open_ (more t ts) = option_or (tables_round n open_ t) (tables_round_in n open_ ts)

-- The new inside of a block of a page with these items and this tree, with the slices that it keeps.
pub record IsLocal (items : Expanded) (page : List ℕ) (t block : Tree) (inside : List ℕ) (ks : List Slice) : Type 0 where
  pub slices : AreSlices block inside 0 ks
  pub lexemes : IsReadByItself page block inside ks
  pub same_calls : calls 0 (words Page inside) ≡ slice_calls 0 ks
  pub starts : AllByRecursion (KeepsStart items page block inside) ks
  pub tables : ℕ
  pub tables_are : tables_round (label block).id 0 t ≡ Some tables
  pub lines_are : IsBlock (label block).kind items block tables inside ks
  pub no_text_call : touches_text_call items.text_calls (label block).ranges ≡ false
  pub no_open_tag : touches_open_tag (before page (label block).ranges) block ≡ false
