-- What each byte says, and how the tree is built from that.
use Rattle.std.specs.Prelude.{ℕ, ◌==◌, Option, Some, None, Result, Ok, Err, List, [], ◌∷◌, ◌++◌, encode_utf8, if◌then◌else◌}
use Rattle.wt_span.specs.Characters as byte
use Rattle.wt_html_grammar.specs.declared.why.HtmlWhy.{HtmlWhy}
use Rattle.wt_html_grammar.specs.declared.event.Event.{Event}
use Rattle.wt_html_grammar.specs.declared.event.Event.TheVariants as ev
use Rattle.wt_html_grammar.specs.Signs.{is_lower, is_name_byte, is_attribute_byte, is_void, in_text, in_value, character_of}
use Rattle.wt_html_grammar.specs.Markup.{Pair, Markup, Markups, node, empty, more, flush}
use Rattle.wt_html_grammar.specs.Machine.{State, start, first, inside, less, naming, gap, attribute, equals, value, valued, slashed, closing, closed, escaping, Escape, letters, digits, wide, Tag, mended, step}

abbrev pub out_open : Tag → ℕ → Event
out_open t b = if b == byte.greater_than then (if is_void t.name then ev.Void else ev.Opened) else ev.Quiet

abbrev pub out_end : ℕ → Event
out_end b = if b == byte.greater_than then ev.Closed else ev.Quiet

-- a byte, or a character, of a value or of a text
abbrev pub unit_byte : State → ℕ → Event
unit_byte (value t q) b = ev.ValueByte b
unit_byte s b = ev.Byte b

abbrev pub unit_char : State → ℕ → Event
unit_char (value t q) c = ev.ValueChar c
unit_char s c = ev.Char c

-- the character that an escape stands for, at its `;`
abbrev pub at_semicolon : ℕ → ℕ → Option ℕ
at_semicolon c b = if b == byte.semicolon then Some c else None

abbrev pub decoded : Escape → ℕ → Option ℕ
decoded (letters n []) b = at_semicolon (character_of n) b
decoded (digits r k n) b = at_semicolon n b
decoded e b = None

abbrev pub unit_if : State → Option ℕ → Event
unit_if s (Some c) = unit_char s c
unit_if s None = ev.Quiet

abbrev pub out_escape : State → Escape → ℕ → Event
out_escape s (wide low high n) b = unit_byte s b
out_escape s e b = unit_if s (decoded e b)

abbrev pub out_name : ℕ → Event
out_name b = if is_lower b then ev.NameBegin b else ev.Quiet

abbrev pub out : State → ℕ → Event
out first b = out_name b
out (inside (n ∷ ns)) b = if in_text b then ev.Byte b else ev.Quiet
out (less ns) b = out_name b
out (naming ns n) b = if is_name_byte b then ev.Name b else out_open (record { outer = ns; name = n; seen = [] }) b
out (gap t) b = if is_attribute_byte b then ev.KeyBegin b else out_open t b
out (attribute t a) b = if is_attribute_byte b then ev.Key b else ev.Quiet
out (equals t) b = if b == byte.quotation_mark then ev.ValueBegin else if b == byte.apostrophe then ev.ValueBegin else ev.Quiet
out (value t q) b = if in_value q b then ev.ValueByte b else if b == q then ev.ValueEnd else ev.Quiet
out (valued t) b = out_open t b
out (slashed t) b = ev.Void
out (closing [] ns) b = out_end b
out (closed ns) b = out_end b
out (escaping s e) b = out_escape s e b
out s b = ev.Quiet

-- an open element: its children so far, and the text since the last
pub record Frame : Type 0 where
  pub name : List ℕ
  pub attributes : List Pair
  pub items : Markups
  pub run : List ℕ

-- what is built so far: the open elements, the innermost first; the start tag that is read, with its
-- name, its attributes and the attribute that is read; and the root where it is whole
pub record Building : Type 0 where
  pub opened : List Frame
  pub name : List ℕ
  pub attributes : List Pair
  pub key : List ℕ
  pub value : List ℕ
  pub root : Markups

abbrev pub append : Markups → Markups → Markups
append empty us = us
append (more t ts) us = more t (append ts us)

abbrev pub with_bytes : Frame → List ℕ → Frame
with_bytes f bs = record { name = f.name; attributes = f.attributes; items = f.items; run = f.run ++ bs }

abbrev pub with_child : Frame → Markup → Frame
with_child f t = record { name = f.name; attributes = f.attributes; items = append f.items (flush f.run (more t empty)); run = [] }

abbrev pub tree_of : Frame → Markup
tree_of f = node f.name f.attributes (append f.items (flush f.run empty))

abbrev pub calm : List Frame → Markups → Building
calm fs root = record { opened = fs; name = []; attributes = []; key = []; value = []; root = root }

abbrev pub with_open : Building → List Frame → Building
with_open x fs = record { opened = fs; name = x.name; attributes = x.attributes; key = x.key; value = x.value; root = x.root }

abbrev pub with_value : Building → List ℕ → Building
with_value x v = record { opened = x.opened; name = x.name; attributes = x.attributes; key = x.key; value = v; root = x.root }

abbrev pub add_bytes : List Frame → List ℕ → List Frame
add_bytes [] bs = []
add_bytes (f ∷ fs) bs = with_bytes f bs ∷ fs

-- an element is whole: it is a child of the innermost open one, or the root
abbrev pub closed_into : Markup → List Frame → Markups → Building
closed_into t [] root = calm [] (more t empty)
closed_into t (f ∷ fs) root = calm (with_child f t ∷ fs) root

abbrev pub close : List Frame → Markups → Building
close [] root = calm [] root
close (f ∷ fs) root = closed_into (tree_of f) fs root

abbrev pub put : Building → Event → Building
put x ev.Quiet = x
put x (ev.NameBegin b) = record { opened = x.opened; name = b ∷ []; attributes = []; key = x.key; value = x.value; root = x.root }
put x (ev.Name b) = record { opened = x.opened; name = x.name ++ b ∷ []; attributes = x.attributes; key = x.key; value = x.value; root = x.root }
put x (ev.KeyBegin b) = record { opened = x.opened; name = x.name; attributes = x.attributes; key = b ∷ []; value = x.value; root = x.root }
put x (ev.Key b) = record { opened = x.opened; name = x.name; attributes = x.attributes; key = x.key ++ b ∷ []; value = x.value; root = x.root }
put x ev.ValueBegin = with_value x []
put x (ev.ValueByte b) = with_value x (x.value ++ b ∷ [])
put x (ev.ValueChar c) = with_value x (x.value ++ encode_utf8 c)
put x ev.ValueEnd = record { opened = x.opened; name = x.name; attributes = x.attributes ++ (x.key, x.value) ∷ []; key = x.key; value = x.value; root = x.root }
put x ev.Opened = calm (record { name = x.name; attributes = x.attributes; items = empty; run = [] } ∷ x.opened) x.root
put x ev.Void = closed_into (node x.name x.attributes empty) x.opened x.root
put x (ev.Byte b) = with_open x (add_bytes x.opened (b ∷ []))
put x (ev.Char c) = with_open x (add_bytes x.opened (encode_utf8 c))
put x ev.Closed = close x.opened x.root

abbrev pub tell_on : Building → (State → Building) → Result State HtmlWhy → Building
tell_on x f (Ok t) = f t
tell_on x f (Err w) = x

abbrev pub tell : Building → State → List ℕ → Building
tell x s [] = x
tell x s (b ∷ bs) = tell_on x (λ t. tell (put x (out s b)) t bs) (mended b (step s b))

-- what is built from these bytes
abbrev pub built : List ℕ → Building
built bytes = tell (calm [] empty) start bytes
