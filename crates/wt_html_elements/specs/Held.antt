-- What is held of the start tag that is read: only what is still needed, and no more than was taken of it.
use Rattle.std.specs.Prelude.{ℕ, suc, ◌+◌, ◌-◌, ◌&&◌, Bool, true, false, not, List, [], ◌∷◌, ◌++◌, length, map}
use Rattle.wt_html_grammar.specs.declared.event.Event.{Event}
use Rattle.wt_html_grammar.specs.declared.event.Event.TheVariants as ev
use Rattle.wt_html_grammar.specs.Signs.{is_among, letters_of}
use Rattle.wt_html_grammar.specs.Markup.{Pair}
use Rattle.wt_html_grammar.specs.Machine.{Escape, ampersand, apart, letters, sharp, digits, wide, State, start, first, doctype, inside, less, naming, gap, attribute, named_so, equals, value, valued, slashed, closing, closed, escaping}
use Rattle.wt_html_grammar.specs.Events.{Frame, Building, calm, put}

-- whether an element is open
abbrev pub is_some_open : List Frame → Bool
is_some_open [] = false
is_some_open (f ∷ fs) = true

-- the bytes of names and values
abbrev pub pairs_len : List Pair → ℕ
pairs_len [] = 0
pairs_len (p ∷ ps) = length p.0 + length p.1 + pairs_len ps

-- how many bytes are held of a start tag: its name, its attributes, and the name and the value that are read
abbrev pub tag_len : Building → ℕ
tag_len x = length x.name + pairs_len x.attributes + length x.key + length x.value

-- a whole attribute takes its name and its value with it
abbrev pub with_attribute : Building → Building
with_attribute x = record { opened = x.opened; name = x.name; attributes = x.attributes ++ (x.key, x.value) ∷ []; key = []; value = []; root = x.root }

-- what is built, where the attribute that is read moves to the others
abbrev pub moved : Building → Event → Building
moved x ev.Quiet = put x ev.Quiet
moved x (ev.NameBegin b) = put x (ev.NameBegin b)
moved x (ev.Name b) = put x (ev.Name b)
moved x (ev.KeyBegin b) = put x (ev.KeyBegin b)
moved x (ev.Key b) = put x (ev.Key b)
moved x ev.ValueBegin = put x ev.ValueBegin
moved x (ev.ValueByte b) = put x (ev.ValueByte b)
moved x (ev.ValueChar c) = put x (ev.ValueChar c)
moved x ev.ValueEnd = with_attribute x
moved x ev.Opened = put x ev.Opened
moved x ev.Void = put x ev.Void
moved x (ev.Byte b) = put x (ev.Byte b)
moved x (ev.Char c) = put x (ev.Char c)
moved x ev.Closed = put x ev.Closed

-- what is still needed outside start tags; in one, between attributes; and from an attribute's name to its value
abbrev pub outside_tag : Building → Building
outside_tag x = calm x.opened x.root

abbrev pub between_attributes : Building → Building
between_attributes x = record { opened = x.opened; name = x.name; attributes = x.attributes; key = []; value = []; root = x.root }

abbrev pub before_value : Building → Building
before_value x = record { opened = x.opened; name = x.name; attributes = x.attributes; key = x.key; value = []; root = x.root }

-- what is still needed of what was built
abbrev pub needed : State → Building → Building
needed start x = outside_tag x
needed first x = outside_tag x
needed (doctype cs) x = outside_tag x
needed (inside ns) x = outside_tag x
needed (less ns) x = outside_tag x
needed (naming ns n) x = between_attributes x
needed (gap t) x = between_attributes x
needed (attribute t a) x = before_value x
needed (named_so t) x = before_value x
needed (equals t) x = before_value x
needed (value t q) x = x
needed (valued t) x = between_attributes x
needed (slashed t) x = between_attributes x
needed (closing cs ns) x = outside_tag x
needed (closed ns) x = outside_tag x
needed (escaping s e) x = needed s x

-- how many bytes of an escape have come, at least; a character's bytes are held with the text or the value
abbrev pub escape_len : Escape → ℕ
escape_len ampersand = 1
escape_len apart = 2
escape_len (letters n cs) = suc (length (letters_of n)) - length cs
escape_len sharp = 2
escape_len (digits r k n) = 2 + k
escape_len (wide low high n) = 0

abbrev pub spent : State → ℕ
spent start = 0
spent first = 0
spent (doctype cs) = 0
spent (inside ns) = 0
spent (less ns) = 0
spent (naming ns n) = 0
spent (gap t) = 0
spent (attribute t a) = 0
spent (named_so t) = 0
spent (equals t) = 0
spent (value t q) = 0
spent (valued t) = 0
spent (slashed t) = 0
spent (closing cs ns) = 0
spent (closed ns) = 0
spent (escaping s e) = escape_len e

abbrev pub is_some_attribute : List Pair → Bool
is_some_attribute [] = false
is_some_attribute (p ∷ ps) = true

-- the attribute that is read has a name of its own
abbrev pub is_new : Building → Bool
is_new x = not (is_among x.key (map (λ p. p.0) x.attributes))

-- characters and escapes are in texts and values only
abbrev pub has_signs : State → Bool
has_signs start = false
has_signs first = false
has_signs (doctype cs) = false
has_signs (inside ns) = true
has_signs (less ns) = false
has_signs (naming ns n) = false
has_signs (gap t) = false
has_signs (attribute t a) = false
has_signs (named_so t) = false
has_signs (equals t) = false
has_signs (value t q) = true
has_signs (valued t) = false
has_signs (slashed t) = false
has_signs (closing cs ns) = false
has_signs (closed ns) = false
has_signs (escaping s e) = false

-- what is built fits to the state: nothing is open before the root, no attribute is in a tag's name, and none
-- comes twice
abbrev pub fits : State → Building → Bool
fits start x = not (is_some_open x.opened)
fits first x = not (is_some_open x.opened)
fits (doctype cs) x = not (is_some_open x.opened)
fits (inside ns) x = true
fits (less ns) x = true
fits (naming ns n) x = not (is_some_attribute x.attributes)
fits (gap t) x = true
fits (attribute t a) x = true
fits (named_so t) x = is_new x
fits (equals t) x = is_new x
fits (value t q) x = is_new x
fits (valued t) x = true
fits (slashed t) x = true
fits (closing cs ns) x = true
fits (closed ns) x = true
fits (escaping s e) x = has_signs s && fits s x

-- what an event asks of what is built: a whole attribute has a new name
abbrev pub may_be_put : Building → Event → Bool
may_be_put x ev.Quiet = true
may_be_put x (ev.NameBegin b) = true
may_be_put x (ev.Name b) = true
may_be_put x (ev.KeyBegin b) = true
may_be_put x (ev.Key b) = true
may_be_put x ev.ValueBegin = true
may_be_put x (ev.ValueByte b) = true
may_be_put x (ev.ValueChar c) = true
may_be_put x ev.ValueEnd = is_new x
may_be_put x ev.Opened = true
may_be_put x ev.Void = true
may_be_put x (ev.Byte b) = true
may_be_put x (ev.Char c) = true
may_be_put x ev.Closed = true
