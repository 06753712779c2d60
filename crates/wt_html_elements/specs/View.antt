-- What contracts see in a machine, over what was built so far: its state.
use Rattle.std.specs.Prelude.{◌≡◌, ℕ, Option, Some, None, Result, Ok, Err, List, [], ◌∷◌, drop, map, codes}
use Rattle.wt_html_grammar.specs.declared.why.HtmlWhy.{HtmlWhy}
use Rattle.wt_html_grammar.specs.declared.event.Event.{Event}
use Rattle.wt_html_grammar.specs.Signs.{letters_of}
use Rattle.wt_html_grammar.specs.Machine.{Escape, ampersand, apart, letters, sharp, digits, wide, EscapeStep, stop, on, ended, State, start, first, doctype, inside, less, naming, gap, attribute, named_so, equals, value, valued, slashed, closing, closed, escaping, Tag, with_seen}
use Rattle.wt_html_grammar.specs.Events.{Frame, Building}
use Rattle.wt_html_elements.specs.declared.escape.EscapeAt.{EscapeAt}
use Rattle.wt_html_elements.specs.declared.escape.EscapeAt.TheVariants as escapes
use Rattle.wt_html_elements.specs.declared.escape.TurnTo.{TurnTo}
use Rattle.wt_html_elements.specs.declared.escape.TurnTo.TheVariants as turns
use Rattle.wt_html_elements.specs.declared.machine.Mode.{Mode}
use Rattle.wt_html_elements.specs.declared.machine.Mode.TheVariants as modes
use Rattle.wt_html_elements.specs.declared.machine.Within.{Within}
use Rattle.wt_html_elements.specs.declared.machine.Within.TheVariants as withins
use Rattle.wt_html_elements.specs.declared.machine.Machine.{Machine}
use Rattle.wt_html_elements.specs.Held.{moved}

abbrev pub escape_of : EscapeAt → Escape
escape_of escapes.Ampersand = ampersand
escape_of escapes.Apart = apart
escape_of (escapes.Letters n at) = letters n (drop at (letters_of n))
escape_of escapes.Sharp = sharp
escape_of (escapes.Digits r k n) = digits r k n

-- a turn of the code says what the machine does and which character was read
abbrev pub Turns : TurnTo → EscapeStep → Option ℕ → Type 0
Turns turns.Stop t c = t ≡ stop
Turns (turns.On e) t c = (t ≡ on (escape_of e)) × (c ≡ None)
Turns (turns.Ended x) t c = (t ≡ ended) × (c ≡ Some x)

-- the names of open elements, the innermost first
abbrev pub names : List Frame → List (List ℕ)
names fs = map (λ f. f.name) fs

-- the name of the innermost, and those round it
abbrev pub first_name : List Frame → List ℕ
first_name [] = []
first_name (f ∷ fs) = f.name

abbrev pub other_names : List Frame → List (List ℕ)
other_names [] = []
other_names (f ∷ fs) = names fs

-- the names of the whole attributes
abbrev pub attribute_names : Building → List (List ℕ)
attribute_names x = map (λ p. p.0) x.attributes

-- the start tag that is read; and after the name of an attribute, which is then one of its names
abbrev pub tag_of : Building → Tag
tag_of x = record { outer = names x.opened; name = x.name; seen = attribute_names x }

abbrev pub tag_behind_key : Building → Tag
tag_behind_key x = with_seen (tag_of x) x.key

abbrev pub place_at : Mode → Machine → Building → State
place_at modes.Start m x = start
place_at modes.First m x = first
place_at modes.Doctype m x = doctype (drop m.at (codes "doctype html>"))
place_at modes.Inside m x = inside (names x.opened)
place_at modes.Less m x = less (names x.opened)
place_at modes.Naming m x = naming (names x.opened) x.name
place_at modes.Gap m x = gap (tag_of x)
place_at modes.Attribute m x = attribute (tag_of x) x.key
place_at modes.Named m x = named_so (tag_behind_key x)
place_at modes.Equals m x = equals (tag_behind_key x)
place_at modes.Value m x = value (tag_behind_key x) m.quote
place_at modes.Valued m x = valued (tag_of x)
place_at modes.Slashed m x = slashed (tag_of x)
place_at modes.Closing m x = closing (drop m.at (first_name x.opened)) (other_names x.opened)
place_at modes.Closed m x = closed (other_names x.opened)

abbrev pub place_of : Machine → Building → State
place_of m x = place_at m.mode m x

abbrev pub inside_of : Within → State → State
inside_of withins.Nothing s = s
inside_of (withins.Escape e) s = escaping s (escape_of e)
inside_of (withins.Character f) s = escaping s (wide f.low f.high f.more)

abbrev pub view : Machine → Building → State
view m x = inside_of m.within (place_of m x)

-- the state once what a byte says is built
abbrev pub view_after : Machine → Building → Event → State
view_after m x e = view m (moved x e)

-- what a step answers: what the byte says, with the state after it, or why it can't be there
abbrev pub Takes : Result State HtmlWhy → Event → Result Event HtmlWhy → (Event → State) → Type 0
Takes o v (Ok e) f = (o ≡ Ok (f e)) × (e ≡ v)
Takes o v (Err w) f = o ≡ Err w
