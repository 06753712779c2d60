-- Worked cases of plain text, by computing.
use Rattle.std.proofs.Common.{◌≡◌, true, false, [], refl}
use Rattle.std.specs.Prelude.{codes}
use Rattle.std.specs.List.{list_all}
use Rattle.std.specs.Fmt.{digits}
use Rattle.std.specs.Str.{chars}
use Rattle.wt_guards.specs.Guards.{nowiki, is_guarded, is_between_guard, is_start_guard, is_end_guard, is_blank_guard, is_parted}
use Rattle.wt_guards.specs.Letters.{is_escaped, reference}
use Rattle.wt_guards.specs.Table.{hazard, line_start_hazard}
use Rattle.wt_text_edit_laws.specs.LoneEdits.{typed_in}
use Rattle.wt_text_edit_laws.specs.PlainTexts.{is_plain, are_as_typed, are_text_lines}

-- a sentence with an apostrophe, quotation marks, a colon, a hyphen and a list of numbers
sentence : are_as_typed [] (codes "It's 5:30, he said: \"well-known; #1 (of a_b)!\"") ≡ true
unfolding is_escaped
sentence = refl

-- two apostrophes, an address, two low lines, and an apostrophe at an end
style : are_as_typed [] (codes "a ''b'' c") ≡ false
unfolding is_escaped
style = refl

address : are_as_typed [] (codes "see http://a.b") ≡ false
unfolding is_escaped
address = refl

switch : are_as_typed [] (codes "a __TOC__") ≡ false
unfolding is_escaped
switch = refl

quoted : are_as_typed [] (codes "'a'") ≡ false
unfolding is_escaped
quoted = refl

-- two lines; an empty one; one that begins a list; a line break at the end
two_lines : are_text_lines true (codes "a b\nc * d") ≡ true
unfolding line_start_hazard
two_lines = refl

empty_line : are_text_lines true (codes "a\n\nb") ≡ false
unfolding line_start_hazard
empty_line = refl

list_line : are_text_lines true (codes "a\n* b") ≡ false
unfolding line_start_hazard
list_line = refl

last_break : are_text_lines true (codes "a\n") ≡ false
unfolding line_start_hazard
last_break = refl

-- a tag and a link
tag : list_all is_plain (codes "a <b>") ≡ false
tag = refl

link : list_all is_plain (codes "[[a]]") ≡ false
link = refl

-- what is typed into a page: no text, a link, an entity and a list
nothing_typed : typed_in (codes "a") [] ≡ codes "<nowiki/>"
unfolding is_guarded is_between_guard is_start_guard is_end_guard is_blank_guard nowiki chars
nothing_typed = refl

link_typed : typed_in (codes "a") (codes "[b]") ≡ codes "&#91;b&#93;"
unfolding is_guarded is_between_guard is_start_guard is_end_guard is_blank_guard is_parted hazard line_start_hazard nowiki is_escaped reference digits chars lib.Utf8.encode
link_typed = refl

list_typed : typed_in (codes "a") (codes "x\n* y") ≡ codes "x\n<nowiki/>* y"
unfolding is_guarded is_between_guard is_start_guard is_end_guard is_blank_guard is_parted hazard line_start_hazard nowiki is_escaped reference digits chars lib.Utf8.encode
list_typed = refl
