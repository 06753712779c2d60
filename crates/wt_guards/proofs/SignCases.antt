-- Worked cases of the guards and of the characters of text, by computing: rows that were decided, each with its page in words.
use Rattle.std.proofs.Common.{◌≡◌, ℕ, Some, None, List, [], ◌∷◌, ◌++◌, refl, map}
use Rattle.std.specs.Prelude.{codes, true, false}
use Rattle.std.specs.Fmt.{digits}
use Rattle.wt_guards.specs.declared.role.Role.{Role}
use Rattle.wt_guards.specs.declared.role.Role.TheVariants as role
use Rattle.wt_guards.specs.declared.role.Transclusion.{Transclusion}
use Rattle.wt_tree.specs.declared.edit_shape.Place.{Place}
use Rattle.wt_tree.specs.declared.edit_shape.Place.TheVariants.{Paragraph, Heading, Item, Term, Header}
use Rattle.wt_guards.specs.declared.side.Side.TheVariants as side
use Rattle.wt_guards.specs.Table.{hazard, line_start_hazard}
use Rattle.wt_guards.specs.Content.{ContentSign, letter, thing}
use Rattle.wt_guards.specs.Letters.{is_escaped, reference}
use Rattle.wt_guards.specs.Guards.{Setting, is_start_guard, is_end_guard, is_blank_guard, is_parted, is_between_guard, is_guarded, nowiki, spelled}

abbrev text : List ℕ → List ContentSign
text bytes = map letter bytes

-- content in a place, of a block with this source in the page
abbrev over : List ℕ → Place → Setting
over source p = record { within = false; place = p; source = source }

abbrev at : Place → Setting
at p = over [] p

abbrev link_inside : Setting
link_inside = record { within = true; place = Paragraph; source = [] }

-- a node of the page between two of its places
abbrev kept : Role → List ℕ → ℕ → ℕ → List ContentSign
kept r source start end = thing (record { role = r; source = source; place = Some (record { start = start; end = end }) }) ∷ []

abbrev new : Role → List ℕ → List ContentSign
new r source = thing (record { role = r; source = source; place = None }) ∷ []

-- a group that shows a word, somewhere in its line
abbrev word : Transclusion
word = record {
  slashes = false;
  is_invisible = false;
  is_blank = false;
  opens_with_apostrophe = false;
  closes_with_apostrophe = false;
  began_line = false;
  ended_line = false;
  ended_content = false;
  between_equals = false;
}

-- ---- text alone

empty : spelled (at Paragraph) [] ≡ codes "<nowiki/>"
unfolding is_guarded is_between_guard is_start_guard nowiki
empty = refl

marked_up : spelled (at Paragraph) (text (codes "* [[x]] & ''y''")) ≡ codes "<nowiki/>* &#91;&#91;x&#93;&#93; & &#39;&#39;y&#39;&#39;"
unfolding is_guarded is_between_guard is_start_guard is_end_guard is_blank_guard hazard line_start_hazard nowiki is_escaped reference digits lib.Utf8.encode
marked_up = refl

heading : spelled (at Heading) (text (codes "= b =")) ≡ codes "<nowiki/>= b &#61;"
unfolding is_guarded is_between_guard is_start_guard is_end_guard is_blank_guard hazard line_start_hazard nowiki is_escaped reference digits lib.Utf8.encode
heading = refl

braces : spelled (at Paragraph) (text (codes "{{x}}")) ≡ codes "&#123;&#123;x&#125;&#125;"
unfolding is_guarded is_between_guard is_start_guard is_end_guard is_blank_guard hazard line_start_hazard nowiki is_escaped reference digits lib.Utf8.encode
braces = refl

comment : spelled (at Paragraph) (text (codes "<!-- ")) ≡ codes "&lt;!-- "
unfolding is_guarded is_between_guard is_start_guard is_end_guard is_blank_guard hazard line_start_hazard nowiki is_escaped reference digits lib.Utf8.encode
comment = refl

switch : spelled (at Paragraph) (text (codes "__TOC__")) ≡ codes "_&#95;TOC_&#95;"
unfolding is_guarded is_between_guard is_start_guard is_end_guard is_blank_guard hazard line_start_hazard nowiki is_escaped reference digits lib.Utf8.encode
switch = refl

second_line : spelled (at Paragraph) (text (codes "a\n* c")) ≡ codes "a\n<nowiki/>* c"
unfolding is_guarded is_between_guard is_start_guard is_end_guard is_blank_guard hazard line_start_hazard nowiki is_escaped reference digits lib.Utf8.encode
second_line = refl

-- one `=` at the start of a line is guarded and a reference
equals_alone : spelled (at Paragraph) (text (codes "=")) ≡ codes "<nowiki/>&#61;"
unfolding is_guarded is_between_guard is_start_guard is_end_guard is_blank_guard hazard line_start_hazard nowiki is_escaped reference digits lib.Utf8.encode
equals_alone = refl

-- a space alone in a heading is guarded before it and after it
heading_blank : spelled (at Heading) (text (codes " ")) ≡ codes "<nowiki/> <nowiki/>"
unfolding is_guarded is_between_guard is_start_guard is_end_guard is_blank_guard hazard line_start_hazard nowiki is_escaped reference digits lib.Utf8.encode
heading_blank = refl

-- `&` and `<` by what follows; a `:` before `//`; every `:` in a term; `!!` in a header cell
neighbours : spelled (at Paragraph) (text (codes "a<1 & &1 &#1 http://")) ≡ codes "a<1 & &1 &amp;#1 http&#58;//"
unfolding is_guarded is_between_guard is_start_guard is_end_guard is_blank_guard hazard line_start_hazard nowiki is_escaped reference digits lib.Utf8.encode
neighbours = refl

term : spelled (at Term) (text (codes "a:b")) ≡ codes "a&#58;b"
unfolding is_guarded is_between_guard is_start_guard is_end_guard is_blank_guard hazard line_start_hazard nowiki is_escaped reference digits lib.Utf8.encode
term = refl

header : spelled (at Header) (text (codes "a!!b!c")) ≡ codes "a&#33;&#33;b!c"
unfolding is_guarded is_between_guard is_start_guard is_end_guard is_blank_guard hazard line_start_hazard nowiki is_escaped reference digits lib.Utf8.encode
header = refl

-- the signs of the next cell may come after a `!` that ends a header cell, and not after one that ends a link in it
header_end : spelled (at Header) (text (codes "a!")) ≡ codes "a&#33;"
unfolding is_guarded is_between_guard is_start_guard is_end_guard is_blank_guard hazard line_start_hazard nowiki is_escaped reference digits lib.Utf8.encode
header_end = refl

in_header_link : spelled (record { within = true; place = Header; source = [] }) (text (codes "a!")) ≡ codes "a!"
unfolding is_guarded is_between_guard is_start_guard is_end_guard is_blank_guard hazard line_start_hazard nowiki is_escaped reference digits lib.Utf8.encode
in_header_link = refl

-- a character past ASCII is written as its bytes
past_ascii : spelled (at Paragraph) (letter 233 ∷ []) ≡ 195 ∷ 169 ∷ []
unfolding is_guarded is_between_guard is_start_guard is_end_guard is_blank_guard hazard line_start_hazard nowiki is_escaped reference digits lib.Utf8.encode
past_ascii = refl

-- the inside of a link has no line starts, and its ends are edges
within : spelled link_inside (text (codes "* a ")) ≡ codes "* a "
unfolding is_guarded is_between_guard is_start_guard is_end_guard is_blank_guard hazard line_start_hazard nowiki is_escaped reference digits lib.Utf8.encode
within = refl

within_empty : spelled link_inside [] ≡ []
unfolding is_guarded is_between_guard is_start_guard nowiki
within_empty = refl

-- ---- with nodes of the page

-- lines `a` and `{{e}}b`, where `e` gives nothing: ` c` in place of `b`
after_nothing : spelled (at Paragraph) (text (codes "a\n")
    ++ (kept (role.Group (record word { is_invisible = true; began_line = true })) (codes "{{e}}") 2 7 ++ text (codes " c")))
    ≡ codes "a\n{{e}}<nowiki/> c"
unfolding is_guarded is_between_guard is_start_guard is_end_guard is_blank_guard is_parted hazard line_start_hazard nowiki
    is_escaped reference digits lib.Utf8.encode
after_nothing = refl

-- `{{x}}'''''b''' c''`, where `x` gives `'`: `d` in place of `b`
after_apostrophe : spelled (at Paragraph)
    (kept (role.Group (record word { began_line = true; opens_with_apostrophe = true; closes_with_apostrophe = true })) (codes "{{x}}") 0 5
    ++ (kept role.Toggle (codes "''") 5 7 ++ (kept role.Toggle (codes "'''") 7 10
    ++ (text (codes "d") ++ (kept role.Toggle (codes "'''") 11 14 ++ (text (codes " c") ++ kept role.Toggle (codes "''") 16 18))))))
    ≡ codes "{{x}}<nowiki/>''<nowiki/>'''d''' c''"
unfolding is_guarded is_between_guard is_start_guard is_end_guard is_blank_guard is_parted hazard line_start_hazard nowiki
    is_escaped reference digits lib.Utf8.encode
after_apostrophe = refl

-- `__TOC__ http://x` without the space
switch_and_url : spelled (at Paragraph) (kept role.Switch (codes "__TOC__") 0 7 ++ kept (role.Bare false) (codes "http://x") 8 16)
    ≡ codes "__TOC__<nowiki/>http://x"
unfolding is_guarded is_between_guard is_start_guard is_end_guard is_blank_guard is_parted hazard line_start_hazard nowiki
    is_escaped reference digits lib.Utf8.encode
switch_and_url = refl

-- `{{q}} http://x= a`, where `q` gives `=`, without ` a`
url_with_equals : spelled (at Paragraph) (kept (role.Group (record word { began_line = true })) (codes "{{q}}") 0 5
    ++ (text (codes " ") ++ kept (role.Bare true) (codes "http://x=") 6 15))
    ≡ codes "{{q}} http://x=<nowiki/>"
unfolding is_guarded is_between_guard is_start_guard is_end_guard is_blank_guard is_parted hazard line_start_hazard nowiki
    is_escaped reference digits lib.Utf8.encode
url_with_equals = refl

-- and with a space in place of ` a `: the guard stands at the line's end
url_with_equals_and_blank : spelled (at Paragraph)
    (kept (role.Group (record word { began_line = true })) (codes "{{q}}") 0 5
    ++ (text (codes " ") ++ (kept (role.Bare true) (codes "http://x=") 6 15 ++ text (codes " "))))
    ≡ codes "{{q}} http://x= <nowiki/>"
unfolding is_guarded is_between_guard is_start_guard is_end_guard is_blank_guard is_parted hazard line_start_hazard nowiki
    is_escaped reference digits lib.Utf8.encode
url_with_equals_and_blank = refl

-- `x{{h}}{{s}}`, where `h` gives `http:` and `s` gives `//y`: `a ` in place of `x`
two_groups : spelled (at Paragraph)
    (text (codes "a ") ++ (kept (role.Group word) (codes "{{h}}") 1 6
    ++ kept (role.Group (record word { slashes = true; ended_line = true; ended_content = true })) (codes "{{s}}") 6 11))
    ≡ codes "a {{h}}<nowiki/>{{s}}"
unfolding is_guarded is_between_guard is_start_guard is_end_guard is_blank_guard is_parted hazard line_start_hazard nowiki
    is_escaped reference digits lib.Utf8.encode
two_groups = refl

-- and where both give `=` they stay together
two_equals : spelled (at Paragraph)
    (text (codes "a ") ++ (kept (role.Group word) (codes "{{q}}") 1 6
    ++ kept (role.Group (record word { between_equals = true; ended_line = true; ended_content = true })) (codes "{{q}}") 6 11))
    ≡ codes "a {{q}}{{q}}"
unfolding is_guarded is_between_guard is_start_guard is_end_guard is_blank_guard is_parted hazard line_start_hazard nowiki
    is_escaped reference digits lib.Utf8.encode
two_equals = refl

-- a group next to a URL is parted from it though they stood so
group_and_url : spelled link_inside (kept (role.Group word) (codes "{{x}}") 0 5 ++ kept (role.Bare false) (codes "http://x") 5 13)
    ≡ codes "{{x}}<nowiki/>http://x"
unfolding is_guarded is_between_guard is_parted hazard nowiki
group_and_url = refl

-- two nodes that stood next to each other are not parted: `[[a]]` and a bare URL
stood_so : spelled link_inside (kept role.Link (codes "[[a]]") 0 5 ++ kept (role.Bare false) (codes "http://x") 5 13) ≡ codes "[[a]]http://x"
unfolding is_guarded is_between_guard is_parted hazard nowiki
stood_so = refl

-- a new style has no place in the page
new_style : spelled link_inside (kept (role.Group word) (codes "{{S}}") 0 5
    ++ (new role.Toggle (codes "'''") ++ (new role.Node (codes "<nowiki/>") ++ new role.Toggle (codes "'''"))))
    ≡ codes "{{S}}<nowiki/>'''<nowiki/>'''"
unfolding is_guarded is_between_guard is_parted hazard nowiki
new_style = refl

-- a line of a mark that wasn't at a line's start, and spaces: guarded before the mark and before the text
mark_and_blank : spelled (at Paragraph) (kept (role.Mark false false) (codes "<!---->") 1 8 ++ text (codes " ")) ≡ codes "<nowiki/><!----><nowiki/> "
unfolding is_guarded is_between_guard is_start_guard is_end_guard is_blank_guard is_parted hazard line_start_hazard nowiki
    is_escaped reference digits lib.Utf8.encode
mark_and_blank = refl

-- nothing is put before a mark that ends a line, and nothing before the group after it that stood at a line's start:
-- lines `a`, `<!-- c -->`, `x`, `{{T}}` without `x` and its line break
comment_line : spelled (at Paragraph) (text (codes "a\n")
    ++ (kept (role.Mark true true) (codes "<!-- c -->\n") 2 13
    ++ kept (role.Group (record word { began_line = true; ended_line = true; ended_content = true })) (codes "{{T}}") 15 20))
    ≡ codes "a\n<!-- c -->\n{{T}}"
unfolding is_guarded is_between_guard is_start_guard is_end_guard is_blank_guard is_parted hazard line_start_hazard nowiki
    is_escaped reference digits lib.Utf8.encode
comment_line = refl

-- ---- the cases that were mended

-- `{{B}} ` without its space: else the group would be the whole paragraph
group_alone : spelled (at Paragraph) (kept (role.Group (record word { began_line = true; ended_line = true })) (codes "{{B}}") 0 5) ≡ codes "{{B}}<nowiki/>"
unfolding is_guarded is_between_guard is_start_guard is_end_guard is_blank_guard is_parted hazard line_start_hazard nowiki
    is_escaped reference digits lib.Utf8.encode
group_alone = refl

-- `{{B}}` that ended the content stays as it is
group_as_it_was : spelled (at Paragraph) (kept
    (role.Group (record word { began_line = true; ended_line = true; ended_content = true })) (codes "{{B}}") 0 5) ≡ codes "{{B}}"
unfolding is_guarded is_between_guard is_start_guard is_end_guard is_blank_guard is_parted hazard line_start_hazard nowiki
    is_escaped reference digits lib.Utf8.encode
group_as_it_was = refl

-- a function after a URL that takes a brace, though they stood so
brace_before_function : spelled link_inside (kept (role.Bare false) (codes "http://{") 0 8
    ++ kept role.Function (codes "{{#}}") 8 13) ≡ codes "http://{<nowiki/>{{#}}"
unfolding is_guarded is_between_guard is_parted hazard nowiki
brace_before_function = refl

-- a paragraph `http://{ y` without ` y`, behind which a call may stand: its braces aren't lengthened
brace_at_end : spelled (over (codes "http://{ y") Paragraph) (kept (role.Bare false) (codes "http://{") 0 8) ≡ codes "http://{<nowiki/>"
unfolding is_guarded is_between_guard is_start_guard is_end_guard is_blank_guard hazard line_start_hazard nowiki
brace_at_end = refl

-- `y http://{` without `y `: it ended the paragraph
brace_as_it_was : spelled (over (codes "y http://{") Paragraph) (kept (role.Bare false) (codes "http://{") 2 10) ≡ codes "http://{"
unfolding is_guarded is_between_guard is_start_guard is_end_guard is_blank_guard hazard line_start_hazard nowiki
brace_as_it_was = refl

-- only in a paragraph
brace_in_item : spelled (over (codes "* http://{ y") Item) (kept (role.Bare false) (codes "http://{") 2 10) ≡ codes "http://{"
unfolding is_guarded is_between_guard is_start_guard is_end_guard is_blank_guard hazard line_start_hazard nowiki
brace_in_item = refl

-- `{{t}}&{{s}}` with a space in place of `&`
blank_between : spelled (over (codes "{{t}}&{{s}}") Paragraph)
    (kept (role.Group (record word { is_blank = true; began_line = true })) (codes "{{t}}") 0 5
    ++ (text (codes " ") ++ kept (role.Group (record word { ended_line = true; ended_content = true })) (codes "{{s}}") 6 11))
    ≡ codes "{{t}} <nowiki/>{{s}}"
unfolding is_guarded is_between_guard is_start_guard is_end_guard is_blank_guard is_parted hazard line_start_hazard nowiki
    is_escaped reference digits lib.Utf8.encode
blank_between = refl

-- an untouched `{{t}} {{q}}` stays
blank_as_it_was : spelled (over (codes "{{t}} {{q}}") Paragraph)
    (kept (role.Group (record word { is_blank = true; began_line = true })) (codes "{{t}}") 0 5
    ++ (text (codes " ") ++ kept (role.Group (record word { ended_line = true; ended_content = true })) (codes "{{q}}") 6 11))
    ≡ codes "{{t}} {{q}}"
unfolding is_guarded is_between_guard is_start_guard is_end_guard is_blank_guard is_parted hazard line_start_hazard nowiki
    is_escaped reference digits lib.Utf8.encode
blank_as_it_was = refl

-- lines `x` and `<!-- c -->a<!-- d -->{{s}}` without the `a`
two_marks : spelled (at Paragraph)
    (text (codes "x\n") ++ (kept (role.Mark false true) (codes "<!-- c -->") 2 12
    ++ (kept (role.Mark false false) (codes "<!-- d -->") 13 23
    ++ kept (role.Group (record word { ended_line = true; ended_content = true })) (codes "{{s}}") 23 28)))
    ≡ codes "x\n<!-- c --><nowiki/><!-- d -->{{s}}"
unfolding is_guarded is_between_guard is_start_guard is_end_guard is_blank_guard is_parted hazard line_start_hazard nowiki
    is_escaped reference digits lib.Utf8.encode
two_marks = refl

-- a paragraph in a cell, `{{t}} a`, where `t` gives a tab: ` !` in place of ` a`
bar : spelled (at Paragraph) (kept (role.Group (record word { is_blank = true; began_line = true })) (codes "{{t}}") 0 5
    ++ text (codes " !")) ≡ codes "{{t}} &#33;"
unfolding is_guarded is_between_guard is_start_guard is_end_guard is_blank_guard is_parted hazard line_start_hazard nowiki
    is_escaped reference digits lib.Utf8.encode
bar = refl
