-- Which two stand side by side only with `<nowiki/>` between them: a row for what stands on the left, computed. The nodes weren't
-- next to each other in the page.
use Rattle.std.proofs.Common.{◌≡◌, ℕ, List, [], ◌∷◌, ◌++◌, None, Bool, true, false, map, refl}
use Rattle.std.specs.Prelude.{codes}
use Rattle.std.specs.Fmt.{digits}
use Rattle.wt_guards.specs.declared.role.Role.{Role}
use Rattle.wt_guards.specs.declared.role.Role.TheVariants as role
use Rattle.wt_tree.specs.declared.edit_shape.Place.TheVariants.{Paragraph}
use Rattle.wt_guards.specs.Table.{hazard}
use Rattle.wt_guards.specs.Content.{ContentSign, letter, thing}
use Rattle.wt_guards.specs.Letters.{is_escaped, reference}
use Rattle.wt_guards.specs.Guards.{Setting, is_parted, is_between_guard, is_guarded, nowiki, spelled}

abbrev text : List ℕ → List ContentSign
text bytes = map letter bytes

abbrev node : Role → List ℕ → List ContentSign
node r source = thing (record { role = r; source = source; place = None }) ∷ []

-- the inside of a link, where no line begins or ends
abbrev inside : Setting
inside = record { within = true; place = Paragraph; source = [] }

-- a group that shows a word, with or without `//`
abbrev group : Bool → List ContentSign
group slashes =
    node (role.Group (record {
      slashes = slashes;
      is_invisible = false;
      is_blank = false;
      opens_with_apostrophe = false;
      closes_with_apostrophe = false;
      began_line = false;
      ended_line = false;
      ended_content = false;
      between_equals = false;
    })) (codes "{{x}}")

abbrev link : List ContentSign
link = node role.Link (codes "[[a]]")

abbrev external : List ContentSign
external = node role.External (codes "[http://x]")

abbrev bare : List ContentSign
bare = node (role.Bare false) (codes "http://x")

abbrev switch : List ContentSign
switch = node role.Switch (codes "__TOC__")

abbrev toggle : List ContentSign
toggle = node role.Toggle (codes "''")

abbrev other : List ContentSign
other = node role.Node (codes "<br>")

-- whether something is put between them
abbrev parted : List ContentSign → List ContentSign → Bool
parted left right = is_guarded inside left right

-- ---- nodes on the right: a link, an external link, a bare URL, a switch, a group, a delimiter of a style, and another node

abbrev nodes : List (List ContentSign)
nodes = link ∷ external ∷ bare ∷ switch ∷ group false ∷ toggle ∷ other ∷ []

after_letter : map (parted (text (codes "a"))) nodes ≡ false ∷ false ∷ true ∷ false ∷ true ∷ false ∷ false ∷ []
unfolding is_guarded is_between_guard is_parted hazard
after_letter = refl

after_link : map (parted link) nodes ≡ false ∷ false ∷ true ∷ false ∷ true ∷ false ∷ false ∷ []
unfolding is_guarded is_between_guard is_parted hazard
after_link = refl

after_external : map (parted external) nodes ≡ false ∷ false ∷ false ∷ false ∷ true ∷ false ∷ false ∷ []
unfolding is_guarded is_between_guard is_parted hazard
after_external = refl

after_bare : map (parted bare) nodes ≡ true ∷ true ∷ true ∷ true ∷ true ∷ true ∷ true ∷ []
unfolding is_guarded is_between_guard is_parted hazard
after_bare = refl

after_switch : map (parted switch) nodes ≡ false ∷ false ∷ true ∷ false ∷ true ∷ false ∷ false ∷ []
unfolding is_guarded is_between_guard is_parted hazard
after_switch = refl

after_group : map (parted (group false)) nodes ≡ true ∷ true ∷ true ∷ true ∷ true ∷ true ∷ true ∷ []
unfolding is_guarded is_between_guard is_parted hazard
after_group = refl

after_toggle : map (parted toggle) nodes ≡ false ∷ false ∷ true ∷ false ∷ true ∷ true ∷ false ∷ []
unfolding is_guarded is_between_guard is_parted hazard
after_toggle = refl

after_other : map (parted other) nodes ≡ false ∷ false ∷ false ∷ false ∷ true ∷ false ∷ false ∷ []
unfolding is_guarded is_between_guard is_parted hazard
after_other = refl

-- at the edges nothing is put
edges : map (parted []) nodes ++ map (λ left. parted left []) nodes
    ≡ false ∷ false ∷ false ∷ false ∷ false ∷ false ∷ false ∷ false ∷ false ∷ false ∷ false ∷ false ∷ false ∷ false ∷ []
unfolding is_guarded is_between_guard is_parted hazard
edges = refl

-- ---- text on the left of a bare URL and of a group: letters of both cases, a digit, `_`; a space, `(`, `,`; `.`, `)`, `-`

abbrev ends : List (List ContentSign)
ends = map text (codes "a" ∷ codes "Z" ∷ codes "1" ∷ codes "_" ∷ codes " " ∷ codes "(" ∷ codes "," ∷ codes "." ∷ codes ")" ∷ codes "-" ∷ [])

before_bare : map (λ left. parted left bare) ends ≡ true ∷ true ∷ true ∷ true ∷ false ∷ false ∷ false ∷ false ∷ false ∷ false ∷ []
unfolding is_guarded is_between_guard is_parted hazard
before_bare = refl

before_group : map (λ left. parted left (group false)) ends ≡ true ∷ true ∷ true ∷ true ∷ false ∷ false ∷ false ∷ true ∷ true ∷ true ∷ []
unfolding is_guarded is_between_guard is_parted hazard
before_group = refl

-- ---- text on the right: a small letter, a capital, a digit; a space; `,` `;` `.` `?` `)`; `-`

abbrev beginnings : List (List ContentSign)
beginnings =
    map text (codes "a" ∷ codes "A" ∷ codes "1" ∷ codes " " ∷ codes "," ∷ codes ";" ∷ codes "." ∷ codes "?" ∷ codes ")" ∷ codes "-" ∷ [])

-- only a small letter would join the link
text_after_link : map (parted link) beginnings ≡ true ∷ false ∷ false ∷ false ∷ false ∷ false ∷ false ∷ false ∷ false ∷ false ∷ []
unfolding is_guarded is_between_guard is_parted hazard
text_after_link = refl

-- all but a space would join the URL, or be read otherwise behind it
text_after_bare : map (parted bare) beginnings ≡ true ∷ true ∷ true ∷ false ∷ true ∷ true ∷ true ∷ true ∷ true ∷ true ∷ []
unfolding is_guarded is_between_guard is_parted hazard
text_after_bare = refl

text_after_group : map (parted (group false)) beginnings ≡ true ∷ true ∷ true ∷ false ∷ false ∷ false ∷ false ∷ false ∷ false ∷ true ∷ []
unfolding is_guarded is_between_guard is_parted hazard
text_after_group = refl

text_after_slashes : map (parted (group true)) beginnings ≡ true ∷ true ∷ true ∷ false ∷ true ∷ true ∷ true ∷ true ∷ true ∷ true ∷ []
unfolding is_guarded is_between_guard is_parted hazard
text_after_slashes = refl

text_after_others : map (λ left. parted left (text (codes "a"))) (external ∷ switch ∷ toggle ∷ other ∷ []) ≡ false ∷ false ∷ false ∷ false ∷ []
unfolding is_guarded is_between_guard is_parted hazard
text_after_others = refl

-- ---- as it is written

link_then_text : spelled inside (link ++ text (codes "b")) ≡ codes "[[a]]<nowiki/>b"
unfolding is_guarded is_between_guard is_parted hazard nowiki is_escaped reference digits lib.Utf8.encode
link_then_text = refl

text_then_url : spelled inside (text (codes "b") ++ bare) ≡ codes "b<nowiki/>http://x"
unfolding is_guarded is_between_guard is_parted hazard nowiki is_escaped reference digits lib.Utf8.encode
text_then_url = refl

url_then_text : spelled inside (bare ++ text (codes "b")) ≡ codes "http://x<nowiki/>b"
unfolding is_guarded is_between_guard is_parted hazard nowiki is_escaped reference digits lib.Utf8.encode
url_then_text = refl

style_then_url : spelled inside (toggle ++ bare) ≡ codes "''<nowiki/>http://x"
unfolding is_guarded is_between_guard is_parted hazard nowiki
style_then_url = refl

switch_then_group : spelled inside (switch ++ group false) ≡ codes "__TOC__<nowiki/>{{x}}"
unfolding is_guarded is_between_guard is_parted hazard nowiki
switch_then_group = refl
