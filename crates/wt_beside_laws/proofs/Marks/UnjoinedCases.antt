-- Worked cases: a bare URL that ends with the beginning of a reference, and two braces side by side in a node.
use Rattle.std.proofs.Common.{◌≡◌, ℕ, false, None, List, [], ◌∷◌, ◌++◌, map, refl, inl, inr}
use Rattle.std.specs.Prelude.{codes}
use Rattle.std.specs.Fmt.{digits}
use Rattle.wt_span.specs.Comments.{comment_len, comment_line_len}
use Rattle.wt_span.specs.Entities.{entity_at, named_entity, entity_names, decimal_entity, hex_entity}
use Rattle.wt_span.specs.Lexemes.{form_at as word_at, sign_word, words, closed as words_closed}
use Rattle.wt_span.specs.Tags.{raw_len, include_at, opening_tag as opening_word, closing_tag as closing_word, tag_after as word_after}
use Rattle.wt_tree.specs.declared.edit_shape.Place.TheVariants.{Paragraph}
use Rattle.wt_guards.specs.declared.role.Role.TheVariants as role
use Rattle.wt_guards.specs.Content.{ContentSign, Thing, letter, thing}
use Rattle.wt_guards.specs.Guards.{Setting, is_start_guard, is_end_guard, is_blank_guard, is_between_guard, is_guarded, nowiki, spelled}
use Rattle.wt_guards.specs.Letters.{is_escaped, reference}
use Rattle.wt_guards.specs.Table.{hazard, line_start_hazard}
use Rattle.wt_expand.specs.PageItems.{page_items}
use Rattle.wt_text_edit_laws.specs.NoCalls.{AreFewer}
use Rattle.wt_beside_laws.specs.Unjoined.{AllUnjoined}

abbrev in_paragraph : Setting
in_paragraph = record { within = false; place = Paragraph; source = [] }

-- ---- `http://x/?y&copy`

abbrev copied : Thing
copied = record { role = role.Bare false; source = codes "http://x/?y&copy"; place = None }

-- a `;` that is typed behind it would make it a reference
parted : spelled in_paragraph (thing copied ∷ map letter (codes "; a")) ≡ codes "http://x/?y&copy<nowiki/>; a"
unfolding is_guarded is_between_guard is_start_guard is_end_guard is_blank_guard hazard line_start_hazard nowiki is_escaped reference digits lib.Utf8.encode
parted = refl

parted_so : AllUnjoined in_paragraph [] (thing copied ∷ map letter (codes "; a"))
unfolding is_guarded is_between_guard is_start_guard is_end_guard is_blank_guard hazard line_start_hazard nowiki is_escaped reference digits lib.Utf8.encode
parted_so = (refl, tt)

before_blank : AllUnjoined in_paragraph [] (thing copied ∷ map letter (codes " a"))
unfolding is_guarded is_between_guard is_start_guard is_end_guard is_blank_guard hazard line_start_hazard nowiki is_escaped reference digits lib.Utf8.encode
before_blank = (refl, tt)

-- ---- `[[a|{{b]]`

-- the text behind it is another one, the braces are the same
kept : AreFewer (page_items (codes "[[a|{{b]] d")) (page_items (codes "[[a|{{b]] c"))
unfolding page_items words words_closed word_at comment_len comment_line_len raw_len include_at opening_word closing_word word_after entity_at named_entity entity_names decimal_entity hex_entity sign_word
kept = inr (tt, inl (refl, tt))
