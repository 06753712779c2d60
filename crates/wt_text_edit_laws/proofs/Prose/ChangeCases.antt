-- Worked cases of paragraphs that come and go, by computing.
use Rattle.std.proofs.Common.{◌≡◌, List, [], ◌∷◌, refl}
use Rattle.std.specs.Prelude.{codes}
use Rattle.std.specs.Fmt.{digits}
use Rattle.std.specs.Str.{chars}
use Rattle.wt_guards.specs.Guards.{nowiki, is_guarded, is_between_guard, is_start_guard, is_end_guard, is_blank_guard, is_parted}
use Rattle.wt_guards.specs.Letters.{is_escaped, reference}
use Rattle.wt_guards.specs.Table.{hazard, line_start_hazard}
use Rattle.wt_text_edit_laws.specs.ProsePages.{Passage, prose}
use Rattle.wt_text_edit_laws.specs.ProseChanges.{Addition, white, paragraph, stays, goes, ProseChange, passages_before, passages_changed}
use Rattle.wt_text_edit_laws.proofs.Prose.Cases.{free, node}

-- two paragraphs, an empty line between them, and a line break at the page's end
abbrev first : Passage
first = record { paragraph = codes "a"; breaks = 2 }

abbrev second : Passage
second = record { paragraph = codes "b"; breaks = 1 }

abbrev new : List Addition
new = white free ∷ paragraph free free (codes "[c]") ∷ white free ∷ []

-- a new one between them
abbrev between : ProseChange
between = record { first = []; changes = stays first node new ∷ stays second node [] ∷ [] }

its_source : prose (passages_before between.changes) ≡ codes "a\n\nb\n"
its_source = refl

one_between : prose (passages_changed between) ≡ codes "a\n\n&#91;c&#93;\n\n\nb\n"
unfolding is_guarded is_between_guard is_start_guard is_end_guard is_blank_guard is_parted hazard line_start_hazard nowiki is_escaped reference digits chars lib.Utf8.encode
one_between = refl

-- a new one after both, an empty one before them
one_behind : prose (passages_changed (record { first = []; changes = stays first node [] ∷ stays second node new ∷ [] })) ≡ codes "a\n\nb\n\n&#91;c&#93;\n"
unfolding is_guarded is_between_guard is_start_guard is_end_guard is_blank_guard is_parted hazard line_start_hazard nowiki is_escaped reference digits chars lib.Utf8.encode
one_behind = refl

one_before : prose (passages_changed (record { first = paragraph free free [] ∷ []; changes = stays first node [] ∷ stays second node [] ∷ [] })) ≡ codes "<nowiki/>\n\na\n\nb\n"
unfolding is_guarded is_between_guard is_start_guard is_end_guard is_blank_guard nowiki chars
one_before = refl

-- the second one goes
second_goes : prose (passages_changed (record { first = []; changes = stays first node [] ∷ goes second ∷ [] })) ≡ codes "a\n\n\n"
second_goes = refl

-- a new one in the place of the first, and in that of both
first_replaced : prose (passages_changed (record { first = new; changes = goes first ∷ stays second node [] ∷ [] })) ≡ codes "&#91;c&#93;\n\n\nb\n"
unfolding is_guarded is_between_guard is_start_guard is_end_guard is_blank_guard is_parted hazard line_start_hazard nowiki is_escaped reference digits chars lib.Utf8.encode
first_replaced = refl

both_replaced : prose (passages_changed (record { first = new; changes = goes first ∷ goes second ∷ [] })) ≡ codes "&#91;c&#93;\n\n\n"
unfolding is_guarded is_between_guard is_start_guard is_end_guard is_blank_guard is_parted hazard line_start_hazard nowiki is_escaped reference digits chars lib.Utf8.encode
both_replaced = refl
