-- Worked cases of prose, by computing.
use Rattle.std.proofs.Common.{◌≡◌, None, List, [], ◌∷◌, refl}
use Rattle.std.specs.Prelude.{codes}
use Rattle.std.specs.Fmt.{digits}
use Rattle.std.specs.Str.{chars}
use Rattle.wt_tree.specs.declared.kind.Kind.TheVariants as kind
use Rattle.wt_tree.specs.declared.kind.Mark.TheVariants as marks
use Rattle.wt_tree.specs.Tree.{Label, Tree, tree, none}
use Rattle.wt_guards.specs.Guards.{nowiki, is_guarded, is_between_guard, is_start_guard, is_end_guard, is_blank_guard, is_parted}
use Rattle.wt_guards.specs.Letters.{is_escaped, reference}
use Rattle.wt_guards.specs.Table.{hazard, line_start_hazard}
use Rattle.wt_text_edit_laws.specs.ProsePages.{Passage, prose}
use Rattle.wt_text_edit_laws.specs.ProseEdits.{retyped, kept, PassageEdit, old_passages, new_passages}

-- two paragraphs, an empty line between them, and a line break at the page's end
abbrev page : List Passage
page = record { paragraph = codes "a"; breaks = 2 } ∷ record { paragraph = codes "b"; breaks = 1 } ∷ []

its_source : prose page ≡ codes "a\n\nb\n"
its_source = refl

-- ---- what is typed into it

abbrev pub free : Label
free = record {
  kind = kind.Text;
  id = 0;
  ranges = None;
  opening = [];
  closing = [];
  own = [];
  shown = [];
  attrs = [];
  origin = None;
  mark = marks.Nothing;
  mw = None;
}

-- what is kept has no part in the new page's source
abbrev pub node : Tree
node = tree free none

abbrev first_typed : List PassageEdit
first_typed =
    record { passage = record { paragraph = codes "a"; breaks = 2 }; sending = retyped free free (codes "[c]"); breaks = node }
    ∷ record { passage = record { paragraph = codes "b"; breaks = 1 }; sending = kept node; breaks = node }
    ∷ []

same_page : old_passages first_typed ≡ page
same_page = refl

-- brackets are references; the other paragraph and all line breaks are what they were
typed_first : prose (new_passages first_typed) ≡ codes "&#91;c&#93;\n\nb\n"
unfolding is_guarded is_between_guard is_start_guard is_end_guard is_blank_guard is_parted hazard line_start_hazard nowiki is_escaped reference digits chars lib.Utf8.encode
typed_first = refl

-- a paragraph that is emptied is `<nowiki/>`, so it doesn't join its neighbours
abbrev second_emptied : List PassageEdit
second_emptied =
    record { passage = record { paragraph = codes "a"; breaks = 2 }; sending = kept node; breaks = node }
    ∷ record { passage = record { paragraph = codes "b"; breaks = 1 }; sending = retyped free free []; breaks = node }
    ∷ []

emptied_second : prose (new_passages second_emptied) ≡ codes "a\n\n<nowiki/>\n"
unfolding is_guarded is_between_guard is_start_guard is_end_guard is_blank_guard nowiki chars
emptied_second = refl
