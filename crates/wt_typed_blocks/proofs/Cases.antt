-- Worked cases, by computing: the page of a paragraph, an empty line and a heading, in which texts are typed.
use Rattle.std.proofs.Common.{inr, ◌≡◌, ℕ, ◌+◌, true, List, [], refl, arith}
use Rattle.std.specs.Prelude.{None, Some, codes}
use Rattle.std.specs.Fmt.{digits}
use Rattle.std.specs.Str.{chars}
use Rattle.wt_tree.specs.declared.kind.Kind.{Kind}
use Rattle.wt_tree.specs.declared.kind.Kind.TheVariants as kind
use Rattle.wt_tree.specs.declared.kind.Mark.TheVariants as marks
use Rattle.wt_tree.specs.Plain.{ended, along, text, element}
use Rattle.wt_tree.specs.Source.{flat_of_all}
use Rattle.wt_tree.specs.Tree.{Label, Tree, tree, Trees, none, more}
use Rattle.wt_guards.specs.Guards.{nowiki, is_guarded, is_between_guard, is_start_guard, is_end_guard, is_blank_guard, is_parted}
use Rattle.wt_guards.specs.Letters.{is_escaped, reference}
use Rattle.wt_guards.specs.Table.{hazard, line_start_hazard}
use Rattle.wt_typed_blocks.specs.Sent.{StandsAsIs, paragraph, heading, Sent, stands, typed, holds, Sents, none_sent, more_sent, old_children, IsSent, AreSent, all_show}
use Rattle.wt_original.specs.Kept.{kept_with}
use Rattle.wt_link_spelling.specs.Spelling.{inline_spelling}
use Rattle.wt_typed_blocks.specs.Edited.{no_pieces, gone, written, kept, around, new_style, edited, Edits, no_edits, more_edits, page_nodes, AreEdited, edits_show}
use Rattle.wt_typed_blocks.specs.EditedPage.{edited_sources}
use Rattle.wt_typed_blocks.specs.Typed.{new_sources, TakeTexts, StandAt}
use Rattle.wt_typed_blocks.specs.Unmarked.{IsToldApart, AreToldApart}

abbrev a_label : Kind → ℕ → ℕ → ℕ → ℕ → List ℕ → List ℕ → Label
a_label k id start end width sign own = record {
  kind = k;
  id = id;
  ranges = Some (record { start = start; end = end; open_w = width; close_w = width });
  opening = sign;
  closing = sign;
  own = own;
  shown = own;
  attrs = [];
  origin = None;
  mark = marks.Nothing;
  mw = None;
}

-- as it is sent: it tells nothing of its place
abbrev sent_label : Kind → ℕ → List ℕ → Label
sent_label k id shown = record (a_label k id 0 0 0 [] shown) { ranges = None; own = [] }

abbrev words : ℕ → ℕ → List ℕ → Trees
words start end bs = more (tree (a_label kind.Text 0 start end 0 [] bs) none) none

abbrev sent_words : List ℕ → Trees
sent_words bs = more (tree (sent_label kind.Text 0 bs) none) none

-- ---- the page `a b`, an empty line, `==c==`

abbrev first_block : Label
first_block = a_label kind.Para 1 0 3 0 [] []

abbrev line : Tree
line = tree (a_label kind.Sep 0 3 5 0 [] (codes "\n\n")) none

abbrev second_block : Label
second_block = a_label (kind.Heading 2) 2 5 10 2 (codes "==") []

abbrev gap : Sent
gap = stands line (tree (sent_label kind.Sep 0 (codes "\n\n")) none)

abbrev as_paragraph : List ℕ → Sent
as_paragraph bs = typed paragraph first_block (words 0 3 (codes "a b")) (sent_label kind.Para 0 []) (sent_label kind.Text 0 []) bs

abbrev as_heading : List ℕ → Sent
as_heading bs = typed (heading 2) second_block (words 7 8 (codes "c")) (sent_label (kind.Heading 2) 0 []) (sent_label kind.Text 0 []) bs

-- `[d]` is typed in the paragraph, and the heading is sent as it stands
abbrev one_typed : Sents
one_typed = more_sent (as_paragraph (codes "[d]")) (more_sent gap
    (more_sent (stands (tree second_block (words 7 8 (codes "c"))) (tree (sent_label (kind.Heading 2) 2 []) (sent_words (codes "c")))) none_sent))

-- nothing is typed in the paragraph, and `[d]` in the heading
abbrev two_typed : Sents
two_typed = more_sent (as_paragraph []) (more_sent gap (more_sent (as_heading (codes "[d]")) none_sent))

one_page : flat_of_all (old_children one_typed) ≡ codes "a b\n\n==c=="
one_page = refl

one_new_page : new_sources one_typed ≡ codes "&#91;d&#93;\n\n==c=="
unfolding is_guarded is_between_guard is_start_guard is_end_guard is_blank_guard is_parted hazard line_start_hazard nowiki is_escaped reference digits chars lib.Utf8.encode
one_new_page = refl

one_place : StandAt 0 one_typed
one_place = (refl, (tt, (tt, tt)))

one_shows : all_show one_typed
    ≡ along (element (record { kind = kind.Para; attrs = []; mw = None }) (along (text (codes "[d]")) ended))
    (along (element (record { kind = kind.Heading 2; attrs = []; mw = None }) (along (text (codes "c")) ended)) ended)
one_shows = refl

both_typed : new_sources two_typed ≡ codes "<nowiki/>\n\n==&#91;d&#93;=="
unfolding is_guarded is_between_guard is_start_guard is_end_guard is_blank_guard is_parted hazard line_start_hazard nowiki is_escaped reference digits chars lib.Utf8.encode
both_typed = refl

both_places : StandAt 0 two_typed
both_places = (refl, (tt, (refl, tt)))

-- a heading takes no line break
two_lines : TakeTexts (more_sent (as_heading (codes "d\ne")) none_sent) → ⊥
two_lines h = let e = h.0 in absurd (cc)

-- a heading isn't sent as it stands where its text isn't in it
other_text : StandsAsIs (tree second_block (words 7 8 (codes "c"))) (tree (sent_label (kind.Heading 2) 2 []) (sent_words [])) → ⊥
other_text h = let e : [] ≡ codes "c" = h.1.0.0.shown refl in absurd (cc)

-- nor where a mark stands on it
marked : StandsAsIs line (tree (record (sent_label kind.Sep 0 []) { mark = marks.Content }) none) → ⊥
marked h = let e = h.0.unmarked in absurd (cc)

-- Without marks the difference tells the paragraph apart from the heading, which is the page's own.
one_apart : AreToldApart one_typed
one_apart = (refl, ((record { id = refl; kind = refl; attrs = refl; mw = refl; shown = refl }, tt), ((record { id = refl; kind = refl; attrs = refl; mw = refl; shown = refl }, ((record { id = refl; kind = refl; attrs = refl; mw = refl; shown = refl }, tt), tt)), tt)))

-- where the page's own text is typed there is no difference
same_text : AreToldApart (more_sent (as_paragraph (codes "a b")) none_sent) → ⊥
same_text h = let e = h.0 in absurd (cc)

-- ---- the page `{|`, `|`, `a b`, `|}`, in whose cell `[d]` is typed

abbrev cell_label : Kind → ℕ → ℕ → ℕ → ℕ → ℕ → List ℕ → List ℕ → Label
cell_label k id start end opens closes opening closing = record (a_label k id start end 0 [] []) {
  ranges = Some (record { start = start; end = end; open_w = opens; close_w = closes });
  opening = opening;
  closing = closing;
}

abbrev break_at : ℕ → Sent
break_at start = stands (tree (a_label kind.Sep 0 start (start + 1) 0 [] (codes "\n")) none) (tree (sent_label kind.Sep 0 (codes "\n")) none)

-- a node that is sent as it is but for what it holds
abbrev round : Label → Kind → ℕ → Sents → Sent
round l k id ss = holds l (sent_label k id []) ss

abbrev in_cell : List ℕ → Sents
in_cell bs =
    let typed_in : Sent = typed paragraph (a_label kind.Para 5 5 8 0 [] []) (words 5 8 (codes "a b")) (sent_label kind.Para 0 []) (sent_label kind.Text 0 []) bs in
    let cell : Sent = round (cell_label kind.Td 4 3 8 1 0 (codes "|") []) kind.Td 4 (more_sent (break_at 4) (more_sent typed_in none_sent)) in
    let row : Sent = round (a_label kind.Tr 3 3 8 0 [] []) kind.Tr 3 (more_sent cell none_sent) in
    let rows : Sent = round (a_label kind.Tbody 2 3 8 0 [] []) kind.Tbody 2 (more_sent row none_sent) in
    more_sent (round (cell_label kind.Table 1 0 11 2 2 (codes "{|") (codes "|}")) kind.Table 1
    (more_sent (break_at 2) (more_sent rows (more_sent (break_at 8) none_sent)))) none_sent

cell_page : flat_of_all (old_children (in_cell [])) ≡ codes "{|\n|\na b\n|}"
cell_page = refl

cell_new_page : new_sources (in_cell (codes "[d]")) ≡ codes "{|\n|\n&#91;d&#93;\n|}"
unfolding is_guarded is_between_guard is_start_guard is_end_guard is_blank_guard is_parted hazard line_start_hazard nowiki is_escaped reference digits chars lib.Utf8.encode
cell_new_page = refl

cell_place : StandAt 0 (in_cell [])
cell_place = ((refl, (tt, ((refl, ((refl, ((refl, (tt, (refl, tt))), tt)), tt)), (tt, tt)))), tt)

-- Without marks the difference tells this text apart, too. The cell's own text ends before its first line break.
is_line : (start : ℕ) → IsToldApart (break_at start)
is_line start = (record { id = refl; kind = refl; attrs = refl; mw = refl; shown = refl }, tt)

cell_apart : AreToldApart (in_cell (codes "[d]"))
cell_apart = (
  (
    record { own = record { id = refl; kind = refl; attrs = refl; mw = refl; shown = refl }; numbered = λ e. omega (arith, e); part = refl; behind_text = λ e. absurd (cc) },
    (
      is_line 2,
      (
        (
          record { own = record { id = refl; kind = refl; attrs = refl; mw = refl; shown = refl }; numbered = λ e. omega (arith, e); part = refl; behind_text = λ e. absurd (cc) },
          (
            (
              record { own = record { id = refl; kind = refl; attrs = refl; mw = refl; shown = refl }; numbered = λ e. omega (arith, e); part = refl; behind_text = λ e. absurd (cc) },
              (
                (
                  record { own = record { id = refl; kind = refl; attrs = refl; mw = refl; shown = refl }; numbered = λ e. omega (arith, e); part = refl; behind_text = λ e. tt },
                  (is_line 4, (refl, tt)),
                ),
                tt,
              ),
            ),
            tt,
          ),
        ),
        (is_line 8, tt),
      ),
    ),
  ),
  tt,
)

-- ---- the page `{{h}}`, `a b`, where the call gives a heading with `c`; in the paragraph `[d]` is typed

abbrev a_heading : ℕ → List ℕ → Trees
a_heading id bs = more (tree (sent_label (kind.Heading 2) id []) (sent_words bs)) none

abbrev group_sent : Trees → Sent
group_sent us = stands (tree (a_label kind.Group 1 0 5 0 [] (codes "{{h}}")) (a_heading 0 (codes "c"))) (tree (sent_label kind.Group 1 []) us)

abbrev behind_group : Trees → Sents
behind_group us =
    let typed_behind : Sent = typed paragraph (a_label kind.Para 2 6 9 0 [] []) (words 6 9 (codes "a b")) (sent_label kind.Para 0 []) (sent_label kind.Text 0 []) (codes "[d]") in
    more_sent (group_sent us) (more_sent (break_at 5) (more_sent typed_behind none_sent))

group_page : flat_of_all (old_children (behind_group none)) ≡ codes "{{h}}\na b"
group_page = refl

group_new_page : new_sources (behind_group none) ≡ codes "{{h}}\n&#91;d&#93;"
unfolding is_guarded is_between_guard is_start_guard is_end_guard is_blank_guard is_parted hazard line_start_hazard nowiki is_escaped reference digits chars lib.Utf8.encode
group_new_page = refl

-- the group is sent with the heading that is written for it
group_stands : AreSent (behind_group (a_heading 0 (codes "c")))
group_stands = (
  (
    record { kind = refl; id = refl; attrs = refl; mw = refl; shown = λ e. absurd (cc); unmarked = refl },
    record { numbered = λ e. omega (arith, e); elements = refl; unnumbered = (refl, (refl, tt)); unmarked = refl; unframed = refl },
  ),
  ((record { kind = refl; id = refl; attrs = refl; mw = refl; shown = λ e. refl; unmarked = refl }, tt), (λ e. omega (arith, e), tt)),
)

group_shows : all_show (behind_group none)
    ≡ along (element (record { kind = kind.Heading 2; attrs = []; mw = None }) (along (text (codes "c")) ended))
    (along (element (record { kind = kind.Para; attrs = []; mw = None }) (along (text (codes "[d]")) ended)) ended)
group_shows = refl

-- it isn't sent as it is without the heading, nor with a number in it
no_element : IsSent (group_sent none) → ⊥
no_element h = let e = h.1.elements in absurd (cc)

numbered_element : IsSent (group_sent (a_heading 3 (codes "c"))) → ⊥
numbered_element h = let e = h.1.unnumbered.0 in absurd (cc)

-- ---- the page `a [[b]]`, in which `x` is typed in place of `a ` beside the link

abbrev link_label : Label
link_label = record (a_label kind.WikiLink 2 2 7 2 [] []) { opening = codes "[["; closing = codes "]]" }

abbrev linked_block : Label
linked_block = a_label kind.Para 1 0 7 0 [] []

abbrev beside_link : List ℕ → Edits
beside_link bs = more_edits
    (edited paragraph linked_block (sent_label kind.Para 0 [])
    (gone (tree (a_label kind.Text 0 0 2 0 [] (codes "a ")) none)
    (written (sent_label kind.Text 0 []) bs
    (kept (tree link_label (words 4 5 (codes "b"))) (tree (sent_label kind.WikiLink 2 []) (sent_words (codes "b"))) no_pieces))))
    no_edits

link_page : flat_of_all (page_nodes (beside_link (codes "x"))) ≡ codes "a [[b]]"
link_page = refl

link_sent : AreEdited (beside_link (codes "x"))
link_sent = (
  (omega arith, ((record { kind = refl; id = refl; attrs = refl; mw = refl; shown = λ e. refl; unmarked = refl }, ((record { kind = refl; id = refl; attrs = refl; mw = refl; shown = λ e. refl; unmarked = refl }, tt), tt)), tt)),
  tt,
)

link_shows : edits_show (beside_link (codes "x"))
    ≡ along (element (record { kind = kind.Para; attrs = []; mw = None })
    (along (text (codes "x")) (along (element (record { kind = kind.WikiLink; attrs = []; mw = None }) (along (text (codes "b")) ended)) ended))) ended
link_shows = refl

link_new_page : edited_sources (λ t u. true) (beside_link (codes "x")) ≡ codes "x[[b]]"
unfolding inline_spelling kept_with is_guarded is_between_guard is_start_guard is_end_guard is_blank_guard is_parted hazard line_start_hazard nowiki is_escaped reference digits chars lib.Utf8.encode
link_new_page = refl

-- ---- the page `a ''b''`, in which `x` is typed in place of `b`, in the italic node, which stays

abbrev italic_label : Label
italic_label = record (a_label kind.Italic 2 2 7 2 [] []) { opening = codes "''"; closing = codes "''" }

abbrev in_italic : List ℕ → Edits
in_italic bs = more_edits
    (edited paragraph linked_block (sent_label kind.Para 0 [])
    (kept (tree (a_label kind.Text 0 0 2 0 [] (codes "a ")) none) (tree (sent_label kind.Text 0 (codes "a ")) none)
    (around italic_label (sent_label kind.Italic 2 [])
    (gone (tree (a_label kind.Text 0 4 5 0 [] (codes "b")) none) (written (sent_label kind.Text 0 []) bs no_pieces)) no_pieces)))
    no_edits

italic_page : flat_of_all (page_nodes (in_italic (codes "x"))) ≡ codes "a ''b''"
italic_page = refl

italic_sent : AreEdited (in_italic (codes "x"))
italic_sent = (
  (
    omega arith,
    (
      (record { kind = refl; id = refl; attrs = refl; mw = refl; shown = λ e. refl; unmarked = refl }, tt),
      (inr refl, record { kind = refl; id = refl; attrs = refl; mw = refl; shown = λ e. refl; unmarked = refl }, tt, tt),
    ),
  ),
  tt,
)

italic_shows : edits_show (in_italic (codes "x"))
    ≡ along (element (record { kind = kind.Para; attrs = []; mw = None })
    (along (text (codes "a ")) (along (element (record { kind = kind.Italic; attrs = []; mw = None }) (along (text (codes "x")) ended)) ended))) ended
italic_shows = refl

italic_new_page : edited_sources (λ t u. true) (in_italic (codes "x")) ≡ codes "a ''x''"
unfolding inline_spelling kept_with is_guarded is_between_guard is_start_guard is_end_guard is_blank_guard is_parted hazard line_start_hazard nowiki is_escaped reference digits chars lib.Utf8.encode
italic_new_page = refl

-- ---- the page `a b`, in which `b` is made italic

abbrev made_italic : List ℕ → Edits
made_italic bs = more_edits
    (edited paragraph (a_label kind.Para 1 0 3 0 [] []) (sent_label kind.Para 0 [])
    (gone (tree (a_label kind.Text 0 0 3 0 [] (codes "a b")) none)
    (written (sent_label kind.Text 0 []) (codes "a ")
    (new_style (sent_label kind.Italic 0 []) (written (sent_label kind.Text 0 []) bs no_pieces) no_pieces))))
    no_edits

made_sent : AreEdited (made_italic (codes "b"))
made_sent = ((omega arith, (inr refl, tt, tt)), tt)

made_shows : edits_show (made_italic (codes "b"))
    ≡ along (element (record { kind = kind.Para; attrs = []; mw = None })
    (along (text (codes "a ")) (along (element (record { kind = kind.Italic; attrs = []; mw = None }) (along (text (codes "b")) ended)) ended))) ended
made_shows = refl

made_new_page : edited_sources (λ t u. true) (made_italic (codes "b")) ≡ codes "a ''b''"
unfolding inline_spelling kept_with is_guarded is_between_guard is_start_guard is_end_guard is_blank_guard is_parted hazard line_start_hazard nowiki is_escaped reference digits chars lib.Utf8.encode
made_new_page = refl
