-- Worked cases: how contents with styles are written, and that their styles nest.
use Rattle.std.proofs.Common.{◌≡◌, ℕ, true, false, None, [], ◌∷◌, refl}
use Rattle.std.specs.Fmt.{digits}
use Rattle.std.specs.Prelude.{codes}
use Rattle.std.proofs.Math.Utf8.{encode}
use Rattle.wt_tree.specs.declared.kind.Kind.{Kind}
use Rattle.wt_tree.specs.declared.kind.Kind.TheVariants as kind
use Rattle.wt_tree.specs.declared.kind.Mark.TheVariants as marks
use Rattle.wt_tree.specs.Plain.{text, element, ended, along}
use Rattle.wt_tree.specs.Tree.{Label, Tree, tree, Trees, none, more}
use Rattle.wt_tree.specs.declared.edit_shape.Place.TheVariants.{Paragraph}
use Rattle.wt_guards.specs.Content.{letter}
use Rattle.wt_guards.specs.Guards.{Setting, nowiki, spelled, is_guarded, is_between_guard, is_parted, is_start_guard, is_end_guard, is_blank_guard}
use Rattle.wt_guards.specs.Letters.{is_escaped, reference}
use Rattle.wt_guards.specs.Table.{hazard, line_start_hazard}
use Rattle.wt_context.specs.Segments.{loose_segment}
use Rattle.wt_span.specs.Items.{char}
use Rattle.wt_beside_laws.specs.Nests.{stretch, enclosing, IsNest}
use Rattle.wt_beside_laws.specs.Styled.{StyledContent, finished, sign, styled, signs_in, AreNested}
use Rattle.wt_beside_laws.specs.StyledBlocks.{all_numbers, AreSomeOf}
use Rattle.wt_beside_laws.specs.StyledShown.{styled_shown}

abbrev in_paragraph : Setting
in_paragraph = record { within = false; place = Paragraph; source = [] }

-- `a` in italic, and in it `'` in bold
abbrev quoted : StyledContent
quoted = styled false None None (sign (letter 97) (styled true None None (sign (letter 39) finished) finished)) finished

-- the apostrophe is a reference, and the delimiters that end the two are parted
written_so : spelled in_paragraph (signs_in quoted) ≡ codes "''a'''&#39;'''<nowiki/>''"
unfolding is_guarded is_between_guard is_parted is_start_guard is_end_guard is_blank_guard hazard line_start_hazard is_escaped reference nowiki encode digits
written_so = refl

nested_so : AreNested false false quoted
nested_so = (refl, ((λ e. refl), (refl, ((λ e. refl), tt), tt)), tt)

shown_so : styled_shown quoted ended
    ≡ along (element (record { kind = kind.Italic; attrs = []; mw = None })
    (along (text (97 ∷ [])) (along (element (record { kind = kind.Bold; attrs = []; mw = None }) (along (text (39 ∷ [])) ended)) ended))) ended
unfolding encode
shown_so = refl

-- bold in bold doesn't nest
bold_in_bold : AreNested false false (styled true None None (styled true None None finished finished) finished) → true ≡ false
bold_in_bold h = h.1.0

-- `''a''` is such segments, and `''''` isn't: a run of two is no style without something inside
italic_a : IsNest false false (enclosing None [] false (stretch (loose_segment (char None 97 ∷ []) ∷ [])) (stretch [])) []
italic_a = (refl, refl, refl, refl, (refl, λ b. refl), refl, (refl, λ b. refl))

italic_none : IsNest false false (enclosing None [] false (stretch []) (stretch [])) [] → true ≡ false
italic_none h = h.3

-- a text and a line break in bold, and a line break behind it
abbrev numbered : Kind → ℕ → Label
numbered k n =
    record { kind = k; id = n; ranges = None; opening = []; closing = []; own = []; shown = []; attrs = []; origin = None; mark = marks.Nothing; mw = None }

abbrev leaf : Kind → ℕ → Tree
leaf k n = tree (numbered k n) none

abbrev broken : Trees
broken = more (tree (numbered kind.Bold 2) (more (leaf kind.Text 3) (more (leaf kind.Br 4) none))) (more (leaf kind.Br 5) none)

numbers_so : all_numbers broken ≡ 4 ∷ 5 ∷ []
numbers_so = refl

-- the first one may go
some_so : AreSomeOf (5 ∷ []) (all_numbers broken)
some_so = (4 ∷ [], [], refl, tt)
