-- Such a text is spelled as it stands: nothing is put into it, and no character is written as a reference.
use Rattle.std.proofs.Common.{◌≡◌, ℕ, ◌==◌, Bool, true, false, List, [], ◌∷◌, ◌++◌, map, refl, ap, ◌∙◌}
use Rattle.std.specs.Prelude.{◌&&◌, ◌||◌, not, encode_utf8}
use Rattle.std.specs.List.{flat_map}
use Rattle.std.specs.Str.{chars}
use Rattle.std.proofs.Math.Utf8.{encodes}
use Rattle.std.proofs.lemmas.Str.{encodes-chars}
use Rattle.wt_span.specs.Bytes.{is_blank}
use Rattle.wt_tree.specs.declared.edit_shape.Place.TheVariants as place
use Rattle.wt_guards.specs.Table.{line_start_hazard}
use Rattle.wt_guards.specs.Content.{ContentSign, letter, letters, nearest}
use Rattle.wt_guards.specs.Letters.{is_escaped}
use Rattle.wt_guards.specs.Guards.{Setting, is_between_guard, is_start_guard, is_end_guard, is_blank_guard, is_guarded, is_unended, is_empty_line, is_past_node, is_blank_last, spelled}
use Rattle.wt_guards.specs.WrittenLaws.{itself, IsQuiet}
use Rattle.wt_guards.proofs.SpellingLaws.{quiet_from}
use Rattle.wt_text_edit_laws.specs.PlainTexts.{are_as_typed, begins_text, are_text_lines, IsPlainText}
use Rattle.wt_text_edit_laws.proofs.Texts.PlainWords.{and_left, and_right, not_false, or_left, or_right}

-- ---- tests

or_false : (a b : Bool) → a ≡ false → b ≡ false → (a || b) ≡ false
or_false true b e f = cc
or_false false b e f = f

and_false : (a b : Bool) → b ≡ false → (a && b) ≡ false
and_false true b e = e
and_false false b e = refl

first_false : (a b : Bool) → a ≡ false → (a && b) ≡ false
first_false true b e = cc
first_false false b e = refl

free_true : (a b : Bool) → (not a || b) ≡ true → a ≡ true → b ≡ true
free_true true b e f = e
free_true false b e f = cc

-- ---- characters alone before a place

no_node_unended : (ps : List ℕ) → is_unended (map letter ps) ≡ false
no_node_unended [] = refl
no_node_unended (p ∷ ps) = and_false (is_blank p) (is_unended (map letter ps)) (no_node_unended ps)

no_node_past : (ps : List ℕ) → is_past_node (map letter ps) ≡ false
no_node_past [] = refl
no_node_past (p ∷ ps) = and_false (is_blank p) (is_past_node (map letter ps)) (no_node_past ps)

-- a line begins behind these
abbrev begins_line : List ℕ → Bool
begins_line [] = true
begins_line (p ∷ ps) = p == 10

-- ---- guards

-- in a paragraph with this source
abbrev paragraph : List ℕ → Setting
paragraph source = record { within = false; place = place.Paragraph; source = source }

no_blank_guard : (source : List ℕ) (ps : List ℕ) (after : List ContentSign) → is_blank_guard source (map letter ps) after ≡ false
unfolding is_blank_guard
no_blank_guard source ps after =
    and_false (is_blank_last (nearest (map letter ps))) _ (first_false (is_past_node (map letter ps)) _ (no_node_past ps))

no_end_between : (source : List ℕ) (ps : List ℕ) (c : ℕ) (after : List ContentSign) → is_end_guard source place.Paragraph (map letter ps) (letter c ∷ after) ≡ false
unfolding is_end_guard
no_end_between source ps c after = or_false _ false (and_false (c == 10) (is_unended (map letter ps)) (no_node_unended ps)) refl

no_end_last : (source : List ℕ) (p : ℕ) (ps : List ℕ) → is_end_guard source place.Paragraph (map letter (p ∷ ps)) [] ≡ false
unfolding is_end_guard
no_end_last source p ps = or_false (is_unended (map letter (p ∷ ps))) false (no_node_unended (p ∷ ps)) refl

-- where a line begins: its first character is no sign of another block, and shows something
record StartsText (c : ℕ) : Type 0 where
  hazard : line_start_hazard c ≡ false
  blank : is_blank c ≡ false
  break : (c == 10) ≡ false

starts_text : (c : ℕ) → begins_text c ≡ true → StartsText c
unfolding line_start_hazard
starts_text c h =
    let f = not_false (line_start_hazard c || c == 10) h in
    let g : line_start_hazard c ≡ false = or_left (line_start_hazard c) (c == 10) f in
    record { hazard = g; blank = or_left (is_blank c) _ g; break = or_right (line_start_hazard c) (c == 10) f }

start_by : (t e n h : Bool) → (t ≡ true → (e ≡ false) × (h ≡ false)) → ((t && ((e && n) || false)) || (t && h)) ≡ false
start_by false e n h f = refl
start_by true e n h f = let r = f refl in or_false ((e && n) || false) h (or_false (e && n) false (first_false e n r.0) refl) r.1

shows_line : (c : ℕ) (after : List ContentSign) → StartsText c → (is_empty_line (letter c ∷ after) ≡ false) × (line_start_hazard c ≡ false)
shows_line c after s = (or_false (c == 10) _ s.break (first_false (is_blank c) (is_empty_line after) s.blank), s.hazard)

no_start : (ps : List ℕ) (c : ℕ) (after : List ContentSign) → (begins_line ps ≡ true → StartsText c) → is_start_guard (map letter ps) (letter c ∷ after) ≡ false
unfolding is_start_guard
no_start [] c after f = start_by true (is_empty_line (letter c ∷ after)) true (line_start_hazard c) (λ e. shows_line c after (f e))
no_start (p ∷ ps) c after f = start_by (p == 10) (is_empty_line (letter c ∷ after)) true (line_start_hazard c) (λ e. shows_line c after (f e))

no_start_last : (p : ℕ) (ps : List ℕ) → (p == 10) ≡ false → is_start_guard (map letter (p ∷ ps)) [] ≡ false
unfolding is_start_guard
no_start_last p ps e = or_false _ _ (first_false (p == 10) _ e) (first_false (p == 10) _ e)

no_between : (ps : List ℕ) (c : ℕ) (after : List ContentSign) → is_between_guard (nearest (map letter ps)) (nearest (letter c ∷ after)) ≡ false
unfolding is_between_guard
no_between [] c after = refl
no_between (p ∷ ps) c after = refl

no_between_last : (p : ℕ) (ps : List ℕ) → is_between_guard (nearest (map letter (p ∷ ps))) (nearest []) ≡ false
unfolding is_between_guard
no_between_last p ps = refl

no_guard : (source : List ℕ) (ps : List ℕ) (c : ℕ) (after : List ContentSign) → (begins_line ps ≡ true → StartsText c)
    → is_guarded (paragraph source) (map letter ps) (letter c ∷ after) ≡ false
unfolding is_guarded
no_guard source ps c after f =
    or_false (is_between_guard (nearest (map letter ps)) (nearest (letter c ∷ after))) _ (no_between ps c after)
    (or_false (is_start_guard (map letter ps) (letter c ∷ after)) _ (no_start ps c after f)
    (or_false (is_end_guard source place.Paragraph (map letter ps) (letter c ∷ after)) _ (no_end_between source ps c after)
    (no_blank_guard source ps (letter c ∷ after))))

no_guard_last : (source : List ℕ) (p : ℕ) (ps : List ℕ) → (p == 10) ≡ false → is_guarded (paragraph source) (map letter (p ∷ ps)) [] ≡ false
unfolding is_guarded
no_guard_last source p ps e =
    or_false (is_between_guard (nearest (map letter (p ∷ ps))) (nearest [])) _ (no_between_last p ps)
    (or_false (is_start_guard (map letter (p ∷ ps)) []) _ (no_start_last p ps e)
    (or_false (is_end_guard source place.Paragraph (map letter (p ∷ ps)) []) _ (no_end_last source p ps)
    (no_blank_guard source (p ∷ ps) [])))

-- ---- all of it

quiet : (source : List ℕ) (ps cs : List ℕ) → are_as_typed ps cs ≡ true → are_text_lines (begins_line ps) cs ≡ true
    → IsQuiet (paragraph source) (map letter ps) (map letter cs)
quiet source [] [] e h = cc
quiet source (p ∷ ps) [] e h = no_guard_last source p ps (not_false (p == 10) h)
quiet source ps (c ∷ cs) e h =
    let escaped : Bool = is_escaped false place.Paragraph (map letter ps) c (map letter cs) in
    let starts : begins_line ps ≡ true → StartsText c =
    λ b. starts_text c (free_true (begins_line ps) (begins_text c) (and_left (not (begins_line ps) || begins_text c) (are_text_lines (c == 10) cs) h) b) in (
      no_guard source ps c (map letter cs) starts,
      not_false escaped (and_left (not escaped) (are_as_typed (c ∷ ps) cs) e),
      quiet source (c ∷ ps) cs (and_right (not escaped) (are_as_typed (c ∷ ps) cs) e)
          (and_right (not (begins_line ps) || begins_text c) (are_text_lines (c == 10) cs) h),
    )

themselves : (cs : List ℕ) → flat_map itself (map letter cs) ≡ encodes cs
themselves [] = refl
themselves (c ∷ cs) = ap (λ bs. encode_utf8 c ++ bs) (themselves cs)

pub plain_spelled : (source : List ℕ) (text : List ℕ) → IsPlainText text → spelled (paragraph source) (letters text) ≡ text
plain_spelled source text h =
    quiet_from (paragraph source) [] (letters text) (quiet source [] (chars text) h.as_typed h.lines)
    ∙ themselves (chars text) ∙ encodes-chars text h.utf8
