-- What is first behind a delimiter, or behind a group that ends with one: no apostrophe, and neither a delimiter nor a group that begins with one without
-- `<nowiki/>` before it.
use Rattle.std.proofs.Common.{arith, ◌≡◌, ℕ, ◌==◌, Bool, true, false, not, Option, List, [], ◌∷◌, refl, ap, subst}
use Rattle.std.specs.Prelude.{◌&&◌, ◌||◌, if◌then◌else◌}
use Rattle.std.proofs.lemmas.Bool.Decides.{nat_tests}
use Rattle.wt_guards.specs.declared.role.Role.{Role}
use Rattle.wt_guards.specs.declared.role.Role.TheVariants.{Link, External, Bare, Switch, Toggle, Mark, Group, Function, Node}
use Rattle.wt_guards.specs.declared.role.Stretch.{Stretch}
use Rattle.wt_guards.specs.Content.{ContentSign, Thing, letter, thing, nearest, side_of, ends_line, is_function}
use Rattle.wt_guards.specs.Guards.{Setting, has_brace_last, is_mark, is_always_parted, is_adjacent, left_side, is_guarded, is_between_guard, is_start_guard, is_end_guard, is_blank_guard, is_parted}
use Rattle.wt_guards.specs.Letters.{is_escaped, is_apostrophe_or_end}
use Rattle.wt_guards.specs.Table.{hazard}
use Rattle.wt_typed_blocks.proofs.TextReads.{or_parts}
use Rattle.wt_beside_laws.specs.Styled.{mark_source, delimiter}

-- it may begin with an apostrophe: a delimiter, or a group with one first
abbrev pub is_quoted : Role → Bool
is_quoted Link = false
is_quoted External = false
is_quoted (Bare ends) = false
is_quoted Switch = false
is_quoted Toggle = true
is_quoted (Mark ends began) = false
is_quoted (Group g) = g.opens_with_apostrophe && not g.between_equals
is_quoted Function = false
is_quoted Node = false

-- it ends with one
abbrev pub is_quoted_last : Role → Bool
is_quoted_last Link = false
is_quoted_last External = false
is_quoted_last (Bare ends) = false
is_quoted_last Switch = false
is_quoted_last Toggle = true
is_quoted_last (Mark ends began) = false
is_quoted_last (Group g) = g.closes_with_apostrophe
is_quoted_last Function = false
is_quoted_last Node = false

-- the next sign begins with an apostrophe
abbrev pub raw_next : Setting → List ContentSign → List ContentSign → Bool
raw_next s before [] = false
raw_next s before (letter d ∷ after) = (d == 39) && not (is_escaped s.within s.place before d after)
raw_next s before (thing t ∷ after) = is_quoted t.role

-- and nothing is put before it
abbrev pub quote_next : Setting → List ContentSign → List ContentSign → Bool
quote_next s before signs = not (is_guarded s before signs) && raw_next s before signs

none_next : (a b : Bool) → b ≡ false → (not a && b) ≡ false
none_next true b e = refl
none_next false b e = e

both_true : (a b : Bool) → (a && b) ≡ true → (a ≡ true) × (b ≡ true)
both_true true true e = (refl, refl)
both_true true false e = cc
both_true false b e = cc

put_next : (a b : Bool) → a ≡ true → (not a && b) ≡ false
put_next true b e = refl
put_next false b e = cc

-- ---- an apostrophe is written as it is only between other characters

lone_quote : (s : Setting) (before after : List ContentSign) → is_escaped s.within s.place before 39 after ≡ false
    → (is_apostrophe_or_end (nearest before) ≡ false) × (is_apostrophe_or_end (nearest after) ≡ false)
unfolding is_escaped
lone_quote s before after e =
    let both = or_parts (is_apostrophe_or_end (nearest before)) (is_apostrophe_or_end (nearest after)) e in (both.0, both.1)

at_quote : (s : Setting) (before : List ContentSign) (d : ℕ) (after : List ContentSign) → is_escaped s.within s.place before d after ≡ false → (d == 39) ≡ true
    → (is_apostrophe_or_end (nearest before) ≡ false) × (is_apostrophe_or_end (nearest after) ≡ false)
at_quote s before d after e i =
    let is : d ≡ 39 = grind (arith, nat_tests, i) in
    lone_quote s before after (subst (λ (k : ℕ). is_escaped s.within s.place before k after ≡ false) is e)

letter_other : (s : Setting) (before : List ContentSign) (c : ℕ) (after : List ContentSign) → (c == 39) ≡ false → raw_next s before (letter c ∷ after) ≡ false
letter_other s before c after e = ap (λ (t : Bool). t && not (is_escaped s.within s.place before c after)) e

pub quote_behind : (s : Setting) (before : List ContentSign) (d : ℕ) (after : List ContentSign) → is_escaped s.within s.place before d after ≡ false
    → (d == 39) ≡ true → quote_next s (letter d ∷ before) after ≡ false
quote_behind s before d after e i = by after (at_quote s before d after e i).1
  where
    by : (signs : List ContentSign) → is_apostrophe_or_end (nearest signs) ≡ false → quote_next s (letter d ∷ before) signs ≡ false
    by [] h = cc
    by (thing t ∷ signs) h = cc
    by (letter c ∷ signs) h =
        none_next (is_guarded s (letter d ∷ before) (letter c ∷ signs)) (raw_next s (letter d ∷ before) (letter c ∷ signs)) (letter_other s (letter d ∷ before) c signs h)

-- ---- behind a delimiter, or a group that ends with one

-- two of them are parted wherever they are in the page
parted_by : (r q : Role) (brace beside : Bool) → is_quoted_last r ≡ true → is_quoted q ≡ true
    → (if is_function q && brace then true else if is_mark r && is_mark q then not (ends_line r) && not beside
    else hazard (left_side r) (side_of q) && (is_always_parted r q || not beside)) ≡ true
unfolding hazard
parted_by Link q brace beside e f = cc
parted_by External q brace beside e f = cc
parted_by (Bare ends) q brace beside e f = cc
parted_by Switch q brace beside e f = cc
parted_by Toggle Link brace beside e f = cc
parted_by Toggle External brace beside e f = cc
parted_by Toggle (Bare ends) brace beside e f = cc
parted_by Toggle Switch brace beside e f = cc
parted_by Toggle Toggle brace beside e f = refl
parted_by Toggle (Mark ends began) brace beside e f = cc
parted_by Toggle (Group h) brace beside e f = ap (λ (v : Bool). v || not beside) (both_true h.opens_with_apostrophe (not h.between_equals) f).0
parted_by Toggle Function brace beside e f = cc
parted_by Toggle Node brace beside e f = cc
parted_by (Mark ends began) q brace beside e f = cc
parted_by (Group g) Link brace beside e f = cc
parted_by (Group g) External brace beside e f = cc
parted_by (Group g) (Bare ends) brace beside e f = cc
parted_by (Group g) Switch brace beside e f = cc
parted_by (Group g) Toggle brace beside e f = ap (λ (v : Bool). v || not beside) e
parted_by (Group g) (Mark ends began) brace beside e f = cc
parted_by (Group g) (Group h) brace beside e f = ap (λ (v : Bool). v || not beside) (both_true h.opens_with_apostrophe (not h.between_equals) f).1
parted_by (Group g) Function brace beside e f = cc
parted_by (Group g) Node brace beside e f = cc
parted_by Function q brace beside e f = cc
parted_by Node q brace beside e f = cc

parted : (s : Setting) (x : Thing) (before : List ContentSign) (t : Thing) (after : List ContentSign) → is_quoted_last x.role ≡ true → is_quoted t.role ≡ true
    → is_guarded s (thing x ∷ before) (thing t ∷ after) ≡ true
unfolding is_guarded is_between_guard is_parted
parted s x before t after e f =
    let rest : Bool = is_start_guard (thing x ∷ before) (thing t ∷ after)
    || (is_end_guard s.source s.place (thing x ∷ before) (thing t ∷ after) || is_blank_guard s.source (thing x ∷ before) (thing t ∷ after)) in
    ap (λ (v : Bool). v || (not s.within && rest)) (parted_by x.role t.role (has_brace_last x.source) (is_adjacent x t) e f)

escaped_behind : (s : Setting) (x : Thing) (before after : List ContentSign) → is_escaped s.within s.place (thing x ∷ before) 39 after ≡ true
unfolding is_escaped
escaped_behind s x before after = refl

letter_behind : (s : Setting) (x : Thing) (before : List ContentSign) (d : ℕ) (after : List ContentSign) → raw_next s (thing x ∷ before) (letter d ∷ after) ≡ false
letter_behind s x before d after = by (d == 39) refl
  where
    by : (t : Bool) → (d == 39) ≡ t → (t && not (is_escaped s.within s.place (thing x ∷ before) d after)) ≡ false
    by true i =
        let is : 39 ≡ d = grind (arith, nat_tests, i) in
        ap not (subst (λ (k : ℕ). is_escaped s.within s.place (thing x ∷ before) k after ≡ true) is (escaped_behind s x before after))
    by false i = refl

pub behind_quoted : (s : Setting) (x : Thing) (before signs : List ContentSign) → is_quoted_last x.role ≡ true → quote_next s (thing x ∷ before) signs ≡ false
behind_quoted s x before [] q = none_next (is_guarded s (thing x ∷ before) []) false refl
behind_quoted s x before (letter d ∷ after) q =
    none_next (is_guarded s (thing x ∷ before) (letter d ∷ after)) (raw_next s (thing x ∷ before) (letter d ∷ after)) (letter_behind s x before d after)
behind_quoted s x before (thing t ∷ after) q = by (is_quoted t.role) refl
  where
    by : (b : Bool) → is_quoted t.role ≡ b → quote_next s (thing x ∷ before) (thing t ∷ after) ≡ false
    by true e = put_next (is_guarded s (thing x ∷ before) (thing t ∷ after)) (is_quoted t.role) (parted s x before t after q e)
    by false e = none_next (is_guarded s (thing x ∷ before) (thing t ∷ after)) (is_quoted t.role) e

pub after_delimiter : (s : Setting) (kind : Bool) (place : Option Stretch) (before signs : List ContentSign) → quote_next s (delimiter kind place ∷ before) signs ≡ false
after_delimiter s kind place before signs = behind_quoted s (record { role = Toggle; source = mark_source kind; place = place }) before signs refl
