-- Where `<nowiki/>` is put beside groups: at the start and at the end of a paragraph that they didn't begin or end, and between two that
-- something was between.
use Rattle.std.proofs.Common.{◌≡◌, Bool, true, false, Some, List, [], ◌∷◌, ℕ, refl, ap, ap₂, ◌∙◌}
use Rattle.std.specs.Prelude.{◌||◌, ◌&&◌, not, if◌then◌else◌}
use Rattle.wt_tree.specs.declared.edit_shape.Place.{Place}
use Rattle.wt_tree.specs.declared.edit_shape.Place.TheVariants as place
use Rattle.wt_guards.specs.declared.role.Role.{Role}
use Rattle.wt_guards.specs.declared.role.Role.TheVariants.{Link, External, Bare, Switch, Toggle, Mark, Group, Function, Node}
use Rattle.wt_guards.specs.declared.role.Transclusion.{Transclusion}
use Rattle.wt_guards.specs.Content.{ContentSign, Thing, thing, nearest, side_of, ends_line, is_group, is_function}
use Rattle.wt_guards.specs.Table.{hazard}
use Rattle.wt_guards.specs.Guards.{Setting, has_brace_last, is_empty_line, is_line_mark_next, is_unended, is_brace_last, is_content_end_guard, is_new_at_start, is_new_last, is_mark, is_parted_from_group, is_always_parted, is_adjacent, left_side, is_parted, is_between_guard, is_start_guard, is_end_guard, is_blank_guard, is_guarded}

or_true : (v : Bool) → (v || true) ≡ true
or_true true = refl
or_true false = refl

pub group_of : (r : Role) → is_group r ≡ true → (g : Transclusion) × (r ≡ Group g)
group_of Link e = absurd (cc)
group_of External e = absurd (cc)
group_of (Bare ends) e = absurd (cc)
group_of Switch e = absurd (cc)
group_of Toggle e = absurd (cc)
group_of (Mark ends began) e = absurd (cc)
group_of (Group g) e = (g, refl)
group_of Function e = absurd (cc)
group_of Node e = absurd (cc)

-- ---- one of the guards

by_start : (s : Setting) (before after : List ContentSign) → s.within ≡ false → is_start_guard before after ≡ true → is_guarded s before after ≡ true
unfolding is_guarded
by_start s before after w e =
    ap₂ (λ (u v : Bool).
    is_between_guard (nearest before) (nearest after) || (not u && (v || (is_end_guard s.source s.place before after || is_blank_guard s.source before after)))) w e
    ∙ or_true (is_between_guard (nearest before) (nearest after))

by_end : (s : Setting) (before after : List ContentSign) → s.within ≡ false → is_end_guard s.source s.place before after ≡ true → is_guarded s before after ≡ true
unfolding is_guarded
by_end s before after w e =
    ap₂ (λ (u v : Bool).
    is_between_guard (nearest before) (nearest after) || (not u && (is_start_guard before after || (v || is_blank_guard s.source before after)))) w e
    ∙ ap (λ (v : Bool). is_between_guard (nearest before) (nearest after) || v) (or_true (is_start_guard before after))
    ∙ or_true (is_between_guard (nearest before) (nearest after))

by_both : (s : Setting) (before after : List ContentSign) → is_between_guard (nearest before) (nearest after) ≡ true → is_guarded s before after ≡ true
unfolding is_guarded
by_both s before after e =
    ap (λ (v : Bool). v || (not s.within && (is_start_guard before after || (is_end_guard s.source s.place before after || is_blank_guard s.source before after)))) e

-- ---- at the start

new_start : (t : Thing) (after : List ContentSign) → is_new_at_start t.role ≡ true → is_start_guard [] (thing t ∷ after) ≡ true
unfolding is_start_guard
new_start t after n =
    let empty : Bool = is_empty_line (thing t ∷ after) && not (is_line_mark_next (Some (thing t))) in
    ap (λ (v : Bool). (empty || v) || false) n ∙ ap (λ (v : Bool). v || false) (or_true empty)

pub first_guarded : (s : Setting) (t : Thing) (after : List ContentSign) → s.within ≡ false → is_new_at_start t.role ≡ true
    → is_guarded s [] (thing t ∷ after) ≡ true
first_guarded s t after w n = by_start s [] (thing t ∷ after) w (new_start t after n)

nothing_starts : is_start_guard [] [] ≡ true
unfolding is_start_guard
nothing_starts = refl

pub none_guarded : (s : Setting) → s.within ≡ false → is_guarded s [] [] ≡ true
none_guarded s w = by_start s [] [] w nothing_starts

-- ---- at the end

new_end : (source : List ℕ) (p : Place) (t : Thing) (before : List ContentSign) → p ≡ place.Paragraph → is_new_last t.role ≡ true
    → is_end_guard source p (thing t ∷ before) [] ≡ true
unfolding is_end_guard
new_end source p t before e n =
    let unended : Bool = is_unended (thing t ∷ before) in
    ap (λ (q : Place). unended || is_content_end_guard source q (Some (thing t))) e
    ∙ ap (λ (v : Bool). unended || (v || is_brace_last source (Some (thing t)))) n ∙ or_true unended

pub last_guarded : (s : Setting) (t : Thing) (before : List ContentSign) → s.within ≡ false → s.place ≡ place.Paragraph → is_new_last t.role ≡ true
    → is_guarded s (thing t ∷ before) [] ≡ true
last_guarded s t before w p n = by_end s (thing t ∷ before) [] w (new_end s.source s.place t before p n)

-- ---- between two groups

-- by their roles, whether the first ends with a brace, and whether the page has them side by side
abbrev parted_by : Role → Role → Bool → Bool → Bool
parted_by r q brace beside =
    if is_function q && brace then true
    else if is_mark r && is_mark q then not (ends_line r) && not beside
    else hazard (left_side r) (side_of q) && (is_always_parted r q || not beside)

as_parted : (a b : Thing) → is_parted a b ≡ parted_by a.role b.role (has_brace_last a.source) (is_adjacent a b)
unfolding is_parted
as_parted a b = refl

groups_parted : (g h : Transclusion) (brace : Bool) → parted_by (Group g) (Group h) brace false ≡ true
unfolding hazard
groups_parted g h brace = or_true (is_parted_from_group g (Group h))

both_parted : (a b : Thing) → is_group a.role ≡ true → is_group b.role ≡ true → is_adjacent a b ≡ false → is_parted a b ≡ true
both_parted a b e f n =
    let g = group_of a.role e in
    let h = group_of b.role f in
    as_parted a b
    ∙ ap₂ (λ (r q : Role). parted_by r q (has_brace_last a.source) (is_adjacent a b)) g.1 h.1
    ∙ ap (λ (v : Bool). parted_by (Group g.0) (Group h.0) (has_brace_last a.source) v) n
    ∙ groups_parted g.0 h.0 (has_brace_last a.source)

things_parted : (a b : Thing) → is_parted a b ≡ true → is_between_guard (Some (thing a)) (Some (thing b)) ≡ true
unfolding is_between_guard
things_parted a b e = e

pub both_guarded : (s : Setting) (a b : Thing) (before after : List ContentSign) → is_group a.role ≡ true → is_group b.role ≡ true → is_adjacent a b ≡ false
    → is_guarded s (thing a ∷ before) (thing b ∷ after) ≡ true
both_guarded s a b before after e f n = by_both s (thing a ∷ before) (thing b ∷ after) (things_parted a b (both_parted a b e f n))
