-- No refusal: all is kept.
use Rattle.std.proofs.Common.{◌≡◌, ℕ, Bool, List, [], refl, sym, map, length, subst}
use Rattle.std.specs.Prelude.{Option, Some, None, filter}
use Rattle.wt_tree.specs.declared.kind.Kind.TheVariants as kind
use Rattle.wt_tree.specs.Tiling.{InPreorder, numbers}
use Rattle.wt_tree.specs.Tree.{Tree, label}
use Rattle.wt_checks.specs.declared.refusal.TreeRefusal.{TreeRefusal}
use Rattle.wt_checks.specs.declared.refusal.TreeRefusal.TheVariants.{UnknownId, RepeatedId, Moved, InTemplate, NotEditable, UnmarkedChange}
use Rattle.wt_checks.specs.Checked.{or_else, checked}
use Rattle.wt_checks.specs.Groups.{is_in_template}
use Rattle.wt_checks.specs.Ids.{is_unknown, is_repeated, is_moved}
use Rattle.wt_checks.specs.Kept.{Kept, GroupKept, NodeKept, MarkKept}
use Rattle.wt_checks.specs.Marks.{is_wrongly_marked}
use Rattle.wt_checks.specs.Places.{Place, places, number, is_kept, Page, page_of, first}
use Rattle.wt_checks.specs.Unmarked.{is_unmarked_change}
use Rattle.wt_checks.proofs.AsItWas.{each_place, no_place, group_kept, kept_group, node_kept, kept_node, mark_kept, kept_mark}
use Rattle.wt_checks.proofs.InOrder.{nowhere, none_first, Increasing, range_increasing, in_order, none_of_them}
use Rattle.wt_checks.proofs.Lookups.{page_numbers}

or_none : (o : Option ℕ) (f : ℕ → TreeRefusal) (rest : Option TreeRefusal) → or_else o f rest ≡ None → (o ≡ None) × (rest ≡ None)
or_none None f rest e = (refl, e)
or_none (Some n) f rest e = absurd (cc)

none_or : (o : Option ℕ) (f : ℕ → TreeRefusal) (rest : Option TreeRefusal) → o ≡ None → rest ≡ None → or_else o f rest ≡ None
none_or None f rest e h = h
none_or (Some n) f rest e h = absurd (cc)

pub increasing : (page : Tree) → (label page).kind ≡ kind.Body → InPreorder page → Increasing (map number (filter is_kept (places page)))
increasing page b h = subst Increasing (sym (page_numbers page b h)) (range_increasing (length (numbers page)) 1)

pub kept : (values : Bool) (page edited : Tree) → (label page).kind ≡ kind.Body → InPreorder page → checked values page edited ≡ None → Kept values page edited
unfolding checked
kept values page edited b h e =
    let p : Page = page_of page in
    let es : List Place = places edited in
    let six : Option TreeRefusal = or_else (first (is_unmarked_change p) es) UnmarkedChange None in
    let five : Option TreeRefusal = or_else (first (is_wrongly_marked p) es) NotEditable six in
    let four : Option TreeRefusal = or_else (first (is_in_template values p) es) InTemplate five in
    let three : Option TreeRefusal = or_else (first (is_moved p) es) Moved four in
    let two : Option TreeRefusal = or_else (first is_repeated es) RepeatedId three in
    let a = or_none (first (is_unknown p) es) UnknownId two e in
    let r = or_none (first is_repeated es) RepeatedId three a.1 in
    let m = or_none (first (is_moved p) es) Moved four r.1 in
    let t = or_none (first (is_in_template values p) es) InTemplate five m.1 in
    let w = or_none (first (is_wrongly_marked p) es) NotEditable six t.1 in
    let u = or_none (first (is_unmarked_change p) es) UnmarkedChange None w.1 in
    record {
      order = in_order (places page) es (increasing page b h) (nowhere (is_moved p) [] es m.0) (nowhere is_repeated [] es r.0);
      groups = each_place (is_in_template values p) (GroupKept values p) (group_kept values p) [] es (nowhere (is_in_template values p) [] es t.0);
      nodes = each_place (is_unmarked_change p) (NodeKept p) (node_kept p) [] es (nowhere (is_unmarked_change p) [] es u.0);
      marks = each_place (is_wrongly_marked p) (MarkKept p) (mark_kept p) [] es (nowhere (is_wrongly_marked p) [] es w.0);
    }

pub unrefused : (values : Bool) (page edited : Tree) → (label page).kind ≡ kind.Body → InPreorder page → Kept values page edited
    → checked values page edited ≡ None
unfolding checked
unrefused values page edited b h k =
    let p : Page = page_of page in
    let es : List Place = places edited in
    let six : Option TreeRefusal = or_else (first (is_unmarked_change p) es) UnmarkedChange None in
    let five : Option TreeRefusal = or_else (first (is_wrongly_marked p) es) NotEditable six in
    let four : Option TreeRefusal = or_else (first (is_in_template values p) es) InTemplate five in
    let three : Option TreeRefusal = or_else (first (is_moved p) es) Moved four in
    let two : Option TreeRefusal = or_else (first is_repeated es) RepeatedId three in
    let n = none_of_them (places page) es (increasing page b h) k.order in
    none_or (first (is_unknown p) es) UnknownId two (none_first (is_unknown p) [] es n.unknown)
    (none_or (first is_repeated es) RepeatedId three (none_first is_repeated [] es n.repeated)
    (none_or (first (is_moved p) es) Moved four (none_first (is_moved p) [] es n.moved)
    (none_or (first (is_in_template values p) es) InTemplate five
    (none_first (is_in_template values p) [] es
    (no_place (is_in_template values p) (GroupKept values p) (kept_group values p) [] es k.groups))
    (none_or (first (is_wrongly_marked p) es) NotEditable six
    (none_first (is_wrongly_marked p) [] es (no_place (is_wrongly_marked p) (MarkKept p) (kept_mark p) [] es k.marks))
    (none_or (first (is_unmarked_change p) es) UnmarkedChange None
    (none_first (is_unmarked_change p) [] es (no_place (is_unmarked_change p) (NodeKept p) (kept_node p) [] es k.nodes)) refl)))))
