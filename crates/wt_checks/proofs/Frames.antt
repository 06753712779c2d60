-- Where no section stands nothing is opened.
use Rattle.std.proofs.Common.{◌≡◌, ℕ, Bool, false, refl, ap, ◌∙◌}
use Rattle.std.specs.Prelude.{◌||◌, if◌then◌else◌}
use Rattle.std.specs.List.{AllByRecursion}
use Rattle.wt_tree.specs.declared.kind.Kind.{Kind}
use Rattle.wt_tree.specs.Kinds.{is_section}
use Rattle.wt_tree.specs.Opened.{all_opened_before, opened}
use Rattle.wt_tree.specs.Tree.{Tree, tree, Trees, none, more}
use Rattle.wt_checks.specs.Kept.{children}
use Rattle.wt_checks.specs.Places.{Place, placed, all_placed, places, is_body, is_content, parent_below}
use Rattle.wt_checks.specs.PutBack.{is_frame, has_frame, have_frame}
use Rattle.wt_checks.proofs.Lookups.{each_join}
use Rattle.wt_checks.proofs.Repeated.{or_false}

pub no_frame : (k : Kind) → is_frame k ≡ false → (is_body k ≡ false) × (is_section k ≡ false)
no_frame k e = or_false (is_body k) (is_section k) e

none_opened : (ts : Trees) → have_frame ts ≡ false → opened ts ≡ ts
none_opened none b = refl
none_opened (more (tree l us) ts) b =
    let c = or_false (is_frame l.kind || have_frame us) (have_frame ts) b in
    let d = or_false (is_frame l.kind) (have_frame us) c.0 in
    let e = no_frame l.kind d.0 in
    ap (λ v. if v then all_opened_before us (opened ts) else more (tree l us) (opened ts)) e.1
    ∙ ap (λ vs. more (tree l us) vs) (none_opened ts c.1)

-- what the node holds stands in no section
abbrev pub IsBare : Place → Type 0
IsBare q = opened (children q.node) ≡ children q.node

mutual
  bare : (parent : ℕ) (within : Bool) (t : Tree) → has_frame t ≡ false → AllByRecursion IsBare (placed parent within t)
  bare parent within (tree l ts) b =
      let c = or_false (is_frame l.kind) (have_frame ts) b in
      (none_opened ts c.1, all_bare (parent_below parent l.id) (within || is_content l.mark) ts c.1)

  all_bare : (parent : ℕ) (within : Bool) (ts : Trees) → have_frame ts ≡ false → AllByRecursion IsBare (all_placed parent within ts)
  all_bare parent within none b = tt
  all_bare parent within (more t ts) b =
      let c = or_false (has_frame t) (have_frame ts) b in
      each_join IsBare (placed parent within t) (all_placed parent within ts) (bare parent within t c.0) (all_bare parent within ts c.1)

pub bare_places : (t : Tree) → have_frame (children t) ≡ false → AllByRecursion IsBare (places t)
bare_places (tree l ts) b = (none_opened ts b, all_bare (parent_below 0 l.id) (is_content l.mark) ts b)

pub bare_root : (t : Tree) → have_frame (children t) ≡ false → opened (children t) ≡ children t
bare_root (tree l ts) b = none_opened ts b
