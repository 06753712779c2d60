-- The check of nodes alone beside the whole check, and beside the same without marks.
use Rattle.std.proofs.Common.{◌≡◌, ℕ, true, false, List, refl, sym}
use Rattle.std.specs.Prelude.{Option, Some, None}
use Rattle.wt_tree.specs.Tree.{Tree}
use Rattle.wt_checks.specs.declared.refusal.TreeRefusal.{TreeRefusal}
use Rattle.wt_checks.specs.declared.refusal.TreeRefusal.TheVariants.{UnknownId, RepeatedId, Moved, InTemplate, NotEditable, UnmarkedChange}
use Rattle.wt_checks.specs.Checked.{or_else, checked, nodes_checked, is_of_nodes}
use Rattle.wt_checks.specs.Groups.{is_in_template}
use Rattle.wt_checks.specs.Ids.{is_unknown, is_repeated, is_moved}
use Rattle.wt_checks.specs.Marks.{is_wrongly_marked}
use Rattle.wt_checks.specs.Places.{Place, places, Page, page_of, first}
use Rattle.wt_checks.specs.Unmarked.{is_unmarked_change}

-- ---- the whole check, of which some conditions are left out

abbrev AnsweredBy : Option ℕ → Option ℕ → Option ℕ → Option ℕ → Option ℕ → Option ℕ → Option TreeRefusal → Type 0
AnsweredBy unknown repeated moved template wrongly change r =
    or_else unknown UnknownId (or_else repeated RepeatedId (or_else moved Moved (or_else template InTemplate
    (or_else wrongly NotEditable (or_else change UnmarkedChange None))))) ≡ r

abbrev alone : Option ℕ → Option ℕ → Option ℕ → Option TreeRefusal
alone unknown repeated template = or_else unknown UnknownId (or_else repeated RepeatedId (or_else template InTemplate None))

none_some : (c : TreeRefusal) → None ≡ Some c → ⊥
none_some c e = absurd (cc)

other_check : (c d : TreeRefusal) → Some d ≡ Some c → is_of_nodes d ≡ false → is_of_nodes c ≡ true → ⊥
other_check c d e f h = let s : d ≡ c = cc in absurd (cc)

refused_by : (a b m g w k : Option ℕ) (c : TreeRefusal) → AnsweredBy a b m g w k (Some c) → is_of_nodes c ≡ true → alone a b g ≡ Some c
refused_by (Some n) b m g w k c e h = e
refused_by None (Some n) m g w k c e h = e
refused_by None None (Some n) g w k c e h = absurd (other_check c (Moved n) e refl h)
refused_by None None None (Some n) w k c e h = e
refused_by None None None None (Some n) k c e h = absurd (other_check c (NotEditable n) e refl h)
refused_by None None None None None (Some n) c e h = absurd (other_check c (UnmarkedChange n) e refl h)
refused_by None None None None None None c e h = absurd (none_some c e)

taken_by : (a b m g w k : Option ℕ) → AnsweredBy a b m g w k None → alone a b g ≡ None
taken_by (Some n) b m g w k e = absurd (none_some (UnknownId n) (sym e))
taken_by None (Some n) m g w k e = absurd (none_some (RepeatedId n) (sym e))
taken_by None None (Some n) g w k e = absurd (none_some (Moved n) (sym e))
taken_by None None None (Some n) w k e = absurd (none_some (InTemplate n) (sym e))
taken_by None None None None w k e = refl

pub refused_alone : (page edited : Tree) (c : TreeRefusal) → checked false page edited ≡ Some c → is_of_nodes c ≡ true → nodes_checked page edited ≡ Some c
unfolding checked nodes_checked
refused_alone page edited c e h =
    let p : Page = page_of page in
    let es : List Place = places edited in
    refused_by (first (is_unknown p) es) (first is_repeated es) (first (is_moved p) es) (first (is_in_template false p) es)
    (first (is_wrongly_marked p) es) (first (is_unmarked_change p) es) c e h

pub taken_alone : (page edited : Tree) → checked false page edited ≡ None → nodes_checked page edited ≡ None
unfolding checked nodes_checked
taken_alone page edited e =
    let p : Page = page_of page in
    let es : List Place = places edited in
    taken_by (first (is_unknown p) es) (first is_repeated es) (first (is_moved p) es) (first (is_in_template false p) es)
    (first (is_wrongly_marked p) es) (first (is_unmarked_change p) es) e
