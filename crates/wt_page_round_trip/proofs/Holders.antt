-- What a body or a section holds has a place in the body, wherever it stands there.
use Rattle.std.proofs.Common.{◌≡◌, ℕ, Bool, true, false, Some, None, List, refl, ap, ◌∙◌}
use Rattle.std.specs.Prelude.{◌&&◌, ◌||◌, not}
use Rattle.wt_tree.specs.declared.kind.Kind.{Kind}
use Rattle.wt_tree.specs.declared.kind.Kind.TheVariants as kind
use Rattle.wt_tree.specs.declared.row.Placement.{Placement}
use Rattle.wt_tree.specs.declared.row.Placement.TheVariants as class
use Rattle.wt_tree.specs.declared.row.Holding.TheVariants.{Blocks}
use Rattle.wt_tree.specs.Kinds.{shape, is_class, is_anywhere, admits, may_hold, is_inline}
use Rattle.wt_tree.specs.Leaves.{sep_leaf}
use Rattle.wt_html_grammar.specs.Markup.{Markups}
use Rattle.wt_schema.specs.declared.standing.Standing.{Standing}
use Rattle.wt_schema.specs.Fit.{leaf_in, fits_place}
use Rattle.wt_schema.specs.Groups.{is_grouped, is_span, is_none}

class_held : (c : Placement) → (is_anywhere c || admits Blocks c) ≡ true → (is_class c class.Inline || is_class c class.Character) ≡ false
class_held class.Nowhere e = refl
class_held class.Anywhere e = refl
class_held class.Mark e = refl
class_held class.Block e = refl
class_held class.List e = refl
class_held class.Item e = refl
class_held class.Term e = refl
class_held class.TablePart e = refl
class_held class.TableRow e = refl
class_held class.Cell e = refl
class_held class.Inline e = absurd (cc e)
class_held class.Character e = absurd (cc e)
class_held class.Section e = refl

placed : (held inline other behind later : Bool) → (held ≡ true → inline ≡ false) → ((held && not (behind && inline)) || other) ≡ true
    → ((held && not (later && inline)) || other) ≡ true
placed false inline other behind later h e = e
placed true inline other behind later h e = ap (λ i. not (later && i) || other) (h refl) ∙ by_later later
  where
    by_later : (b : Bool) → (not (b && false) || other) ≡ true
    by_later true = refl
    by_later false = refl

-- an element of this kind is a body or a section: text in it is separators, and what fits there fits in the body
pub record IsHolder (p : Kind) : Type 0 where
  pub leaf : (bs : List ℕ) → leaf_in p bs ≡ Some (sep_leaf None bs)
  pub place : (behind later : Bool) (w : Standing) (k : Kind) (c : Markups) → fits_place p behind w k c ≡ true → fits_place kind.Body later w k c ≡ true

pub body_holder : IsHolder kind.Body
body_holder = record {
  leaf = λ bs. refl;
  place = λ behind later w k c e. placed (may_hold kind.Body k) (is_inline k) (is_grouped w && (is_span k && is_none c)) behind later (class_held (shape k).class) e;
}

pub section_holder : IsHolder (kind.Section 0)
section_holder = record {
  leaf = λ bs. refl;
  place = λ behind later w k c e. placed (may_hold kind.Body k) (is_inline k) (is_grouped w && (is_span k && is_none c)) behind later (class_held (shape k).class) e;
}
