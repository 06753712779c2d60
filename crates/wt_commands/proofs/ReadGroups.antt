-- What is read of a group's elements is what was written for it, and no node of theirs has a number, a mark or is a body.
use Rattle.std.proofs.Common.{◌≡◌, ℕ, suc, Bool, true, false, refl, ap, ◌∙◌}
use Rattle.std.specs.Prelude.{◌||◌}
use Rattle.std.specs.List.{AllByRecursion}
use Rattle.wt_tree.specs.declared.kind.Kind.{Kind}
use Rattle.wt_tree.specs.declared.kind.Kind.TheVariants as kind
use Rattle.wt_tree.specs.declared.kind.Mark.TheVariants as mark
use Rattle.wt_tree.specs.declared.kind.Showing.{Showing}
use Rattle.wt_tree.specs.Elements.{span, as_elements, or_empty_span}
use Rattle.wt_tree.specs.Kinds.{shape, showing, writing}
use Rattle.wt_tree.specs.Plain.{face, Plain, text, element, Plains, ended, along, plains_before}
use Rattle.wt_tree.specs.Tree.{Label, Trees, label}
use Rattle.wt_schema.specs.Rows.{shows_text}
use Rattle.wt_schema.specs.GroupNodes.{elements_for, element_label, inner_node, inner_nodes, group_nodes, is_ended}
use Rattle.wt_schema.specs.Written.{PlainIn, PlainsIn, TopsIn}
use Rattle.wt_schema.proofs.Faces.{held_somewhere}
use Rattle.wt_schema.proofs.Rows.{is_somewhere, held}
use Rattle.wt_checks.specs.Elements.{bare, all_bare, written_for, read_by, read_before, all_read}
use Rattle.wt_checks.specs.Groups.{has_mark, have_mark}
use Rattle.wt_checks.specs.PutBack.{is_frame}
use Rattle.wt_checks.specs.Places.{Place, placed, all_placed, kind_at, is_kept, is_body, is_content, parent_below}
use Rattle.wt_checks.proofs.Lookups.{each_join}

-- ---- the elements of a group

face_read : (k : Kind) (s : Showing) (l : Label) (inside rest : Plains) → is_somewhere (shape k).class ≡ true → shows_text k ≡ false
    → read_by (writing k) s l inside rest ≡ along (element (face l) inside) rest
face_read kind.Entity s l inside rest e t = absurd cc
face_read (kind.Section n) s l inside rest e t = absurd cc
face_read kind.Sep s l inside rest e t = absurd cc
face_read kind.Text s l inside rest e t = absurd cc
face_read k s l inside rest e t = refl

mutual
  inner_read : (p : Plain) (k : ℕ) (parent : Kind) (rest : Plains) → PlainIn k parent p
      → read_before (inner_node p) rest ≡ along (bare p) rest
  inner_read (text bs) k parent rest h = refl
  inner_read (element f qs) k parent rest h =
      face_read f.kind (showing f.kind) (element_label f) (all_read (inner_nodes qs)) rest (held parent f.kind h.0 h.1.1.element) h.1.1.shows
      ∙ ap (λ x. along (element (face (element_label f)) x) rest) (inners_read qs (suc k) f.kind h.1.3.1)

  inners_read : (ps : Plains) (k : ℕ) (parent : Kind) → PlainsIn k parent ps → all_read (inner_nodes ps) ≡ all_bare ps
  inners_read ended k parent h = refl
  inners_read (along p ps) k parent h =
      inner_read p k parent (all_read (inner_nodes ps)) h.0 ∙ ap (λ x. along (bare p) x) (inners_read ps k parent h.2)

tops_read : (ps : Plains) (k : ℕ) (parent : Kind) → TopsIn k parent ps → all_read (inner_nodes ps) ≡ all_bare ps
tops_read ended k parent h = refl
tops_read (along (text bs) ps) k parent h = absurd h.0
tops_read (along (element f qs) ps) k parent h =
    face_read f.kind (showing f.kind) (element_label f) (all_read (inner_nodes qs)) (all_read (inner_nodes ps))
    (held_somewhere parent f.kind (is_ended qs) h.0.0 h.0.1.1.element) h.0.1.1.shows
    ∙ ap (λ x. along (element (face (element_label f)) x) (all_read (inner_nodes ps))) (inners_read qs (suc k) f.kind h.0.1.3.1)
    ∙ ap (λ x. along (bare (element f qs)) x) (tops_read ps k parent h.1)

elements_bare : (ps : Plains) → all_bare (as_elements ps) ≡ as_elements (all_bare ps)
elements_bare ended = refl
elements_bare (along (text bs) ps) = ap (λ x. along (bare (element span (along (text bs) ended))) x) (elements_bare ps)
elements_bare (along (element f qs) ps) = ap (λ x. along (bare (element f qs)) x) (elements_bare ps)

span_bare : (ps : Plains) → all_bare (or_empty_span ps) ≡ or_empty_span (all_bare ps)
span_bare ended = refl
span_bare (along p ps) = refl

pub group_read : (ts : Trees) (k : ℕ) (parent : Kind) → TopsIn k parent (elements_for ts) → all_read (group_nodes ts) ≡ written_for ts
group_read ts k parent h =
    tops_read (elements_for ts) k parent h ∙ span_bare (as_elements (plains_before ts ended))
    ∙ ap or_empty_span (elements_bare (plains_before ts ended))

-- ---- the nodes of a group

mutual
  inner_unmarked : (p : Plain) → has_mark (inner_node p) ≡ false
  inner_unmarked (text bs) = refl
  inner_unmarked (element f qs) = inners_unmarked qs

  pub inners_unmarked : (ps : Plains) → have_mark (inner_nodes ps) ≡ false
  inners_unmarked ended = refl
  inners_unmarked (along p ps) = ap (λ b. b || have_mark (inner_nodes ps)) (inner_unmarked p) ∙ inners_unmarked ps

-- a node that isn't the page's
pub record IsNew (p : Place) : Type 0 where
  pub unkept : is_kept p ≡ false
  pub other : is_body (kind_at p) ≡ false
  pub unmarked : (label p.node).mark ≡ mark.Nothing

pub no_body : (k : Kind) → is_somewhere (shape k).class ≡ true → is_body k ≡ false
no_body kind.Body e = absurd cc
no_body k e = refl

-- what stands in another element or in a group is neither a body nor a section
pub no_frame : (k : Kind) → is_somewhere (shape k).class ≡ true → is_frame k ≡ false
no_frame kind.Body e = absurd cc
no_frame (kind.Section n) e = absurd cc
no_frame k e = refl

mutual
  inner_new : (p : Plain) (k : ℕ) (parent : Kind) (n : ℕ) (within : Bool) → PlainIn k parent p
      → AllByRecursion IsNew (placed n within (inner_node p))
  inner_new (text bs) k parent n within h = (record { unkept = refl; other = refl; unmarked = refl }, tt)
  inner_new (element f qs) k parent n within h = (
    record { unkept = refl; other = no_body f.kind (held parent f.kind h.0 h.1.1.element); unmarked = refl },
    inners_new qs (suc k) f.kind (parent_below n 0) (within || is_content mark.Nothing) h.1.3.1,
  )

  inners_new : (ps : Plains) (k : ℕ) (parent : Kind) (n : ℕ) (within : Bool) → PlainsIn k parent ps
      → AllByRecursion IsNew (all_placed n within (inner_nodes ps))
  inners_new ended k parent n within h = tt
  inners_new (along p ps) k parent n within h =
      each_join IsNew (placed n within (inner_node p)) (all_placed n within (inner_nodes ps)) (inner_new p k parent n within h.0)
      (inners_new ps k parent n within h.2)

tops_new : (ps : Plains) (k : ℕ) (parent : Kind) (n : ℕ) (within : Bool) → TopsIn k parent ps
    → AllByRecursion IsNew (all_placed n within (inner_nodes ps))
tops_new ended k parent n within h = tt
tops_new (along (text bs) ps) k parent n within h = absurd h.0
tops_new (along (element f qs) ps) k parent n within h = (
  record { unkept = refl; other = no_body f.kind (held_somewhere parent f.kind (is_ended qs) h.0.0 h.0.1.1.element); unmarked = refl },
  each_join IsNew (all_placed (parent_below n 0) (within || is_content mark.Nothing) (inner_nodes qs)) (all_placed n within (inner_nodes ps))
      (inners_new qs (suc k) f.kind (parent_below n 0) (within || is_content mark.Nothing) h.0.1.3.1)
      (tops_new ps k parent n within h.1),
)

pub group_new : (ts : Trees) (k : ℕ) (parent : Kind) (n : ℕ) (within : Bool) → TopsIn k parent (elements_for ts)
    → AllByRecursion IsNew (all_placed n within (group_nodes ts))
group_new ts k parent n within h = tops_new (elements_for ts) k parent n within h
