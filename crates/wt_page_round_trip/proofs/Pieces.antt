-- Pieces of what an element holds in which, once sections are opened where they may stand, stands neither a
-- body nor a section; and what is gathered from such pieces.
use Rattle.std.proofs.Common.{◌≡◌, Bool, true, false, List, [], ◌∷◌, refl}
use Rattle.std.specs.List.{AllByRecursion}
use Rattle.std.proofs.lemmas.Bool.{or_from}
use Rattle.wt_tree.specs.declared.kind.Kind.{Kind}
use Rattle.wt_tree.specs.declared.row.Texts.{Texts}
use Rattle.wt_tree.specs.declared.row.Texts.TheVariants.{Separators, Page, Bordered, OwnCharacter}
use Rattle.wt_tree.specs.Kinds.{texts_of_kind}
use Rattle.wt_tree.specs.Tree.{Tree, tree, Trees, none, more}
use Rattle.wt_schema.specs.Fit.{held_as, children_in}
use Rattle.wt_schema.specs.Groups.{Piece, single, begun, further, furthers, gathered}
use Rattle.wt_checks.specs.PutBack.{is_frame, has_frame, have_frame}
use Rattle.wt_page_round_trip.proofs.Opens.{opened_if, onto_frameless, frameless}
use Rattle.wt_page_round_trip.proofs.Recuts.{recut_kept}

-- a section may be a piece by itself alone
abbrev pub IsFrameless : Bool → Piece → Type 0
IsFrameless sections (single t) = have_frame (opened_if sections (more t none)) ≡ false
IsFrameless sections (begun l t) = (is_frame l.kind ≡ false) × (has_frame t ≡ false)
IsFrameless sections (further t) = has_frame t ≡ false

abbrev pub AreFrameless : Bool → List Piece → Type 0
AreFrameless sections xs = AllByRecursion (IsFrameless sections) xs

furthers_kept : (sections : Bool) (xs : List Piece) → AreFrameless sections xs → have_frame (furthers xs) ≡ false
furthers_kept sections [] h = refl
furthers_kept sections (single t ∷ xs) h = refl
furthers_kept sections (begun l t ∷ xs) h = refl
furthers_kept sections (further t ∷ xs) h = or_from (has_frame t) (have_frame (furthers xs)) h.0 (furthers_kept sections xs h.1)

none_frameless : (sections : Bool) → have_frame (opened_if sections none) ≡ false
none_frameless true = refl
none_frameless false = refl

pub gathered_kept : (sections : Bool) (xs : List Piece) → AreFrameless sections xs → have_frame (opened_if sections (gathered xs)) ≡ false
gathered_kept sections [] h = none_frameless sections
gathered_kept sections (single t ∷ xs) h = onto_frameless sections t (gathered xs) h.0 (gathered_kept sections xs h.1)
gathered_kept sections (begun l t ∷ xs) h =
    let held = or_from (has_frame t) (have_frame (furthers xs)) h.0.1 (furthers_kept sections xs h.1) in
    let group : Tree = tree l (more t (furthers xs)) in
    onto_frameless sections group (gathered xs)
    (frameless sections group (or_from (is_frame l.kind) (have_frame (more t (furthers xs))) h.0.0 held)) (gathered_kept sections xs h.1)
gathered_kept sections (further t ∷ xs) h = gathered_kept sections xs h.1

-- ---- what an element holds

held_kept : (w : Texts) (ts : Trees) → have_frame ts ≡ false → have_frame (held_as w ts) ≡ false
held_kept Separators ts e = e
held_kept Page ts e = e
held_kept Bordered ts e = recut_kept ts e
held_kept OwnCharacter ts e = e

pub children_kept : (inside : Bool) (k : Kind) (xs : List Piece) → AreFrameless false xs → have_frame (children_in inside k xs) ≡ false
children_kept true k xs h = gathered_kept false xs h
children_kept false k xs h = held_kept (texts_of_kind k) (gathered xs) (gathered_kept false xs h)
