-- Where sections are opened, bodies and sections stand where they stand in each tree that is opened by itself.
use Rattle.std.proofs.Common.{◌≡◌, Bool, true, false, refl, sym, ap, ◌∙◌}
use Rattle.std.specs.Prelude.{◌||◌, if◌then◌else◌}
use Rattle.std.proofs.lemmas.Bool.{or_parts, or_from}
use Rattle.wt_tree.specs.Kinds.{is_section}
use Rattle.wt_tree.specs.Opened.{opened_before, all_opened_before, opened}
use Rattle.wt_tree.specs.Tree.{Label, Tree, tree, Trees, none, more}
use Rattle.wt_checks.specs.Places.{is_body}
use Rattle.wt_checks.specs.PutBack.{is_frame, has_frame, have_frame}

or_none : (a : Bool) → a ≡ (a || false)
or_none true = refl
or_none false = refl

or_again : (a b c : Bool) → (a || (b || c)) ≡ ((a || b) || c)
or_again true b c = refl
or_again false b c = refl

one_split : (section : Bool) (l : Label) (ts rest : Trees) → have_frame (all_opened_before ts rest) ≡ (have_frame (opened ts) || have_frame rest)
    → have_frame (if section then all_opened_before ts rest else more (tree l ts) rest)
    ≡ (have_frame (if section then opened ts else more (tree l ts) none) || have_frame rest)
one_split true l ts rest h = h
one_split false l ts rest h = ap (λ a. a || have_frame rest) (or_none (has_frame (tree l ts)))

mutual
  before_split : (t : Tree) (rest : Trees) → have_frame (opened_before t rest) ≡ (have_frame (opened_before t none) || have_frame rest)
  before_split (tree l ts) rest = one_split (is_section l.kind) l ts rest (all_split ts rest)

  all_split : (ts rest : Trees) → have_frame (all_opened_before ts rest) ≡ (have_frame (opened ts) || have_frame rest)
  all_split none rest = refl
  all_split (more t ts) rest =
      before_split t (all_opened_before ts rest)
      ∙ ap (λ b. have_frame (opened_before t none) || b) (all_split ts rest)
      ∙ or_again (have_frame (opened_before t none)) (have_frame (opened ts)) (have_frame rest)
      ∙ sym (ap (λ b. b || have_frame rest) (before_split t (opened ts)))

-- ---- opened where sections may stand, and elsewhere as they are

abbrev pub opened_if : Bool → Trees → Trees
opened_if true ts = opened ts
opened_if false ts = ts

pub frame_split : (sections : Bool) (t : Tree) (ts : Trees)
    → have_frame (opened_if sections (more t ts)) ≡ (have_frame (opened_if sections (more t none)) || have_frame (opened_if sections ts))
frame_split true t ts = before_split t (opened ts)
frame_split false t ts = ap (λ a. a || have_frame ts) (or_none (has_frame t))

pub onto_frameless : (sections : Bool) (t : Tree) (ts : Trees) → have_frame (opened_if sections (more t none)) ≡ false
    → have_frame (opened_if sections ts) ≡ false → have_frame (opened_if sections (more t ts)) ≡ false
onto_frameless sections t ts e f =
    frame_split sections t ts ∙ or_from (have_frame (opened_if sections (more t none))) (have_frame (opened_if sections ts)) e f

-- a tree in which stands neither a body nor a section
pub frameless : (sections : Bool) (t : Tree) → has_frame t ≡ false → have_frame (opened_if sections (more t none)) ≡ false
frameless true (tree l ts) e =
    let here = or_parts (is_frame l.kind) (have_frame ts) e in
    let section = or_parts (is_body l.kind) (is_section l.kind) here.0 in
    ap (λ b. have_frame (if b then opened ts else more (tree l ts) none)) section.1 ∙ or_from (has_frame (tree l ts)) false e refl
frameless false t e = or_from (has_frame t) false e refl

-- a section, by what it holds
pub section_opens : (l : Label) (ts : Trees) → is_section l.kind ≡ true → have_frame (opened ts) ≡ false
    → have_frame (opened (more (tree l ts) none)) ≡ false
section_opens l ts e f = ap (λ b. have_frame (if b then opened ts else more (tree l ts) none)) e ∙ f
