-- What stands in an item or a cell, in its order: the text and inline elements of a line, and behind them separators and blocks.
use Rattle.std.proofs.Common.{◌≡◌, ℕ, Bool, true, false, Option, List, [], ◌∷◌, ◌++◌, map, refl, sym, ap, ap₂, ◌∙◌, subst}
use Rattle.std.specs.Prelude.{◌&&◌, ◌||◌, not}
use Rattle.std.specs.List.{AllByRecursion}
use Rattle.wt_html_grammar.proofs.Steps.{if_false}
use Rattle.wt_span.specs.Items.{char}
use Rattle.wt_span.specs.Runs.{runs, IsRun, AreRuns}
use Rattle.wt_span.proofs.RunLaws.{runs_are}
use Rattle.wt_tree.specs.declared.kind.Kind.{Kind}
use Rattle.wt_tree.specs.Tiling.{is_group}
use Rattle.wt_tree.specs.Kinds.{is_block}
use Rattle.wt_recut.specs.Recut.{shows_block}
use Rattle.wt_recut.proofs.CutOnly.{and_none}
use Rattle.wt_inline.specs.declared.loose.Loose.{Loose}
use Rattle.wt_inline.specs.declared.loose.Loose.TheVariants.{Text, Sep}
use Rattle.wt_inline.specs.ItemTree.{ItemTree, inner, forest}
use Rattle.wt_inline.specs.Parts.{Part, loose, node, held_parts, one_leaf, loose_kind, loose_leaf, child, children}
use Rattle.wt_annotated.specs.Labels.{label_at}
use Rattle.wt_annotated.specs.Annotated.{unplaced, all_unplaced}
use Rattle.wt_page_round_trip.proofs.ShownNodes.{can_follow, are_in_line}
use Rattle.wt_page_round_trip.proofs.Separated.{goes_first, head_of, IsPartIn}

-- ---- what a line gives

-- an element that is no block
pub record IsInlineKind (q : Kind) : Type 0 where
  pub block : is_block q ≡ false
  pub group : is_group q ≡ false

-- a character, or such an element
abbrev pub IsLinePart : Part → Type 0
IsLinePart (loose j o b) = Unit {0}
IsLinePart (node t) = IsInlineKind (head_of t).kind

-- ---- parts in their order

-- behind a block or not
abbrev PartsInLine : Bool → List Part → Type 0
PartsInLine behind [] = Unit {0}
PartsInLine behind (loose j o b ∷ ps) = (can_follow behind (loose_kind j) ≡ true) × PartsInLine behind ps
PartsInLine behind (node t ∷ ps) = (can_follow behind (head_of t).kind ≡ true) × PartsInLine (behind || shows_block (unplaced t)) ps

follows : (b : Bool) (k : Kind) → goes_first k ≡ false → can_follow b k ≡ true
follows b k e = ap (λ x. not (b && x)) e ∙ ap not (and_none b)

shows_none : (t : ItemTree) → IsInlineKind (head_of t).kind → shows_block (unplaced t) ≡ false
unfolding label_at
shows_none (inner h opening ts closing) i = if_false (is_group h.kind) _ _ i.group ∙ i.block

behind_in_line : (k : ℕ) (q : Kind) (b : Bool) (ps : List Part) → AllByRecursion (IsPartIn k q) ps → PartsInLine b ps
behind_in_line k q b [] a = tt
behind_in_line k q b (loose j o c ∷ ps) a =
    (subst (λ (i : Loose). can_follow b (loose_kind i) ≡ true) (sym a.0.0) (follows b (loose_kind Sep) refl), behind_in_line k q b ps a.1)
behind_in_line k q b (node t ∷ ps) a = (follows b (head_of t).kind a.0.1, behind_in_line k q (b || shows_block (unplaced t)) ps a.1)

line_in_line : (k : ℕ) (q : Kind) (ps qs : List Part) → AllByRecursion IsLinePart ps → AllByRecursion (IsPartIn k q) qs → PartsInLine false (ps ++ qs)
line_in_line k q [] qs a b = behind_in_line k q false qs b
line_in_line k q (loose j o c ∷ ps) qs a b = (refl, line_in_line k q ps qs a.1 b)
line_in_line k q (node t ∷ ps) qs a b = (refl, subst (λ x. PartsInLine x (ps ++ qs)) (sym (shows_none t a.0)) (line_in_line k q ps qs a.1 b))

-- ---- their nodes

or_none : (b : Bool) → (b || false) ≡ b
or_none true = refl
or_none false = refl

-- what stands behind a run of characters
past_run : (b : Bool) (j : Loose) (o : Option ℕ) (c : ℕ) (r others : List Part) → IsRun one_leaf (loose j o c ∷ r) others
    → PartsInLine b (r ++ others) → PartsInLine b others
past_run b j o c [] others h a = a
past_run b j o c (node t ∷ r) others h a = absurd (let e = h.0 in cc)
past_run b j o c (loose i p d ∷ r) others h a = past_run b i p d r others h.1 a.1

leaf_in_line : (b : Bool) (j : Loose) (o : Option ℕ) (c : ℕ) (r : List Part) (ts : List ItemTree) → can_follow b (loose_kind j) ≡ true
    → are_in_line b (all_unplaced (forest ts)) ≡ true
    → are_in_line b (all_unplaced (forest (loose_leaf j (char o c ∷ held_parts r) ∷ ts))) ≡ true
unfolding label_at
leaf_in_line b Text o c r ts e a = ap₂ (λ x y. x && are_in_line y (all_unplaced (forest ts))) e (or_none b) ∙ a
leaf_in_line b Sep o c r ts e a = ap₂ (λ x y. x && are_in_line y (all_unplaced (forest ts))) e (or_none b) ∙ a

runs_in_line : (b : Bool) (rs : List (List Part)) (ps : List Part) → AreRuns one_leaf rs ps → PartsInLine b ps
    → are_in_line b (all_unplaced (forest (map child rs))) ≡ true
unfolding label_at
runs_in_line b [] ps h a = refl
runs_in_line b ([] ∷ rs) ps h a = absurd h.2
runs_in_line b ((node t ∷ p ∷ r) ∷ rs) ps h a = absurd (let e = h.2.0 in cc)
runs_in_line b ((node (inner d opening ts closing) ∷ []) ∷ rs) ps h a =
    let v = subst (λ (qs : List Part). PartsInLine b qs) h.1 a in
    ap₂ (λ x y. x && y) v.0 (runs_in_line (b || shows_block (unplaced (inner d opening ts closing))) rs h.0 h.3 v.1)
runs_in_line b ((loose j o c ∷ r) ∷ rs) ps h a =
    let v = subst (λ (qs : List Part). PartsInLine b qs) h.1 a in
    leaf_in_line b j o c r (map child rs) v.0 (runs_in_line b rs h.0 h.3 (past_run b j o c r h.0 h.2 v.1))

children_in_line : (ps : List Part) → PartsInLine false ps → are_in_line false (all_unplaced (forest (children ps))) ≡ true
unfolding children
children_in_line ps a = runs_in_line false (runs one_leaf ps) ps (runs_are one_leaf ps) a

-- a line and what stands behind it
pub line_ordered : (k : ℕ) (q : Kind) (ps qs : List Part) → AllByRecursion IsLinePart ps → AllByRecursion (IsPartIn k q) qs
    → are_in_line false (all_unplaced (forest (children (ps ++ qs)))) ≡ true
line_ordered k q ps qs a b = children_in_line (ps ++ qs) (line_in_line k q ps qs a b)
