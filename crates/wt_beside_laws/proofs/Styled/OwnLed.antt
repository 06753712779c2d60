-- In a block of the page a line of comments stands only where a line begins: behind a line break, behind another such line, or at its start.
use Rattle.std.proofs.Common.{arith, ◌≡◌, ◌≢◌, ◌⊎◌, ℕ, zero, suc, ◌+◌, ◌-◌, ◌<◌, ◌≤◌, ◌==◌, Bool, true, false, Option, None, Some, List, [], ◌∷◌, ◌++◌, length, map, take, drop, refl, sym, ap, ◌∙◌, subst, append-nil, inl, inr}
use Rattle.std.specs.Prelude.{nat_eq}
use Rattle.std.specs.List.{ends_with, flat_map}
use Rattle.wt_span.specs.Items.{Item, sources}
use Rattle.wt_span.specs.Runs.{runs, IsRun, AreRuns}
use Rattle.wt_span.proofs.RunLaws.{runs_are}
use Rattle.wt_tree.specs.declared.kind.Kind.{Kind}
use Rattle.wt_tree.specs.declared.edit_shape.InlineForm.{InlineForm}
use Rattle.wt_tree.specs.declared.edit_shape.InlineForm.TheVariants as inline
use Rattle.wt_tree.specs.declared.edit_shape.Sort.{Sort}
use Rattle.wt_tree.specs.declared.edit_shape.Sort.TheVariants as sort
use Rattle.wt_tree.specs.EditShapes.{edit_shape}
use Rattle.wt_tree.specs.Source.{flat}
use Rattle.wt_tree.specs.Tree.{Label, Tree, tree, Trees, none, more, label}
use Rattle.wt_guards.specs.declared.role.Role.{Role}
use Rattle.wt_guards.specs.declared.role.Role.TheVariants as role
use Rattle.wt_guards.specs.Content.{ends_line}
use Rattle.wt_original.specs.declared.block.Extent.{Extent}
use Rattle.wt_original.specs.Kept.{items, visible, kept_of, kept_nodes, kept_with, found_at, found_from, found_in, url, island, role_by, role_of}
use Rattle.wt_inline.specs.declared.loose.Loose.{Loose}
use Rattle.wt_inline.specs.declared.loose.Loose.TheVariants.{Text, Sep}
use Rattle.wt_inline.specs.Carried.{shown_item}
use Rattle.wt_inline.specs.ItemTree.{ItemTree, forest, tree_items}
use Rattle.wt_inline.specs.Parts.{Part, loose, node, held_parts, one_leaf, loose_leaf, child, children}
use Rattle.wt_quotes.specs.Forest.{Forest, bare, grown}
use Rattle.wt_context.specs.Segments.{Segment, segment_items, segment_parts}
use Rattle.wt_context.specs.Styled.{between, style_node, styled}
use Rattle.wt_context.specs.Styling.{Fill}
use Rattle.wt_context.proofs.Forests.{fill_le}
use Rattle.wt_context.proofs.PlainNodes.{IsText}
use Rattle.wt_context.proofs.QuotePlaces.{quote_at}
use Rattle.wt_annotated.specs.Labels.{label_at}
use Rattle.wt_annotated.specs.Numbering.{count}
use Rattle.wt_annotated.specs.WithoutCalls.{placed}
use Rattle.wt_part_laws.specs.Standing.{standing}
use Rattle.wt_part_laws.proofs.Sources.{standing_source}
use Rattle.wt_beside_laws.specs.OwnLed.{settled, line_by, is_line, FoundAt, NoLineBy, NoLineIn, NoLines, LedBy, AreOwnLed}
use Rattle.wt_beside_laws.specs.PageSigns.{ends_break}
use Rattle.wt_beside_laws.specs.SentPieces.{IsNodeForm}
use Rattle.wt_beside_laws.proofs.OwnSigns.{Every, every_left, every_right, Finds}
use Rattle.wt_beside_laws.proofs.PartThings.{IsThingForm, IsThing, tree_source, leaf_source, nodes_of, stands_kind, stands_form, node_number}
use Rattle.wt_beside_laws.proofs.Styled.BlockNodes.{finds_own, style_round, style_children, style_holds, found_inside}
use Rattle.wt_beside_laws.proofs.Styled.BlockStyles.{parts_cut}
use Rattle.wt_beside_laws.proofs.Styled.StyleKinds.{EachIn}
use Rattle.wt_beside_laws.proofs.Styled.StyleStarts.{IsBehindQuote}

-- ---- a line of comments, by its source

url_within : (opening text : List ℕ) → ends_line (url opening text) ≡ false
url_within [] text = refl
url_within (b ∷ opening) text = refl

island_within : (v : Bool) → ends_line (island v) ≡ false
island_within true = refl
island_within false = refl

role_ends_by : (s : Sort) (block : Tree) (e : Extent) (t : Tree) → ends_line (role_by s block e t) ≡ line_by s t
role_ends_by sort.PageLink block e t = refl
role_ends_by sort.Url block e t = url_within (label t).opening _
role_ends_by sort.Switch block e t = refl
role_ends_by sort.Mark block e t = refl
role_ends_by sort.Group block e t = refl
role_ends_by sort.Island block e t = island_within _
role_ends_by sort.Other block e t = refl

-- whatever the block
pub role_ends : (block : Tree) (e : Extent) (t : Tree) → ends_line (role_of block e t) ≡ is_line t
role_ends block e t = role_ends_by (edit_shape (label t).kind).sort block e t

line_source : (s : Sort) (t : Tree) → ends_break (flat t) ≡ false → line_by s t ≡ false
line_source sort.PageLink t h = refl
line_source sort.Url t h = refl
line_source sort.Switch t h = refl
line_source sort.Mark t h = h
line_source sort.Group t h = refl
line_source sort.Island t h = refl
line_source sort.Other t h = refl

-- a node of a content that is no line of comments, and one that is
pub record NoNode (block : Tree) (at : ℕ) (t : Tree) : Type 0 where
  pub form : IsNodeForm (edit_shape (label t).kind).inline
  pub none : NoLineIn block at t

pub record LineNode (block : Tree) (at : ℕ) (t : Tree) : Type 0 where
  pub form : IsThingForm (edit_shape (label t).kind).inline
  pub found : FoundAt block at t
  pub line : is_line t ≡ true

no_by : (f : InlineForm) (block : Tree) (at : ℕ) (s : Bool) (l : Label) (ts : Trees) (inside : Type 0) (rest : Bool → Type 0) → IsNodeForm f
    → (inside → NoLines block (at + length l.opening) ts) → NoLineBy f block at l ts inside → rest false → LedBy f block at s l ts rest
no_by inline.Nothing block at s l ts inside rest f g h k = absurd f
no_by inline.Characters block at s l ts inside rest f g h k = absurd f
no_by inline.Bold block at s l ts inside rest f g h k = (g h, k)
no_by inline.Italic block at s l ts inside rest f g h k = (g h, k)
no_by inline.Shown block at s l ts inside rest f g h k = (h.0, (λ e. absurd (let no = sym e ∙ h.1 in cc)), subst rest (sym h.1) k)
no_by inline.PageLink block at s l ts inside rest f g h k = (h.0, (λ e. absurd (let no = sym e ∙ h.1 in cc)), subst rest (sym h.1) k)
no_by inline.ExternalLink block at s l ts inside rest f g h k = (h.0, (λ e. absurd (let no = sym e ∙ h.1 in cc)), subst rest (sym h.1) k)
no_by inline.Tag block at s l ts inside rest f g h k = (h.0, (λ e. absurd (let no = sym e ∙ h.1 in cc)), subst rest (sym h.1) k)
no_by inline.Break block at s l ts inside rest f g h k = (h.0, (λ e. absurd (let no = sym e ∙ h.1 in cc)), subst rest (sym h.1) k)
no_by inline.AsItStood block at s l ts inside rest f g h k = (h.0, (λ e. absurd (let no = sym e ∙ h.1 in cc)), subst rest (sym h.1) k)

no_first : (t us : Trees) (block u : Tree) (at : ℕ) (s : Bool) → NoNode block at u → AreOwnLed block (at + length (flat u)) false us → AreOwnLed block at s (more u us)
no_first t us block (tree l ts) at s h k =
    no_by (edit_shape l.kind).inline block at s l ts (NoLines block (at + length l.opening) ts) (λ v. AreOwnLed block (at + length (flat (tree l ts))) v us) h.form
    (λ n. n) h.none k

line_first_by : (f : InlineForm) (block : Tree) (at : ℕ) (s : Bool) (l : Label) (ts : Trees) (rest : Bool → Type 0) → IsThingForm f → s ≡ true
    → FoundAt block at (tree l ts) → is_line (tree l ts) ≡ true → rest true → LedBy f block at s l ts rest
line_first_by inline.Nothing block at s l ts rest f e h i k = absurd f
line_first_by inline.Characters block at s l ts rest f e h i k = absurd f
line_first_by inline.Bold block at s l ts rest f e h i k = absurd f
line_first_by inline.Italic block at s l ts rest f e h i k = absurd f
line_first_by inline.Shown block at s l ts rest f e h i k = (h, (λ z. e), subst rest (sym i) k)
line_first_by inline.PageLink block at s l ts rest f e h i k = (h, (λ z. e), subst rest (sym i) k)
line_first_by inline.ExternalLink block at s l ts rest f e h i k = (h, (λ z. e), subst rest (sym i) k)
line_first_by inline.Tag block at s l ts rest f e h i k = (h, (λ z. e), subst rest (sym i) k)
line_first_by inline.Break block at s l ts rest f e h i k = (h, (λ z. e), subst rest (sym i) k)
line_first_by inline.AsItStood block at s l ts rest f e h i k = (h, (λ z. e), subst rest (sym i) k)

line_first : (us : Trees) (block u : Tree) (at : ℕ) (s : Bool) → LineNode block at u → s ≡ true → AreOwnLed block (at + length (flat u)) true us
    → AreOwnLed block at s (more u us)
line_first us block (tree l ts) at s h e k =
    line_first_by (edit_shape l.kind).inline block at s l ts (λ v. AreOwnLed block (at + length (flat (tree l ts))) v us) h.form e h.found h.line k

-- ---- parts, wherever they are

abbrev pub NoOn : ItemTree → Type 0
NoOn u = (block : Tree) (at from n : ℕ) (before : List Item) → 0 < n → Every (Finds block) (found_from at from (standing n before u)) → NoNode block at (standing n before u)

abbrev pub LineOn : ItemTree → Type 0
LineOn u = (block : Tree) (at from n : ℕ) (before : List Item) → 0 < n → Every (Finds block) (found_from at from (standing n before u)) → LineNode block at (standing n before u)

abbrev pub AllNo : List Part → Type 0
AllNo [] = Unit {0}
AllNo (loose k o b ∷ ps) = IsText k × AllNo ps
AllNo (node u ∷ ps) = NoOn u × AllNo ps

abbrev pub AllLed : Bool → List Part → Type 0
AllLed s [] = Unit {0}
AllLed s (loose k o b ∷ ps) = IsText k × AllLed (b == 10) ps
AllLed s (node u ∷ ps) = (NoOn u × AllLed false ps) ⊎ ((s ≡ true) × LineOn u × AllLed true ps)

pub no_both : (ps qs : List Part) → AllNo ps → AllNo qs → AllNo (ps ++ qs)
no_both [] qs h k = k
no_both (loose j o b ∷ ps) qs h k = (h.0, no_both ps qs h.1 k)
no_both (node u ∷ ps) qs h k = (h.0, no_both ps qs h.1 k)

pub no_split : (ps qs : List Part) → AllNo (ps ++ qs) → AllNo ps × AllNo qs
no_split [] qs h = (tt, h)
no_split (loose j o b ∷ ps) qs h = let r = no_split ps qs h.1 in ((h.0, r.0), r.1)
no_split (node u ∷ ps) qs h = let r = no_split ps qs h.1 in ((h.0, r.0), r.1)

pub no_led : (s : Bool) (ps : List Part) → AllNo ps → AllLed s ps
no_led s [] h = tt
no_led s (loose k o b ∷ ps) h = (h.0, no_led (b == 10) ps h.1)
no_led s (node u ∷ ps) h = inl (h.0, no_led false ps h.1)

pub led_left : (s : Bool) (ps qs : List Part) → AllLed s (ps ++ qs) → AllLed s ps
led_left s [] qs h = tt
led_left s (loose k o b ∷ ps) qs h = (h.0, led_left (b == 10) ps qs h.1)
led_left s (node u ∷ ps) qs (inl h) = inl (h.0, led_left false ps qs h.1)
led_left s (node u ∷ ps) qs (inr h) = inr (h.0, h.1, led_left true ps qs h.2)

-- behind what is led anything may be in which no line of comments is
pub led_then : (s : Bool) (ps qs : List Part) → AllLed s ps → AllNo qs → AllLed s (ps ++ qs)
led_then s [] qs h k = no_led s qs k
led_then s (loose j o b ∷ ps) qs h k = (h.0, led_then (b == 10) ps qs h.1 k)
led_then s (node u ∷ ps) qs (inl h) k = inl (h.0, led_then false ps qs h.1 k)
led_then s (node u ∷ ps) qs (inr h) k = inr (h.0, h.1, led_then true ps qs h.2 k)

-- a line ends, and another begins
pub led_lines : (s : Bool) (ps qs : List Part) → AllLed s ps → AllLed true qs → AllLed s (ps ++ (loose Text None 10 ∷ qs))
led_lines s [] qs h k = (tt, k)
led_lines s (loose j o b ∷ ps) qs h k = (h.0, led_lines (b == 10) ps qs h.1 k)
led_lines s (node u ∷ ps) qs (inl h) k = inl (h.0, led_lines false ps qs h.1 k)
led_lines s (node u ∷ ps) qs (inr h) k = inr (h.0, h.1, led_lines true ps qs h.2 k)

-- ---- the trees of parts

run_sources : (k : Loose) (o : Option ℕ) (b : ℕ) (r others : List Part) → IsRun one_leaf (loose k o b ∷ r) others
    → sources (held_parts (loose k o b ∷ r)) ≡ flat_map shown_item (held_parts (loose k o b ∷ r))
run_sources k o b [] others run = refl
run_sources k o b (loose j i c ∷ r) others run = ap (λ (bs : List ℕ). b ∷ bs) (run_sources j i c r others run.1)
run_sources k o b (node x ∷ r) others run = absurd (let no = run.0 in cc)

past_led : (s : Bool) (k : Loose) (o : Option ℕ) (b : ℕ) (r others : List Part) → IsRun one_leaf (loose k o b ∷ r) others
    → AllLed s (loose k o b ∷ (r ++ others)) → AllLed (settled (flat_map shown_item (held_parts (loose k o b ∷ r))) s) others
past_led s k o b [] others run h = h.1
past_led s k o b (loose j i c ∷ r) others run h = past_led (b == 10) j i c r others run.1 h.1
past_led s k o b (node x ∷ r) others run h = absurd (let no = run.0 in cc)

past_no : (k : Loose) (o : Option ℕ) (b : ℕ) (r others : List Part) → IsRun one_leaf (loose k o b ∷ r) others → AllNo (r ++ others) → AllNo others
past_no k o b [] others run h = h
past_no k o b (loose j i c ∷ r) others run h = past_no j i c r others run.1 h.1
past_no k o b (node x ∷ r) others run h = absurd (let no = run.0 in cc)

leaf_led : (k : Loose) (own : List Item) (block : Tree) (at : ℕ) (s : Bool) (n : ℕ) (before : List Item) (us : Trees) → IsText k
    → sources own ≡ flat_map shown_item own → 0 < length (flat_map shown_item own)
    → AreOwnLed block (at + length (flat (standing n before (loose_leaf k own)))) (settled (flat_map shown_item own) s) us
    → AreOwnLed block at s (more (standing n before (loose_leaf k own)) us)
unfolding label_at
leaf_led Text own block at s n before us i e some h = (standing_source n before (loose_leaf Text own) ∙ leaf_source Text own ∙ e, some, h)
leaf_led Sep own block at s n before us i e some h = absurd i

leaf_no : (k : Loose) (own : List Item) (block : Tree) (at n : ℕ) (before : List Item) → IsText k → NoLineIn block at (standing n before (loose_leaf k own))
unfolding label_at
leaf_no Text own block at n before i = tt
leaf_no Sep own block at n before i = absurd i

node_led : (u : ItemTree) (block : Tree) (at from n : ℕ) (before : List Item) (s : Bool) (us : Trees) (ps : List Part) → 0 < n
    → Every (Finds block) (found_from at from (standing n before u)) → AllLed s (node u ∷ ps)
    → ((v : Bool) → AllLed v ps → AreOwnLed block (at + length (flat (standing n before u))) v us)
    → AreOwnLed block at s (more (standing n before u) us)
node_led u block at from n before s us ps some e (inl h) g =
    no_first us us block (standing n before u) at s (h.0 block at from n before some e) (g false h.1)
node_led u block at from n before s us ps some e (inr h) g =
    line_first us block (standing n before u) at s (h.1 block at from n before some e) h.0 (g true h.2)

runs_led : (rs : List (List Part)) (ps : List Part) (s : Bool) (block : Tree) (at from n : ℕ) (before : List Item) → 0 < n → AreRuns one_leaf rs ps → AllLed s ps
    → Every (Finds block) (found_in at from (nodes_of n before (forest (map child rs))))
    → AreOwnLed block at s (nodes_of n before (forest (map child rs)))
runs_led [] ps s block at from n before some a h e = tt
runs_led ([] ∷ rs) ps s block at from n before some a h e = absurd a.2
runs_led ((loose k o b ∷ r) ∷ rs) ps s block at from n before some a h e =
    let run : List Part = loose k o b ∷ r in
    let u : ItemTree = child run in
    let t : Tree = standing n before u in
    let m : ℕ = n + count (placed before u) in
    let us : Trees = nodes_of m (before ++ tree_items u) (forest (map child rs)) in
    let own : AllLed s (loose k o b ∷ (r ++ a.0)) = subst (AllLed s) a.1 h in
    leaf_led k (held_parts run) block at s n before us own.0 (run_sources k o b r a.0 a.2) (omega arith)
    (runs_led rs a.0 (settled (flat_map shown_item (held_parts run)) s) block (at + length (flat t)) (from + length (visible (items t))) m (before ++ tree_items u)
    (omega (arith, some)) a.3 (past_led s k o b r a.0 a.2 own) (every_right (Finds block) (found_from at from t) _ e))
runs_led ((node u ∷ []) ∷ rs) ps s block at from n before some a h e =
    let t : Tree = standing n before u in
    let m : ℕ = n + count (placed before u) in
    let us : Trees = nodes_of m (before ++ tree_items u) (forest (map child rs)) in
    let own : AllLed s (node u ∷ a.0) = subst (AllLed s) a.1 h in
    node_led u block at from n before s us a.0 some (every_left (Finds block) (found_from at from t) _ e) own
    (λ v q. runs_led rs a.0 v block (at + length (flat t)) (from + length (visible (items t))) m (before ++ tree_items u) (omega (arith, some)) a.3 q
    (every_right (Finds block) (found_from at from t) _ e))
runs_led ((node u ∷ p ∷ r) ∷ rs) ps s block at from n before some a h e = absurd (let no = a.2.0 in cc)

pub children_led : (ps : List Part) (s : Bool) (block : Tree) (at from n : ℕ) (before : List Item) → 0 < n → AllLed s ps
    → Every (Finds block) (found_in at from (nodes_of n before (forest (children ps))))
    → AreOwnLed block at s (nodes_of n before (forest (children ps)))
unfolding children
children_led ps s block at from n before some h e = runs_led (runs one_leaf ps) ps s block at from n before some (runs_are one_leaf ps) h e

runs_no : (rs : List (List Part)) (ps : List Part) (block : Tree) (at from n : ℕ) (before : List Item) → 0 < n → AreRuns one_leaf rs ps → AllNo ps
    → Every (Finds block) (found_in at from (nodes_of n before (forest (map child rs))))
    → NoLines block at (nodes_of n before (forest (map child rs)))
runs_no [] ps block at from n before some a h e = tt
runs_no ([] ∷ rs) ps block at from n before some a h e = absurd a.2
runs_no ((loose k o b ∷ r) ∷ rs) ps block at from n before some a h e =
    let run : List Part = loose k o b ∷ r in
    let u : ItemTree = child run in
    let t : Tree = standing n before u in
    let own : AllNo (loose k o b ∷ (r ++ a.0)) = subst AllNo a.1 h in (
      leaf_no k (held_parts run) block at n before own.0,
      runs_no rs a.0 block (at + length (flat t)) (from + length (visible (items t))) (n + count (placed before u)) (before ++ tree_items u) (omega (arith, some)) a.3
          (past_no k o b r a.0 a.2 own.1) (every_right (Finds block) (found_from at from t) _ e),
    )
runs_no ((node u ∷ []) ∷ rs) ps block at from n before some a h e =
    let t : Tree = standing n before u in
    let own : AllNo (node u ∷ a.0) = subst AllNo a.1 h in
    let first = own.0 block at from n before some (every_left (Finds block) (found_from at from t) _ e) in (
      first.none,
      runs_no rs a.0 block (at + length (flat t)) (from + length (visible (items t))) (n + count (placed before u)) (before ++ tree_items u) (omega (arith, some)) a.3
          own.1 (every_right (Finds block) (found_from at from t) _ e),
    )
runs_no ((node u ∷ p ∷ r) ∷ rs) ps block at from n before some a h e = absurd (let no = a.2.0 in cc)

children_no : (ps : List Part) (block : Tree) (at from n : ℕ) (before : List Item) → 0 < n → AllNo ps
    → Every (Finds block) (found_in at from (nodes_of n before (forest (children ps))))
    → NoLines block at (nodes_of n before (forest (children ps)))
unfolding children
children_no ps block at from n before some h e = runs_no (runs one_leaf ps) ps block at from n before some (runs_are one_leaf ps) h e

-- ---- a style

style_is : (kind : Bool) (block : Tree) (at n : ℕ) (before opening closing : List Item) (ps : List Part)
    → NoLines block (at + length (label (standing n before (style_round kind opening ps closing))).opening) (nodes_of (n + 1) (before ++ opening) (forest (children ps)))
    → NoNode block at (standing n before (style_round kind opening ps closing))
unfolding label_at
style_is true block at n before opening closing ps h = record { form = tt; none = h }
style_is false block at n before opening closing ps h = record { form = tt; none = h }

pub style_no : (kind : Bool) (opening closing : List Item) (ps : List Part) → AllNo ps → NoOn (style_round kind opening ps closing)
style_no kind opening closing ps h = λ block at from n before some e.
    let t : Tree = standing n before (style_round kind opening ps closing) in
    let m : ℕ = length (label t).opening in
    let found : Every (Finds block) (found_in (at + m) (from + m) (nodes_of (n + 1) (before ++ opening) (forest (children ps)))) =
    subst (λ (us : Trees). Every (Finds block) (found_in (at + m) (from + m) us)) (style_children kind n before opening closing ps)
    (found_inside (Finds block) at from t (style_holds kind n before opening closing ps) e) in
    style_is kind block at n before opening closing ps
    (children_no ps block (at + m) (from + m) (n + 1) (before ++ opening) (omega arith) h found)

-- ---- a node that is no style

thing_form : (f : InlineForm) (block : Tree) (at : ℕ) (l : Label) (ts : Trees) (inside : Type 0) → IsThingForm f → FoundAt block at (tree l ts)
    → is_line (tree l ts) ≡ false → IsNodeForm f × NoLineBy f block at l ts inside
thing_form inline.Nothing block at l ts inside f h e = absurd f
thing_form inline.Characters block at l ts inside f h e = absurd f
thing_form inline.Bold block at l ts inside f h e = absurd f
thing_form inline.Italic block at l ts inside f h e = absurd f
thing_form inline.Shown block at l ts inside f h e = (tt, (h, e))
thing_form inline.PageLink block at l ts inside f h e = (tt, (h, e))
thing_form inline.ExternalLink block at l ts inside f h e = (tt, (h, e))
thing_form inline.Tag block at l ts inside f h e = (tt, (h, e))
thing_form inline.Break block at l ts inside f h e = (tt, (h, e))
thing_form inline.AsItStood block at l ts inside f h e = (tt, (h, e))

tree_no : (block t : Tree) (at : ℕ) → IsThingForm (edit_shape (label t).kind).inline → FoundAt block at t → is_line t ≡ false → NoNode block at t
tree_no block (tree l ts) at f h e =
    let r = thing_form (edit_shape l.kind).inline block at l ts (NoLines block (at + length l.opening) ts) f h e in record { form = r.0; none = r.1 }

pub thing_no : (u : ItemTree) (r : Role) → IsThing u r → ends_break (tree_source u) ≡ false → NoOn u
thing_no u r i h = λ block at from n before some e.
    let t : Tree = standing n before u in
    let source : ends_break (flat t) ≡ false = ap ends_break (standing_source n before u) ∙ h in
    tree_no block t at (stands_form n before u r i) (from, finds_own block at from t (node_number n before u r some i) e)
    (line_source (edit_shape (label t).kind).sort t source)

pub line_on : (u : ItemTree) (r : Role) → IsThing u r
    → ((n : ℕ) (before : List Item) → is_line (standing n before u) ≡ true) → LineOn u
line_on u r i h = λ block at from n before some e.
    let t : Tree = standing n before u in
    record { form = stands_form n before u r i; found = (from, finds_own block at from t (node_number n before u r some i) e); line = h n before }

-- ---- segments

abbrev pub EachNo : List Segment → Type 0
EachNo [] = Unit {0}
EachNo (u ∷ us) = AllNo u.parts × EachNo us

abbrev pub IsLinePart : List Part → Type 0
IsLinePart ps = (v : ItemTree) × (ps ≡ node v ∷ []) × LineOn v

-- lines of comments are only at the start, where a line begins there, and none of them is an apostrophe
abbrev pub SegmentsLed : Bool → List Segment → Type 0
SegmentsLed s [] = Unit {0}
SegmentsLed s (u ∷ us) = (AllNo u.parts × SegmentsLed false us) ⊎ ((s ≡ true) × (u.quote ≡ false) × IsLinePart u.parts × SegmentsLed true us)

pub each_no : (us : List Segment) → AllNo (segment_parts us) → EachNo us
each_no [] h = tt
each_no (u ∷ us) h = let r = no_split u.parts (segment_parts us) h in (r.0, each_no us r.1)

parts_no : (us : List Segment) → EachNo us → AllNo (segment_parts us)
parts_no [] h = tt
parts_no (u ∷ us) h = no_both u.parts (segment_parts us) h.0 (parts_no us h.1)

take_no : (n : ℕ) (us : List Segment) → EachNo us → EachNo (take n us)
take_no zero [] h = tt
take_no zero (u ∷ us) h = tt
take_no (suc n) [] h = tt
take_no (suc n) (u ∷ us) h = (h.0, take_no n us h.1)

drop_no : (n : ℕ) (us : List Segment) → EachNo us → EachNo (drop n us)
drop_no zero [] h = tt
drop_no zero (u ∷ us) h = h
drop_no (suc n) [] h = tt
drop_no (suc n) (u ∷ us) h = drop_no n us h.1

further_no : (low n : ℕ) (us : List Segment) → low ≤ n → EachNo (drop low us) → EachNo (drop n us)
further_no zero n [] le h = drop_no n [] tt
further_no zero n (u ∷ us) le h = drop_no n (u ∷ us) h
further_no (suc low) zero us le h = absurd (omega (arith, le))
further_no (suc low) (suc n) [] le h = tt
further_no (suc low) (suc n) (u ∷ us) le h = further_no low n us (omega (arith, le)) h

pub free_segments : (s : Bool) (us : List Segment) → SegmentsLed false us → SegmentsLed s us
free_segments s [] h = tt
free_segments s (u ∷ us) (inl h) = inl h
free_segments s (u ∷ us) (inr h) = absurd (let no = h.0 in cc)

free_no : (us : List Segment) → SegmentsLed false us → EachNo us
free_no [] h = tt
free_no (u ∷ us) (inl h) = (h.0, free_no us h.1)
free_no (u ∷ us) (inr h) = absurd (let no = h.0 in cc)

pub segments_then : (xs ys : List Segment) (s : Bool) → EachNo xs → SegmentsLed false ys → SegmentsLed s (xs ++ ys)
segments_then [] ys s h k = free_segments s ys k
segments_then (x ∷ xs) ys s h k = inl (h.0, segments_then xs ys false h.1 k)

-- behind an apostrophe there is none
behind_quote : (us : List Segment) (s : Bool) (p m : ℕ) → SegmentsLed s us → quote_at us p ≡ true → p < m → EachNo (drop m us)
behind_quote [] s p m h q lt = drop_no m [] tt
behind_quote (u ∷ us) s p zero h q lt = absurd (omega (arith, lt))
behind_quote (u ∷ us) s p (suc m) (inl h) q lt = drop_no m us (free_no us h.1)
behind_quote (u ∷ us) s zero (suc m) (inr h) q lt = absurd (let no = sym h.1 ∙ q in cc)
behind_quote (u ∷ us) s (suc p) (suc m) (inr h) q lt = behind_quote us true p m h.3 q (omega (arith, lt))

line_then : (ps qs : List Part) (s : Bool) → IsLinePart ps → s ≡ true → AllLed true qs → AllLed s (ps ++ qs)
line_then ps qs s h e k = subst (λ (rs : List Part). AllLed s (rs ++ qs)) (sym h.1) (inr (e, h.2, k))

no_then : (ps qs : List Part) (s : Bool) → AllNo ps → AllNo qs → AllLed s (ps ++ qs)
no_then ps qs s h k = no_led s (ps ++ qs) (no_both ps qs h k)

pub parts_led : (s : Bool) (us : List Segment) → SegmentsLed s us → AllLed s (segment_parts us)
parts_led s [] h = tt
parts_led s (u ∷ us) (inl h) = no_then u.parts (segment_parts us) s h.0 (parts_no us (free_no us h.1))
parts_led s (u ∷ us) (inr h) = line_then u.parts (segment_parts us) s h.2 h.0 (parts_led true us h.3)

-- ---- with styles round them

between_no : (low high : ℕ) (us : List Segment) → EachNo (drop low us) → AllNo (segment_parts (between low high us))
between_no low high us h = parts_no (between low high us) (take_no (high - low) (drop low us) h)

styled_no : (low high : ℕ) (f : Forest) (us : List Segment) → Fill low high f → EachNo (drop low us) → AllNo (styled low high f us)
styled_no low high bare us f h = between_no low high us h
styled_no low high (grown s held after) us f h =
    let mid : ℕ = s.from + s.open_w in
    let end : ℕ = s.to - s.close_w in
    let within = fill_le mid end held f.1 in
    let low_from = f.0 in
    let close = f.2 in
    no_both (segment_parts (between low s.from us)) (node (style_node s (styled mid end held us) us) ∷ styled s.to high after us) (between_no low s.from us h) (
      style_no s.bold (segment_items (between s.from mid us)) (segment_items (between end s.to us)) (styled mid end held us)
          (styled_no mid end held us f.1 (further_no low mid us (omega (arith, low_from)) h)),
      styled_no s.to high after us f.3 (further_no low s.to us (omega (arith, low_from, within, close)) h),
    )

pub styled_led : (low high : ℕ) (f : Forest) (us : List Segment) (s v : Bool) → EachIn (IsBehindQuote us) f → Fill low high f → SegmentsLed v us
    → AllLed s (segment_parts (between low high us)) → AllLed s (styled low high f us)
styled_led low high bare us s v b f g h = h
styled_led low high (grown x held after) us s v b f g h =
    let mid : ℕ = x.from + x.open_w in
    let end : ℕ = x.to - x.close_w in
    let within = fill_le mid end held f.1 in
    let past = fill_le x.to high after f.3 in
    let close = f.2 in
    let front = b.0.1 in
    let inner : EachNo (drop mid us) = behind_quote us v b.0.0 mid g b.0.2 front in
    let behind : EachNo (drop x.to us) = behind_quote us v b.0.0 x.to g b.0.2 (omega (arith, front, within, close)) in
    let cut : segment_parts (between low high us) ≡ segment_parts (between low x.from us) ++ segment_parts (between x.from high us) =
    parts_cut low x.from high us f.0 (omega (arith, within, past, close)) in
    led_then s (segment_parts (between low x.from us)) (node (style_node x (styled mid end held us) us) ∷ styled x.to high after us)
    (led_left s (segment_parts (between low x.from us)) (segment_parts (between x.from high us)) (subst (AllLed s) cut h)) (
      style_no x.bold (segment_items (between x.from mid us)) (segment_items (between end x.to us)) (styled mid end held us) (styled_no mid end held us f.1 inner),
      styled_no x.to high after us f.3 behind,
    )
