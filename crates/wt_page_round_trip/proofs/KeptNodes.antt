-- Clean nodes: what stands on the page for their delimiters is the source of these, so a clean node that is shown is drawn as it
-- is; and which nodes are clean whatever stands beside them.
use Rattle.std.proofs.Common.{◌≡◌, ℕ, suc, ◌<◌, ◌⊎◌, Bool, true, false, Option, Some, None, List, [], ◌∷◌, ◌++◌, refl, sym, ap, ap₂, ◌∙◌, cond, arith, inl, inr}
use Rattle.std.specs.Prelude.{◌&&◌, ◌||◌, not}
use Rattle.std.specs.List.{list_all, list_any}
use Rattle.std.proofs.lemmas.Bool.{and_parts}
use Rattle.wt_tree.specs.declared.kind.Kind.{Kind}
use Rattle.wt_tree.specs.declared.kind.Kind.TheVariants as kind
use Rattle.wt_tree.specs.declared.kind.Mark.TheVariants as marks
use Rattle.wt_tree.specs.declared.kind.Ranges.{Ranges}
use Rattle.wt_tree.specs.declared.row.Writing.{Writing}
use Rattle.wt_tree.specs.declared.row.Writing.TheVariants.{AsText, AsVoid, RoundCharacter, RoundChildren, AsSection, Unwritten}
use Rattle.wt_tree.specs.Elements.{span}
use Rattle.wt_tree.specs.Kinds.{is_leaf, may_hold}
use Rattle.wt_tree.specs.Tree.{Label}
use Rattle.wt_schema.specs.Rows.{holds_text}
use Rattle.wt_span.specs.Items.{Item, call_of, source, sources}
use Rattle.wt_span.specs.Cuts.{text_by}
use Rattle.wt_span.specs.Origins.{OuterCall}
use Rattle.wt_schema.specs.Written.{IsTextIn, HasSource}
use Rattle.wt_inline.specs.ItemTree.{Head, ItemTree, inner, ItemTrees, tree_items, held_by_all}
use Rattle.wt_annotated.specs.Clean.{is_no_call, is_page, is_body, own_by}
use Rattle.wt_annotated.specs.Labels.{if_leaf, if_inner}
use Rattle.wt_annotated.specs.Seams.{last_of, first_of, parted, text_step, text_from}
use Rattle.wt_annotated.specs.Walked.{free_places, clean_at}
use Rattle.wt_annotated.proofs.Calls.{all_split}
use Rattle.wt_annotated.proofs.PlainTrees.{all_joined}
use Rattle.wt_page_round_trip.proofs.DrawnTrees.{NodeIsDrawn}
use Rattle.wt_page_round_trip.proofs.ShownNodes.{IsShownLabel, NodeIsShown}

-- ---- items of the page itself

no_call : (o : Option ℕ) → (c : Option ℕ) → c ≡ None → parted o c ≡ true
no_call None c e = refl
no_call (Some k) c e = ap (parted (Some k)) e

no_call_before : (o c : Option ℕ) → o ≡ None → parted o c ≡ true
no_call_before o c e = ap (λ x. parted x c) e

page_call : (x : Item) → is_page x ≡ true → call_of x ≡ None
page_call x e = by_call (call_of x) e
  where
    by_call : (c : Option ℕ) → is_no_call c ≡ true → c ≡ None
    by_call None f = refl
    by_call (Some k) f = absurd cc

step_page : (calls : List OuterCall) (o : Option ℕ) (x : Item) → is_page x ≡ true → text_step calls o x ≡ source x
step_page calls o x e =
    let n : call_of x ≡ None = page_call x e in
    ap (λ v. cond v (text_by calls (call_of x) (source x)) []) (no_call o (call_of x) n) ∙ ap (λ c. text_by calls c (source x)) n

pub text_page : (calls : List OuterCall) (o : Option ℕ) (xs : List Item) → list_all is_page xs ≡ true → text_from calls o xs ≡ sources xs
text_page calls o [] e = refl
text_page calls o (x ∷ xs) e =
    let q = and_parts (is_page x) (list_all is_page xs) e in
    ap₂ (λ bs cs. bs ++ cs) (step_page calls o x q.0) (text_page calls (call_of x) xs q.1)

-- ---- nodes that hold items of the page alone are clean

abbrev has_some : List Item → Bool
has_some [] = false
has_some (x ∷ xs) = true

any_some : (xs : List Item) → list_any is_page xs ≡ true → has_some xs ≡ true
any_some [] e = absurd cc
any_some (x ∷ xs) e = refl

pub first_page : (xs : List Item) (p : Option ℕ) → list_all is_page xs ≡ true → has_some xs ≡ true → first_of xs p ≡ None
first_page [] p e s = absurd cc
first_page (x ∷ xs) p e s = page_call x (and_parts (is_page x) (list_all is_page xs) e).0

last_none : (xs : List Item) → list_all is_page xs ≡ true → last_of None xs ≡ None
last_none [] e = refl
last_none (x ∷ xs) e =
    let q = and_parts (is_page x) (list_all is_page xs) e in
    ap (λ c. last_of c xs) (page_call x q.0) ∙ last_none xs q.1

last_page : (o : Option ℕ) (xs : List Item) → list_all is_page xs ≡ true → has_some xs ≡ true → last_of o xs ≡ None
last_page o [] e s = absurd cc
last_page o (x ∷ xs) e s =
    let q = and_parts (is_page x) (list_all is_page xs) e in
    ap (λ c. last_of c xs) (page_call x q.0) ∙ last_none xs q.1

-- one of the two sides of a cut in such items is the page's
cut_free : (o p : Option ℕ) (xs ys : List Item) → list_all is_page xs ≡ true → list_all is_page ys ≡ true → has_some (xs ++ ys) ≡ true
    → parted (last_of o xs) (first_of ys p) ≡ true
cut_free o p [] ys e f s = no_call o (first_of ys p) (first_page ys p f s)
cut_free o p (x ∷ xs) ys e f s = no_call_before (last_of o (x ∷ xs)) (first_of ys p) (last_page o (x ∷ xs) e refl)

first_joined : (xs ys : List Item) (p : Option ℕ) → first_of xs (first_of ys p) ≡ first_of (xs ++ ys) p
first_joined [] ys p = refl
first_joined (x ∷ xs) ys p = refl

last_joined : (o : Option ℕ) (xs ys : List Item) → last_of (last_of o xs) ys ≡ last_of o (xs ++ ys)
last_joined o [] ys = refl
last_joined o (x ∷ xs) ys = last_joined (call_of x) xs ys

joined_again : (xs ys zs : List Item) → (xs ++ ys) ++ zs ≡ xs ++ (ys ++ zs)
joined_again [] ys zs = refl
joined_again (x ∷ xs) ys zs = ap (λ ws. x ∷ ws) (joined_again xs ys zs)

own_all : (leaf : Bool) (xs ys zs : List Item) → list_all is_page (xs ++ (ys ++ zs)) ≡ true → list_all is_page (own_by leaf xs ys zs) ≡ true
own_all true xs ys zs e = e
own_all false xs ys zs e =
    let p = all_split xs (ys ++ zs) e in
    let q = all_split ys zs p.1 in
    all_joined xs zs p.0 q.1

or_second : (a b : Bool) → b ≡ true → (a || b) ≡ true
or_second true b e = refl
or_second false b e = e

pub own_clean : (o p : Option ℕ) (t : ItemTree) → list_all is_page (tree_items t) ≡ true → list_any is_page (tree_items t) ≡ true → clean_at o p t ≡ true
own_clean o p (inner h xs ts zs) e s =
    let ys : List Item = held_by_all ts in
    let a = all_split xs (ys ++ zs) e in
    let b = all_split ys zs a.1 in
    let some : has_some (xs ++ (ys ++ zs)) ≡ true = any_some (xs ++ (ys ++ zs)) s in
    let one : parted o (first_of xs (first_of ys (first_of zs p))) ≡ true =
    ap (λ c. parted o (first_of xs c)) (first_joined ys zs p) ∙ ap (parted o) (first_joined xs (ys ++ zs) p)
    ∙ cut_free o p [] (xs ++ (ys ++ zs)) refl e some in
    let two : parted (last_of o xs) (first_of ys (first_of zs p)) ≡ true =
    ap (parted (last_of o xs)) (first_joined ys zs p) ∙ cut_free o p xs (ys ++ zs) a.0 a.1 some in
    let three : parted (last_of (last_of o xs) ys) (first_of zs p) ≡ true =
    ap (λ c. parted c (first_of zs p)) (last_joined o xs ys)
    ∙ cut_free o p (xs ++ ys) zs (all_joined xs ys a.0 b.0) b.1 (ap has_some (joined_again xs ys zs) ∙ some) in
    let four : parted (last_of (last_of (last_of o xs) ys) zs) p ≡ true =
    ap (λ c. parted (last_of c zs) p) (last_joined o xs ys) ∙ ap (λ c. parted c p) (last_joined o (xs ++ ys) zs)
    ∙ ap (λ c. parted (last_of o c) p) (joined_again xs ys zs)
    ∙ no_call_before (last_of o (xs ++ (ys ++ zs))) p (last_page o (xs ++ (ys ++ zs)) e some) in
    all_true _ _ _ _ _ _ one two three four (own_all (is_leaf h.kind) xs ys zs e) (or_second (is_body h.kind) (list_any is_page (xs ++ (ys ++ zs))) s)
  where
    all_true : (a b c d v w : Bool) → a ≡ true → b ≡ true → c ≡ true → d ≡ true → v ≡ true → w ≡ true
        → ((a && (b && (c && d))) && (v && w)) ≡ true
    all_true a b c d v w f g h i j k = rw (f, g, h, i, j, k) refl

-- the cut before it is free, too
pub own_free : (o p : Option ℕ) (t : ItemTree) → list_all is_page (tree_items t) ≡ true → list_any is_page (tree_items t) ≡ true
    → parted o (first_of (tree_items t) p) ≡ true
own_free o p t e s = no_call o (first_of (tree_items t) p) (first_page (tree_items t) p e (any_some (tree_items t) s))

-- the items of a clean node's own
pub clean_own : (o p : Option ℕ) (h : Head) (opening : List Item) (ts : ItemTrees) (closing : List Item) → clean_at o p (inner h opening ts closing) ≡ true
    → list_all is_page (own_by (is_leaf h.kind) opening (held_by_all ts) closing) ≡ true
clean_own o p h opening ts closing e =
    let q = and_parts (free_places o opening (held_by_all ts) closing p) (list_all is_page (own_by (is_leaf h.kind) opening (held_by_all ts) closing)
    && (is_body h.kind || list_any is_page (opening ++ (held_by_all ts ++ closing)))) e in
    (and_parts (list_all is_page (own_by (is_leaf h.kind) opening (held_by_all ts) closing))
    (is_body h.kind || list_any is_page (opening ++ (held_by_all ts ++ closing))) q.1).0

-- ---- the sources of a clean node

pub leaf_source : (leaf : Bool) (calls : List OuterCall) (o : Option ℕ) (xs ys zs : List Item) → list_all is_page (own_by leaf xs ys zs) ≡ true
    → if_leaf leaf (sources (xs ++ (ys ++ zs))) ≡ if_leaf leaf (text_from calls o (xs ++ (ys ++ zs)))
leaf_source true calls o xs ys zs e = sym (text_page calls o (xs ++ (ys ++ zs)) e)
leaf_source false calls o xs ys zs e = refl

pub opening_source : (leaf : Bool) (calls : List OuterCall) (o : Option ℕ) (xs ys zs : List Item) → list_all is_page (own_by leaf xs ys zs) ≡ true
    → if_inner leaf (sources xs) ≡ if_inner leaf (text_from calls o xs)
opening_source true calls o xs ys zs e = refl
opening_source false calls o xs ys zs e = sym (text_page calls o xs (all_split xs zs e).0)

pub closing_source : (leaf : Bool) (calls : List OuterCall) (o : Option ℕ) (xs ys zs : List Item) → list_all is_page (own_by leaf xs ys zs) ≡ true
    → if_inner leaf (sources zs) ≡ if_inner leaf (text_from calls o zs)
closing_source true calls o xs ys zs e = refl
closing_source false calls o xs ys zs e = sym (text_page calls o zs (all_split xs zs e).1)

-- ---- its label, with a place or without

abbrev pub label_of : Head → Option Ranges → List ℕ → List ℕ → List ℕ → Label
label_of h r opening closing own = record {
  kind = h.kind;
  id = 0;
  ranges = r;
  opening = opening;
  closing = closing;
  own = own;
  shown = h.shown;
  attrs = h.attrs;
  origin = None;
  mark = marks.Nothing;
  mw = h.mw;
}

source_placed : (v : Bool) (h : Head) (r : Option Ranges) (a b c : List ℕ) → HasSource v (label_of h None a b c) → HasSource v (label_of h r a b c)
source_placed true h r a b c s = record { own = s.own; opening = s.opening; closing = s.closing }
source_placed false h r a b c s = record { own = s.own; opening = s.opening; closing = s.closing }

element_placed : (h : Head) (r : Option Ranges) (a b c : List ℕ) → IsShownLabel (label_of h None a b c) → IsShownLabel (label_of h r a b c)
element_placed h r a b c l = record {
  element = l.element;
  level = l.level;
  source = source_placed (is_leaf h.kind) h r a b c l.source;
  shown = l.shown;
  attrs = l.attrs;
  origin = refl;
  mark = refl;
  mw = l.mw;
}

text_placed : (q : Kind) (h : Head) (r : Option Ranges) (a b c : List ℕ) → IsTextIn q (label_of h None a b c) → IsTextIn q (label_of h r a b c)
text_placed q h r a b c l = record {
  kind = l.kind;
  characters = l.characters;
  some = l.some;
  stands = l.stands;
  shown = l.shown;
  id = refl;
  opening = l.opening;
  closing = l.closing;
  attrs = l.attrs;
  origin = refl;
  mark = refl;
  mw = l.mw;
}

-- ---- the node

leaf_placed : (leaf c d : Bool) → (c ≡ true → d ≡ true) → (not leaf || c) ≡ true → (not leaf || d) ≡ true
leaf_placed true c d f h = f h
leaf_placed false c d f h = refl

-- one element less is round it than it was shown within
pub kept_drawn : (w : Writing) (k : ℕ) (q : Kind) (h : Head) (r : Option Ranges) (a b c : List ℕ) (old_childless new_childless : Bool) (old new : Type 0)
    → (h.kind ≡ kind.Empty → ⊥) → (old_childless ≡ true → new_childless ≡ true) → (suc k < 200 → old → new)
    → NodeIsShown w (suc k) q (label_of h None a b c) old_childless old → NodeIsDrawn w k q (label_of h r a b c) new_childless new
kept_drawn AsText k q h r a b c x y old new e f g n = (text_placed q h r a b c n.0, f n.1)
kept_drawn AsVoid k q h r a b c x y old new e f g n =
    (omega (arith, n.0), n.1, element_placed h r a b c n.2, leaf_placed (is_leaf h.kind) x y f n.3, g n.0 n.4)
kept_drawn RoundCharacter k q h r a b c x y old new e f g n =
    (omega (arith, n.0), n.1, element_placed h r a b c n.2, leaf_placed (is_leaf h.kind) x y f n.3, g n.0 n.4)
kept_drawn RoundChildren k q h r a b c x y old new e f g n =
    (omega (arith, n.0), n.1, element_placed h r a b c n.2, leaf_placed (is_leaf h.kind) x y f n.3, g n.0 n.4)
kept_drawn (AsSection s) k q h r a b c x y old new e f g n = absurd n
kept_drawn Unwritten k q h r a b c x y old new e f g n = absurd (e n.0)

-- ---- which nodes may hold a `span`

pub span_held : (k : Kind) → (k ≡ kind.Nowiki) ⊎ (is_leaf k ≡ false → holds_text k ≡ true → may_hold k span.kind ≡ true)
span_held kind.Nowiki = inl refl
span_held kind.Body = inr (λ e f. absurd cc)
span_held (kind.Section n) = inr (λ e f. absurd cc)
span_held kind.Rule = inr (λ e f. absurd cc)
span_held kind.Ul = inr (λ e f. absurd cc)
span_held kind.Ol = inr (λ e f. absurd cc)
span_held kind.Dl = inr (λ e f. absurd cc)
span_held kind.Table = inr (λ e f. absurd cc)
span_held kind.Tbody = inr (λ e f. absurd cc)
span_held kind.Tr = inr (λ e f. absurd cc)
span_held kind.Category = inr (λ e f. absurd cc)
span_held kind.Br = inr (λ e f. absurd cc)
span_held kind.Entity = inr (λ e f. absurd cc)
span_held kind.Island = inr (λ e f. absurd cc)
span_held kind.Switch = inr (λ e f. absurd cc)
span_held kind.Comment = inr (λ e f. absurd cc)
span_held kind.Include = inr (λ e f. absurd cc)
span_held kind.Skip = inr (λ e f. absurd cc)
span_held kind.Sep = inr (λ e f. absurd cc)
span_held kind.Text = inr (λ e f. absurd cc)
span_held kind.Group = inr (λ e f. absurd cc)
span_held kind.Empty = inr (λ e f. absurd cc)
span_held k = inr (λ e f. refl)
